use Rattle.std.proofs.Common.{refl}
use Rattle.io_manager.proofs.Labelled.{labels_sound}
use Rattle.io_manager.proofs.parts.Parts.tell_device.Goals as goal

pub returns-clause-takes : goal.returns-clause-takes
returns-clause-takes g c = record {
  taken = c.tell_labels.ensures.taken;
  tells = c.tell_labels.ensures.moved;
  label_places = c.tell_labels.ensures.places;
  after = refl;
}

pub returns-clause-sound : goal.returns-clause-sound
returns-clause-sound g c = labels_sound _ _ _ _ (record {
  taken = c.tell_labels.ensures.taken;
  tells = c.tell_labels.ensures.moved;
  label_places = c.tell_labels.ensures.places;
  after = refl;
}) c.args.self.now.limits c.requires.sound
