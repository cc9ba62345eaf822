-- What was gathered, with the labels told.
use Rattle.io_manager.proofs.Common.{◌∙◌, refl, ap, subst, map, ◌++◌, DeviceView, as_answer, EndsIf}
use Rattle.io_manager.proofs.Gathering.{collects, removal_of, told_sound}
use Rattle.io_manager.proofs.parts.Parts.collect.Goals as goal

pub returns-clause-collects : goal.returns-clause-collects
returns-clause-collects g c =
    collects _ _ _ _ _ _ _ c.take_all_ended.ensures.gathers c.tell_labels.ensures.taken refl c.end_removal.ensures c.take_all_ended.ensures.settled c.take_all_ended.ensures.sound.held
    (c.tell_answers.ensures.labels_place.0 ∙ c.tell_labels.ensures.places.0, c.tell_answers.ensures.labels_place.1 ∙ c.tell_labels.ensures.places.1, c.tell_answers.ensures.labels_place.2 ∙ c.tell_labels.ensures.places.2) c.tell_answers.ensures.answered_place
    (c.tell_answers.ensures.told ∙ ap (λ ls. ls ++ map as_answer c.take_all_ended.new.self.tables.answered.items) c.tell_labels.ensures.moved)

ended : (g : _) (c : goal.After-end_removal g) → EndsIf c.end_removal.ensures.ends c.take_all_ended.new.self.tables.state (g.D.Shown.view c.take_all_ended.new.self.device).state c.end_removal.new.self.state
ended g c =
    subst (λ s. EndsIf c.end_removal.ensures.ends c.take_all_ended.new.self.tables.state s c.end_removal.new.self.state) (ap (λ (v : DeviceView). v.state) c.tell_labels.ensures.taken)
    (removal_of (g.D.Shown.view c.take_all_ended.new.self.device) (g.D.Shown.view c.tell_labels.new.device) c.take_all_ended.new.self.tables _ c.end_removal.new.self c.tell_labels.ensures.taken refl c.end_removal.ensures c.take_all_ended.ensures.sound.held)

pub returns-clause-sound : goal.returns-clause-sound
returns-clause-sound g c =
    told_sound c.take_all_ended.new.self.limits (g.D.Shown.view c.take_all_ended.new.self.device) (g.D.Shown.view c.tell_labels.new.device) c.take_all_ended.new.self.tables _ c.end_removal.new.self
    c.tell_labels.ensures.taken c.take_all_ended.ensures.sound refl c.tell_answers.ensures.none_left c.end_removal.ensures (ended g c)
    (c.tell_answers.ensures.labels_place.0 ∙ c.tell_labels.ensures.places.0, c.tell_answers.ensures.labels_place.1 ∙ c.tell_labels.ensures.places.1, c.tell_answers.ensures.labels_place.2 ∙ c.tell_labels.ensures.places.2) c.tell_answers.ensures.answered_place
