use Rattle.io_manager.proofs.Common.{IsRightReset, view_of, ManagerKept}
use Rattle.io_manager.proofs.Vacant.{vacant_still, vacant_told}
use Rattle.io_manager.proofs.AdapterSteps.{reset_kept, reset_sound}
use Rattle.io_manager.proofs.manager.IoManager.reset.Goals as goal

pub tell_device-requires-clause-sound : goal.tell_device-requires-clause-sound
tell_device-requires-clause-sound g c =
    reset_sound c.self.inside.parts.limits (g.D.Shown.view c.self.inside.parts.device) c.self.inside.parts.tables (g.D.Shown.view c.reset.new.self) c.self.invariant.kept.sound c.reset.ensures.resets

kept : (g : _) → (c : goal.After-tell_device g)
    → IsRightReset c.args.self.now (view_of c.tell_device.new.self.limits (g.D.Shown.view c.tell_device.new.self.device) c.tell_device.new.self.tables)
    × ManagerKept c.tell_device.new.self.limits (g.D.Shown.view c.tell_device.new.self.device) c.tell_device.new.self.tables
kept g c =
    reset_kept c.self.inside.parts.limits (g.D.Shown.view c.self.inside.parts.device) c.self.inside.parts.tables c.args.self.now c.self.invariant.kept c.self.view_is c.requires.taken
    (g.D.Shown.view c.reset.new.self) c.reset.ensures.resets c.tell_device.new.self.limits (g.D.Shown.view c.tell_device.new.self.device) c.tell_device.new.self.tables
    c.tell_device.ensures.limits c.tell_device.ensures.sound c.tell_device.ensures.takes

pub invariant_of-self : goal.invariant_of-self
invariant_of-self g c = record {
  takes_buffers = c.self.invariant.takes_buffers;
  locations = c.self.invariant.locations;
  vacant =
      vacant_told (g.D.Shown.view c.reset.new.self) _ (g.D.Shown.view c.tell_device.new.self.device) _ c.tell_device.ensures.takes
      (vacant_still (g.D.Shown.view c.self.inside.parts.device) (g.D.Shown.view c.reset.new.self) c.reset.ensures.resets.moves.same_rooms c.self.invariant.vacant);
  kept = (kept g c).1;
}

pub returns : goal.returns
returns g c = record { right = (kept g c).0 }
