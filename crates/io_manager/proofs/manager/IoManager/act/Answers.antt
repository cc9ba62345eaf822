use Rattle.io_manager.proofs.Common.{[], ◌∷◌, subst, MatchBool, DeviceView, ActsOrFaults, ActsNot, IsRight, ActReplies, view_of, ManagerKept}
use Rattle.io_manager.specs.declared.Reply.TheVariants.{Ok as OkReply}
use Rattle.io_manager.proofs.Vacant.{vacant_still, vacant_told}
use Rattle.io_manager.proofs.Righting.{IsSound-moves}
use Rattle.io_manager.proofs.AdapterSteps.{act_kept, act_ignored}
use Rattle.io_manager.proofs.manager.IoManager.act.Goals as goal

pub returns-then-not-act : goal.returns-then-not-act
returns-then-not-act g c =
    let below : DeviceView = g.D.Shown.view c.self.inside.parts.device in
    let below' : DeviceView = g.D.Shown.view c.act.new.self in
    let none : ActsNot below c.args.tag below' = subst (λ b. MatchBool b (ActsOrFaults below c.args.tag below') (ActsNot below c.args.tag below')) c.if-not-act.true c.act.ensures.acts in
    record { right = act_ignored c.self.inside.parts.limits below c.self.inside.parts.tables c.args.self.now c.self.invariant.kept c.self.view_is c.requires.taken c.args.tag below' none }

pub tell_device-requires-clause-sound : goal.tell_device-requires-clause-sound
tell_device-requires-clause-sound g c =
    let below : DeviceView = g.D.Shown.view c.self.inside.parts.device in
    let below' : DeviceView = g.D.Shown.view c.act.new.self in
    let acts : ActsOrFaults below c.args.tag below' = subst (λ b. MatchBool b (ActsOrFaults below c.args.tag below') (ActsNot below c.args.tag below')) c.if-not-act.false c.act.ensures.acts in
    IsSound-moves c.self.inside.parts.limits below c.self.inside.parts.tables (acts.label ∷ []) below' c.self.invariant.kept.sound acts.moves

kept : (g : _) → (c : goal.After-tell_device g)
    → IsRight (ActReplies c.args.self.now c.args.tag OkReply (view_of c.tell_device.new.self.limits (g.D.Shown.view c.tell_device.new.self.device) c.tell_device.new.self.tables)) c.args.self.now
    (view_of c.tell_device.new.self.limits (g.D.Shown.view c.tell_device.new.self.device) c.tell_device.new.self.tables)
    × ManagerKept c.tell_device.new.self.limits (g.D.Shown.view c.tell_device.new.self.device) c.tell_device.new.self.tables
kept g c =
    let below : DeviceView = g.D.Shown.view c.self.inside.parts.device in
    let below' : DeviceView = g.D.Shown.view c.act.new.self in
    let acts : ActsOrFaults below c.args.tag below' = subst (λ b. MatchBool b (ActsOrFaults below c.args.tag below') (ActsNot below c.args.tag below')) c.if-not-act.false c.act.ensures.acts in
    act_kept c.self.inside.parts.limits below c.self.inside.parts.tables c.args.self.now c.self.invariant.kept c.self.view_is c.requires.taken
    c.args.tag below' c.tell_device.new.self.limits (g.D.Shown.view c.tell_device.new.self.device) c.tell_device.new.self.tables acts c.tell_device.ensures.limits c.tell_device.ensures.sound c.tell_device.ensures.takes

pub invariant_of-self-2 : goal.invariant_of-self-2
invariant_of-self-2 g c =
    let below : DeviceView = g.D.Shown.view c.self.inside.parts.device in
    let below' : DeviceView = g.D.Shown.view c.act.new.self in
    let acts : ActsOrFaults below c.args.tag below' = subst (λ b. MatchBool b (ActsOrFaults below c.args.tag below') (ActsNot below c.args.tag below')) c.if-not-act.false c.act.ensures.acts in
    record {
      takes_buffers = c.self.invariant.takes_buffers;
      locations = c.self.invariant.locations;
      vacant = vacant_told below' _ (g.D.Shown.view c.tell_device.new.self.device) _ c.tell_device.ensures.takes (vacant_still below below' acts.moves.same_rooms c.self.invariant.vacant);
      kept = (kept g c).1;
    }

pub returns : goal.returns
returns g c = record { right = (kept g c).0 }
