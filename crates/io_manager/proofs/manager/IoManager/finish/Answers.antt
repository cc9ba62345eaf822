use Rattle.io_manager.proofs.Common.{◌∷◌, subst, MatchBool, Return, DeviceView, Finishes, FinishesNot, IsRight, FinishReplies, view_of, ManagerKept}
use Rattle.io_manager.specs.declared.Reply.TheVariants.{Ok as OkReply}
use Rattle.io_manager.proofs.Vacant.{vacant_through}
use Rattle.io_manager.proofs.Righting.{IsSound-moves}
use Rattle.io_manager.proofs.AdapterSteps.{finish_kept, finish_ignored}
use Rattle.io_manager.proofs.manager.IoManager.finish.Goals as goal

pub returns-then-not-finish : goal.returns-then-not-finish
returns-then-not-finish g c =
    let below : DeviceView = g.D.Shown.view c.self.inside.parts.device in
    let below' : DeviceView = g.D.Shown.view c.finish.new.self in
    let none : FinishesNot below c.args.tag below' = subst (λ b. MatchBool b (Finishes below c.args.tag below') (FinishesNot below c.args.tag below')) c.if-not-finish.true c.finish.ensures.finishes in
    record { right = finish_ignored c.self.inside.parts.limits below c.self.inside.parts.tables c.args.self.now c.self.invariant.kept c.self.view_is c.requires.taken c.args.tag below' none }

pub collect-requires-clause-sound : goal.collect-requires-clause-sound
collect-requires-clause-sound g c =
    let below : DeviceView = g.D.Shown.view c.self.inside.parts.device in
    let below' : DeviceView = g.D.Shown.view c.finish.new.self in
    let finishes : Finishes below c.args.tag below' = subst (λ b. MatchBool b (Finishes below c.args.tag below') (FinishesNot below c.args.tag below')) c.if-not-finish.false c.finish.ensures.finishes in
    IsSound-moves c.self.inside.parts.limits below c.self.inside.parts.tables (Return finishes.piece.number finishes.class ∷ finishes.starts) below' c.self.invariant.kept.sound finishes.moves

kept : (g : _) → (c : goal.After-collect g)
    → IsRight (FinishReplies c.args.self.now c.args.tag OkReply (view_of c.collect.new.self.limits (g.D.Shown.view c.collect.new.self.device) c.collect.new.self.tables)) c.args.self.now
    (view_of c.collect.new.self.limits (g.D.Shown.view c.collect.new.self.device) c.collect.new.self.tables)
    × ManagerKept c.collect.new.self.limits (g.D.Shown.view c.collect.new.self.device) c.collect.new.self.tables
kept g c =
    let below : DeviceView = g.D.Shown.view c.self.inside.parts.device in
    let below' : DeviceView = g.D.Shown.view c.finish.new.self in
    let finishes : Finishes below c.args.tag below' = subst (λ b. MatchBool b (Finishes below c.args.tag below') (FinishesNot below c.args.tag below')) c.if-not-finish.false c.finish.ensures.finishes in
    finish_kept c.self.inside.parts.limits below c.self.inside.parts.tables c.args.self.now c.self.invariant.kept c.self.view_is c.requires.taken
    c.args.tag below' c.collect.new.self.limits (g.D.Shown.view c.collect.new.self.device) c.collect.new.self.tables finishes c.collect.ensures.limits c.collect.ensures.sound c.collect.ensures.collects

pub invariant_of-self-2 : goal.invariant_of-self-2
invariant_of-self-2 g c =
    let below : DeviceView = g.D.Shown.view c.self.inside.parts.device in
    let below' : DeviceView = g.D.Shown.view c.finish.new.self in
    let finishes : Finishes below c.args.tag below' = subst (λ b. MatchBool b (Finishes below c.args.tag below') (FinishesNot below c.args.tag below')) c.if-not-finish.false c.finish.ensures.finishes in
    record {
      takes_buffers = c.self.invariant.takes_buffers;
      locations = c.self.invariant.locations;
      vacant = vacant_through below below' (g.D.Shown.view c.collect.new.self.device) finishes.moves.same_rooms c.collect.ensures.collects.same_rooms c.self.invariant.vacant;
      kept = (kept g c).1;
    }

pub returns : goal.returns
returns g c = record { right = (kept g c).0 }
