use Rattle.hold_filter.proofs.Common.{ap, ◌∙◌, Irp, with_cancel_routine, books_of}
use Rattle.hold_filter.proofs.Releasing.{none_may, releases_none, releases_same, none_left, kept_none, step_may}
use Rattle.hold_filter.proofs.Releasing.{step_window, step_does}
use Rattle.hold_filter.proofs.Staying.{spares_same, spares_none}
use Rattle.hold_filter.proofs.parts.Parts.release_one.Goals as goal

pub returns-then-not-has_room-clause-releases : goal.returns-then-not-has_room-clause-releases
returns-then-not-has_room-clause-releases g c = releases_none _

pub returns-then-not-has_room-clause-spares : goal.returns-then-not-has_room-clause-spares
returns-then-not-has_room-clause-spares g c = spares_same _ _

pub returns-then-not-has_room-clause-goes : goal.returns-then-not-has_room-clause-goes
returns-then-not-has_room-clause-goes g c =
    none_may _ _ _ c.requires.kept c.has_room.result c.has_room.ensures c.if-not-has_room.true

pub returns-in_default-clause-kept : goal.returns-in_default-clause-kept
returns-in_default-clause-kept g c = kept_none _ _ _ _ c.in_default.ensures c.requires.kept

pub returns-in_default-clause-releases : goal.returns-in_default-clause-releases
returns-in_default-clause-releases g c = releases_same (g.D.Shown.view c.args.self.now.device)
    (books_of c.args.self.now.table) (books_of c.let_go.new.self) c.in_default.ensures

pub returns-in_default-clause-spares : goal.returns-in_default-clause-spares
returns-in_default-clause-spares g c = spares_none (g.D.Shown.view c.args.self.now.device)
    (books_of c.args.self.now.table) (books_of c.let_go.new.self) c.in_default.ensures

pub returns-in_default-clause-goes : goal.returns-in_default-clause-goes
returns-in_default-clause-goes g c = none_left (g.D.Shown.view c.args.self.now.device)
    (books_of c.args.self.now.table)
    (books_of c.let_go.new.self) c.in_default.ensures

pub send-requires-clause-may_send : goal.send-requires-clause-may_send
send-requires-clause-may_send g c = step_may _ _ _ c.in-Some.field-0 _ _ _ c.requires.kept c.has_room.ensures
    c.if-not-has_room.false c.in-Some.ensures
    (c.give_back.ensures
    ∙ ap (λ (i : Irp). with_cancel_routine c.in-Some.field-0.routine i) c.deref_mut.ensures.value)

pub send-requires-clause-window : goal.send-requires-clause-window
send-requires-clause-window g c = step_window _ _ _ c.in-Some.field-0 _ _ _ c.requires.kept c.has_room.ensures
    c.if-not-has_room.false c.in-Some.ensures
    (c.give_back.ensures
    ∙ ap (λ (i : Irp). with_cancel_routine c.in-Some.field-0.routine i) c.deref_mut.ensures.value)

pub returns-clause-kept : goal.returns-clause-kept
returns-clause-kept g c =
    (step_does _ _ _ c.in-Some.field-0 _ _ _ c.requires.kept c.has_room.ensures c.if-not-has_room.false
    c.in-Some.ensures (c.give_back.ensures
    ∙ ap (λ (i : Irp). with_cancel_routine c.in-Some.field-0.routine i) c.deref_mut.ensures.value) _ _
    c.send.ensures.sends c.send.ensures.order c.send.ensures.table).kept

pub returns-clause-releases : goal.returns-clause-releases
returns-clause-releases g c =
    (step_does _ _ _ c.in-Some.field-0 _ _ _ c.requires.kept c.has_room.ensures c.if-not-has_room.false
    c.in-Some.ensures (c.give_back.ensures
    ∙ ap (λ (i : Irp). with_cancel_routine c.in-Some.field-0.routine i) c.deref_mut.ensures.value) _ _
    c.send.ensures.sends c.send.ensures.order c.send.ensures.table).releases

pub returns-clause-spares : goal.returns-clause-spares
returns-clause-spares g c =
    (step_does _ _ _ c.in-Some.field-0 _ _ _ c.requires.kept c.has_room.ensures c.if-not-has_room.false
    c.in-Some.ensures (c.give_back.ensures
    ∙ ap (λ (i : Irp). with_cancel_routine c.in-Some.field-0.routine i) c.deref_mut.ensures.value) _ _
    c.send.ensures.sends c.send.ensures.order c.send.ensures.table).spares

pub returns-clause-goes : goal.returns-clause-goes
returns-clause-goes g c =
    (step_does _ _ _ c.in-Some.field-0 _ _ _ c.requires.kept c.has_room.ensures c.if-not-has_room.false
    c.in-Some.ensures (c.give_back.ensures
    ∙ ap (λ (i : Irp). with_cancel_routine c.in-Some.field-0.routine i) c.deref_mut.ensures.value) _ _
    c.send.ensures.sends c.send.ensures.order c.send.ensures.table).fewer
