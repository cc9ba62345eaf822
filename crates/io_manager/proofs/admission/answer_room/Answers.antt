use Rattle.std.proofs.Common.{◌≡◌, inl, inr, length, sym, ap, subst, ◌∙◌}
use Rattle.io_manager.proofs.Common.{IfOk, answer_room_of}
use Rattle.io_manager.proofs.admission.answer_room.Goals as goal

pub returns-in-Read : goal.returns-in-Read
returns-in-Read c =
    subst (λ kind. IfOk c.new.result (λ room. room ≡ answer_room_of kind (length c.args.buffer.now))) (sym c.in-Read.is)
    (subst (λ n. IfOk c.new.result (λ room. room ≡ n)) c.len.ensures c.new.ensures)

pub returns-in-Write : goal.returns-in-Write
returns-in-Write c = elim c.in-Write.is [
  | inl is ↦ c.none.ensures ∙ ap (λ kind. answer_room_of kind (length c.args.buffer.now)) (sym is)
  | inr is ↦ c.none.ensures ∙ ap (λ kind. answer_room_of kind (length c.args.buffer.now)) (sym is)
]
