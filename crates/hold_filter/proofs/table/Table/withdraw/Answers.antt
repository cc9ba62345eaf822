use Rattle.hold_filter.proofs.Common.{refl, true, ap, ◌∙◌, Irp, books_of}
use Rattle.hold_filter.proofs.Queued.{withdrawn_none, may_end, pushed_marked, withdrawn}
use Rattle.hold_filter.proofs.table.Table.withdraw.Goals as goal

pub returns-in_default-clause-withdraws : goal.returns-in_default-clause-withdraws
returns-in_default-clause-withdraws c =
    withdrawn_none (books_of c.args.self.now) _ c.args.self.now.held c.remove_number.new.self c.args.spot
    c.args.number
    refl refl c.in_default.ensures refl

pub push_back_at-requires-clause-inside : goal.push_back_at-requires-clause-inside
push_back_at-requires-clause-inside c =
    (may_end (books_of c.args.self.now) c.args.self.now.held c.remove_number.new.self c.args.spot c.args.number
    c.in-Some.held c.in-Some.ensures c.requires.may_end).covered

pub push_back_at-requires-clause-vacant : goal.push_back_at-requires-clause-vacant
push_back_at-requires-clause-vacant c =
    (may_end (books_of c.args.self.now) c.args.self.now.held c.remove_number.new.self c.args.spot c.args.number
    c.in-Some.held c.in-Some.ensures c.requires.may_end).vacant

pub returns-clause-withdraws : goal.returns-clause-withdraws
returns-clause-withdraws c = withdrawn (books_of c.args.self.now) _ c.args.self.now.held c.remove_number.new.self
    c.args.self.now.ended c.push_back_at.new.self c.args.spot c.args.number c.in-Some.held refl refl refl
    c.in-Some.ensures (pushed_marked _ _ _ c.in-Some.held _
    (c.mark_cancelled.ensures ∙ ap (λ (i : Irp). record i { cancelled = true }) c.deref_mut.ensures.value)
    c.push_back_at.ensures) refl
