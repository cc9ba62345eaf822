use Rattle.std.proofs.Common.{zero, refl, All, Contains, sym, ◌∙◌, ap, subst, arith}
use Rattle.class_disk.proofs.Common.{All-nil, Contains-cons, Contains-entries, CannotCancel}
use Rattle.class_disk.proofs.Cancelling.{open_entries, opens_are, one_more, found_open}
use Rattle.class_disk.proofs.table.Table.find.Goals as goal

pub loop-key-init : goal.loop-key-init
loop-key-init c =
    let left = c.into_iter-key-iterator.ensures.into_iter_gives ∙ c.iter-key-items.ensures.rest in (
      tt,
      tt,
      λ key x there. (Contains-entries c.args.self.now.slots key x).0 (subst (λ xs. Contains xs (key, x)) left there),
      λ all. subst (All (CannotCancel c.args.number)) (ap open_entries left ∙ opens_are 0 c.args.self.now.slots.slots) all,
    )

pub returns-then-is_open_under-clause-found : goal.returns-then-is_open_under-clause-found
returns-then-is_open_under-clause-found c =
    let at = c.in-Some.ensures.steps in
    let there : Contains c.loop-key.key-iterator (c.in-Some.key, c.in-Some.slot.now) = rw at (zero, omega arith, refl) in
    found_open c.args.self.now.slots.slots c.in-Some.key c.args.number c.in-Some.slot.now (c.loop-key.invariant.2 c.in-Some.key c.in-Some.slot.now there) (sym c.is_open_under.ensures ∙ c.if-is_open_under.true)

pub loop-key-preserved : goal.loop-key-preserved
loop-key-preserved c =
    let at = c.in-Some.ensures.steps in (
      tt,
      tt,
      λ key x there. c.loop-key.invariant.2 key x (rw at (Contains-cons _ _ _ there)),
      λ all. c.loop-key.invariant.3 (subst (λ xs. All (CannotCancel c.args.number) (open_entries xs)) (sym at) (one_more c.args.number c.in-Some.key c.in-Some.slot.now c.next.new.self (sym c.is_open_under.ensures ∙ c.if-is_open_under.false) all)),
    )

pub returns-clause-none : goal.returns-clause-none
returns-clause-none c = c.loop-key.invariant.3 (subst (λ xs. All (CannotCancel c.args.number) (open_entries xs)) (sym c.in-None.ensures.steps.0) (All-nil (CannotCancel c.args.number)))
