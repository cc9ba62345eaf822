use Rattle.std.proofs.Common.{subst}
use Rattle.std.specs.Prelude.{IfSome}
use Rattle.register_loss_search.specs.Searching.{Sees}
use Rattle.register_loss_judge.specs.inside.States.{forms}
use Rattle.register_loss_judge.proofs.Judging.{empty_of, some_of}
use Rattle.register_loss_judge.proofs.observed.goes.Goals as goal

pub returns-then-is_empty : goal.returns-then-is_empty
returns-then-is_empty c = (
  subst (λ xs. Sees (forms xs) c.args.sight.now (forms c.in-Some.next.items)) c.as_slice.ensures.value
      (subst (λ o. IfSome o (λ new. Sees (forms c.as_slice.result.now) c.args.sight.now (forms new.items))) c.in-Some.is c.in_ok-next.ensures),
  empty_of c.in-Some.next.items c.in-Some.next.len c.is_empty-is_empty.result c.in-Some.next.ok.0 c.is_empty-is_empty.ensures c.if-is_empty.true,
)

pub returns : goal.returns
returns c = (
  subst (λ xs. Sees (forms xs) c.args.sight.now (forms c.in-Some.next.items)) c.as_slice.ensures.value
      (subst (λ o. IfSome o (λ new. Sees (forms c.as_slice.result.now) c.args.sight.now (forms new.items))) c.in-Some.is c.in_ok-next.ensures),
  some_of c.in-Some.next.items c.in-Some.next.len c.is_empty-is_empty.result c.in-Some.next.ok.0 c.is_empty-is_empty.ensures c.if-is_empty.false,
)
