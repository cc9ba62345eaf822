use Rattle.std.proofs.Common.{subst}
use Rattle.std.specs.Prelude.{IfSome}
use Rattle.register_loss_search.specs.Searching.{Sees}
use Rattle.register_loss_judge.specs.inside.States.{forms}
use Rattle.register_loss_judge.proofs.Judging.{begins, complete_next, empty_of, exact_next, passes, refuses, some_of}
use Rattle.register_loss_judge.proofs.judge.Goals as goal

pub loop-index-init : goal.loop-index-init
loop-index-init c = begins c.args.start.now c.push.new.self.items c.new-states.result.items c.in_ok-opening.field-0 c.in_ok-push.ensures.items c.new-states.ensures.items c.in_ok-opening.ensures

pub returns-then-is_empty : goal.returns-then-is_empty
returns-then-is_empty c = record {
  right = refuses c.args.start.now (forms c.in-Some.next.items) c.args.sights.now c.loop-index.index c.loop-index-test.true
      (complete_next c.args.start.now (forms c.loop-index.states.items) (forms c.in-Some.next.items) c.args.sights.now c.loop-index.index c.index-sights-index.result c.loop-index-test.true c.loop-index.invariant.0
      (subst (λ sight. Sees (forms c.loop-index.states.items) sight (forms c.in-Some.next.items)) c.index-sights-index.is
      (subst (λ xs. Sees (forms xs) c.index-sights-index.result (forms c.in-Some.next.items)) c.as_slice.ensures.value
      (subst (λ o. IfSome o (λ new. Sees (forms c.as_slice.result.now) c.index-sights-index.result (forms new.items))) c.in-Some.is c.in_ok-next.ensures))))
      (empty_of c.in-Some.next.items c.in-Some.next.len c.is_empty.result c.in-Some.next.ok.0 c.is_empty.ensures c.if-is_empty.true);
}

pub loop-index-preserved : goal.loop-index-preserved
loop-index-preserved c = (
  exact_next c.args.start.now (forms c.loop-index.states.items) (forms c.in-Some.next.items) c.args.sights.now c.loop-index.index c.index-sights-index.result c.loop-index-test.true c.loop-index.invariant.0
      (subst (λ sight. Sees (forms c.loop-index.states.items) sight (forms c.in-Some.next.items)) c.index-sights-index.is
      (subst (λ xs. Sees (forms xs) c.index-sights-index.result (forms c.in-Some.next.items)) c.as_slice.ensures.value
      (subst (λ o. IfSome o (λ new. Sees (forms c.as_slice.result.now) c.index-sights-index.result (forms new.items))) c.in-Some.is c.in_ok-next.ensures))),
  some_of c.in-Some.next.items c.in-Some.next.len c.is_empty.result c.in-Some.next.ok.0 c.is_empty.ensures c.if-is_empty.false,
)

pub returns : goal.returns
returns c = record { right = passes c.args.start.now (forms c.loop-index.states.items) c.args.sights.now c.loop-index.index c.loop-index-test.false c.loop-index.invariant.0 c.loop-index.invariant.1 }
