use Rattle.host.proofs.Common.{◌≡◌, List, [], ◌∷◌, length, ap, ◌∙◌, subst, arith, append_assoc, into_iter_items, TraceEntry, BookView, ClientView, HasReceiptsIn, IsBorneOut}
use Rattle.host.proofs.Collecting.{longer, borne_snoc, total_snoc}
use Rattle.host.proofs.closing.collect.Goals as goal

pub loop-client-preserved : goal.loop-client-preserved
loop-client-preserved g c =
    let at = c.loop-client in
    let x : ClientView = c.in-Some.client in
    let ys : List ClientView = at.yielded in
    let es : List TraceEntry = c.args.book.now.traced.entries in
    let steps : into_iter_items at.client-iterator ≡ x ∷ into_iter_items c.next.new.self = c.in-Some.ensures.steps.0 in
    let is = c.client.view_is in
    let borne : IsBorneOut es x = subst (IsBorneOut es) is (subst (λ (b : BookView). HasReceiptsIn b.traced.entries c.client.inside.account.share.client c.client.inside.account.called.list c.client.inside.account.answered.list) at.invariant.2 c.collect_one.ensures.borne) in (
      append_assoc ys (x ∷ []) _ ∙ rw (← steps) at.invariant.0,
      (let was = at.invariant.1 in
          let gone = c.in-Some.ensures.steps.1 in
          let short = ap length steps in
          omega arith),
      c.collect_one.ensures.same ∙ at.invariant.2,
      omega (arith, c.collect_one.ensures.parts, at.invariant.3, longer ys x),
      omega (arith, c.collect_one.ensures.amount, ap (λ (v : ClientView). length v.called) is, at.invariant.4, total_snoc ys x),
      borne_snoc es ys x at.invariant.5 borne,
    )
