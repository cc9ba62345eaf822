use Rattle.host.proofs.Common.{ManagerView, TracedView, ◌≡◌, ◌<◌, ◌+◌, ap, sym, ◌∙◌, Some, length, subst, Rules, StackSizes, IsOpening, Names}
use Rattle.io_manager.specs.Right.{pnp_state}
use Rattle.host.proofs.Opening.{marks_are, started_first}
use Rattle.host.proofs.host.Host.new.Goals as goal

pub new-table-requires-clause-named : goal.new-table-requires-clause-named
new-table-requires-clause-named g c =
    let named = c.opened.view_is ∙ c.requires.named in
    marks_are c.opened.inside.marks g.N.TraceNaming.marks g.N.TraceNaming.slots (ap (λ (v : Names). v.marks) named) (c.opened.invariant.slots_is ∙ ap (λ (v : Names). v.slots) named)

pub new-table-requires-clause-slots : goal.new-table-requires-clause-slots
new-table-requires-clause-slots g c =
    let named = c.opened.view_is ∙ c.requires.named in
    ap (λ (v : Names). v.rules.open_requests) (sym named) ∙ c.opened.invariant.as_many ∙ ap (λ (v : Names). Some v.slots) named

pub new-table-requires-clause-bytes : goal.new-table-requires-clause-bytes
new-table-requires-clause-bytes g c =
    let named = c.opened.view_is ∙ c.requires.named in
    let kept = c.opened.invariant in
    subst (λ (r : Rules). 0 < r.sector_size) (ap (λ (v : Names). v.rules) named) (subst (λ (z : StackSizes). 0 < z.sector_size) kept.same_sizes kept.are_sizes.some_bytes)

pub new-table-requires-clause-opening : goal.new-table-requires-clause-opening
new-table-requires-clause-opening g c = subst IsOpening (ap (λ (v : Names). v.opening) (c.opened.view_is ∙ c.requires.named)) c.opened.invariant.opens

pub new-table-requires-clause-parts : goal.new-table-requires-clause-parts
new-table-requires-clause-parts g c =
    let named = c.opened.view_is ∙ c.requires.named in
    ap (λ (v : Names). v.parts) (sym named) ∙ c.opened.invariant.parts_is ∙ ap (λ (v : Names). length v.partitions + 1) named

pub new-host_gate-requires : goal.new-host_gate-requires
new-host_gate-requires g c = record { named = ap (λ (v : Names). v.gate) (c.opened.view_is ∙ c.requires.named) }

pub new-kept-requires-clause-started : goal.new-kept-requires-clause-started
new-kept-requires-clause-started g c =
    ap (λ (v : TracedView). pnp_state v.stack.state) c.in_ok-book.ensures.book.0
    ∙ ap (λ (v : ManagerView). pnp_state v.state) c.in_ok-traced.ensures.0
    ∙ started_first c.opened.inside.stack.state c.opened.invariant.opens
