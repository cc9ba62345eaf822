use Rattle.host.proofs.Common.{ℕ, List, sym, subst, IsReady}
use Rattle.host.proofs.Opening.{is_ready}
use Rattle.host.proofs.opened.Opened.new.Goals as goal

pub invariant_of-result : goal.invariant_of-result
invariant_of-result c =
    let partitions : List ℕ = c.args.partitions.now in
    let resources = c.in_ok-resources in
    let are = resources.ensures.resources in
    subst (λ (ps : List ℕ). IsReady ps c.make_resources.new.stack resources.resources.handles.items c.args.sizes c.args.slots c.new-2.result.parts c.new-3.result.parts resources.resources.marks resources.resources.owner resources.resources.seats.items resources.resources.gate resources.resources.passes.items) (sym are.kept)
    (is_ready partitions c.args.stack c.make_resources.new.stack resources.resources.handles.items c.args.sizes c.args.slots c.new-2.result.parts c.new-3.result.parts resources.resources.marks resources.resources.owner resources.resources.seats.items resources.resources.gate resources.resources.passes.items
    resources.ensures.few c.requires.new resources.ensures.opened (resources.ensures.apart c.requires.apart) c.requires.sizes.0 c.requires.sizes.1 c.requires.slots c.new-2.ensures c.new-3.ensures are.slots_is are.owner_is are.count_seats are.are_seats are.count_passes are.are_passes)
