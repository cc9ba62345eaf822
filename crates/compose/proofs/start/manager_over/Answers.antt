use Rattle.compose.proofs.Common.{List, ◌∙◌, ap, refl, subst, Extent, AreFirsts, DeviceView}
use Rattle.compose.proofs.FirstView.{port_fresh, disk_fresh, fresh_partitions, unasked, limits_for, first_view, adapter_is, fresh_after, lacks_memory}
use Rattle.compose.proofs.start.manager_over.Goals as goal

pub new-requires : goal.new-requires
new-requires g c = fresh_after (g.A.Adapter.view c.args.adapter) (g.A.Adapter.view c.prepare.new.adapter) c.requires.unasked c.prepare.ensures.same

pub new-disk-requires-clause-fresh : goal.new-disk-requires-clause-fresh
new-disk-requires-clause-fresh g c =
    port_fresh (g.A.Adapter.view c.prepare.new.adapter) c.in-Ok-new.port.shown c.in-Ok-new.ensures.opening c.in-Ok.ensures.order

pub new-filter-requires-clause-device : goal.new-filter-requires-clause-device
new-filter-requires-clause-device g c =
    disk_fresh (g.A.Adapter.view c.prepare.new.adapter) c.in-Ok-new.port.shown c.new-disk.result c.in-Ok-new.ensures.opening c.new-disk.ensures

pub new-partitions-requires-clause-fresh : goal.new-partitions-requires-clause-fresh
new-partitions-requires-clause-fresh g c =
    fresh_partitions (g.A.Adapter.view c.args.adapter) (g.A.Adapter.view c.prepare.new.adapter) c.args.settings c.in-Ok.ensures.in_range c.in-Ok.probed
    c.in-Ok.ensures.probed c.in-Ok.ensures.same _ _ _ c.in-Ok-new.ensures.opening c.new-disk.ensures c.new-filter.ensures.opening

pub new-requires-2-clause-unasked : goal.new-requires-2-clause-unasked
new-requires-2-clause-unasked g c =
    unasked (g.A.Adapter.view c.args.adapter) (g.A.Adapter.view c.prepare.new.adapter) c.args.settings c.in-Ok.ensures.in_range c.in-Ok.probed
    c.in-Ok.ensures.probed c.in-Ok.ensures.same _ _ _ c.in-Ok-new.ensures.opening c.new-disk.ensures c.new-filter.ensures.opening
    _ c.new-partitions.ensures.opening

pub new-requires-2-clause-limits : goal.new-requires-2-clause-limits
new-requires-2-clause-limits g c =
    limits_for (g.A.Adapter.view c.args.adapter) (g.A.Adapter.view c.prepare.new.adapter) c.args.settings c.in-Ok.ensures.in_range c.in-Ok.probed
    c.in-Ok.ensures.probed c.in-Ok.ensures.same _ _ _ c.in-Ok-new.ensures.opening c.new-disk.ensures c.new-filter.ensures.opening
    _ c.new-partitions.ensures.opening c.in-Ok.ensures.order _ refl c.max_transfer-max_transfer.ensures.exact c.depth-depth.ensures.exact c.keeps_bytes-keeps_bytes.ensures refl
    (subst (λ (xs : List Extent). AreFirsts c.first_sectors_of-first_sectors.result xs) c.as_slice.ensures.value c.first_sectors_of-first_sectors.ensures)

pub returns-in-Ok-new-2-clause-view : goal.returns-in-Ok-new-2-clause-view
returns-in-Ok-new-2-clause-view g c =
    first_view (g.A.Adapter.view c.args.adapter) (g.A.Adapter.view c.prepare.new.adapter) c.args.settings c.in-Ok.ensures.in_range c.in-Ok.probed
    c.in-Ok.ensures.probed c.in-Ok.ensures.same _ _ _ c.in-Ok-new.ensures.opening c.new-disk.ensures c.new-filter.ensures.opening
    _ c.new-partitions.ensures.opening _ refl c.in-Ok.ensures.read _ c.in-Ok-new-2.ensures.view

pub returns-in-Err-new-2-clause-fault : goal.returns-in-Err-new-2-clause-fault
returns-in-Err-new-2-clause-fault g c =
    lacks_memory (g.A.Adapter.view c.args.adapter) (g.A.Adapter.view c.prepare.new.adapter) _ c.args.settings _ c.without_memory-in-Err-new-2.ensures.fault
    (c.without_memory-in-Err-new-2.ensures.same ∙ c.adapter_below.ensures ∙ ap (λ (d : DeviceView). d.adapter) c.in-Err-new-2.ensures.refused
    ∙ adapter_is (g.A.Adapter.view c.args.adapter) (g.A.Adapter.view c.prepare.new.adapter) c.args.settings c.in-Ok.ensures.in_range c.in-Ok.probed c.in-Ok.ensures.probed c.in-Ok.ensures.same
    _ _ _ c.in-Ok-new.ensures.opening c.new-disk.ensures c.new-filter.ensures.opening _ c.new-partitions.ensures.opening)
    c.in-Ok.ensures.in_range c.prepare.ensures.same c.in-Ok.ensures.read

pub returns-in-Err-new-clause-fault : goal.returns-in-Err-new-clause-fault
returns-in-Err-new-clause-fault g c =
    lacks_memory (g.A.Adapter.view c.args.adapter) (g.A.Adapter.view c.prepare.new.adapter) _ c.args.settings _ c.without_memory.ensures.fault
    (c.without_memory.ensures.same ∙ c.in-Err-new.ensures.refused) c.in-Ok.ensures.in_range c.prepare.ensures.same c.in-Ok.ensures.read
