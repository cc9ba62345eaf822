use Rattle.std.proofs.Common.{◌≡◌, [], get_or, ap, sym, subst}
use Rattle.disk.specs.SparseDisk.{shown}
use Rattle.miniport.specs.Memory.{MemView}
use Rattle.miniport.specs.Planned.{PlannedView}
use Rattle.mbr.specs.Faults.{said_of, told_by}
use Rattle.settings.specs.Medium.{IsNewAdapter, entries_of}
use Rattle.settings.proofs.NewDisk.{adapter_told, blank, new_adapter}
use Rattle.settings.proofs.UsedPartitions.{all_listed}
use Rattle.settings.proofs.medium.new_adapter.Goals as goal

pub keeping-kept-requires-clause-kept : goal.keeping-kept-requires-clause-kept
keeping-kept-requires-clause-kept c = ap (λ (v : MemView). v.shown.keeps_bytes) c.in_ok-adapter.ensures

pub keeping-kept-requires-clause-quiet : goal.keeping-kept-requires-clause-quiet
keeping-kept-requires-clause-quiet c = ap (λ (v : MemView). v.shown.labels) c.in_ok-adapter.ensures

pub returns-clause-new : goal.returns-clause-new
returns-clause-new c =
    subst (λ (v : PlannedView). IsNewAdapter c.args.config v.inner) (sym c.new-planned.ensures)
    (new_adapter c.args.config (shown c.in_ok-disk.disk) c.args.keeps_bytes c.in_ok-adapter.adapter c.keeping-kept.result c.requires c.in_ok-disk.ensures.new
    (c.in_ok-adapter.ensures, c.keeping-kept.ensures))

pub returns-clause-keeps : goal.returns-clause-keeps
returns-clause-keeps c =
    subst (λ (v : PlannedView). v.inner.shown.keeps_bytes ≡ c.args.keeps_bytes) (sym c.new-planned.ensures)
    (ap (λ (v : MemView). v.shown.keeps_bytes) c.keeping-kept.ensures)

pub returns-clause-says : goal.returns-clause-says
returns-clause-says c =
    subst (λ (v : PlannedView). told_by c.args.config.sectors (get_or v.inner.shown.sectors 0 []) ≡ said_of c.args.config.sectors (entries_of c.args.config)) (sym c.new-planned.ensures)
    (adapter_told c.args.config (shown c.in_ok-disk.disk) c.args.keeps_bytes c.in_ok-adapter.adapter c.keeping-kept.result c.in_ok-disk.ensures.says
    (c.in_ok-adapter.ensures, c.keeping-kept.ensures))

pub returns-clause-extents : goal.returns-clause-extents
returns-clause-extents c = all_listed c.args.config.partitions.items c.requires.partitions

pub returns-clause-blank : goal.returns-clause-blank
returns-clause-blank c = blank c.args.config c.new-planned.result.inner.shown.sectors (returns-clause-new c).sectors

pub returns-in_err-rules-clause-extents : goal.returns-in_err-rules-clause-extents
returns-in_err-rules-clause-extents c = all_listed c.args.config.partitions.items c.requires.partitions

pub returns-in_err-disk-clause-extents : goal.returns-in_err-disk-clause-extents
returns-in_err-disk-clause-extents c = all_listed c.args.config.partitions.items c.requires.partitions

pub returns-in_err-adapter-clause-extents : goal.returns-in_err-adapter-clause-extents
returns-in_err-adapter-clause-extents c = all_listed c.args.config.partitions.items c.requires.partitions
