use Rattle.std.proofs.Common.{length, ap, ◌∙◌}
use Rattle.disk.specs.SparseDisk.{shown}
use Rattle.settings.proofs.NewDisk.{blank, count_of_disk, new_disk, says}
use Rattle.settings.proofs.UsedPartitions.{all_listed}
use Rattle.settings.proofs.medium.new_disk.Goals as goal

pub returns-clause-new : goal.returns-clause-new
returns-clause-new c =
    new_disk c.args.config (shown c.in_ok-disk.disk) _ c.requires c.in_ok-disk.ensures.starts c.has_whole_sectors.ensures c.in_ok-disk.ensures.bad
    (c.as_slice.ensures.value ∙ c.in_ok-first.ensures.bytes) (ap length c.as_slice.ensures.value ∙ c.in_ok-first.ensures.whole)

pub returns-clause-says : goal.returns-clause-says
returns-clause-says c =
    says c.args.config (shown c.in_ok-disk.disk) c.in_ok-first.first.items (returns-clause-new c) c.in_ok-first.ensures.bytes c.in_ok-first.ensures.says

pub returns-clause-count : goal.returns-clause-count
returns-clause-count c = ap length (returns-clause-new c).sectors ∙ count_of_disk c.args.config c.requires.sectors.0

pub returns-clause-extents : goal.returns-clause-extents
returns-clause-extents c = all_listed c.args.config.partitions.items c.requires.partitions

pub returns-in_err-first-clause-extents : goal.returns-in_err-first-clause-extents
returns-in_err-first-clause-extents c = all_listed c.args.config.partitions.items c.requires.partitions

pub returns-in_err-disk-clause-extents : goal.returns-in_err-disk-clause-extents
returns-in_err-disk-clause-extents c = all_listed c.args.config.partitions.items c.requires.partitions

pub returns-clause-blank : goal.returns-clause-blank
returns-clause-blank c = blank c.args.config (shown c.in_ok-disk.disk).sectors (returns-clause-new c).sectors
