use Rattle.std.proofs.Common.{◌≡◌, map, take, drop}
use Rattle.std.specs.List.{AllZip}
use Rattle.toml.specs.View.{view}
use Rattle.settings.specs.Settings.{GivesPartition}
use Rattle.ntstatus.specs.First.{first_some}
use Rattle.settings.specs.Faults.{partition_fault}
use Rattle.settings.proofs.table.partitions_of.Given as goal

-- the partitions so far are those of the tables so far, and a fault is in the rest
abbrev pub invariant-loop-item : goal.invariant-loop-item
invariant-loop-item l = record {
  value : AllZip GivesPartition (map view (take l.item-index l.items)) l.partitions.items;
  rest : first_some (map (λ item. partition_fault (view item)) l.items) ≡ first_some (map (λ item. partition_fault (view item)) (drop l.item-index l.items));
}
