use Rattle.class_disk.proofs.Common.{◌≡◌, ◌-◌, ◌+◌, length, KeepsOwners}
use Rattle.class_disk.proofs.table.Table.cover.Given as goal

abbrev pub invariant-covering : goal.invariant-covering
invariant-covering l = record {
  keeps : KeepsOwners l.initial.self.owners.items l.self.owners.items;
  same : l.self ≡ record l.initial.self { owners = l.self.owners };
}

abbrev pub decreases-covering : goal.decreases-covering
decreases-covering l = l.spot + 1 - length l.self.owners.items
