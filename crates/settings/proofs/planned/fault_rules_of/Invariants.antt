use Rattle.std.proofs.Common.{◌≡◌, map, take, drop}
use Rattle.std.specs.List.{AllZip}
use Rattle.toml.specs.View.{view}
use Rattle.settings.specs.Settings.{GivesRule}
use Rattle.ntstatus.specs.First.{first_some}
use Rattle.settings.specs.Faults.{rule_fault}
use Rattle.settings.proofs.planned.fault_rules_of.Given as goal

-- the rules so far are those of the tables so far, and a fault is in the rest
abbrev pub invariant-loop-item : goal.invariant-loop-item
invariant-loop-item l = record {
  value : AllZip GivesRule (map view (take l.item-index l.items)) l.found.items;
  rest : first_some (map (λ item. rule_fault (view item)) l.items) ≡ first_some (map (λ item. rule_fault (view item)) (drop l.item-index l.items));
}
