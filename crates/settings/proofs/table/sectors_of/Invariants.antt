use Rattle.std.proofs.Common.{◌≡◌, ◌<◌, ◌-◌, All, map, take, drop}
use Rattle.std.specs.List.{list_all}
use Rattle.toml.specs.View.{view}
use Rattle.settings.specs.Settings.{whole}
use Rattle.settings.specs.Faults.{is_from, is_number}
use Rattle.settings.proofs.table.sectors_of.Given as goal

-- the sectors so far are the numbers so far, each in the disk; all are right just where the rest are
abbrev pub invariant-loop-item : goal.invariant-loop-item
invariant-loop-item l = record {
  value : map view (take l.item-index l.items) ≡ map whole l.bad.items;
  range : All (λ sector. sector < l.sectors) l.bad.items;
  rest : list_all (λ item. is_number (is_from 0 (l.sectors - 1)) (view item)) l.items
      ≡ list_all (λ item. is_number (is_from 0 (l.sectors - 1)) (view item)) (drop l.item-index l.items);
}
