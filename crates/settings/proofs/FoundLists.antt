-- What is wrong with a list that was found, by the values of the list.
use Rattle.std.proofs.Common.{◌≡◌, List, map, Bool, Option, Some}
use Rattle.std.specs.List.{list_all}
use Rattle.std.proofs.lemmas.List.Folds.{list_all-map}
use Rattle.std.proofs.lemmas.Simd.{map-map}
use Rattle.toml.specs.Data.{Data, array, no_items}
use Rattle.toml.specs.declared.value.Value.{Value}
use Rattle.toml.specs.View.{view, items_of}
use Rattle.settings.specs.declared.ConfigFault.TheVariants.{OutOfRange}
use Rattle.ntstatus.specs.First.{first_some}
use Rattle.settings.specs.Faults.{unless, optional_fault, is_list_of, partition_fault, partition_faults, rule_fault, rules_fault}
use Rattle.settings.proofs.Keys.{list_of_items}

-- a list is right where each value in it is
pub list_fault : (test : Data → Bool) (values : List Value) (found : Option Data) → Some (array (items_of (map view values))) ≡ found
    → unless (list_all (λ value. test (view value)) values) OutOfRange ≡ optional_fault (array no_items) (is_list_of test) found
list_fault test values found same = rw (← same, list_of_items (map view values), list_all-map test view values)

-- the first fault of partitions is that of the tables in their list
pub partitions_fault : (values : List Value) (found : Option Data) → Some (array (items_of (map view values))) ≡ found
    → first_some (map (λ value. partition_fault (view value)) values) ≡ first_some (partition_faults found)
partitions_fault values found same = rw (← same, list_of_items (map view values), map-map)

-- and so is that of rules
pub rules_found_fault : (values : List Value) (found : Option Data) → Some (array (items_of (map view values))) ≡ found
    → first_some (map (λ value. rule_fault (view value)) values) ≡ rules_fault found
rules_found_fault values found same = rw (← same, list_of_items (map view values), map-map)
