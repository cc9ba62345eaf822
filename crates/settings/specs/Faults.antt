-- What is wrong with settings, and which fault is told.
use Rattle.std.specs.Prelude.{◌≡◌, ◌⊎◌, ℕ, pos, ◌-◌, List, [], ◌∷◌, map, length, Bool, true, false, ◌==◌, ◌&&◌, ◌||◌, nat_le, if◌then◌else◌, Option, None, Some, unwrap_or, Result, codes}
use Rattle.std.specs.List.{list_all}
use Rattle.std.specs.Option.{option_map_or}
use Rattle.std.specs.Result.{result_err}
use Rattle.toml.specs.Data.{Data, integer, boolean, array, table, no_items, Members, get_member}
use Rattle.toml.specs.Parse.{parse_document}
use Rattle.ntstatus.specs.First.{first_some}
use Rattle.settings.specs.declared.ConfigFault.{ConfigFault}
use Rattle.settings.specs.declared.ConfigFault.TheVariants.{NotToml, UnknownKey, MissingKey, OutOfRange, TooManyPartitions, NoMemory}
use Rattle.settings.specs.Kinds.{is_delay, is_kind, most}
use Rattle.settings.specs.Settings.{whole, list_of, values_of, has_known_keys}

-- a number is in a range
abbrev pub is_from : ℕ → ℕ → ℕ → Bool
is_from least most n = nat_le least n && nat_le n most

-- a number is a size of sectors
abbrev pub is_sector_size : ℕ → Bool
is_sector_size n = n == 512 || n == 4096

-- a value is a whole number that passes a test
abbrev pub is_number : (ℕ → Bool) → Data → Bool
is_number test (integer (pos n)) = test n
is_number test _ = false

-- a value is true or false
abbrev pub is_truth : Data → Bool
is_truth (boolean b) = true
is_truth _ = false

-- a value is a list
abbrev pub is_list : Data → Bool
is_list (array items) = true
is_list _ = false

-- a value is a list, and each value in it passes a test
abbrev pub is_list_of : (Data → Bool) → Data → Bool
is_list_of test (array items) = list_all test (list_of items)
is_list_of test _ = false

-- the number that is found, 0 where no number is
abbrev pub number_of : Option Data → ℕ
number_of (Some (integer (pos n))) = n
number_of _ = 0

-- a fault, unless the test was passed
abbrev pub unless : Bool → ConfigFault → Option ConfigFault
unless passes fault = if passes then None else Some fault

-- what is wrong with the value of a key that has to be there
abbrev pub needed_fault : (Data → Bool) → Option Data → Option ConfigFault
needed_fault test None = Some MissingKey
needed_fault test (Some d) = unless (test d) OutOfRange

-- what is wrong with the value of a key, or with its default where the key is not there
abbrev pub optional_fault : Data → (Data → Bool) → Option Data → Option ConfigFault
optional_fault default test found = unless (test (unwrap_or found default)) OutOfRange

-- what is wrong with the milliseconds of a rule, which a delay has to have, and no other rule has
abbrev pub ms_fault : Bool → Option Data → Option ConfigFault
ms_fault true found = needed_fault (is_number (is_from 1 60000)) found
ms_fault false None = None
ms_fault false (Some d) = Some OutOfRange

-- what is wrong with a rule
abbrev pub rule_fault : Data → Option ConfigFault
rule_fault (table settings) = first_some (
    needed_fault is_kind (get_member (codes "kind") settings)
    ∷ optional_fault (whole 1) (is_number (is_from 1 most)) (get_member (codes "every") settings)
    ∷ optional_fault (whole most) (is_number (is_from 1 most)) (get_member (codes "times") settings)
    ∷ optional_fault (whole 0) (is_number (is_from 0 most)) (get_member (codes "first") settings)
    ∷ optional_fault (whole 0) (is_number (is_from 0 most)) (get_member (codes "count") settings)
    ∷ ms_fault (is_delay (get_member (codes "kind") settings)) (get_member (codes "ms") settings)
    ∷ [])
rule_fault _ = Some OutOfRange

-- what is wrong with the rules
abbrev pub rules_fault : Option Data → Option ConfigFault
rules_fault found = first_some (optional_fault (array no_items) is_list found ∷ map rule_fault (values_of found))

-- what is wrong with a partition
abbrev pub partition_fault : Data → Option ConfigFault
partition_fault (table settings) = first_some (
    needed_fault (is_number (is_from 0 4294967295)) (get_member (codes "first") settings)
    ∷ needed_fault (is_number (is_from 0 4294967295)) (get_member (codes "count") settings)
    ∷ optional_fault (whole 7) (is_number (is_from 1 255)) (get_member (codes "type") settings)
    ∷ [])
partition_fault _ = Some OutOfRange

-- what may be wrong with the partitions, in the order in which it is told
abbrev pub partition_faults : Option Data → List (Option ConfigFault)
partition_faults found = optional_fault (array no_items) is_list found ∷ map partition_fault (values_of found)

-- what may be wrong with settings, in the order in which it is told
abbrev pub setting_faults : Members → List (Option ConfigFault)
setting_faults document =
    let sectors = number_of (get_member (codes "sectors") document) in
    unless (has_known_keys document) UnknownKey
    ∷ unless (nat_le (length (values_of (get_member (codes "partition") document))) 4) TooManyPartitions
    ∷ needed_fault (is_number is_sector_size) (get_member (codes "sector_size") document)
    ∷ needed_fault (is_number (is_from 1 1099511627776)) (get_member (codes "sectors") document)
    ∷ needed_fault (is_number (is_from 1 65536)) (get_member (codes "max_transfer") document)
    ∷ needed_fault (is_number (is_from 1 32)) (get_member (codes "depth") document)
    ∷ needed_fault (is_number (is_from 1 64)) (get_member (codes "window") document)
    ∷ optional_fault (whole 64) (is_number (is_from 1 64)) (get_member (codes "open_requests") document)
    ∷ optional_fault (boolean false) is_truth (get_member (codes "write_protected") document)
    ∷ optional_fault (array no_items) (is_list_of (is_number (is_from 0 (sectors - 1)))) (get_member (codes "bad_sectors") document)
    ∷ rules_fault (get_member (codes "fault") document)
    ∷ partition_faults (get_member (codes "partition") document)

-- the first fault of a text that is to give settings
abbrev pub text_fault : List ℕ → Option ConfigFault
text_fault text = option_map_or (λ document. first_some (setting_faults document)) (parse_document text) (Some NotToml)

-- a result is refused for a fault, where there is one, and may be refused for want of memory
abbrev pub IsRefusedFor : {A : Type 0} → Option ConfigFault → Result A ConfigFault → Type 0
IsRefusedFor fault result = (result_err result ≡ fault) ⊎ (result_err result ≡ Some NoMemory)
