-- What a TOML document says of the settings.
use Rattle.std.specs.Prelude.{◌≡◌, ℕ, ◌-◌, pos, List, [], ◌∷◌, map, Bool, true, false, ◌&&◌, IsTrue, Option, None, Some, MatchOption, codes}
use Rattle.std.specs.List.{AllZip, list_all, list_any}
use Rattle.std.specs.Str.{bytes_eq}
use Rattle.toml.specs.Data.{Data, integer, boolean, string, array, table, Items, no_items, item, Members, no_members, member, get_member}
use Rattle.toml.specs.Parse.{parse_document}
use Rattle.toml.specs.View.{items_of}
use Rattle.injection.specs.declared.Kind.{Kind}
use Rattle.injection.specs.declared.Kind.TheVariants.{Delay}
use Rattle.injection.specs.declared.Rule.{Rule}
use Rattle.settings.specs.declared.Config.{Config}
use Rattle.settings.specs.declared.Partition.{Partition}
use Rattle.settings.specs.InRange.{AreInRange, IsFrom, IsUsed}
use Rattle.settings.specs.Kinds.{most, name_of, range_of}

-- a whole number, as a document gives it
abbrev pub whole : ℕ → Data
whole n = integer (pos n)

-- the number of a value
abbrev pub IsNumber : Option Data → ℕ → Type 0
IsNumber found n = found ≡ Some (whole n)

-- the number of a value, or a default where there is no value
abbrev pub IsNumberOr : ℕ → Option Data → ℕ → Type 0
IsNumberOr default found n = MatchOption found (n ≡ default) (λ d. d ≡ whole n)

-- the truth of a value, or false where there is no value
abbrev pub IsTruthOrFalse : Option Data → Bool → Type 0
IsTruthOrFalse found b = MatchOption found (b ≡ false) (λ d. d ≡ boolean b)

-- the numbers of a list, and none where there is no value
abbrev pub AreNumbers : Option Data → List ℕ → Type 0
AreNumbers found ns = MatchOption found (ns ≡ []) (λ d. d ≡ array (items_of (map whole ns)))

-- the keys of a table say what a partition is
pub record IsPartition (settings : Members) (p : Partition) : Type 0 where
  pub first : IsNumber (get_member (codes "first") settings) p.first
  pub count : IsNumber (get_member (codes "count") settings) p.count
  pub kind : IsNumberOr 7 (get_member (codes "type") settings) p.kind
  pub used : IsUsed p

-- a value is a table that gives a partition
abbrev pub GivesPartition : Data → Partition → Type 0
GivesPartition d p = (settings : Members) × (d ≡ table settings) × IsPartition settings p

-- the values of a list give the partitions in order, and no list gives none
abbrev pub ArePartitions : Option Data → List Partition → Type 0
ArePartitions found ps = MatchOption found (ps ≡ []) (λ d. (tables : List Data) × (d ≡ array (items_of tables)) × AllZip GivesPartition tables ps)

-- a value is there, and is the name of this kind
abbrev pub IsKind : Option Data → Kind → Type 0
IsKind found kind = found ≡ Some (string (name_of kind))

-- the milliseconds of a delay are found, 1 to 60,000, and none of another kind
abbrev pub IsTimed : Option Data → Kind → Type 0
IsTimed found (Delay ms) = IsNumber found ms × IsFrom 1 60000 ms
IsTimed found _ = found ≡ None

-- the keys of a table say what a rule is
pub record IsRule (settings : Members) (r : Rule) : Type 0 where
  pub kind : IsKind (get_member (codes "kind") settings) r.kind
  pub every : IsNumberOr 1 (get_member (codes "every") settings) r.every
  pub times : IsNumberOr most (get_member (codes "times") settings) r.times
  pub first : ℕ
  pub count : ℕ
  pub first_is : IsNumberOr 0 (get_member (codes "first") settings) first
  pub count_is : IsNumberOr 0 (get_member (codes "count") settings) count
  pub sectors : r.sectors ≡ range_of first count
  -- it is due of the last of so many
  pub wait : r.wait ≡ r.every - 1
  pub ms : IsTimed (get_member (codes "ms") settings) r.kind

-- a value is a table that gives a rule
abbrev pub GivesRule : Data → Rule → Type 0
GivesRule d r = (settings : Members) × (d ≡ table settings) × IsRule settings r

-- the values of a list give the rules in order, and no list gives none
abbrev pub AreRules : Option Data → List Rule → Type 0
AreRules found rs = MatchOption found (rs ≡ []) (λ d. (tables : List Data) × (d ≡ array (items_of tables)) × AllZip GivesRule tables rs)

-- the keys of a table
abbrev pub keys_of : Members → List (List ℕ)
keys_of no_members = []
keys_of (member key value rest) = key ∷ keys_of rest

-- a key of the settings
abbrev pub setting_keys : List (List ℕ)
setting_keys = codes "sector_size" ∷ codes "sectors" ∷ codes "max_transfer" ∷ codes "depth" ∷ codes "window" ∷ codes "open_requests"
    ∷ codes "write_protected" ∷ codes "bad_sectors" ∷ codes "fault" ∷ codes "partition" ∷ []

-- a key of a partition
abbrev pub partition_keys : List (List ℕ)
partition_keys = codes "first" ∷ codes "count" ∷ codes "type" ∷ []

-- a key of a rule
abbrev pub rule_keys : List (List ℕ)
rule_keys = codes "kind" ∷ codes "every" ∷ codes "times" ∷ codes "first" ∷ codes "count" ∷ codes "ms" ∷ []

-- a table has no other keys than these
abbrev pub has_only : List (List ℕ) → Members → Bool
has_only keys settings = list_all (λ key. list_any (bytes_eq key) keys) (keys_of settings)

-- a value that is a table has no other keys than those of a partition
abbrev pub has_partition_keys : Data → Bool
has_partition_keys (table settings) = has_only partition_keys settings
has_partition_keys _ = true

-- the same of a rule
abbrev pub has_rule_keys : Data → Bool
has_rule_keys (table settings) = has_only rule_keys settings
has_rule_keys _ = true

-- the values of a list
abbrev pub list_of : Items → List Data
list_of no_items = []
list_of (item d rest) = d ∷ list_of rest

-- the values of the list that is found, none where no list is
abbrev pub values_of : Option Data → List Data
values_of (Some (array items)) = list_of items
values_of _ = []

-- all keys, at the top and in partitions, are those that there are
abbrev pub has_known_keys : Members → Bool
has_known_keys document =
    has_only setting_keys document
    && (list_all has_rule_keys (values_of (get_member (codes "fault") document))
    && list_all has_partition_keys (values_of (get_member (codes "partition") document)))

-- the settings of a document are these: each is the value at its key, in its range, or its default
pub record AreSettings (document : Members) (c : Config) : Type 0 where
  pub known_keys : IsTrue (has_known_keys document)
  pub sector_size : IsNumber (get_member (codes "sector_size") document) c.sector_size
  pub sectors : IsNumber (get_member (codes "sectors") document) c.sectors
  pub max_transfer : IsNumber (get_member (codes "max_transfer") document) c.max_transfer
  pub depth : IsNumber (get_member (codes "depth") document) c.depth
  pub window : IsNumber (get_member (codes "window") document) c.window
  pub open_requests : IsNumberOr 64 (get_member (codes "open_requests") document) c.open_requests
  pub write_protected : IsTruthOrFalse (get_member (codes "write_protected") document) c.write_protected
  pub bad_sectors : AreNumbers (get_member (codes "bad_sectors") document) c.bad_sectors.items
  pub faults : AreRules (get_member (codes "fault") document) c.faults.items
  pub partitions : ArePartitions (get_member (codes "partition") document) c.partitions.items
  pub in_range : AreInRange c

-- the settings of a text
pub record AreSettingsOf (text : List ℕ) (c : Config) : Type 0 where
  pub document : Members
  pub parsed : parse_document text ≡ Some document
  pub are_settings : AreSettings document c
