-- The names of the kinds of rules, and the sectors of a rule.
use Rattle.std.specs.Prelude.{ℕ, ◌==◌, List, [], ◌∷◌, Bool, false, Option, Some, None, codes, if◌then◌else◌}
use Rattle.std.specs.List.{list_any}
use Rattle.std.specs.Str.{bytes_eq}
use Rattle.toml.specs.Data.{Data, string}
use Rattle.sector.specs.declared.Extent.{Extent}
use Rattle.injection.specs.declared.Kind.{Kind}
use Rattle.injection.specs.declared.Kind.TheVariants.{MediumError, HardwareError, NotReady, AbortedCommand, Busy, Delay}

-- the largest number that a document has
abbrev pub most : ℕ
most = 9223372036854775807

-- the name of a kind
abbrev pub name_of : Kind → List ℕ
name_of MediumError = codes "medium_error"
name_of HardwareError = codes "hardware_error"
name_of NotReady = codes "not_ready"
name_of AbortedCommand = codes "aborted_command"
name_of Busy = codes "busy"
name_of (Delay ms) = codes "delay"

-- the names of all kinds
abbrev pub kind_names : List (List ℕ)
kind_names = codes "medium_error" ∷ codes "hardware_error" ∷ codes "not_ready" ∷ codes "aborted_command" ∷ codes "busy" ∷ codes "delay" ∷ []

-- a value names a kind
abbrev pub is_kind : Data → Bool
is_kind (string name) = list_any (bytes_eq name) kind_names
is_kind _ = false

-- a value is there, and names a delay
abbrev pub is_delay : Option Data → Bool
is_delay (Some (string name)) = bytes_eq name (codes "delay")
is_delay _ = false

-- the sectors that a rule names: none where it names no number of them
abbrev pub range_of : ℕ → ℕ → Option Extent
range_of first count = if count == 0 then None else Some (record { first = first; count = count })
