-- The first fault of a list.
use Rattle.std.proofs.Common.{◌≡◌, ℕ, ◌+◌, ◌<◌, List, ◌∷◌, map, length, get_or, drop, Option, Some, None, ap, sym, ◌∙◌}
use Rattle.std.proofs.lemmas.List.{at_drop_more}
use Rattle.settings.specs.declared.ConfigFault.{ConfigFault}
use Rattle.ntstatus.specs.First.{first_some}

-- what has no fault is passed
pub passed : (fault : Option ConfigFault) (rest : List (Option ConfigFault)) → fault ≡ None → first_some (fault ∷ rest) ≡ first_some rest
passed fault rest none = ap (λ f. first_some (f ∷ rest)) none

-- what has a fault ends the search
pub ends : (fault : Option ConfigFault) (rest : List (Option ConfigFault)) (found : ConfigFault) → fault ≡ Some found → first_some (fault ∷ rest) ≡ Some found
ends fault rest found there = ap (λ f. first_some (f ∷ rest)) there

-- an item without a fault is passed
pub item_passed : {A : Type 0} (fault_of : A → Option ConfigFault) (items : List A) (i : ℕ) (item : A) → i < length items → item ≡ get_or items i item → fault_of item ≡ None
    → first_some (map fault_of (drop i items)) ≡ first_some (map fault_of (drop (i + 1) items))
item_passed fault_of items i item within is none =
    at_drop_more (λ xs. first_some (map fault_of xs)) items i item within ∙ passed _ _ (ap fault_of (sym is) ∙ none)
