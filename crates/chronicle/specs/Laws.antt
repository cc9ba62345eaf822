-- What the rule of a history says, in each state that meets it, and so between any two steps.
use Rattle.std.specs.Prelude.{◌≡◌, ℕ, true, List, ◌++◌}
use mathlib.Core.Option.{some}
use lib.ListN.{get_elem?}
use Rattle.chronicle.specs.declared.rule.View.{View}
use Rattle.chronicle.specs.Claims.{AllStand}
use Rattle.chronicle.specs.History.{HistoryKept}

-- at most one seat keeps the history
abbrev pub OneKeeps : Type 0 → Type 0
OneKeeps E =
    (views : List (View E)) → HistoryKept views → (one two : ℕ) (v w : View E)
    → get_elem? views one ≡ some v → get_elem? views two ≡ some w → v.keeps ≡ true → w.keeps ≡ true → one ≡ two

-- what any seat claims stands in the history of the one that keeps it
abbrev pub ClaimsStand : Type 0 → Type 0
ClaimsStand E =
    (views : List (View E)) → HistoryKept views → (keeper seat : ℕ) (v w : View E)
    → get_elem? views keeper ≡ some v → v.keeps ≡ true → get_elem? views seat ≡ some w → AllStand v.entries w.claims

-- what stands in a history stands in each longer history that begins with it
abbrev pub ClaimsStayStanding : Type 0 → Type 0
ClaimsStayStanding E =
    (history more : List E) (claims : List (ℕ × E)) → AllStand history claims → AllStand (history ++ more) claims
