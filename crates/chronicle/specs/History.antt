-- The rule of a history that only grows: one seat knows it whole, and others claim places of it. It lies in what the rule says of all seats, and in no word: that of the table means nothing.
use Rattle.std.specs.Prelude.{◌≡◌, ℕ, List, [], ◌++◌, true, false}
use mathlib.Core.Option.{some}
use lib.ListN.{get_elem?}
use Rattle.atomic_table.specs.Table.{State, Me, Step}
use Rattle.atomic_table.specs.Seated.{TableId}
use Rattle.chronicle.specs.declared.rule.View.{View}
use Rattle.chronicle.specs.Claims.{AllStand}

-- the name of no history
abbrev pub no_table : TableId
no_table = record { words = 0; slots = 0; views_name = 0; atom = 0; block = 0; offset = 0; slot_names = [] }

abbrev Sat : Type 0 → Type 0
Sat E = Me (Unit {0}) (View E)

module _ {E : Type 0} where
  -- the seat that knows all entries, and claims none
  abbrev pub keeper : List E → View E
  keeper entries = record { keeps = true; entries = entries; claims = [] }

  -- a seat that claims these entries
  abbrev pub bearer : List (ℕ × E) → View E
  bearer claims = record { keeps = false; entries = []; claims = claims }

  -- a seat that knows nothing
  abbrev pub nobody : View E
  nobody = bearer []

  -- a seat without its claims
  abbrev pub without_claims : View E → View E
  without_claims v = record v { claims = [] }

  -- a seat with another's claims too
  abbrev pub with_claims_of : View E → View E → View E
  with_claims_of v other = record v { claims = v.claims ++ other.claims }

  -- What a seat knows is borne out: if it keeps the history, it is the one keeper and has it whole; what it claims stands there
  pub record IsBorneOut (keeper : ℕ) (history : List E) (seat : ℕ) (v : View E) : Type 0 where
    pub whole : v.keeps ≡ true → (seat ≡ keeper) × (v.entries ≡ history)
    pub stand : AllStand history v.claims

  -- The rule, which holds between any two steps: there is one history and one keeper, of all seats, those that were dropped too
  pub record HistoryKept (views : List (View E)) : Type 0 where
    pub keeper : ℕ
    pub history : List E
    pub borne : (seat : ℕ) (v : View E) → get_elem? views seat ≡ some v → IsBorneOut keeper history seat v

  -- the rule, of all that a table is made of
  abbrev pub Kept : State (Unit {0}) (View E) → Type 0
  Kept s = HistoryKept s.views

  -- What each of the two kinds of step tells the seat: these entries were added at the end
  abbrev pub Adds : List E → Step (Unit {0}) → Sat E → ℕ → Sat E → Type 0
  Adds more s me found after = after ≡ (record me.0 { entries = me.0.entries ++ more }, me.1)

  -- its claims stand in the history
  abbrev pub Checks : Step (Unit {0}) → Sat E → ℕ → Sat E → Type 0
  Checks s me found after = (after ≡ me) × AllStand me.0.entries me.0.claims
