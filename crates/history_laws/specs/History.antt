-- What the clients of a service saw, and what explains it.
use Rattle.std.specs.Prelude.{◌≡◌, ℕ, true, false, List, [], ◌∷◌, Option, None, All}
use Rattle.machine.specs.declared.Label.{Label}
use Rattle.machine.specs.declared.Label.TheVariants.{Call, Device, Answer, Cancel}
use Rattle.machine.specs.Rules.{Rules}
use Rattle.machine.specs.State.{State, opening}
use Rattle.machine.specs.Step.{Run}

-- the calls and the answers of a trace, in their order
abbrev pub history_of : List Label → List Label
history_of [] = []
history_of (Call number q ∷ labels) = Call number q ∷ history_of labels
history_of (Answer number status informed bytes ∷ labels) = Answer number status informed bytes ∷ history_of labels
history_of (_ ∷ labels) = history_of labels

-- no pause and no removal
abbrev pub IsOfService : Label → Type 0
IsOfService (Call number q) = Unit {0}
IsOfService (Device label) = Unit {0}
IsOfService (Answer number status informed bytes) = Unit {0}
IsOfService (Cancel number) = Unit {0}
IsOfService _ = ⊥

-- the rules of a service of which only sizes and partitions are known: how it cuts requests, how many pieces it has out and how many
-- requests it lets in are its own affair
abbrev pub of_service : Rules → ℕ → ℕ → Option ℕ → Rules
of_service rules depth max_transfer window = record rules {
  depth = depth;
  max_transfer = max_transfer;
  window = window;
  open_requests = None;
  one_piece = false;
  any_cut = true;
  faithful = true;
}

-- some run of the sector machine, from these arrays, has just these calls and answers
pub record IsExplained (rules : Rules) (arrays : List (List (List ℕ))) (history : List Label) : Type 0 where
  pub depth : ℕ
  pub max_transfer : ℕ
  pub window : Option ℕ
  pub labels : List Label
  pub last : State
  pub run : Run (of_service rules depth max_transfer window) (opening arrays) labels last
  pub of_service : All IsOfService labels
  pub seen : history_of labels ≡ history
