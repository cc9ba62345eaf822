-- How a run and its deeds are put together.
use Rattle.std.specs.Prelude.{ℕ, List, [], ◌∷◌, ◌++◌, All}
use Rattle.srb.specs.declared.DeviceLabel.TheVariants.{Act, Fault}
use Rattle.machine.specs.declared.Label.{Label}
use Rattle.machine.specs.declared.Label.TheVariants.{Device}
use Rattle.machine.specs.Rules.{Rules}
use Rattle.machine.specs.State.{State}
use Rattle.machine.specs.Step.{Run}
use Rattle.file_sessions.specs.Deeds.{Deed, DeedRun, HasFailed, HasMoved, IsDeedOf}

-- the label is neither an act nor a fault
abbrev pub HasNoDeed : Label → Type 0
HasNoDeed (Device (Act number bytes)) = ⊥
HasNoDeed (Device (Fault number)) = ⊥
HasNoDeed label = Unit {0}

-- a run without acts and faults has no deeds
abbrev pub RunsWithNone : Type 0
RunsWithNone = (rules : Rules) (s : State) (labels : List Label) (s' : State) → All HasNoDeed labels → Run rules s labels s' → DeedRun rules s labels s' []

-- one act, and one fault, has the deed of its piece
abbrev pub ActsWithOne : Type 0
ActsWithOne = (rules : Rules) (s : State) (number : ℕ) (bytes : List ℕ) (s' : State) (deed : Deed)
    → Run rules s (Device (Act number bytes) ∷ []) s' → IsDeedOf rules s number deed → HasMoved bytes deed.what → DeedRun rules s (Device (Act number bytes) ∷ []) s' (deed ∷ [])

abbrev pub FaultsWithOne : Type 0
FaultsWithOne = (rules : Rules) (s : State) (number : ℕ) (s' : State) (deed : Deed)
    → Run rules s (Device (Fault number) ∷ []) s' → IsDeedOf rules s number deed → HasFailed deed.what → DeedRun rules s (Device (Fault number) ∷ []) s' (deed ∷ [])

-- two in a row are one
abbrev pub DeedRunsJoin : Type 0
DeedRunsJoin = (rules : Rules) (s : State) (xs : List Label) (mid : State) (ds : List Deed) (ys : List Label) (s' : State) (es : List Deed)
    → DeedRun rules s xs mid ds → DeedRun rules mid ys s' es → DeedRun rules s (xs ++ ys) s' (ds ++ es)
