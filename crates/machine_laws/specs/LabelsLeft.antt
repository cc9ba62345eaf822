-- The labels that may still come where no call and no pause does: a trace needs as many places.
use Rattle.std.specs.Prelude.{◌≤◌, ℕ, ◌+◌, ◌*◌, ◌||◌, Bool, List, [], ◌∷◌, All, IsFalse, length, min, sum_by, is_none, if◌then◌else◌}
use Rattle.srb.specs.Fate.{Fate, Fresh, Acted, Faulted}
use Rattle.machine.specs.declared.Label.{Label}
use Rattle.machine.specs.declared.Label.TheVariants.{Call, Pause}
use Rattle.machine.specs.Rules.{Rules, place_count}
use Rattle.machine.specs.State.{OpenRequest, Piece, State}
use Rattle.machine.specs.Calling.{refusal}
use Rattle.machine.specs.Cutting.{piece_count, pieces_with, is_back, restarts, restarts_left}
use Rattle.machine.specs.Sending.{is_untouched}
use Rattle.machine.specs.Step.{Step, Run}
use Rattle.machine_laws.specs.Reached.{IsReached}

-- LABELS

-- of the starts to come: a start, an act or fault and a return of each piece that never started; a start and a return of each
-- restart, since a busy return comes with no act; and the act or fault still due of each piece that is back, if it may start again
abbrev pub labels_of_starts : Rules → OpenRequest → ℕ
labels_of_starts rules o =
    3 * pieces_with rules is_untouched o + 2 * restarts_left rules o + min (pieces_with rules is_back o) (restarts_left rules o)

-- of an open request: its answer, a cancel if there was none, and those of its starts, none once it is cancelled or while removing
abbrev pub labels_of_request : Rules → Bool → OpenRequest → ℕ
labels_of_request rules removing o = (if o.cancelled then 1 else 2) + (if o.cancelled || removing then 0 else labels_of_starts rules o)

-- of a piece out: an act or fault, if there was none, and its return
abbrev pub labels_of_fate : Fate → ℕ
labels_of_fate Fresh = 2
labels_of_fate (Acted sectors) = 1
labels_of_fate Faulted = 1

abbrev pub labels_of_piece : Piece → ℕ
labels_of_piece piece = labels_of_fate piece.fate

-- all that may still come: of the open requests and the pieces out, an answer that is owed, the end of a pause, a removal and its end
abbrev pub labels_left : Rules → State → ℕ
labels_left rules s =
    sum_by (labels_of_request rules s.removing) s.requests + sum_by labels_of_piece s.pieces
    + (if is_none s.owed then 0 else 1) + (if s.paused then 1 else 0) + (if s.removing then 0 else 1) + (if s.removed then 0 else 1)

-- what a label brings, itself included: a call all labels of its request, or its refusal; a pause its end; any other label nothing
abbrev pub labels_brought : Rules → State → Label → ℕ
labels_brought rules s (Call number q) =
    if is_none (refusal rules s q) then 3 * piece_count rules (place_count rules q) + 2 * restarts rules + 3 else 2
labels_brought rules s Pause = 2
labels_brought rules s _ = 0

-- THE LAWS

-- a label uses up one of those that were left and of those that it brings. It doesn't where any cut will do: a request then starts again
-- without end
abbrev pub StepsUseUp : Type 0
StepsUseUp =
    (rules : Rules) → IsFalse rules.any_cut → (s : State) (label : Label) (s' : State) → IsReached rules s → Step rules s label s'
    → labels_left rules s' + 1 ≤ labels_left rules s + labels_brought rules s label

-- what the labels of a run bring, together
abbrev pub brought_along : (rules : Rules) (s : State) (labels : List Label) (s' : State) → Run rules s labels s' → ℕ
brought_along rules s [] s' run = 0
brought_along rules s (label ∷ labels) s' run = labels_brought rules s label + brought_along rules run.0 labels s' run.2

abbrev pub RunsUseUp : Type 0
RunsUseUp = (rules : Rules) → IsFalse rules.any_cut → (s : State) (labels : List Label) (s' : State) → IsReached rules s → (run : Run rules s labels s')
    → labels_left rules s' + length labels ≤ labels_left rules s + brought_along rules s labels s' run

-- neither a call nor a pause
abbrev pub BringsNone : Label → Type 0
BringsNone (Call number q) = ⊥
BringsNone Pause = ⊥
BringsNone _ = Unit {0}

-- with no call and no pause no more labels come than were left
abbrev pub NoMoreAreLeft : Type 0
NoMoreAreLeft =
    (rules : Rules) → IsFalse rules.any_cut → (s : State) (labels : List Label) (s' : State) → IsReached rules s → Run rules s labels s'
    → All BringsNone labels
    → labels_left rules s' + length labels ≤ labels_left rules s
