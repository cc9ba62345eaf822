-- What the lines of sessions say of the sectors of a disk.
use Rattle.std.specs.Prelude.{◌≡◌, ◌⊎◌, ℕ, List, [], ◌∷◌, ◌++◌, map}
use Rattle.machine.specs.Rules.{Rules}
use Rattle.machine.specs.State.{State, opening}
use Rattle.trace_line.specs.declared.Line.{Line as LabelLine}
use Rattle.judge.specs.Judging.{AreLinesReached}
use Rattle.judge.specs.Following.{IsLineRefused}
use Rattle.judge.specs.declared.label_rules.Rule.{Rule}
use Rattle.session_judge.specs.declared.walk.Line.{Line}
use Rattle.session_judge.specs.declared.walk.Line.TheVariants.{Told, Lost, Ended}
use Rattle.session_judge.specs.declared.deeds.Deed.{Deed}
use Rattle.session_judge.specs.declared.deeds.Deed.TheVariants.{PowerLost, ProcessEnded}
use Rattle.session_judge.specs.Deeds.{cut_off, label_deeds, next_after}

-- a session begins so
abbrev pub Begins : Rules → State → Type 0
Begins rules s = AreLinesReached rules (opening []) [] (s ∷ [])

-- a session has these labels so far, which lead to this one state, where the next piece has this number; the lines that follow say this
-- of the disk
abbrev pub Follow : Rules → List LabelLine → State → ℕ → List Line → List Deed → Type 0
Follow rules session s next [] deeds = deeds ≡ []
Follow rules session s next (Told line ∷ lines) deeds =
    (s' : State) × (rest : List Deed) × AreLinesReached rules (opening []) (session ++ line ∷ []) (s' ∷ []) × (deeds ≡ label_deeds rules s next line.label ++ rest) × Follow rules (session ++ line ∷ []) s' (next_after next line.label) lines rest
Follow rules session s next (Lost ∷ lines) deeds = (s' : State) × (rest : List Deed) × Begins rules s' × (deeds ≡ cut_off rules s ++ PowerLost ∷ rest) × Follow rules [] s' 1 lines rest
Follow rules session s next (Ended ∷ lines) deeds = (s' : State) × (rest : List Deed) × Begins rules s' × (deeds ≡ cut_off rules s ++ ProcessEnded ∷ rest) × Follow rules [] s' 1 lines rest

-- each session is a run, and the lines say this of the disk
abbrev pub AreDeedsOf : Rules → List Line → List Deed → Type 0
AreDeedsOf rules lines deeds = (s : State) × Begins rules s × Follow rules [] s 1 lines deeds

-- THE NEWEST SESSION

-- lines that end a session, if there are any
abbrev pub EndSession : List Line → Type 0
EndSession front = (front ≡ []) ⊎ ((before : List Line) × ((front ≡ before ++ Lost ∷ []) ⊎ (front ≡ before ++ Ended ∷ [])))

-- the newest session of these lines has these labels
pub record IsSession (lines : List Line) (session : List LabelLine) : Type 0 where
  pub front : List Line
  pub ended : EndSession front
  pub split : lines ≡ front ++ map Told session

-- no run has the newest session of these lines and then this line, which breaks the rule
pub record IsBroken (rules : Rules) (lines : List Line) (line : Line) (rule : Rule) : Type 0 where
  pub session : List LabelLine
  pub newest : IsSession lines session
  pub label : LabelLine
  pub is_told : line ≡ Told label
  pub refused : IsLineRefused rules [] session label rule
