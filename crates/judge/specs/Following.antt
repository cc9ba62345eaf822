-- Labels that are judged one by one.
use Rattle.std.specs.Prelude.{◌≡◌, ◌<◌, ◌⊎◌, ℕ, List, [], ◌∷◌, ◌++◌, length, All, Any, Contains}
use Rattle.machine.specs.declared.Label.{Label}
use Rattle.machine.specs.Rules.{Rules}
use Rattle.machine.specs.State.{State, opening}
use Rattle.machine.specs.Step.{Run}
use Rattle.trace_line.specs.declared.Line.{Line}
use Rattle.trace_line.specs.Lines.{LineRun}
use Rattle.judge.specs.Judging.{AreReached, IsRun, AreLinesReached, IsLineRun}
use Rattle.judge.specs.Next.{AreNext}
use Rattle.judge.specs.declared.label_rules.Rule.{Rule}
use Rattle.judge.specs.Breaking.{HasLineStep, IsReached, Breaks, LineBreaks}

-- what a judge holds: its rules, and the states that the labels lead to
pub record JudgeView : Type 0 where
  pub rules : Rules
  pub states : List State

-- the judge has taken these labels, from the opening state with these arrays: they are a run, and it holds all states
-- that they lead to
pub record HasTaken (j : JudgeView) (arrays : List (List (List ℕ))) (labels : List Label) : Type 0 where
  pub reached : AreReached j.rules (opening arrays) labels j.states
  pub some : 0 < length j.states

-- two lists have the same states, however often each stands there
pub record AreAlike (states once : List State) : Type 0 where
  pub kept : (s : State) → Contains states s → Contains once s
  pub given : (s : State) → Contains once s → Contains states s

-- a state is added, or was there before
abbrev pub AddsOnce : List State → State → List State → Type 0
AddsOnce old s new = (new ≡ old ++ s ∷ []) ⊎ (Contains old s × (new ≡ old))

-- the states that the line leads to, each at least once
abbrev pub GoesOnceTo : Rules → Line → List State → List State → Type 0
GoesOnceTo rules line states once = (all : List State) × AreNext rules line states all × AreAlike all once

abbrev pub GoesTo : JudgeView → Line → JudgeView → Type 0
GoesTo old line new = GoesOnceTo old.rules line old.states new.states

-- one label more is taken
abbrev pub Takes : JudgeView → Label → JudgeView → Type 0
Takes old label new =
    (arrays : List (List (List ℕ))) (labels : List Label) → HasTaken old arrays labels → HasTaken new arrays (labels ++ label ∷ [])

-- no run has the labels before and this one; at each state that the labels before lead to, this one breaks some rule, and at
-- one of them the rule that is told
pub record IsRefused (rules : Rules) (arrays : List (List (List ℕ))) (labels : List Label) (label : Label) (rule : Rule) : Type 0 where
  pub no_run : ¬ (IsRun rules (opening arrays) (labels ++ label ∷ []))
  pub each : (s : State) → Run rules (opening arrays) labels s → (other : Rule) × Breaks rules s label other
  pub broken : (s : State) × Run rules (opening arrays) labels s × Breaks rules s label rule

-- the label breaks the rule whatever was taken
abbrev pub Refuses : JudgeView → Label → Rule → Type 0
Refuses j label rule = (arrays : List (List (List ℕ))) (labels : List Label) → HasTaken j arrays labels → IsRefused j.rules arrays labels label rule

-- OF LINES

-- the judge has taken these lines
pub record HasTakenLines (j : JudgeView) (arrays : List (List (List ℕ))) (lines : List Line) : Type 0 where
  pub reached : AreLinesReached j.rules (opening arrays) lines j.states
  pub some : 0 < length j.states

-- one line more is taken
abbrev pub TakesLine : JudgeView → Line → JudgeView → Type 0
TakesLine old line new =
    (arrays : List (List (List ℕ))) (lines : List Line) → HasTakenLines old arrays lines → HasTakenLines new arrays (lines ++ line ∷ [])

-- the line breaks some rule at the state
abbrev pub BreaksSome : Rules → Line → State → Type 0
BreaksSome rules line s = (other : Rule) × LineBreaks rules s line other

-- no run has the lines before and this one; at each state that the lines before lead to, this one breaks some rule, and at
-- one of them the rule that is told
pub record IsLineRefused (rules : Rules) (arrays : List (List (List ℕ))) (lines : List Line) (line : Line) (rule : Rule) : Type 0 where
  pub no_run : ¬ (IsLineRun rules (opening arrays) (lines ++ line ∷ []))
  pub each : (s : State) → LineRun rules (opening arrays) lines s → BreaksSome rules line s
  pub broken : (s : State) × LineRun rules (opening arrays) lines s × LineBreaks rules s line rule

-- the line breaks the rule whatever was taken
abbrev pub RefusesLine : JudgeView → Line → Rule → Type 0
RefusesLine j line rule =
    (arrays : List (List (List ℕ))) (lines : List Line) → HasTakenLines j arrays lines → IsLineRefused j.rules arrays lines line rule

-- each state is one that labels lead to
abbrev pub AllReached : Rules → List State → Type 0
AllReached rules states = All (IsReached rules) states

-- no step goes by the line from the state
abbrev pub HasNoStep : Rules → Line → State → Type 0
HasNoStep rules line s = ¬ (HasLineStep rules s line)

-- the line breaks the rule at the state
abbrev pub BreaksThere : Rules → Line → Rule → State → Type 0
BreaksThere rules line rule s = LineBreaks rules s line rule

-- the line goes from none of the states, and breaks the rule at one of them; where no step goes by it, it breaks some rule
pub record StopsAll (rules : Rules) (states : List State) (line : Line) (rule : Rule) : Type 0 where
  pub none : All (HasNoStep rules line) states
  pub named : (s : State) → IsReached rules s → HasNoStep rules line s → BreaksSome rules line s
  pub there : Any (BreaksThere rules line rule) states

-- some step goes by the line from the state
abbrev pub Goes : Rules → Line → State → Type 0
Goes rules line s = HasLineStep rules s line

-- the line goes from some of the states
abbrev pub SomeGoes : Rules → List State → Line → Type 0
SomeGoes rules states line = Any (Goes rules line) states
