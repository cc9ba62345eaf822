-- Lines that are walked one by one.
use Rattle.std.specs.Prelude.{◌≡◌, List, [], ◌∷◌, ◌++◌, length}
use Rattle.machine.specs.declared.Label.{Label}
use Rattle.machine.specs.Rules.{Rules}
use Rattle.machine.specs.State.{State}
use Rattle.trace_line.specs.declared.Line.{Line as LabelLine}
use Rattle.judge.specs.Following.{HasTakenLines, JudgeView}
use Rattle.session_judge.specs.declared.walk.Line.{Line}
use Rattle.session_judge.specs.declared.walk.Stop.{Stop}
use Rattle.session_judge.specs.declared.walk.Stop.TheVariants.{Breaks, Unnamed}
use Rattle.session_judge.specs.declared.walk.Walk.{Walk}
use Rattle.session_judge.specs.declared.deeds.Deed.{Deed}
use Rattle.session_judge.specs.Deeds.{cut_off, next_after}
use Rattle.session_judge.specs.Walks.{AreDeedsOf, Follow, IsBroken, IsSession}

-- a judge that has taken no line
pub record IsFirst (rules : Rules) (judge : JudgeView) : Type 0 where
  pub rules_are : judge.rules ≡ rules
  pub taken : HasTakenLines judge [] []
  pub one : length judge.states ≡ 1

-- these lines were walked
pub record HasWalked (rules : Rules) (lines : List Line) (walk : Walk) : Type 0 where
  pub rules_are : walk.judge.rules ≡ rules
  pub session : List LabelLine
  pub newest : IsSession lines session
  pub taken : HasTakenLines walk.judge [] session
  pub state : State
  pub single : walk.judge.states ≡ state ∷ []
  pub leads : (rest : List Line) (more : List Deed) → Follow rules session state walk.next rest more → AreDeedsOf rules (lines ++ rest) (walk.deeds.items ++ more)

abbrev pub WalksOn : Rules → Line → Walk → Walk → Type 0
WalksOn rules line old new = (lines : List Line) → HasWalked rules lines old → HasWalked rules (lines ++ line ∷ []) new

-- why the line stops
abbrev pub IsStop : Rules → List Line → Line → Stop → Type 0
IsStop rules lines line (Breaks rule) = IsBroken rules lines line rule
IsStop rules lines line Unnamed = Unit {0}

-- the line stops the walk, and says nothing of the disk
pub record StopsWalk (rules : Rules) (line : Line) (old new : Walk) (stop : Stop) : Type 0 where
  pub kept : new.deeds ≡ old.deeds
  pub is : (lines : List Line) → HasWalked rules lines old → IsStop rules lines line stop

-- the judge follows one state behind a label that said this of the disk
pub record GoesOn (said : List Deed) (label : Label) (old new : Walk) : Type 0 where
  pub judge : new.judge ≡ old.judge
  pub one : length new.judge.states ≡ 1
  pub deeds : new.deeds.items ≡ old.deeds.items ++ said
  pub next : new.next ≡ next_after old.next label

-- it follows several
pub record IsUnnamed (old new : Walk) (stop : Stop) : Type 0 where
  pub is : stop ≡ Unnamed
  pub kept : new.deeds ≡ old.deeds

-- a session ended, and another begins
pub record BeginsAnew (rules : Rules) (end : Deed) (old new : Walk) : Type 0 where
  pub judge : IsFirst rules new.judge
  pub first : new.next ≡ 1
  pub deeds : (s : State) → old.judge.states ≡ s ∷ [] → new.deeds.items ≡ old.deeds.items ++ (cut_off rules s ++ end ∷ [])
