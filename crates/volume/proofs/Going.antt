-- How often a request is looked after before its answer is there.
use Rattle.std.specs.Prelude.{⊤, MatchOption}
use Rattle.volume.proofs.Common.{◌≡◌, ◌<◌, ◌≤◌, ℕ, ◌+◌, true, false, List, Option, Some, None, arith, is_some, ManagerView, IsBetween, Looks, Quietly, TakesAnswer}
use Rattle.io_manager.specs.declared.Answer.{Answer as AnswerOf}
use Rattle.injection.specs.declared.Rule.{Rule}
use Rattle.injection.specs.Rules.{left}
use Rattle.volume.proofs.Steps.{Quietly-trans}

-- what is left while there is no answer
abbrev pub looks_left : Option AnswerOf → List Rule → ℕ
looks_left None rules = left rules + 1
looks_left (Some answer) rules = 0

pub looks_fewer : (before after : Option AnswerOf) (old new : List Rule) → is_some before ≡ false → MatchOption after (left new < left old) (λ _. ⊤)
    → looks_left after new < looks_left before old
looks_fewer None None old new none h = omega arith
looks_fewer None (Some answer) old new none h = omega arith
looks_fewer (Some answer) after old new none h = absurd (let k : true ≡ false = none in cc)

pub looks_further : (old mid : ManagerView) (answer : Option AnswerOf) (new : ManagerView) → Quietly old mid → Looks mid answer new → Looks old answer new
looks_further old mid answer new quietly h = record {
  looked = h.looked;
  quietly = Quietly-trans old mid h.looked quietly h.quietly;
  between = h.between;
  takes = h.takes;
}

-- a step was taken, and an answer was looked for behind it
pub looks_by : (old mid stepped : ManagerView) (answer : Option AnswerOf) (new : ManagerView) → Quietly old mid → Quietly mid stepped → IsBetween stepped → TakesAnswer stepped answer new
    → Looks old answer new
looks_by old mid stepped answer new quietly step between takes = record {
  looked = stepped;
  quietly = Quietly-trans old mid stepped quietly step;
  between = between;
  takes = takes;
}

pub found_fewer : (answer : Option AnswerOf) (old new : List Rule) → is_some answer ≡ true → MatchOption answer (left new < left old) (λ _. ⊤)
found_fewer None old new some = absurd (let k : false ≡ true = some in cc)
found_fewer (Some answer) old new some = tt

pub turned_fewer : (answer : Option AnswerOf) (old mid new : List Rule) → left mid ≤ left old → left new < left mid → MatchOption answer (left new < left old) (λ _. ⊤)
turned_fewer None old mid new no_more fewer = omega arith
turned_fewer (Some answer) old mid new no_more fewer = tt
