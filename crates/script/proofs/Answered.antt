-- Which answers go with the labels of a step.
use Rattle.script.proofs.Common.{◌≡◌, ◌⊎◌, ◌∙◌, inl, inr, List, [], ◌∷◌, ◌++◌, ap, arith, length, map, refl, subst, sym, IsPermutation, append-nil, nil_from_length, length_permutation, Label, Answer, Reply, AreRising, FitsTogether, answer_number, ManagerView, ComeToWait, IsSaidAlone, StepsKeepRules, StepsLeaveAnswers, answers_in, Order, Given, IsAllTaken, IsCarriedOut, GoWith, IsCarriedOutFor, Tells}
use Rattle.machine.specs.declared.Label.TheVariants.{Call, Device, Answer as AnswerLabel, Cancel, Pause, Resume, Remove, Surprise, Removed}
use Rattle.script.proofs.Rising.{rising_same}

-- all answers of the labels wait
told_go : (labels : List Label) → GoWith labels (answers_in labels)
told_go [] = refl
told_go (AnswerLabel number status information bytes ∷ labels) = (refl, told_go labels)
told_go (Call number request ∷ labels) = (tt, told_go labels)
told_go (Device label ∷ labels) = (tt, told_go labels)
told_go (Cancel number ∷ labels) = (tt, told_go labels)
told_go (Pause ∷ labels) = (tt, told_go labels)
told_go (Resume ∷ labels) = (tt, told_go labels)
told_go (Remove ∷ labels) = (tt, told_go labels)
told_go (Surprise ∷ labels) = (tt, told_go labels)
told_go (Removed ∷ labels) = (tt, told_go labels)

-- the answers have no bytes
abbrev AreBare : List Answer → Type 0
AreBare [] = Unit {0}
AreBare (answer ∷ answers) = (answer.bytes ≡ []) × AreBare answers

-- no answer of the labels waits, and none has bytes
bare_go : (labels : List Label) → AreBare (answers_in labels) → GoWith labels []
bare_go [] bare = refl
bare_go (AnswerLabel number status information bytes ∷ labels) bare = (bare.0, bare_go labels bare.1)
bare_go (Call number request ∷ labels) bare = (tt, bare_go labels bare)
bare_go (Device label ∷ labels) bare = (tt, bare_go labels bare)
bare_go (Cancel number ∷ labels) bare = (tt, bare_go labels bare)
bare_go (Pause ∷ labels) bare = (tt, bare_go labels bare)
bare_go (Resume ∷ labels) bare = (tt, bare_go labels bare)
bare_go (Remove ∷ labels) bare = (tt, bare_go labels bare)
bare_go (Surprise ∷ labels) bare = (tt, bare_go labels bare)
bare_go (Removed ∷ labels) bare = (tt, bare_go labels bare)

-- the answers of a step go with its labels, where none waited before
of_left : (reply : Reply) (labels : List Label) (before after : List Answer) → before ≡ [] → AreRising (map answer_number after)
    → ComeToWait (answers_in labels) before after ⊎ IsSaidAlone reply (answers_in labels) before after → GoWith labels after
of_left reply labels before after none rising (inl h) =
    let all : IsPermutation after (answers_in labels) =
    subst (IsPermutation after) (ap (λ (xs : List Answer). answers_in labels ++ xs) none ∙ append-nil (answers_in labels)) h.wait in
    subst (GoWith labels) (sym (rising_same after (answers_in labels) rising h.rising all)) (told_go labels)
of_left reply labels before after none rising (inr h) =
    let same : length before ≡ length after = length_permutation after before h.wait in
    let gone : length before ≡ 0 = ap length none in
    let empty : after ≡ [] = nil_from_length after (omega (arith, same, gone)) in
    subst (GoWith labels) (sym empty) (bare_go labels (subst AreBare (sym h.one) (h.no_bytes, tt)))

-- what a step of an order tells
pub tells : (given : Given) (order : Order) (old : ManagerView) (shown : Reply) (new : ManagerView) → IsAllTaken old → StepsKeepRules → StepsLeaveAnswers
    → FitsTogether new → IsCarriedOutFor given order old shown new → Tells given order old shown new
tells given order old shown new taken keep leave whole h = by h.1
  where
    by : IsCarriedOut given order old h.0 new → Tells given order old shown new
    by (inl stepped) = record {
      carried = h;
      answers = of_left h.0 new.labels old.answers new.answers taken.answers whole.rising (leave old stepped.event h.0 new stepped.right);
      same_rules = keep old stepped.event h.0 new stepped.right;
    }
    by (inr stays) = record {
      carried = h;
      answers = subst (λ (v : ManagerView). GoWith v.labels v.answers) (sym stays.1)
          (subst (λ (labels : List Label). GoWith labels old.answers) (sym taken.labels) taken.answers);
      same_rules = ap (λ (v : ManagerView). v.rules) stays.1;
    }
