-- No number is given to two calls, and no call is answered twice.
use Rattle.machine_laws.proofs.Common.{◌≡◌, ◌<◌, ◌≤◌, inl, inr, ℕ, List, [], ◌∷◌, ◌++◌, Option, Some, None, refl, sym, ◌∙◌, subst, arith, IsNone, All, Contains, IsPermutation-sym, All-permutation, All-nil, All-cons, All-head, All-weaker, All-contains, NtStatus, ClientRequest, Label, Call, Device, Answer, Cancel, Pause, Resume, Remove, Surprise, Removed, Rules, OpenRequest, Owed, State, refusal, Admits, FreeStep, OwingStep, Step, Run, IsGiven, AreDistinct, IsNoCallOf, IsNoAnswerOf, CallsOnce, AnswersOnce, Step-number, AreDistinct-Step, HasOtherNumber}
use Rattle.machine_laws.proofs.Ending.{IsGone, IsGone-Step, answered_gone}
use Rattle.machine_laws.proofs.Going.{IsNotOwed, none_owed, device_owed, step_owed}

-- CALLS

FreeStep-no_call : (rules : Rules) (r : ℕ) (s : State) (label : Label) (s' : State) → r < s.next_request → FreeStep rules s label s' → IsNoCallOf r label
FreeStep-no_call rules r s (Call number q) s' given h = λ e. let n : number ≡ s.next_request = h.next_number in absurd (omega arith)
FreeStep-no_call rules r s _ s' given h = tt

OwingStep-no_call : (r : ℕ) (s : State) (label : Label) (s' : State) → OwingStep s label s' → IsNoCallOf r label
OwingStep-no_call r s (Answer number status informed bytes) s' h = tt
OwingStep-no_call r s _ s' h = absurd h

Step-no_call : (rules : Rules) (r : ℕ) (s : State) (label : Label) (s' : State) → r < s.next_request → Step rules s label s' → IsNoCallOf r label
Step-no_call rules r s label s' given (inl h) = FreeStep-no_call rules r s label s' given h.1
Step-no_call rules r s label s' given (inr h) = OwingStep-no_call r s label s' h

Run-no_call : (rules : Rules) (r : ℕ) (s : State) (labels : List Label) (s' : State) → r < s.next_request → Run rules s labels s' → All (IsNoCallOf r) labels
Run-no_call rules r s [] s' given h = All-nil (IsNoCallOf r)
Run-no_call rules r s (label ∷ labels) s' given (mid, step, rest) =
    let later : s.next_request ≤ mid.next_request = Step-number rules s label mid step in
    All-cons (IsNoCallOf r) label labels (Step-no_call rules r s label mid given step) (Run-no_call rules r mid labels s' (omega arith) rest)

called_number : (rules : Rules) (s : State) (r : ℕ) (q : ClientRequest) (mid : State) → Step rules s (Call r q) mid → r < mid.next_request
called_number rules s r q mid (inl (free, h)) = admitted (refusal rules s q) h.admits
  where
    admitted : (answer : Option NtStatus) → Admits rules s r q answer mid → r < mid.next_request
    admitted None a = rw a.after.next_request (omega arith)
    admitted (Some status) a = rw a.after.next_request (omega arith)
called_number rules s r q mid (inr none) = absurd none

pub calls_once : CallsOnce
calls_once rules s [] r q after s' (mid, step, rest) = Run-no_call rules r mid after s' (called_number rules s r q mid step) rest
calls_once rules s (label ∷ before) r q after s' (mid, step, rest) = calls_once rules mid before r q after s' rest

-- ANSWERS

-- a number that was given, and is neither open nor owed an answer
pub record IsSpent (r : ℕ) (s : State) : Type 0 where
  pub gone : IsGone r s
  pub not_owed : IsNotOwed r s.owed

module _ (rules : Rules) (r : ℕ) where
  IsSpent-Step : (s : State) (label : Label) (s' : State) → IsSpent r s → Step rules s label s' → IsSpent r s'
  IsSpent-Step s label s' k h = record { gone = IsGone-Step r rules s label s' k.gone h; not_owed = step_owed rules s r label s' k.gone.given h }

  FreeStep-no_answer : (s : State) (label : Label) (s' : State) → IsSpent r s → FreeStep rules s label s' → IsNoAnswerOf r label
  FreeStep-no_answer s (Answer number status informed bytes) s' k h = λ e. All-head (HasOtherNumber r) h.answers.request h.answers.others (All-permutation (HasOtherNumber r) _ _ h.answers.is_open k.gone.not_open) (h.answers.is_number ∙ e)
  FreeStep-no_answer s _ s' k h = tt

  OwingStep-no_answer : (s : State) (label : Label) (s' : State) → IsSpent r s → OwingStep s label s' → IsNoAnswerOf r label
  OwingStep-no_answer s (Answer number status informed bytes) s' k h = subst (λ owed. IsNotOwed r owed) h.is_owed k.not_owed
  OwingStep-no_answer s _ s' k h = absurd h

  Step-no_answer : (s : State) (label : Label) (s' : State) → IsSpent r s → Step rules s label s' → IsNoAnswerOf r label
  Step-no_answer s label s' k (inl h) = FreeStep-no_answer s label s' k h.1
  Step-no_answer s label s' k (inr h) = OwingStep-no_answer s label s' k h

  Run-no_answer : (s : State) (labels : List Label) (s' : State) → IsSpent r s → Run rules s labels s' → All (IsNoAnswerOf r) labels
  Run-no_answer s [] s' k h = All-nil (IsNoAnswerOf r)
  Run-no_answer s (label ∷ labels) s' k (mid, step, rest) =
      All-cons (IsNoAnswerOf r) label labels (Step-no_answer s label mid k step) (Run-no_answer mid labels s' (IsSpent-Step s label mid k step) rest)

-- the owed answer is of a number that was given, and that no open request has
abbrev pub IsOwedApart : State → Option Owed → Type 0
IsOwedApart s None = Unit {0}
IsOwedApart s (Some owed) = (owed.number < s.next_request) × All (HasOtherNumber owed.number) s.requests

pub record AreApart (s : State) : Type 0 where
  pub distinct : AreDistinct s
  pub owed : IsOwedApart s s.owed

none_owed_apart : (s : State) (owed : Option Owed) → IsNone owed → IsOwedApart s owed
none_owed_apart s None h = tt
none_owed_apart s (Some owed) h = cc (h)

pub AreApart-start : (s : State) → AreDistinct s → IsNone s.owed → AreApart s
AreApart-start s d free = record { distinct = d; owed = none_owed_apart s s.owed free }

module _ (rules : Rules) where
  owed_apart : (s : State) (number : ℕ) (q : ClientRequest) (answer : Option NtStatus) (s' : State) → AreApart s → IsNone s.owed → number ≡ s.next_request → Admits rules s number q answer s' → IsOwedApart s' s'.owed
  owed_apart s number q None s' k free e h = none_owed_apart s' s'.owed (rw h.after.owed free)
  owed_apart s number q (Some status) s' k free e h =
      let others : All (HasOtherNumber number) s.requests = All-weaker (IsGiven s.next_request) (HasOtherNumber number) (λ o low same. other o.number low same) s.requests k.distinct.given in
      rw h.after.owed (rw h.after.next_request (omega arith), All-permutation (HasOtherNumber number) _ _ (IsPermutation-sym _ _ h.after.requests) others)
    where
      other : (n : ℕ) → n < s.next_request → n ≡ number → ⊥
      other n low same = absurd (omega arith)

  FreeStep-owed : (s : State) (label : Label) (s' : State) → AreApart s → IsNone s.owed → FreeStep rules s label s' → IsOwedApart s' s'.owed
  FreeStep-owed s (Call number q) s' k free h = owed_apart s number q (refusal rules s q) s' k free h.next_number h.admits
  FreeStep-owed s (Device label) s' k free h = none_owed_apart s' s'.owed (rw (device_owed rules s label s' h) free)
  FreeStep-owed s (Answer number status informed bytes) s' k free h = none_owed_apart s' s'.owed (rw h.answers.after.owed free)
  FreeStep-owed s (Cancel number) s' k free h = none_owed_apart s' s'.owed (rw h.after.owed free)
  FreeStep-owed s Pause s' k free h = none_owed_apart s' s'.owed (rw h.after.owed free)
  FreeStep-owed s Resume s' k free h = none_owed_apart s' s'.owed (rw h.after.owed free)
  FreeStep-owed s Remove s' k free h = none_owed_apart s' s'.owed (rw h.after.owed free)
  FreeStep-owed s Surprise s' k free h = none_owed_apart s' s'.owed (rw h.drains.owed free)
  FreeStep-owed s Removed s' k free h = none_owed_apart s' s'.owed (rw h.after.owed free)

  OwingStep-owed : (s : State) (label : Label) (s' : State) → OwingStep s label s' → IsOwedApart s' s'.owed
  OwingStep-owed s (Answer number status informed bytes) s' h = none_owed_apart s' s'.owed (rw h.after.owed refl)
  OwingStep-owed s _ s' h = absurd h

  AreApart-Step : (s : State) (label : Label) (s' : State) → AreApart s → Step rules s label s' → AreApart s'
  AreApart-Step s label s' k (inl h) = record { distinct = AreDistinct-Step rules s label s' k.distinct (inl h); owed = FreeStep-owed s label s' k h.0 h.1 }
  AreApart-Step s label s' k (inr h) = record { distinct = AreDistinct-Step rules s label s' k.distinct (inr h); owed = OwingStep-owed s label s' h }

  answered_number : (s : State) (r : ℕ) (status : NtStatus) (informed : ℕ) (bytes : List ℕ) (mid : State) → AreApart s → Step rules s (Answer r status informed bytes) mid → IsSpent r mid
  answered_number s r status informed bytes mid k (inl (free, h)) =
      record { gone = answered_gone rules s r status bytes mid k.distinct h.answers; not_owed = rw h.answers.after.owed (none_owed r s.owed free) }
  answered_number s r status informed bytes mid k (inr h) =
      let apart : (r < s.next_request) × All (HasOtherNumber r) s.requests = subst (λ owed. IsOwedApart s owed) h.is_owed k.owed in
      record {
        gone = record { given = rw h.after.next_request apart.0; not_open = All-permutation (HasOtherNumber r) _ _ (IsPermutation-sym _ _ h.after.requests) apart.1 };
        not_owed = rw h.after.owed tt;
      }

  answers_apart : (before : List Label) (s : State) (r : ℕ) (status : NtStatus) (informed : ℕ) (bytes : List ℕ) (after : List Label) (s' : State)
      → AreApart s → Run rules s (before ++ Answer r status informed bytes ∷ after) s' → All (IsNoAnswerOf r) after
  answers_apart [] s r status informed bytes after s' k (mid, step, rest) = Run-no_answer rules r mid after s' (answered_number s r status informed bytes mid k step) rest
  answers_apart (label ∷ before) s r status informed bytes after s' k (mid, step, rest) = answers_apart before mid r status informed bytes after s' (AreApart-Step s label mid k step) rest

  gone_on : (r : ℕ) (s : State) (labels : List Label) (s' : State) → IsGone r s → Run rules s labels s' → IsGone r s'
  gone_on r s [] s' k same = record { given = rw (← same.next_request) k.given; not_open = All-permutation (HasOtherNumber r) _ _ same.requests k.not_open }
  gone_on r s (label ∷ labels) s' k (mid, step, rest) = gone_on r mid labels s' (IsGone-Step r rules s label mid k step) rest

  -- a request that is open at the end was not answered on the way
  pub open_unanswered : (s : State) (labels : List Label) (s' : State) → AreApart s → Run rules s labels s' → (o : OpenRequest) → Contains s'.requests o → All (IsNoAnswerOf o.number) labels
  open_unanswered s [] s' k run o there = All-nil (IsNoAnswerOf o.number)
  open_unanswered s (label ∷ labels) s' k (mid, step, rest) o there =
      All-cons (IsNoAnswerOf o.number) label labels (by_label label step) (open_unanswered mid labels s' (AreApart-Step s label mid k step) rest o there)
    where
      by_label : (label : Label) → Step rules s label mid → IsNoAnswerOf o.number label
      by_label (Answer r status informed bytes) step = λ e.
          All-contains (HasOtherNumber r) s'.requests o (gone_on r mid labels s' (answered_number s r status informed bytes mid k step).gone rest).not_open there (sym e)
      by_label _ step = tt

pub answers_once : AnswersOnce
answers_once rules s d free before r status informed bytes after s' run = answers_apart rules before s r status informed bytes after s' (AreApart-start s d free) run
