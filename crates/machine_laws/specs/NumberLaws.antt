-- The numbers of calls and of answers along a run.
use Rattle.std.specs.Prelude.{◌≡◌, ◌≢◌, ℕ, ◌+◌, List, [], ◌∷◌, ◌++◌, Option, Some, None, map, length, All, Contains, IsPermutation, IsNone}
use Rattle.ntstatus.specs.declared.NtStatus.{NtStatus}
use Rattle.machine.specs.declared.ClientRequest.{ClientRequest}
use Rattle.machine.specs.declared.Label.{Label}
use Rattle.srb.specs.declared.DeviceLabel.TheVariants.{Start}
use Rattle.machine.specs.declared.Label.TheVariants.{Call, Device, Answer}
use Rattle.machine.specs.Rules.{Rules}
use Rattle.machine.specs.State.{Owed, State}
use Rattle.machine.specs.Numbers.{AreDistinct, request_number}
use Rattle.machine.specs.Step.{Run}

-- NO NUMBER TWICE

-- the label is no call of this number
abbrev pub IsNoCallOf : ℕ → Label → Type 0
IsNoCallOf r (Call number q) = number ≢ r
IsNoCallOf r _ = Unit {0}

-- the label is no answer of this number
abbrev pub IsNoAnswerOf : ℕ → Label → Type 0
IsNoAnswerOf r (Answer number status informed bytes) = number ≢ r
IsNoAnswerOf r _ = Unit {0}

-- no number is given to two calls
abbrev pub CallsOnce : Type 0
CallsOnce = (rules : Rules) (s : State) (before : List Label) (r : ℕ) (q : ClientRequest) (after : List Label) (s' : State)
    → Run rules s (before ++ Call r q ∷ after) s' → All (IsNoCallOf r) after

-- what is answered is never answered again, where at first nothing is owed and the open requests have numbers of their own
abbrev pub AnswersOnce : Type 0
AnswersOnce = (rules : Rules) (s : State) → AreDistinct s → IsNone s.owed → (before : List Label) (r : ℕ) (status : NtStatus) (informed : ℕ) (bytes : List ℕ) (after : List Label) (s' : State)
    → Run rules s (before ++ Answer r status informed bytes ∷ after) s' → All (IsNoAnswerOf r) after

-- no piece starts twice: two starts of one piece say the same
abbrev pub StartsOnce : Type 0
StartsOnce = (rules : Rules) (s : State) (labels : List Label) (s' : State) → Run rules s labels s' → (piece tag other : ℕ) (block same : List ℕ)
    → Contains labels (Device (Start piece tag block)) → Contains labels (Device (Start piece other same)) → (tag ≡ other) × (block ≡ same)

-- NUMBERS RISE

-- the numbers of the calls, in order
abbrev pub call_numbers : List Label → List ℕ
call_numbers [] = []
call_numbers (Call number q ∷ labels) = number ∷ call_numbers labels
call_numbers (_ ∷ labels) = call_numbers labels

-- one after the other, from this number on
abbrev pub AreFrom : ℕ → List ℕ → Type 0
AreFrom first [] = Unit {0}
AreFrom first (number ∷ numbers) = (number ≡ first) × AreFrom (first + 1) numbers

-- each call takes the next number
abbrev pub CallsRise : Type 0
CallsRise = (rules : Rules) (s : State) (labels : List Label) (s' : State) → Run rules s labels s'
    → AreFrom s.next_request (call_numbers labels)

-- only calls take a request number
abbrev pub CallsCount : Type 0
CallsCount = (rules : Rules) (s : State) (labels : List Label) (s' : State) → Run rules s labels s'
    → s'.next_request ≡ s.next_request + length (call_numbers labels)

-- CALLS AND ANSWERS

-- the numbers of the answers, in order
abbrev pub answer_numbers : List Label → List ℕ
answer_numbers [] = []
answer_numbers (Answer number status informed bytes ∷ labels) = number ∷ answer_numbers labels
answer_numbers (_ ∷ labels) = answer_numbers labels

-- the number of the answer that is owed, if one is
abbrev pub owed_number : Option Owed → List ℕ
owed_number None = []
owed_number (Some owed) = owed.number ∷ []

-- the numbers that wait for their answer: of the open requests, and of the call that was refused
abbrev pub awaited : State → List ℕ
awaited s = owed_number s.owed ++ map request_number s.requests

-- each call adds its number to those that wait, and each answer takes its own away; no other label changes them
abbrev pub CallsAwait : Type 0
CallsAwait = (rules : Rules) (s : State) (labels : List Label) (s' : State) → Run rules s labels s'
    → IsPermutation (awaited s ++ call_numbers labels) (answer_numbers labels ++ awaited s')

-- where no request waits at first, what is answered was called before
abbrev pub AnswersWereCalled : Type 0
AnswersWereCalled = (rules : Rules) (s : State) (before : List Label) (r : ℕ) (status : NtStatus) (informed : ℕ) (bytes : List ℕ)
    (after : List Label) (s' : State)
    → awaited s ≡ [] → Run rules s (before ++ Answer r status informed bytes ∷ after) s' → Contains (call_numbers before) r

-- where no request waits at last, what was called is answered behind its call
abbrev pub CallsAreAnswered : Type 0
CallsAreAnswered = (rules : Rules) (s : State) (before : List Label) (r : ℕ) (q : ClientRequest) (after : List Label) (s' : State)
    → awaited s' ≡ [] → Run rules s (before ++ Call r q ∷ after) s' → Contains (answer_numbers after) r
