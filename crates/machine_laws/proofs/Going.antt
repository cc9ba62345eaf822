-- From an opening state on, and from a call to its answer.
use Rattle.machine_laws.proofs.Common.{◌≡◌, ◌≢◌, ◌<◌, inl, inr, ℕ, List, [], ◌∷◌, ◌++◌, Option, Some, None, refl, subst, arith, IsNone, lt_of_lt_of_le, NtStatus, DeviceLabel, Start, Act, Fault, Return, ClientRequest, Label, Call, Device, Answer, Cancel, Pause, Resume, Remove, Surprise, Removed, Rules, opening, Owed, State, refusal, Admits, Opens, Answers, FreeStep, OwingStep, Step, Run, IsSame-refl, Run-append, Step-number, OpeningsAreReached, RunsGoOn, RunsSplit, LabelsAreOfOne}

pub opening_is_reached : OpeningsAreReached
opening_is_reached rules arrays whole = record { arrays = arrays; labels = []; whole = whole; run = IsSame-refl (opening arrays) }

pub run_goes_on : RunsGoOn
run_goes_on rules s labels s' reached run = record {
  arrays = reached.arrays;
  labels = reached.labels ++ labels;
  whole = reached.whole;
  run = Run-append rules (opening reached.arrays) reached.labels s labels s' reached.run run;
}

pub run_splits : RunsSplit
run_splits rules s [] ys s' run = (s, IsSame-refl s, run)
run_splits rules s (x ∷ xs) ys s' run =
    let rest : (mid : State) × Run rules run.0 xs mid × Run rules mid ys s' = run_splits rules run.0 xs ys s' run.2 in
    (rest.0, (run.0, run.1, rest.1), rest.2)

-- WHO IS OWED AN ANSWER

-- the answer owed, if any, is not that number's
abbrev pub IsNotOwed : ℕ → Option Owed → Type 0
IsNotOwed number None = Unit {0}
IsNotOwed number (Some o) = o.number ≢ number

pub none_owed : (number : ℕ) (owed : Option Owed) → IsNone owed → IsNotOwed number owed
none_owed number None free = tt
none_owed number (Some o) free = cc (free)

admits_owed : (rules : Rules) (s : State) (number n : ℕ) (q : ClientRequest) (answer : Option NtStatus) (s' : State) → IsNone s.owed → number < n → Admits rules s n q answer s' → IsNotOwed number s'.owed
admits_owed rules s number n q None s' free low h = rw h.after.owed (none_owed number s.owed free)
admits_owed rules s number n q (Some status) s' free low h = rw h.after.owed (above low)
  where
    above : {a b : ℕ} → a < b → b ≢ a
    above low e = absurd (omega arith)

pub device_owed : (rules : Rules) (s : State) (label : DeviceLabel) (s' : State) → FreeStep rules s (Device label) s' → s'.owed ≡ s.owed
device_owed rules s (Start n tag block) s' h = h.after.owed
device_owed rules s (Act n bytes) s' h = h.after.owed
device_owed rules s (Fault n) s' h = h.after.owed
device_owed rules s (Return n class) s' h = h.after.owed

free_owed : (rules : Rules) (s : State) (number : ℕ) (label : Label) (s' : State) → IsNone s.owed → number < s.next_request → FreeStep rules s label s' → IsNotOwed number s'.owed
free_owed rules s number (Call n q) s' free low h = admits_owed rules s number n q (refusal rules s q) s' free (rw h.next_number low) h.admits
free_owed rules s number (Device label) s' free low h = rw (device_owed rules s label s' h) (none_owed number s.owed free)
free_owed rules s number (Answer n status informed bytes) s' free low h = rw h.answers.after.owed (none_owed number s.owed free)
free_owed rules s number (Cancel n) s' free low h = rw h.after.owed (none_owed number s.owed free)
free_owed rules s number Pause s' free low h = rw h.after.owed (none_owed number s.owed free)
free_owed rules s number Resume s' free low h = rw h.after.owed (none_owed number s.owed free)
free_owed rules s number Remove s' free low h = rw h.after.owed (none_owed number s.owed free)
free_owed rules s number Surprise s' free low h = rw h.drains.owed (none_owed number s.owed free)
free_owed rules s number Removed s' free low h = rw h.after.owed (none_owed number s.owed free)

owing_owed : (s : State) (number : ℕ) (label : Label) (s' : State) → OwingStep s label s' → IsNotOwed number s'.owed
owing_owed s number (Answer n status informed bytes) s' h = rw h.after.owed tt
owing_owed s number _ s' h = absurd h

pub step_owed : (rules : Rules) (s : State) (number : ℕ) (label : Label) (s' : State) → number < s.next_request → Step rules s label s' → IsNotOwed number s'.owed
step_owed rules s number label s' low (inl h) = free_owed rules s number label s' h.0 low h.1
step_owed rules s number label s' low (inr h) = owing_owed s number label s' h

run_owed : (rules : Rules) (s : State) (number : ℕ) (labels : List Label) (s' : State) → number < s.next_request → IsNotOwed number s.owed → Run rules s labels s' → IsNotOwed number s'.owed
run_owed rules s number [] s' low owed run = rw (← run.owed) owed
run_owed rules s number (label ∷ labels) s' low owed run =
    run_owed rules run.0 number labels s' (lt_of_lt_of_le low (Step-number rules s label run.0 run.1)) (step_owed rules s number label run.0 low run.1) run.2

-- FROM A CALL TO ITS ANSWER

-- a call that isn't refused opens its request
call_opens : (rules : Rules) (s : State) (number : ℕ) (q : ClientRequest) (s' : State) → refusal rules s q ≡ None → Step rules s (Call number q) s' → IsNone s.owed × Opens rules s number q s'
call_opens rules s number q s' admitted (inl h) = (h.0, subst (λ answer. Admits rules s number q answer s') admitted h.1.admits)
call_opens rules s number q s' admitted (inr h) = absurd h

-- the answer of a request that was not refused is the open one's
answer_of_open : (rules : Rules) (s : State) (number : ℕ) (status : NtStatus) (informed : ℕ) (bytes : List ℕ) (s' : State) → IsNotOwed number s.owed → Step rules s (Answer number status informed bytes) s' → Answers rules s number status bytes s'
answer_of_open rules s number status informed bytes s' owed (inl h) = h.1.answers
answer_of_open rules s number status informed bytes s' owed (inr h) =
    let wrong : IsNotOwed number (Some (record { number = number; status = status })) = rw h.is_owed at owed in
    absurd (wrong refl)

pub labels_are_of_one : LabelsAreOfOne
labels_are_of_one rules number q status informed bytes before called labels ended after admitted call run answer =
    let opened : IsNone before.owed × Opens rules before number q called = call_opens rules before number q called admitted call in
    let given : number < called.next_request = rw opened.1.after.next_request (omega arith) in
    let owed : IsNotOwed number called.owed = rw opened.1.after.owed (none_owed number before.owed opened.0) in
    (opened.1, answer_of_open rules ended number status informed bytes after (run_owed rules called number labels ended given owed run) answer)
