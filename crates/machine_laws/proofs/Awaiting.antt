-- The numbers that wait for an answer, label by label.
use Rattle.machine_laws.proofs.Common.{◌≡◌, inl, inr, ℕ, ◌+◌, Bool, true, false, List, [], ◌∷◌, ◌++◌, Option, Some, None, refl, sym, ◌∙◌, ap, subst, arith, map, length, append-nil, Contains-append_left, Contains-append_right, IsPermutation-refl, IsPermutation-sym, IsPermutation-trans, IsPermutation-cons, IsPermutation-map, IsPermutation-middle, IsPermutation-append_left, IsPermutation-append_right, Contains-permutation, NtStatus, DeviceLabel, Start, Act, Fault, Return, ClientRequest, Label, Call, Device, Answer, Cancel, Pause, Resume, Remove, Surprise, Removed, Rules, OpenRequest, Owed, State, refusal, Admits, held_back, beyond, as_timely, request_number, DeviceStep, FreeStep, OwingStep, Step, Run, call_numbers, AreFrom, CallsRise, CallsCount, answer_numbers, owed_number, awaited, CallsAwait, AnswersWereCalled, CallsAreAnswered}
use Rattle.std.specs.Prelude.{IsPermutation, Contains, IsNone, if◌then◌else◌}
use Rattle.machine_laws.proofs.Going.{run_splits}

-- NUMBERS

abbrev numbers : List OpenRequest → List ℕ
numbers os = map request_number os

-- what each label does to the numbers that wait
abbrev pub AwaitsBy : Label → List ℕ → List ℕ → Type 0
AwaitsBy (Call number q) before after = IsPermutation after (number ∷ before)
AwaitsBy (Answer number status informed bytes) before after = IsPermutation before (number ∷ after)
AwaitsBy _ before after = IsPermutation after before

-- open requests whose numbers are these, with the same answer owed
same_awaited : (s s' : State) (os : List OpenRequest) → s'.owed ≡ s.owed → IsPermutation s'.requests os
    → IsPermutation (numbers os) (numbers s.requests) → IsPermutation (awaited s') (awaited s)
same_awaited s s' os e p q =
    rw e (IsPermutation-append_right (owed_number s.owed) _ _ (IsPermutation-trans _ _ _ (IsPermutation-map request_number _ _ p) q))

-- none is owed
free_awaited : (s : State) → IsNone s.owed → awaited s ≡ numbers s.requests
free_awaited s free = none s.owed free
  where
    none : (owed : Option Owed) → IsNone owed → owed_number owed ++ numbers s.requests ≡ numbers s.requests
    none None h = refl
    none (Some owed) h = cc (h)

each_same : (f : OpenRequest → OpenRequest) → ((o : OpenRequest) → (f o).number ≡ o.number) → (xs : List OpenRequest)
    → numbers (map f xs) ≡ numbers xs
each_same f e [] = refl
each_same f e (x ∷ xs) = cc (e x, each_same f e xs)

held_same : (window : Option ℕ) (xs : List OpenRequest) → numbers (held_back window xs) ≡ numbers xs
held_same None xs = refl
held_same (Some window) xs = each_same (beyond window xs) (λ o. refl) xs

-- STEPS

-- one of them changed but for its number
turned : (xs : List OpenRequest) (o : OpenRequest) (others : List OpenRequest) → IsPermutation xs (o ∷ others)
    → IsPermutation (o.number ∷ numbers others) (numbers xs)
turned xs o others p = IsPermutation-sym _ _ (IsPermutation-map request_number _ _ p)

in_order : (xs ys : List ℕ) → xs ≡ ys → IsPermutation xs ys
in_order xs ys e = rw e (IsPermutation-refl ys)

module _ (rules : Rules) where
  DeviceStep-awaits : (s : State) (label : DeviceLabel) (s' : State) → DeviceStep rules s label s' → IsPermutation (awaited s') (awaited s)
  DeviceStep-awaits s (Start number tag block) s' h =
      same_awaited s s' _ h.after.owed h.after.requests (turned s.requests h.owner h.others h.is_open)
  DeviceStep-awaits s (Act number bytes) s' h = same_awaited s s' _ h.after.owed h.after.requests (IsPermutation-refl _)
  DeviceStep-awaits s (Fault number) s' h = same_awaited s s' _ h.after.owed h.after.requests (IsPermutation-refl _)
  DeviceStep-awaits s (Return number class) s' h =
      same_awaited s s' _ h.after.owed h.after.requests (turned s.requests h.owner h.others h.is_open)

  Admits-awaits : (s : State) (number : ℕ) (q : ClientRequest) (answer : Option NtStatus) (s' : State) → IsNone s.owed
      → Admits rules s number q answer s' → IsPermutation (awaited s') (number ∷ awaited s)
  Admits-awaits s number q None s' free h =
      let none : awaited s ≡ numbers s.requests = free_awaited s free in
      let none' : awaited s' ≡ numbers s'.requests = free_awaited s' (rw h.after.owed free) in
      rw (none, none') (IsPermutation-map request_number _ _ h.after.requests)
  Admits-awaits s number q (Some status) s' free h =
      let none : awaited s ≡ numbers s.requests = free_awaited s free in
      rw (none, h.after.owed) (IsPermutation-cons number _ _ (IsPermutation-map request_number _ _ h.after.requests))

  FreeStep-awaits : (s : State) (label : Label) (s' : State) → IsNone s.owed → FreeStep rules s label s'
      → AwaitsBy label (awaited s) (awaited s')
  FreeStep-awaits s (Call number q) s' free h = Admits-awaits s number q (refusal rules s q) s' free h.admits
  FreeStep-awaits s (Device label) s' free h = DeviceStep-awaits s label s' h
  FreeStep-awaits s (Answer number status informed bytes) s' free h =
      let none : awaited s ≡ numbers s.requests = free_awaited s free in
      let none' : awaited s' ≡ numbers s'.requests = free_awaited s' (rw h.answers.after.owed free) in
      let gone : IsPermutation (numbers s.requests) (h.answers.request.number ∷ numbers h.answers.others) =
      IsPermutation-map request_number _ _ h.answers.is_open in
      let left : IsPermutation (numbers h.answers.others) (numbers s'.requests) =
      IsPermutation-sym _ _ (IsPermutation-map request_number _ _ h.answers.after.requests) in
      rw (none, none', sym h.answers.is_number) (IsPermutation-trans _ _ _ gone (IsPermutation-cons h.answers.request.number _ _ left))
  FreeStep-awaits s (Cancel number) s' free h =
      same_awaited s s' _ h.after.owed h.after.requests (turned s.requests h.request h.others h.is_open)
  FreeStep-awaits s Pause s' free h = same_awaited s s' _ h.after.owed h.after.requests (in_order _ _ (held_same rules.window s.requests))
  FreeStep-awaits s Resume s' free h =
      same_awaited s s' _ h.after.owed h.after.requests (in_order _ _ (each_same as_timely (λ o. refl) s.requests))
  FreeStep-awaits s Remove s' free h = same_awaited s s' _ h.after.owed h.after.requests (IsPermutation-refl _)
  FreeStep-awaits s Surprise s' free h = same_awaited s s' _ h.drains.owed h.drains.requests (in_order _ _ (by_pause s.paused))
    where
      by_pause : (paused : Bool) → numbers (if paused then s.requests else held_back rules.window s.requests) ≡ numbers s.requests
      by_pause true = refl
      by_pause false = held_same rules.window s.requests
  FreeStep-awaits s Removed s' free h = same_awaited s s' _ h.after.owed h.after.requests (IsPermutation-refl _)

  OwingStep-awaits : (s : State) (label : Label) (s' : State) → OwingStep s label s' → AwaitsBy label (awaited s) (awaited s')
  OwingStep-awaits s (Answer number status informed bytes) s' h =
      rw (h.is_owed, h.after.owed)
      (IsPermutation-cons number _ _ (IsPermutation-sym _ _ (IsPermutation-map request_number _ _ h.after.requests)))
  OwingStep-awaits s _ s' h = absurd h

  Step-awaits : (s : State) (label : Label) (s' : State) → Step rules s label s' → AwaitsBy label (awaited s) (awaited s')
  Step-awaits s label s' (inl h) = FreeStep-awaits s label s' h.0 h.1
  Step-awaits s label s' (inr h) = OwingStep-awaits s label s' h

-- RUNS

pub calls_await : CallsAwait
calls_await rules s [] s' run =
    rw (append-nil (awaited s)) (same_awaited s' s _ run.owed run.requests (IsPermutation-refl _))
calls_await rules s (Call number q ∷ labels) s' (mid, step, rest) =
    let more : IsPermutation (awaited mid) (number ∷ awaited s) = Step-awaits rules s (Call number q) mid step in
    let first : IsPermutation (awaited s ++ number ∷ call_numbers labels) (number ∷ (awaited s ++ call_numbers labels)) =
    IsPermutation-middle (awaited s) number (call_numbers labels) in
    IsPermutation-trans _ _ _
    (IsPermutation-trans _ _ _ first (IsPermutation-append_left (call_numbers labels) _ _ (IsPermutation-sym _ _ more)))
    (calls_await rules mid labels s' rest)
calls_await rules s (Answer number status informed bytes ∷ labels) s' (mid, step, rest) =
    let fewer : IsPermutation (awaited s) (number ∷ awaited mid) = Step-awaits rules s (Answer number status informed bytes) mid step in
    IsPermutation-trans _ _ _ (IsPermutation-append_left (call_numbers labels) _ _ fewer)
    (IsPermutation-cons number _ _ (calls_await rules mid labels s' rest))
calls_await rules s (label ∷ labels) s' (mid, step, rest) =
    IsPermutation-trans _ _ _
    (IsPermutation-append_left (call_numbers labels) _ _ (IsPermutation-sym _ _ (Step-awaits rules s label mid step)))
    (calls_await rules mid labels s' rest)

-- FIRST THE CALL, THEN THE ANSWER

contains_first : {X : Type 0} (x : X) (xs : List X) → Contains (x ∷ xs) x
contains_first x xs = (0, omega arith, refl)

pub answers_were_called : AnswersWereCalled
answers_were_called rules s before r status informed bytes after s' none run =
    let parts : (mid : State) × Run rules s before mid × Run rules mid (Answer r status informed bytes ∷ after) s' =
    run_splits rules s before _ s' run in
    let taken : IsPermutation (awaited parts.0) (r ∷ awaited parts.2.0) =
    Step-awaits rules parts.0 (Answer r status informed bytes) parts.2.0 parts.2.1 in
    let waits : Contains (awaited parts.0) r = Contains-permutation _ _ r (IsPermutation-sym _ _ taken) (contains_first r _) in
    let all : IsPermutation (awaited s ++ call_numbers before) (answer_numbers before ++ awaited parts.0) =
    calls_await rules s before parts.0 parts.1 in
    subst (λ xs. Contains (xs ++ call_numbers before) r) none
    (Contains-permutation _ _ r (IsPermutation-sym _ _ all) (Contains-append_right (answer_numbers before) (awaited parts.0) r waits))

pub calls_are_answered : CallsAreAnswered
calls_are_answered rules s before r q after s' none run =
    let parts : (mid : State) × Run rules s before mid × Run rules mid (Call r q ∷ after) s' = run_splits rules s before _ s' run in
    let more : IsPermutation (awaited parts.2.0) (r ∷ awaited parts.0) = Step-awaits rules parts.0 (Call r q) parts.2.0 parts.2.1 in
    let waits : Contains (awaited parts.2.0) r = Contains-permutation _ _ r (IsPermutation-sym _ _ more) (contains_first r _) in
    let all : IsPermutation (awaited parts.2.0 ++ call_numbers after) (answer_numbers after ++ awaited s') =
    calls_await rules parts.2.0 after s' parts.2.2 in
    let there : Contains (answer_numbers after ++ []) r =
    subst (λ xs. Contains (answer_numbers after ++ xs) r) none
    (Contains-permutation _ _ r all (Contains-append_left (awaited parts.2.0) (call_numbers after) r waits)) in
    subst (λ xs. Contains xs r) (append-nil (answer_numbers after)) there

-- NUMBERS RISE

-- a call takes the next number, and no other label does
abbrev TakesBy : Label → ℕ → ℕ → Type 0
TakesBy (Call number q) before after = (number ≡ before) × (after ≡ before + 1)
TakesBy _ before after = after ≡ before

Admits-takes : (rules : Rules) (s : State) (number : ℕ) (q : ClientRequest) (answer : Option NtStatus) (s' : State)
    → number ≡ s.next_request → Admits rules s number q answer s' → s'.next_request ≡ s.next_request + 1
Admits-takes rules s number q None s' e h = h.after.next_request ∙ ap (λ n. n + 1) e
Admits-takes rules s number q (Some status) s' e h = h.after.next_request ∙ ap (λ n. n + 1) e

DeviceStep-takes : (rules : Rules) (s : State) (label : DeviceLabel) (s' : State) → DeviceStep rules s label s'
    → s'.next_request ≡ s.next_request
DeviceStep-takes rules s (Start number tag block) s' h = h.after.next_request
DeviceStep-takes rules s (Act number bytes) s' h = h.after.next_request
DeviceStep-takes rules s (Fault number) s' h = h.after.next_request
DeviceStep-takes rules s (Return number class) s' h = h.after.next_request

FreeStep-takes : (rules : Rules) (s : State) (label : Label) (s' : State) → FreeStep rules s label s'
    → TakesBy label s.next_request s'.next_request
FreeStep-takes rules s (Call number q) s' h = (h.next_number, Admits-takes rules s number q (refusal rules s q) s' h.next_number h.admits)
FreeStep-takes rules s (Device label) s' h = DeviceStep-takes rules s label s' h
FreeStep-takes rules s (Answer number status informed bytes) s' h = h.answers.after.next_request
FreeStep-takes rules s (Surprise) s' h = h.drains.next_request
FreeStep-takes rules s (Cancel number) s' h = h.after.next_request
FreeStep-takes rules s Pause s' h = h.after.next_request
FreeStep-takes rules s Resume s' h = h.after.next_request
FreeStep-takes rules s Remove s' h = h.after.next_request
FreeStep-takes rules s Removed s' h = h.after.next_request

OwingStep-takes : (s : State) (label : Label) (s' : State) → OwingStep s label s' → TakesBy label s.next_request s'.next_request
OwingStep-takes s (Answer number status informed bytes) s' h = h.after.next_request
OwingStep-takes s _ s' h = absurd h

Step-takes : (rules : Rules) (s : State) (label : Label) (s' : State) → Step rules s label s' → TakesBy label s.next_request s'.next_request
Step-takes rules s label s' (inl h) = FreeStep-takes rules s label s' h.1
Step-takes rules s label s' (inr h) = OwingStep-takes s label s' h

pub calls_rise : CallsRise
calls_rise rules s [] s' run = tt
calls_rise rules s (Call number q ∷ labels) s' (mid, step, rest) =
    let takes : (number ≡ s.next_request) × (mid.next_request ≡ s.next_request + 1) = Step-takes rules s (Call number q) mid step in
    (takes.0, subst (λ n. AreFrom n (call_numbers labels)) takes.1 (calls_rise rules mid labels s' rest))
calls_rise rules s (label ∷ labels) s' (mid, step, rest) =
    subst (λ n. AreFrom n (call_numbers labels)) (Step-takes rules s label mid step) (calls_rise rules mid labels s' rest)

pub calls_count : CallsCount
calls_count rules s [] s' run = let e : s.next_request ≡ s'.next_request = run.next_request in omega arith
calls_count rules s (Call number q ∷ labels) s' (mid, step, rest) =
    let takes : (number ≡ s.next_request) × (mid.next_request ≡ s.next_request + 1) = Step-takes rules s (Call number q) mid step in
    let e : mid.next_request ≡ s.next_request + 1 = takes.1 in
    let later : s'.next_request ≡ mid.next_request + length (call_numbers labels) = calls_count rules mid labels s' rest in
    omega arith
calls_count rules s (label ∷ labels) s' (mid, step, rest) =
    let e : mid.next_request ≡ s.next_request = Step-takes rules s label mid step in
    let later : s'.next_request ≡ mid.next_request + length (call_numbers labels) = calls_count rules mid labels s' rest in
    omega arith
