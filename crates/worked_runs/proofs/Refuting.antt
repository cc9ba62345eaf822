-- What a step asks of the request that it names, for each open request.
use Rattle.std.proofs.Common.{◌≡◌, ◌<◌, ◌+◌, ◌-◌, ℕ, List, ◌∷◌, true, false, refl, ap, subst, inl, inr, zero, suc, take, drop, arith}
use Rattle.std.specs.Prelude.{All, IsPermutation, IsNone, is_some, IsTrue, ◌↔◌}
use Rattle.std.specs.List.{AllByRecursion, list_all}
use Rattle.std.proofs.lemmas.List.Sorted.{All-permutation}
use Rattle.std.proofs.lemmas.List.Elements.{All-head, All-from_recursion, recursion_from_All}
use Rattle.ntstatus.specs.declared.NtStatus.{NtStatus}
use Rattle.ntstatus.specs.declared.NtStatus.TheVariants.{Success}
use Rattle.sector.specs.declared.Extent.{Extent}
use Rattle.cdb.specs.Meaning.{Means}
use Rattle.srb.specs.declared.DeviceLabel.TheVariants.{Start}
use Rattle.machine.specs.declared.Label.TheVariants.{Device, Answer}
use Rattle.machine.specs.Rules.{Rules}
use Rattle.machine.specs.State.{Mark, OpenRequest, State}
use Rattle.machine.specs.Sending.{MayStart, IsSendable, IsUnsent, command_for}
use Rattle.machine.specs.Answering.{HasEnded, HasCause, is_done, answer_bytes}
use Rattle.machine.specs.Step.{Step}

-- what holds of each open request holds of the one that a step names
of_each : (P : OpenRequest → Type 0) (xs : List OpenRequest) (y : OpenRequest) (ys : List OpenRequest) → AllByRecursion P xs → IsPermutation xs (y ∷ ys) → P y
of_each P xs y ys each p = All-head P y ys (All-permutation P xs (y ∷ ys) p (All-from_recursion P xs each))

-- the request can't be answered like this
abbrev pub IsNotAnswered : Rules → State → ℕ → NtStatus → List ℕ → OpenRequest → Type 0
IsNotAnswered rules s number status bytes o =
    o.number ≡ number → AllByRecursion (HasEnded rules s o) o.marks → ((status ≡ Success) ↔ IsTrue (list_all is_done o.marks)) → HasCause rules s o o.marks status
    → bytes ≡ answer_bytes o.request.kind o.marks → ⊥

pub never_answered : (rules : Rules) (s : State) (number : ℕ) (status : NtStatus) (informed : ℕ) (bytes : List ℕ) → IsNone s.owed → AllByRecursion (IsNotAnswered rules s number status bytes) s.requests
    → (s' : State) → Step rules s (Answer number status informed bytes) s' → ⊥
never_answered rules s number status informed bytes none each s' (inl (free, h)) =
    of_each (IsNotAnswered rules s number status bytes) s.requests h.answers.request h.answers.others each h.answers.is_open h.answers.is_number (recursion_from_All _ _ h.answers.ended) h.answers.success h.answers.cause h.answers.hands_back
never_answered rules s number status informed bytes none each s' (inr h) =
    let some : is_some s.owed ≡ true = ap is_some h.is_owed in cc

-- no request with a place that isn't done succeeds
pub never_succeeds : (rules : Rules) (s : State) (number : ℕ) → IsNone s.owed → AllByRecursion (λ o. list_all is_done o.marks ≡ false) s.requests
    → (informed : ℕ) (bytes : List ℕ) (s' : State) → Step rules s (Answer number Success informed bytes) s' → ⊥
never_succeeds rules s number none each informed bytes s' (inl (free, h)) =
    let undone : list_all is_done h.answers.request.marks ≡ false = of_each (λ o. list_all is_done o.marks ≡ false) s.requests h.answers.request h.answers.others each h.answers.is_open in
    let done : list_all is_done h.answers.request.marks ≡ true = h.answers.success.0 refl in
    cc (undone, done)
never_succeeds rules s number none each informed bytes s' (inr h) =
    let some : is_some s.owed ≡ true = ap is_some h.is_owed in cc

-- the request can't have a piece started by this command
abbrev pub IsNotStarted : Rules → State → List ℕ → OpenRequest → Type 0
IsNotStarted rules s block o = (places : Extent) → MayStart s o → IsSendable rules o places → Means block (command_for rules o.request places o.request.kind) → ⊥

pub never_started : (rules : Rules) (s : State) (number tag : ℕ) (block : List ℕ) → AllByRecursion (IsNotStarted rules s block) s.requests
    → (s' : State) → Step rules s (Device (Start number tag block)) s' → ⊥
never_started rules s number tag block each s' (inl (free, h)) =
    of_each (IsNotStarted rules s block) s.requests h.owner h.others each h.is_open h.places h.may_start h.sendable h.asks
never_started rules s number tag block each s' (inr none) = none

-- the first of the places of a piece waits
pub first_waits : (rules : Rules) (o : OpenRequest) (places : Extent) (mark : Mark) (more : List Mark) → o.marks ≡ mark ∷ more → places.first ≡ 0 → IsSendable rules o places → IsUnsent mark
first_waits rules o places mark more is from h =
    let there : All IsUnsent (take (places.first + places.count - places.first) (drop places.first (mark ∷ more))) =
    subst (λ marks. All IsUnsent (take (places.first + places.count - places.first) (drop places.first marks))) is h.unsent in
    let here : All IsUnsent (take (0 + places.count - 0) (drop 0 (mark ∷ more))) =
    subst (λ first. All IsUnsent (take (first + places.count - first) (drop first (mark ∷ more)))) from there in
    of_front (0 + places.count - 0) (omega (arith, h.some)) here
  where
    of_front : (n : ℕ) → 0 < n → All IsUnsent (take n (mark ∷ more)) → IsUnsent mark
    of_front zero below all = absurd (omega arith)
    of_front (suc n) below all = All-head IsUnsent mark (take n more) all
