-- Unless paused or removing, no request is late, at each moment that a run reaches.
use Rattle.std.proofs.Common.{inl, inr, ℕ, List, [], ◌∷◌, Option, Some, None, refl, subst}
use Rattle.std.specs.Prelude.{IsFalse, All}
use Rattle.io_manager.proofs.Common.{IsPermutation-sym, All-permutation, All-nil, All-cons, All-tail, All-map, NtStatus, Start, Act, Fault, Return, ClientRequest, Label, Rules, State, IsSame, opening, as_timely, IsTimely, FreeStep, OwingStep, Run, All-changed, IsSame-sym, IsReached}
use Rattle.machine.specs.declared.Label.TheVariants.{Call, Device, Answer, Cancel, Pause, Resume, Remove, Surprise, Removed}
use Rattle.machine.specs.Calling.{refusal, Admits}

abbrev pub AreTimely : State → Type 0
AreTimely s = IsFalse s.paused → IsFalse s.removing → All IsTimely s.requests

AreTimely-same : (s t : State) → IsSame s t → AreTimely t → AreTimely s
AreTimely-same s t same h unpaused staying =
    All-permutation IsTimely _ _ (IsPermutation-sym _ _ same.requests) (h (subst IsFalse same.paused unpaused) (subst IsFalse same.removing staying))

module _ (rules : Rules) where
  AreTimely-Admits : (s : State) (number : ℕ) (q : ClientRequest) (answer : Option NtStatus) (s' : State) → AreTimely s → Admits rules s number q answer s' → AreTimely s'
  AreTimely-Admits s number q None s' k h = AreTimely-same s' _ h.after (λ unpaused staying. All-cons IsTimely _ s.requests unpaused (k unpaused staying))
  AreTimely-Admits s number q (Some status) s' k h = AreTimely-same s' _ h.after k

  AreTimely-FreeStep : (s : State) (label : Label) (s' : State) → AreTimely s → FreeStep rules s label s' → AreTimely s'
  AreTimely-FreeStep s (Call number q) s' k h = AreTimely-Admits s number q (refusal rules s q) s' k h.admits
  AreTimely-FreeStep s (Device (Start number tag block)) s' k h =
      AreTimely-same s' _ h.after (λ unpaused staying. All-changed IsTimely s.requests h.owner _ h.others h.is_open (k unpaused staying) (λ timely. timely))
  AreTimely-FreeStep s (Device (Act number bytes)) s' k h = AreTimely-same s' _ h.after k
  AreTimely-FreeStep s (Device (Fault number)) s' k h = AreTimely-same s' _ h.after k
  AreTimely-FreeStep s (Device (Return number class)) s' k h =
      AreTimely-same s' _ h.after (λ unpaused staying. All-changed IsTimely s.requests h.owner _ h.others h.is_open (k unpaused staying) (λ timely. timely))
  AreTimely-FreeStep s (Answer number status informed bytes) s' k h =
      AreTimely-same s' _ h.answers.after
      (λ unpaused staying. All-tail IsTimely h.answers.request h.answers.others (All-permutation IsTimely _ _ h.answers.is_open (k unpaused staying)))
  AreTimely-FreeStep s (Cancel number) s' k h =
      AreTimely-same s' _ h.after (λ unpaused staying. All-changed IsTimely s.requests h.request _ h.others h.is_open (k unpaused staying) (λ timely. timely))
  AreTimely-FreeStep s Pause s' k h = AreTimely-same s' _ h.after (λ unpaused staying. cc (unpaused))
  AreTimely-FreeStep s Resume s' k h = AreTimely-same s' _ h.after (λ unpaused staying. All-map IsTimely as_timely s.requests (λ i d low. refl))
  AreTimely-FreeStep s Remove s' k h = AreTimely-same s' _ h.after (λ unpaused staying. cc (staying))
  AreTimely-FreeStep s Surprise s' k h = AreTimely-same s' _ h.drains (λ unpaused staying. cc (staying))
  AreTimely-FreeStep s Removed s' k h = AreTimely-same s' _ h.after k

  AreTimely-OwingStep : (s : State) (label : Label) (s' : State) → AreTimely s → OwingStep s label s' → AreTimely s'
  AreTimely-OwingStep s (Answer number status informed bytes) s' k h = AreTimely-same s' _ h.after k
  AreTimely-OwingStep s _ s' k h = absurd h

  AreTimely-Run : (s : State) (labels : List Label) (s' : State) → AreTimely s → Run rules s labels s' → AreTimely s'
  AreTimely-Run s [] s' k run = AreTimely-same s' s (IsSame-sym s s' run) k
  AreTimely-Run s (label ∷ labels) s' k (mid, inl (free, step), run) = AreTimely-Run mid labels s' (AreTimely-FreeStep s label mid k step) run
  AreTimely-Run s (label ∷ labels) s' k (mid, inr owing, run) = AreTimely-Run mid labels s' (AreTimely-OwingStep s label mid k owing) run

  pub reached_timely : (s : State) → IsReached rules s → AreTimely s
  reached_timely s h = AreTimely-Run (opening h.arrays) h.labels s (λ unpaused staying. All-nil IsTimely) h.run
