-- The steps of a layer that holds requests, where the layer below hears nothing of them; and what those below keep.
use Rattle.std.proofs.Common.{◌≡◌, ◌≢◌, ◌<◌, ◌≤◌, inl, inr, ℕ, ◌+◌, Bool, true, false, not, List, [], ◌∷◌, ◌++◌, None, refl, sym, ◌∙◌, subst, arith, map, length, get_or}
use Rattle.std.specs.Prelude.{IsPermutation, All, IsFalse, if◌then◌else◌}
use Rattle.std.specs.List.{list_all}
use Rattle.std.proofs.lemmas.Bool.{not-false}
use Rattle.std.proofs.lemmas.List.Sorted.{IsPermutation-refl, IsPermutation-sym, IsPermutation-trans, IsPermutation-append_right, IsPermutation-middle, All-permutation, length_permutation}
use Rattle.std.proofs.lemmas.List.Elements.{All-nil, All-cons, All-tail, All-weaker, All-map}
use Rattle.ntstatus.specs.declared.NtStatus.{NtStatus}
use Rattle.ntstatus.specs.declared.NtStatus.TheVariants.{Success, DeletePending, NoSuchDevice}
use Rattle.srb.specs.declared.DeviceLabel.{DeviceLabel}
use Rattle.srb.specs.declared.DeviceLabel.TheVariants.{Start, Act, Fault, Return}
use Rattle.srb.specs.declared.Kind.{Kind}
use Rattle.srb.specs.declared.Kind.TheVariants.{Read, Write, Flush}
use Rattle.machine.specs.declared.ClientRequest.{ClientRequest}
use Rattle.machine.specs.declared.Label.TheVariants.{Device}
use Rattle.machine.specs.Rules.{Rules}
use Rattle.machine.specs.State.{Mark, Untouched, Out, Done, Failed, Back, OpenRequest, State, IsSame, opening}
use Rattle.machine.specs.Calling.{Opens, refusal, bytes_carried, new_request}
use Rattle.machine.specs.Sending.{is_started, is_untouched}
use Rattle.machine.specs.Answering.{Answers, IsGivenUp, HasEnded, HasCause, is_done, answer_bytes}
use Rattle.machine.specs.Holding.{Cancels, Drains, as_cancelled, as_timely}
use Rattle.machine.specs.Step.{DeviceStep, Run}
use Rattle.machine.specs.Numbers.{HasPlaces}
use Rattle.machine.specs.Frame.{Frame, framed}
use Rattle.machine.specs.Window.{HasLowerNumber, IsAbove, IsTimely, Holds}
use Rattle.machine.proofs.Permuting.{All-changed}
use Rattle.machine.proofs.Same.{IsSame-reordered}
use Rattle.machine.proofs.Settling.{late}
use Rattle.machine.proofs.Window.{resumed, drained, same_below}

-- one of the held among all
held_first : (below held : List OpenRequest) (o : OpenRequest) (others : List OpenRequest) → IsPermutation held (o ∷ others) → IsPermutation (below ++ held) (o ∷ (below ++ others))
held_first below held o others p = IsPermutation-trans _ _ _ (IsPermutation-append_right below _ _ p) (IsPermutation-middle below o others)

held_same : (f : Frame) (s : State) (held rest : List OpenRequest) (next : ℕ) → IsPermutation (s.requests ++ held) rest
    → IsSame (framed (record f { held = held; next_request = next }) s) (record (framed f s) { requests = rest; next_request = next })
held_same f s held rest next p = IsSame-reordered (record (framed f s) { next_request = next }) _ _ _ _ p (IsPermutation-refl _)

module _ (f : Frame) (rules : Rules) where
  -- a request that is held at its call
  pub Opens-held : (s : State) (number : ℕ) (q : ClientRequest) → f.next_request ≤ number → refusal rules (framed f s) q ≡ None → length q.bytes ≡ bytes_carried q.kind q.length
      → Opens rules (framed f s) number q (framed (record f { held = new_request rules (framed f s) number q ∷ f.held; next_request = number + 1 }) s)
  Opens-held s number q above admitted carries = record {
    new_number = above;
    not_refused = admitted;
    carries = carries;
    after = held_same f s (new_request rules (framed f s) number q ∷ f.held) _ (number + 1) (IsPermutation-middle s.requests (new_request rules (framed f s) number q) f.held);
  }

  -- a held request that is cancelled
  pub Cancels-held : (s : State) (o : OpenRequest) (others : List OpenRequest) → IsPermutation f.held (o ∷ others) → IsFalse o.cancelled
      → Cancels (framed f s) o.number (framed (record f { held = as_cancelled o ∷ others }) s)
  Cancels-held s o others p timely = record {
    request = o;
    others = s.requests ++ others;
    is_open = held_first s.requests f.held o others p;
    is_number = refl;
    not_yet = timely;
    after = held_same f s (as_cancelled o ∷ others) _ f.next_request (IsPermutation-middle s.requests (as_cancelled o) others);
  }

-- a request that was never started, given up
given_up_not_success : (s : State) (o : OpenRequest) (status : NtStatus) → IsGivenUp s o status → status ≢ Success
given_up_not_success s o status (inl (cancelled, is)) e = cc (is, e)
given_up_not_success s o status (inr (removing, is)) e = by_late o.late (sym is ∙ e)
  where
    by_late : (late : Bool) → (if late then DeletePending else NoSuchDevice) ≡ Success → ⊥
    by_late true h = cc (h)
    by_late false h = cc (h)

not_started : (marks : List Mark) → not (list_all is_untouched marks) ≡ false → list_all is_untouched marks ≡ true
not_started marks h = not-false (list_all is_untouched marks) h

module _ (rules : Rules) (s : State) (o : OpenRequest) (status : NtStatus) (given_up : IsGivenUp s o status) where
  untouched_ended : (marks : List Mark) → list_all is_untouched marks ≡ true → All (HasEnded rules s o) marks
  untouched_ended [] h = All-nil (HasEnded rules s o)
  untouched_ended (Untouched ∷ marks) h = All-cons (HasEnded rules s o) Untouched marks (inr (status, given_up)) (untouched_ended marks h)
  untouched_ended (Out ∷ marks) h = cc (h)
  untouched_ended (Done sector ∷ marks) h = cc (h)
  untouched_ended (Failed failure ∷ marks) h = cc (h)
  untouched_ended (Back ∷ marks) h = cc (h)

  untouched_cause : (marks : List Mark) → list_all is_untouched marks ≡ true → HasCause rules s o marks status
  untouched_cause [] h = tt
  untouched_cause (Untouched ∷ marks) h = given_up
  untouched_cause (Out ∷ marks) h = cc (h)
  untouched_cause (Done sector ∷ marks) h = cc (h)
  untouched_cause (Failed failure ∷ marks) h = cc (h)
  untouched_cause (Back ∷ marks) h = cc (h)

untouched_not_done : (marks : List Mark) → 0 < length marks → list_all is_untouched marks ≡ true → list_all is_done marks ≡ false
untouched_not_done [] some h = absurd (omega arith)
untouched_not_done (Untouched ∷ marks) some h = refl
untouched_not_done (Out ∷ marks) some h = refl
untouched_not_done (Done sector ∷ marks) some h = cc (h)
untouched_not_done (Failed failure ∷ marks) some h = refl
untouched_not_done (Back ∷ marks) some h = refl

no_bytes : (kind : Kind) (marks : List Mark) → list_all is_done marks ≡ false → [] ≡ answer_bytes kind marks
no_bytes Read marks h = rw h refl
no_bytes Write marks h = refl
no_bytes Flush marks h = refl

-- a held request that is cancelled, or finds the layer removing, is answered with no piece sent
pub Answers-held : (f : Frame) (rules : Rules) (s : State) (o : OpenRequest) (others : List OpenRequest) (status : NtStatus) → IsPermutation f.held (o ∷ others) → HasPlaces o → IsFalse (is_started o)
    → IsGivenUp (framed f s) o status → Answers rules (framed f s) o.number status [] (framed (record f { held = others }) s)
Answers-held f rules s o others status p some waiting given_up =
    let untouched : list_all is_untouched o.marks ≡ true = not_started o.marks waiting in
    let not_done : list_all is_done o.marks ≡ false = untouched_not_done o.marks some untouched in
    record {
      request = o;
      others = s.requests ++ others;
      is_open = held_first s.requests f.held o others p;
      is_number = refl;
      ended = untouched_ended rules (framed f s) o status given_up o.marks untouched;
      success = (λ is. absurd (given_up_not_success (framed f s) o status given_up is), λ done. cc (done, not_done));
      cause = untouched_cause rules (framed f s) o status given_up o.marks untouched;
      hands_back = no_bytes o.request.kind o.marks not_done;
      after = held_same f s others _ f.next_request (IsPermutation-refl _);
    }

-- WHAT THOSE BELOW KEEP

module _ (window : ℕ) (f : Frame) where
  -- one request below changed but for its number and lateness
  Holds-changed : (s s' : State) (o o' : OpenRequest) (others : List OpenRequest) → IsPermutation s.requests (o ∷ others) → IsPermutation s'.requests (o' ∷ others) → s'.paused ≡ s.paused
      → o'.number ≡ o.number → o'.late ≡ o.late → Holds window f s → Holds window f s'
  Holds-changed s s' o o' others p p' paused number late h =
      let before : length (o ∷ others) ≡ length s.requests = length_permutation _ _ p in
      let after : length (o' ∷ others) ≡ length s'.requests = length_permutation _ _ p' in
      let few : length s.requests ≤ window = h.within in
      record {
        above = All-weaker (IsAbove s.requests) (IsAbove s'.requests) keeps f.held h.above;
        timely = All-permutation IsTimely _ _ (IsPermutation-sym _ _ p') (All-changed IsTimely s.requests o o' others p h.timely (λ t. late ∙ t));
        not_paused = paused ∙ h.not_paused;
        within = omega arith;
      }
    where
      keeps : (x : OpenRequest) → IsAbove s.requests x → IsAbove s'.requests x
      keeps x all =
          All-permutation (HasLowerNumber x) _ _ (IsPermutation-sym _ _ p') (All-changed (HasLowerNumber x) s.requests o o' others p all (λ low. rw number low))

  Holds-same : (s s' : State) → IsPermutation s'.requests s.requests → s'.paused ≡ s.paused → Holds window f s → Holds window f s'
  Holds-same s s' p paused h =
      let n : length s.requests ≡ length s'.requests = length_permutation _ _ p in
      let few : length s.requests ≤ window = h.within in
      record {
        above = All-weaker (IsAbove s.requests) (IsAbove s'.requests) (λ x all. All-permutation (HasLowerNumber x) _ _ (IsPermutation-sym _ _ p) all) f.held h.above;
        timely = All-permutation IsTimely _ _ (IsPermutation-sym _ _ p) h.timely;
        not_paused = paused ∙ h.not_paused;
        within = omega arith;
      }

  pub Holds-DeviceStep : (rules : Rules) (s : State) (label : DeviceLabel) (s' : State) → Holds window f s → DeviceStep rules s label s' → Holds window f s'
  Holds-DeviceStep rules s (Start number tag block) s' h step = Holds-changed s s' step.owner _ step.others step.is_open step.after.requests step.after.paused refl refl h
  Holds-DeviceStep rules s (Act number bytes) s' h step = Holds-same s s' step.after.requests step.after.paused h
  Holds-DeviceStep rules s (Fault number) s' h step = Holds-same s s' step.after.requests step.after.paused h
  Holds-DeviceStep rules s (Return number class) s' h step = Holds-changed s s' step.owner _ step.others step.is_open step.after.requests step.after.paused refl refl h

  pub Holds-Run : (rules : Rules) (s : State) (labels : List DeviceLabel) (s' : State) → Holds window f s → Run rules s (map Device labels) s' → Holds window f s'
  Holds-Run rules s [] s' h run = Holds-same s s' (IsPermutation-sym _ _ run.requests) (sym run.paused) h
  Holds-Run rules s (label ∷ labels) s' h (mid, inl (free, step), rest) = Holds-Run rules mid labels s' (Holds-DeviceStep rules s label mid h step) rest
  Holds-Run rules s (label ∷ labels) s' h (mid, inr none, rest) = absurd none

  pub Holds-Cancels : (s : State) (number : ℕ) (s' : State) → Holds window f s → Cancels s number s' → Holds window f s'
  Holds-Cancels s number s' h step = Holds-changed s s' step.request _ step.others step.is_open step.after.requests step.after.paused refl refl h

  pub Holds-Answers : (rules : Rules) (s : State) (number : ℕ) (status : NtStatus) (bytes : List ℕ) (s' : State) → Holds window f s → Answers rules s number status bytes s' → Holds window f s'
  Holds-Answers rules s number status bytes s' h step =
      let o : OpenRequest = step.request in
      let before : length (o ∷ step.others) ≡ length s.requests = length_permutation _ _ step.is_open in
      let after : length step.others ≡ length s'.requests = length_permutation _ _ step.after.requests in
      let few : length s.requests ≤ window = h.within in
      record {
        above = All-weaker (IsAbove s.requests) (IsAbove s'.requests) keeps f.held h.above;
        timely = All-permutation IsTimely _ _ (IsPermutation-sym _ _ step.after.requests) (All-tail IsTimely o step.others (All-permutation IsTimely _ _ step.is_open h.timely));
        not_paused = step.after.paused ∙ h.not_paused;
        within = omega arith;
      }
    where
      keeps : (x : OpenRequest) → IsAbove s.requests x → IsAbove s'.requests x
      keeps x all = All-permutation (HasLowerNumber x) _ _ (IsPermutation-sym _ _ step.after.requests) (All-tail (HasLowerNumber x) step.request step.others (All-permutation (HasLowerNumber x) _ _ step.is_open all))

  -- a request that goes below, with a lower number than those still held
  pub Holds-Opens : (rules : Rules) (s : State) (number : ℕ) (q : ClientRequest) (s' : State) → (others : List OpenRequest) → All (IsAbove s.requests) others
      → All (λ (o : OpenRequest). number < o.number) others → IsFalse s.paused → All IsTimely s.requests → length s.requests < window → Opens rules s number q s' → Holds window (record f { held = others }) s'
  Holds-Opens rules s number q s' others above later unpaused timely room step =
      let o : OpenRequest = new_request rules s number q in
      let after : length (o ∷ s.requests) ≡ length s'.requests = length_permutation _ _ step.after.requests in
      record {
        above = λ k d low. All-permutation (HasLowerNumber (get_or others k d)) _ _ (IsPermutation-sym _ _ step.after.requests) (All-cons (HasLowerNumber (get_or others k d)) o s.requests (later k d low) (above k d low));
        timely = All-permutation IsTimely _ _ (IsPermutation-sym _ _ step.after.requests) (All-cons IsTimely o s.requests unpaused timely);
        not_paused = step.after.paused ∙ unpaused;
        within = omega arith;
      }

  pub Holds-resumed : (s : State) → Holds window f s → Holds window (resumed f) s
  Holds-resumed s h = record { above = All-map (IsAbove s.requests) as_timely f.held h.above; timely = h.timely; not_paused = h.not_paused; within = h.within }

  pub Holds-drained : (rules : Rules) (s s' : State) → rules.window ≡ None → Holds window f s → Drains rules s s' → Holds window (drained f) s'
  Holds-drained rules s s' none h drain =
      let same : IsPermutation s'.requests s.requests = subst (λ xs. IsPermutation s'.requests xs) (same_below s.paused rules.window s.requests none) drain.requests in
      let there : Holds window f s' = Holds-same s s' same (drain.paused ∙ sym h.not_paused) h in
      record { above = by_pause f.paused there.above; timely = there.timely; not_paused = there.not_paused; within = there.within }
    where
      by_pause : (paused : Bool) → All (IsAbove s'.requests) f.held → All (IsAbove s'.requests) (if paused then f.held else map late f.held)
      by_pause true all = all
      by_pause false all = All-map (IsAbove s'.requests) late f.held all

-- with nothing open, whatever is held
pub Holds-opening : (window : ℕ) (f : Frame) (arrays : List (List (List ℕ))) → Holds window f (opening arrays)
Holds-opening window f arrays = record {
  above = λ k d low. All-nil (HasLowerNumber (get_or f.held k d));
  timely = All-nil IsTimely;
  not_paused = refl;
  within = omega arith;
}
