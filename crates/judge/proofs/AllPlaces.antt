-- Each open request has a mark for each place that it asks for.
use Rattle.std.proofs.Common.{◌≡◌, ◌≤◌, inl, inr, ℕ, ◌+◌, Bool, true, false, List, [], ◌∷◌, ◌++◌, Option, Some, None, ◌∙◌, arith, length, take, drop, length-append, length-take-le, length-drop}
use Rattle.std.specs.Prelude.{All, replicate, if◌then◌else◌}
use Rattle.std.proofs.lemmas.List.{length-replicate}
use Rattle.std.proofs.lemmas.List.Sorted.{IsPermutation-sym, All-permutation}
use Rattle.std.proofs.lemmas.List.Elements.{All-nil, All-cons, All-head, All-tail, All-map, All-weaker}
use Rattle.ntstatus.specs.declared.NtStatus.{NtStatus}
use Rattle.sector.specs.Splice.{splice}
use Rattle.srb.specs.declared.DeviceLabel.{DeviceLabel}
use Rattle.srb.specs.declared.DeviceLabel.TheVariants.{Start, Act, Fault, Return}
use Rattle.machine.specs.declared.ClientRequest.{ClientRequest}
use Rattle.machine.specs.declared.Label.{Label}
use Rattle.machine.specs.declared.Label.TheVariants.{Call, Device, Answer, Cancel, Pause, Resume, Remove, Surprise, Removed}
use Rattle.machine.specs.Rules.{Rules, place_count}
use Rattle.machine.specs.State.{Mark, Out, Untouched, OpenRequest, State, IsSame, opening}
use Rattle.machine.specs.Calling.{refusal, Admits, new_request}
use Rattle.machine.specs.Sending.{sent, given_back}
use Rattle.machine.specs.Holding.{as_cancelled, beyond, held_back, as_timely}
use Rattle.machine.specs.Step.{DeviceStep, FreeStep, OwingStep, Step, Run}
use Rattle.machine.specs.Numbers.{AreDistinct}
use Rattle.machine.specs.Pieces.{ArePlaced, IsPlaced, IsCovered}
use Rattle.machine.proofs.Permuting.{All-changed}
use Rattle.machine.proofs.Same.{IsSame-sym}
use Rattle.machine.proofs.Numbers.{AreDistinct-Step}
use Rattle.machine.proofs.Placed.{ArePlaced-Step, leaves, is_inside}

pub record HasAllPlaces (rules : Rules) (o : OpenRequest) : Type 0 where
  pub places : length o.marks ≡ place_count rules o.request

abbrev pub HaveAllPlaces : Rules → State → Type 0
HaveAllPlaces rules s = All (HasAllPlaces rules) s.requests

length_spliced : {X : Type 0} (xs : List X) (first : ℕ) (more : List X) → first + length more ≤ length xs → length (splice xs first more) ≡ length xs
length_spliced xs first more fits =
    omega (arith, length-append (take first xs) (more ++ drop (first + length more) xs), length-append more (drop (first + length more) xs), length-take-le first xs (omega arith), length-drop (first + length more) xs)

module _ (rules : Rules) where
  same : (s t : State) → IsSame s t → HaveAllPlaces rules t → HaveAllPlaces rules s
  same s t h k = All-permutation (HasAllPlaces rules) _ _ (IsPermutation-sym _ _ h.requests) k

  with_length : (o : OpenRequest) (marks : List Mark) → length marks ≡ length o.marks → HasAllPlaces rules o → length marks ≡ place_count rules o.request
  with_length o marks e h = e ∙ h.places

  admitted : (s : State) (number : ℕ) (q : ClientRequest) (answer : Option NtStatus) (s' : State) → HaveAllPlaces rules s → Admits rules s number q answer s' → HaveAllPlaces rules s'
  admitted s number q None s' k h = same s' _ h.after (All-cons (HasAllPlaces rules) (new_request rules s number q) s.requests (record { places = length-replicate (place_count rules q) Untouched }) k)
  admitted s number q (Some status) s' k h = same s' _ h.after k

  device : (s : State) (label : DeviceLabel) (s' : State) → ArePlaced s → HaveAllPlaces rules s → DeviceStep rules s label s' → HaveAllPlaces rules s'
  device s (Start piece tag block) s' placed k h =
      let fits : h.places.first + length (replicate h.places.count Out) ≤ length h.owner.marks = rw (length-replicate h.places.count Out) h.sendable.inside in
      same s' _ h.after (All-changed (HasAllPlaces rules) s.requests h.owner (sent h.places h.owner) h.others h.is_open k
      (λ all. record { places = with_length h.owner _ (length_spliced h.owner.marks h.places.first (replicate h.places.count Out) fits) all }))
  device s (Act piece bytes) s' placed k h = same s' _ h.after k
  device s (Fault piece) s' placed k h = same s' _ h.after k
  device s (Return number class) s' placed k h =
      let mine : IsPlaced s.requests h.piece = All-head (IsPlaced s.requests) h.piece h.other_pieces (All-permutation (IsPlaced s.requests) _ _ h.is_out placed.pieces) in
      let covered : IsCovered s.pieces h.owner = All-head (IsCovered s.pieces) h.owner h.others (All-permutation (IsCovered s.pieces) _ _ h.is_open placed.places) in
      let inside : h.piece.places.first + h.piece.places.count ≤ length h.owner.marks = is_inside s.pieces h.piece h.other_pieces h.owner h.is_out covered h.is_owner mine.some in
      let n : length h.marks ≡ h.piece.places.count = (leaves h.piece class h.marks mine.filled h.leaves).0 in
      let fits : h.piece.places.first + length h.marks ≤ length h.owner.marks = rw n inside in
      same s' _ h.after (All-changed (HasAllPlaces rules) s.requests h.owner (given_back h.piece class h.marks h.owner) h.others h.is_open k
      (λ all. record { places = with_length h.owner _ (length_spliced h.owner.marks h.piece.places.first h.marks fits) all }))

  held : (window : Option ℕ) (xs : List OpenRequest) → All (HasAllPlaces rules) xs → All (HasAllPlaces rules) (held_back window xs)
  held None xs h = h
  held (Some window) xs h =
      All-map (HasAllPlaces rules) (beyond window xs) xs (All-weaker (HasAllPlaces rules) (λ o. HasAllPlaces rules (beyond window xs o)) (λ o all. record { places = all.places }) xs h)

  free : (s : State) (label : Label) (s' : State) → ArePlaced s → HaveAllPlaces rules s → FreeStep rules s label s' → HaveAllPlaces rules s'
  free s (Call number q) s' placed k h = admitted s number q (refusal rules s q) s' k h.admits
  free s (Device label) s' placed k h = device s label s' placed k h
  free s (Answer number status informed bytes) s' placed k h =
      same s' _ h.answers.after (All-tail (HasAllPlaces rules) h.answers.request h.answers.others (All-permutation (HasAllPlaces rules) _ _ h.answers.is_open k))
  free s (Cancel number) s' placed k h =
      same s' _ h.after (All-changed (HasAllPlaces rules) s.requests h.request (as_cancelled h.request) h.others h.is_open k (λ all. record { places = all.places }))
  free s Pause s' placed k h = same s' _ h.after (held rules.window s.requests k)
  free s Resume s' placed k h =
      same s' _ h.after (All-map (HasAllPlaces rules) as_timely s.requests (All-weaker (HasAllPlaces rules) (λ o. HasAllPlaces rules (as_timely o)) (λ o all. record { places = all.places }) s.requests k))
  free s Remove s' placed k h = same s' _ h.after k
  free s Surprise s' placed k h = same s' _ h.drains (by_pause s.paused)
    where
      by_pause : (paused : Bool) → All (HasAllPlaces rules) (if paused then s.requests else held_back rules.window s.requests)
      by_pause true = k
      by_pause false = held rules.window s.requests k
  free s Removed s' placed k h = same s' _ h.after k

  owing : (s : State) (label : Label) (s' : State) → HaveAllPlaces rules s → OwingStep s label s' → HaveAllPlaces rules s'
  owing s (Answer number status informed bytes) s' k h = same s' _ h.after k
  owing s _ s' k h = absurd h

  pub HaveAllPlaces-Step : (s : State) (label : Label) (s' : State) → ArePlaced s → HaveAllPlaces rules s → Step rules s label s' → HaveAllPlaces rules s'
  HaveAllPlaces-Step s label s' placed k (inl h) = free s label s' placed k h.1
  HaveAllPlaces-Step s label s' placed k (inr h) = owing s label s' k h

  pub HaveAllPlaces-Run : (s : State) (labels : List Label) (s' : State) → AreDistinct s → ArePlaced s → HaveAllPlaces rules s → Run rules s labels s' → HaveAllPlaces rules s'
  HaveAllPlaces-Run s [] s' d placed k h = same s' s (IsSame-sym s s' h) k
  HaveAllPlaces-Run s (label ∷ labels) s' d placed k (mid, step, rest) =
      HaveAllPlaces-Run mid labels s' (AreDistinct-Step rules s label mid d step) (ArePlaced-Step rules s label mid d placed step) (HaveAllPlaces-Step s label mid placed k step) rest

  pub HaveAllPlaces-opening : (arrays : List (List (List ℕ))) → HaveAllPlaces rules (opening arrays)
  HaveAllPlaces-opening arrays = All-nil (HasAllPlaces rules)
