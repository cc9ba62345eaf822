-- No place fails with the status of a good or a busy return.
use Rattle.std.proofs.Common.{subst, ◌≡◌, ◌≢◌, inl, inr, ℕ, ◌+◌, ◌==◌, Bool, true, false, List, [], ◌∷◌, Option, Some, None, refl, arith, map, length, bit_and}
use Rattle.std.specs.Prelude.{All, if◌then◌else◌}
use Rattle.std.proofs.lemmas.List.Sorted.{IsPermutation-sym, All-permutation}
use Rattle.std.proofs.lemmas.List.Elements.{All-nil, All-cons, All-tail, All-weaker, All-map, All-append, All-take, All-drop, All-replicate}
use Rattle.ntstatus.specs.declared.NtStatus.{NtStatus}
use Rattle.ntstatus.specs.declared.NtStatus.TheVariants.{Success, DeviceBusy}
use Rattle.ntstatus.specs.declared.Sense.{Sense}
use Rattle.ntstatus.specs.Table.{status_of}
use Rattle.sector.specs.Splice.{splice}
use Rattle.srb.specs.declared.DeviceLabel.{DeviceLabel}
use Rattle.srb.specs.declared.DeviceLabel.TheVariants.{Start, Act, Fault, Return}
use Rattle.srb.specs.declared.Completion.{Completion}
use Rattle.srb.specs.declared.Class.{Class}
use Rattle.srb.specs.declared.Class.TheVariants.{Good, Busy, Bad}
use Rattle.srb.specs.Fate.{class_of}
use Rattle.machine.specs.declared.ClientRequest.{ClientRequest}
use Rattle.machine.specs.declared.Label.{Label}
use Rattle.machine.specs.declared.Label.TheVariants.{Call, Device, Answer, Cancel, Pause, Resume, Remove, Surprise, Removed}
use Rattle.machine.specs.Rules.{Rules, place_count}
use Rattle.machine.specs.State.{Mark, Untouched, Out, Done, Failed, Back, OpenRequest, Piece, State, IsSame, opening}
use Rattle.machine.specs.Calling.{Opens, Admits, refusal, new_request}
use Rattle.machine.specs.Sending.{LeavesMarks, status_of_completion, sent, given_back}
use Rattle.machine.specs.Answering.{Answers}
use Rattle.machine.specs.Holding.{held_back, beyond, as_timely, as_cancelled, Drains}
use Rattle.machine.specs.Step.{DeviceStep, FreeStep, OwingStep, Step, Run}
use Rattle.machine.specs.Marks.{IsEarned, HasEarned, HaveEarned}
use Rattle.ntstatus.proofs.Rows.{success_code, busy_code}
use Rattle.machine.proofs.Permuting.{All-changed}
use Rattle.machine.proofs.Same.{IsSame-sym}

-- THE STATUS TABLE

-- only code 5 is DEVICE_BUSY
pub status_not_busy : (srb scsi : ℕ) (sense : Option Sense) → (bit_and srb 63 == 5) ≡ false → status_of srb scsi sense ≢ DeviceBusy
status_not_busy srb scsi sense fails = λ e.
    let same : (5 == 5) ≡ false = subst (λ (n : ℕ). (n == 5) ≡ false) (busy_code srb scsi sense e) fails in
    cc (same)

-- only code 1 is SUCCESS
pub status_not_success : (srb scsi : ℕ) (sense : Option Sense) → (bit_and srb 63 == 1) ≡ false → status_of srb scsi sense ≢ Success
status_not_success srb scsi sense fails = λ e.
    let same : (1 == 1) ≡ false = subst (λ (n : ℕ). (n == 1) ≡ false) (success_code srb scsi sense e) fails in
    cc (same)

bad_codes : (good busy : Bool) (c : Completion) → (if good then Good else (if busy then Busy else Bad c)) ≡ Bad c → (good ≡ false) × (busy ≡ false)
bad_codes true busy c e = cc (e)
bad_codes false true c e = cc (e)
bad_codes false false c e = (refl, refl)

-- what came back bad has the status of neither a good nor a busy return
pub bad_status : (c : Completion) → class_of c ≡ Bad c → (status_of_completion c ≢ Success) × (status_of_completion c ≢ DeviceBusy)
bad_status c e =
    let codes : (_ ≡ false) × (_ ≡ false) = bad_codes (bit_and c.srb_status 63 == 1) (bit_and c.srb_status 63 == 5) c e in
    (status_not_success c.srb_status c.scsi_status c.sense codes.0, status_not_busy c.srb_status c.scsi_status c.sense codes.1)

-- EACH STEP KEEPS IT

-- the marks that a piece leaves, in the request that it leaves them in
LeavesMarks-earned : (piece : Piece) (class : Class) (marks : List Mark) (marked : List Mark) (o : OpenRequest) → LeavesMarks piece class marks → All (IsEarned (given_back piece class marked o)) marks
LeavesMarks-earned piece Good marks marked o h = rw h.2 (All-map (IsEarned (given_back piece Good marked o)) Done h.0 (λ k d low. tt))
LeavesMarks-earned piece Busy marks marked o h = rw h.1 (All-replicate (IsEarned (given_back piece Busy marked o)) piece.places.count Back (omega arith))
LeavesMarks-earned piece (Bad completion) marks marked o h =
    rw h.1 (All-replicate (IsEarned (given_back piece (Bad completion) marked o)) piece.places.count (Failed (status_of_completion completion)) (bad_status completion h.0))

-- more busy returns, and the marks that were earned with fewer
IsEarned-more : (o o' : OpenRequest) (extra : ℕ) → o'.busy_returns ≡ o.busy_returns + extra → (m : Mark) → IsEarned o m → IsEarned o' m
IsEarned-more o o' extra e Back h = rw e (omega arith)
IsEarned-more o o' extra e (Failed status) h = h
IsEarned-more o o' extra e Untouched h = tt
IsEarned-more o o' extra e Out h = tt
IsEarned-more o o' extra e (Done sector) h = tt

All-splice : {X : Type 0} (P : X → Type 0) (xs : List X) (first : ℕ) (more : List X) → All P xs → All P more → All P (splice xs first more)
All-splice P xs first more h k = All-append P _ _ (All-take P first xs h) (All-append P _ _ k (All-drop P (first + length more) xs h))

module _ (rules : Rules) where
  HaveEarned-same : (s t : State) → IsSame s t → HaveEarned t → HaveEarned s
  HaveEarned-same s t h k = All-permutation HasEarned _ _ (IsPermutation-sym _ _ h.requests) k

  pub HaveEarned-Opens : (s : State) (number : ℕ) (q : ClientRequest) (s' : State) → HaveEarned s → Opens rules s number q s' → HaveEarned s'
  HaveEarned-Opens s number q s' k h = HaveEarned-same s' _ h.after (All-cons HasEarned (new_request rules s number q) s.requests (All-replicate (IsEarned (new_request rules s number q)) (place_count rules q) Untouched tt) k)

  HaveEarned-Admits : (s : State) (number : ℕ) (q : ClientRequest) (answer : Option NtStatus) (s' : State) → HaveEarned s → Admits rules s number q answer s' → HaveEarned s'
  HaveEarned-Admits s number q None s' k h = HaveEarned-Opens s number q s' k h
  HaveEarned-Admits s number q (Some status) s' k h = HaveEarned-same s' _ h.after k

  pub HaveEarned-DeviceStep : (s : State) (label : DeviceLabel) (s' : State) → HaveEarned s → DeviceStep rules s label s' → HaveEarned s'
  HaveEarned-DeviceStep s (Start piece tag block) s' k h =
      HaveEarned-same s' _ h.after (All-changed HasEarned s.requests h.owner (sent h.places h.owner) h.others h.is_open k
      (λ all. All-splice (IsEarned (sent h.places h.owner)) h.owner.marks h.places.first _
      (All-weaker (IsEarned h.owner) (IsEarned (sent h.places h.owner)) (IsEarned-more h.owner (sent h.places h.owner) 0 (omega arith)) h.owner.marks all)
      (All-replicate (IsEarned (sent h.places h.owner)) h.places.count Out tt)))
  HaveEarned-DeviceStep s (Act piece bytes) s' k h = HaveEarned-same s' _ h.after k
  HaveEarned-DeviceStep s (Fault piece) s' k h = HaveEarned-same s' _ h.after k
  HaveEarned-DeviceStep s (Return piece class) s' k h =
      HaveEarned-same s' _ h.after (All-changed HasEarned s.requests h.owner (given_back h.piece class h.marks h.owner) h.others h.is_open k
      (λ all. All-splice (IsEarned (given_back h.piece class h.marks h.owner)) h.owner.marks h.piece.places.first h.marks
      (All-weaker (IsEarned h.owner) (IsEarned (given_back h.piece class h.marks h.owner)) (IsEarned-more h.owner (given_back h.piece class h.marks h.owner) _ refl) h.owner.marks all)
      (LeavesMarks-earned h.piece class h.marks h.marks h.owner h.leaves)))

  held_earned : (window : Option ℕ) (xs : List OpenRequest) → All HasEarned xs → All HasEarned (held_back window xs)
  held_earned None xs h = h
  held_earned (Some window) xs h =
      All-map HasEarned (beyond window xs) xs (All-weaker HasEarned (λ o. HasEarned (beyond window xs o)) (λ o all. All-weaker (IsEarned o) (IsEarned (beyond window xs o)) (IsEarned-more o (beyond window xs o) 0 (omega arith)) o.marks all) xs h)

  timely_earned : (xs : List OpenRequest) → All HasEarned xs → All HasEarned (map as_timely xs)
  timely_earned xs h = All-map HasEarned as_timely xs (All-weaker HasEarned (λ o. HasEarned (as_timely o)) (λ o all. All-weaker (IsEarned o) (IsEarned (as_timely o)) (IsEarned-more o (as_timely o) 0 (omega arith)) o.marks all) xs h)

  pub HaveEarned-Answers : (s : State) (number : ℕ) (status : NtStatus) (bytes : List ℕ) (s' : State) → HaveEarned s → Answers rules s number status bytes s' → HaveEarned s'
  HaveEarned-Answers s number status bytes s' k h = HaveEarned-same s' _ h.after (All-tail HasEarned h.request h.others (All-permutation HasEarned _ _ h.is_open k))

  pub HaveEarned-Drains : (s s' : State) → HaveEarned s → Drains rules s s' → HaveEarned s'
  HaveEarned-Drains s s' k h = HaveEarned-same s' _ h (by_pause s.paused)
    where
      by_pause : (paused : Bool) → All HasEarned (if paused then s.requests else held_back rules.window s.requests)
      by_pause true = k
      by_pause false = held_earned rules.window s.requests k

  HaveEarned-FreeStep : (s : State) (label : Label) (s' : State) → HaveEarned s → FreeStep rules s label s' → HaveEarned s'
  HaveEarned-FreeStep s (Call number q) s' k h = HaveEarned-Admits s number q (refusal rules s q) s' k h.admits
  HaveEarned-FreeStep s (Device label) s' k h = HaveEarned-DeviceStep s label s' k h
  HaveEarned-FreeStep s (Answer number status informed bytes) s' k h = HaveEarned-Answers s number status bytes s' k h.answers
  HaveEarned-FreeStep s (Cancel number) s' k h =
      HaveEarned-same s' _ h.after (All-changed HasEarned s.requests h.request (as_cancelled h.request) h.others h.is_open k
      (λ all. All-weaker (IsEarned h.request) (IsEarned (as_cancelled h.request)) (IsEarned-more h.request (as_cancelled h.request) 0 (omega arith)) h.request.marks all))
  HaveEarned-FreeStep s Pause s' k h = HaveEarned-same s' _ h.after (held_earned rules.window s.requests k)
  HaveEarned-FreeStep s Resume s' k h = HaveEarned-same s' _ h.after (timely_earned s.requests k)
  HaveEarned-FreeStep s Remove s' k h = HaveEarned-same s' _ h.after k
  HaveEarned-FreeStep s Surprise s' k h = HaveEarned-Drains s s' k h.drains
  HaveEarned-FreeStep s Removed s' k h = HaveEarned-same s' _ h.after k

  HaveEarned-OwingStep : (s : State) (label : Label) (s' : State) → HaveEarned s → OwingStep s label s' → HaveEarned s'
  HaveEarned-OwingStep s (Answer number status informed bytes) s' k h = HaveEarned-same s' _ h.after k
  HaveEarned-OwingStep s _ s' k h = absurd h

  pub HaveEarned-Step : (s : State) (label : Label) (s' : State) → HaveEarned s → Step rules s label s' → HaveEarned s'
  HaveEarned-Step s label s' k (inl h) = HaveEarned-FreeStep s label s' k h.1
  HaveEarned-Step s label s' k (inr h) = HaveEarned-OwingStep s label s' k h

  pub HaveEarned-Run : (s : State) (labels : List Label) (s' : State) → HaveEarned s → Run rules s labels s' → HaveEarned s'
  HaveEarned-Run s [] s' k h = HaveEarned-same s' s (IsSame-sym s s' h) k
  HaveEarned-Run s (label ∷ labels) s' k (mid, step, rest) = HaveEarned-Run mid labels s' (HaveEarned-Step s label mid k step) rest

pub HaveEarned-opening : (arrays : List (List (List ℕ))) → HaveEarned (opening arrays)
HaveEarned-opening arrays = All-nil HasEarned
