-- Each open request has a place, at every moment.
use Rattle.std.proofs.Common.{◌≡◌, ◌<◌, inl, inr, ℕ, zero, suc, ◌*◌, ◌/◌, ◌%◌, ◌==◌, ◌&&◌, Bool, true, false, not, List, [], ◌∷◌, Option, Some, None, arith, length, replicate}
use Rattle.std.specs.Prelude.{All, is_none, if◌then◌else◌}
use Rattle.std.proofs.lemmas.Bool.{not-false, and_parts}
use Rattle.std.proofs.lemmas.Bool.Decides.{nat_tests}
use Rattle.std.proofs.lemmas.List.{length-replicate}
use Rattle.std.proofs.lemmas.List.Sorted.{IsPermutation-sym, All-permutation}
use Rattle.std.proofs.lemmas.List.Elements.{All-tail, All-cons, All-map}
use Rattle.ntstatus.specs.declared.NtStatus.{NtStatus}
use Rattle.ntstatus.specs.declared.NtStatus.TheVariants.{Success, DeviceBusy, DeletePending, InvalidHandle, InvalidParameter}
use Rattle.ntstatus.proofs.First.{none_first}
use Rattle.srb.specs.declared.DeviceLabel.{DeviceLabel}
use Rattle.srb.specs.declared.DeviceLabel.TheVariants.{Start, Act, Fault, Return}
use Rattle.srb.specs.declared.Kind.{Kind}
use Rattle.srb.specs.declared.Kind.TheVariants.{Read, Write, Flush}
use Rattle.machine.specs.declared.ClientRequest.{ClientRequest}
use Rattle.machine.specs.declared.Label.{Label}
use Rattle.machine.specs.declared.Label.TheVariants.{Call, Device, Answer, Cancel, Pause, Resume, Remove, Surprise, Removed}
use Rattle.machine.specs.Rules.{Rules, is_in_bounds, place_count, is_transfer}
use Rattle.machine.specs.State.{Untouched, OpenRequest, State, IsSame}
use Rattle.machine.specs.Calling.{refusal, is_full, Admits}
use Rattle.machine.specs.Holding.{held_back, beyond, as_timely}
use Rattle.machine.specs.Step.{DeviceStep, FreeStep, OwingStep, Run}
use Rattle.machine.specs.Numbers.{HasPlaces, HavePlaces}
use Rattle.machine.proofs.Same.{IsSame-sym}
use Rattle.machine.proofs.Commuting.{HasPlaces-with_marks}
use Rattle.machine.proofs.Permuting.{All-changed}

positive : (size d length' : ℕ) → size * d ≡ length' → 0 < length' → 0 < d
positive size zero length' e some = absurd (omega arith)
positive size (suc d) length' e some = omega arith

transfer_places : (size length' : ℕ) → (length' % size == 0) ≡ true → (length' == 0) ≡ false → 0 < size → 0 < length' / size
transfer_places size length' whole some size_some =
    let r : length' % size ≡ 0 = grind (arith, nat_tests) in
    let n : 0 < length' = grind (arith, nat_tests) in
    positive size (length' / size) length' (omega arith) n

kind_places : (kind : Kind) (size length' : ℕ) (others bounds : Bool) → (is_transfer kind && not ((others && (length' % size == 0)) && bounds)) ≡ false → (is_transfer kind && (length' == 0)) ≡ false → 0 < size
    → 0 < (if is_transfer kind then length' / size else 1)
kind_places Read size length' others bounds whole some size_some =
    transfer_places size length' (and_parts others _ (and_parts _ bounds (not-false _ whole)).0).1 some size_some
kind_places Write size length' others bounds whole some size_some =
    transfer_places size length' (and_parts others _ (and_parts _ bounds (not-false _ whole)).0).1 some size_some
kind_places Flush size length' others bounds whole some size_some = omega arith

-- what nothing refuses: the partition is known, the device stays, the bounds hold, there are bytes, and room
pub record IsTakenIn (rules : Rules) (s : State) (q : ClientRequest) : Type 0 where
  pub known : is_none q.partition ≡ false
  pub staying : s.removing ≡ false
  pub in_bounds : (is_transfer q.kind && not (is_in_bounds rules q)) ≡ false
  pub some : (is_transfer q.kind && (q.length == 0)) ≡ false
  pub room : is_full rules.open_requests (length s.requests) ≡ false

pub taken_in : (rules : Rules) (s : State) (q : ClientRequest) → refusal rules s q ≡ None → IsTakenIn rules s q
taken_in rules s q h =
    let a : (is_none q.partition ≡ false) × _ = none_first (is_none q.partition) InvalidHandle _ h in
    let b : (s.removing ≡ false) × _ = none_first s.removing DeletePending _ a.1 in
    let c : _ × _ = none_first (is_transfer q.kind && not (is_in_bounds rules q)) InvalidParameter _ b.1 in
    let d : _ × _ = none_first (is_transfer q.kind && (q.length == 0)) Success _ c.1 in
    let e : _ × _ = none_first (is_full rules.open_requests (length s.requests)) DeviceBusy _ d.1 in
    record { known = a.0; staying = b.0; in_bounds = c.0; some = d.0; room = e.0 }

-- a request that is not refused has a place
pub some_places : (rules : Rules) (s : State) (q : ClientRequest) → 0 < rules.sector_size → refusal rules s q ≡ None → 0 < place_count rules q
some_places rules s q some h =
    let taken : IsTakenIn rules s q = taken_in rules s q h in
    kind_places q.kind rules.sector_size q.length (q.offset % rules.sector_size == 0) _ taken.in_bounds taken.some some

-- EACH STEP KEEPS THEM

module _ (rules : Rules) (some : 0 < rules.sector_size) where
  HavePlaces-same : (s t : State) → IsSame s t → HavePlaces t → HavePlaces s
  HavePlaces-same s t h places = All-permutation HasPlaces _ _ (IsPermutation-sym _ _ h.requests) places

  HavePlaces-Admits : (s : State) (number : ℕ) (q : ClientRequest) (answer : Option NtStatus) (s' : State) → HavePlaces s → Admits rules s number q answer s' → HavePlaces s'
  HavePlaces-Admits s number q None s' places h =
      let n : 0 < length (replicate (place_count rules q) Untouched) = rw (length-replicate (place_count rules q) Untouched) (some_places rules s q some h.not_refused) in
      HavePlaces-same s' _ h.after (All-cons HasPlaces _ s.requests n places)
  HavePlaces-Admits s number q (Some status) s' places h = HavePlaces-same s' _ h.after places

  HavePlaces-DeviceStep : (s : State) (label : DeviceLabel) (s' : State) → HavePlaces s → DeviceStep rules s label s' → HavePlaces s'
  HavePlaces-DeviceStep s (Start piece tag block) s' places h =
      HavePlaces-same s' _ h.after (All-changed HasPlaces s.requests h.owner _ h.others h.is_open places (HasPlaces-with_marks h.owner h.places.first _))
  HavePlaces-DeviceStep s (Act piece bytes) s' places h = HavePlaces-same s' _ h.after places
  HavePlaces-DeviceStep s (Fault piece) s' places h = HavePlaces-same s' _ h.after places
  HavePlaces-DeviceStep s (Return piece class) s' places h =
      HavePlaces-same s' _ h.after (All-changed HasPlaces s.requests h.owner _ h.others h.is_open places (HasPlaces-with_marks h.owner h.piece.places.first _))

  held_places : (window : Option ℕ) (xs : List OpenRequest) → All HasPlaces xs → All HasPlaces (held_back window xs)
  held_places None xs h = h
  held_places (Some window) xs h = All-map HasPlaces (beyond window xs) xs h

  HavePlaces-FreeStep : (s : State) (label : Label) (s' : State) → HavePlaces s → FreeStep rules s label s' → HavePlaces s'
  HavePlaces-FreeStep s (Call number q) s' places h = HavePlaces-Admits s number q (refusal rules s q) s' places h.admits
  HavePlaces-FreeStep s (Device label) s' places h = HavePlaces-DeviceStep s label s' places h
  HavePlaces-FreeStep s (Answer number status informed bytes) s' places h =
      HavePlaces-same s' _ h.answers.after (All-tail HasPlaces h.answers.request h.answers.others (All-permutation HasPlaces _ _ h.answers.is_open places))
  HavePlaces-FreeStep s (Cancel number) s' places h = HavePlaces-same s' _ h.after (All-changed HasPlaces s.requests h.request _ h.others h.is_open places (λ n. n))
  HavePlaces-FreeStep s Pause s' places h = HavePlaces-same s' _ h.after (held_places rules.window s.requests places)
  HavePlaces-FreeStep s Resume s' places h = HavePlaces-same s' _ h.after (All-map HasPlaces as_timely s.requests places)
  HavePlaces-FreeStep s Remove s' places h = HavePlaces-same s' _ h.after places
  HavePlaces-FreeStep s Surprise s' places h = HavePlaces-same s' _ h.drains (by_pause s.paused)
    where
      by_pause : (paused : Bool) → All HasPlaces (if paused then s.requests else held_back rules.window s.requests)
      by_pause true = places
      by_pause false = held_places rules.window s.requests places
  HavePlaces-FreeStep s Removed s' places h = HavePlaces-same s' _ h.after places

  HavePlaces-OwingStep : (s : State) (label : Label) (s' : State) → HavePlaces s → OwingStep s label s' → HavePlaces s'
  HavePlaces-OwingStep s (Answer number status informed bytes) s' places h = HavePlaces-same s' _ h.after places
  HavePlaces-OwingStep s _ s' places h = absurd h

  HavePlaces-Run : (s : State) (labels : List Label) (s' : State) → HavePlaces s → Run rules s labels s' → HavePlaces s'
  HavePlaces-Run s [] s' places h = HavePlaces-same s' s (IsSame-sym s s' h) places
  HavePlaces-Run s (label ∷ labels) s' places (mid, inl (free, h), rest) = HavePlaces-Run mid labels s' (HavePlaces-FreeStep s label mid places h) rest
  HavePlaces-Run s (label ∷ labels) s' places (mid, inr h, rest) = HavePlaces-Run mid labels s' (HavePlaces-OwingStep s label mid places h) rest
