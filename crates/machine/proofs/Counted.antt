-- Where a request goes as one piece, its marks tell how often it came back busy, and are as many as it asks for.
use Rattle.std.proofs.Common.{◌≡◌, ◌<◌, ◌≤◌, inl, inr, ℕ, ◌+◌, Bool, true, false, not, List, [], ◌∷◌, Option, Some, None, refl, ◌∙◌, subst, arith, map, length, replicate}
use Rattle.std.specs.Prelude.{All, IsTrue, IsFalse, if◌then◌else◌}
use Rattle.std.specs.List.{list_all}
use Rattle.std.proofs.lemmas.List.{length-replicate}
use Rattle.std.proofs.lemmas.List.Sorted.{All-permutation}
use Rattle.std.proofs.lemmas.List.Elements.{All-nil, All-cons, All-head, All-tail, All-weaker, All-map, All-replicate}
use Rattle.ntstatus.specs.declared.NtStatus.{NtStatus}
use Rattle.sector.specs.Splice.{splice}
use Rattle.srb.specs.declared.DeviceLabel.{DeviceLabel}
use Rattle.srb.specs.declared.DeviceLabel.TheVariants.{Start, Act, Fault, Return}
use Rattle.srb.specs.declared.Class.{Class}
use Rattle.srb.specs.declared.Class.TheVariants.{Good, Busy, Bad}
use Rattle.machine.specs.declared.ClientRequest.{ClientRequest}
use Rattle.machine.specs.declared.Label.TheVariants.{Device}
use Rattle.machine.specs.Rules.{Rules, place_count}
use Rattle.machine.specs.State.{Mark, Untouched, Out, Done, Failed, Back, OpenRequest, Piece, State, IsSame, opening}
use Rattle.machine.specs.Calling.{Opens, new_request}
use Rattle.machine.specs.Sending.{LeavesMarks, status_of_completion, is_untouched, Returns, sent, given_back, one_if_busy}
use Rattle.machine.specs.Answering.{Answers}
use Rattle.machine.specs.Holding.{Cancels, held_back, beyond, as_cancelled, Drains}
use Rattle.machine.specs.Step.{DeviceStep, Run, as_label}
use Rattle.machine.specs.Numbers.{AreDistinct}
use Rattle.machine.specs.Pieces.{IsCovered, IsPlaced, ArePlaced}
use Rattle.machine.specs.Cutting.{mark_at}
use Rattle.machine.specs.Marks.{IsAllOf, IsAll, AreOnePiece, IsBusyBy, IsCounted, AreCounted}
use Rattle.machine.proofs.Permuting.{All-changed}
use Rattle.machine.proofs.Same.{IsSame-sym}
use Rattle.machine.proofs.Numbers.{AreDistinct-Step}
use Rattle.machine.proofs.Placed.{is_inside, is_out_there, leaves, ArePlaced-Step}
use Rattle.machine.proofs.OnePiece.{whole_splice, AreOnePiece-Step}

pub AreCounted-same : (rules : Rules) (s t : State) → IsSame s t → AreCounted rules s → AreCounted rules t
AreCounted-same rules s t h k = All-permutation (IsCounted rules) _ _ h.requests k

-- a request with places that was never started did not come back
none_yet : (busy : ℕ) (marks : List Mark) → 0 < length marks → IsFalse (not (list_all is_untouched marks)) → All (IsBusyBy busy) marks → busy ≡ 0
none_yet busy [] some waits h = absurd (omega arith)
none_yet busy (Untouched ∷ marks) some waits h = All-head (IsBusyBy busy) Untouched marks h
none_yet busy (Out ∷ marks) some waits h = absurd (cc (waits))
none_yet busy (Done sector ∷ marks) some waits h = absurd (cc (waits))
none_yet busy (Failed status ∷ marks) some waits h = absurd (cc (waits))
none_yet busy (Back ∷ marks) some waits h = absurd (cc (waits))

-- what a piece leaves, where its request did not come back before
left_counted : (piece : Piece) (class : Class) (marks : List Mark) (busy : ℕ) → busy ≡ 0 → LeavesMarks piece class marks → All (IsBusyBy (busy + one_if_busy class)) marks
left_counted piece Good marks busy none h = rw h.2 (All-map (IsBusyBy (busy + 0)) Done h.0 (λ j d low. omega (arith, none)))
left_counted piece Busy marks busy none h = rw h.1 (All-replicate (IsBusyBy (busy + 1)) piece.places.count Back (omega (arith, none)))
left_counted piece (Bad completion) marks busy none h =
    rw h.1 (All-replicate (IsBusyBy (busy + 0)) piece.places.count (Failed (status_of_completion completion)) (omega (arith, none)))

-- what comes back stands in the place of all marks of its request, which were out
pub record ComesBackWhole (o : OpenRequest) (p : Piece) (marks : List Mark) : Type 0 where
  pub all : splice o.marks p.places.first marks ≡ marks
  pub some : 0 < length marks
  pub long : length marks ≡ length o.marks
  pub was_out : mark_at o p.places.first ≡ Out
  pub inside : p.places.first < length o.marks

pub comes_back_whole : (s : State) (number : ℕ) (class : Class) (s' : State) → ArePlaced s → AreOnePiece s → (h : Returns s number class s') → ComesBackWhole h.owner h.piece h.marks
comes_back_whole s number class s' placed whole h =
    let p : Piece = h.piece in
    let o : OpenRequest = h.owner in
    let mine : IsPlaced s.requests p = All-head (IsPlaced s.requests) p h.other_pieces (All-permutation (IsPlaced s.requests) _ _ h.is_out placed.pieces) in
    let covered : IsCovered s.pieces o = All-head (IsCovered s.pieces) o h.others (All-permutation (IsCovered s.pieces) _ _ h.is_open placed.places) in
    let of_all : All (IsAll s.requests) (p ∷ h.other_pieces) = All-permutation (IsAll s.requests) _ _ h.is_out whole.whole in
    let all : length o.marks ≤ p.places.count = All-head (IsAllOf p) o h.others (All-permutation (IsAllOf p) _ _ h.is_open (All-head (IsAll s.requests) p h.other_pieces of_all)) h.is_owner in
    let inside : p.places.first + p.places.count ≤ length o.marks = is_inside s.pieces p h.other_pieces o h.is_out covered h.is_owner mine.some in
    let some : 0 < p.places.count = mine.some in
    let n : length h.marks ≡ p.places.count = (leaves p class h.marks mine.filled h.leaves).0 in
    record {
      all = whole_splice o.marks p.places.first h.marks (omega arith) (omega arith);
      some = omega arith;
      long = omega arith;
      was_out = is_out_there s.pieces p h.other_pieces o p.places.first h.is_out covered h.is_owner (omega arith) (omega arith);
      inside = omega arith;
    }

module _ (rules : Rules) (one : IsTrue rules.one_piece) where
  pub AreCounted-Opens : (s : State) (number : ℕ) (q : ClientRequest) (s' : State) → AreCounted rules s → Opens rules s number q s' → AreCounted rules s'
  AreCounted-Opens s number q s' k h =
      AreCounted-same rules _ s' (IsSame-sym _ _ h.after) (All-cons (IsCounted rules) (new_request rules s number q) s.requests (record {
        places = length-replicate (place_count rules q) Untouched;
        busy = All-replicate (IsBusyBy 0) (place_count rules q) Untouched refl;
      }) k)

  pub AreCounted-Answers : (s : State) (number : ℕ) (status : NtStatus) (bytes : List ℕ) (s' : State) → AreCounted rules s → Answers rules s number status bytes s' → AreCounted rules s'
  AreCounted-Answers s number status bytes s' k h =
      AreCounted-same rules _ s' (IsSame-sym _ _ h.after) (All-tail (IsCounted rules) h.request h.others (All-permutation (IsCounted rules) _ _ h.is_open k))

  pub AreCounted-Cancels : (s : State) (number : ℕ) (s' : State) → AreCounted rules s → Cancels s number s' → AreCounted rules s'
  AreCounted-Cancels s number s' k h =
      AreCounted-same rules _ s' (IsSame-sym _ _ h.after) (All-changed (IsCounted rules) s.requests h.request (as_cancelled h.request) h.others h.is_open k (λ c. record { places = c.places; busy = c.busy }))

  held_counted : (window : Option ℕ) (xs : List OpenRequest) → All (IsCounted rules) xs → All (IsCounted rules) (held_back window xs)
  held_counted None xs h = h
  held_counted (Some window) xs h =
      All-map (IsCounted rules) (beyond window xs) xs (All-weaker (IsCounted rules) (λ o. IsCounted rules (beyond window xs o)) (λ o c. record { places = c.places; busy = c.busy }) xs h)

  pub AreCounted-Drains : (s s' : State) → AreCounted rules s → Drains rules s s' → AreCounted rules s'
  AreCounted-Drains s s' k h = AreCounted-same rules _ s' (IsSame-sym _ _ h) (by_pause s.paused)
    where
      by_pause : (paused : Bool) → All (IsCounted rules) (if paused then s.requests else held_back rules.window s.requests)
      by_pause true = k
      by_pause false = held_counted rules.window s.requests k

  pub AreCounted-DeviceStep : (s : State) (label : DeviceLabel) (s' : State) → ArePlaced s → AreOnePiece s → AreCounted rules s → DeviceStep rules s label s' → AreCounted rules s'
  AreCounted-DeviceStep s (Start number tag block) s' placed whole k h =
      let o : OpenRequest = h.owner in
      let outs : List Mark = replicate h.places.count Out in
      let n : length outs ≡ h.places.count = length-replicate h.places.count Out in
      let fits : h.places.first + h.places.count ≤ length o.marks = h.sendable.inside in
      let some : 0 < h.places.count = h.sendable.some in
      let all : h.places.count ≡ length o.marks = (h.sendable.whole one).all_places in
      let e : splice o.marks h.places.first outs ≡ outs = whole_splice o.marks h.places.first outs (omega arith) (omega arith) in
      AreCounted-same rules _ s' (IsSame-sym _ _ h.after) (All-changed (IsCounted rules) s.requests o (sent h.places o) h.others h.is_open k (λ c. record {
        places = rw e (n ∙ all ∙ c.places);
        busy = rw e (All-replicate (IsBusyBy o.busy_returns) h.places.count Out (none_yet o.busy_returns o.marks (omega arith) (h.sendable.whole one).not_before c.busy));
      }))
  AreCounted-DeviceStep s (Act number bytes) s' placed whole k h = AreCounted-same rules _ s' (IsSame-sym _ _ h.after) k
  AreCounted-DeviceStep s (Fault number) s' placed whole k h = AreCounted-same rules _ s' (IsSame-sym _ _ h.after) k
  AreCounted-DeviceStep s (Return number class) s' placed whole k h =
      let o : OpenRequest = h.owner in
      let w : ComesBackWhole o h.piece h.marks = comes_back_whole s number class s' placed whole h in
      AreCounted-same rules _ s' (IsSame-sym _ _ h.after) (All-changed (IsCounted rules) s.requests o (given_back h.piece class h.marks o) h.others h.is_open k (λ c.
      let none : o.busy_returns ≡ 0 = subst (IsBusyBy o.busy_returns) w.was_out (c.busy h.piece.places.first Untouched w.inside) in
      record {
        places = rw w.all (w.long ∙ c.places);
        busy = rw w.all (left_counted h.piece class h.marks o.busy_returns none h.leaves);
      }))

  -- a run by labels of the adapter
  pub AreCounted-Run : (s : State) (labels : List DeviceLabel) (s' : State) → AreDistinct s → ArePlaced s → AreOnePiece s → AreCounted rules s → Run rules s (map as_label labels) s' → AreCounted rules s'
  AreCounted-Run s [] s' d placed whole k run = AreCounted-same rules s s' run k
  AreCounted-Run s (label ∷ labels) s' d placed whole k (mid, inl (free, step), run) =
      AreCounted-Run mid labels s' (AreDistinct-Step rules s (Device label) mid d (inl (free, step))) (ArePlaced-Step rules s (Device label) mid d placed (inl (free, step)))
      (AreOnePiece-Step rules one s (Device label) mid d placed whole (inl (free, step))) (AreCounted-DeviceStep s label mid placed whole k step) run
  AreCounted-Run s (label ∷ labels) s' d placed whole k (mid, inr owing, run) = absurd owing

pub AreCounted-opening : (rules : Rules) (arrays : List (List (List ℕ))) → AreCounted rules (opening arrays)
AreCounted-opening rules arrays = All-nil (IsCounted rules)
