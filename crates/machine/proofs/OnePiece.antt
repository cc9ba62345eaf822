-- Where a request goes as one piece, its marks are alike at every moment.
use Rattle.std.proofs.Common.{◌≡◌, ◌≢◌, ◌<◌, ◌≤◌, inl, inr, ℕ, ◌+◌, Bool, true, false, List, [], ◌∷◌, Option, Some, None, refl, sym, ◌∙◌, arith, map, length, get_or, replicate, append-nil}
use Rattle.std.specs.Prelude.{IsPermutation, All, Any, IsTrue, if◌then◌else◌}
use Rattle.std.proofs.lemmas.List.{length-replicate, drop_all}
use Rattle.std.proofs.lemmas.List.Sorted.{IsPermutation-sym, All-permutation}
use Rattle.std.proofs.lemmas.List.Elements.{All-nil, All-cons, All-head, All-tail, All-weaker, All-map, All-contains, All-replicate}
use Rattle.ntstatus.specs.declared.NtStatus.{NtStatus}
use Rattle.sector.specs.declared.Extent.{Extent}
use Rattle.sector.specs.Splice.{splice}
use Rattle.srb.specs.declared.DeviceLabel.{DeviceLabel}
use Rattle.srb.specs.declared.DeviceLabel.TheVariants.{Start, Act, Fault, Return}
use Rattle.srb.specs.declared.Class.{Class}
use Rattle.srb.specs.declared.Class.TheVariants.{Good, Busy, Bad}
use Rattle.srb.specs.Fate.{Fate, Acted, Faulted}
use Rattle.machine.specs.declared.ClientRequest.{ClientRequest}
use Rattle.machine.specs.declared.Label.{Label}
use Rattle.machine.specs.declared.Label.TheVariants.{Call, Device, Answer, Cancel, Pause, Resume, Remove, Surprise, Removed}
use Rattle.machine.specs.Rules.{Rules, place_count}
use Rattle.machine.specs.State.{Mark, Untouched, Out, Done, Failed, Back, OpenRequest, Piece, State, IsSame, opening}
use Rattle.machine.specs.Calling.{Opens, Admits, refusal, new_request}
use Rattle.machine.specs.Sending.{LeavesMarks, status_of_completion, sent, given_back, new_piece, with_fate}
use Rattle.machine.specs.Answering.{Answers}
use Rattle.machine.specs.Holding.{held_back, beyond, as_timely, as_cancelled, Drains}
use Rattle.machine.specs.Step.{DeviceStep, FreeStep, OwingStep, Step, Run}
use Rattle.machine.specs.Numbers.{IsGiven, AreDistinct}
use Rattle.machine.specs.Pieces.{IsOwner, IsCovered, IsPlaced, ArePlaced}
use Rattle.machine.specs.Marks.{AreAlike, HasAlike, IsAllOf, IsAll, IsLike, AreOnePiece}
use Rattle.machine.proofs.Same.{IsSame-sym}
use Rattle.machine.proofs.Numbers.{AreDistinct-Step}
use Rattle.machine.proofs.Placed.{is_inside, leaves, differ_first, ArePlaced-Step}

-- a part that is the whole
pub whole_splice : {X : Type 0} (xs : List X) (first : ℕ) (more : List X) → first ≡ 0 → length xs ≤ length more → splice xs first more ≡ more
whole_splice xs first more e long = rw e (rw (drop_all (0 + length more) xs (omega arith)) (append-nil more))

module _ (s : State) (k : AreOnePiece s) where
  alike_first : (o : OpenRequest) (others : List OpenRequest) → IsPermutation s.requests (o ∷ others) → All HasAlike (o ∷ others)
  alike_first o others p = All-permutation HasAlike _ _ p k.alike

  all_first : (o : OpenRequest) (others : List OpenRequest) → IsPermutation s.requests (o ∷ others) → (ps : List Piece) → All (IsAll s.requests) ps → All (IsAll (o ∷ others)) ps
  all_first o others p ps h = All-weaker (IsAll s.requests) (IsAll (o ∷ others)) (λ piece all. All-permutation (IsAllOf piece) _ _ p all) ps h

  -- one request changed, but for its number and how many places it has
  changed : (o o' : OpenRequest) (others : List OpenRequest) (ps : List Piece) → o'.number ≡ o.number → length o'.marks ≡ length o.marks → AreAlike o'.marks → IsPermutation s.requests (o ∷ others)
      → All (IsAll s.requests) ps → AreOnePiece (record s { requests = o' ∷ others; pieces = ps })
  changed o o' others ps e long alike p h = record {
    alike = All-cons HasAlike o' others alike (All-tail HasAlike o others (alike_first o others p));
    whole = All-weaker (IsAll (o ∷ others)) (IsAll (o' ∷ others))
        (λ piece all. All-cons (IsAllOf piece) o' others (λ owner. rw long (All-head (IsAllOf piece) o others all (sym e ∙ owner))) (All-tail (IsAllOf piece) o others all)) ps (all_first o others p ps h);
  }

  each : (f : OpenRequest → OpenRequest) → ((o : OpenRequest) → (f o).number ≡ o.number) → ((o : OpenRequest) → (f o).marks ≡ o.marks) → AreOnePiece (record s { requests = map f s.requests })
  each f e m = record {
    alike = All-map HasAlike f s.requests (All-weaker HasAlike (λ o. HasAlike (f o)) (λ o h. rw (m o) h) s.requests k.alike);
    whole = All-weaker (IsAll s.requests) (IsAll (map f s.requests))
        (λ piece all. All-map (IsAllOf piece) f s.requests (All-weaker (IsAllOf piece) (λ o. IsAllOf piece (f o)) (λ o h owner. rw (m o) (h (sym (e o) ∙ owner))) s.requests all)) s.pieces k.whole;
  }

  held : (window : Option ℕ) → AreOnePiece (record s { requests = held_back window s.requests })
  held None = record { alike = k.alike; whole = k.whole }
  held (Some window) = each (beyond window s.requests) (λ o. refl) (λ o. refl)

  met : (p : Piece) (others : List Piece) (fate : Fate) → IsPermutation s.pieces (p ∷ others) → AreOnePiece (record s { pieces = with_fate fate p ∷ others })
  met p others fate perm =
      let all : All (IsAll s.requests) (p ∷ others) = All-permutation (IsAll s.requests) _ _ perm k.whole in
      record { alike = k.alike; whole = All-cons (IsAll s.requests) (with_fate fate p) others (All-head (IsAll s.requests) p others all) (All-tail (IsAll s.requests) p others all) }

  ended : (o : OpenRequest) (others : List OpenRequest) → IsPermutation s.requests (o ∷ others) → AreOnePiece (record s { requests = others })
  ended o others p = record {
    alike = All-tail HasAlike o others (alike_first o others p);
    whole = All-weaker (IsAll (o ∷ others)) (IsAll others) (λ piece all. All-tail (IsAllOf piece) o others all) s.pieces (all_first o others p s.pieces k.whole);
  }

  -- one more request, that no piece is of
  opened : (n : ℕ) (o : OpenRequest) (count : ℕ) → ((p : Piece) → IsPlaced s.requests p → o.number ≢ p.owner) → o.marks ≡ replicate count Untouched → All (IsPlaced s.requests) s.pieces
      → AreOnePiece (record s { next_request = n; requests = o ∷ s.requests })
  opened n o count other m placed = record {
    alike = All-cons HasAlike o s.requests (Untouched, rw m (All-replicate (IsLike Untouched) count Untouched refl)) k.alike;
    whole = λ j d low. one_more (get_or s.pieces j d) (placed j d low) (k.whole j d low);
  }
    where
      one_more : (p : Piece) → IsPlaced s.requests p → IsAll s.requests p → IsAll (o ∷ s.requests) p
      one_more p h all = All-cons (IsAllOf p) o s.requests (λ owner. absurd (other p h owner)) all

  -- a piece of all places
  started : (tag : ℕ) (o : OpenRequest) (others : List OpenRequest) (places : Extent) → All (λ (x : OpenRequest). x.number ≢ o.number) others → places.first + places.count ≤ length o.marks → places.count ≡ length o.marks
      → IsPermutation s.requests (o ∷ others) → AreOnePiece (record s { next_piece = s.next_piece + 1; requests = sent places o ∷ others; pieces = new_piece s tag o places ∷ s.pieces })
  started tag o others places differ inside whole p =
      let outs : List Mark = replicate places.count Out in
      let n : length outs ≡ places.count = length-replicate places.count Out in
      let e : splice o.marks places.first outs ≡ outs = whole_splice o.marks places.first outs (omega arith) (omega arith) in
      let before : AreOnePiece (record s { requests = sent places o ∷ others; pieces = s.pieces }) =
      changed o (sent places o) others s.pieces refl (rw e (n ∙ whole)) (Out, rw e (All-replicate (IsLike Out) places.count Out refl)) p k.whole in
      record {
        alike = before.alike;
        whole = All-cons (IsAll (sent places o ∷ others)) (new_piece s tag o places) s.pieces
            (All-cons (IsAllOf (new_piece s tag o places)) (sent places o) others (λ owner. rw (e, n) (omega arith))
            (All-weaker (λ (x : OpenRequest). x.number ≢ o.number) (IsAllOf (new_piece s tag o places)) (λ x other owner. absurd (other owner)) others differ)) before.whole;
      }

-- what a piece leaves is alike
pub LeavesMarks-alike : (piece : Piece) (class : Class) (marks : List Mark) → LeavesMarks piece class marks → AreAlike marks
LeavesMarks-alike piece Good marks h = (Done [], rw h.2 (All-map (IsLike (Done [])) Done h.0 (λ j d low. refl)))
LeavesMarks-alike piece Busy marks h = (Back, rw h.1 (All-replicate (IsLike Back) piece.places.count Back refl))
LeavesMarks-alike piece (Bad completion) marks h =
    (Failed (status_of_completion completion), rw h.1 (All-replicate (IsLike (Failed (status_of_completion completion))) piece.places.count (Failed (status_of_completion completion)) refl))

AreOnePiece-same : (s t : State) → IsSame s t → AreOnePiece t → AreOnePiece s
AreOnePiece-same s t h k = record {
  alike = All-permutation HasAlike _ _ (IsPermutation-sym _ _ h.requests) k.alike;
  whole = All-weaker (IsAll t.requests) (IsAll s.requests) (λ piece all. All-permutation (IsAllOf piece) _ _ (IsPermutation-sym _ _ h.requests) all) s.pieces (All-permutation (IsAll t.requests) _ _ (IsPermutation-sym _ _ h.pieces) k.whole);
}

-- the fields that it does not read may change
same_one_piece : (s t : State) → t.requests ≡ s.requests → t.pieces ≡ s.pieces → AreOnePiece s → AreOnePiece t
same_one_piece s t a b k = record { alike = rw a k.alike; whole = rw (a, b) k.whole }

pub AreOnePiece-opening : (arrays : List (List (List ℕ))) → AreOnePiece (opening arrays)
AreOnePiece-opening arrays = record { alike = All-nil HasAlike; whole = All-nil (IsAll []) }

module _ (rules : Rules) (one : IsTrue rules.one_piece) where
  pub AreOnePiece-Opens : (s : State) (number : ℕ) (q : ClientRequest) (s' : State) → AreDistinct s → ArePlaced s → AreOnePiece s → Opens rules s number q s' → AreOnePiece s'
  AreOnePiece-Opens s number q s' d placed k h = AreOnePiece-same s' _ h.after (opened s k (number + 1) (new_request rules s number q) (place_count rules q) (other h.new_number) refl placed.pieces)
    where
      not_yet : (n owner : ℕ) → n < s.next_request → s.next_request ≤ number → n ≡ owner → number ≡ owner → ⊥
      not_yet n owner low above e f = absurd (omega arith)

      other : s.next_request ≤ number → (p : Piece) → IsPlaced s.requests p → number ≢ p.owner
      other above p h = owned h.owned
        where
          owned : Any (IsOwner p) s.requests → number ≢ p.owner
          owned (j, x, low, is, owner) e = not_yet x.number p.owner (All-contains (IsGiven s.next_request) s.requests x d.given (j, low, is)) above owner e

  pub AreOnePiece-DeviceStep : (s : State) (label : DeviceLabel) (s' : State) → AreDistinct s → ArePlaced s → AreOnePiece s → DeviceStep rules s label s' → AreOnePiece s'
  AreOnePiece-DeviceStep s (Start number tag block) s' d placed k h =
      AreOnePiece-same s' _ h.after (started s k tag h.owner h.others h.places (differ_first s h.owner h.others d h.is_open) h.sendable.inside (h.sendable.whole one).all_places h.is_open)
  AreOnePiece-DeviceStep s (Act number bytes) s' d placed k h =
      AreOnePiece-same s' _ h.after (same_one_piece (record s { pieces = with_fate (Acted h.sectors) h.piece ∷ h.other_pieces }) _ refl refl (met s k h.piece h.other_pieces (Acted h.sectors) h.fresh.is_out))
  AreOnePiece-DeviceStep s (Fault number) s' d placed k h = AreOnePiece-same s' _ h.after (met s k h.piece h.other_pieces Faulted h.fresh.is_out)
  AreOnePiece-DeviceStep s (Return number class) s' d placed k h =
      let p : Piece = h.piece in
      let o : OpenRequest = h.owner in
      let mine : IsPlaced s.requests p = All-head (IsPlaced s.requests) p h.other_pieces (All-permutation (IsPlaced s.requests) _ _ h.is_out placed.pieces) in
      let covered : IsCovered s.pieces o = All-head (IsCovered s.pieces) o h.others (All-permutation (IsCovered s.pieces) _ _ h.is_open placed.places) in
      let whole : All (IsAll s.requests) (p ∷ h.other_pieces) = All-permutation (IsAll s.requests) _ _ h.is_out k.whole in
      let all : length o.marks ≤ p.places.count = All-head (IsAllOf p) o h.others (All-permutation (IsAllOf p) _ _ h.is_open (All-head (IsAll s.requests) p h.other_pieces whole)) h.is_owner in
      let inside : p.places.first + p.places.count ≤ length o.marks = is_inside s.pieces p h.other_pieces o h.is_out covered h.is_owner mine.some in
      let n : length h.marks ≡ p.places.count = (leaves p class h.marks mine.filled h.leaves).0 in
      let e : splice o.marks p.places.first h.marks ≡ h.marks = whole_splice o.marks p.places.first h.marks (omega arith) (omega arith) in
      AreOnePiece-same s' _ h.after (changed s k o (given_back p class h.marks o) h.others h.other_pieces refl (rw e (omega arith)) (rw e (LeavesMarks-alike p class h.marks h.leaves)) h.is_open (All-tail (IsAll s.requests) p h.other_pieces whole))

  pub AreOnePiece-Answers : (s : State) (number : ℕ) (status : NtStatus) (bytes : List ℕ) (s' : State) → AreOnePiece s → Answers rules s number status bytes s' → AreOnePiece s'
  AreOnePiece-Answers s number status bytes s' k h = AreOnePiece-same s' _ h.after (ended s k h.request h.others h.is_open)

  AreOnePiece-Admits : (s : State) (number : ℕ) (q : ClientRequest) (answer : Option NtStatus) (s' : State) → AreDistinct s → ArePlaced s → AreOnePiece s → Admits rules s number q answer s' → AreOnePiece s'
  AreOnePiece-Admits s number q None s' d placed k h = AreOnePiece-Opens s number q s' d placed k h
  AreOnePiece-Admits s number q (Some status) s' d placed k h = AreOnePiece-same s' _ h.after (same_one_piece s _ refl refl k)

  pub AreOnePiece-Drains : (s s' : State) → AreOnePiece s → Drains rules s s' → AreOnePiece s'
  AreOnePiece-Drains s s' k h = AreOnePiece-same s' _ h (by_pause s.paused)
    where
      by_pause : (paused : Bool) → AreOnePiece (record s { paused = false; removing = true; requests = if paused then s.requests else held_back rules.window s.requests })
      by_pause true = same_one_piece s _ refl refl k
      by_pause false = same_one_piece _ _ refl refl (held s k rules.window)

  AreOnePiece-FreeStep : (s : State) (label : Label) (s' : State) → AreDistinct s → ArePlaced s → AreOnePiece s → FreeStep rules s label s' → AreOnePiece s'
  AreOnePiece-FreeStep s (Call number q) s' d placed k h = AreOnePiece-Admits s number q (refusal rules s q) s' d placed k h.admits
  AreOnePiece-FreeStep s (Device label) s' d placed k h = AreOnePiece-DeviceStep s label s' d placed k h
  AreOnePiece-FreeStep s (Answer number status informed bytes) s' d placed k h = AreOnePiece-Answers s number status bytes s' k h.answers
  AreOnePiece-FreeStep s (Cancel number) s' d placed k h =
      AreOnePiece-same s' _ h.after (changed s k h.request (as_cancelled h.request) h.others s.pieces refl refl (All-head HasAlike h.request h.others (alike_first s k h.request h.others h.is_open)) h.is_open k.whole)
  AreOnePiece-FreeStep s Pause s' d placed k h = AreOnePiece-same s' _ h.after (same_one_piece _ _ refl refl (held s k rules.window))
  AreOnePiece-FreeStep s Resume s' d placed k h = AreOnePiece-same s' _ h.after (same_one_piece _ _ refl refl (each s k as_timely (λ o. refl) (λ o. refl)))
  AreOnePiece-FreeStep s Remove s' d placed k h = AreOnePiece-same s' _ h.after (same_one_piece s _ refl refl k)
  AreOnePiece-FreeStep s Surprise s' d placed k h = AreOnePiece-Drains s s' k h.drains
  AreOnePiece-FreeStep s Removed s' d placed k h = AreOnePiece-same s' _ h.after (same_one_piece s _ refl refl k)

  AreOnePiece-OwingStep : (s : State) (label : Label) (s' : State) → AreOnePiece s → OwingStep s label s' → AreOnePiece s'
  AreOnePiece-OwingStep s (Answer number status informed bytes) s' k h = AreOnePiece-same s' _ h.after (same_one_piece s _ refl refl k)
  AreOnePiece-OwingStep s _ s' k h = absurd h

  pub AreOnePiece-Step : (s : State) (label : Label) (s' : State) → AreDistinct s → ArePlaced s → AreOnePiece s → Step rules s label s' → AreOnePiece s'
  AreOnePiece-Step s label s' d placed k (inl h) = AreOnePiece-FreeStep s label s' d placed k h.1
  AreOnePiece-Step s label s' d placed k (inr h) = AreOnePiece-OwingStep s label s' k h

  pub AreOnePiece-Run : (s : State) (labels : List Label) (s' : State) → AreDistinct s → ArePlaced s → AreOnePiece s → Run rules s labels s' → AreOnePiece s'
  AreOnePiece-Run s [] s' d placed k h = AreOnePiece-same s' s (IsSame-sym s s' h) k
  AreOnePiece-Run s (label ∷ labels) s' d placed k (mid, step, rest) =
      AreOnePiece-Run mid labels s' (AreDistinct-Step rules s label mid d step) (ArePlaced-Step rules s label mid d placed step) (AreOnePiece-Step s label mid d placed k step) rest
