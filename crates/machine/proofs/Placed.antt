-- Each piece out is of an open request and covers places that are out, at every moment.
use Rattle.std.proofs.Common.{◌≡◌, ◌≢◌, ◌<◌, ◌≤◌, inl, inr, ℕ, zero, suc, ◌+◌, ◌-◌, Bool, true, false, cond, List, [], ◌∷◌, ◌++◌, Option, Some, None, refl, sym, ◌∙◌, ap, subst, arith, map, length, take, drop, get_or, replicate, get_or-drop, get_or-take}
use Rattle.std.specs.List.{remove}
use Rattle.std.specs.Prelude.{IsPermutation, All, Any, Contains, count_by, slice_range, if◌then◌else◌}
use Rattle.std.proofs.lemmas.Bool.{cases_lt}
use Rattle.std.proofs.lemmas.Bool.Decides.{nat_tests}
use Rattle.std.proofs.lemmas.List.{length-replicate, length-map, length-take-le, get_or-map, get_or-replicate, get_or_append_left, get_or-append_right, get_or_past}
use Rattle.std.proofs.lemmas.List.Edits.{get_or-between, length-between}
use Rattle.std.proofs.lemmas.List.Sums.{sum_by-cons}
use Rattle.std.proofs.lemmas.List.Sorted.{IsPermutation-sym, IsPermutation-remove, All-permutation, sum_by-IsPermutation}
use Rattle.std.proofs.lemmas.List.Elements.{All-nil, All-cons, All-head, All-tail, All-weaker, All-map, All-contains, All-replicate, All-get_or, Contains-get_or}
use Rattle.ntstatus.specs.declared.NtStatus.{NtStatus}
use Rattle.sector.specs.declared.Extent.{Extent}
use Rattle.sector.specs.Splice.{splice}
use Rattle.srb.specs.declared.DeviceLabel.{DeviceLabel}
use Rattle.srb.specs.declared.DeviceLabel.TheVariants.{Start, Act, Fault, Return}
use Rattle.srb.specs.declared.Class.{Class}
use Rattle.srb.specs.declared.Class.TheVariants.{Good, Busy, Bad}
use Rattle.srb.specs.Fate.{Fate, Acted, Faulted}
use Rattle.machine.specs.declared.ClientRequest.{ClientRequest}
use Rattle.machine.specs.declared.Label.{Label}
use Rattle.machine.specs.declared.Label.TheVariants.{Call, Device, Answer, Cancel, Pause, Resume, Remove, Surprise, Removed}
use Rattle.machine.specs.Rules.{Rules, place_count}
use Rattle.machine.specs.State.{Mark, Untouched, Out, Done, Failed, Back, OpenRequest, Piece, State, IsSame, opening}
use Rattle.machine.specs.Calling.{Opens, Admits, refusal}
use Rattle.machine.specs.Sending.{LeavesMarks, IsUnsent, sent, given_back, new_piece, with_fate}
use Rattle.machine.specs.Answering.{Answers, HasEnded}
use Rattle.machine.specs.Holding.{held_back, beyond, as_timely, as_cancelled, Drains}
use Rattle.machine.specs.Settled.{is_out}
use Rattle.machine.specs.Step.{DeviceStep, FreeStep, OwingStep, Step, Run}
use Rattle.machine.specs.Numbers.{request_number, IsGiven, AreDistinct}
use Rattle.machine.specs.Pieces.{covers, IsCovered, IsOwner, HasFilled, IsPlaced, ArePlaced}
use Rattle.machine.specs.Cutting.{mark_at}
use Rattle.machine.proofs.Same.{IsSame-sym, Any-permutation}
use Rattle.machine.proofs.Numbers.{AreDistinct-Step}
use Rattle.machine.proofs.Permuting.{distinct_first}

-- A PART PUT IN PLACE OF ANOTHER

pub get_or-splice_inside : {X : Type 0} (xs : List X) (first : ℕ) (more : List X) (i : ℕ) (d : X) → first ≤ length xs → first ≤ i → i < first + length more → get_or (splice xs first more) i d ≡ get_or more (i - first) d
get_or-splice_inside xs first more i d fits low high =
    get_or-append_right (take first xs) (more ++ drop (first + length more) xs) first i d (length-take-le first xs fits) low
    ∙ get_or_append_left more (drop (first + length more) xs) d (i - first) (omega arith)

pub get_or-splice_below : {X : Type 0} (xs : List X) (first : ℕ) (more : List X) (i : ℕ) (d : X) → first ≤ length xs → i < first → get_or (splice xs first more) i d ≡ get_or xs i d
get_or-splice_below xs first more i d fits low =
    get_or_append_left (take first xs) (more ++ drop (first + length more) xs) d i (let n : length (take first xs) ≡ first = length-take-le first xs fits in omega arith)
    ∙ get_or-take first xs i d low

pub get_or-splice_above : {X : Type 0} (xs : List X) (first : ℕ) (more : List X) (i : ℕ) (d : X) → first ≤ length xs → first + length more ≤ i → get_or (splice xs first more) i d ≡ get_or xs i d
get_or-splice_above xs first more i d fits high =
    let e : first + length more + (i - first - length more) ≡ i = omega arith in
    get_or-append_right (take first xs) (more ++ drop (first + length more) xs) first i d (length-take-le first xs fits) (omega arith)
    ∙ get_or-append_right more (drop (first + length more) xs) (length more) (i - first) d refl (omega arith)
    ∙ get_or-drop (first + length more) xs (i - first - length more) d
    ∙ ap (λ n. get_or xs n d) e

-- WHAT A PIECE COVERS

pub covers_inside : (n i : ℕ) (p : Piece) → p.owner ≡ n → p.places.first ≤ i → i < p.places.first + p.places.count → covers n i p ≡ true
covers_inside n i p e low high = grind (arith, nat_tests)

pub covers_other : (n i : ℕ) (p : Piece) → p.owner ≢ n → covers n i p ≡ false
covers_other n i p other = grind (arith, nat_tests)

pub covers_below : (n i : ℕ) (p : Piece) → i < p.places.first → covers n i p ≡ false
covers_below n i p low = grind (arith, nat_tests)

pub covers_above : (n i : ℕ) (p : Piece) → p.places.first + p.places.count ≤ i → covers n i p ≡ false
covers_above n i p high = grind (arith, nat_tests)

abbrev one_if : Bool → ℕ
one_if b = cond b 1 0

count_first : (n i : ℕ) (p : Piece) (ps : List Piece) → count_by (covers n i) (p ∷ ps) ≡ one_if (covers n i p) + count_by (covers n i) ps
count_first n i p ps = sum_by-cons (λ x. one_if (covers n i x)) p ps

count_same : (n i : ℕ) (ps qs : List Piece) → IsPermutation ps qs → count_by (covers n i) qs ≡ count_by (covers n i) ps
count_same n i ps qs perm = sum_by-IsPermutation (λ x. one_if (covers n i x)) ps qs perm

pub out_mark : (m : Mark) → is_out m ≡ true → m ≡ Out
out_mark Out h = refl
out_mark Untouched h = cc (h)
out_mark (Done sector) h = cc (h)
out_mark (Failed status) h = cc (h)
out_mark Back h = cc (h)

one_more_out : (b : Bool) (n : ℕ) → 1 + n ≡ one_if b → (b ≡ true) × (n ≡ 0)
one_more_out true n e = (refl, omega arith)
one_more_out false n e = absurd (omega arith)

count_without : (n i : ℕ) (p : Piece) (ps : List Piece) → covers n i p ≡ false → count_by (covers n i) (p ∷ ps) ≡ count_by (covers n i) ps
count_without n i p ps e = count_first n i p ps ∙ plus (covers n i p) (count_by (covers n i) ps) e
  where
    plus : (b : Bool) (m : ℕ) → b ≡ false → one_if b + m ≡ m
    plus true m e = cc (e)
    plus false m e = omega arith

count_with : (n i : ℕ) (p : Piece) (ps : List Piece) → covers n i p ≡ true → count_by (covers n i) (p ∷ ps) ≡ 1 + count_by (covers n i) ps
count_with n i p ps e = count_first n i p ps ∙ ap (λ b. one_if b + count_by (covers n i) ps) e

-- the first piece of a list that covers the places of its owner
pub first_alone : (p : Piece) (ps : List Piece) (o : OpenRequest) (i : ℕ) → IsCovered (p ∷ ps) o → o.number ≡ p.owner → p.places.first ≤ i → i < p.places.first + p.places.count
    → (is_out (mark_at o i) ≡ true) × (count_by (covers o.number i) ps ≡ 0)
first_alone p ps o i covered owner low high =
    let yes : covers o.number i p ≡ true = covers_inside o.number i p (sym owner) low high in
    one_more_out (is_out (mark_at o i)) (count_by (covers o.number i) ps) (sym (count_with o.number i p ps yes) ∙ covered i)

pub IsCovered-permutation : (ps qs : List Piece) (o : OpenRequest) → IsPermutation ps qs → IsCovered ps o → IsCovered qs o
IsCovered-permutation ps qs o perm h = λ i. count_same o.number i ps qs perm ∙ h i

-- the places of a piece are out in its owner
pub is_out_there : (ps : List Piece) (p : Piece) (others : List Piece) (o : OpenRequest) (i : ℕ) → IsPermutation ps (p ∷ others) → IsCovered ps o → o.number ≡ p.owner
    → p.places.first ≤ i → i < p.places.first + p.places.count → mark_at o i ≡ Out
is_out_there ps p others o i perm covered owner low high =
    out_mark (mark_at o i) (first_alone p others o i (IsCovered-permutation ps (p ∷ others) o perm covered) owner low high).0

pub within : (marks : List Mark) (i : ℕ) → is_out (get_or marks i Untouched) ≡ true → i < length marks
within marks i out =
    elim (cases_lt i (length marks)) [
      | inl low ↦ low
      | inr past ↦ absurd (not_past past)
    ]
  where
    not_past : length marks ≤ i → ⊥
    not_past past = let e : get_or marks i Untouched ≡ Untouched = get_or_past marks i Untouched past in cc (ap is_out e, out)

-- and are places that it has
pub is_inside : (ps : List Piece) (p : Piece) (others : List Piece) (o : OpenRequest) → IsPermutation ps (p ∷ others) → IsCovered ps o → o.number ≡ p.owner → 0 < p.places.count
    → p.places.first + p.places.count ≤ length o.marks
is_inside ps p others o perm covered owner some =
    let last : p.places.first + p.places.count - 1 < length o.marks =
    within o.marks (p.places.first + p.places.count - 1)
    (first_alone p others o (p.places.first + p.places.count - 1) (IsCovered-permutation ps (p ∷ others) o perm covered) owner (omega arith) (omega arith)).0 in
    omega arith

-- WHAT CHANGES NO PLACE

owned_first : (p : Piece) (o o' : OpenRequest) (others : List OpenRequest) → o'.number ≡ o.number → Any (IsOwner p) (o ∷ others) → Any (IsOwner p) (o' ∷ others)
owned_first p o o' others e (zero, x, low, is, owner) = (zero, o', low, refl, e ∙ ap (λ (y : OpenRequest). y.number) is ∙ owner)
owned_first p o o' others e (suc k, x, low, is, owner) = (suc k, x, low, is, owner)

owned_each : (p : Piece) (f : OpenRequest → OpenRequest) → ((o : OpenRequest) → (f o).number ≡ o.number) → (xs : List OpenRequest) → Any (IsOwner p) xs → Any (IsOwner p) (map f xs)
owned_each p f e xs (k, x, low, is, owner) = (k, f x, rw (length-map xs f) low, get_or-map f xs k x (f x) low ∙ ap f is, e x ∙ owner)

owned_more : (p : Piece) (o : OpenRequest) (xs : List OpenRequest) → Any (IsOwner p) xs → Any (IsOwner p) (o ∷ xs)
owned_more p o xs (k, x, low, is, owner) = (suc k, x, omega arith, is, owner)

-- the requests in another order or changed, the pieces with their owners still
placed_with : (xs ys : List OpenRequest) (p : Piece) → (Any (IsOwner p) xs → Any (IsOwner p) ys) → IsPlaced xs p → IsPlaced ys p
placed_with xs ys p owned h = record { owned = owned h.owned; some = h.some; filled = h.filled }

all_placed_with : (xs ys : List OpenRequest) (ps : List Piece) → ((p : Piece) → Any (IsOwner p) xs → Any (IsOwner p) ys) → All (IsPlaced xs) ps → All (IsPlaced ys) ps
all_placed_with xs ys ps owned h = All-weaker (IsPlaced xs) (IsPlaced ys) (λ p. placed_with xs ys p (owned p)) ps h

pub ArePlaced-opening : (arrays : List (List (List ℕ))) → ArePlaced (opening arrays)
ArePlaced-opening arrays = record { pieces = All-nil (IsPlaced []); places = All-nil (IsCovered []) }

pub ArePlaced-same : (s t : State) → IsSame s t → ArePlaced t → ArePlaced s
ArePlaced-same s t h k = record {
  pieces = all_placed_with t.requests s.requests s.pieces (λ p. Any-permutation (IsOwner p) _ _ (IsPermutation-sym _ _ h.requests)) (All-permutation (IsPlaced t.requests) _ _ (IsPermutation-sym _ _ h.pieces) k.pieces);
  places = All-weaker (IsCovered t.pieces) (IsCovered s.pieces) (λ o. IsCovered-permutation t.pieces s.pieces o (IsPermutation-sym _ _ h.pieces)) s.requests (All-permutation (IsCovered t.pieces) _ _ (IsPermutation-sym _ _ h.requests) k.places);
}

-- the fields that it does not read may change
pub same_placed : (s t : State) → t.requests ≡ s.requests → t.pieces ≡ s.pieces → ArePlaced s → ArePlaced t
same_placed s t a b k = record { pieces = rw (a, b) k.pieces; places = rw (a, b) k.places }

module _ (s : State) (k : ArePlaced s) where
  covered_first : (o : OpenRequest) (others : List OpenRequest) → IsPermutation s.requests (o ∷ others) → All (IsCovered s.pieces) (o ∷ others)
  covered_first o others p = All-permutation (IsCovered s.pieces) _ _ p k.places

  -- one request changed but for its number and marks
  flagged : (o o' : OpenRequest) (others : List OpenRequest) → o'.number ≡ o.number → o'.marks ≡ o.marks → IsPermutation s.requests (o ∷ others) → ArePlaced (record s { requests = o' ∷ others })
  flagged o o' others e m p =
      let all : All (IsCovered s.pieces) (o ∷ others) = covered_first o others p in
      let mine : IsCovered s.pieces o = All-head (IsCovered s.pieces) o others all in
      record {
        pieces = all_placed_with s.requests (o' ∷ others) s.pieces (λ piece h. owned_first piece o o' others e (Any-permutation (IsOwner piece) _ _ p h)) k.pieces;
        places = All-cons (IsCovered s.pieces) o' others (rw (e, m) mine) (All-tail (IsCovered s.pieces) o others all);
      }

  -- each request changed but for its number and marks
  each : (f : OpenRequest → OpenRequest) → ((o : OpenRequest) → (f o).number ≡ o.number) → ((o : OpenRequest) → (f o).marks ≡ o.marks) → ArePlaced (record s { requests = map f s.requests })
  each f e m = record {
    pieces = all_placed_with s.requests (map f s.requests) s.pieces (λ piece. owned_each piece f e s.requests) k.pieces;
    places = All-map (IsCovered s.pieces) f s.requests (All-weaker (IsCovered s.pieces) (λ o. IsCovered s.pieces (f o)) (λ o h. rw (e o, m o) h) s.requests k.places);
  }

  held : (window : Option ℕ) → ArePlaced (record s { requests = held_back window s.requests })
  held None = record { pieces = k.pieces; places = k.places }
  held (Some window) = each (beyond window s.requests) (λ o. refl) (λ o. refl)

  -- a piece that meets its fate
  met : (p : Piece) (others : List Piece) (fate : Fate) → HasFilled p.places.count fate → IsPermutation s.pieces (p ∷ others) → ArePlaced (record s { pieces = with_fate fate p ∷ others })
  met p others fate filled perm =
      let all : All (IsPlaced s.requests) (p ∷ others) = All-permutation (IsPlaced s.requests) _ _ perm k.pieces in
      let mine : IsPlaced s.requests p = All-head (IsPlaced s.requests) p others all in
      record {
        pieces = All-cons (IsPlaced s.requests) (with_fate fate p) others (record { owned = mine.owned; some = mine.some; filled = filled }) (All-tail (IsPlaced s.requests) p others all);
        places = All-weaker (IsCovered s.pieces) (IsCovered (with_fate fate p ∷ others)) (λ o h i. same_cover o i ∙ h i) s.requests k.places;
      }
    where
      same_cover : (o : OpenRequest) (i : ℕ) → count_by (covers o.number i) (with_fate fate p ∷ others) ≡ count_by (covers o.number i) s.pieces
      same_cover o i = count_first o.number i (with_fate fate p) others ∙ sym (count_first o.number i p others) ∙ count_same o.number i s.pieces (p ∷ others) perm

  -- NEW REQUESTS, AND ENDED ONES

  no_piece : (n : ℕ) → All (λ (o : OpenRequest). o.number ≢ n) s.requests → (i : ℕ) (ps : List Piece) → All (IsPlaced s.requests) ps → count_by (covers n i) ps ≡ 0
  no_piece n others i [] h = refl
  no_piece n others i (p ∷ ps) h =
      let mine : IsPlaced s.requests p = All-head (IsPlaced s.requests) p ps h in
      let not_mine : covers n i p ≡ false = covers_other n i p (other mine.owned) in
      count_without n i p ps not_mine ∙ no_piece n others i ps (All-tail (IsPlaced s.requests) p ps h)
    where
      other : Any (IsOwner p) s.requests → p.owner ≢ n
      other (j, x, low, is, owner) e = All-contains (λ o. o.number ≢ n) s.requests x others (j, low, is) (owner ∙ e)

  opened : (n : ℕ) (o : OpenRequest) (count : ℕ) → o.number ≡ n → All (λ (x : OpenRequest). x.number ≢ n) s.requests → o.marks ≡ replicate count Untouched → ArePlaced (record s { next_request = n + 1; requests = o ∷ s.requests })
  opened n o count e others m = record {
    pieces = all_placed_with s.requests (o ∷ s.requests) s.pieces (λ piece. owned_more piece o s.requests) k.pieces;
    places = All-cons (IsCovered s.pieces) o s.requests (λ i. rw e (no_piece n others i s.pieces k.pieces ∙ rw (m, untouched i count) refl)) k.places;
  }
    where
      untouched : (i count : ℕ) → get_or (replicate count Untouched) i Untouched ≡ Untouched
      untouched i zero = refl
      untouched zero (suc count) = refl
      untouched (suc i) (suc count) = untouched i count

  -- a request of which no place is out
  closed : (o : OpenRequest) (others : List OpenRequest) → All (λ m. is_out m ≡ false) o.marks → IsPermutation s.requests (o ∷ others) → ArePlaced (record s { requests = others })
  closed o others none p =
      let all : All (IsCovered s.pieces) (o ∷ others) = covered_first o others p in
      let mine : IsCovered s.pieces o = All-head (IsCovered s.pieces) o others all in
      record {
        pieces = λ j d low. left (get_or s.pieces j d) (Contains-get_or s.pieces j d low) (k.pieces j d low) mine;
        places = All-tail (IsCovered s.pieces) o others all;
      }
    where
      not_mine : (piece : Piece) (rest : List Piece) → IsPermutation s.pieces (piece ∷ rest) → 0 < piece.places.count → IsCovered s.pieces o → o.number ≡ piece.owner → ⊥
      not_mine piece rest perm some mine owner =
          let out : mark_at o piece.places.first ≡ Out = is_out_there s.pieces piece rest o piece.places.first perm mine owner (omega arith) (omega arith) in
          let low : piece.places.first < length o.marks = within o.marks piece.places.first (ap is_out out) in
          let not_out : is_out (mark_at o piece.places.first) ≡ false = All-get_or (λ m. is_out m ≡ false) o.marks piece.places.first Untouched low none in
          cc (ap is_out out, not_out)

      in_others : (piece : Piece) (rest : List Piece) → IsPermutation s.pieces (piece ∷ rest) → 0 < piece.places.count → IsCovered s.pieces o → Any (IsOwner piece) (o ∷ others) → Any (IsOwner piece) others
      in_others piece rest perm some mine (zero, x, low, is, owner) = absurd (not_mine piece rest perm some mine (ap (λ (y : OpenRequest). y.number) is ∙ owner))
      in_others piece rest perm some mine (suc j, x, low, is, owner) = (j, x, omega arith, is, owner)

      left : (piece : Piece) → Contains s.pieces piece → IsPlaced s.requests piece → IsCovered s.pieces o → IsPlaced others piece
      left piece (j, low, is) h mine =
          placed_with s.requests others piece
          (λ owned. in_others piece (remove s.pieces j) (IsPermutation-remove s.pieces j piece low (sym is)) h.some mine (Any-permutation (IsOwner piece) _ _ p owned)) h

  -- A PIECE THAT STARTS

  started : (tag : ℕ) (o : OpenRequest) (others : List OpenRequest) (places : Extent) → All (λ (x : OpenRequest). x.number ≢ o.number) others → 0 < places.count → places.first + places.count ≤ length o.marks
      → All IsUnsent (slice_range o.marks places.first (places.first + places.count)) → IsPermutation s.requests (o ∷ others)
      → ArePlaced (record s { next_piece = s.next_piece + 1; requests = sent places o ∷ others; pieces = new_piece s tag o places ∷ s.pieces })
  started tag o others places differ some inside waiting p =
      let all : All (IsCovered s.pieces) (o ∷ others) = covered_first o others p in
      let mine : IsCovered s.pieces o = All-head (IsCovered s.pieces) o others all in
      record {
        pieces = All-cons (IsPlaced (sent places o ∷ others)) (new_piece s tag o places) s.pieces (record { owned = (0, sent places o, omega arith, refl, refl); some = some; filled = tt })
            (all_placed_with s.requests (sent places o ∷ others) s.pieces (λ piece h. owned_first piece o (sent places o) others refl (Any-permutation (IsOwner piece) _ _ p h)) k.pieces);
        places = All-cons (IsCovered (new_piece s tag o places ∷ s.pieces)) (sent places o) others (λ i. mine_out i mine)
            (λ j d low. other_out (get_or others j d) (differ j d low) (All-tail (IsCovered s.pieces) o others all j d low));
      }
    where
      unsent_not_out : (m : Mark) → IsUnsent m → is_out m ≡ false
      unsent_not_out Untouched h = refl
      unsent_not_out Back h = refl
      unsent_not_out Out h = cc (h)
      unsent_not_out (Done sector) h = refl
      unsent_not_out (Failed status) h = refl

      unsent_at : (i : ℕ) → places.first ≤ i → i < places.first + places.count → IsUnsent (mark_at o i)
      unsent_at i low high =
          let e : places.first + (i - places.first) ≡ i = omega arith in
          let n : length (slice_range o.marks places.first (places.first + places.count)) ≡ places.first + places.count - places.first = length-between o.marks places.first (places.first + places.count) inside in
          let at : IsUnsent (get_or (slice_range o.marks places.first (places.first + places.count)) (i - places.first) Untouched) = waiting (i - places.first) Untouched (omega arith) in
          subst IsUnsent (get_or-between o.marks places.first (places.first + places.count) (i - places.first) Untouched (omega arith) ∙ ap (λ m. get_or o.marks m Untouched) e) at

      outs : List Mark
      outs = replicate places.count Out

      outs_long : length outs ≡ places.count
      outs_long = length-replicate places.count Out

      mine_out : (i : ℕ) → IsCovered s.pieces o → count_by (covers o.number i) (new_piece s tag o places ∷ s.pieces) ≡ one_if (is_out (mark_at (sent places o) i))
      mine_out i mine =
          elim (cases_lt i places.first) [
            | inl low ↦ count_without o.number i (new_piece s tag o places) s.pieces (covers_below o.number i (new_piece s tag o places) low)
                ∙ mine i ∙ ap (λ m. one_if (is_out m)) (sym (get_or-splice_below o.marks places.first outs i Untouched (omega arith) low))
            | inr from ↦ elim (cases_lt i (places.first + places.count)) [
              | inl high ↦ count_with o.number i (new_piece s tag o places) s.pieces (covers_inside o.number i (new_piece s tag o places) refl from high)
                  ∙ ap (λ n. 1 + n) (mine i ∙ ap one_if (unsent_not_out (mark_at o i) (unsent_at i from high)))
                  ∙ ap (λ m. one_if (is_out m)) (sym (get_or-splice_inside o.marks places.first outs i Untouched (omega arith) from (rw outs_long high) ∙ get_or-replicate places.count (i - places.first) Out Untouched (omega arith)))
              | inr past ↦ count_without o.number i (new_piece s tag o places) s.pieces (covers_above o.number i (new_piece s tag o places) past)
                  ∙ mine i ∙ ap (λ m. one_if (is_out m)) (sym (get_or-splice_above o.marks places.first outs i Untouched (omega arith) (rw outs_long past)))
            ]
          ]

      other_out : (x : OpenRequest) → x.number ≢ o.number → IsCovered s.pieces x → IsCovered (new_piece s tag o places ∷ s.pieces) x
      other_out x other h i = count_without x.number i (new_piece s tag o places) s.pieces (covers_other x.number i (new_piece s tag o places) (λ e. other (sym e))) ∙ h i

  -- A PIECE THAT COMES BACK

  returned : (p : Piece) (ps : List Piece) (class : Class) (marks : List Mark) (o : OpenRequest) (others : List OpenRequest) → All (λ (x : OpenRequest). x.number ≢ o.number) others
      → length marks ≡ p.places.count → All (λ m. is_out m ≡ false) marks → o.number ≡ p.owner → IsPermutation s.pieces (p ∷ ps) → IsPermutation s.requests (o ∷ others)
      → ArePlaced (record s { requests = given_back p class marks o ∷ others; pieces = ps })
  returned p ps class marks o others differ long none owner perm q =
      let all : All (IsCovered s.pieces) (o ∷ others) = covered_first o others q in
      let mine : IsCovered s.pieces o = All-head (IsCovered s.pieces) o others all in
      let placed : All (IsPlaced s.requests) (p ∷ ps) = All-permutation (IsPlaced s.requests) _ _ perm k.pieces in
      let some : 0 < p.places.count = (All-head (IsPlaced s.requests) p ps placed).some in
      let inside : p.places.first + p.places.count ≤ length o.marks = is_inside s.pieces p ps o perm mine owner some in
      record {
        pieces = all_placed_with s.requests (given_back p class marks o ∷ others) ps (λ piece h. owned_first piece o (given_back p class marks o) others refl (Any-permutation (IsOwner piece) _ _ q h)) (All-tail (IsPlaced s.requests) p ps placed);
        places = All-cons (IsCovered ps) (given_back p class marks o) others (λ i. mine_back i inside (IsCovered-permutation s.pieces (p ∷ ps) o perm mine))
            (λ j d low. other_back (get_or others j d) (differ j d low) (IsCovered-permutation s.pieces (p ∷ ps) (get_or others j d) perm (All-tail (IsCovered s.pieces) o others all j d low)));
      }
    where
      mine_back : (i : ℕ) → p.places.first + p.places.count ≤ length o.marks → IsCovered (p ∷ ps) o → count_by (covers o.number i) ps ≡ one_if (is_out (mark_at (given_back p class marks o) i))
      mine_back i inside mine =
          elim (cases_lt i p.places.first) [
            | inl low ↦ sym (count_without o.number i p ps (covers_below o.number i p low))
                ∙ mine i ∙ ap (λ m. one_if (is_out m)) (sym (get_or-splice_below o.marks p.places.first marks i Untouched (omega arith) low))
            | inr from ↦ elim (cases_lt i (p.places.first + p.places.count)) [
              | inl high ↦ (first_alone p ps o i mine owner from high).1
                  ∙ sym (ap (λ m. one_if (is_out m)) (get_or-splice_inside o.marks p.places.first marks i Untouched (omega arith) from (rw long high))
                  ∙ ap one_if (All-get_or (λ m. is_out m ≡ false) marks (i - p.places.first) Untouched (omega arith) none))
              | inr past ↦ sym (count_without o.number i p ps (covers_above o.number i p past))
                  ∙ mine i ∙ ap (λ m. one_if (is_out m)) (sym (get_or-splice_above o.marks p.places.first marks i Untouched (omega arith) (rw long past)))
            ]
          ]

      other_back : (x : OpenRequest) → x.number ≢ o.number → IsCovered (p ∷ ps) x → IsCovered ps x
      other_back x other h i = sym (count_without x.number i p ps (covers_other x.number i p (λ e. other (owner_is e)))) ∙ h i
        where
          owner_is : p.owner ≡ x.number → x.number ≡ o.number
          owner_is e = sym e ∙ sym owner

-- THE STEPS

pub leaves : (p : Piece) (class : Class) (marks : List Mark) → HasFilled p.places.count p.fate → LeavesMarks p class marks → (length marks ≡ p.places.count) × All (λ m. is_out m ≡ false) marks
leaves p Good marks filled h =
    let filled' : length h.0 ≡ p.places.count = subst (λ fate. HasFilled p.places.count fate) h.1 filled in
    (rw h.2 (length-map h.0 Done ∙ filled'), rw h.2 (All-map (λ m. is_out m ≡ false) Done h.0 (λ j d low. refl)))
leaves p Busy marks filled h = (rw h.1 (length-replicate p.places.count Back), rw h.1 (All-replicate (λ m. is_out m ≡ false) p.places.count Back refl))
leaves p (Bad completion) marks filled h = (rw h.1 (length-replicate p.places.count _), rw h.1 (All-replicate (λ m. is_out m ≡ false) p.places.count _ refl))

ended_not_out : (rules : Rules) (s : State) (o : OpenRequest) (m : Mark) → HasEnded rules s o m → is_out m ≡ false
ended_not_out rules s o Out (inl h) = cc (h)
ended_not_out rules s o Out (inr h) = absurd h.1
ended_not_out rules s o Untouched h = refl
ended_not_out rules s o (Done sector) h = refl
ended_not_out rules s o (Failed status) h = refl
ended_not_out rules s o Back h = refl

-- the other open requests have other numbers
pub differ_first : (s : State) (o : OpenRequest) (others : List OpenRequest) → AreDistinct s → IsPermutation s.requests (o ∷ others) → All (λ x. x.number ≢ o.number) others
differ_first s o others d p = distinct_first request_number s.requests o others d.requests p

module _ (rules : Rules) where
  pub ArePlaced-Opens : (s : State) (number : ℕ) (q : ClientRequest) (s' : State) → AreDistinct s → ArePlaced s → Opens rules s number q s' → ArePlaced s'
  ArePlaced-Opens s number q s' d k h = ArePlaced-same s' _ h.after (opened s k number _ (place_count rules q) refl (new_number h.new_number) refl)
    where
      not_yet : (n : ℕ) → n < s.next_request → s.next_request ≤ number → n ≡ number → ⊥
      not_yet n low above e = absurd (omega arith)

      new_number : s.next_request ≤ number → All (λ (x : OpenRequest). x.number ≢ number) s.requests
      new_number above = All-weaker (IsGiven s.next_request) (λ (x : OpenRequest). x.number ≢ number) (λ x low. not_yet x.number low above) s.requests d.given

  pub ArePlaced-Admits : (s : State) (number : ℕ) (q : ClientRequest) (answer : Option NtStatus) (s' : State) → AreDistinct s → ArePlaced s → Admits rules s number q answer s' → ArePlaced s'
  ArePlaced-Admits s number q None s' d k h = ArePlaced-Opens s number q s' d k h
  ArePlaced-Admits s number q (Some status) s' d k h = ArePlaced-same s' _ h.after (same_placed s _ refl refl k)

  pub ArePlaced-DeviceStep : (s : State) (label : DeviceLabel) (s' : State) → AreDistinct s → ArePlaced s → DeviceStep rules s label s' → ArePlaced s'
  ArePlaced-DeviceStep s (Start number tag block) s' d k h =
      ArePlaced-same s' _ h.after (started s k tag h.owner h.others h.places (differ_first s h.owner h.others d h.is_open) h.sendable.some h.sendable.inside h.sendable.unsent h.is_open)
  ArePlaced-DeviceStep s (Act number bytes) s' d k h =
      ArePlaced-same s' _ h.after (same_placed (record s { pieces = with_fate (Acted h.sectors) h.piece ∷ h.other_pieces }) _ refl refl (met s k h.piece h.other_pieces (Acted h.sectors) h.covers h.fresh.is_out))
  ArePlaced-DeviceStep s (Fault number) s' d k h = ArePlaced-same s' _ h.after (met s k h.piece h.other_pieces Faulted tt h.fresh.is_out)
  ArePlaced-DeviceStep s (Return number class) s' d k h =
      let placed : IsPlaced s.requests h.piece = All-head (IsPlaced s.requests) h.piece h.other_pieces (All-permutation (IsPlaced s.requests) _ _ h.is_out k.pieces) in
      let left : (length h.marks ≡ h.piece.places.count) × All (λ m. is_out m ≡ false) h.marks = leaves h.piece class h.marks placed.filled h.leaves in
      ArePlaced-same s' _ h.after (returned s k h.piece h.other_pieces class h.marks h.owner h.others (differ_first s h.owner h.others d h.is_open) left.0 left.1 h.is_owner h.is_out h.is_open)

  pub ArePlaced-Answers : (s : State) (number : ℕ) (status : NtStatus) (bytes : List ℕ) (s' : State) → ArePlaced s → Answers rules s number status bytes s' → ArePlaced s'
  ArePlaced-Answers s number status bytes s' k h =
      ArePlaced-same s' _ h.after (closed s k h.request h.others (All-weaker (HasEnded rules s h.request) (λ m. is_out m ≡ false) (ended_not_out rules s h.request) h.request.marks h.ended) h.is_open)

  -- a layer's removal
  pub ArePlaced-Drains : (s s' : State) → ArePlaced s → Drains rules s s' → ArePlaced s'
  ArePlaced-Drains s s' k h = ArePlaced-same s' _ h (by_pause s.paused)
    where
      by_pause : (paused : Bool) → ArePlaced (record s { paused = false; removing = true; requests = if paused then s.requests else held_back rules.window s.requests })
      by_pause true = same_placed s _ refl refl k
      by_pause false = same_placed _ _ refl refl (held s k rules.window)

  pub ArePlaced-FreeStep : (s : State) (label : Label) (s' : State) → AreDistinct s → ArePlaced s → FreeStep rules s label s' → ArePlaced s'
  ArePlaced-FreeStep s (Call number q) s' d k h = ArePlaced-Admits s number q (refusal rules s q) s' d k h.admits
  ArePlaced-FreeStep s (Device label) s' d k h = ArePlaced-DeviceStep s label s' d k h
  ArePlaced-FreeStep s (Answer number status informed bytes) s' d k h = ArePlaced-Answers s number status bytes s' k h.answers
  ArePlaced-FreeStep s (Cancel number) s' d k h = ArePlaced-same s' _ h.after (flagged s k h.request (as_cancelled h.request) h.others refl refl h.is_open)
  ArePlaced-FreeStep s Pause s' d k h = ArePlaced-same s' _ h.after (same_placed _ _ refl refl (held s k rules.window))
  ArePlaced-FreeStep s Resume s' d k h = ArePlaced-same s' _ h.after (same_placed _ _ refl refl (each s k as_timely (λ o. refl) (λ o. refl)))
  ArePlaced-FreeStep s Remove s' d k h = ArePlaced-same s' _ h.after (same_placed s _ refl refl k)
  ArePlaced-FreeStep s Surprise s' d k h = ArePlaced-Drains s s' k h.drains
  ArePlaced-FreeStep s Removed s' d k h = ArePlaced-same s' _ h.after (same_placed s _ refl refl k)

  ArePlaced-OwingStep : (s : State) (label : Label) (s' : State) → ArePlaced s → OwingStep s label s' → ArePlaced s'
  ArePlaced-OwingStep s (Answer number status informed bytes) s' k h = ArePlaced-same s' _ h.after (same_placed s _ refl refl k)
  ArePlaced-OwingStep s _ s' k h = absurd h

  pub ArePlaced-Step : (s : State) (label : Label) (s' : State) → AreDistinct s → ArePlaced s → Step rules s label s' → ArePlaced s'
  ArePlaced-Step s label s' d k (inl h) = ArePlaced-FreeStep s label s' d k h.1
  ArePlaced-Step s label s' d k (inr h) = ArePlaced-OwingStep s label s' k h

  pub ArePlaced-Run : (s : State) (labels : List Label) (s' : State) → AreDistinct s → ArePlaced s → Run rules s labels s' → ArePlaced s'
  ArePlaced-Run s [] s' d k h = ArePlaced-same s' s (IsSame-sym s s' h) k
  ArePlaced-Run s (label ∷ labels) s' d k (mid, step, rest) = ArePlaced-Run mid labels s' (AreDistinct-Step rules s label mid d step) (ArePlaced-Step s label mid d k step) rest
