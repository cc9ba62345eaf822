-- The parts of a request are its pieces: where each begins, and how many of them came back busy.
use Rattle.std.proofs.Common.{◌≡◌, ◌<◌, ◌≤◌, ◌⊎◌, inl, inr, ℕ, zero, suc, ◌+◌, ◌*◌, ◌/◌, ◌%◌, ◌==◌, Bool, true, false, not, List, [], ◌∷◌, ◌++◌, rules, tests, refl, sym, ◌∙◌, ap, subst, arith, map, length, replicate, get_or, if◌then◌else◌, length-append}
use Rattle.std.specs.Prelude.{IsTrue}
use Rattle.class_disk.proofs.Common.{list_all, mod_self, add-mod_left, add-div_left, mul-mod_left, div-eq_of_lt, mod-eq_of_lt, div-eq_of_eq-mul_left, length-map, map-append, get_or-append-add, get_or_append_left, get_or-map, splice, Extent, Class, Rules, Mark, Untouched, Out, Done, Failed, Back, OpenRequest, Piece, IsSendable, IsWholeRequest, LeavesMarks, is_untouched, sent, given_back, one_if_busy, places_in, AreCut, one_if_back, begins_back, parts_back, IsInPieces}
use Rattle.srb.specs.declared.Class.TheVariants.{Good, Busy, Bad}
use Rattle.machine.specs.Cutting.{mark_at, piece_count, count_below, pieces_with, is_back, restarts_left}
use Rattle.class_disk.specs.inside.Joint.{Part, Below, Here, Divided, shown_mark, parts_marks, parts_busy, shown}
use Rattle.class_disk.proofs.Coupled.{marks-append, busy-append}

-- THE MARKS OF ONE PART

abbrev pub marks_in : Part → List Mark
marks_in (Below o again pieces) = map (shown_mark again) o.marks
marks_in (Here marks busy) = marks

marks_first : (part : Part) (parts : List Part) → parts_marks (part ∷ parts) ≡ marks_in part ++ parts_marks parts
marks_first (Below o again pieces) parts = refl
marks_first (Here marks busy) parts = refl

pub places_are : (part : Part) → length (marks_in part) ≡ places_in part
places_are (Below o again pieces) = length-map o.marks (shown_mark again)
places_are (Here marks busy) = refl

long_first : (part : Part) (parts : List Part) → length (parts_marks (part ∷ parts)) ≡ places_in part + length (parts_marks parts)
long_first part parts = ap length (marks_first part parts) ∙ length-append (marks_in part) (parts_marks parts) ∙ ap (λ n. n + length (parts_marks parts)) (places_are part)

-- WHERE A PART BEGINS

not_last : {X : Type 0} (f : Part → X) (front : List Part) (part : Part) (back : List Part) → map f (front ++ (part ∷ back)) ≡ [] → ⊥
not_last f [] part back e = cc (e)
not_last f (p ∷ front) part back e = cc (e)

pub cut_front : (longest : ℕ) (front : List Part) (part : Part) (back : List Part) → AreCut longest (map places_in (front ++ (part ∷ back))) → length (parts_marks front) ≡ length front * longest
cut_front longest [] part back h = omega arith
cut_front longest (p ∷ front) part back (some, short, whole, rest) =
    let behind = cut_front longest front part back rest in
    let long = long_first p front in
    elim whole [
      | inl is ↦ omega (arith, behind, long, is)
      | inr last ↦ absurd (not_last places_in front part back last)
    ]

-- AS MANY PIECES AS PARTS

abbrev one_if_more : ℕ → ℕ
one_if_more left = if left == 0 then 0 else 1

more_left : (left : ℕ) → 0 < left → one_if_more left ≡ 1
more_left zero some = absurd (omega arith)
more_left (suc left) some = let more : (suc left == 0) ≡ false = search (rules, tests) in ap (λ b. if b then 0 else 1) more

-- this many pieces make these places
abbrev made_of : ℕ → ℕ → ℕ
made_of longest places = places / longest + one_if_more (places % longest)

last_piece : (longest count : ℕ) → 0 < count → count ≤ longest → made_of longest count ≡ 1
last_piece longest count some short =
    elim (either count longest short) [
      | inl less ↦ ap (λ n. n + one_if_more (count % longest)) (div-eq_of_lt less) ∙ ap (λ n. 0 + one_if_more n) (mod-eq_of_lt less) ∙ ap (λ n. 0 + n) (more_left count some)
      | inr is ↦ subst (λ n. made_of n count ≡ 1) is
          (ap (λ n. n + one_if_more (count % count)) (div-eq_of_eq-mul_left {k = 1} some (omega arith)) ∙ ap (λ n. 1 + one_if_more n) (mod_self count))
    ]
  where
    either : (m n : ℕ) → m ≤ n → (m < n) ⊎ (m ≡ n)
    either m zero h = inr (omega arith)
    either zero (suc n) h = inl (omega arith)
    either (suc m) (suc n) h = elim (either m n (omega arith)) [
      | inl less ↦ inl (omega arith)
      | inr is ↦ inr (ap suc is)
    ]

one_more : (longest places : ℕ) → 0 < longest → made_of longest (longest + places) ≡ suc (made_of longest places)
one_more longest places some =
    let d = add-div_left places some in
    let m = add-mod_left longest places in
    ap (λ n. n + one_if_more ((longest + places) % longest)) d ∙ ap (λ n. places / longest + 1 + one_if_more n) m ∙ omega arith

pub cut_pieces : (longest : ℕ) (part : Part) (parts : List Part) → AreCut longest (map places_in (part ∷ parts)) → made_of longest (length (parts_marks (part ∷ parts))) ≡ length (part ∷ parts)
cut_pieces longest part [] (some, short, whole, rest) =
    let e : length (parts_marks (part ∷ [])) ≡ places_in part = long_first part [] ∙ omega arith in
    ap (made_of longest) e ∙ last_piece longest (places_in part) some short
cut_pieces longest part (p ∷ parts) (some, short, inr last, rest) = absurd (cc (last))
cut_pieces longest part (p ∷ parts) (some, short, inl is, rest) =
    let e : length (parts_marks (part ∷ (p ∷ parts))) ≡ longest + length (parts_marks (p ∷ parts)) = long_first part (p ∷ parts) ∙ ap (λ n. n + length (parts_marks (p ∷ parts))) is in
    ap (made_of longest) e ∙ one_more longest _ (omega (arith, some, is)) ∙ ap suc (cut_pieces longest p parts rest)

-- AS MANY PIECES THAT CAME BACK AS PARTS THAT BEGIN SO

-- counted from the first
count_first : (test : ℕ → Bool) (n : ℕ) → count_below test (suc n) ≡ (if test 0 then 1 else 0) + count_below (λ k. test (suc k)) n
count_first test zero = omega arith
count_first test (suc n) = let e = count_first test n in omega (arith, e)

count_same : (f g : ℕ → Bool) → ((k : ℕ) → f k ≡ g k) → (n : ℕ) → count_below f n ≡ count_below g n
count_same f g each zero = refl
count_same f g each (suc n) = ap (λ m. m + (if f n then 1 else 0)) (count_same f g each n) ∙ ap (λ b. count_below g n + (if b then 1 else 0)) (each n)

back_is : (mark : Mark) → (if is_back mark then 1 else 0) ≡ one_if_back mark
back_is Untouched = refl
back_is Out = refl
back_is (Done sector) = refl
back_is (Failed status) = refl
back_is Back = refl

-- whether the piece of this number came back
abbrev back_at : ℕ → List Mark → ℕ → Bool
back_at longest marks k = is_back (get_or marks (k * longest) Untouched)

-- as many parts are shown as ones that came back
abbrev pub shown_back : List Part → ℕ
shown_back [] = 0
shown_back (part ∷ parts) = begins_back (marks_in part) + shown_back parts

piece_first : (longest : ℕ) (ms rest : List Mark) → 0 < length ms → (if back_at longest (ms ++ rest) 0 then 1 else 0) ≡ begins_back ms
piece_first longest ms rest some =
    let e : 0 * longest ≡ 0 = omega arith in
    back_is (get_or (ms ++ rest) (0 * longest) Untouched) ∙ ap (λ k. one_if_back (get_or (ms ++ rest) k Untouched)) e ∙ ap one_if_back (get_or_append_left ms rest Untouched 0 some)

piece_behind : (longest : ℕ) (ms rest : List Mark) → length ms ≡ longest → (k : ℕ) → back_at longest (ms ++ rest) (suc k) ≡ back_at longest rest k
piece_behind longest ms rest long k =
    let e : suc k * longest ≡ length ms + k * longest = omega (arith, long) in
    ap (λ i. is_back (get_or (ms ++ rest) i Untouched)) e ∙ ap is_back (get_or-append-add ms rest (k * longest) Untouched)

pub cut_back : (longest : ℕ) (parts : List Part) → AreCut longest (map places_in parts) → count_below (back_at longest (parts_marks parts)) (length parts) ≡ shown_back parts
cut_back longest [] h = refl
cut_back longest (part ∷ parts) (some, short, whole, rest) =
    let behind = cut_back longest parts rest in
    let long = places_are part in
    let first = piece_first longest (marks_in part) (parts_marks parts) (omega (arith, some, long)) in
    subst (λ ms. count_below (back_at longest ms) (suc (length parts)) ≡ begins_back (marks_in part) + shown_back parts) (sym (marks_first part parts))
    (count_first (back_at longest (marks_in part ++ parts_marks parts)) (length parts)
    ∙ ap (λ n. n + count_below (λ k. back_at longest (marks_in part ++ parts_marks parts) (suc k)) (length parts)) first
    ∙ ap (λ n. begins_back (marks_in part) + n) (elim whole [
      | inl is ↦ count_same _ _ (piece_behind longest (marks_in part) (parts_marks parts) (long ∙ is)) (length parts) ∙ behind
      | inr last ↦ none_behind parts last (marks_in part)
    ]))
  where
    none_behind : (ps : List Part) → map places_in ps ≡ [] → (ms : List Mark) → count_below (λ k. back_at longest (ms ++ parts_marks ps) (suc k)) (length ps) ≡ shown_back ps
    none_behind [] last ms = refl
    none_behind (p ∷ ps) last ms = absurd (cc (last))

-- WHAT CAME BACK BELOW IS SHOWN SO

pub shown_begins : (again : ℕ) (marks : List Mark) → begins_back marks ≤ begins_back (map (shown_mark again) marks)
shown_begins zero [] = omega arith
shown_begins (suc n) [] = omega arith
shown_begins zero (mark ∷ marks) = omega arith
shown_begins (suc n) (Untouched ∷ marks) = omega arith
shown_begins (suc n) (Out ∷ marks) = omega arith
shown_begins (suc n) (Done sector ∷ marks) = omega arith
shown_begins (suc n) (Failed status ∷ marks) = omega arith
shown_begins (suc n) (Back ∷ marks) = omega arith

abbrev pub back_in : Part → ℕ
back_in (Below o again pieces) = begins_back o.marks
back_in (Here marks busy) = begins_back marks

pub back_first : (part : Part) (parts : List Part) → parts_back (part ∷ parts) ≡ back_in part + parts_back parts
back_first (Below o again pieces) parts = refl
back_first (Here marks busy) parts = refl

shown_first : (part : Part) → back_in part ≤ begins_back (marks_in part)
shown_first (Below o again pieces) = shown_begins again o.marks
shown_first (Here marks busy) = omega arith

abbrev pub busy_in : Part → ℕ
busy_in (Below o again pieces) = again + o.busy_returns
busy_in (Here marks busy) = busy

busy_first : (part : Part) (parts : List Part) → parts_busy (part ∷ parts) ≡ busy_in part + parts_busy parts
busy_first (Below o again pieces) parts = refl
busy_first (Here marks busy) parts = refl

pub back-append : (xs ys : List Part) → parts_back (xs ++ ys) ≡ parts_back xs + parts_back ys
back-append [] ys = omega arith
back-append (part ∷ xs) ys = let e = back-append xs ys in let a = back_first part (xs ++ ys) in let b = back_first part xs in omega (arith, e, a, b)

shown_more : (parts : List Part) → parts_back parts ≤ shown_back parts
shown_more [] = omega arith
shown_more (part ∷ parts) = let e = shown_more parts in let a = back_first part parts in let b = shown_first part in omega (arith, e, a, b)

-- and one more where a part that waits to be sent again is shown as back
shown_one_more : (front : List Part) (part : Part) (back : List Part) → back_in part < begins_back (marks_in part) → parts_back (front ++ (part ∷ back)) < shown_back (front ++ (part ∷ back))
shown_one_more [] part back waits = let e = shown_more back in let a = back_first part back in omega (arith, waits, e, a)
shown_one_more (p ∷ front) part back waits =
    let e = shown_one_more front part back waits in
    let a = back_first p (front ++ (part ∷ back)) in
    let b = shown_first p in
    omega (arith, e, a, b)

-- ONE PART CHANGES

module _ (rules : Rules) (e : Divided) (front back : List Part) (part part' : Part) (long : places_in part' ≡ places_in part) where
  pub cut_with : AreCut rules.max_transfer (map places_in (front ++ (part ∷ back))) → AreCut rules.max_transfer (map places_in (front ++ (part' ∷ back)))
  cut_with h =
      subst (AreCut rules.max_transfer)
      (map-append places_in front (part ∷ back) ∙ ap (λ n. map places_in front ++ (n ∷ map places_in back)) (sym long) ∙ sym (map-append places_in front (part' ∷ back))) h

  -- no restart is used up
  pub in_pieces_with : busy_in part' + back_in part ≤ busy_in part + back_in part' → IsInPieces rules (record e { parts = front ++ (part ∷ back) }) → IsInPieces rules (record e { parts = front ++ (part' ∷ back) })
  in_pieces_with spares h =
      let few = h.few in
      let busy = busy-append front (part ∷ back) ∙ ap (λ n. parts_busy front + n) (busy_first part back) in
      let busy' = busy-append front (part' ∷ back) ∙ ap (λ n. parts_busy front + n) (busy_first part' back) in
      let came = back-append front (part ∷ back) ∙ ap (λ n. parts_back front + n) (back_first part back) in
      let came' = back-append front (part' ∷ back) ∙ ap (λ n. parts_back front + n) (back_first part' back) in
      record { cut = cut_with h.cut; few = omega (arith, few, busy, busy', came, came', spares) }

-- A PART THAT IS STARTED BELOW

-- what a piece below begins with, and that the request was never started
pub record BeginsWhole (o : OpenRequest) (places : Extent) : Type 0 where
  pub first : places.first ≡ 0
  pub some : 0 < length o.marks
  pub fresh : get_or o.marks 0 Untouched ≡ Untouched

pub begins_whole : (rules : Rules) → IsTrue rules.one_piece → (o : OpenRequest) (places : Extent) → IsSendable rules o places → BeginsWhole o places
begins_whole rules one o places h =
    let w : IsWholeRequest o places = h.whole one in
    let a = h.inside in
    let b = w.all_places in
    let c = h.some in
    record {
      first = omega arith;
      some = omega arith;
      fresh = untouched_first o.marks (all_untouched (list_all is_untouched o.marks) w.not_before);
    }
  where
    all_untouched : (b : Bool) → not b ≡ false → b ≡ true
    all_untouched true h = refl
    all_untouched false h = cc (h)

    untouched_first : (marks : List Mark) → list_all is_untouched marks ≡ true → get_or marks 0 Untouched ≡ Untouched
    untouched_first [] h = refl
    untouched_first (Untouched ∷ marks) h = refl
    untouched_first (Out ∷ marks) h = cc (h)
    untouched_first (Done sector ∷ marks) h = cc (h)
    untouched_first (Failed status ∷ marks) h = cc (h)
    untouched_first (Back ∷ marks) h = cc (h)

pieces_back : (rules : Rules) (parts : List Part) → 0 < length parts → AreCut rules.max_transfer (map places_in parts) → count_below (back_at rules.max_transfer (parts_marks parts)) (piece_count rules (length (parts_marks parts))) ≡ shown_back parts
pieces_back rules [] some cut = absurd (omega arith)
pieces_back rules (part ∷ parts) some cut =
    ap (count_below (back_at rules.max_transfer (parts_marks (part ∷ parts)))) (cut_pieces rules.max_transfer part parts cut) ∙ cut_back rules.max_transfer (part ∷ parts) cut

-- a part waits to be sent again: below it is untouched, and shown it came back
shown_waits : (again : ℕ) (o : OpenRequest) (pieces : List Piece) → 0 < length o.marks → get_or o.marks 0 Untouched ≡ Untouched → IsTrue (is_back (shown_mark again Untouched)) → back_in (Below o again pieces) < begins_back (marks_in (Below o again pieces))
shown_waits zero o pieces some fresh back = cc (back)
shown_waits (suc n) o pieces some fresh back =
    let shown_now : begins_back (map (shown_mark (suc n)) o.marks) ≡ 1 = ap one_if_back (get_or-map (shown_mark (suc n)) o.marks 0 Untouched Untouched some ∙ ap (shown_mark (suc n)) fresh) in
    let own : begins_back o.marks ≡ 0 = ap one_if_back fresh in
    omega (arith, shown_now, own)

module _ (rules : Rules) (e : Divided) (front back : List Part) (o : OpenRequest) (again : ℕ) (pieces : List Piece) (places : Extent) (h : IsInPieces rules (record e { parts = front ++ (Below o again pieces ∷ back) })) (b : BeginsWhole o places) where
  abbrev all : List Part
  all = front ++ (Below o again pieces ∷ back)

  abbrev at : ℕ
  at = length (parts_marks front) + places.first

  -- a piece begins with the part
  pub piece_begins : at % rules.max_transfer ≡ 0
  piece_begins =
      let front_long = cut_front rules.max_transfer front (Below o again pieces) back h.cut in
      let is : at ≡ length front * rules.max_transfer = omega (arith, front_long, b.first) in
      ap (λ n. n % rules.max_transfer) is ∙ mul-mod_left (length front) rules.max_transfer

  mark_there : mark_at (shown (record e { parts = all })) at ≡ shown_mark again Untouched
  mark_there =
      let some : 0 < length (map (shown_mark again) o.marks) = let s = b.some in simp length-map (omega (arith, s)) in
      ap (λ ms. get_or ms at Untouched) (marks-append front (Below o again pieces ∷ back))
      ∙ get_or-append-add (parts_marks front) (map (shown_mark again) o.marks ++ parts_marks back) places.first Untouched
      ∙ ap (λ n. get_or (map (shown_mark again) o.marks ++ parts_marks back) n Untouched) b.first
      ∙ get_or_append_left (map (shown_mark again) o.marks) (parts_marks back) Untouched 0 some
      ∙ get_or-map (shown_mark again) o.marks 0 Untouched Untouched b.some
      ∙ ap (shown_mark again) b.fresh

  -- where it is sent again, a restart is left
  pub restart_left : IsTrue (is_back (mark_at (shown (record e { parts = all })) at)) → 0 < restarts_left rules (shown (record e { parts = all }))
  restart_left is =
      let waits = shown_waits again o pieces b.some b.fresh (subst (λ m. IsTrue (is_back m)) mark_there is) in
      let more : parts_back all < shown_back all = shown_one_more front (Below o again pieces) back waits in
      let long : 0 < length all = simp length-append (omega arith) in
      let count : pieces_with rules is_back (shown (record e { parts = all })) ≡ shown_back all = pieces_back rules all long h.cut in
      let few = h.few in
      omega (arith, few, more, count)

-- NO STEP BELOW USES UP A RESTART

-- a start: the request was untouched
pub start_spares : (o : OpenRequest) (places : Extent) → BeginsWhole o places → (sent places o).busy_returns + begins_back o.marks ≤ o.busy_returns + begins_back (sent places o).marks
start_spares o places b = let none : begins_back o.marks ≡ 0 = ap one_if_back b.fresh in omega (arith, none)

-- a return of all places: a busy one is counted, and leaves them back
pub return_spares : (o : OpenRequest) (p : Piece) (class : Class) (marks : List Mark) → LeavesMarks p class marks → p.places.first ≡ 0 → 0 < p.places.count → mark_at o 0 ≡ Out
    → (given_back p class marks o).busy_returns + begins_back o.marks ≤ o.busy_returns + begins_back (given_back p class marks o).marks
return_spares o p class marks leaves first some out =
    let none : begins_back o.marks ≡ 0 = ap one_if_back out in
    let more = by class leaves in
    omega (arith, none, more)
  where
    back_now : (n : ℕ) → 0 < n → begins_back (splice o.marks 0 (replicate n Back)) ≡ 1
    back_now zero h = absurd (omega arith)
    back_now (suc n) h = refl

    by : (class : Class) → LeavesMarks p class marks → one_if_busy class ≤ begins_back (splice o.marks p.places.first marks)
    by Good h = omega arith
    by (Bad completion) h = omega arith
    by Busy (fate, is) =
        let e : begins_back (splice o.marks p.places.first marks) ≡ 1 =
        ap (λ n. begins_back (splice o.marks n marks)) first ∙ ap (λ ms. begins_back (splice o.marks 0 ms)) is ∙ back_now p.places.count some in
        omega (arith, e)
