-- How a start and a return change what may still start of a request.
use Rattle.machine_laws.proofs.Common.{◌≡◌, ◌≢◌, ◌<◌, ◌≤◌, inl, inr, ℕ, zero, suc, ◌+◌, ◌-◌, ◌*◌, ◌/◌, ◌%◌, ◌==◌, Bool, true, false, List, refl, sym, ◌∙◌, ap, subst, arith, length, get_or, replicate, min, cases_lt, nat_tests, length-replicate, get_or-replicate, All-map, All-replicate, All-get_or, get_or-between, length-between, Extent, splice, length-splice, Class, Good, Busy, Bad, Rules, Mark, Untouched, Out, Done, Failed, Back, OpenRequest, Piece, mark_at, piece_count, count_below, is_back, pieces_with, restarts, is_untouched, IsUnsent, IsSendable, LeavesMarks, one_if_busy, sent, given_back, get_or-splice_inside, get_or-splice_below, get_or-splice_above, labels_of_starts}
use Rattle.std.specs.Prelude.{All, IsTrue, IsFalse, slice_range, if◌then◌else◌}

-- COUNTS

abbrev pub one_if : Bool → ℕ
one_if b = if b then 1 else 0

count_same : (f g : ℕ → Bool) (n : ℕ) → ((k : ℕ) → k < n → g k ≡ f k) → count_below g n ≡ count_below f n
count_same f g zero same = refl
count_same f g (suc n) same =
    let e : count_below g n ≡ count_below f n = count_same f g n (λ k low. same k (omega arith)) in
    let d : g n ≡ f n = same n (omega arith) in
    cc

-- two tests that differ at one number
count_one : (f g : ℕ → Bool) (j n : ℕ) → ((k : ℕ) → k ≢ j → g k ≡ f k) → j < n
    → count_below g n + one_if (f j) ≡ count_below f n + one_if (g j)
count_one f g j zero same low = absurd (omega arith)
count_one f g j (suc n) same low =
    elim (cases_lt j n) [
      | inl below ↦
          let e : count_below g n + one_if (f j) ≡ count_below f n + one_if (g j) = count_one f g j n same below in
          let d : one_if (g n) ≡ one_if (f n) = ap one_if (same n (λ is. absurd (omega arith))) in
          omega arith
      | inr last ↦
          let is : j ≡ n = omega arith in
          let e : count_below g n ≡ count_below f n = count_same f g n (λ k below. same k (λ at. absurd (omega arith))) in
          subst (λ m. count_below g n + one_if (g n) + one_if (f m) ≡ count_below f n + one_if (f n) + one_if (g m)) (sym is) (omega arith)
    ]

count_rises : (f g : ℕ → Bool) (j n b : ℕ) → ((k : ℕ) → k ≢ j → g k ≡ f k) → one_if (g j) ≤ one_if (f j) + b
    → count_below g n ≤ count_below f n + b
count_rises f g j n b same at =
    elim (cases_lt j n) [
      | inl below ↦ let e : count_below g n + one_if (f j) ≡ count_below f n + one_if (g j) = count_one f g j n same below in omega arith
      | inr past ↦
          let e : count_below g n ≡ count_below f n = count_same f g n (λ k low. same k (λ is. absurd (omega arith))) in
          omega arith
    ]

-- WHERE PIECES BEGIN

next_multiple : (a b m : ℕ) → a < b → a * m + m ≤ b * m
next_multiple a b m low =
    let is : b ≡ a + 1 + (b - a - 1) = omega arith in
    rw is (omega arith)

-- one piece begins among so few places, at most
record Begins (longest first : ℕ) : Type 0 where
  piece : ℕ
  from : first ≤ piece * longest
  below : piece * longest < first + longest

begins : (longest first : ℕ) → 0 < longest → Begins longest first
begins longest first some =
    elim (cases_lt 0 (first % longest)) [
      | inl inside ↦ record { piece = first / longest + 1; from = omega arith; below = omega arith }
      | inr at ↦ record { piece = first / longest; from = omega arith; below = omega arith }
    ]

multiples : (a b m : ℕ) → a ≤ b → a * m ≤ b * m
multiples a b m low =
    let is : b ≡ a + (b - a) = omega arith in
    rw is (omega arith)

-- a piece that begins among the places is one of theirs
is_counted : (rules : Rules) (places k : ℕ) → 0 < rules.max_transfer → k * rules.max_transfer < places → k < piece_count rules places
is_counted rules places k some low = among (places % rules.max_transfer == 0) refl
  where
    among : (whole : Bool) → (places % rules.max_transfer == 0) ≡ whole → k < places / rules.max_transfer + (if whole then 0 else 1)
    among true e =
        let r : places % rules.max_transfer ≡ 0 = grind (arith, nat_tests) in
        elim (cases_lt k (places / rules.max_transfer)) [
          | inl below ↦ omega arith
          | inr past ↦
              let more : places / rules.max_transfer * rules.max_transfer ≤ k * rules.max_transfer =
              multiples _ k rules.max_transfer past in
              absurd (omega arith)
        ]
    among false e =
        elim (cases_lt (places / rules.max_transfer) k) [
          | inl past ↦
              let more : places / rules.max_transfer * rules.max_transfer + rules.max_transfer ≤ k * rules.max_transfer =
              next_multiple _ k rules.max_transfer past in
              absurd (omega arith)
          | inr below ↦ omega arith
        ]

-- MARKS PUT IN PLACE OF OTHERS

-- marks in place of a request's from a place on, no more of them than the longest piece has
module _ (rules : Rules) (o : OpenRequest) (first : ℕ) (more : List Mark) (some : 0 < rules.max_transfer)
    (inside : first + length more ≤ length o.marks) (short : length more ≤ rules.max_transfer) where
  abbrev marks' : List Mark
  marks' = splice o.marks first more

  -- where a piece begins, and the mark there, before and after
  abbrev at : ℕ → ℕ
  at k = k * rules.max_transfer

  abbrev was : ℕ → Mark
  was k = get_or o.marks (at k) Untouched

  abbrev now : ℕ → Mark
  now k = get_or marks' (at k) Untouched

  -- how many pieces begin with a mark that passes, after
  abbrev now_with : (Mark → Bool) → ℕ
  now_with test = count_below (λ k. test (now k)) (piece_count rules (length marks'))

  elsewhere : (j k : ℕ) → first ≤ at j → at j < first + rules.max_transfer → k ≢ j → now k ≡ was k
  elsewhere j k from below other =
      elim (cases_lt k j) [
        | inl low ↦
            let apart : at k + rules.max_transfer ≤ at j = next_multiple k j rules.max_transfer low in
            get_or-splice_below o.marks first more (at k) Untouched (omega arith) (omega arith)
        | inr high ↦
            let apart : at j + rules.max_transfer ≤ at k = next_multiple j k rules.max_transfer (above high other) in
            get_or-splice_above o.marks first more (at k) Untouched (omega arith) (omega arith)
      ]
    where
      above : {a b : ℕ} → a ≤ b → b ≢ a → a < b
      above {a} {b} le apart = elim (cases_lt a b) [ inl less ↦ less | inr ge ↦ absurd (apart (omega arith)) ]

  changed : (j : ℕ) → first ≤ at j → at j < first + length more → now j ≡ get_or more (at j - first) Untouched
  changed j from below = get_or-splice_inside o.marks first more (at j) Untouched (omega arith) from below

  -- whatever the marks are
  pieces_rise : (test : Mark → Bool) (b : ℕ) → ((i : ℕ) → i < length more → one_if (test (get_or more i Untouched)) ≤ b)
      → now_with test ≤ pieces_with rules test o + b
  pieces_rise test b each =
      let there : Begins rules.max_transfer first = begins rules.max_transfer first some in
      let n : length marks' ≡ length o.marks = length-splice o.marks first more inside in
      rw n (count_rises (λ k. test (was k)) (λ k. test (now k)) there.piece (piece_count rules (length o.marks)) b
      (λ k other. ap test (elsewhere there.piece k there.from there.below other)) (met there.piece there.from there.below))
    where
      met : (j : ℕ) → first ≤ at j → at j < first + rules.max_transfer → one_if (test (now j)) ≤ one_if (test (was j)) + b
      met j from below =
          elim (cases_lt (at j) (first + length more)) [
            | inl low ↦
                let e : one_if (test (now j)) ≡ one_if (test (get_or more (at j - first) Untouched)) =
                ap (λ m. one_if (test m)) (changed j from low) in
                let d : one_if (test (get_or more (at j - first) Untouched)) ≤ b = each (at j - first) (omega arith) in
                omega arith
            | inr past ↦
                let e : one_if (test (now j)) ≡ one_if (test (was j)) =
                ap (λ m. one_if (test m)) (get_or-splice_above o.marks first more (at j) Untouched (omega arith) past) in
                omega arith
          ]

  -- where a piece begins with the first of them
  pieces_fall : (test : Mark → Bool) (j : ℕ) → first ≡ at j → 0 < length more → test (get_or more 0 Untouched) ≡ false
      → now_with test + one_if (test (mark_at o first)) ≡ pieces_with rules test o
  pieces_fall test j is any none =
      let n : length marks' ≡ length o.marks = length-splice o.marks first more inside in
      let low : j < piece_count rules (length o.marks) = is_counted rules (length o.marks) j some (omega arith) in
      let one : count_below (λ k. test (now k)) (piece_count rules (length o.marks)) + one_if (test (was j))
      ≡ pieces_with rules test o + one_if (test (now j)) =
      count_one (λ k. test (was k)) (λ k. test (now k)) j (piece_count rules (length o.marks))
      (λ k other. ap test (elsewhere j k (omega arith) (omega arith) other)) low in
      let none_before : at j - first ≡ 0 = omega arith in
      let mark : now j ≡ get_or more 0 Untouched = changed j (omega arith) (omega arith) ∙ ap (λ i. get_or more i Untouched) none_before in
      let out : one_if (test (now j)) ≡ 0 = ap (λ m. one_if (test m)) mark ∙ ap one_if none in
      let here : one_if (test (mark_at o first)) ≡ one_if (test (was j)) = ap (λ i. one_if (test (mark_at o i))) is in
      rw n (omega arith)

-- WHAT MAY STILL START

count_all : (test : ℕ → Bool) (n : ℕ) → ((k : ℕ) → test k ≡ true) → count_below test n ≡ n
count_all test zero all = refl
count_all test (suc n) all =
    let e : count_below test n ≡ n = count_all test n all in
    let d : one_if (test n) ≡ 1 = ap one_if (all n) in
    omega arith

count_none : (test : ℕ → Bool) (n : ℕ) → ((k : ℕ) → test k ≡ false) → count_below test n ≡ 0
count_none test zero none = refl
count_none test (suc n) none =
    let e : count_below test n ≡ 0 = count_none test n none in
    let d : one_if (test n) ≡ 0 = ap one_if (none n) in
    omega arith

untouched_at : (count i : ℕ) → get_or (replicate count Untouched) i Untouched ≡ Untouched
untouched_at zero i = refl
untouched_at (suc count) zero = refl
untouched_at (suc count) (suc i) = untouched_at count i

-- all pieces of a new request, and all restarts
pub new_starts : (rules : Rules) (o : OpenRequest) (count : ℕ) → o.marks ≡ replicate count Untouched → o.busy_returns ≡ 0
    → labels_of_starts rules o ≡ 3 * piece_count rules count + 2 * restarts rules
new_starts rules o count marks busy =
    let n : length o.marks ≡ count = ap length marks ∙ length-replicate count Untouched in
    let at : (k : ℕ) → mark_at o (k * rules.max_transfer) ≡ Untouched =
    λ k. ap (λ ms. get_or ms (k * rules.max_transfer) Untouched) marks ∙ untouched_at count (k * rules.max_transfer) in
    let untouched : pieces_with rules is_untouched o ≡ piece_count rules (length o.marks) =
    count_all _ (piece_count rules (length o.marks)) (λ k. ap is_untouched (at k)) in
    let back : pieces_with rules is_back o ≡ 0 = count_none _ (piece_count rules (length o.marks)) (λ k. ap is_back (at k)) in
    let same : piece_count rules (length o.marks) ≡ piece_count rules count = ap (piece_count rules) n in
    omega arith

unsent_first : (o : OpenRequest) (places : Extent) → 0 < places.count → places.first + places.count ≤ length o.marks
    → All IsUnsent (slice_range o.marks places.first (places.first + places.count)) → IsUnsent (mark_at o places.first)
unsent_first o places some inside unsent =
    let n : length (slice_range o.marks places.first (places.first + places.count)) ≡ places.first + places.count - places.first =
    length-between o.marks places.first (places.first + places.count) inside in
    let none : places.first + 0 ≡ places.first = omega arith in
    let same : get_or (slice_range o.marks places.first (places.first + places.count)) 0 Untouched ≡ mark_at o places.first =
    get_or-between o.marks places.first (places.first + places.count) 0 Untouched (omega arith) ∙ ap (λ i. mark_at o i) none in
    subst IsUnsent same (unsent 0 Untouched (omega arith))

-- a start takes three labels, where pieces begin at multiples of the longest
pub start_taken : (rules : Rules) (o : OpenRequest) (places : Extent) → IsFalse rules.any_cut → IsSendable rules o places
    → labels_of_starts rules (sent places o) + 3 ≤ labels_of_starts rules o
start_taken rules o places on_grid sendable =
    let n : length outs ≡ places.count = length-replicate places.count Out in
    let some : 0 < places.count = sendable.some in
    let short : places.count ≤ rules.max_transfer = sendable.short in
    let inside : places.first + places.count ≤ length o.marks = sendable.inside in
    let begins' : places.first % rules.max_transfer ≡ 0 = sendable.begins on_grid in
    let is : places.first ≡ places.first / rules.max_transfer * rules.max_transfer = omega arith in
    let out : get_or outs 0 Untouched ≡ Out = get_or-replicate places.count 0 Out Untouched some in
    let untouched : pieces_with rules is_untouched (sent places o) + one_if (is_untouched (mark_at o places.first))
    ≡ pieces_with rules is_untouched o =
    pieces_fall rules o places.first outs (omega arith) (omega arith) (omega arith) is_untouched (places.first / rules.max_transfer) is
    (omega arith) (ap is_untouched out) in
    let back : pieces_with rules is_back (sent places o) + one_if (is_back (mark_at o places.first)) ≡ pieces_with rules is_back o =
    pieces_fall rules o places.first outs (omega arith) (omega arith) (omega arith) is_back (places.first / rules.max_transfer) is
    (omega arith) (ap is_back out) in
    by_mark (mark_at o places.first) _ _ _ _ o.busy_returns (restarts rules) untouched back
    (unsent_first o places some inside sendable.unsent) (sendable.spare on_grid)
  where
    outs : List Mark
    outs = replicate places.count Out

    by_mark : (m : Mark) (u u' b b' r limit : ℕ) → u' + one_if (is_untouched m) ≡ u → b' + one_if (is_back m) ≡ b → IsUnsent m
        → (IsTrue (is_back m) → 0 < b + limit - r)
        → 3 * u' + 2 * (b' + limit - r) + min b' (b' + limit - r) + 3 ≤ 3 * u + 2 * (b + limit - r) + min b (b + limit - r)
    by_mark Untouched u u' b b' r limit eu eb unsent spare = omega arith
    by_mark Back u u' b b' r limit eu eb unsent spare = let less : 0 < b + limit - r = spare refl in omega arith
    by_mark Out u u' b b' r limit eu eb unsent spare = cc (unsent)
    by_mark (Done sector) u u' b b' r limit eu eb unsent spare = cc (unsent)
    by_mark (Failed status) u u' b b' r limit eu eb unsent spare = cc (unsent)

-- a mark that a return leaves: not untouched, and back only where it was busy
record IsLeft (class : Class) (m : Mark) : Type 0 where
  not_untouched : one_if (is_untouched m) ≤ 0
  back : one_if (is_back m) ≤ one_if_busy class

all_left : (piece : Piece) (class : Class) (marks : List Mark) → LeavesMarks piece class marks → All (IsLeft class) marks
all_left piece Good marks h =
    rw h.2 (All-map (IsLeft Good) Done h.0 (λ j d low. record { not_untouched = omega arith; back = omega arith }))
all_left piece Busy marks h =
    rw h.1 (All-replicate (IsLeft Busy) piece.places.count Back (record { not_untouched = omega arith; back = omega arith }))
all_left piece (Bad completion) marks h =
    rw h.1 (All-replicate (IsLeft (Bad completion)) piece.places.count _ (record { not_untouched = omega arith; back = omega arith }))

-- a busy return adds the act or fault that it had not
pub return_adds : (rules : Rules) (o : OpenRequest) (piece : Piece) (class : Class) (marks : List Mark) → 0 < rules.max_transfer
    → LeavesMarks piece class marks
    → piece.places.first + length marks ≤ length o.marks → length marks ≤ rules.max_transfer
    → labels_of_starts rules (given_back piece class marks o) ≤ labels_of_starts rules o + one_if_busy class
return_adds rules o piece class marks some leaves inside short =
    let left : (i : ℕ) → i < length marks → IsLeft class (get_or marks i Untouched) =
    λ i low. All-get_or (IsLeft class) marks i Untouched low (all_left piece class marks leaves) in
    let untouched : pieces_with rules is_untouched (given_back piece class marks o) ≤ pieces_with rules is_untouched o + 0 =
    pieces_rise rules o piece.places.first marks some inside short is_untouched 0 (λ i low. (left i low).not_untouched) in
    let back : pieces_with rules is_back (given_back piece class marks o) ≤ pieces_with rules is_back o + one_if_busy class =
    pieces_rise rules o piece.places.first marks some inside short is_back (one_if_busy class) (λ i low. (left i low).back) in
    omega arith
