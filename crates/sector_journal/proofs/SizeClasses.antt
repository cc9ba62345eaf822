-- Buffers put into a class or taken from it.
use Rattle.sector_journal.proofs.Common.{◌≡◌, ◌≢◌, ◌<◌, ◌≤◌, ℕ, ◌+◌, ◌-◌, ◌==◌, Bool, true, false, not, List, [], ◌∷◌, ◌++◌, length, length-append, eqb, min, if◌then◌else◌, Option, Some, None, get_or, slice_set, nat_lt, refl, sym, ap, subst, ◌∙◌, arith, MatchOption, Result, Ok, Err, OnOk, inl, inr, eqb-true, filter, position, position_or_len, cases_Bool, cases_eq, cases_lt, eqb-false, ltb-true, ltb-false, length-set, get_or-set_same, get_or-set_other, get_or_append_left, get_or_push, get_or_read, set-get_or, position_or_len-set, position_or_len_push, prefix_len-le-length, fails_before_first, found_at, found_nowhere, position-Some, of_length, SizeClassView, count_on, count_at, is_for, is_not_for, pieces_at, promised_at, IsOfLength, TakesOne}

abbrev no_room : SizeClassView
no_room = record { bytes = 0; pieces = 0; promised = 0 }

abbrev pub free_pieces : SizeClassView → ℕ
free_pieces room = room.pieces

abbrev pub booked : SizeClassView → ℕ
booked room = room.promised

same_place : (long : ℕ) (rooms : List SizeClassView) (at : ℕ) (new : SizeClassView) → new.bytes ≡ (get_or rooms at no_room).bytes → position (is_for long) (slice_set rooms at new) ≡ position (is_for long) rooms
same_place long rooms at new same =
    let n : position_or_len (is_for long) (slice_set rooms at new) ≡ position_or_len (is_for long) rooms = position_or_len-set (is_for long) rooms at new no_room (ap (λ b. b == long) same) in
    let l : length (slice_set rooms at new) ≡ length rooms = length-set rooms at new in
    rw (n, l) refl

-- what stands there is as before, or what was put there
at_place : (f : SizeClassView → ℕ) (rooms : List SizeClassView) (at k : ℕ) (new : SizeClassView) → at < length rooms → f (get_or rooms at no_room) ≤ f new → f (get_or rooms k no_room) ≤ f (get_or (slice_set rooms at new) k no_room)
at_place f rooms at k new low more = elim (cases_eq k at) [
  | inl is ↦ let e : get_or (slice_set rooms at new) k no_room ≡ new = ap (λ n. get_or (slice_set rooms at new) n no_room) is ∙ get_or-set_same rooms at new no_room low in
      let o : get_or rooms k no_room ≡ get_or rooms at no_room = ap (λ n. get_or rooms n no_room) is in
      rw (e, o) more
  | inr apart ↦ let e : get_or (slice_set rooms at new) k no_room ≡ get_or rooms k no_room = get_or-set_other rooms at k new no_room apart in
      rw e (omega arith)
]

more_on : (f : SizeClassView → ℕ) (rooms : List SizeClassView) (at : ℕ) (new : SizeClassView) (found : Option ℕ) → at < length rooms → f (get_or rooms at no_room) ≤ f new → count_on f rooms found ≤ count_on f (slice_set rooms at new) found
more_on f rooms at new None low more = omega arith
more_on f rooms at new (Some k) low more = at_place f rooms at k new low more

-- buffers came to the class at this place
pub put_more : (f : SizeClassView → ℕ) (rooms : List SizeClassView) (at : ℕ) (old new : SizeClassView) → at < length rooms → old ≡ get_or rooms at old → new.bytes ≡ old.bytes → f old ≤ f new → (long : ℕ)
    → count_at f rooms long ≤ count_at f (slice_set rooms at new) long
put_more f rooms at old new low is same more long =
    let o : old ≡ get_or rooms at no_room = get_or_read rooms at old low is no_room in
    let p : position (is_for long) (slice_set rooms at new) ≡ position (is_for long) rooms = same_place long rooms at new (same ∙ ap (λ (r : SizeClassView). r.bytes) o) in
    subst (λ found. count_at f rooms long ≤ count_on f (slice_set rooms at new) found) (sym p)
    (more_on f rooms at new (position (is_for long) rooms) low (subst (λ (r : SizeClassView). f r ≤ f new) o more))

pub none_there : (f : SizeClassView → ℕ) (rooms : List SizeClassView) (long : ℕ) → position (is_for long) rooms ≡ None → count_at f rooms long ≡ 0
none_there f rooms long none = ap (count_on f rooms) none

-- the class of this length
pub is_there : (f : SizeClassView → ℕ) (rooms : List SizeClassView) (long at : ℕ) (old : SizeClassView) → position (is_for long) rooms ≡ Some at → old ≡ get_or rooms at old → (at < length rooms) × (old.bytes ≡ long) × (count_at f rooms long ≡ f old)
is_there f rooms long at old found is =
    let h = position-Some (is_for long) rooms at no_room found in
    let o : old ≡ get_or rooms at no_room = get_or_read rooms at old h.0 is no_room in
    let b : (get_or rooms at no_room).bytes ≡ long = eqb-true _ _ h.1 in
    (h.0, ap (λ (r : SizeClassView). r.bytes) o ∙ b, ap (count_on f rooms) found ∙ ap f (sym o))

pub after_taking : (f : SizeClassView → ℕ) (rooms : List SizeClassView) (long at : ℕ) (old new : SizeClassView) → position (is_for long) rooms ≡ Some at → old ≡ get_or rooms at old → new.bytes ≡ old.bytes
    → count_at f (slice_set rooms at new) long ≡ f new
after_taking f rooms long at old new found is same =
    let h = is_there f rooms long at old found is in
    let o : old ≡ get_or rooms at no_room = get_or_read rooms at old h.0 is no_room in
    let p : position (is_for long) (slice_set rooms at new) ≡ Some at = same_place long rooms at new (same ∙ ap (λ (r : SizeClassView). r.bytes) o) ∙ found in
    let e : get_or (slice_set rooms at new) at no_room ≡ new = get_or-set_same rooms at new no_room h.0 in
    ap (count_on f (slice_set rooms at new)) p ∙ ap f e

-- another length
others_same : (f : SizeClassView → ℕ) (rooms : List SizeClassView) (at : ℕ) (old new : SizeClassView) (long : ℕ) → at < length rooms → old ≡ get_or rooms at old → new.bytes ≡ old.bytes → long ≢ old.bytes → count_at f (slice_set rooms at new) long ≡ count_at f rooms long
others_same f rooms at old new long low is same apart =
    let o : old ≡ get_or rooms at no_room = get_or_read rooms at old low is no_room in
    let p : position (is_for long) (slice_set rooms at new) ≡ position (is_for long) rooms = same_place long rooms at new (same ∙ ap (λ (r : SizeClassView). r.bytes) o) in
    ap (count_on f (slice_set rooms at new)) p ∙ by_place o (position (is_for long) rooms) refl
  where
    by_place : old ≡ get_or rooms at no_room → (found : Option ℕ) → position (is_for long) rooms ≡ found → count_on f (slice_set rooms at new) found ≡ count_on f rooms found
    by_place o None is' = refl
    by_place o (Some k) is' =
        let b : (get_or rooms k no_room).bytes ≡ long = eqb-true _ _ (position-Some (is_for long) rooms k no_room is').1 in
        let other : k ≢ at = λ e. apart (sym b ∙ ap (λ n. (get_or rooms n no_room).bytes) e ∙ ap (λ (r : SizeClassView). r.bytes) (sym o)) in
        ap f (get_or-set_other rooms at k new no_room other)

-- what became of the class of this length became of it alone
pub made_more : (f : SizeClassView → ℕ) (rooms : List SizeClassView) (long at : ℕ) (old new : SizeClassView) (more : ℕ) → position (is_for long) rooms ≡ Some at → old ≡ get_or rooms at old → new.bytes ≡ old.bytes → f new ≡ f old + more
    → (other : ℕ) → count_at f (slice_set rooms at new) other ≡ count_at f rooms other + of_length more long other
made_more f rooms long at old new more found is same is_more other = elim (cases_Bool (long == other)) [
  | inl own ↦
      let h = is_there f rooms long at old found is in
      let e : long ≡ other = eqb-true long other own in
      let a : count_at f (slice_set rooms at new) other ≡ f new = subst (λ n. count_at f (slice_set rooms at new) n ≡ f new) e (after_taking f rooms long at old new found is same) in
      let b : count_at f rooms other ≡ f old = subst (λ n. count_at f rooms n ≡ f old) e h.2 in
      let c : of_length more long other ≡ more = rw own refl in
      omega (arith, a, b, c, is_more)
  | inr apart ↦
      let h = is_there f rooms long at old found is in
      let a : count_at f (slice_set rooms at new) other ≡ count_at f rooms other = others_same f rooms at old new other h.0 is same (λ e. eqb-false long other apart (sym h.1 ∙ sym e)) in
      let c : of_length more long other ≡ 0 = rw apart refl in
      omega (arith, a, c)
]

pub made_less : (f : SizeClassView → ℕ) (rooms : List SizeClassView) (long at : ℕ) (old new : SizeClassView) (less : ℕ) → position (is_for long) rooms ≡ Some at → old ≡ get_or rooms at old → new.bytes ≡ old.bytes → f new ≡ f old - less
    → (other : ℕ) → count_at f (slice_set rooms at new) other ≡ count_at f rooms other - of_length less long other
made_less f rooms long at old new less found is same is_less other = elim (cases_Bool (long == other)) [
  | inl own ↦
      let h = is_there f rooms long at old found is in
      let e : long ≡ other = eqb-true long other own in
      let a : count_at f (slice_set rooms at new) other ≡ f new = subst (λ n. count_at f (slice_set rooms at new) n ≡ f new) e (after_taking f rooms long at old new found is same) in
      let b : count_at f rooms other ≡ f old = subst (λ n. count_at f rooms n ≡ f old) e h.2 in
      let c : of_length less long other ≡ less = rw own refl in
      omega (arith, a, b, c, is_less)
  | inr apart ↦
      let h = is_there f rooms long at old found is in
      let a : count_at f (slice_set rooms at new) other ≡ count_at f rooms other = others_same f rooms at old new other h.0 is same (λ e. eqb-false long other apart (sym h.1 ∙ sym e)) in
      let c : of_length less long other ≡ 0 = rw apart refl in
      omega (arith, a, c)
]

-- none of this length, and so none less
pub none_less : (f : SizeClassView → ℕ) (rooms : List SizeClassView) (long less : ℕ) → position (is_for long) rooms ≡ None → (other : ℕ) → count_at f rooms other ≡ count_at f rooms other - of_length less long other
none_less f rooms long less none other = elim (cases_Bool (long == other)) [
  | inl own ↦
      let b : count_at f rooms other ≡ 0 = subst (λ n. count_at f rooms n ≡ 0) (eqb-true long other own) (none_there f rooms long none) in
      omega (arith, b)
  | inr apart ↦
      let c : of_length less long other ≡ 0 = rw apart refl in
      omega (arith, c)
]

pub none_more : (long other n : ℕ) → n ≡ n + of_length 0 long other
none_more long other n = let c : of_length 0 long other ≡ 0 = by_choice (long == other) in omega (arith, c)
  where
    by_choice : (own : Bool) → ◌≡◌ {A = ℕ} (if own then 0 else 0) 0
    by_choice true = refl
    by_choice false = refl

-- AN EMPTY CLASS BEHIND ALL OTHERS

is_below : (n m : ℕ) → n < m → nat_lt n m ≡ true
is_below n m low = elim (cases_Bool (nat_lt n m)) [
  | inl is ↦ is
  | inr past ↦ let h : m ≤ n = ltb-false n m past in absurd (omega (arith, h, low))
]

is_past : (n m : ℕ) → m ≤ n → nat_lt n m ≡ false
is_past n m past = elim (cases_Bool (nat_lt n m)) [
  | inl is ↦ let h : n < m = ltb-true n m is in absurd (omega (arith, h, past))
  | inr is ↦ is
]

are_apart : (n m : ℕ) → n < m → eqb n m ≡ false
are_apart n m low = elim (cases_Bool (eqb n m)) [
  | inl is ↦ let h : n ≡ m = eqb-true n m is in absurd (omega (arith, h, low))
  | inr is ↦ is
]

are_same : (n m : ℕ) → n ≡ m → eqb n m ≡ true
are_same n m same = elim (cases_Bool (eqb n m)) [
  | inl is ↦ is
  | inr apart ↦ absurd (eqb-false n m apart same)
]

module _ (rooms : List SizeClassView) (new : SizeClassView) (long : ℕ) where
  abbrev first : ℕ
  first = position_or_len (is_for long) rooms

  abbrev longer : List SizeClassView
  longer = rooms ++ new ∷ []

  one_more : length longer ≡ length rooms + 1
  one_more = length-append rooms (new ∷ [])

  front : first < length rooms → position (is_for long) longer ≡ Some first
  front low =
      let p : position_or_len (is_for long) longer ≡ first = position_or_len_push (is_for long) rooms new ∙ rw (are_apart first (length rooms) low) refl in
      let l : nat_lt first (length rooms + 1) ≡ true = is_below first (length rooms + 1) (omega (arith, low)) in
      rw (p, one_more, l) refl

  past_all : length rooms ≤ first → first ≡ length rooms
  past_all past = let h : first ≤ length rooms = prefix_len-le-length (λ room. not (is_for long room)) rooms in omega (arith, h, past)

  behind : length rooms ≤ first → is_for long new ≡ true → position (is_for long) longer ≡ Some (length rooms)
  behind past own =
      let p : position_or_len (is_for long) longer ≡ length rooms + 0 = position_or_len_push (is_for long) rooms new ∙ rw (are_same first (length rooms) (past_all past), own) refl in
      let z : length rooms + 0 ≡ length rooms = omega arith in
      let l : nat_lt (length rooms) (length rooms + 1) ≡ true = is_below (length rooms) (length rooms + 1) (omega arith) in
      rw (p, z, one_more, l) refl

  nowhere : length rooms ≤ first → is_for long new ≡ false → position (is_for long) longer ≡ None
  nowhere past other =
      let p : position_or_len (is_for long) longer ≡ length rooms + 1 = position_or_len_push (is_for long) rooms new ∙ rw (are_same first (length rooms) (past_all past), other) refl in
      let l : nat_lt (length rooms + 1) (length rooms + 1) ≡ false = is_past (length rooms + 1) (length rooms + 1) (omega arith) in
      rw (p, one_more, l) refl

  there_before : first < length rooms → position (is_for long) rooms ≡ Some first
  there_before low = rw (is_below first (length rooms) low) refl

  not_before : length rooms ≤ first → position (is_for long) rooms ≡ None
  not_before past = rw (is_past first (length rooms) past) refl

  pub pushed : (f : SizeClassView → ℕ) → f new ≡ 0 → count_at f longer long ≡ count_at f rooms long
  pushed f none = elim (cases_lt first (length rooms)) [
    | inl low ↦
        ap (count_on f longer) (front low) ∙ ap f (get_or_append_left rooms (new ∷ []) no_room first low) ∙ sym (ap (count_on f rooms) (there_before low))
    | inr past ↦ elim (cases_Bool (is_for long new)) [
      | inl own ↦
          ap (count_on f longer) (behind past own) ∙ ap f (get_or_push rooms new no_room (length rooms) refl) ∙ none ∙ sym (ap (count_on f rooms) (not_before past))
      | inr other ↦ ap (count_on f longer) (nowhere past other) ∙ sym (ap (count_on f rooms) (not_before past))
    ]
  ]

  pub pushed_there : position (is_for long) rooms ≡ None → new.bytes ≡ long → position (is_for long) longer ≡ Some (length rooms)
  pushed_there none own = elim (cases_lt first (length rooms)) [
    | inl low ↦
        let both : Some first ≡ None = sym (there_before low) ∙ none in
        absurd (cc (both))
    | inr past ↦ behind past (are_same new.bytes long own)
  ]

same_room : (rooms : List SizeClassView) (at : ℕ) (old new : SizeClassView) → at < length rooms → old ≡ get_or rooms at old → new ≡ old → slice_set rooms at new ≡ rooms
same_room rooms at old new low is same =
    let o : old ≡ get_or rooms at no_room = get_or_read rooms at old low is no_room in
    ap (slice_set rooms at) (same ∙ o) ∙ set-get_or rooms at no_room

pub taken : (rooms : List SizeClassView) (long at : ℕ) (old new : SizeClassView) (result : Option (List ℕ)) → position (is_for long) rooms ≡ Some at → old ≡ get_or rooms at old
    → MatchOption result ((old.pieces ≡ 0) × (new ≡ old)) (λ b. IsOfLength b old.bytes × TakesOne old new)
    → MatchOption result ((pieces_at rooms long ≡ 0) × (slice_set rooms at new ≡ rooms)) (λ b. IsOfLength b long × (pieces_at (slice_set rooms at new) long + 1 ≡ pieces_at rooms long) × ((other : ℕ) → other ≢ long → pieces_at (slice_set rooms at new) other ≡ pieces_at rooms other))
taken rooms long at old new None found is (none, same) =
    let h = is_there free_pieces rooms long at old found is in
    (h.2 ∙ none, same_room rooms at old new h.0 is same)
taken rooms long at old new (Some b) found is (fits, takes) =
    let h = is_there free_pieces rooms long at old found is in
    let a : pieces_at (slice_set rooms at new) long ≡ new.pieces = after_taking free_pieces rooms long at old new found is takes.same in
    let l : new.pieces + 1 ≡ old.pieces = takes.less in
    let o : pieces_at rooms long ≡ old.pieces = h.2 in
    (subst (λ (n : ℕ). IsOfLength b n) h.1 fits, omega (arith, a, l, o), λ other apart. others_same free_pieces rooms at old new other h.0 is takes.same (λ e. apart (e ∙ h.1)))

pub still_there : (rooms : List SizeClassView) (long at : ℕ) (old new : SizeClassView) → position (is_for long) rooms ≡ Some at → old ≡ get_or rooms at old → new.bytes ≡ old.bytes → position (is_for long) (slice_set rooms at new) ≡ Some at
still_there rooms long at old new found is same =
    let h = is_there free_pieces rooms long at old found is in
    let o : old ≡ get_or rooms at no_room = get_or_read rooms at old h.0 is no_room in
    same_place long rooms at new (same ∙ ap (λ (r : SizeClassView). r.bytes) o) ∙ found

-- a class that counts as before
pub kept_count : (f : SizeClassView → ℕ) (rooms : List SizeClassView) (long at : ℕ) (old new : SizeClassView) → position (is_for long) rooms ≡ Some at → old ≡ get_or rooms at old → new.bytes ≡ old.bytes → f new ≡ f old
    → (other : ℕ) → count_at f (slice_set rooms at new) other ≡ count_at f rooms other
kept_count f rooms long at old new found is same is_as other =
    let z : f new ≡ f old + 0 = omega (arith, is_as) in
    made_more f rooms long at old new 0 found is same z other ∙ sym (none_more long other (count_at f rooms other))

-- a buffer came back
pub came_back : (rooms : List SizeClassView) (long at : ℕ) (old new : SizeClassView) → position (is_for long) rooms ≡ Some at → old ≡ get_or rooms at old → new.bytes ≡ old.bytes → min (old.pieces + 1) old.promised ≤ new.pieces
    → min (pieces_at rooms long + 1) (promised_at rooms long) ≤ pieces_at (slice_set rooms at new) long
came_back rooms long at old new found is same back =
    let a : pieces_at rooms long ≡ old.pieces = (is_there free_pieces rooms long at old found is).2 in
    let b : promised_at rooms long ≡ old.promised = (is_there booked rooms long at old found is).2 in
    let c : pieces_at (slice_set rooms at new) long ≡ new.pieces = after_taking free_pieces rooms long at old new found is same in
    omega (arith, a, b, c, back)

-- no more buffers stay than open requests can need
pub trimmed : (rooms : List SizeClassView) (long at pieces out : ℕ) (old new : SizeClassView) → position (is_for long) rooms ≡ Some at → old ≡ get_or rooms at old
    → new ≡ record old { pieces = min old.pieces (old.promised - pieces - out); promised = old.promised - pieces }
    → pieces_at (slice_set rooms at new) long ≡ min (pieces_at rooms long) (promised_at (slice_set rooms at new) long - out)
trimmed rooms long at pieces out old new found is after =
    let same : new.bytes ≡ old.bytes = ap (λ (r : SizeClassView). r.bytes) after in
    let a : pieces_at rooms long ≡ old.pieces = (is_there free_pieces rooms long at old found is).2 in
    let c : pieces_at (slice_set rooms at new) long ≡ new.pieces = after_taking free_pieces rooms long at old new found is same in
    let d : promised_at (slice_set rooms at new) long ≡ new.promised = after_taking booked rooms long at old new found is same in
    let p : new.pieces ≡ min old.pieces (old.promised - pieces - out) = ap (λ (r : SizeClassView). r.pieces) after in
    let q : new.promised ≡ old.promised - pieces = ap (λ (r : SizeClassView). r.promised) after in
    omega (arith, a, c, d, p, q)

pub others_kept : (rooms : List SizeClassView) (long at : ℕ) (old new : SizeClassView) → position (is_for long) rooms ≡ Some at → old ≡ get_or rooms at old → new.bytes ≡ old.bytes → (other : ℕ) → other ≢ long
    → pieces_at (slice_set rooms at new) other ≡ pieces_at rooms other
others_kept rooms long at old new found is same other apart =
    let h = is_there free_pieces rooms long at old found is in
    others_same free_pieces rooms at old new other h.0 is same (λ e. apart (e ∙ h.1))

-- THE CLASSES OF OTHER LENGTHS

abbrev first_of : (SizeClassView → ℕ) → ℕ → List SizeClassView → ℕ
first_of f long [] = 0
first_of f long (room ∷ rooms) = if is_for long room then f room else first_of f long rooms

none_at : (long : ℕ) (rooms : List SizeClassView) → position (is_for long) rooms ≡ None → (k : ℕ) → k < length rooms → is_for long (get_or rooms k no_room) ≡ false
none_at long rooms none k low = elim (cases_lt (position_or_len (is_for long) rooms) (length rooms)) [
  | inl is ↦
      let there : position (is_for long) rooms ≡ Some (position_or_len (is_for long) rooms) = rw (is_below (position_or_len (is_for long) rooms) (length rooms) is) refl in
      let both : Some (position_or_len (is_for long) rooms) ≡ None = sym there ∙ none in
      absurd (cc (both))
  | inr past ↦ fails_before_first (is_for long) rooms k no_room (omega (arith, low, past))
]

is_first : (f : SizeClassView → ℕ) (long : ℕ) (rooms : List SizeClassView) → count_at f rooms long ≡ first_of f long rooms
is_first f long rooms = by_place (position (is_for long) rooms) refl
  where
    by_place : (found : Option ℕ) → position (is_for long) rooms ≡ found → count_on f rooms found ≡ first_of f long rooms
    by_place (Some at) found =
        let h = position-Some (is_for long) rooms at no_room found in
        sym (found_at (first_of f long) (is_for long) f 0 refl (λ x xs. refl) rooms at no_room h.0 h.2 h.1)
    by_place None none = sym (found_nowhere (first_of f long) (is_for long) f 0 refl (λ x xs. refl) rooms no_room (none_at long rooms none))

own_gone : (f : SizeClassView → ℕ) (long : ℕ) (rooms : List SizeClassView) → first_of f long (filter (is_not_for long) rooms) ≡ 0
own_gone f long [] = refl
own_gone f long (room ∷ rooms) = elim (cases_Bool (is_for long room)) [
  | inl own ↦ rw own (own_gone f long rooms)
  | inr apart ↦ rw (apart, apart) (own_gone f long rooms)
]

others_stay : (f : SizeClassView → ℕ) (long other : ℕ) → other ≢ long → (rooms : List SizeClassView) → first_of f other (filter (is_not_for long) rooms) ≡ first_of f other rooms
others_stay f long other differ [] = refl
others_stay f long other differ (room ∷ rooms) = elim (cases_Bool (is_for long room)) [
  | inl own ↦
      let no_other : is_for other room ≡ false = elim (cases_Bool (is_for other room)) [
        | inl is ↦ absurd (differ (sym (eqb-true room.bytes other is) ∙ eqb-true room.bytes long own))
        | inr is ↦ is
      ] in
      rw (own, no_other) (others_stay f long other differ rooms)
  | inr apart ↦ rw apart (ap (λ (n : ℕ). if is_for other room then f room else n) (others_stay f long other differ rooms))
]

-- the class of a length of which it counts none
pub spent_gone : (f : SizeClassView → ℕ) (rooms : List SizeClassView) (long : ℕ) → count_at f rooms long ≡ 0 → (other : ℕ) → count_at f (filter (is_not_for long) rooms) other ≡ count_at f rooms other
spent_gone f rooms long none other = elim (cases_eq other long) [
  | inl is ↦ subst (λ (n : ℕ). count_at f (filter (is_not_for long) rooms) n ≡ count_at f rooms n) (sym is) (is_first f long (filter (is_not_for long) rooms) ∙ own_gone f long rooms ∙ sym none)
  | inr apart ↦ is_first f other (filter (is_not_for long) rooms) ∙ others_stay f long other apart rooms ∙ sym (is_first f other rooms)
]

-- THE SAME OF A LIST THAT IS EQUAL

pub is_there_in : (items rooms : List SizeClassView) (long at : ℕ) (old : SizeClassView) → items ≡ rooms → position (is_for long) rooms ≡ Some at → old ≡ get_or items at old → (at < length items) × (old.bytes ≡ long)
is_there_in items rooms long at old same found is =
    let h = is_there booked items long at old (ap (position (is_for long)) same ∙ found) is in
    (h.0, h.1)

pub put_more_in : (f : SizeClassView → ℕ) (items rooms : List SizeClassView) (at : ℕ) (old new : SizeClassView) → items ≡ rooms → at < length items → old ≡ get_or items at old → new.bytes ≡ old.bytes → f old ≤ f new → (long : ℕ)
    → count_at f rooms long ≤ count_at f (slice_set items at new) long
put_more_in f items rooms at old new same low is bytes more long =
    subst (λ (r : List SizeClassView). count_at f r long ≤ count_at f (slice_set items at new) long) same (put_more f items at old new low is bytes more long)

pub taken_in : (items rooms : List SizeClassView) (long at : ℕ) (old new : SizeClassView) (result : Option (List ℕ)) → items ≡ rooms → position (is_for long) rooms ≡ Some at → old ≡ get_or items at old
    → MatchOption result ((old.pieces ≡ 0) × (new ≡ old)) (λ b. IsOfLength b old.bytes × TakesOne old new)
    → MatchOption result ((pieces_at rooms long ≡ 0) × (slice_set items at new ≡ rooms)) (λ b. IsOfLength b long × (pieces_at (slice_set items at new) long + 1 ≡ pieces_at rooms long) × ((other : ℕ) → other ≢ long → pieces_at (slice_set items at new) other ≡ pieces_at rooms other))
taken_in items rooms long at old new result same found is takes =
    subst (λ (r : List SizeClassView). MatchOption result ((pieces_at r long ≡ 0) × (slice_set items at new ≡ r)) (λ b. IsOfLength b long × (pieces_at (slice_set items at new) long + 1 ≡ pieces_at r long) × ((other : ℕ) → other ≢ long → pieces_at (slice_set items at new) other ≡ pieces_at r other))) same
    (taken items long at old new result (ap (position (is_for long)) same ∙ found) is takes)

pub made_more_in : (f : SizeClassView → ℕ) (items rooms : List SizeClassView) (long at : ℕ) (old new : SizeClassView) (more : ℕ) → items ≡ rooms → position (is_for long) rooms ≡ Some at → old ≡ get_or items at old → new.bytes ≡ old.bytes → f new ≡ f old + more
    → (other : ℕ) → count_at f (slice_set items at new) other ≡ count_at f rooms other + of_length more long other
made_more_in f items rooms long at old new more same found is bytes pieces other =
    subst (λ (r : List SizeClassView). count_at f (slice_set items at new) other ≡ count_at f r other + of_length more long other) same
    (made_more f items long at old new more (ap (position (is_for long)) same ∙ found) is bytes pieces other)

pub made_less_in : (f : SizeClassView → ℕ) (items rooms : List SizeClassView) (long at : ℕ) (old new : SizeClassView) (less : ℕ) → items ≡ rooms → position (is_for long) rooms ≡ Some at → old ≡ get_or items at old → new.bytes ≡ old.bytes → f new ≡ f old - less
    → (other : ℕ) → count_at f (slice_set items at new) other ≡ count_at f rooms other - of_length less long other
made_less_in f items rooms long at old new less same found is bytes pieces other =
    subst (λ (r : List SizeClassView). count_at f (slice_set items at new) other ≡ count_at f r other - of_length less long other) same
    (made_less f items long at old new less (ap (position (is_for long)) same ∙ found) is bytes pieces other)

pub on_made : {A B P Q : Type 0} (result : Result A B) → (P → Q) → OnOk result P → OnOk result Q
on_made (Ok x) f p = f p
on_made (Err e) f p = tt

pub pushed_there_in : (items rooms items' : List SizeClassView) (new : SizeClassView) (long at : ℕ) → items ≡ rooms → position (is_for long) rooms ≡ None → new ≡ record { bytes = long; pieces = 0; promised = 0 } → items' ≡ items ++ new ∷ [] → at ≡ length items
    → position (is_for long) items' ≡ Some at
pushed_there_in items rooms items' new long at same none is after last =
    ap (position (is_for long)) after ∙ pushed_there items new long (ap (position (is_for long)) same ∙ none) (ap (λ (r : SizeClassView). r.bytes) is) ∙ ap Some (sym last)

pub kept_count_in : (f : SizeClassView → ℕ) (items rooms : List SizeClassView) (long at : ℕ) (old new : SizeClassView) → items ≡ rooms → position (is_for long) rooms ≡ Some at → old ≡ get_or items at old → new.bytes ≡ old.bytes → f new ≡ f old
    → (other : ℕ) → count_at f (slice_set items at new) other ≡ count_at f rooms other
kept_count_in f items rooms long at old new same found is bytes is_as other =
    subst (λ (r : List SizeClassView). count_at f (slice_set items at new) other ≡ count_at f r other) same
    (kept_count f items long at old new (ap (position (is_for long)) same ∙ found) is bytes is_as other)

pub came_back_in : (items rooms : List SizeClassView) (long at : ℕ) (old new : SizeClassView) → items ≡ rooms → position (is_for long) rooms ≡ Some at → old ≡ get_or items at old → new.bytes ≡ old.bytes → min (old.pieces + 1) old.promised ≤ new.pieces
    → min (pieces_at rooms long + 1) (promised_at rooms long) ≤ pieces_at (slice_set items at new) long
came_back_in items rooms long at old new same found is bytes back =
    subst (λ (r : List SizeClassView). min (pieces_at r long + 1) (promised_at r long) ≤ pieces_at (slice_set items at new) long) same
    (came_back items long at old new (ap (position (is_for long)) same ∙ found) is bytes back)

pub trimmed_in : (items rooms : List SizeClassView) (long at pieces out : ℕ) (old new : SizeClassView) → items ≡ rooms → position (is_for long) rooms ≡ Some at → old ≡ get_or items at old
    → new ≡ record old { pieces = min old.pieces (old.promised - pieces - out); promised = old.promised - pieces }
    → pieces_at (slice_set items at new) long ≡ min (pieces_at rooms long) (promised_at (slice_set items at new) long - out)
trimmed_in items rooms long at pieces out old new same found is after =
    subst (λ (r : List SizeClassView). pieces_at (slice_set items at new) long ≡ min (pieces_at r long) (promised_at (slice_set items at new) long - out)) same
    (trimmed items long at pieces out old new (ap (position (is_for long)) same ∙ found) is after)

pub others_kept_in : (items rooms : List SizeClassView) (long at : ℕ) (old new : SizeClassView) → items ≡ rooms → position (is_for long) rooms ≡ Some at → old ≡ get_or items at old → new.bytes ≡ old.bytes → (other : ℕ) → other ≢ long
    → pieces_at (slice_set items at new) other ≡ pieces_at rooms other
others_kept_in items rooms long at old new same found is bytes other apart =
    subst (λ (r : List SizeClassView). pieces_at (slice_set items at new) other ≡ pieces_at r other) same
    (others_kept items long at old new (ap (position (is_for long)) same ∙ found) is bytes other apart)

pub still_there_in : (items rooms : List SizeClassView) (long at : ℕ) (old new : SizeClassView) → items ≡ rooms → position (is_for long) rooms ≡ Some at → old ≡ get_or items at old → new.bytes ≡ old.bytes
    → position (is_for long) (slice_set items at new) ≡ Some at
still_there_in items rooms long at old new same found is bytes = still_there items long at old new (ap (position (is_for long)) same ∙ found) is bytes

-- a buffer that was taken leaves what was promised
pub still_promised : (old new : SizeClassView) (result : Option (List ℕ)) → MatchOption result ((old.pieces ≡ 0) × (new ≡ old)) (λ b. IsOfLength b old.bytes × TakesOne old new) → (new.bytes ≡ old.bytes) × (new.promised ≡ old.promised)
still_promised old new None (none, same) = (ap (λ (r : SizeClassView). r.bytes) same, ap (λ (r : SizeClassView). r.promised) same)
still_promised old new (Some b) (fits, takes) = (takes.same, takes.booked)

pub spent_there : (items rooms : List SizeClassView) (long at : ℕ) (class : SizeClassView) → items ≡ rooms → position (is_for long) rooms ≡ Some at → class ≡ get_or items at class → (class.promised == 0) ≡ true → promised_at rooms long ≡ 0
spent_there items rooms long at class same found is spent =
    subst (λ (r : List SizeClassView). promised_at r long ≡ 0) same
    ((is_there booked items long at class (ap (position (is_for long)) same ∙ found) is).2 ∙ eqb-true class.promised 0 spent)

pub dropped : (f : SizeClassView → ℕ) (items rooms items' : List SizeClassView) (long : ℕ) → items ≡ rooms → items' ≡ filter (is_not_for long) items → count_at f rooms long ≡ 0 → (other : ℕ) → count_at f items' other ≡ count_at f rooms other
dropped f items rooms items' long same after none other =
    ap (λ (r : List SizeClassView). count_at f r other) (after ∙ ap (filter (is_not_for long)) same) ∙ spent_gone f rooms long none other
