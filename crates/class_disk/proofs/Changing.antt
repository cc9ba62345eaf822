-- One part of an open request changes in the table: what that leaves of all others, and what is owed of it alone.
use Rattle.std.proofs.Common.{◌≡◌, ◌≢◌, ◌<◌, ◌≤◌, inl, inr, ℕ, ◌+◌, ◌-◌, Bool, List, [], ◌∷◌, ◌++◌, sym, ◌∙◌, ap, subst, arith, map, length, length-append, get_or}
use Rattle.std.specs.Prelude.{IsPermutation, All}
use Rattle.class_disk.proofs.Common.{map-append, IsPermutation-sym, IsPermutation-middle, IsPermutation-map, All-permutation, All-nil, All-cons, All-head, All-tail, All-weaker, All-append, Rules, Mark, Untouched, Out, Done, Failed, Back, Progress, Note, Sent, Kept, Known, HasSome, IsOverMark, IsOverNote, IsOver, noted_busy, goes_whole, note, note_by, known, knowns, packet_above, request_of_part, IsCauseBy, HaveCauses, IsOpen, IsBuffered, IsWritten, PartId}
use Rattle.class_disk.specs.declared.parts.Part.{Part}
use Rattle.class_disk.specs.declared.parts.Progress.TheVariants.{Ready, Below, Ended as HasEnded}
use Rattle.class_disk.specs.inside.Parts.{WasSent, WasSentBy, restarts_of, unfinished_of, unfinished_by}
use Rattle.class_disk.specs.inside.TableView.{Opened, TableView, opened, all_open, restarts_left}
use Rattle.class_disk.specs.inside.Owners.{slot_at, place_at, IsOwnedBy, AreOwnedFrom}
use Rattle.class_disk.proofs.Retaking.{known_at}
use Rattle.class_disk.proofs.Causes.{causes_more}
use Rattle.class_disk.proofs.Standing.{All-middle, All-at, All-others}
use Rattle.class_disk.proofs.Noting.{PartStands, unfinished-append, left-append, owned_at}
use Rattle.class_disk.proofs.Owned.{owned_split, owned_joined}

-- BUSY RETURNS

noted_first : (n : Note) (ns : List Note) → noted_busy (n ∷ ns) ≡ noted_busy (n ∷ []) + noted_busy ns
noted_first (Sent number again) ns = omega arith
noted_first (Kept marks busy) ns = omega arith

pub noted-append : (xs ys : List Note) → noted_busy (xs ++ ys) ≡ noted_busy xs + noted_busy ys
noted-append [] ys = omega arith
noted-append (x ∷ xs) ys =
    let a = noted_first x (xs ++ ys) in let b = noted_first x xs in let c = noted-append xs ys in omega arith

-- more busy returns end no part that had not ended
over_mark : (cancelled removing : Bool) (limit busy busy' : ℕ) → busy ≤ busy' → (m : Mark) → IsOverMark cancelled removing limit busy m
    → IsOverMark cancelled removing limit busy' m
over_mark cancelled removing limit busy busy' more Untouched h = h
over_mark cancelled removing limit busy busy' more Back (inl h) = inl h
over_mark cancelled removing limit busy busy' more Back (inr (inl h)) = inr (inl h)
over_mark cancelled removing limit busy busy' more Back (inr (inr h)) = inr (inr (omega (arith, h)))
over_mark cancelled removing limit busy busy' more Out h = h
over_mark cancelled removing limit busy busy' more (Done sector) h = h
over_mark cancelled removing limit busy busy' more (Failed status) h = h

over_note : (cancelled removing : Bool) (limit busy busy' : ℕ) → busy ≤ busy' → (n : Note) → IsOverNote cancelled removing limit busy n
    → IsOverNote cancelled removing limit busy' n
over_note cancelled removing limit busy busy' more (Sent number again) h = tt
over_note cancelled removing limit busy busy' more (Kept marks kept) h =
    All-weaker (IsOverMark cancelled removing limit busy) (IsOverMark cancelled removing limit busy')
    (over_mark cancelled removing limit busy busy' more) marks h

-- each time that a part was sent again is counted
pub noted_restarts : (rules : Rules) (parts : List Part) → All WasSent parts → restarts_of parts ≤ noted_busy (map (note rules) parts)
noted_restarts rules [] all = omega arith
noted_restarts rules (part ∷ parts) all =
    let a = by part.progress (All-head WasSent part parts all) in
    let b = noted_first (note rules part) (map (note rules) parts) in
    let c = noted_restarts rules parts (All-tail WasSent part parts all) in
    omega arith
  where
    by : (p : Progress) → WasSentBy p → part.restarts ≤ noted_busy (note_by rules part p ∷ [])
    by (Ready place) sent = absurd sent
    by (Below number spot) sent = omega arith
    by (HasEnded ended) sent = omega arith

-- SUMS
pub restarts-append : (xs ys : List Part) → restarts_of (xs ++ ys) ≡ restarts_of xs + restarts_of ys
restarts-append [] ys = omega arith
restarts-append (x ∷ xs) ys = let e = restarts-append xs ys in omega arith

-- THE SPOTS OF OTHER PARTS

-- the part is not below at this spot
abbrev pub HasOther : ℕ → Part → Type 0
HasOther spot part = (n at : ℕ) → part.progress ≡ Below n at → at ≢ spot

other_places : (owners : List PartId) (slot first spot : ℕ) (xs : List Part) → AreOwnedFrom owners slot first xs →
    ((i : ℕ) → first ≤ i → i < first + length xs → i ≢ place_at owners spot) → All (HasOther spot) xs
other_places owners slot first spot [] h out = All-nil (HasOther spot)
other_places owners slot first spot (x ∷ xs) h out =
    All-cons (HasOther spot) x xs
    (λ n at is same. let e : IsOwnedBy owners slot first (Below n at) = subst (IsOwnedBy owners slot first) is h.0 in out first
    (omega arith) (omega arith) (sym e.1 ∙ ap (place_at owners) same))
    (other_places owners slot (first + 1) spot xs h.1 (λ i low high. out i (omega arith) (omega arith)))

other_slots : (owners : List PartId) (slot first spot : ℕ) (xs : List Part) → AreOwnedFrom owners slot first xs → slot ≢ slot_at owners spot
    → All (HasOther spot) xs
other_slots owners slot first spot [] h out = All-nil (HasOther spot)
other_slots owners slot first spot (x ∷ xs) h out =
    All-cons (HasOther spot) x xs
    (λ n at is same. let e : IsOwnedBy owners slot first (Below n at) = subst (IsOwnedBy owners slot first) is h.0 in out
    (sym e.0 ∙ ap (slot_at owners) same))
    (other_slots owners slot (first + 1) spot xs h.1 out)

module _ (rules : Rules) {b : TableView} {slot k : ℕ} {o : Opened} {part : Part} {number spot : ℕ}
    (s : PartStands b slot k o part number spot) (part' : Part) (again left next : ℕ) (ended' : List ℕ) where
  abbrev pub o_now : Opened
  o_now = record o { parts = s.front ++ (part' ∷ s.back); restarts = again; unfinished = left }

  abbrev pub b_now : TableView
  b_now = record b { opens = s.stands.before ++ ((slot, o_now) ∷ s.stands.after); ended = ended'; next_packet = next }

  abbrev pub rest_open : List (ℕ × Opened)
  rest_open = s.stands.before ++ s.stands.after

  old_first : IsPermutation b.opens ((slot, o) ∷ rest_open)
  old_first = subst (λ xs. IsPermutation xs ((slot, o) ∷ rest_open)) (sym s.stands.opens_are)
      (IsPermutation-middle s.stands.before (slot, o) s.stands.after)

  new_first : IsPermutation b_now.opens ((slot, o_now) ∷ rest_open)
  new_first = IsPermutation-middle s.stands.before (slot, o_now) s.stands.after

  -- OF EACH OPEN REQUEST
  pub own_entry : (P : ℕ × Opened → Type 0) → All P b.opens → P (slot, o)
  own_entry P all = All-at P s.stands.before (slot, o) s.stands.after (subst (All P) s.stands.opens_are all)

  pub each_entry : (P P' : ℕ × Opened → Type 0) → P' (slot, o_now) → ((e : ℕ × Opened) → e.0 ≢ slot → P e → P' e) → All P b.opens
      → All P' b_now.opens
  each_entry P P' own other all =
      let rest : All P rest_open = All-tail P (slot, o) rest_open (All-permutation P _ _ old_first all) in
      All-permutation P' _ _ (IsPermutation-sym _ _ new_first)
      (All-cons P' (slot, o_now) rest_open own (λ i d low. other (get_or rest_open i d) (s.stands.apart i d low) (rest i d low)))

  -- OF EACH PART

  pub each_part : (P P' : Part → Type 0) → P' part' → ((x : Part) → P x → P' x) → All P o.parts → All P' (s.front ++ (part' ∷ s.back))
  each_part P P' own other all =
      let rest : All P (s.front ++ s.back) = All-others P s.front part s.back (subst (All P) s.parts_are all) in
      All-permutation P' _ _ (IsPermutation-sym _ _ (IsPermutation-middle s.front part' s.back))
      (All-cons P' part' (s.front ++ s.back) own (All-weaker P P' other (s.front ++ s.back) rest))

  -- of each part anywhere, where the others are below under other numbers
  pub all_parts : (P P' : Part → Type 0) → All (IsOpen rules b.owners) b.opens → P' part' → ((x : Part) → HasOther spot x → P x → P' x)
      → All (λ (e : Opened). All P e.parts) (all_open b) → All (λ (e : Opened). All P' e.parts) (all_open b_now)
  all_parts P P' opens own other all =
      to_opened b_now.opens
      (each_entry (λ e. IsOpen rules b.owners e × All P e.1.parts) (λ e. All P' e.1.parts)
      (mine (own_entry (λ e. IsOpen rules b.owners e × All P e.1.parts) both))
      (λ e apart h.
      let others : All (HasOther spot) e.1.parts = other_slots b.owners e.0 0 spot e.1.parts h.0.owned
      (λ same. apart (same ∙ (is_owned (own_entry (IsOpen rules b.owners) opens)).0)) in
      λ i d low. other (get_or e.1.parts i d) (others i d low) (h.1 i d low))
      both)
    where
      from_opened : (es : List (ℕ × Opened)) → All (λ (x : Opened). All P x.parts) (map opened es) → All
          (λ (e : ℕ × Opened). All P e.1.parts) es
      from_opened [] h = All-nil (λ (e : ℕ × Opened). All P e.1.parts)
      from_opened (e ∷ es) h =
          All-cons (λ (x : ℕ × Opened). All P x.1.parts) e es (All-head (λ (x : Opened). All P x.parts) e.1 (map opened es) h)
          (from_opened es (All-tail (λ (x : Opened). All P x.parts) e.1 (map opened es) h))

      to_opened : (es : List (ℕ × Opened)) → All (λ (e : ℕ × Opened). All P' e.1.parts) es → All (λ (x : Opened). All P' x.parts)
          (map opened es)
      to_opened [] h = All-nil (λ (x : Opened). All P' x.parts)
      to_opened (e ∷ es) h =
          All-cons (λ (x : Opened). All P' x.parts) e.1 (map opened es) (All-head (λ (x : ℕ × Opened). All P' x.1.parts) e es h)
          (to_opened es (All-tail (λ (x : ℕ × Opened). All P' x.1.parts) e es h))

      both : All (λ (e : ℕ × Opened). IsOpen rules b.owners e × All P e.1.parts) b.opens
      both = λ i d low. (opens i d low, from_opened b.opens all i d low)

      is_owned : IsOpen rules b.owners (slot, o) → IsOwnedBy b.owners slot (0 + length s.front) (Below number spot)
      is_owned w = subst (IsOwnedBy b.owners slot (0 + length s.front)) s.is_below
          (owned_at b.owners slot 0 s.front part s.back (subst (AreOwnedFrom b.owners slot 0) s.parts_are w.owned))

      mine : IsOpen rules b.owners (slot, o) × All P o.parts → All P' (s.front ++ (part' ∷ s.back))
      mine (w, h) =
          let n = (is_owned w).1 in
          let halves = owned_split b.owners slot 0 s.front (part ∷ s.back) (subst (AreOwnedFrom b.owners slot 0) s.parts_are w.owned) in
          let in_front : All (HasOther spot) s.front = other_places b.owners slot 0 spot s.front halves.0
          (λ i low high same. omega (arith, same)) in
          let in_back : All (HasOther spot) s.back = other_places b.owners slot (0 + length s.front + 1) spot s.back halves.1.1
          (λ i low high same. omega (arith, same)) in
          let others : All (HasOther spot) (s.front ++ s.back) = All-append (HasOther spot) s.front s.back in_front in_back in
          let rest : All P (s.front ++ s.back) = All-others P s.front part s.back (subst (All P) s.parts_are h) in
          All-permutation P' _ _ (IsPermutation-sym _ _ (IsPermutation-middle s.front part' s.back))
          (All-cons P' part' (s.front ++ s.back) own (λ i d low. other (get_or (s.front ++ s.back) i d) (others i d low) (rest i d low)))

  -- SUMS, AND WHAT THE PACKETS ABOVE ARE
  pub packets_stay : map packet_above b_now.opens ≡ map packet_above b.opens
  packets_stay =
      map-append packet_above s.stands.before ((slot, o_now) ∷ s.stands.after)
      ∙ sym (ap (map packet_above) s.stands.opens_are ∙ map-append packet_above s.stands.before ((slot, o) ∷ s.stands.after))

  pub left_now : restarts_left b_now.opens + (16 - o.restarts) ≡ restarts_left b.opens + (16 - again)
  left_now =
      let e = ap restarts_left s.stands.opens_are ∙ left-append s.stands.before ((slot, o) ∷ s.stands.after) in
      let f = left-append s.stands.before ((slot, o_now) ∷ s.stands.after) in
      omega arith

  pub long_now : length b_now.opens ≡ length b.opens
  long_now = length-append s.stands.before ((slot, o_now) ∷ s.stands.after) ∙ sym
      (ap length s.stands.opens_are ∙ length-append s.stands.before ((slot, o) ∷ s.stands.after))

  -- WHAT IS KNOWN
  abbrev pub front_notes : List Note
  front_notes = map (note rules) s.front

  abbrev pub back_notes : List Note
  back_notes = map (note rules) s.back

  abbrev pub others_known : List Known
  others_known = map (known rules) (map opened rest_open)

  pub known_old : IsPermutation (knowns rules b) (known_at (known rules o) front_notes (note rules part) back_notes ∷ others_known)
  known_old =
      let is : map (note rules) o.parts ≡ front_notes ++ (note rules part ∷ back_notes) = ap (map (note rules)) s.parts_are ∙ map-append
      (note rules) s.front (part ∷ s.back) in
      subst (λ (ns : List Note). IsPermutation (knowns rules b) (record (known rules o) { parts = ns } ∷ others_known)) is
      (IsPermutation-map (known rules) _ _ (IsPermutation-map opened _ _ old_first))

  pub known_new : IsPermutation (knowns rules b_now) (known_at (known rules o) front_notes (note rules part') back_notes ∷ others_known)
  known_new =
      let is : map (note rules) (s.front ++ (part' ∷ s.back)) ≡ front_notes ++ (note rules part' ∷ back_notes) = map-append
      (note rules) s.front (part' ∷ s.back) in
      subst (λ (ns : List Note). IsPermutation (knowns rules b_now) (record (known rules o) { parts = ns } ∷ others_known)) is
      (IsPermutation-map (known rules) _ _ (IsPermutation-map opened _ _ new_first))

  -- of what is known of each request
  pub each_known : (P : Known → Type 0) → (P (known_at (known rules o) front_notes (note rules part) back_notes) → P
      (known_at (known rules o) front_notes (note rules part') back_notes)) → All P (knowns rules b) → All P (knowns rules b_now)
  each_known P own all =
      let k : Known = known_at (known rules o) front_notes (note rules part) back_notes in
      let k' : Known = known_at (known rules o) front_notes (note rules part') back_notes in
      let first : All P (k ∷ others_known) = All-permutation P _ _ known_old all in
      All-permutation P _ _ (IsPermutation-sym _ _ known_new)
      (All-cons P k' others_known (own (All-head P k others_known first)) (All-tail P k others_known first))

  pub some_now : All (HasSome rules) (knowns rules b) → All (HasSome rules) (knowns rules b_now)
  some_now = each_known (HasSome rules) (λ h. h)

  -- busy returns, of which there may be more
  abbrev pub busy_then : ℕ
  busy_then = noted_busy (map (note rules) o.parts)

  abbrev pub busy_now : ℕ
  busy_now = noted_busy (map (note rules) (s.front ++ (part' ∷ s.back)))

  pub busy_is : busy_now + noted_busy (note rules part ∷ []) ≡ busy_then + noted_busy (note rules part' ∷ [])
  busy_is =
      let e = ap (λ ps. noted_busy (map (note rules) ps)) s.parts_are ∙ ap noted_busy (map-append (note rules) s.front (part ∷ s.back))
      ∙ noted-append front_notes (note rules part ∷ back_notes) in
      let f = ap noted_busy (map-append (note rules) s.front (part' ∷ s.back)) ∙ noted-append front_notes (note rules part' ∷ back_notes) in
      let x = noted_first (note rules part) back_notes in
      let y = noted_first (note rules part') back_notes in
      omega arith

  module _ (more : noted_busy (note rules part ∷ []) ≤ noted_busy (note rules part' ∷ [])) where
    pub no_fewer : busy_then ≤ busy_now
    no_fewer = let e = busy_is in omega arith

    pub over_now : (removing : Bool) → IsOverNote o.irp.cancelled removing 17 busy_now (note rules part') → All (IsOver 17 removing)
        (knowns rules b) → All (IsOver 17 removing) (knowns rules b_now)
    over_now removing own = each_known (IsOver 17 removing) (λ h.
        let e : noted_busy (front_notes ++ (note rules part ∷ back_notes)) ≡ busy_then = sym
        (ap (λ ps. noted_busy (map (note rules) ps)) s.parts_are ∙ ap noted_busy (map-append (note rules) s.front (part ∷ s.back))) in
        let f : noted_busy (front_notes ++ (note rules part' ∷ back_notes)) ≡ busy_now = sym
        (ap noted_busy (map-append (note rules) s.front (part' ∷ s.back))) in
        let more' : noted_busy (front_notes ++ (note rules part ∷ back_notes)) ≤ noted_busy
        (front_notes ++ (note rules part' ∷ back_notes)) = let n = no_fewer in omega arith in
        All-middle (IsOverNote o.irp.cancelled removing 17 (noted_busy (front_notes ++ (note rules part' ∷ back_notes)))) front_notes
        (note rules part) (note rules part') back_notes
        (λ was. subst (λ n. IsOverNote o.irp.cancelled removing 17 n (note rules part')) (sym f) own)
        (All-weaker (IsOverNote o.irp.cancelled removing 17 (noted_busy (front_notes ++ (note rules part ∷ back_notes))))
        (IsOverNote o.irp.cancelled removing 17 (noted_busy (front_notes ++ (note rules part' ∷ back_notes))))
        (over_note o.irp.cancelled removing 17 _ _ more') (front_notes ++ (note rules part ∷ back_notes)) h))

    pub causes_now : (removing : Bool) → IsCauseBy o.irp.cancelled removing busy_now part'.progress → All
        (HaveCauses rules removing) b.opens → All (HaveCauses rules removing) b_now.opens
    causes_now removing own all = each_entry (HaveCauses rules removing) (HaveCauses rules removing)
        (each_part (λ (x : Part). IsCauseBy o.irp.cancelled removing busy_now x.progress)
        (λ (x : Part). IsCauseBy o.irp.cancelled removing busy_now x.progress) own (λ x h. h)
        (causes_more o.irp.cancelled o.irp.cancelled removing removing busy_then busy_now (λ is. is) (λ is. is) no_fewer o.parts
        (own_entry (HaveCauses rules removing) all)))
        (λ e apart h. h) all

  -- WHAT IS KEPT OF THE REQUEST
  pub open_now : part'.request ≡ part.request → WasSent part' → IsBuffered rules (goes_whole rules.max_transfer o.request) part' → IsWritten rules o part'
      → IsOwnedBy b.owners slot k part'.progress → again + part.restarts ≡ o.restarts + part'.restarts → again ≤ 16
      → left + unfinished_by part.progress ≡ o.unfinished + unfinished_by part'.progress → IsOpen rules b.owners (slot, o) → IsOpen rules b.owners
      (slot, o_now)
  open_now asks sent buffered written owned restarts few unfinished w =
      let halves = owned_split b.owners slot 0 s.front (part ∷ s.back) (subst (AreOwnedFrom b.owners slot 0) s.parts_are w.owned) in
      let place : k ≡ 0 + length s.front = let p = s.place in omega arith in
      record {
        cut = record {
          bounded = w.cut.bounded;
          parts_are = map-append request_of_part s.front (part' ∷ s.back) ∙ ap
              (λ r. map request_of_part s.front ++ (r ∷ map request_of_part s.back)) asks
              ∙ sym (ap (map request_of_part) s.parts_are ∙ map-append request_of_part s.front (part ∷ s.back)) ∙ w.cut.parts_are;
        };
        carries = w.carries;
        sent = each_part WasSent WasSent sent (λ x h. h) w.sent;
        buffered = each_part (IsBuffered rules (goes_whole rules.max_transfer o.request)) (IsBuffered rules (goes_whole rules.max_transfer o.request)) buffered (λ x h. h) w.buffered;
        written = each_part (IsWritten rules o) (IsWritten rules o) written (λ x h. h) w.written;
        owned = owned_joined b.owners slot 0 s.front (part' ∷ s.back) halves.0
            (subst (λ n. IsOwnedBy b.owners slot n part'.progress) place owned, halves.1.1);
        lent = w.lent;
        restarts =
            let a = w.restarts in
            let c = ap restarts_of s.parts_are ∙ restarts-append s.front (part ∷ s.back) in
            let d = restarts-append s.front (part' ∷ s.back) in
            omega arith;
        few = few;
        unfinished =
            let a = w.unfinished in
            let c = ap unfinished_of s.parts_are ∙ unfinished-append s.front (part ∷ s.back) in
            let d = unfinished-append s.front (part' ∷ s.back) in
            omega arith;
      }
