-- What a step at one part leaves of the coupling.
use Rattle.std.proofs.Common.{◌≡◌, ◌≤◌, ◌⊎◌, inl, inr, ℕ, ◌+◌, ◌*◌, not, Bool, true, false, List, [], ◌∷◌, ◌++◌, refl, sym, ◌∙◌, ap, subst, arith, map, length, take, drop, length-append}
use Rattle.std.specs.Prelude.{All, Contains, IsTrue, IsFalse, slice_range}
use Rattle.class_disk.proofs.Common.{list_all, length-map, map-append, IsPermutation-sym, IsPermutation-middle, All-permutation, All-cons, All-head, All-tail, All-weaker, Contains-append_right, splice, ClientRequest, Rules, first_sector, Mark, Untouched, Out, Done, Failed, Back, OpenRequest, Piece, with_marks, request_number, is_started, is_untouched}
use Rattle.class_disk.specs.inside.Joint.{Part, Below, Here, Divided, Joint, IsPartOf, parts_requests, parts_marks, shown}
use Rattle.class_disk.specs.inside.Invariant.{IsOwnedBy, AreParts, IsMadeUp, IsCancelledAs, AgreesOnCancel, HasPartBefore, IsAhead, AreBehind, IsInTurn, begins_back, IsInPieces, Keeps}
use Rattle.class_disk.proofs.Coupled.{requests-append, marks-append}
use Rattle.class_disk.proofs.InPieces.{in_pieces_with}
use Rattle.class_disk.proofs.CoupledMarks.{started_part, all_of_append}
use Rattle.class_disk.proofs.CoupledSteps.{divided_with}

-- the same asked for, as many places, and no restart used up
pub record IsAlikePart (o o' : OpenRequest) : Type 0 where
  pub number : o'.number ≡ o.number
  pub request : o'.request ≡ o.request
  pub late : o'.late ≡ o.late
  pub cancelled : o'.cancelled ≡ o.cancelled
  pub long : length o'.marks ≡ length o.marks
  pub spare : o'.busy_returns + begins_back o.marks ≤ o.busy_returns + begins_back o'.marks

part_alike : (rules : Rules) (q : ClientRequest) (first : ℕ) (o o' : OpenRequest) → IsAlikePart o o' → IsPartOf rules q first o → IsPartOf rules q first o'
part_alike rules q first o o' a h = record {
  kind = ap (λ r. r.kind) a.request ∙ h.kind;
  through = ap (λ r. r.through) a.request ∙ h.through;
  partition = ap (λ r. r.partition) a.request ∙ h.partition;
  from = ap (λ r. first_sector rules r) a.request ∙ h.from;
  short = let l = a.long in let s = h.short in omega arith;
  timely = a.late ∙ h.timely;
  bytes = λ at count fits. subst (λ r. slice_range r.bytes (at * rules.sector_size) ((at + count) * rules.sector_size) ≡ slice_range q.bytes ((first + at) * rules.sector_size) ((first + at + count) * rules.sector_size)) (sym a.request) (h.bytes at count (let l = a.long in omega arith));
  long = λ is. ap (λ r. length r.bytes) a.request ∙ h.long (sym (ap (λ r. r.kind) a.request) ∙ is) ∙ ap (λ n. n * rules.sector_size) (sym a.long);
}

-- PARTS

module _ (rules : Rules) (q : ClientRequest) (o o' : OpenRequest) (again : ℕ) (ps ps' : List Piece) (back : List Part) where
  -- a part with other marks and pieces
  pub parts_with : IsAlikePart o o' → All (IsOwnedBy o'.number) ps' → (first : ℕ) (front : List Part) → AreParts rules q first (front ++ (Below o again ps ∷ back)) → AreParts rules q first (front ++ (Below o' again ps' ∷ back))
  parts_with a owned first [] h = (part_alike rules q first o o' a h.0, owned, subst (λ n. AreParts rules q (first + n) back) (sym a.long) h.2)
  parts_with a owned first (Below p before xs ∷ front) h = (h.0, h.1, parts_with a owned (first + length p.marks) front h.2)
  parts_with a owned first (Here marks busy ∷ front) h = parts_with a owned (first + length marks) front h

  -- what is known of a part
  pub part_at : (first : ℕ) (front : List Part) → AreParts rules q first (front ++ (Below o again ps ∷ back)) → IsPartOf rules q (first + length (parts_marks front)) o × All (IsOwnedBy o.number) ps
  part_at first [] h = (subst (λ n. IsPartOf rules q n o) (omega arith) h.0, h.1)
  part_at first (Below p before xs ∷ front) h =
      let r = part_at (first + length p.marks) front h.2 in
      (subst (λ n. IsPartOf rules q n o) (simp (length-append, length-map) (omega arith)) r.0, r.1)
  part_at first (Here marks busy ∷ front) h =
      let r = part_at (first + length marks) front h in
      (subst (λ n. IsPartOf rules q n o) (simp length-append (omega arith)) r.0, r.1)

-- counted from the first place
pub part_in : (rules : Rules) (q : ClientRequest) (o : OpenRequest) (again : ℕ) (ps : List Piece) (front back : List Part) → AreParts rules q 0 (front ++ (Below o again ps ∷ back)) → IsPartOf rules q (length (parts_marks front)) o × All (IsOwnedBy o.number) ps
part_in rules q o again ps front back h =
    let r = part_at rules q o o again ps ps back 0 front h in
    (subst (λ n. IsPartOf rules q n o) (omega arith) r.0, r.1)

module _ (o o' : OpenRequest) (again : ℕ) (ps ps' : List Piece) (front back : List Part) where
  pub requests_with : (P : OpenRequest → Type 0) → (P o → P o') → All P (parts_requests (front ++ (Below o again ps ∷ back))) → All P (parts_requests (front ++ (Below o' again ps' ∷ back)))
  requests_with P then all =
      let xs : List OpenRequest = parts_requests front in
      let ys : List OpenRequest = parts_requests back in
      let h : All P (xs ++ (o ∷ ys)) = subst (All P) (requests-append front (Below o again ps ∷ back)) all in
      let g : All P (o ∷ (xs ++ ys)) = All-permutation P _ _ (IsPermutation-middle xs o ys) h in
      subst (All P) (sym (requests-append front (Below o' again ps' ∷ back)))
      (All-permutation P _ _ (IsPermutation-sym _ _ (IsPermutation-middle xs o' ys)) (All-cons P o' (xs ++ ys) (then (All-head P o (xs ++ ys) g)) (All-tail P o (xs ++ ys) g)))

  pub numbers_with : o'.number ≡ o.number → map request_number (parts_requests (front ++ (Below o again ps ∷ back))) ≡ map request_number (parts_requests (front ++ (Below o' again ps' ∷ back)))
  numbers_with same =
      ap (map request_number) (requests-append front (Below o again ps ∷ back))
      ∙ map-append request_number (parts_requests front) (o ∷ parts_requests back)
      ∙ ap (λ n. map request_number (parts_requests front) ++ (n ∷ map request_number (parts_requests back))) (sym same)
      ∙ sym (map-append request_number (parts_requests front) (o' ∷ parts_requests back))
      ∙ sym (ap (map request_number) (requests-append front (Below o' again ps' ∷ back)))

-- the part is there
pub there : (o : OpenRequest) (again : ℕ) (ps : List Piece) (front back : List Part) → Contains (parts_requests (front ++ (Below o again ps ∷ back))) o
there o again ps front back =
    subst (λ zs. Contains zs o) (sym (requests-append front (Below o again ps ∷ back))) (Contains-append_right (parts_requests front) (o ∷ parts_requests back) o (0, omega arith, refl))

-- TURNS

-- a request after a step: no more cancelled, started where it was, and each part that waits still there unless it is started
pub record Follows (removing : Bool) (x x' : Divided) : Type 0 where
  pub number : x'.number ≡ x.number
  pub timely : IsFalse x'.cancelled → IsFalse x.cancelled
  pub started : IsTrue (is_started (shown x)) → IsTrue (is_started (shown x'))
  pub parts : IsFalse removing → (n : ℕ) → HasPartBefore n x → IsTrue (is_started (shown x')) ⊎ HasPartBefore n x'

ahead_follows : (removing : Bool) (n m : ℕ) (x x' : Divided) → Follows removing x x' → IsAhead removing n m x → IsAhead removing n m x'
ahead_follows removing n m x x' f h staying lower timely = then (h staying (let e = f.number in omega arith) (f.timely timely))
  where
    then : IsTrue (is_started (shown x)) ⊎ HasPartBefore m x → IsTrue (is_started (shown x')) ⊎ HasPartBefore m x'
    then (inl started) = inl (f.started started)
    then (inr has) = f.parts staying m has

module _ (removing : Bool) (es : List Divided) (x x' : Divided) (f : Follows removing x x') where
  pub behind_follows : (n m : ℕ) → AreBehind removing (x ∷ es) n m → AreBehind removing (x' ∷ es) n m
  behind_follows n m all = All-cons (IsAhead removing n m) x' es (ahead_follows removing n m x x' f (All-head (IsAhead removing n m) x es all)) (All-tail (IsAhead removing n m) x es all)

  -- those of the parts that are still there
  pub turns_follow_in : ((P : ℕ → Type 0) → All P (map request_number (parts_requests x.parts)) → All P (map request_number (parts_requests x'.parts))) → All (IsInTurn removing (x ∷ es)) (x ∷ es) → All (IsInTurn removing (x' ∷ es)) (x' ∷ es)
  turns_follow_in fewer all =
      All-cons (IsInTurn removing (x' ∷ es)) x' es
      (subst (λ n. All (AreBehind removing (x' ∷ es) n) (map request_number (parts_requests x'.parts))) (sym f.number)
      (fewer (AreBehind removing (x' ∷ es) x.number)
      (All-weaker (AreBehind removing (x ∷ es) x.number) (AreBehind removing (x' ∷ es) x.number) (behind_follows x.number) _ (All-head (IsInTurn removing (x ∷ es)) x es all))))
      (All-weaker (IsInTurn removing (x ∷ es)) (IsInTurn removing (x' ∷ es))
      (λ e. All-weaker (AreBehind removing (x ∷ es) e.number) (AreBehind removing (x' ∷ es) e.number) (behind_follows e.number) (map request_number (parts_requests e.parts)))
      es (All-tail (IsInTurn removing (x ∷ es)) x es all))

  pub turns_follow : map request_number (parts_requests x.parts) ≡ map request_number (parts_requests x'.parts) → All (IsInTurn removing (x ∷ es)) (x ∷ es) → All (IsInTurn removing (x' ∷ es)) (x' ∷ es)
  turns_follow same = turns_follow_in (λ P all. subst (All P) same all)

-- THE WHOLE COUPLING, AFTER A STEP AT ONE PART

module _ (rules : Rules) (j : Joint) (e : Divided) (es : List Divided) (front back : List Part) (o o' : OpenRequest) (again : ℕ) (ps ps' : List Piece) (alike : IsAlikePart o o') where
  abbrev pub before_it : Divided
  before_it = divided_with e front back o again ps

  abbrev pub after_it : Divided
  after_it = divided_with e front back o' again ps'

  -- the part is started now
  pub follows_started : IsTrue (is_started o') → Follows j.removing before_it after_it
  follows_started started =
      let now : IsTrue (is_started (shown after_it)) = started_part after_it o' (there o' again ps' front back) started in
      record { number = refl; timely = λ h. h; started = λ _. now; parts = λ staying n has. inl now }

  pub keeps_with : (arrays : List (List (List ℕ))) (next : ℕ) → All (IsOwnedBy o'.number) ps' → Follows j.removing before_it after_it → Keeps rules (record j { divided = before_it ∷ es }) → Keeps rules (record j { arrays = arrays; next_piece = next; divided = after_it ∷ es })
  keeps_with arrays next owned f k = record {
    made_up = All-cons (IsMadeUp rules) after_it es
        (parts_with rules e.request o o' again ps ps' back alike owned 0 front (All-head (IsMadeUp rules) before_it es k.made_up))
        (All-tail (IsMadeUp rules) before_it es k.made_up);
    agree = All-cons AgreesOnCancel after_it es
        (requests_with o o' again ps ps' front back (IsCancelledAs e.cancelled) (λ h. alike.cancelled ∙ h) (All-head AgreesOnCancel before_it es k.agree))
        (All-tail AgreesOnCancel before_it es k.agree);
    in_turn = turns_follow j.removing es before_it after_it f (numbers_with o o' again ps ps' front back alike.number) k.in_turn;
    in_pieces = All-cons (IsInPieces rules) after_it es (in_pieces_with rules e front back (Below o again ps) (Below o' again ps') alike.long (let a = alike.spare in omega arith) (All-head (IsInPieces rules) before_it es k.in_pieces)) (All-tail (IsInPieces rules) before_it es k.in_pieces);
  }

-- only the pieces of the part changed
pub follows_same : (removing : Bool) (e : Divided) (front back : List Part) (o : OpenRequest) (again : ℕ) (ps ps' : List Piece) → Follows removing (divided_with e front back o again ps) (divided_with e front back o again ps')
follows_same removing e front back o again ps ps' =
    let same : parts_requests (front ++ (Below o again ps ∷ back)) ≡ parts_requests (front ++ (Below o again ps' ∷ back)) = requests-append front (Below o again ps ∷ back) ∙ sym (requests-append front (Below o again ps' ∷ back)) in
    let marks : parts_marks (front ++ (Below o again ps ∷ back)) ≡ parts_marks (front ++ (Below o again ps' ∷ back)) = marks-append front (Below o again ps ∷ back) ∙ sym (marks-append front (Below o again ps' ∷ back)) in
    record {
      number = refl;
      timely = λ h. h;
      started = λ h. subst (λ ms. IsTrue (not (list_all is_untouched ms))) marks h;
      parts = λ staying n has. inr (record { part = has.part; there = subst (λ zs. Contains zs has.part) same has.there; timely = has.timely; before = has.before });
    }

pub alike_same : (o : OpenRequest) → IsAlikePart o o
alike_same o = record { number = refl; request = refl; late = refl; cancelled = refl; long = refl; spare = omega arith }

-- marks of which one isn't untouched
pub started_with : (o : OpenRequest) (first : ℕ) (mark : Mark) (marks : List Mark) → is_untouched mark ≡ false → IsTrue (is_started (with_marks first (mark ∷ marks) o))
started_with o first mark marks touched = by (list_all is_untouched (splice o.marks first (mark ∷ marks))) refl
  where
    by : (b : Bool) → list_all is_untouched (splice o.marks first (mark ∷ marks)) ≡ b → IsTrue (not b)
    by false is = refl
    by true is = absurd (none mark touched (all_of_append (take first o.marks) _ is).1)
      where
        none : (m : Mark) → is_untouched m ≡ false → list_all is_untouched (m ∷ (marks ++ drop (first + length (mark ∷ marks)) o.marks)) ≡ true → ⊥
        none Untouched e h = cc (e)
        none Out e h = cc (h)
        none (Done sector) e h = cc (h)
        none (Failed status) e h = cc (h)
        none Back e h = cc (h)
