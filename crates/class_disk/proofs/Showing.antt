-- What is read off the machine below is the coupling that there is.
use Rattle.std.proofs.Common.{◌≡◌, ◌≢◌, ◌⊎◌, inl, inr, ℕ, zero, suc, ◌+◌, ◌==◌, eqb, Bool, true, false, List, [], ◌∷◌, ◌++◌, refl, sym, ◌∙◌, ap, subst, arith, rules, map, length, append_assoc}
use Rattle.std.specs.Prelude.{IsPermutation, All, Contains, filter}
use Rattle.class_disk.proofs.Common.{IsDistinct, cases_Bool, nat_tests, IsPermutation-refl, IsPermutation-sym, IsPermutation-trans, IsPermutation-middle, IsPermutation-append, IsPermutation-append_right, IsPermutation-map, All-permutation, Contains-permutation, All-nil, All-cons, All-head, All-tail, All-append, All-weaker, filter-append, OpenRequest, Piece, State, IsSame, Rules, ClientRequest, AreDistinct, request_number, requests_in_order, none_there, IsPermutation-uncons, distinct_first, open_under, is_owned_by, part_of, divided_of, shown_state}
use Rattle.std.proofs.lemmas.List.{append-nil}
use Rattle.class_disk.proofs.Coupled.{pieces-append}
use Rattle.class_disk.proofs.CoupledSteps.{divided_with, request_first}
use Rattle.class_disk.specs.inside.Joint.{Part, Below, Here, Known, Divided, Joint, note_of, known_of, gathered, requests_of, pieces_of, lifted_pieces, lifted, parts_requests, parts_pieces, parts_marks, parts_busy, parts_lifted, requests_below, pieces_below, pieces_above, shown, shown_mark, below, above}
use Rattle.class_disk.specs.inside.Invariant.{IsOwnedBy, AreParts, IsMadeUp, Keeps}
use Rattle.class_disk.proofs.Focus.{gathered_first}
use Rattle.class_disk.proofs.CoupledRun.{one_request}
use Rattle.class_disk.proofs.Standing.{split_there}
use Rattle.class_disk.proofs.AnyOrder.{second_first}

-- A FILTER AND AN ORDER

filter_first : {X : Type 0} (p : X → Bool) (x : X) (xs : List X) → filter p (x ∷ xs) ≡ filter p (x ∷ []) ++ filter p xs
filter_first p x xs = filter-append p (x ∷ []) xs

filter_middle : {X : Type 0} (p : X → Bool) (x : X) (front back : List X) → IsPermutation (filter p (front ++ (x ∷ back))) (filter p (x ∷ []) ++ filter p (front ++ back))
filter_middle p x front back =
    let a : filter p (front ++ (x ∷ back)) ≡ filter p front ++ (filter p (x ∷ []) ++ filter p back) = filter-append p front (x ∷ back) ∙ ap (λ zs. filter p front ++ zs) (filter_first p x back) in
    let b : filter p (x ∷ []) ++ filter p (front ++ back) ≡ filter p (x ∷ []) ++ (filter p front ++ filter p back) = ap (λ zs. filter p (x ∷ []) ++ zs) (filter-append p front back) in
    rw (a, b) (second_first (filter p front) (filter p (x ∷ [])) (filter p back))

pub IsPermutation-filter : {X : Type 0} (p : X → Bool) (xs ys : List X) → IsPermutation xs ys → IsPermutation (filter p xs) (filter p ys)
IsPermutation-filter p [] ys h = subst (λ zs. IsPermutation [] (filter p zs)) (sym (none_there [] ys refl h)) (IsPermutation-refl [])
IsPermutation-filter p (x ∷ xs) ys h =
    let c = split_there x ys (Contains-permutation _ _ x h (0, omega arith, refl)) in
    let q : IsPermutation xs (c.0 ++ c.1) = IsPermutation-uncons x _ _ (IsPermutation-trans _ _ _ (subst (IsPermutation (x ∷ xs)) c.2 h) (IsPermutation-middle c.0 x c.1)) in
    let r : IsPermutation (filter p xs) (filter p (c.0 ++ c.1)) = IsPermutation-filter p xs (c.0 ++ c.1) q in
    subst (λ zs. IsPermutation (filter p (x ∷ xs)) (filter p zs)) (sym c.2)
    (subst (λ zs. IsPermutation zs (filter p (c.0 ++ (x ∷ c.1)))) (sym (filter_first p x xs))
    (IsPermutation-trans _ _ _ (IsPermutation-append_right (filter p (x ∷ [])) _ _ r) (IsPermutation-sym _ _ (filter_middle p x c.0 c.1))))

left : {X : Type 0} (P : X → Type 0) (xs ys : List X) → All P (xs ++ ys) → All P xs
left P [] ys h = All-nil P
left P (x ∷ xs) ys h = All-cons P x xs (All-head P x (xs ++ ys) h) (left P xs ys (All-tail P x (xs ++ ys) h))

right : {X : Type 0} (P : X → Type 0) (xs ys : List X) → All P (xs ++ ys) → All P ys
right P [] ys h = h
right P (x ∷ xs) ys h = right P xs ys (All-tail P x (xs ++ ys) h)

-- THE PIECES OF ONE OWNER

none_owned : (n : ℕ) (ps : List Piece) → All (λ p. p.owner ≢ n) ps → filter (is_owned_by n) ps ≡ []
none_owned n [] h = refl
none_owned n (p ∷ ps) h =
    let other : is_owned_by n p ≡ false = let d : p.owner ≢ n = All-head (λ p. p.owner ≢ n) p ps h in grind (arith, nat_tests) in
    rw other (none_owned n ps (All-tail (λ p. p.owner ≢ n) p ps h))

all_owned : (n : ℕ) (ps : List Piece) → All (IsOwnedBy n) ps → filter (is_owned_by n) ps ≡ ps
all_owned n [] h = refl
all_owned n (p ∷ ps) h =
    let own : is_owned_by n p ≡ true = let d : p.owner ≡ n = All-head (IsOwnedBy n) p ps h in grind (arith, nat_tests) in
    rw own (ap (λ zs. p ∷ zs) (all_owned n ps (All-tail (IsOwnedBy n) p ps h)))

-- the pieces of a part are its own
abbrev pub HasOwn : Part → Type 0
HasOwn (Below o again ps) = All (IsOwnedBy o.number) ps
HasOwn (Here marks busy) = Unit {0}

have_own : (rules : Rules) (q : ClientRequest) (first : ℕ) (parts : List Part) → AreParts rules q first parts → All HasOwn parts
have_own rules q first [] h = All-nil HasOwn
have_own rules q first (Below o again ps ∷ parts) h = All-cons HasOwn (Below o again ps) parts h.1 (have_own rules q (first + length o.marks) parts h.2)
have_own rules q first (Here marks busy ∷ parts) h = All-cons HasOwn (Here marks busy) parts tt (have_own rules q (first + length marks) parts h)

others_owned : (n : ℕ) (parts : List Part) → All HasOwn parts → All (λ x. x.number ≢ n) (parts_requests parts) → All (λ p. p.owner ≢ n) (parts_pieces parts)
others_owned n [] h other = All-nil (λ p. p.owner ≢ n)
others_owned n (Below o again ps ∷ parts) h other =
    let this : o.number ≢ n = All-head (λ x. x.number ≢ n) o (parts_requests parts) other in
    All-append (λ p. p.owner ≢ n) ps (parts_pieces parts)
    (All-weaker (IsOwnedBy o.number) (λ p. p.owner ≢ n) (λ p is e. this (sym is ∙ e)) ps (All-head HasOwn (Below o again ps) parts h))
    (others_owned n parts (All-tail HasOwn (Below o again ps) parts h) (All-tail (λ x. x.number ≢ n) o (parts_requests parts) other))
others_owned n (Here marks busy ∷ parts) h other = others_owned n parts (All-tail HasOwn (Here marks busy) parts h) other

abbrev OwnParts : Divided → Type 0
OwnParts e = All HasOwn e.parts

others_below : (n : ℕ) (es : List Divided) → All OwnParts es → All (λ x. x.number ≢ n) (requests_below es) → All (λ p. p.owner ≢ n) (pieces_below es)
others_below n [] h other = All-nil (λ p. p.owner ≢ n)
others_below n (e ∷ es) h other =
    All-append (λ p. p.owner ≢ n) (parts_pieces e.parts) (pieces_below es)
    (others_owned n e.parts (All-head OwnParts e es h) (left (λ x. x.number ≢ n) (parts_requests e.parts) (requests_below es) other))
    (others_below n es (All-tail OwnParts e es h) (right (λ x. x.number ≢ n) (parts_requests e.parts) (requests_below es) other))

-- a part in front of all others has just the pieces of its number
part_read : (e : Divided) (es : List Divided) (front back : List Part) (o : OpenRequest) (again : ℕ) (ps : List Piece) → All OwnParts (divided_with e front back o again ps ∷ es) → IsDistinct eqb (map request_number (requests_below (divided_with e front back o again ps ∷ es)))
    → IsPermutation (filter (is_owned_by o.number) (pieces_below (divided_with e front back o again ps ∷ es))) ps
part_read e es front back o again ps own distinct =
    let n : ℕ = o.number in
    let p : Piece → Bool = is_owned_by n in
    let m : Divided = divided_with e front back o again ps in
    let others : All (λ x. x.number ≢ n) ((parts_requests front ++ parts_requests back) ++ requests_below es) = distinct_first request_number _ o _ distinct (request_first e es front back o again ps) in
    let own_m : All HasOwn (front ++ (Below o again ps ∷ back)) = All-head OwnParts m es own in
    let own_back : All HasOwn (Below o again ps ∷ back) = right HasOwn front (Below o again ps ∷ back) own_m in
    let near : All (λ x. x.number ≢ n) (parts_requests front ++ parts_requests back) = left (λ x. x.number ≢ n) _ (requests_below es) others in
    let a : filter p (parts_pieces front) ≡ [] = none_owned n _ (others_owned n front (left HasOwn front _ own_m) (left (λ x. x.number ≢ n) _ (parts_requests back) near)) in
    let b : filter p (parts_pieces back) ≡ [] = none_owned n _ (others_owned n back (All-tail HasOwn (Below o again ps) back own_back) (right (λ x. x.number ≢ n) (parts_requests front) _ near)) in
    let c : filter p (pieces_below es) ≡ [] = none_owned n _ (others_below n es (All-tail OwnParts m es own) (right (λ x. x.number ≢ n) _ (requests_below es) others)) in
    let d : filter p ps ≡ ps = all_owned n ps (All-head HasOwn (Below o again ps) back own_back) in
    let whole : filter p (pieces_below (m ∷ es)) ≡ ps =
    ap (λ zs. filter p (zs ++ pieces_below es)) (pieces-append front (Below o again ps ∷ back))
    ∙ filter-append p (parts_pieces front ++ (ps ++ parts_pieces back)) (pieces_below es)
    ∙ ap (λ zs. zs ++ filter p (pieces_below es)) (filter-append p (parts_pieces front) (ps ++ parts_pieces back) ∙ ap (λ zs. filter p (parts_pieces front) ++ zs) (filter-append p ps (parts_pieces back)))
    ∙ rw (a, b, c, d) (append-nil (ps ++ []) ∙ append-nil ps) in
    subst (λ zs. IsPermutation zs ps) (sym whole) (IsPermutation-refl ps)

-- THE REQUEST OF ONE NUMBER

found_under : (number : ℕ) (os : List OpenRequest) (o : OpenRequest) → Contains os o → o.number ≡ number → Contains os (open_under number os) × ((open_under number os).number ≡ number)
found_under number [] o (k, low, is) same = absurd (omega arith)
found_under number (x ∷ os) o c same = by (λ later. found_under number os o later same) (cases_Bool (x.number == number)) c
  where
    by : (Contains os o → Contains os (open_under number os) × ((open_under number os).number ≡ number)) → (x.number == number ≡ true) ⊎ (x.number == number ≡ false) → Contains (x ∷ os) o
        → Contains (x ∷ os) (open_under number (x ∷ os)) × ((open_under number (x ∷ os)).number ≡ number)
    by rest (inl this) c = let e : x.number ≡ number = grind (arith, nat_tests) in rw this ((0, omega arith, refl), e)
    by rest (inr other) (zero, low, is) = let n : x.number ≢ number = grind (arith, nat_tests) in absurd (n (ap request_number is ∙ same))
    by rest (inr other) (suc k, low, is) =
        let r = rest (k, omega arith, is) in
        rw other ((suc r.0.0, let w = r.0.1 in omega arith, r.0.2), r.1)

pub open_is : (s : State) (o : OpenRequest) → AreDistinct s → Contains s.requests o → open_under o.number s.requests ≡ o
open_is s o d c = let f = found_under o.number s.requests o c refl in one_request s (open_under o.number s.requests) o d f.0 c f.1

-- EACH PART READ

-- the machine below has just this of a part
abbrev IsRead : State → Part → Type 0
IsRead s (Below o again ps) = (open_under o.number s.requests ≡ o) × IsPermutation (filter (is_owned_by o.number) s.pieces) ps
IsRead s (Here marks busy) = Unit {0}

marks_read : (s : State) (parts : List Part) → All (IsRead s) parts → parts_marks (map (part_of s) (map note_of parts)) ≡ parts_marks parts
marks_read s [] h = refl
marks_read s (Below o again ps ∷ parts) h =
    let r = All-head (IsRead s) (Below o again ps) parts h in
    ap (λ x. map (shown_mark again) x.marks ++ parts_marks (map (part_of s) (map note_of parts))) r.0
    ∙ ap (λ zs. map (shown_mark again) o.marks ++ zs) (marks_read s parts (All-tail (IsRead s) (Below o again ps) parts h))
marks_read s (Here marks busy ∷ parts) h = ap (λ zs. marks ++ zs) (marks_read s parts (All-tail (IsRead s) (Here marks busy) parts h))

busy_read : (s : State) (parts : List Part) → All (IsRead s) parts → parts_busy (map (part_of s) (map note_of parts)) ≡ parts_busy parts
busy_read s [] h = refl
busy_read s (Below o again ps ∷ parts) h =
    let r = All-head (IsRead s) (Below o again ps) parts h in
    ap (λ x. (again + x.busy_returns) + parts_busy (map (part_of s) (map note_of parts))) r.0
    ∙ ap (λ n. (again + o.busy_returns) + n) (busy_read s parts (All-tail (IsRead s) (Below o again ps) parts h))
busy_read s (Here marks busy ∷ parts) h = ap (λ n. busy + n) (busy_read s parts (All-tail (IsRead s) (Here marks busy) parts h))

lifted_read : (s : State) (owner first : ℕ) (parts : List Part) → All (IsRead s) parts → IsPermutation (parts_lifted owner first (map (part_of s) (map note_of parts))) (parts_lifted owner first parts)
lifted_read s owner first [] h = IsPermutation-refl []
lifted_read s owner first (Below o again ps ∷ parts) h =
    let r = All-head (IsRead s) (Below o again ps) parts h in
    let rest = lifted_read s owner (first + length o.marks) parts (All-tail (IsRead s) (Below o again ps) parts h) in
    subst (λ x. IsPermutation (map (lifted owner first) (filter (is_owned_by o.number) s.pieces) ++ parts_lifted owner (first + length x.marks) (map (part_of s) (map note_of parts))) (parts_lifted owner first (Below o again ps ∷ parts))) (sym r.0)
    (IsPermutation-append _ _ _ _ (IsPermutation-map (lifted owner first) _ _ r.1) rest)
lifted_read s owner first (Here marks busy ∷ parts) h = lifted_read s owner (first + length marks) parts (All-tail (IsRead s) (Here marks busy) parts h)

shown_read : (s : State) (e : Divided) → All (IsRead s) e.parts → shown (divided_of s (known_of e)) ≡ shown e
shown_read s e h =
    ap (λ m. record (shown (divided_of s (known_of e))) { marks = m }) (marks_read s e.parts h)
    ∙ ap (λ n. record (shown e) { busy_returns = n }) (busy_read s e.parts h)

abbrev IsReadIn : State → Divided → Type 0
IsReadIn s e = All (IsRead s) e.parts

shown_all : (s : State) (es : List Divided) → All (IsReadIn s) es → map shown (map (divided_of s) (map known_of es)) ≡ map shown es
shown_all s [] h = refl
shown_all s (e ∷ es) h =
    ap (λ o. o ∷ map shown (map (divided_of s) (map known_of es))) (shown_read s e (All-head (IsReadIn s) e es h))
    ∙ ap (λ os. shown e ∷ os) (shown_all s es (All-tail (IsReadIn s) e es h))

lifted_all : (s : State) (es : List Divided) → All (IsReadIn s) es → IsPermutation (pieces_above (map (divided_of s) (map known_of es))) (pieces_above es)
lifted_all s [] h = IsPermutation-refl []
lifted_all s (e ∷ es) h = IsPermutation-append _ _ _ _ (lifted_read s e.number 0 e.parts (All-head (IsReadIn s) e es h)) (lifted_all s es (All-tail (IsReadIn s) e es h))

module _ (s : State) (distinct : AreDistinct s) (divided : List Divided) (own : All OwnParts divided) (requests : IsPermutation (requests_below divided) s.requests) (pieces : IsPermutation (pieces_below divided) s.pieces) where
  part_is_read : (before after : List Divided) (e : Divided) (front back : List Part) (o : OpenRequest) (again : ℕ) (ps : List Piece) → divided ≡ before ++ (divided_with e front back o again ps ∷ after) → IsRead s (Below o again ps)
  part_is_read before after e front back o again ps is =
      let m : Divided = divided_with e front back o again ps in
      let first : List Divided = m ∷ (before ++ after) in
      let to_first : IsPermutation divided first = subst (λ ms. IsPermutation ms first) (sym is) (IsPermutation-middle before m after) in
      let here : IsPermutation (requests_below first) s.requests =
      IsPermutation-trans _ _ _ (IsPermutation-sym _ _ (subst (λ ms. IsPermutation (requests_below ms) (requests_below first)) (sym is) (gathered_first requests_of before m after))) requests in
      let all_pieces : IsPermutation s.pieces (pieces_below first) =
      IsPermutation-trans _ _ _ (IsPermutation-sym _ _ pieces) (subst (λ ms. IsPermutation (pieces_below ms) (pieces_below first)) (sym is) (gathered_first pieces_of before m after)) in
      let there : Contains s.requests o = Contains-permutation _ _ o (IsPermutation-trans _ _ _ (IsPermutation-sym _ _ (request_first e (before ++ after) front back o again ps)) here) (0, omega arith, refl) in
      let numbers : IsDistinct eqb (map request_number (requests_below first)) = requests_in_order _ _ (IsPermutation-sym _ _ here) distinct.requests in (
        open_is s o distinct there,
        IsPermutation-trans _ _ _ (IsPermutation-filter (is_owned_by o.number) _ _ all_pieces)
            (part_read e (before ++ after) front back o again ps (All-permutation OwnParts _ _ to_first own) numbers),
      )

  parts_are_read : (before after : List Divided) (e : Divided) (front back : List Part) → divided ≡ before ++ (record e { parts = front ++ back } ∷ after) → All (IsRead s) back
  parts_are_read before after e front [] is = All-nil (IsRead s)
  parts_are_read before after e front (Below o again ps ∷ back) is =
      All-cons (IsRead s) (Below o again ps) back (part_is_read before after e front back o again ps is)
      (parts_are_read before after e (front ++ (Below o again ps ∷ [])) back (is ∙ ap (λ parts. before ++ (record e { parts = parts } ∷ after)) (sym (append_assoc front (Below o again ps ∷ []) back))))
  parts_are_read before after e front (Here marks busy ∷ back) is =
      All-cons (IsRead s) (Here marks busy) back tt
      (parts_are_read before after e (front ++ (Here marks busy ∷ [])) back (is ∙ ap (λ parts. before ++ (record e { parts = parts } ∷ after)) (sym (append_assoc front (Here marks busy ∷ []) back))))

  all_are_read : (before after : List Divided) → divided ≡ before ++ after → All (IsReadIn s) after
  all_are_read before [] is = All-nil (IsReadIn s)
  all_are_read before (e ∷ after) is =
      All-cons (IsReadIn s) e after (parts_are_read before after e [] e.parts is)
      (all_are_read (before ++ (e ∷ [])) after (is ∙ sym (append_assoc before (e ∷ []) after)))

pub gathered-permutation : {X : Type 0} (of : Divided → List X) (es fs : List Divided) → IsPermutation es fs → IsPermutation (gathered of es) (gathered of fs)
gathered-permutation of [] fs h = subst (λ zs. IsPermutation [] (gathered of zs)) (sym (none_there [] fs refl h)) (IsPermutation-refl [])
gathered-permutation of (e ∷ es) fs h =
    let c = split_there e fs (Contains-permutation _ _ e h (0, omega arith, refl)) in
    let q : IsPermutation es (c.0 ++ c.1) = IsPermutation-uncons e _ _ (IsPermutation-trans _ _ _ (subst (IsPermutation (e ∷ es)) c.2 h) (IsPermutation-middle c.0 e c.1)) in
    let r : IsPermutation (gathered of es) (gathered of (c.0 ++ c.1)) = gathered-permutation of es (c.0 ++ c.1) q in
    subst (λ zs. IsPermutation (gathered of (e ∷ es)) (gathered of zs)) (sym c.2)
    (IsPermutation-trans _ _ _ (IsPermutation-append_right (of e) _ _ r) (IsPermutation-sym _ _ (gathered_first of c.0 e c.1)))

-- THE SHOWN MACHINE IS THE ONE COUPLED

pub shown_is : (rules : Rules) (j : Joint) (s : State) (transfers : List Known) → IsSame (below j) s → AreDistinct s → Keeps rules j → IsPermutation (map known_of j.divided) transfers
    → IsSame (above j) (shown_state s j.next_above transfers)
shown_is rules j s transfers same distinct k ts =
    let own : All OwnParts j.divided = All-weaker (IsMadeUp rules) OwnParts (λ e h. have_own rules e.request 0 e.parts h) j.divided k.made_up in
    let read : All (IsReadIn s) j.divided = all_are_read s distinct j.divided own same.requests same.pieces [] j.divided refl in
    record {
      arrays = same.arrays;
      next_request = refl;
      next_piece = same.next_piece;
      requests = subst (λ os. IsPermutation os (map shown (map (divided_of s) transfers))) (shown_all s j.divided read) (IsPermutation-map shown _ _ (IsPermutation-map (divided_of s) _ _ ts));
      pieces = IsPermutation-trans _ _ _ (IsPermutation-sym _ _ (lifted_all s j.divided read)) (gathered-permutation lifted_pieces _ _ (IsPermutation-map (divided_of s) _ _ ts));
      owed = refl;
      paused = refl;
      removing = same.removing;
      removed = refl;
    }
