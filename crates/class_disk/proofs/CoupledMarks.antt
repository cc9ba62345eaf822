-- The marks of a part among the marks of its request.
use Rattle.std.proofs.Common.{◌≡◌, ◌<◌, ◌≤◌, ◌⊎◌, inl, inr, ℕ, zero, suc, ◌+◌, ◌-◌, Bool, true, false, not, List, [], ◌∷◌, ◌++◌, refl, sym, ◌∙◌, ap, subst, arith, map, length, take, drop, get_or, length-drop, append_assoc}
use Rattle.std.specs.Prelude.{All, Any, Contains, slice_range, IsTrue}
use Rattle.class_disk.proofs.Common.{list_all, length-map, map-append, take-map, drop-map, get_or-map, take-append-le, drop-append-le, All-map, drop-append-add, splice, Extent, Kind, Read, Write, Flush, ClientRequest, Rules, first_sector, Mark, Untouched, Out, Done, Failed, Back, OpenRequest, Piece, HasTag, IsLowestFreeTag, command_for, is_untouched, IsUnsent, is_started, below_rules}
use Rattle.class_disk.specs.inside.Joint.{Part, Below, Here, Divided, shown_mark, lifted, parts_requests, parts_pieces, parts_marks, parts_lifted, shown, pieces_below, pieces_above, IsPartOf}

take-append-add : {X : Type 0} (xs ys : List X) (n : ℕ) → take (length xs + n) (xs ++ ys) ≡ xs ++ take n ys
take-append-add [] ys n = ap (λ k. take k ys) (omega arith)
take-append-add (x ∷ xs) ys n =
    let e : suc (length xs) + n ≡ suc (length xs + n) = omega arith in
    rw e (ap (λ zs. x ∷ zs) (take-append-add xs ys n))

-- a part of the middle replaced
pub splice_middle : {X : Type 0} (xs mid ys more : List X) (first : ℕ) → first + length more ≤ length mid
    → splice (xs ++ (mid ++ ys)) (length xs + first) more ≡ xs ++ (splice mid first more ++ ys)
splice_middle xs mid ys more first fits =
    let a : take (length xs + first) (xs ++ (mid ++ ys)) ≡ xs ++ take first mid = take-append-add xs (mid ++ ys) first ∙ ap (λ zs. xs ++ zs) (take-append-le first mid ys (omega arith)) in
    let n : length xs + first + length more ≡ length xs + (first + length more) = omega arith in
    let b : drop (length xs + first + length more) (xs ++ (mid ++ ys)) ≡ drop (first + length more) mid ++ ys =
    ap (λ k. drop k (xs ++ (mid ++ ys))) n ∙ drop-append-add xs (mid ++ ys) (first + length more) ∙ drop-append-le (first + length more) mid ys fits in
    ap (λ zs. zs ++ (more ++ drop (length xs + first + length more) (xs ++ (mid ++ ys)))) a
    ∙ ap (λ zs. (xs ++ take first mid) ++ (more ++ zs)) b
    ∙ simp append_assoc

pub range_middle : {X : Type 0} (xs mid ys : List X) (first count : ℕ) → first + count ≤ length mid
    → slice_range (xs ++ (mid ++ ys)) (length xs + first) (length xs + first + count) ≡ slice_range mid first (first + count)
range_middle xs mid ys first count fits =
    let n : length xs + first + count - (length xs + first) ≡ count = omega arith in
    let m : first + count - first ≡ count = omega arith in
    let a : drop (length xs + first) (xs ++ (mid ++ ys)) ≡ drop first mid ++ ys = drop-append-add xs (mid ++ ys) first ∙ drop-append-le first mid ys (omega arith) in
    let l : count ≤ length (drop first mid) = simp length-drop (omega arith) in
    ap (λ k. take k (drop (length xs + first) (xs ++ (mid ++ ys)))) n ∙ ap (λ zs. take count zs) a ∙ take-append-le count (drop first mid) ys l ∙ ap (λ k. take k (drop first mid)) (sym m)

pub map-splice : {X Y : Type 0} (f : X → Y) (xs : List X) (first : ℕ) (more : List X) → map f (splice xs first more) ≡ splice (map f xs) first (map f more)
map-splice f xs first more = simp (map-append, take-map, drop-map, length-map)

unsent_shown : (again : ℕ) (mark : Mark) → IsUnsent mark → IsUnsent (shown_mark again mark)
unsent_shown zero mark h = h
unsent_shown (suc n) Untouched h = refl
unsent_shown (suc n) Back h = refl
unsent_shown (suc n) Out h = h
unsent_shown (suc n) (Done sector) h = h
unsent_shown (suc n) (Failed status) h = h

pub all_unsent : (again : ℕ) (marks : List Mark) → All IsUnsent marks → All IsUnsent (map (shown_mark again) marks)
all_unsent again marks h = All-map IsUnsent (shown_mark again) marks (λ k d within. unsent_shown again (get_or marks k d) (h k d within))

-- A PART THAT IS STARTED MAKES ITS REQUEST STARTED

pub all_of_append : (xs ys : List Mark) → list_all is_untouched (xs ++ ys) ≡ true → (list_all is_untouched xs ≡ true) × (list_all is_untouched ys ≡ true)
all_of_append [] ys h = (refl, h)
all_of_append (Untouched ∷ xs) ys h = all_of_append xs ys h
all_of_append (Out ∷ xs) ys h = cc (h)
all_of_append (Done sector ∷ xs) ys h = cc (h)
all_of_append (Failed status ∷ xs) ys h = cc (h)
all_of_append (Back ∷ xs) ys h = cc (h)

untouched_below : (again : ℕ) (marks : List Mark) → list_all is_untouched (map (shown_mark again) marks) ≡ true → list_all is_untouched marks ≡ true
untouched_below zero [] h = refl
untouched_below zero (Untouched ∷ marks) h = untouched_below zero marks h
untouched_below zero (Out ∷ marks) h = cc (h)
untouched_below zero (Done sector ∷ marks) h = cc (h)
untouched_below zero (Failed status ∷ marks) h = cc (h)
untouched_below zero (Back ∷ marks) h = cc (h)
untouched_below (suc n) [] h = refl
untouched_below (suc n) (Untouched ∷ marks) h = cc (h)
untouched_below (suc n) (Out ∷ marks) h = cc (h)
untouched_below (suc n) (Done sector ∷ marks) h = cc (h)
untouched_below (suc n) (Failed status ∷ marks) h = cc (h)
untouched_below (suc n) (Back ∷ marks) h = cc (h)

Contains-cons : {X : Type 0} (x y : X) (xs : List X) → Contains (x ∷ xs) y → (x ≡ y) ⊎ Contains xs y
Contains-cons x y xs (zero, within, is) = inl is
Contains-cons x y xs (suc k, within, is) = inr (k, omega arith, is)

untouched_part : (parts : List Part) (part : OpenRequest) → Contains (parts_requests parts) part → list_all is_untouched (parts_marks parts) ≡ true → list_all is_untouched part.marks ≡ true
untouched_part [] part (k, within, is) h = absurd (omega arith)
untouched_part (Below o again pieces ∷ parts) part c h =
    let both = all_of_append (map (shown_mark again) o.marks) (parts_marks parts) h in
    elim (Contains-cons o part (parts_requests parts) c) [
      | inl e ↦ subst (λ z. list_all is_untouched z.marks ≡ true) e (untouched_below again o.marks both.0)
      | inr rest ↦ untouched_part parts part rest both.1
    ]
untouched_part (Here marks busy ∷ parts) part c h = untouched_part parts part c (all_of_append marks (parts_marks parts) h).1

not_not : (b c : Bool) → (c ≡ true → b ≡ true) → not b ≡ true → not c ≡ true
not_not b true f h = cc (f refl, h)
not_not b false f h = refl

pub started_part : (x : Divided) (part : OpenRequest) → Contains (parts_requests x.parts) part → IsTrue (is_started part) → IsTrue (is_started (shown x))
started_part x part c h = not_not (list_all is_untouched part.marks) (list_all is_untouched (parts_marks x.parts)) (untouched_part x.parts part c) h

-- THE COMMAND AND THE TAGS

pub same_command : (rules : Rules) (q : ClientRequest) (first : ℕ) (o : OpenRequest) (places : Extent) → IsPartOf rules q first o
    → command_for (below_rules rules) o.request places o.request.kind ≡ command_for rules q (record { first = first + places.first; count = places.count }) q.kind
same_command rules q first o places h = ap (λ kind. command_for (below_rules rules) o.request places kind) h.kind ∙ by_kind q.kind
  where
    n : first_sector rules o.request + places.first ≡ first_sector rules q + (first + places.first)
    n = let e = h.from in omega arith

    by_kind : (kind : Kind) → command_for (below_rules rules) o.request places kind ≡ command_for rules q (record { first = first + places.first; count = places.count }) kind
    by_kind Read = rw (h.partition, n, h.through) refl
    by_kind Write = rw (h.partition, n, h.through) refl
    by_kind Flush = refl

abbrev pub tag_of : Piece → ℕ
tag_of piece = piece.tag

-- what a lift leaves of each piece it leaves of all
module _ {X : Type 0} (f : Piece → X) (stays : (owner first : ℕ) (p : Piece) → f (lifted owner first p) ≡ f p) where
  of_parts : (owner first : ℕ) (parts : List Part) → map f (parts_lifted owner first parts) ≡ map f (parts_pieces parts)
  of_parts owner first [] = refl
  of_parts owner first (Below o again pieces ∷ parts) =
      map-append f (map (lifted owner first) pieces) (parts_lifted owner (first + length o.marks) parts)
      ∙ ap (λ zs. zs ++ map f (parts_lifted owner (first + length o.marks) parts)) (mine pieces)
      ∙ ap (λ zs. map f pieces ++ zs) (of_parts owner (first + length o.marks) parts)
      ∙ sym (map-append f pieces (parts_pieces parts))
    where
      mine : (ps : List Piece) → map f (map (lifted owner first) ps) ≡ map f ps
      mine [] = refl
      mine (p ∷ ps) = ap (λ x. x ∷ map f (map (lifted owner first) ps)) (stays owner first p) ∙ ap (λ zs. f p ∷ zs) (mine ps)
  of_parts owner first (Here marks busy ∷ parts) = of_parts owner (first + length marks) parts

  pub of_pieces : (es : List Divided) → map f (pieces_above es) ≡ map f (pieces_below es)
  of_pieces [] = refl
  of_pieces (e ∷ es) =
      map-append f (parts_lifted e.number 0 e.parts) (pieces_above es)
      ∙ ap (λ zs. zs ++ map f (pieces_above es)) (of_parts e.number 0 e.parts)
      ∙ ap (λ zs. map f (parts_pieces e.parts) ++ zs) (of_pieces es)
      ∙ sym (map-append f (parts_pieces e.parts) (pieces_below es))

pub same_tags : (es : List Divided) → map tag_of (pieces_above es) ≡ map tag_of (pieces_below es)
same_tags = of_pieces tag_of (λ owner first p. refl)

module _ (xs ys : List Piece) (same : map tag_of xs ≡ map tag_of ys) where
  long : length xs ≡ length ys
  long = sym (length-map xs tag_of) ∙ ap length same ∙ length-map ys tag_of

  at_tag : (k : ℕ) (d : Piece) → k < length ys → (get_or ys k d).tag ≡ (get_or xs k d).tag
  at_tag k d within =
      let w : k < length xs = let e = long in omega arith in
      sym (get_or-map tag_of ys k d 0 within) ∙ ap (λ zs. get_or zs k 0) (sym same) ∙ get_or-map tag_of xs k d 0 w

  pub IsLowestFreeTag-tags : (depth tag : ℕ) → IsLowestFreeTag depth xs tag → IsLowestFreeTag depth ys tag
  IsLowestFreeTag-tags depth tag h = record {
    within = h.within;
    free = λ k d within e. h.free k d (let l = long in omega arith) (sym (at_tag k d within) ∙ e);
    lowest = λ lower below. at_lower lower (h.lowest lower below);
  }
    where
      at_lower : (lower : ℕ) → Any (HasTag lower) xs → Any (HasTag lower) ys
      at_lower lower (k, d, within, is, has) =
          let w : k < length ys = let l = long in omega arith in
          (k, get_or ys k d, w, own ys k d w, at_tag k d w ∙ ap tag_of is ∙ has)
        where
          own : (zs : List Piece) (k : ℕ) (d : Piece) → k < length zs → get_or zs k (get_or zs k d) ≡ get_or zs k d
          own [] k d w = absurd (omega arith)
          own (z ∷ zs) zero d w = refl
          own (z ∷ zs) (suc k) d w = own zs k d (omega arith)
