-- The open requests in another order: the rooms that they keep, the slots of the ended ones, and the restarts that are left.
use Rattle.class_disk.proofs.Common.{Ticket, length-replicate, IsPermutation-refl, IsPermutation-sym, IsPermutation-trans, IsPermutation-middle, IsPermutation-append_left, IsPermutation-append_right, IsPermutation-append_comm, Contains-permutation, length_permutation, none_there, IsPermutation-uncons, tickets_held, tickets_open}
use Rattle.std.proofs.Common.{◌≡◌, ℕ, ◌-◌, ◌==◌, Bool, true, false, List, [], ◌∷◌, ◌++◌, refl, sym, ◌∙◌, ap, subst, arith, length, replicate, length-append, append_assoc}
use Rattle.std.specs.Prelude.{IsPermutation, if◌then◌else◌}
use Rattle.class_disk.specs.inside.Parts.{tickets_of}
use Rattle.class_disk.specs.inside.TableView.{Opened, ClosedSlot, ended_in, restarts_left}
use Rattle.class_disk.proofs.Standing.{split_there}

-- LISTS PUT TOGETHER, IN ANY ORDER

abbrev flat : {X Y : Type 0} → (X → List Y) → List X → List Y
flat f [] = []
flat f (x ∷ xs) = f x ++ flat f xs

pub second_first : {X : Type 0} (xs ys zs : List X) → IsPermutation (xs ++ (ys ++ zs)) (ys ++ (xs ++ zs))
second_first xs ys zs =
    subst (λ ws. IsPermutation ws (ys ++ (xs ++ zs))) (append_assoc xs ys zs)
    (subst (λ ws. IsPermutation ((xs ++ ys) ++ zs) ws) (append_assoc ys xs zs) (IsPermutation-append_left zs _ _ (IsPermutation-append_comm xs ys)))

flat_middle : {X Y : Type 0} (f : X → List Y) (front : List X) (x : X) (back : List X) → IsPermutation (flat f (front ++ (x ∷ back)))
    (f x ++ flat f (front ++ back))
flat_middle f [] x back = IsPermutation-refl _
flat_middle f (y ∷ front) x back =
    IsPermutation-trans _ _ _ (IsPermutation-append_right (f y) _ _ (flat_middle f front x back)) (second_first (f y) (f x) (flat f (front ++ back)))

flat_same : {X Y : Type 0} (f : X → List Y) (xs ys : List X) → IsPermutation xs ys → IsPermutation (flat f xs) (flat f ys)
flat_same f [] ys h = subst (λ zs. IsPermutation [] (flat f zs)) (sym (none_there [] ys refl h)) (IsPermutation-refl [])
flat_same f (x ∷ xs) ys h =
    let c = split_there x ys (Contains-permutation _ _ x h (0, omega arith, refl)) in
    let q : IsPermutation xs (c.0 ++ c.1) = IsPermutation-uncons x _ _
    (IsPermutation-trans _ _ _ (subst (IsPermutation (x ∷ xs)) c.2 h) (IsPermutation-middle c.0 x c.1)) in
    subst (λ zs. IsPermutation (flat f (x ∷ xs)) (flat f zs)) (sym c.2)
    (IsPermutation-trans _ _ _ (IsPermutation-append_right (f x) _ _ (flat_same f xs (c.0 ++ c.1) q))
    (IsPermutation-sym _ _ (flat_middle f c.0 x c.1)))

abbrev own_rooms : Opened → List Ticket
own_rooms o = tickets_of o.parts

rooms_flat : (os : List Opened) → tickets_open os ≡ flat own_rooms os
rooms_flat [] = refl
rooms_flat (o ∷ os) = ap (λ zs. tickets_of o.parts ++ zs) (rooms_flat os)

abbrev held_rooms : ClosedSlot → List Ticket
held_rooms held = tickets_of held.parts

held_flat : (hs : List ClosedSlot) → tickets_held hs ≡ flat held_rooms hs
held_flat [] = refl
held_flat (x ∷ hs) = ap (λ zs. tickets_of x.parts ++ zs) (held_flat hs)

-- those of slots with no packet, in another order
pub held_same : (xs ys : List ClosedSlot) → IsPermutation xs ys → IsPermutation (tickets_held xs) (tickets_held ys)
held_same xs ys h = subst (λ zs. IsPermutation zs (tickets_held ys)) (sym (held_flat xs))
    (subst (λ zs. IsPermutation (flat held_rooms xs) zs) (sym (held_flat ys)) (flat_same held_rooms xs ys h))

abbrev slot_if_ended : ℕ × Opened → List ℕ
slot_if_ended x = if x.1.unfinished == 0 then x.0 ∷ [] else []

ended_flat : (es : List (ℕ × Opened)) → ended_in es ≡ flat slot_if_ended es
ended_flat [] = refl
ended_flat (x ∷ es) = by (x.1.unfinished == 0) (ended_flat es)
  where
    by : (over : Bool) → ended_in es ≡ flat slot_if_ended es → (if over then x.0 ∷ ended_in es else ended_in es) ≡
        (if over then x.0 ∷ [] else []) ++ flat slot_if_ended es
    by true h = ap (λ zs. x.0 ∷ zs) h
    by false h = h

abbrev left_as_list : ℕ × Opened → List ℕ
left_as_list x = replicate (16 - x.1.restarts) 0

left_flat : (es : List (ℕ × Opened)) → restarts_left es ≡ length (flat left_as_list es)
left_flat [] = refl
left_flat (x ∷ es) =
    let a = left_flat es in
    let b = length-append (left_as_list x) (flat left_as_list es) in
    let c = length-replicate {A = ℕ} (16 - x.1.restarts) 0 in
    omega (arith, a, b, c)

-- the open requests in another order
pub rooms_same : (xs ys : List Opened) → IsPermutation xs ys → IsPermutation (tickets_open xs) (tickets_open ys)
rooms_same xs ys h = subst (λ zs. IsPermutation zs (tickets_open ys)) (sym (rooms_flat xs))
    (subst (λ zs. IsPermutation (flat own_rooms xs) zs) (sym (rooms_flat ys)) (flat_same own_rooms xs ys h))

pub ended_same : (xs ys : List (ℕ × Opened)) → IsPermutation xs ys → IsPermutation (ended_in xs) (ended_in ys)
ended_same xs ys h = subst (λ zs. IsPermutation zs (ended_in ys)) (sym (ended_flat xs))
    (subst (λ zs. IsPermutation (flat slot_if_ended xs) zs) (sym (ended_flat ys)) (flat_same slot_if_ended xs ys h))

pub left_same : (xs ys : List (ℕ × Opened)) → IsPermutation xs ys → restarts_left xs ≡ restarts_left ys
left_same xs ys h = left_flat xs ∙ sym (length_permutation _ _ (flat_same left_as_list xs ys h)) ∙ sym (left_flat ys)
