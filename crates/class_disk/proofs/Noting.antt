-- A part has ended, in the table: what stays, and what the class driver keeps of it.
use Rattle.std.proofs.Common.{◌≡◌, ℕ, ◌+◌, ◌==◌, Bool, true, false, List, [], ◌∷◌, ◌++◌, refl, sym, ◌∙◌, ap, subst, arith, map, length, append_assoc}
use Rattle.std.specs.Prelude.{slice_set, IsPermutation, if◌then◌else◌}
use Rattle.class_disk.proofs.Common.{map-append, IsPermutation-sym, IsPermutation-trans, IsPermutation-middle, IsPermutation-append_left, IsPermutation-append_right, Ticket, PartId, ended_part, ended_at, ended_books, tickets_open}
use Rattle.class_disk.specs.declared.parts.Part.{Part}
use Rattle.class_disk.specs.declared.parts.Ended.{Ended}
use Rattle.class_disk.specs.declared.parts.Progress.TheVariants.{Below}
use Rattle.class_disk.specs.inside.Parts.{ticket_for, tickets_of, ticket_by, unfinished_of}
use Rattle.class_disk.specs.inside.TableView.{Opened, TableView, opened, all_open, ended_in, restarts_left}
use Rattle.class_disk.specs.inside.Owners.{IsOwnedBy, AreOwnedFrom}
use Rattle.class_disk.proofs.Standing.{StandsIn, is_put, set_there}

-- sums over lists of parts and of open requests
pub unfinished-append : (xs ys : List Part) → unfinished_of (xs ++ ys) ≡ unfinished_of xs + unfinished_of ys
unfinished-append [] ys = omega arith
unfinished-append (x ∷ xs) ys = let e = unfinished-append xs ys in omega arith

pub tickets_of-append : (xs ys : List Part) → tickets_of (xs ++ ys) ≡ tickets_of xs ++ tickets_of ys
tickets_of-append [] ys = refl
tickets_of-append (x ∷ xs) ys = ap (λ zs. ticket_by x.request x.progress ++ zs) (tickets_of-append xs ys) ∙ sym (append_assoc (ticket_by x.request x.progress) (tickets_of xs) (tickets_of ys))

pub tickets_open-append : (xs ys : List Opened) → tickets_open (xs ++ ys) ≡ tickets_open xs ++ tickets_open ys
tickets_open-append [] ys = refl
tickets_open-append (x ∷ xs) ys = ap (λ zs. tickets_of x.parts ++ zs) (tickets_open-append xs ys) ∙ sym (append_assoc (tickets_of x.parts) (tickets_open xs) (tickets_open ys))

pub left-append : (xs ys : List (ℕ × Opened)) → restarts_left (xs ++ ys) ≡ restarts_left xs + restarts_left ys
left-append [] ys = omega arith
left-append (x ∷ xs) ys = let e = left-append xs ys in omega arith

pub ended-append : (xs ys : List (ℕ × Opened)) → ended_in (xs ++ ys) ≡ ended_in xs ++ ended_in ys
ended-append [] ys = refl
ended-append (x ∷ xs) ys = by (x.1.unfinished == 0) (ended-append xs ys)
  where
    by : (t : Bool) → ended_in (xs ++ ys) ≡ ended_in xs ++ ended_in ys → (if t then x.0 ∷ ended_in (xs ++ ys) else ended_in (xs ++ ys)) ≡ (if t then x.0 ∷ ended_in xs else ended_in xs) ++ ended_in ys
    by true e = ap (λ zs. x.0 ∷ zs) e
    by false e = e

-- the part at a place
pub owned_at : (owners : List PartId) (slot first : ℕ) (front : List Part) (part : Part) (back : List Part) → AreOwnedFrom owners slot first (front ++ (part ∷ back)) → IsOwnedBy owners slot (first + length front) part.progress
owned_at owners slot first [] part back h = subst (λ n. IsOwnedBy owners slot n part.progress) (omega arith) h.0
owned_at owners slot first (x ∷ front) part back h = subst (λ n. IsOwnedBy owners slot n part.progress) (omega arith) (owned_at owners slot (first + 1) front part back h.1)

-- the open request in a slot, and its part at a place, which is below under this number
pub record PartStands (b : TableView) (slot k : ℕ) (o : Opened) (part : Part) (number spot : ℕ) : Type 0 where
  pub stands : StandsIn b.opens slot o
  pub front : List Part
  pub back : List Part
  pub parts_are : o.parts ≡ front ++ (part ∷ back)
  pub place : length front ≡ k
  pub is_below : part.progress ≡ Below number spot

module _ (b : TableView) (slot k : ℕ) (o : Opened) (part : Part) (number spot : ℕ) (s : PartStands b slot k o part number spot) (ended : Ended) where
  abbrev pub now : Opened
  now = ended_at k ended part o

  abbrev pub books_now : TableView
  books_now = ended_books slot now b

  pub parts_now : now.parts ≡ s.front ++ (ended_part ended part ∷ s.back)
  parts_now = ap (λ ps. slice_set ps k (ended_part ended part)) s.parts_are ∙ ap (λ n. slice_set (s.front ++ (part ∷ s.back)) n (ended_part ended part)) (sym s.place) ∙ set_there s.front part (ended_part ended part) s.back

  pub opens_now : books_now.opens ≡ s.stands.before ++ ((slot, now) ∷ s.stands.after)
  opens_now = is_put b.opens slot o s.stands now

  -- ROOMS: that of the part is here again
  pub rooms_now : IsPermutation (ticket_for part.request ended.packet ∷ tickets_open (all_open b)) (tickets_open (all_open books_now))
  rooms_now =
      let ticket : Ticket = ticket_for part.request ended.packet in
      let xs : List Opened = map opened s.stands.before in
      let ys : List Opened = map opened s.stands.after in
      let old : tickets_open (all_open b) ≡ tickets_open xs ++ (tickets_of o.parts ++ tickets_open ys) =
      ap (λ os. tickets_open (map opened os)) s.stands.opens_are ∙ ap tickets_open (map-append opened s.stands.before ((slot, o) ∷ s.stands.after)) ∙ tickets_open-append xs (o ∷ ys) in
      let new : tickets_open (all_open books_now) ≡ tickets_open xs ++ (tickets_of now.parts ++ tickets_open ys) =
      ap (λ os. tickets_open (map opened os)) opens_now ∙ ap tickets_open (map-append opened s.stands.before ((slot, now) ∷ s.stands.after)) ∙ tickets_open-append xs (now ∷ ys) in
      let o_old : tickets_of o.parts ≡ tickets_of s.front ++ tickets_of s.back = ap tickets_of s.parts_are ∙ tickets_of-append s.front (part ∷ s.back) ∙ ap (λ p. tickets_of s.front ++ (ticket_by part.request p ++ tickets_of s.back)) s.is_below in
      let o_new : tickets_of now.parts ≡ tickets_of s.front ++ (ticket ∷ tickets_of s.back) = ap tickets_of parts_now ∙ tickets_of-append s.front (ended_part ended part ∷ s.back) in
      let part_first : IsPermutation (ticket ∷ tickets_of o.parts) (tickets_of now.parts) =
      subst (λ zs. IsPermutation (ticket ∷ zs) (tickets_of now.parts)) (sym o_old) (subst (λ zs. IsPermutation (ticket ∷ (tickets_of s.front ++ tickets_of s.back)) zs) (sym o_new) (IsPermutation-sym _ _ (IsPermutation-middle (tickets_of s.front) ticket (tickets_of s.back)))) in
      subst (λ zs. IsPermutation (ticket ∷ zs) (tickets_open (all_open books_now))) (sym old)
      (subst (λ zs. IsPermutation (ticket ∷ (tickets_open xs ++ (tickets_of o.parts ++ tickets_open ys))) zs) (sym new)
      (IsPermutation-trans _ _ _ (IsPermutation-sym _ _ (IsPermutation-middle (tickets_open xs) ticket (tickets_of o.parts ++ tickets_open ys)))
      (IsPermutation-append_right (tickets_open xs) _ _ (IsPermutation-append_left (tickets_open ys) _ _ part_first))))
