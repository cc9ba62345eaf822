-- The slots of a desk's requests.
use Rattle.serving.proofs.Common.{◌≡◌, ℕ, zero, suc, List, [], ◌∷◌, ◌++◌, Option, Some, None, refl, sym, ap, subst, ◌∙◌, append_assoc, All, All-head, All-tail, IsPermutation, IsPermutation-append_comm, IsPermutation-append_left, IsPermutation-append_right, IsPermutation-trans, slice_get}
use Rattle.std.specs.Prelude.{slice_set}
use Rattle.std.proofs.lemmas.List.Elements.{All-set}
use Rattle.serving.specs.declared.dues.Due.{Due}
use Rattle.serving.specs.inside.Dues.{IsFree, due_places, place_in}

pub front_exchanged : (xs ys zs : List ℕ) → IsPermutation (xs ++ (ys ++ zs)) (ys ++ (xs ++ zs))
front_exchanged xs ys zs =
    subst (λ (l : List ℕ). IsPermutation (xs ++ (ys ++ zs)) l) (append_assoc ys xs zs)
    (subst (λ (l : List ℕ). IsPermutation l ((ys ++ xs) ++ zs)) (append_assoc xs ys zs) (IsPermutation-append_left zs (xs ++ ys) (ys ++ xs) (IsPermutation-append_comm xs ys)))

-- one slot in place of another
pub places_changed : (slots : List (Option Due)) (at : ℕ) (old new : Option Due) → slice_get slots at ≡ Some old → IsPermutation (place_in old ++ due_places (slice_set slots at new)) (place_in new ++ due_places slots)
places_changed [] at old new e = absurd (let k : ◌≡◌ {A = Option (Option Due)} None (Some old) = e in cc)
places_changed (slot ∷ slots) zero old new e =
    let same : slot ≡ old = (let k : ◌≡◌ {A = Option (Option Due)} (Some slot) (Some old) = e in cc) in
    subst (λ (s : Option Due). IsPermutation (place_in old ++ (place_in new ++ due_places slots)) (place_in new ++ (place_in s ++ due_places slots))) (sym same) (front_exchanged (place_in old) (place_in new) (due_places slots))
places_changed (slot ∷ slots) (suc at) old new e =
    IsPermutation-trans _ _ _ (front_exchanged (place_in old) (place_in slot) (due_places (slice_set slots at new)))
    (IsPermutation-trans _ _ _ (IsPermutation-append_right (place_in slot) (place_in old ++ due_places (slice_set slots at new)) (place_in new ++ due_places slots) (places_changed slots at old new e))
    (front_exchanged (place_in slot) (place_in new) (due_places slots)))

pub none_placed : (slots : List (Option Due)) → All IsFree slots → due_places slots ≡ []
none_placed [] all = refl
none_placed (slot ∷ slots) all =
    let free : slot ≡ None = All-head IsFree slot slots all in
    ap (λ (s : Option Due). place_in s ++ due_places slots) free ∙ none_placed slots (All-tail IsFree slot slots all)

pub slot_there : (P : Option Due → Type 0) (slots : List (Option Due)) (at : ℕ) (slot : Option Due) → slice_get slots at ≡ Some slot → All P slots → P slot
slot_there P [] at slot e all = absurd (let k : ◌≡◌ {A = Option (Option Due)} None (Some slot) = e in cc)
slot_there P (s ∷ slots) zero slot e all = subst P (let k : ◌≡◌ {A = Option (Option Due)} (Some s) (Some slot) = e in cc) (All-head P s slots all)
slot_there P (s ∷ slots) (suc at) slot e all = slot_there P slots at slot e (All-tail P s slots all)

pub slots_set : (P : Option Due → Type 0) (slots : List (Option Due)) (at : ℕ) (slot : Option Due) → P slot → All P slots → All P (slice_set slots at slot)
slots_set P slots at slot h all = All-set P slots at slot h all
