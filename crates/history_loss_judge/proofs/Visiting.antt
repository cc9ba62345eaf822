-- The sectors that a label is for.
use Rattle.std.proofs.Common.{◌≡◌, ◌<◌, ◌⊎◌, inl, inr, ℕ, zero, suc, ◌+◌, ◌==◌, ◌&&◌, Bool, true, false, List, [], ◌∷◌, ◌++◌, Option, Some, None, refl, sym, ◌∙◌, ap, subst, arith, eq-eqb, get_or, length, length-append, set, slice_get}
use Rattle.std.specs.Prelude.{Contains, nat_le, nat_lt, if◌then◌else◌}
use Rattle.std.specs.declared.cmp.Ordering.{Ordering}
use Rattle.std.specs.declared.cmp.Ordering.TheVariants.{Less, Equal, Greater}
use Rattle.std.specs.Ordering.{is_eq, nat_cmp}
use Rattle.std.specs.BTreeMap.{is_at}
use Rattle.std.specs.Map.{lookup}
use Rattle.std.proofs.lemmas.List.{length-set}
use Rattle.std.proofs.lemmas.Map.Lookups.{exact_unsigned}
use Rattle.std.proofs.lemmas.Bool.{cases_Bool, and_parts, eqb-true}
use Rattle.std.proofs.lemmas.Bool.Decides.{nat_tests}
use Rattle.std.proofs.lemmas.List.Elements.{Contains-append_left, Contains-push}
use Rattle.machine.specs.declared.Label.{Label}
use Rattle.machine.specs.Rules.{Rules}
use Rattle.history_loss_kept.specs.declared.Shared.{Shared}
use Rattle.history_loss_sector.specs.Seen.{SeenView}
use Rattle.history_loss_judge.specs.declared.cells.Cells.{Cells}
use Rattle.history_loss_judge.specs.declared.spans.Span.{Span}
use Rattle.history_loss_judge.specs.inside.Spans.{in_range}
use Rattle.history_loss_judge.specs.inside.Telling.{IsToldOf, behind_label}
use Rattle.history_loss_judge.specs.inside.Cells.{AreToldOf, HasCells, HasOneAt, IsCellOf, IsToldAt, cell_at, cell_by, index_at, kept_at, kept_in, nothing_seen, unseen}

-- NUMBERS

same_or : (a b : ℕ) → (a ≡ b) ⊎ (a ≡ b → ⊥)
same_or a b = grind arith

-- another number isn't found at this one
pub not_at : (n m : ℕ) → (m ≡ n → ⊥) → is_at (nat_cmp n) m ≡ false
not_at n m differ = by (nat_cmp n m) refl
  where
    by : (o : Ordering) → nat_cmp n m ≡ o → is_eq o ≡ false
    by Less e = refl
    by Greater e = refl
    by Equal e = absurd (differ (sym (exact_unsigned n m e)))

-- ALL SECTORS

pub no_cells : (start : ℕ) (cells : Cells) → cells.index.entries ≡ [] → HasCells start (nothing_seen start) cells
no_cells start cells none = record {
  cell = λ i. subst (IsCellOf start (unseen start)) (sym (ap (cell_by cells.cells.items) (nothing i))) refl;
  listed = λ i k found. absurd (cc (sym (nothing i) ∙ found));
  inside = λ i k found. absurd (cc (sym (nothing i) ∙ found));
  apart = λ i j k found other. absurd (cc (sym (nothing i) ∙ found));
}
  where
    nothing : (i : ℕ) → index_at cells.index i ≡ None
    nothing i = ap (lookup (is_at (nat_cmp i))) none

pub cells_alike : (start : ℕ) (f g : ℕ → SeenView) (cells : Cells) → ((i : ℕ) → f i ≡ g i) → HasCells start f cells → HasCells start g cells
cells_alike start f g cells same h = record {
  cell = λ i. subst (λ kept. IsCellOf start kept (cell_at cells i)) (same i) (h.cell i);
  listed = h.listed;
  inside = h.inside;
  apart = h.apart;
}

get_before : {X : Type 0} (xs ys : List X) (m : ℕ) → m < length xs → slice_get (xs ++ ys) m ≡ slice_get xs m
get_before [] ys m low = absurd (omega arith)
get_before (x ∷ xs) ys zero low = refl
get_before (x ∷ xs) ys (suc m) low = get_before xs ys m (omega arith)

get_last : {X : Type 0} (xs : List X) (x : X) → slice_get (xs ++ x ∷ []) (length xs) ≡ Some x
get_last [] x = refl
get_last (y ∷ xs) x = get_last xs x

get_here : {X : Type 0} (xs : List X) (n : ℕ) (x : X) → n < length xs → slice_get (set xs n x) n ≡ Some x
get_here [] n x low = absurd (omega arith)
get_here (y ∷ xs) zero x low = refl
get_here (y ∷ xs) (suc n) x low = get_here xs n x (omega arith)

get_other : {X : Type 0} (xs : List X) (n m : ℕ) (x : X) → (m ≡ n → ⊥) → slice_get (set xs n x) m ≡ slice_get xs m
get_other [] n m x differ = refl
get_other (y ∷ xs) zero zero x differ = absurd (differ refl)
get_other (y ∷ xs) zero (suc m) x differ = refl
get_other (y ∷ xs) (suc n) zero x differ = refl
get_other (y ∷ xs) (suc n) (suc m) x differ = get_other xs n m x (λ same. differ (ap suc same))

get_item : {X : Type 0} (xs : List X) (n : ℕ) (d : X) → n < length xs → slice_get xs n ≡ Some (get_or xs n d)
get_item [] n d low = absurd (omega arith)
get_item (x ∷ xs) zero d low = refl
get_item (x ∷ xs) (suc n) d low = get_item xs n d (omega arith)

-- a sector that was there is found
pub one_there : (start : ℕ) (kept : ℕ → SeenView) (sector : ℕ) (cells : Cells) (at : ℕ) → HasCells start kept cells → index_at cells.index sector ≡ Some at → HasOneAt start kept sector cells at
one_there start kept sector cells at h found = record { has = h; found = found }

-- and one that wasn't is made
pub one_new : (start : ℕ) (kept : ℕ → SeenView) (sector : ℕ) (old new : Cells) (cell : SeenView) → HasCells start kept old → index_at old.index sector ≡ None
    → index_at new.index sector ≡ Some (length old.cells.items) → ((i : ℕ) → (i ≡ sector → ⊥) → index_at new.index i ≡ index_at old.index i)
    → new.cells.items ≡ old.cells.items ++ cell ∷ [] → new.sectors.items ≡ old.sectors.items ++ sector ∷ [] → cell ≡ unseen start → HasOneAt start kept sector new (length old.cells.items)
one_new start kept sector old new cell h none here others cells sectors first = record {
  has = record {
    cell = λ i. at_by i (same_or i sector);
    listed = λ i k found. listed_by i k found (same_or i sector);
    inside = λ i k found. inside_by i k found (same_or i sector);
    apart = λ i j k found other. apart_by i j k found other (same_or i sector) (same_or j sector);
  };
  found = here;
}
  where
    count : length new.cells.items ≡ length old.cells.items + 1
    count = ap length cells ∙ length-append old.cells.items (cell ∷ [])

    low_before : (i k : ℕ) → (i ≡ sector → ⊥) → index_at new.index i ≡ Some k → k < length old.cells.items
    low_before i k differ found = h.inside i k (sym (others i differ) ∙ found)

    is_last : (i k : ℕ) → i ≡ sector → index_at new.index i ≡ Some k → k ≡ length old.cells.items
    is_last i k same found = let e : Some k ≡ Some (length old.cells.items) = sym found ∙ ap (index_at new.index) same ∙ here in cc (e)

    old_by : (i : ℕ) (found : Option ℕ) → index_at old.index i ≡ found → cell_by new.cells.items found ≡ cell_by old.cells.items found
    old_by i None is = refl
    old_by i (Some k) is = ap (λ xs. slice_get xs k) cells ∙ get_before old.cells.items (cell ∷ []) k (h.inside i k is)

    empty : kept sector ≡ unseen start
    empty = subst (IsCellOf start (kept sector)) (ap (cell_by old.cells.items) none) (h.cell sector)

    at_by : (i : ℕ) → (i ≡ sector) ⊎ (i ≡ sector → ⊥) → IsCellOf start (kept i) (cell_at new i)
    at_by i (inl e) =
        subst (λ x. IsCellOf start (kept x) (cell_at new x)) (sym e)
        (subst (IsCellOf start (kept sector)) (sym (ap (cell_by new.cells.items) here ∙ ap (λ xs. slice_get xs (length old.cells.items)) cells ∙ get_last old.cells.items cell))
        (first ∙ sym empty))
    at_by i (inr differ) =
        subst (IsCellOf start (kept i)) (sym (ap (cell_by new.cells.items) (others i differ) ∙ old_by i (index_at old.index i) refl)) (h.cell i)

    listed_by : (i k : ℕ) → index_at new.index i ≡ Some k → (i ≡ sector) ⊎ (i ≡ sector → ⊥) → Contains new.sectors.items i
    listed_by i k found (inl e) =
        subst (λ x. Contains new.sectors.items x) (sym e) (subst (λ xs. Contains xs sector) (sym sectors) (Contains-push old.sectors.items sector))
    listed_by i k found (inr differ) =
        subst (λ xs. Contains xs i) (sym sectors) (Contains-append_left old.sectors.items (sector ∷ []) i (h.listed i k (sym (others i differ) ∙ found)))

    inside_by : (i k : ℕ) → index_at new.index i ≡ Some k → (i ≡ sector) ⊎ (i ≡ sector → ⊥) → k < length new.cells.items
    inside_by i k found (inl e) = let last : k ≡ length old.cells.items = is_last i k e found in omega (arith, last, count)
    inside_by i k found (inr differ) = let low : k < length old.cells.items = low_before i k differ found in omega (arith, low, count)

    apart_by : (i j k : ℕ) → index_at new.index i ≡ Some k → index_at new.index j ≡ Some k → (i ≡ sector) ⊎ (i ≡ sector → ⊥) → (j ≡ sector) ⊎ (j ≡ sector → ⊥) → i ≡ j
    apart_by i j k found other (inl e) (inl f) = e ∙ sym f
    apart_by i j k found other (inl e) (inr differ) =
        let last : k ≡ length old.cells.items = is_last i k e found in
        let low : k < length old.cells.items = low_before j k differ other in
        absurd (omega (arith, last, low))
    apart_by i j k found other (inr differ) (inl f) =
        let last : k ≡ length old.cells.items = is_last j k f other in
        let low : k < length old.cells.items = low_before i k differ found in
        absurd (omega (arith, last, low))
    apart_by i j k found other (inr differ) (inr apart) = h.apart i j k (sym (others i differ) ∙ found) (sym (others j apart) ∙ other)

-- whatever its number is called
pub one_new_at : (start : ℕ) (kept : ℕ → SeenView) (sector : ℕ) (old new : Cells) (cell : SeenView) (at : ℕ) → at ≡ length old.cells.items → HasCells start kept old
    → index_at old.index sector ≡ None → index_at new.index sector ≡ Some at → ((i : ℕ) → (i ≡ sector → ⊥) → index_at new.index i ≡ index_at old.index i)
    → new.cells.items ≡ old.cells.items ++ cell ∷ [] → new.sectors.items ≡ old.sectors.items ++ sector ∷ [] → cell ≡ unseen start → HasOneAt start kept sector new at
one_new_at start kept sector old new cell at is h none here others cells sectors first =
    subst (HasOneAt start kept sector new) (sym is) (one_new start kept sector old new cell h none (here ∙ ap Some is) others cells sectors first)

same_number : (n : ℕ) → (n == n) ≡ true
same_number n = eq-eqb n n refl

-- the sector is found in its turn
pub one_is : (start : ℕ) (kept : ℕ → SeenView) (sector : ℕ) (cells : Cells) (at : ℕ) (d : SeenView) → HasOneAt start kept sector cells at → get_or cells.cells.items at d ≡ kept sector
one_is start kept sector cells at d h =
    subst (IsCellOf start (kept sector)) (ap (cell_by cells.cells.items) h.found ∙ get_item cells.cells.items at d (h.has.inside sector at h.found)) (h.has.cell sector)

-- it takes one label more
pub put_back : (start : ℕ) (rules : Rules) (shared : List Shared) (kept : ℕ → SeenView) (sector : ℕ) (label : Label) (old new : Cells) (at : ℕ) (after : SeenView) → HasOneAt start kept sector old at
    → after ≡ behind_label rules sector shared label (kept sector) → new.index ≡ old.index → new.sectors ≡ old.sectors → new.cells.items ≡ set old.cells.items at after
    → HasCells start (kept_at rules shared kept sector label) new
put_back start rules shared kept sector label old new at after h told index sectors cells = record {
  cell = λ i. by_key i (same_or i sector);
  listed = λ i k found. subst (λ xs. Contains xs.items i) (sym sectors) (h.has.listed i k (same_index i ∙ found));
  inside = λ i k found. let low : k < length old.cells.items = h.has.inside i k (same_index i ∙ found) in subst (λ n. k < n) (sym (ap length cells ∙ length-set old.cells.items at after)) low;
  apart = λ i j k found other. h.has.apart i j k (same_index i ∙ found) (same_index j ∙ other);
}
  where
    same_index : (i : ℕ) → index_at old.index i ≡ index_at new.index i
    same_index i = ap (λ m. index_at m i) (sym index)

    elsewhere : (i : ℕ) → (i ≡ sector → ⊥) → kept_at rules shared kept sector label i ≡ kept i
    elsewhere i differ = by (cases_Bool (sector == i))
      where
        by : ((sector == i) ≡ true) ⊎ ((sector == i) ≡ false) → kept_at rules shared kept sector label i ≡ kept i
        by (inl e) = absurd (differ (sym (eqb-true sector i e)))
        by (inr e) = ap (λ b. if b then behind_label rules i shared label (kept i) else kept i) e

    at_sector : kept_at rules shared kept sector label sector ≡ behind_label rules sector shared label (kept sector)
    at_sector = ap (λ b. if b then behind_label rules sector shared label (kept sector) else kept sector) (same_number sector)

    here : cell_at new sector ≡ Some after
    here =
        ap (cell_by new.cells.items) (sym (same_index sector) ∙ h.found) ∙ ap (λ xs. slice_get xs at) cells
        ∙ get_here old.cells.items at after (h.has.inside sector at h.found)

    other_by : (i : ℕ) → (i ≡ sector → ⊥) → (found : Option ℕ) → index_at old.index i ≡ found → cell_by new.cells.items found ≡ cell_by old.cells.items found
    other_by i differ None is = refl
    other_by i differ (Some k) is = ap (λ xs. slice_get xs k) cells ∙ get_other old.cells.items at k after (λ same. differ (h.has.apart i sector k is (h.found ∙ ap Some (sym same))))

    by_key : (i : ℕ) → (i ≡ sector) ⊎ (i ≡ sector → ⊥) → IsCellOf start (kept_at rules shared kept sector label i) (cell_at new i)
    by_key i (inl e) =
        subst (λ x. IsCellOf start (kept_at rules shared kept sector label x) (cell_at new x)) (sym e)
        (subst (IsCellOf start (kept_at rules shared kept sector label sector)) (sym here) (told ∙ sym at_sector))
    by_key i (inr differ) =
        subst (IsCellOf start (kept_at rules shared kept sector label i)) (sym (ap (cell_by new.cells.items) (sym (same_index i)) ∙ other_by i differ (index_at old.index i) refl))
        (subst (λ x. IsCellOf start x (cell_at old i)) (sym (elsewhere i differ)) (h.has.cell i))

-- SOME SECTORS

no_sector : (first i : ℕ) → in_range first (first + 0) i ≡ false
no_sector first i = by (cases_Bool (in_range first (first + 0) i))
  where
    wrong : (a b : ℕ) → nat_le a b ≡ true → nat_lt b (a + 0) ≡ true → ⊥
    wrong a b e f = grind (arith, nat_tests)

    by : (in_range first (first + 0) i ≡ true) ⊎ (in_range first (first + 0) i ≡ false) → in_range first (first + 0) i ≡ false
    by (inl e) = let parts = and_parts _ _ e in absurd (wrong first i parts.0 parts.1)
    by (inr e) = e

-- none of them yet
pub kept_none : (rules : Rules) (shared : List Shared) (kept : ℕ → SeenView) (first : ℕ) (label : Label) (i : ℕ) → kept i ≡ kept_in rules shared kept first (first + 0) label i
kept_none rules shared kept first label i = sym (ap (λ b. if b then behind_label rules i shared label (kept i) else kept i) (no_sector first i))

range_past : (first place : ℕ) → in_range first (first + place) (first + place) ≡ false
range_past first place = by (cases_Bool (in_range first (first + place) (first + place)))
  where
    wrong : (a : ℕ) → nat_lt a a ≡ true → ⊥
    wrong a e = grind (arith, nat_tests)

    by : (in_range first (first + place) (first + place) ≡ true) ⊎ (in_range first (first + place) (first + place) ≡ false) → in_range first (first + place) (first + place) ≡ false
    by (inl e) = absurd (wrong (first + place) (and_parts _ _ e).1)
    by (inr e) = e

range_next : (first place i : ℕ) → (first + place ≡ i → ⊥) → in_range first (first + place) i ≡ in_range first (first + (place + 1)) i
range_next first place i differ = ap (λ b. nat_le first i && b) (next first place i differ)
  where
    next : (a b c : ℕ) → (a + b ≡ c → ⊥) → nat_lt c (a + b) ≡ nat_lt c (a + (b + 1))
    next a b c h = grind (arith, nat_tests)

range_here : (first place : ℕ) → in_range first (first + (place + 1)) (first + place) ≡ true
range_here first place = inside first place
  where
    inside : (a b : ℕ) → (nat_le a (a + b) && nat_lt (a + b) (a + (b + 1))) ≡ true
    inside a b = grind (arith, nat_tests)

pub range_in : (first place count : ℕ) → place < count → in_range first (first + count) (first + place) ≡ true
range_in first place count low = inside first place count low
  where
    inside : (a b c : ℕ) → b < c → (nat_le a (a + b) && nat_lt (a + b) (a + c)) ≡ true
    inside a b c h = grind (arith, nat_tests)

-- and one more of them
pub kept_next : (rules : Rules) (shared : List Shared) (kept : ℕ → SeenView) (first place : ℕ) (label : Label) (i : ℕ)
    → kept_at rules shared (kept_in rules shared kept first (first + place) label) (first + place) label i ≡ kept_in rules shared kept first (first + (place + 1)) label i
kept_next rules shared kept first place label i = by (cases_Bool (first + place == i))
  where
    at_it : kept_at rules shared (kept_in rules shared kept first (first + place) label) (first + place) label (first + place) ≡ kept_in rules shared kept first (first + (place + 1)) label (first + place)
    at_it =
        ap (λ b. if b then behind_label rules (first + place) shared label (kept_in rules shared kept first (first + place) label (first + place)) else kept_in rules shared kept first (first + place) label (first + place)) (same_number (first + place))
        ∙ ap (λ b. behind_label rules (first + place) shared label (if b then behind_label rules (first + place) shared label (kept (first + place)) else kept (first + place))) (range_past first place)
        ∙ sym (ap (λ b. if b then behind_label rules (first + place) shared label (kept (first + place)) else kept (first + place)) (range_here first place))

    by : ((first + place == i) ≡ true) ⊎ ((first + place == i) ≡ false)
        → kept_at rules shared (kept_in rules shared kept first (first + place) label) (first + place) label i ≡ kept_in rules shared kept first (first + (place + 1)) label i
    by (inl e) =
        subst (λ x. kept_at rules shared (kept_in rules shared kept first (first + place) label) (first + place) label x ≡ kept_in rules shared kept first (first + (place + 1)) label x)
        (eqb-true (first + place) i e) at_it
    by (inr e) =
        ap (λ b. if b then behind_label rules i shared label (kept_in rules shared kept first (first + place) label i) else kept_in rules shared kept first (first + place) label i) e
        ∙ ap (λ b. if b then behind_label rules i shared label (kept i) else kept i)
        (range_next first place i (λ same. absurd (cc (sym e ∙ eq-eqb (first + place) i same))))

-- the next of them has what it had
pub told_next : (rules : Rules) (shared : List Shared) (kept : ℕ → SeenView) (span : Span) (behind : ℕ) (is_sync : Bool) (label : Label) (place : ℕ) → place < span.count → AreToldOf rules shared kept span behind is_sync label
    → IsToldAt rules shared (kept_in rules shared kept span.first (span.first + place) label) (span.first + place) place behind is_sync label
told_next rules shared kept span behind is_sync label place low told =
    subst (λ (s : SeenView). IsToldOf rules (span.first + place) place shared s.own behind is_sync label)
    (sym (ap (λ b. if b then behind_label rules (span.first + place) shared label (kept (span.first + place)) else kept (span.first + place)) (range_past span.first place)))
    (told place low)
