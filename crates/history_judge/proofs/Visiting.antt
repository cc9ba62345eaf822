-- The sectors that a label is for.
use Rattle.std.proofs.Common.{◌≡◌, ◌<◌, ◌≤◌, ◌⊎◌, inl, inr, ℕ, zero, suc, ◌+◌, ◌/◌, ◌==◌, ◌&&◌, Bool, true, false, List, [], ◌∷◌, ◌++◌, Option, Some, None, refl, sym, ◌∙◌, ap, subst, arith, eq-eqb, get_or, length, length-append, set, slice_get}
use Rattle.std.specs.Prelude.{Contains, nat_le, nat_lt, if◌then◌else◌}
use Rattle.std.specs.declared.cmp.Ordering.{Ordering}
use Rattle.std.specs.declared.cmp.Ordering.TheVariants.{Less, Equal, Greater}
use Rattle.std.specs.Ordering.{is_eq, nat_cmp}
use Rattle.std.specs.BTreeMap.{is_at}
use Rattle.std.specs.Map.{lookup}
use Rattle.std.specs.Global.{Vec}
use Rattle.std.proofs.lemmas.List.{length-set}
use Rattle.std.proofs.lemmas.Map.Lookups.{exact_pairs, exact_unsigned}
use Rattle.std.proofs.lemmas.Bool.{cases_Bool, and_parts, eqb-true}
use Rattle.std.proofs.lemmas.Bool.Decides.{nat_tests}
use Rattle.std.proofs.lemmas.List.Elements.{Contains-append_left, Contains-push}
use Rattle.srb.specs.declared.Kind.{Kind}
use Rattle.sector.specs.declared.Extent.{Extent}
use Rattle.machine.specs.declared.ClientRequest.{ClientRequest}
use Rattle.machine.specs.declared.Label.{Label}
use Rattle.machine.specs.Rules.{Rules, is_transfer, is_in_bounds, first_sector, place_count}
use Rattle.register.specs.Values.{code}
use Rattle.history.specs.declared.Wait.{Wait}
use Rattle.history.specs.Sights.{is_partition, has_sector}
use Rattle.history.specs.Waits.{step}
use Rattle.history_fitting.specs.declared.service.Place.{Place}
use Rattle.history_judge.specs.declared.cell.Cell.{Cell}
use Rattle.history_judge.specs.declared.cells.Cells.{Cells}
use Rattle.history_judge.specs.declared.cells.Span.{Span}
use Rattle.history_fitting.specs.Services.{within, moved}
use Rattle.history_judge.specs.inside.Cells.{IsCell, pair, key_cmp, index_at, cell_by, cell_at, IsCellAt, AreApart, HasCells, HasOneAt, in_range, in_span, seen_at, seen_in, IsToldOf, AreToldOf, IsSpanOf}

-- KEYS

same_pair : (a b c d : ℕ) → (a ≡ c) → (b ≡ d) → pair a b ≡ pair c d
same_pair a b c d e f = ap (λ x. pair x b) e ∙ ap (pair c) f

key_cases : (p i q j : ℕ) → ((p ≡ q) × (i ≡ j)) ⊎ (pair p i ≡ pair q j → ⊥)
key_cases p i q j = by (same p q) (same i j)
  where
    same : (a b : ℕ) → (a ≡ b) ⊎ (a ≡ b → ⊥)
    same a b = grind arith

    by : ((p ≡ q) ⊎ (p ≡ q → ⊥)) → ((i ≡ j) ⊎ (i ≡ j → ⊥)) → ((p ≡ q) × (i ≡ j)) ⊎ (pair p i ≡ pair q j → ⊥)
    by (inl e) (inl f) = inl (e, f)
    by (inl e) (inr n) = inr (λ h. n (ap (λ (x : ℕ × ℕ). x.1) h))
    by (inr n) f = inr (λ h. n (ap (λ (x : ℕ × ℕ). x.0) h))

-- another key isn't found at this one
pub not_at : (k q : ℕ × ℕ) → (q ≡ k → ⊥) → is_at (key_cmp k) q ≡ false
not_at k q differ = by (key_cmp k q) refl
  where
    by : (o : Ordering) → key_cmp k q ≡ o → is_eq o ≡ false
    by Less e = refl
    by Greater e = refl
    by Equal e = absurd (differ (sym (exact_pairs nat_cmp nat_cmp exact_unsigned exact_unsigned k q e)))

-- ALL SECTORS

pub no_cells : (any : Bool) (start : ℕ) (cells : Cells) → cells.index.entries ≡ [] → HasCells any start (λ p i. []) cells
no_cells any start cells none = record {
  cell = λ p i. subst (IsCellAt any start []) (sym (ap (cell_by cells.cells.items) (nothing p i))) refl;
  listed = λ p i k found. absurd (cc (sym (nothing p i) ∙ found));
  inside = λ p i k found. absurd (cc (sym (nothing p i) ∙ found));
  apart = λ p i q j k found other. absurd (cc (sym (nothing p i) ∙ found));
}
  where
    nothing : (p i : ℕ) → index_at cells.index p i ≡ None
    nothing p i = ap (lookup (is_at (key_cmp (p, i)))) none

pub cells_alike : (any : Bool) (start : ℕ) (f g : ℕ → ℕ → List Wait) (cells : Cells) → ((p i : ℕ) → f p i ≡ g p i) → HasCells any start f cells → HasCells any start g cells
cells_alike any start f g cells same h = record {
  cell = λ p i. subst (λ ws. IsCellAt any start ws (cell_at cells p i)) (same p i) (h.cell p i);
  listed = h.listed;
  inside = h.inside;
  apart = h.apart;
}

get_before : {X : Type 0} (xs ys : List X) (m : ℕ) → m < length xs → slice_get (xs ++ ys) m ≡ slice_get xs m
get_before [] ys m low = absurd (omega arith)
get_before (x ∷ xs) ys zero low = refl
get_before (x ∷ xs) ys (suc m) low = get_before xs ys m (omega arith)

get_last : {X : Type 0} (xs : List X) (x : X) → slice_get (xs ++ x ∷ []) (length xs) ≡ Some x
get_last [] x = refl
get_last (y ∷ xs) x = get_last xs x

get_here : {X : Type 0} (xs : List X) (n : ℕ) (x : X) → n < length xs → slice_get (set xs n x) n ≡ Some x
get_here [] n x low = absurd (omega arith)
get_here (y ∷ xs) zero x low = refl
get_here (y ∷ xs) (suc n) x low = get_here xs n x (omega arith)

get_other : {X : Type 0} (xs : List X) (n m : ℕ) (x : X) → (m ≡ n → ⊥) → slice_get (set xs n x) m ≡ slice_get xs m
get_other [] n m x differ = refl
get_other (y ∷ xs) zero zero x differ = absurd (differ refl)
get_other (y ∷ xs) zero (suc m) x differ = refl
get_other (y ∷ xs) (suc n) zero x differ = refl
get_other (y ∷ xs) (suc n) (suc m) x differ = get_other xs n m x (λ same. differ (ap suc same))

get_item : {X : Type 0} (xs : List X) (n : ℕ) (d : X) → n < length xs → slice_get xs n ≡ Some (get_or xs n d)
get_item [] n d low = absurd (omega arith)
get_item (x ∷ xs) zero d low = refl
get_item (x ∷ xs) (suc n) d low = get_item xs n d (omega arith)

-- a sector that was there is found
pub one_there : (any : Bool) (start : ℕ) (seen : ℕ → ℕ → List Wait) (place : Place) (cells : Cells) (at : ℕ) → HasCells any start seen cells → index_at cells.index place.partition place.sector ≡ Some at → HasOneAt any start seen place cells at
one_there any start seen place cells at h found = record { has = h; found = found }

-- and one that wasn't is made
pub one_new : (any : Bool) (start : ℕ) (seen : ℕ → ℕ → List Wait) (place : Place) (old new : Cells) (cell : Cell) → HasCells any start seen old → index_at old.index place.partition place.sector ≡ None
    → index_at new.index place.partition place.sector ≡ Some (length old.cells.items) → ((p i : ℕ) → (pair p i ≡ pair place.partition place.sector → ⊥) → index_at new.index p i ≡ index_at old.index p i)
    → new.cells.items ≡ old.cells.items ++ cell ∷ [] → new.places.items ≡ old.places.items ++ place ∷ [] → IsCell any start [] cell → HasOneAt any start seen place new (length old.cells.items)
one_new any start seen place old new cell h none here others cells places first = record { has = record { cell = cell'; listed = listed'; inside = inside'; apart = apart' }; found = here }
  where
    count : length new.cells.items ≡ length old.cells.items + 1
    count = ap length cells ∙ length-append old.cells.items (cell ∷ [])

    low_before : (p i k : ℕ) → (pair p i ≡ pair place.partition place.sector → ⊥) → index_at new.index p i ≡ Some k → k < length old.cells.items
    low_before p i k differ found = h.inside p i k (sym (others p i differ) ∙ found)

    is_last : (k : ℕ) → index_at new.index place.partition place.sector ≡ Some k → k ≡ length old.cells.items
    is_last k found = let e : Some k ≡ Some (length old.cells.items) = sym found ∙ here in cc (e)

    old_by : (p i : ℕ) (found : Option ℕ) → index_at old.index p i ≡ found → cell_by new.cells.items found ≡ cell_by old.cells.items found
    old_by p i None is = refl
    old_by p i (Some k) is = ap (λ xs. slice_get xs k) cells ∙ get_before old.cells.items (cell ∷ []) k (h.inside p i k is)

    at_by : (p i : ℕ) → ((p ≡ place.partition) × (i ≡ place.sector)) ⊎ (pair p i ≡ pair place.partition place.sector → ⊥) → IsCellAt any start (seen p i) (cell_at new p i)
    at_by p i (inl e) =
        subst (λ (x : ℕ × ℕ). IsCellAt any start (seen x.0 x.1) (cell_at new x.0 x.1)) (sym (same_pair p i place.partition place.sector e.0 e.1))
        (subst (IsCellAt any start (seen place.partition place.sector)) (sym (ap (cell_by new.cells.items) here ∙ ap (λ xs. slice_get xs (length old.cells.items)) cells ∙ get_last old.cells.items cell))
        (subst (λ ws. IsCell any start ws cell) (sym empty) first))
      where
        empty : seen place.partition place.sector ≡ []
        empty = subst (IsCellAt any start (seen place.partition place.sector)) (ap (cell_by old.cells.items) none) (h.cell place.partition place.sector)
    at_by p i (inr differ) =
        subst (IsCellAt any start (seen p i)) (sym (ap (cell_by new.cells.items) (others p i differ) ∙ old_by p i (index_at old.index p i) refl)) (h.cell p i)

    cell' : (p i : ℕ) → IsCellAt any start (seen p i) (cell_at new p i)
    cell' p i = at_by p i (key_cases p i place.partition place.sector)

    listed_by : (p i k : ℕ) → index_at new.index p i ≡ Some k → ((p ≡ place.partition) × (i ≡ place.sector)) ⊎ (pair p i ≡ pair place.partition place.sector → ⊥) → Contains new.places.items (record { partition = p; sector = i })
    listed_by p i k found (inl e) =
        subst (λ (x : ℕ × ℕ). Contains new.places.items (record { partition = x.0; sector = x.1 })) (sym (same_pair p i place.partition place.sector e.0 e.1))
        (subst (λ ps. Contains ps place) (sym places) (Contains-push old.places.items place))
    listed_by p i k found (inr differ) =
        subst (λ ps. Contains ps (record { partition = p; sector = i })) (sym places)
        (Contains-append_left old.places.items (place ∷ []) (record { partition = p; sector = i }) (h.listed p i k (sym (others p i differ) ∙ found)))

    listed' : (p i k : ℕ) → index_at new.index p i ≡ Some k → Contains new.places.items (record { partition = p; sector = i })
    listed' p i k found = listed_by p i k found (key_cases p i place.partition place.sector)

    inside_by : (p i k : ℕ) → index_at new.index p i ≡ Some k → ((p ≡ place.partition) × (i ≡ place.sector)) ⊎ (pair p i ≡ pair place.partition place.sector → ⊥) → k < length new.cells.items
    inside_by p i k found (inl e) =
        let last : k ≡ length old.cells.items = is_last k (sym (ap (λ (x : ℕ × ℕ). index_at new.index x.0 x.1) (same_pair p i place.partition place.sector e.0 e.1)) ∙ found) in
        omega (arith, last, count)
    inside_by p i k found (inr differ) = let low : k < length old.cells.items = low_before p i k differ found in omega (arith, low, count)

    inside' : (p i k : ℕ) → index_at new.index p i ≡ Some k → k < length new.cells.items
    inside' p i k found = inside_by p i k found (key_cases p i place.partition place.sector)

    apart_by : (p i q j k : ℕ) → index_at new.index p i ≡ Some k → index_at new.index q j ≡ Some k
        → ((p ≡ place.partition) × (i ≡ place.sector)) ⊎ (pair p i ≡ pair place.partition place.sector → ⊥) → ((q ≡ place.partition) × (j ≡ place.sector)) ⊎ (pair q j ≡ pair place.partition place.sector → ⊥) → pair p i ≡ pair q j
    apart_by p i q j k found other (inl e) (inl f) = same_pair p i place.partition place.sector e.0 e.1 ∙ sym (same_pair q j place.partition place.sector f.0 f.1)
    apart_by p i q j k found other (inl e) (inr differ) =
        let last : k ≡ length old.cells.items = is_last k (sym (ap (λ (x : ℕ × ℕ). index_at new.index x.0 x.1) (same_pair p i place.partition place.sector e.0 e.1)) ∙ found) in
        let low : k < length old.cells.items = low_before q j k differ other in
        absurd (omega (arith, last, low))
    apart_by p i q j k found other (inr differ) (inl f) =
        let last : k ≡ length old.cells.items = is_last k (sym (ap (λ (x : ℕ × ℕ). index_at new.index x.0 x.1) (same_pair q j place.partition place.sector f.0 f.1)) ∙ other) in
        let low : k < length old.cells.items = low_before p i k differ found in
        absurd (omega (arith, last, low))
    apart_by p i q j k found other (inr differ) (inr apart) = h.apart p i q j k (sym (others p i differ) ∙ found) (sym (others q j apart) ∙ other)

    apart' : AreApart new.index
    apart' p i q j k found other = apart_by p i q j k found other (key_cases p i place.partition place.sector) (key_cases q j place.partition place.sector)

-- whatever its number is called
pub one_new_at : (any : Bool) (start : ℕ) (seen : ℕ → ℕ → List Wait) (place : Place) (old new : Cells) (cell : Cell) (at : ℕ) → at ≡ length old.cells.items → HasCells any start seen old
    → index_at old.index place.partition place.sector ≡ None → index_at new.index place.partition place.sector ≡ Some at → ((p i : ℕ) → (pair p i ≡ pair place.partition place.sector → ⊥) → index_at new.index p i ≡ index_at old.index p i)
    → new.cells.items ≡ old.cells.items ++ cell ∷ [] → new.places.items ≡ old.places.items ++ place ∷ [] → IsCell any start [] cell → HasOneAt any start seen place new at
one_new_at any start seen place old new cell at is h none here others cells places first =
    subst (HasOneAt any start seen place new) (sym is) (one_new any start seen place old new cell h none (here ∙ ap Some is) others cells places first)

same_number : (n : ℕ) → (n == n) ≡ true
same_number n = eq-eqb n n refl

-- the sector at a place is found in its turn
pub one_is : (any : Bool) (start : ℕ) (seen : ℕ → ℕ → List Wait) (place : Place) (cells : Cells) (at : ℕ) (d : Cell) → HasOneAt any start seen place cells at → IsCell any start (seen place.partition place.sector) (get_or cells.cells.items at d)
one_is any start seen place cells at d h =
    subst (IsCellAt any start (seen place.partition place.sector)) (ap (cell_by cells.cells.items) h.found ∙ get_item cells.cells.items at d (h.has.inside place.partition place.sector at h.found)) (h.has.cell place.partition place.sector)

-- it takes one label more
pub put_back : (any : Bool) (start : ℕ) (rules : Rules) (seen : ℕ → ℕ → List Wait) (place : Place) (label : Label) (old new : Cells) (at : ℕ) (after : Cell) → HasOneAt any start seen place old at
    → IsCell any start (step code rules place.partition place.sector (seen place.partition place.sector) label) after → new.index ≡ old.index → new.places ≡ old.places → new.cells.items ≡ set old.cells.items at after
    → HasCells any start (seen_at rules seen place label) new
put_back any start rules seen place label old new at after h told index places cells = record {
  cell = λ p i. by_key p i (key_cases p i place.partition place.sector);
  listed = λ p i k found. subst (λ (ps : Vec Place). Contains ps.items (record { partition = p; sector = i })) (sym places) (h.has.listed p i k (same_index p i ∙ found));
  inside = λ p i k found. let low : k < length old.cells.items = h.has.inside p i k (same_index p i ∙ found) in subst (λ n. k < n) (sym (ap length cells ∙ length-set old.cells.items at after)) low;
  apart = λ p i q j k found other. h.has.apart p i q j k (same_index p i ∙ found) (same_index q j ∙ other);
}
  where
    same_index : (p i : ℕ) → index_at old.index p i ≡ index_at new.index p i
    same_index p i = ap (λ m. index_at m p i) (sym index)

    elsewhere : (p i : ℕ) → (pair p i ≡ pair place.partition place.sector → ⊥) → seen_at rules seen place label p i ≡ seen p i
    elsewhere p i differ = by (cases_Bool ((place.partition == p) && (place.sector == i)))
      where
        by : (((place.partition == p) && (place.sector == i)) ≡ true) ⊎ (((place.partition == p) && (place.sector == i)) ≡ false) → seen_at rules seen place label p i ≡ seen p i
        by (inl e) =
            let parts = and_parts _ _ e in
            absurd (differ (same_pair p i place.partition place.sector (sym (eqb-true place.partition p parts.0)) (sym (eqb-true place.sector i parts.1))))
        by (inr e) = ap (λ b. if b then step code rules p i (seen p i) label else seen p i) e

    at_place : seen_at rules seen place label place.partition place.sector ≡ step code rules place.partition place.sector (seen place.partition place.sector) label
    at_place =
        ap (λ b. if b && (place.sector == place.sector) then step code rules place.partition place.sector (seen place.partition place.sector) label else seen place.partition place.sector) (same_number place.partition)
        ∙ ap (λ b. if true && b then step code rules place.partition place.sector (seen place.partition place.sector) label else seen place.partition place.sector) (same_number place.sector)

    here : cell_at new place.partition place.sector ≡ Some after
    here =
        ap (cell_by new.cells.items) (sym (same_index place.partition place.sector) ∙ h.found) ∙ ap (λ xs. slice_get xs at) cells
        ∙ get_here old.cells.items at after (h.has.inside place.partition place.sector at h.found)

    other_by : (p i : ℕ) → (pair p i ≡ pair place.partition place.sector → ⊥) → (found : Option ℕ) → index_at old.index p i ≡ found → cell_by new.cells.items found ≡ cell_by old.cells.items found
    other_by p i differ None is = refl
    other_by p i differ (Some k) is = ap (λ xs. slice_get xs k) cells ∙ get_other old.cells.items at k after (λ same. differ (h.has.apart p i place.partition place.sector k is (h.found ∙ ap Some (sym same))))

    by_key : (p i : ℕ) → ((p ≡ place.partition) × (i ≡ place.sector)) ⊎ (pair p i ≡ pair place.partition place.sector → ⊥) → IsCellAt any start (seen_at rules seen place label p i) (cell_at new p i)
    by_key p i (inl e) =
        subst (λ (x : ℕ × ℕ). IsCellAt any start (seen_at rules seen place label x.0 x.1) (cell_at new x.0 x.1)) (sym (same_pair p i place.partition place.sector e.0 e.1))
        (subst (IsCellAt any start (seen_at rules seen place label place.partition place.sector)) (sym here) (subst (λ ws. IsCell any start ws after) (sym at_place) told))
    by_key p i (inr differ) =
        subst (IsCellAt any start (seen_at rules seen place label p i)) (sym (ap (cell_by new.cells.items) (sym (same_index p i)) ∙ other_by p i differ (index_at old.index p i) refl))
        (subst (λ ws. IsCellAt any start ws (cell_at old p i)) (sym (elsewhere p i differ)) (h.has.cell p i))

-- SOME SECTORS

no_sector : (first i : ℕ) → (nat_le first i && nat_lt i first) ≡ false
no_sector first i = by (cases_Bool (nat_le first i && nat_lt i first))
  where
    wrong : (a b : ℕ) → nat_le a b ≡ true → nat_lt b a ≡ true → ⊥
    wrong a b e f = grind (arith, nat_tests)

    by : ((nat_le first i && nat_lt i first) ≡ true) ⊎ ((nat_le first i && nat_lt i first) ≡ false) → (nat_le first i && nat_lt i first) ≡ false
    by (inl e) = let parts = and_parts _ _ e in absurd (wrong first i parts.0 parts.1)
    by (inr e) = e

and_false : (b : Bool) → (b && false) ≡ false
and_false true = refl
and_false false = refl

-- none of them yet
pub seen_none : (rules : Rules) (seen : ℕ → ℕ → List Wait) (partition first : ℕ) (label : Label) (p i : ℕ) → seen p i ≡ seen_in rules seen partition first first label p i
seen_none rules seen partition first label p i =
    sym (ap (λ b. if (partition == p) && b then step code rules p i (seen p i) label else seen p i) (no_sector first i)
    ∙ ap (λ b. if b then step code rules p i (seen p i) label else seen p i) (and_false (partition == p)))

range_past : (partition first sector i : ℕ) → sector ≤ i → in_range partition first sector partition i ≡ false
range_past partition first sector i past = ap (λ b. (partition == partition) && (nat_le first i && b)) (out sector i past) ∙ ap (λ b. (partition == partition) && b) (and_false (nat_le first i)) ∙ and_false (partition == partition)
  where
    out : (a b : ℕ) → a ≤ b → nat_lt b a ≡ false
    out a b h = grind (arith, nat_tests)

range_next : (first sector i : ℕ) → (sector ≡ i → ⊥) → (nat_le first i && nat_lt i sector) ≡ (nat_le first i && nat_lt i (sector + 1))
range_next first sector i differ = ap (λ b. nat_le first i && b) (next sector i differ)
  where
    next : (a b : ℕ) → (a ≡ b → ⊥) → nat_lt b a ≡ nat_lt b (a + 1)
    next a b h = grind (arith, nat_tests)

range_here : (partition first sector : ℕ) → first ≤ sector → in_range partition first (sector + 1) partition sector ≡ true
range_here partition first sector low =
    ap (λ b. b && (nat_le first sector && nat_lt sector (sector + 1))) (same_number partition) ∙ inside first sector low
  where
    inside : (a b : ℕ) → a ≤ b → (nat_le a b && nat_lt b (b + 1)) ≡ true
    inside a b h = grind (arith, nat_tests)

-- and one more of them
pub seen_next : (rules : Rules) (seen : ℕ → ℕ → List Wait) (partition first sector : ℕ) (label : Label) → first ≤ sector → (p i : ℕ)
    → seen_at rules (seen_in rules seen partition first sector label) (record { partition = partition; sector = sector }) label p i ≡ seen_in rules seen partition first (sector + 1) label p i
seen_next rules seen partition first sector label low p i = by (cases_Bool ((partition == p) && (sector == i)))
  where
    at_it : partition ≡ p → sector ≡ i
        → seen_at rules (seen_in rules seen partition first sector label) (record { partition = partition; sector = sector }) label partition sector ≡ seen_in rules seen partition first (sector + 1) label partition sector
    at_it e f =
        ap (λ b. if b && (sector == sector) then step code rules partition sector (seen_in rules seen partition first sector label partition sector) label else seen_in rules seen partition first sector label partition sector) (same_number partition)
        ∙ ap (λ b. if true && b then step code rules partition sector (seen_in rules seen partition first sector label partition sector) label else seen_in rules seen partition first sector label partition sector) (same_number sector)
        ∙ ap (λ b. step code rules partition sector (if b then step code rules partition sector (seen partition sector) label else seen partition sector) label) (range_past partition first sector sector (omega arith))
        ∙ sym (ap (λ b. if b then step code rules partition sector (seen partition sector) label else seen partition sector) (range_here partition first sector low))

    same_test : ((partition == p) && (sector == i)) ≡ false → in_range partition first sector p i ≡ in_range partition first (sector + 1) p i
    same_test e = by_part (cases_Bool (partition == p))
      where
        by_part : ((partition == p) ≡ true) ⊎ ((partition == p) ≡ false) → in_range partition first sector p i ≡ in_range partition first (sector + 1) p i
        by_part (inl same) =
            let other : (sector == i) ≡ false = sym (ap (λ b. b && (sector == i)) same) ∙ e in
            ap (λ b. (partition == p) && b) (range_next first sector i (λ e'. absurd (cc (sym other ∙ eq-eqb sector i e'))))
        by_part (inr differs) =
            ap (λ b. b && (nat_le first i && nat_lt i sector)) differs ∙ sym (ap (λ b. b && (nat_le first i && nat_lt i (sector + 1))) differs)

    by : (((partition == p) && (sector == i)) ≡ true) ⊎ (((partition == p) && (sector == i)) ≡ false)
        → seen_at rules (seen_in rules seen partition first sector label) (record { partition = partition; sector = sector }) label p i ≡ seen_in rules seen partition first (sector + 1) label p i
    by (inl e) =
        let parts = and_parts _ _ e in
        let one : partition ≡ p = eqb-true partition p parts.0 in
        let two : sector ≡ i = eqb-true sector i parts.1 in
        subst (λ (x : ℕ × ℕ). seen_at rules (seen_in rules seen partition first sector label) (record { partition = partition; sector = sector }) label x.0 x.1 ≡ seen_in rules seen partition first (sector + 1) label x.0 x.1)
        (same_pair partition sector p i one two) (at_it one two)
    by (inr e) =
        ap (λ b. if b then step code rules p i (seen_in rules seen partition first sector label p i) label else seen_in rules seen partition first sector label p i) e
        ∙ ap (λ b. if b then step code rules p i (seen p i) label else seen p i) (same_test e)

-- the next of them has what it had
pub told_next_one : (rules : Rules) (seen : ℕ → ℕ → List Wait) (span : Span) (kind : Kind) (label : Label) (sector : ℕ) → span.extent.first ≤ sector → sector < span.extent.first + span.extent.count → AreToldOf rules seen span kind label
    → IsToldOf rules span.partition sector (seen_in rules seen span.partition span.extent.first sector label span.partition sector) kind label
told_next_one rules seen span kind label sector low high told =
    subst (λ ws. IsToldOf rules span.partition sector ws kind label)
    (sym (ap (λ b. if b then step code rules span.partition sector (seen span.partition sector) label else seen span.partition sector) (range_past span.partition span.extent.first sector sector (omega arith))))
    (told sector (ap (λ b. b && (nat_le span.extent.first sector && nat_lt sector (span.extent.first + span.extent.count))) (same_number span.partition) ∙ inside span.extent.first sector (span.extent.first + span.extent.count) low high))
  where
    inside : (a b c : ℕ) → a ≤ b → b < c → (nat_le a b && nat_lt b c) ≡ true
    inside a b c h k = grind (arith, nat_tests)

-- WHICH SECTORS A REQUEST MOVES

abbrev extent_of : Rules → ClientRequest → Extent
extent_of rules q = record { first = first_sector rules q; count = q.length / rules.sector_size }

pub span_none : (rules : Rules) (q : ClientRequest) → q.partition ≡ None → IsSpanOf rules q None
span_none rules q none = λ p i. ap (λ o. (is_partition p o && (is_transfer q.kind && is_in_bounds rules q)) && (nat_le (first_sector rules q) i && nat_lt i (first_sector rules q + place_count rules q))) none

pub span_still : (rules : Rules) (q : ClientRequest) → None ≡ moved rules q → IsSpanOf rules q None
span_still rules q none = λ p i. by_kind p i (is_transfer q.kind) refl none
  where
    by_bounds : (p i : ℕ) (b : Bool) → is_in_bounds rules q ≡ b → None ≡ (if b then Some (extent_of rules q) else None) → has_sector rules p i q ≡ false
    by_bounds p i true e h = absurd (cc (h))
    by_bounds p i false e h =
        ap (λ b. (is_partition p q.partition && (is_transfer q.kind && b)) && (nat_le (first_sector rules q) i && nat_lt i (first_sector rules q + place_count rules q))) e
        ∙ ap (λ b. (is_partition p q.partition && b) && (nat_le (first_sector rules q) i && nat_lt i (first_sector rules q + place_count rules q))) (and_false (is_transfer q.kind))
        ∙ ap (λ b. b && (nat_le (first_sector rules q) i && nat_lt i (first_sector rules q + place_count rules q))) (and_false (is_partition p q.partition))

    by_kind : (p i : ℕ) (b : Bool) → is_transfer q.kind ≡ b → None ≡ (if b then within rules q else None) → has_sector rules p i q ≡ false
    by_kind p i true e h = by_bounds p i (is_in_bounds rules q) refl h
    by_kind p i false e h =
        ap (λ b. (is_partition p q.partition && (b && is_in_bounds rules q)) && (nat_le (first_sector rules q) i && nat_lt i (first_sector rules q + place_count rules q))) e
        ∙ ap (λ b. b && (nat_le (first_sector rules q) i && nat_lt i (first_sector rules q + place_count rules q))) (and_false (is_partition p q.partition))

and_true : (b : Bool) → (b && true) ≡ b
and_true true = refl
and_true false = refl

pub span_some : (rules : Rules) (q : ClientRequest) (partition : ℕ) (extent : Extent) → q.partition ≡ Some partition → Some extent ≡ moved rules q → (p i : ℕ)
    → has_sector rules p i q ≡ in_span (record { partition = partition; extent = extent }) p i
span_some rules q partition extent asked some p i = by_kind (is_transfer q.kind) refl some
  where
    by_bounds : is_transfer q.kind ≡ true → (b : Bool) → is_in_bounds rules q ≡ b → Some extent ≡ (if b then Some (extent_of rules q) else None)
        → has_sector rules p i q ≡ in_span (record { partition = partition; extent = extent }) p i
    by_bounds k false e h = absurd (cc (h))
    by_bounds k true e h =
        let is : extent ≡ extent_of rules q = cc (h) in
        ap (λ b. (is_partition p q.partition && (is_transfer q.kind && b)) && (nat_le (first_sector rules q) i && nat_lt i (first_sector rules q + place_count rules q))) e
        ∙ ap (λ b. (is_partition p q.partition && (b && true)) && (nat_le (first_sector rules q) i && nat_lt i (first_sector rules q + (if b then q.length / rules.sector_size else 1)))) k
        ∙ ap (λ b. b && (nat_le (first_sector rules q) i && nat_lt i (first_sector rules q + q.length / rules.sector_size))) (and_true (is_partition p q.partition))
        ∙ ap (λ o. is_partition p o && (nat_le (first_sector rules q) i && nat_lt i (first_sector rules q + q.length / rules.sector_size))) asked
        ∙ ap (λ (x : Extent). (partition == p) && (nat_le x.first i && nat_lt i (x.first + x.count))) (sym is)

    by_kind : (b : Bool) → is_transfer q.kind ≡ b → Some extent ≡ (if b then within rules q else None) → has_sector rules p i q ≡ in_span (record { partition = partition; extent = extent }) p i
    by_kind true e h = by_bounds e (is_in_bounds rules q) refl h
    by_kind false e h = absurd (cc (h))
