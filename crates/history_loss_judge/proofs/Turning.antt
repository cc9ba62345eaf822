-- A session ends at each sector.
use Rattle.std.proofs.Common.{◌≡◌, ◌<◌, ◌≤◌, ℕ, zero, suc, ◌+◌, List, [], ◌∷◌, ◌++◌, Option, Some, None, refl, sym, ◌∙◌, ap, subst, arith, map, take, drop, set, get_or, length, slice_get}
use Rattle.std.specs.Prelude.{Contains, option_map}
use Rattle.register_loss.specs.declared.Sight.{Sight}
use Rattle.history_loss_kept.specs.declared.Shared.{Shared}
use Rattle.history_loss_sector.specs.Seen.{SeenView, seen_after}
use Rattle.history_loss_judge.specs.declared.cells.Cells.{Cells}
use Rattle.history_loss_judge.specs.inside.Cells.{HasCells, IsCellOf, cell_at, cell_by, index_at, turned_by}

-- the first so many were changed
abbrev pub changed_to : {X : Type 0} → (X → X) → ℕ → List X → List X
changed_to f at xs = map f (take at xs) ++ drop at xs

pub changed_count : {X : Type 0} (f : X → X) (at : ℕ) (xs : List X) → length (changed_to f at xs) ≡ length xs
changed_count f zero xs = refl
changed_count f (suc at) [] = refl
changed_count f (suc at) (x ∷ xs) = ap suc (changed_count f at xs)

next_changed : {X : Type 0} (f : X → X) (at : ℕ) (xs : List X) (d : X) → at < length xs → set (changed_to f at xs) at (f (get_or (changed_to f at xs) at d)) ≡ changed_to f (suc at) xs
next_changed f at [] d low = absurd (omega (arith, low))
next_changed f zero (x ∷ xs) d low = refl
next_changed f (suc at) (x ∷ xs) d low = ap (λ ys. f x ∷ ys) (next_changed f at xs d (omega (arith, low)))

pub changed_next : {X : Type 0} (f : X → X) (at : ℕ) (xs ys : List X) (d : X) → at < length xs → ys ≡ changed_to f at xs → set ys at (f (get_or ys at d)) ≡ changed_to f (at + 1) xs
changed_next f at xs ys d low is =
    let e : suc at ≡ at + 1 = omega arith in
    ap (λ zs. set zs at (f (get_or zs at d))) is ∙ next_changed f at xs d low ∙ ap (λ n. changed_to f n xs) e

pub changed_all : {X : Type 0} (f : X → X) (at : ℕ) (xs : List X) → length xs ≤ at → changed_to f at xs ≡ map f xs
changed_all f zero [] end = refl
changed_all f (suc at) [] end = refl
changed_all f zero (x ∷ xs) end = absurd (omega (arith, end))
changed_all f (suc at) (x ∷ xs) end = ap (λ ys. f x ∷ ys) (changed_all f at xs (omega (arith, end)))

get_map : {X : Type 0} (f : X → X) (xs : List X) (k : ℕ) → slice_get (map f xs) k ≡ option_map f (slice_get xs k)
get_map f [] k = refl
get_map f (x ∷ xs) zero = refl
get_map f (x ∷ xs) (suc k) = get_map f xs k

length_map : {X : Type 0} (f : X → X) (xs : List X) → length (map f xs) ≡ length xs
length_map f [] = refl
length_map f (x ∷ xs) = ap suc (length_map f xs)

module _ (start : ℕ) (shared : List Shared) (last : Sight) where
  cell_turned : (kept : SeenView) (cell : Option SeenView) → IsCellOf start kept cell → IsCellOf start (seen_after shared last kept) (option_map (seen_after shared last) cell)
  cell_turned kept None h = ap (seen_after shared last) h
  cell_turned kept (Some cell) h = ap (seen_after shared last) h

  found_map : (cells : List SeenView) (found : Option ℕ) → option_map (seen_after shared last) (cell_by cells found) ≡ cell_by (map (seen_after shared last) cells) found
  found_map cells None = refl
  found_map cells (Some k) = sym (get_map (seen_after shared last) cells k)

  pub cells_turned : (kept : ℕ → SeenView) (old new : Cells) → new.index ≡ old.index → new.sectors ≡ old.sectors → new.cells.items ≡ map (seen_after shared last) old.cells.items → HasCells start kept old
      → HasCells start (turned_by shared last kept) new
  cells_turned kept old new index sectors cells h = record {
    cell = λ i.
        subst (IsCellOf start (turned_by shared last kept i))
        (found_map old.cells.items (index_at old.index i) ∙ ap (λ xs. cell_by xs (index_at old.index i)) (sym cells) ∙ ap (λ x. cell_by new.cells.items (index_at x i)) (sym index))
        (cell_turned (kept i) (cell_at old i) (h.cell i));
    listed = λ i k found. subst (λ xs. Contains xs.items i) (sym sectors) (h.listed i k (same_index i ∙ found));
    inside = λ i k found. let low : k < length old.cells.items = h.inside i k (same_index i ∙ found) in subst (λ n. k < n) (sym (ap length cells ∙ length_map (seen_after shared last) old.cells.items)) low;
    apart = λ i j k found other. h.apart i j k (same_index i ∙ found) (same_index j ∙ other);
  }
    where
      same_index : (i : ℕ) → index_at old.index i ≡ index_at new.index i
      same_index i = ap (λ x. index_at x i) (sym index)
