-- What a piece read, sector by sector.
use Rattle.std.proofs.Common.{◌≡◌, ◌<◌, ◌≤◌, inl, inr, ℕ, suc, ◌+◌, ◌-◌, ◌*◌, ◌/◌, List, [], ◌∷◌, ◌++◌, Ok, Err, length, take, drop, sym, ap, subst, ◌∙◌, arith, length-drop, length-append}
use Rattle.std.proofs.Math.Seq.{drop-append-add}
use Rattle.std.proofs.lemmas.Bool.{cases_lt}
use Rattle.std.proofs.lemmas.List.{drop-append-le, take-append-le}
use Rattle.sector.specs.declared.Extent.{Extent}
use Rattle.file_disk.specs.declared.file_disk.Task.TheVariants.{Read as ReadTask}
use Rattle.file_disk.specs.Calls.{Call, ReadAt, WriteAt, Sync, Reads}
use Rattle.file_disk.specs.Transfers.{Does}
use Rattle.loss.specs.Held.{Held, IsOneOf, sector_in}
use Rattle.loss.specs.Moved.{Table}
use Rattle.file_sessions.specs.Stored.{Content, IsKept, held}
use Rattle.file_sessions.specs.Within.{IsWithin}
use Rattle.file_sessions.proofs.Writing.{times_over, whole}
use Rattle.file_sessions.proofs.Filing.{reads_nothing}

room : (size k b : ℕ) → k < b → k * size + size ≤ b * size
room size k b low = by_rest (b - suc k) (omega arith)
  where
    by_rest : (m : ℕ) → b ≡ suc k + m → k * size + size ≤ b * size
    by_rest m e = rw e (omega arith)

-- a sector of two parts laid end to end
left_sector : (size k b : ℕ) (xs ys : List ℕ) → length xs ≡ b * size → k < b → sector_in size k (xs ++ ys) ≡ sector_in size k xs
left_sector size k b xs ys long low =
    let fits : k * size + size ≤ b * size = room size k b low in
    let inside : k * size ≤ length xs = omega arith in
    let short : size ≤ length (drop (k * size) xs) = omega (arith, length-drop (k * size) xs) in
    ap (λ (zs : List ℕ). take size zs) (drop-append-le (k * size) xs ys inside) ∙ take-append-le size (drop (k * size) xs) ys short

right_sector : (size k b : ℕ) (xs ys : List ℕ) → length xs ≡ b * size → sector_in size (b + k) (xs ++ ys) ≡ sector_in size k ys
right_sector size k b xs ys long =
    let n : (b + k) * size ≡ length xs + k * size = omega arith in
    ap (λ (m : ℕ). take size (drop m (xs ++ ys))) n ∙ ap (λ (zs : List ℕ). take size zs) (drop-append-add xs ys (k * size))

module _ (size : ℕ) (content : Content) (first : ℕ) (before : List Call) (t : Table) (some : 0 < size) (within : (i : ℕ) → IsWithin (held size i (content i) before) (t i)) where
  -- so many sectors came, each of which may be given
  abbrev Came : List ℕ → Type 0
  Came got = (b : ℕ) × (length got ≡ b * size) × ((k : ℕ) → k < b → IsOneOf (sector_in size k got) (t (first + k)).now)

  joined : (had gave : List ℕ) (g : ℕ) (came : Came had) → length gave ≡ g * size → ((k : ℕ) → k < g → IsOneOf (sector_in size k gave) (t (first + came.0 + k)).now) → Came (had ++ gave)
  joined had gave g came long each = (came.0 + g, sum, all)
    where
      sum : length (had ++ gave) ≡ (came.0 + g) * size
      sum = omega (arith, length-append had gave, came.1, long)

      all : (k : ℕ) → k < came.0 + g → IsOneOf (sector_in size k (had ++ gave)) (t (first + k)).now
      all k low =
          elim (cases_lt k came.0) [
            | inl early ↦ subst (λ (v : List ℕ). IsOneOf v (t (first + k)).now) (sym (left_sector size k came.0 had gave came.1 early)) (came.2 k early)
            | inr late ↦
                let n : came.0 + (k - came.0) ≡ k = omega arith in
                let place : first + came.0 + (k - came.0) ≡ first + k = omega arith in
                let there : IsOneOf (sector_in size (k - came.0) gave) (t (first + came.0 + (k - came.0))).now = each (k - came.0) (omega arith) in
                let same : sector_in size (k - came.0) gave ≡ sector_in size k (had ++ gave) =
                sym (right_sector size (k - came.0) came.0 had gave came.1) ∙ ap (λ (m : ℕ). sector_in size m (had ++ gave)) n in
                subst (λ (i : ℕ). IsOneOf (sector_in size k (had ++ gave)) (t i).now) place
                (subst (λ (v : List ℕ). IsOneOf v (t (first + came.0 + (k - came.0))).now) same there)
          ]

  came : (count : ℕ) (got : List ℕ) (calls : List Call) → Reads (first * size) count got calls → IsKept size content (calls ++ before) → Came got
  came count got [] h kept = (0, none h, λ k low. absurd (omega (arith, low)))
    where
      none : got ≡ [] → length got ≡ 0 * size
      none e = rw e (omega arith)
  came count got (ReadAt at asked (Ok gave) ∷ calls) h kept =
      let had : Came h.0 = came count h.0 calls h.4 kept.1 in
      let g : ℕ = length gave / size in
      let at_is : at / size ≡ first + had.0 = ap (λ (n : ℕ). n / size) (start at had.0 (length h.0) h.2 had.1) ∙ times_over size (first + had.0) some in
      subst (λ (xs : List ℕ). Came xs) (sym h.1)
      (joined h.0 gave g had (whole size (length gave) kept.0.whole)
      (λ k low. subst (λ (m : ℕ). IsOneOf (sector_in size k gave) (t (m + k)).now) at_is
      ((within (at / size + k)).now (sector_in size k gave)
      (subst (λ (x : Held). IsOneOf (sector_in size k gave) x.now) (reads_nothing size (at / size + k) (first * size) count (content (at / size + k)) h.0 before calls h.4) (kept.0.each k low)))))
    where
      start : (at b n : ℕ) → at ≡ first * size + n → n ≡ b * size → at ≡ (first + b) * size
      start at b n e e' = omega arith
  came count got (ReadAt at asked (Err why) ∷ calls) h kept = absurd h
  came count got (WriteAt at rest took ∷ calls) h kept = absurd h
  came count got (Sync fault ∷ calls) h kept = absurd h

pub reads_are_shown : (size : ℕ) (content : Content) (extent : Extent) (bytes got : List ℕ) (calls before : List Call) (t : Table)
    → 0 < size → length bytes ≡ extent.count * size → IsKept size content (calls ++ before) → Does (extent.first * size) bytes ReadTask (Ok got) calls
    → ((i : ℕ) → IsWithin (held size i (content i) before) (t i))
    → (k : ℕ) → k < extent.count → IsOneOf (sector_in size k got) (t (extent.first + k)).now
reads_are_shown size content extent bytes got calls before t some long kept does within k low =
    let it : Came size content extent.first before t some within got = came size content extent.first before t some within (length got) got calls does.1 kept in
    let n : it.0 ≡ extent.count = sym (times_over size it.0 some) ∙ ap (λ (m : ℕ). m / size) (sym it.1 ∙ does.0 ∙ long) ∙ times_over size extent.count some in
    it.2 k (subst (λ (m : ℕ). k < m) (sym n) low)
