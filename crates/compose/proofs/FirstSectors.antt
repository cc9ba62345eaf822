-- The first sectors of partitions, gathered one by one.
use Rattle.compose.proofs.Common.{◌≡◌, ◌≢◌, ◌<◌, ℕ, ◌+◌, List, Some, sym, ◌∙◌, ap, arith, length, get_or, below_more, slice_get, slice_set, length-set, get_or-set_same, get_or-set_other, slice_get-get_or, get_or_from_slice_get, Extent}

-- at the number of a partition stands its first sector
abbrev pub IsFirstAt : List ℕ → List Extent → ℕ → Type 0
IsFirstAt firsts partitions p = (extent : Extent) → slice_get partitions p ≡ Some extent → slice_get firsts p ≡ Some extent.first

pub first_more : (firsts : List ℕ) (partitions : List Extent) (n : ℕ) (d : Extent) → n < length firsts → ((p : ℕ) → p < n → IsFirstAt firsts partitions p)
    → (p : ℕ) → p < n + 1 → IsFirstAt (slice_set firsts n (get_or partitions n d).first) partitions p
first_more firsts partitions n d low before = below_more (IsFirstAt (slice_set firsts n (get_or partitions n d).first) partitions) n earlier here
  where
    as_long : length (slice_set firsts n (get_or partitions n d).first) ≡ length firsts
    as_long = length-set firsts n (get_or partitions n d).first

    earlier : (p : ℕ) → p < n → IsFirstAt (slice_set firsts n (get_or partitions n d).first) partitions p
    earlier p lower extent there =
        let other : p ≢ n = λ e. absurd (omega (arith, lower, e)) in
        let within : p < length (slice_set firsts n (get_or partitions n d).first) = let same = as_long in omega (arith, lower, low, same) in
        let past : p < length firsts = omega (arith, lower, low) in
        slice_get-get_or (slice_set firsts n (get_or partitions n d).first) p 0 within ∙ ap Some (get_or-set_other firsts n p (get_or partitions n d).first 0 other) ∙ sym (slice_get-get_or firsts p 0 past) ∙ before p lower extent there

    here : IsFirstAt (slice_set firsts n (get_or partitions n d).first) partitions n
    here extent there =
        let within : n < length (slice_set firsts n (get_or partitions n d).first) = let same = as_long in omega (arith, low, same) in
        slice_get-get_or (slice_set firsts n (get_or partitions n d).first) n 0 within ∙ ap Some (get_or-set_same firsts n (get_or partitions n d).first 0 low ∙ ap (λ (e : Extent). e.first) (get_or_from_slice_get partitions n extent d there))
