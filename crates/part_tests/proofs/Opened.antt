-- The sizes of an adapter.
use Rattle.std.proofs.Common.{◌≡◌, ℕ, true, length}
use Rattle.adapter.specs.View.{AdapterView}
use Rattle.port.specs.Opening.{sizes_of}

-- the sizes of an adapter that are known one by one
pub sizes_is : (a : AdapterView) (sectors transfer : ℕ) → a.sector_size ≡ 512 → length a.sectors ≡ sectors → a.max_transfer ≡ transfer → a.depth ≡ 2 → a.faithful ≡ true → a.keeps_bytes ≡ true
    → sizes_of a ≡ record { sector_size = 512; sectors = sectors; max_transfer = transfer; depth = 2; faithful = true; keeps_bytes = true }
sizes_is a sectors transfer size count most depth faithful keeps =
    let e : a.sector_size ≡ 512 = size in
    let f : length a.sectors ≡ sectors = count in
    let g : a.max_transfer ≡ transfer = most in
    let h : a.depth ≡ 2 = depth in
    let i : a.faithful ≡ true = faithful in
    let j : a.keeps_bytes ≡ true = keeps in
    cc
