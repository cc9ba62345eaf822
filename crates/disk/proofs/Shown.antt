-- What a disk in memory shows is as large as the disk.
use Rattle.std.proofs.Common.{◌≡◌, ℕ, ◌+◌, ◌-◌, ◌*◌, ◌≤◌, [], replicate, Result, Ok, Err, IfOk, arith, sym, ap, ◌∙◌}
use Rattle.sector.specs.declared.Extent.{Extent}
use Rattle.disk.specs.declared.vec_disk.VecDisk.{VecDisk}
use Rattle.disk.specs.declared.NoMemory.{NoMemory}
use Rattle.disk.specs.Medium.{IsWithin, StartsWith, IsBlank}
use Rattle.disk.specs.VecDisk.{shown}
use Rattle.disk.proofs.Cutting.{length-first_chunks, blank_from_concat}

-- an extent within what is shown lies within the disk
pub within_sectors : (disk : VecDisk) (extent : Extent) → IsWithin (shown disk) extent → extent.first + extent.count ≤ disk.sectors
within_sectors disk extent within = omega (arith, within, length-first_chunks disk.sector_size disk.sectors disk.bytes.items)

-- a disk that starts with no bytes is blank
blank_from_start : (size count : ℕ) (disk : VecDisk) → StartsWith (shown disk) size count [] → IsBlank (shown disk) size count
blank_from_start size count disk h =
    let counted : disk.sectors ≡ count = sym (length-first_chunks disk.sector_size disk.sectors disk.bytes.items) ∙ h.count_is in
    let product : count * size ≡ disk.sectors * disk.sector_size = ap (λ (n : ℕ). n * size) (sym counted) ∙ ap (λ (n : ℕ). disk.sectors * n) (sym h.size_is) in
    let all : count * size - 0 ≡ disk.sectors * disk.sector_size = omega (arith, product) in
    record {
      size_is = h.size_is;
      zeros = blank_from_concat disk.sector_size disk.sectors disk.bytes.items disk.filled
          (h.bytes_are ∙ ap (λ (n : ℕ). replicate {A = ℕ} n 0) all)
          ∙ (ap (λ (n : ℕ). replicate n (replicate disk.sector_size 0)) counted ∙ ap (λ (n : ℕ). replicate count (replicate n 0)) h.size_is);
      none_failed = h.none_failed;
    }

pub blank_if_started : (size count : ℕ) (result : Result VecDisk NoMemory) → IfOk result (λ disk. StartsWith (shown disk) size count [])
    → IfOk result (λ disk. IsBlank (shown disk) size count)
blank_if_started size count (Ok disk) h = blank_from_start size count disk h
blank_if_started size count (Err fault) h = h
