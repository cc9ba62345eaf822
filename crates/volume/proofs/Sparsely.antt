-- What is known of zeros after a call.
use Rattle.volume.proofs.Common.{◌≡◌, ◌<◌, ◌≤◌, ◌⊎◌, inl, inr, ℕ, ◌+◌, ◌%◌, List, refl, sym, subst, arith, length, IsTrue, MatchResult, VolumeView}
use Rattle.std.specs.Prelude.{IfOk, Result, Ok, Err}
use Rattle.volume.specs.declared.Error.{Error}
use Rattle.volume.specs.declared.Error.TheVariants.{Refused, Failed}
use Rattle.volume.specs.declared.Run.{Run}
use Rattle.volume.specs.declared.written.Written.{Written}
use Rattle.volume.specs.Calls.{AreInBounds, IsSameDisk, IsWriteFault, Writes}
use Rattle.volume.specs.Shown.{Content}
use Rattle.volume.specs.Sparse.{AreSectors, IsRun}
use Rattle.volume.specs.inside.Written.{AreUntouched, HoldsZeros}
use Rattle.volume.proofs.Zeros.{Keeps, Marks, whole_sectors, zeros_after, zeros_kept, zeros_there}

pub zeros_same : (w : Written) (old new : VolumeView) → HoldsZeros w old.content.bytes → IsSameDisk old new → HoldsZeros w new.content.bytes
zeros_same w old new h same = subst (λ (c : Content). HoldsZeros w c.bytes) (sym same.content) h

module _ (w w' : Written) (old new : VolumeView) (offset : ℕ) (bytes : List ℕ) (keeps : Keeps w w') (marks : Marks w' offset (length bytes) (length old.content.bytes)) (h : HoldsZeros w old.content.bytes) where
  zeros_spliced : (others : List ℕ) → length others ≡ length bytes → offset + length bytes ≤ length old.content.bytes → Writes old offset others new → HoldsZeros w' new.content.bytes
  zeros_spliced others long inside writes =
      subst (λ (c : Content). HoldsZeros w' c.bytes) (sym writes.content)
      (zeros_after w w' old.content.bytes offset others (length old.content.bytes) (subst (λ n. offset + n ≤ length old.content.bytes) (sym long) inside) (omega arith) keeps
      (subst (λ n. Marks w' offset n (length old.content.bytes)) (sym long) marks) h)

  pub zeros_written : {X : Type 0} (r : Result X Error) → IfOk r (λ _. AreInBounds old.content offset (length bytes))
      → MatchResult r (λ _. Writes old offset bytes new) (λ fault. IsWriteFault old offset bytes fault new) → HoldsZeros w' new.content.bytes
  zeros_written (Ok value) inside writes = zeros_spliced bytes refl inside.inside writes
  zeros_written (Err (Refused reason)) inside fault = zeros_same w' old new (zeros_kept w w' old.content.bytes keeps h) fault.1
  zeros_written (Err (Failed status)) inside fault = zeros_spliced fault.2.mixed fault.2.are_mixed.long fault.0.inside fault.2.writes

-- a run of whole chunks, or of all
pub run_there : (w : Written) (c : Content) (offset count : ℕ) (run : Run) → HoldsZeros w c.bytes → (c.sector_size ≡ 512) ⊎ (c.sector_size ≡ 4096) → AreSectors c offset count
    → 0 < run.count → run.count ≤ count → (run.count ≡ count) ⊎ ((offset + run.count) % 32768 ≡ 0) → (IsTrue run.are_zeros → AreUntouched w offset run.count) → IsRun c offset count run
run_there w c offset count run h usual sectors some few whole untouched =
    let inside : offset + count ≤ length c.bytes = sectors.inside in
    let fits : offset + run.count ≤ length c.bytes = omega arith in
    record {
      at_most = few;
      sectors = record { some = some; begins = sectors.begins; ends = ends whole; inside = fits };
      zeros = λ are. zeros_there w c.bytes offset run.count h fits (untouched are);
    }
  where
    ends : (run.count ≡ count) ⊎ ((offset + run.count) % 32768 ≡ 0) → run.count % c.sector_size ≡ 0
    ends (inl all) = subst (λ n. n % c.sector_size ≡ 0) (sym all) sectors.ends
    ends (inr chunks) = whole_sectors c.sector_size offset run.count usual sectors.begins chunks
