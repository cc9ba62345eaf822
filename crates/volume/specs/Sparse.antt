-- What is known of a partition that was zeros when it was opened.
use Rattle.std.specs.Prelude.{◌≡◌, ◌<◌, ◌≤◌, ℕ, ◌+◌, ◌%◌, List, length, replicate, slice_range, IsTrue}
use Rattle.volume.specs.declared.Run.{Run}
use Rattle.volume.specs.Shown.{Content}

-- all of these bytes are zeros
abbrev pub AreZeros : List ℕ → Type 0
AreZeros bytes = bytes ≡ replicate (length bytes) 0

-- this many bytes from this one on are whole sectors of the partition, one at least
pub record AreSectors (c : Content) (offset count : ℕ) : Type 0 where
  pub some : 0 < count
  pub begins : offset % c.sector_size ≡ 0
  pub ends : count % c.sector_size ≡ 0
  pub inside : offset + count ≤ length c.bytes

-- a run that begins at this byte, and has at most so many bytes: whole sectors of the partition, and zeros where it says so
pub record IsRun (c : Content) (offset count : ℕ) (run : Run) : Type 0 where
  pub at_most : run.count ≤ count
  pub sectors : AreSectors c offset run.count
  pub zeros : IsTrue run.are_zeros → slice_range c.bytes offset (offset + run.count) ≡ replicate run.count 0
