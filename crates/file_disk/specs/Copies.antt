-- An SRB of its own for a thread that moves the bytes of a piece.
use Rattle.std.specs.Prelude.{◌≡◌, ℕ, Result}
use Rattle.srb.specs.declared.Srb.{Srb}
use Rattle.srb.specs.declared.Entry.{Entry}
use Rattle.srb.specs.declared.Completion.{Completion}
use Rattle.adapter.specs.Booking.{Suits, entry_sent}
use Rattle.file_disk.specs.Transfers.{DiskView, Transfers}

-- the copy asks for the same, with the same bytes
pub record IsCopyOf (srb copy : Srb) : Type 0 where
  pub same_function : copy.function ≡ srb.function
  pub same_flags : copy.flags ≡ srb.flags
  pub same_block : copy.block ≡ srb.block
  pub same_data : copy.data ≡ srb.data

-- the law: what a disk did for a copy, it did for the SRB itself
abbrev pub CopiesTransfer : Type 0
CopiesTransfer = (old new : DiskView) (tag piece : ℕ) (srb copy : Srb) (what : Result Entry Completion)
    → IsCopyOf srb copy → Transfers old tag piece copy what new → Transfers old tag piece srb what new

-- the law: what suits a copy suits the SRB itself
abbrev pub CopiesSuit : Type 0
CopiesSuit = (size sectors : ℕ) (srb copy : Srb) (what : Result Entry Completion) → IsCopyOf srb copy → Suits size sectors copy what → Suits size sectors srb what

-- the law: the entry of what a copy sends is that of what the SRB itself sends
abbrev pub CopiesSend : Type 0
CopiesSend = (tag piece : ℕ) (srb copy : Srb) → IsCopyOf srb copy → entry_sent tag piece copy ≡ entry_sent tag piece srb
