-- What came of a piece that was handed to a thread.
use Rattle.std.specs.Prelude.{◌≡◌, ℕ, Bool, List, [], ◌∷◌, Result}
use Rattle.srb.specs.declared.Entry.{Entry}
use Rattle.srb.specs.declared.Completion.{Completion}
use Rattle.adapter.specs.Booking.{Suits}
use Rattle.file_disk.specs.Calls.{Call}
use Rattle.file_disk.specs.declared.file_disk.Sizes.{Sizes}
use Rattle.file_disk.specs.declared.record.Record.{Record}
use Rattle.file_disk.specs.Transfers.{DiskView, IsOfPiece, Transfers}
use Rattle.movers.specs.declared.ask.Ask.{Ask}

pub record MoversView : Type 0 where
  -- all that was asked, in order
  pub asks : List Ask
  pub sizes : Sizes

pub record DoneView : Type 0 where
  -- the place of what was asked
  pub at : ℕ
  pub ask : Ask
  pub what : Result Entry Completion
  pub sizes : Sizes
  -- the thread's disk, with all its calls so far, before the piece and after it
  pub before : DiskView
  pub after : DiskView

-- the calls of a record that was noted
abbrev pub calls_in : List Record → List Call
calls_in [] = []
calls_in (noted ∷ more) = noted.calls

-- a disk of these sizes, with these calls
abbrev pub disk_of : Sizes → Bool → List Call → DiskView
disk_of sizes full calls = record {
  sector_size = sizes.sector_size;
  sectors = sizes.sectors;
  write_protected = sizes.write_protected;
  full = full;
  calls = calls;
}

pub record HasSizes (sizes : Sizes) (disk : DiskView) : Type 0 where
  pub sector_size : disk.sector_size ≡ sizes.sector_size
  pub sectors : disk.sectors ≡ sizes.sectors
  pub write_protected : disk.write_protected ≡ sizes.write_protected

-- a disk of these sizes carried out what was asked, by just the calls from one state to the other, and this came of it
pub record IsMoved (sizes : Sizes) (ask : Ask) (what : Result Entry Completion) (before after : DiskView) : Type 0 where
  pub has_sizes : HasSizes sizes before
  pub transfers : Transfers before ask.tag ask.piece ask.srb what after
  pub suits : Suits sizes.sector_size sizes.sectors ask.srb what
  pub of_piece : IsOfPiece ask.tag ask.piece what

-- a disk went from one state to the other by this task
pub record IsMade (old : DiskView) (done : DoneView) (new : DiskView) : Type 0 where
  pub from : done.before ≡ old
  pub to : done.after ≡ new
  pub moved : IsMoved done.sizes done.ask done.what done.before done.after

-- it was asked for just these tasks, one after the other; the newest stands first
abbrev pub AreMade : DiskView → List DoneView → DiskView → Type 0
AreMade old [] new = new ≡ old
AreMade old (done ∷ dones) new = (mid : DiskView) × AreMade old dones mid × IsMade mid done new

-- it was asked for nothing but tasks
abbrev pub MadeTasks : DiskView → DiskView → Type 0
MadeTasks old new = (dones : List DoneView) × AreMade old dones new
