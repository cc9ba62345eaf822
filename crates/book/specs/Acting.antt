-- The act of an entry that was booked.
use Rattle.std.specs.Prelude.{◌≡◌, ◌≢◌, ◌≤◌, ◌⊎◌, ℕ, [], ◌∷◌, length, slice_get, Some, Result, Ok, Err}
use Rattle.srb.specs.declared.Srb.{Srb}
use Rattle.srb.specs.declared.Entry.{Entry}
use Rattle.srb.specs.declared.Completion.{Completion}
use Rattle.srb.specs.declared.DeviceLabel.TheVariants.{Act as ActLabel}
use Rattle.adapter.specs.Booking.{IsArmed, IsOfSrb}
use Rattle.adapter.specs.Calls.{HasNoneFresh}
use Rattle.adapter.specs.View.{AdapterView}
use Rattle.machine.specs.declared.Label.TheVariants.{Device}
use Rattle.machine.specs.Rules.{Rules}
use Rattle.io_manager.specs.declared.Reply.TheVariants.{Ok as OkReply}
use Rattle.io_manager.specs.Right.{BooksPiece}
use Rattle.compose.specs.declared.Event.TheVariants.{Act}
use Rattle.sector_journal.specs.declared.acted.Entered.{Entered}
use Rattle.sector_journal.specs.Journal.{JournalView}
use Rattle.traced.specs.Traced.{TracedView, IsCarried}

-- the journal has as many sectors as the stack's disk, of the same size
pub record IsAsLarge (rules : Rules) (journal : JournalView) : Type 0 where
  pub sector_size : journal.medium.sector_size ≡ rules.sector_size
  pub sectors : length journal.medium.sectors ≡ rules.disk_sectors

-- the stack can take the entry: its piece may act on its tag, by an SRB that asks for what it did
pub record TakesEntry (rules : Rules) (view : AdapterView) (entry : Entry) : Type 0 where
  pub srb : Srb
  pub is_armed : IsArmed view entry.tag entry.piece srb
  pub of_srb : IsOfSrb rules.sector_size rules.disk_sectors srb entry

-- it can't: no piece may act on the entry's tag, or the one that may is another, or its SRB asks for something else
abbrev pub TakesNot : Rules → AdapterView → Entry → Type 0
TakesNot rules view entry =
    HasNoneFresh view entry.tag
    ⊎ ((piece : ℕ) × (srb : Srb) × IsArmed view entry.tag piece srb × ((piece ≢ entry.piece) ⊎ (IsOfSrb rules.sector_size rules.disk_sectors srb entry → ⊥)))

-- there is an entry of this number, and the stack can take it
pub record MayBook (rules : Rules) (view : AdapterView) (journal : JournalView) (number : ℕ) : Type 0 where
  pub entered : Entered
  pub there : slice_get journal.entered number ≡ Some entered
  pub takes : TakesEntry rules view entered.entry

-- all entries before this number are all that there are, or the stack can't take the entry of this number
abbrev pub HasNoNext : Rules → AdapterView → JournalView → ℕ → Type 0
HasNoNext rules view journal number =
    (length journal.entered ≤ number) ⊎ ((entered : Entered) × (slice_get journal.entered number ≡ Some entered) × TakesNot rules view entered.entry)

-- what a piece did elsewhere is booked, and nothing else changes
pub record HoldsBooked (old : TracedView) (tag piece : ℕ) (what : Result Entry Completion) (new : TracedView) : Type 0 where
  pub books : BooksPiece old.stack tag piece what new.stack
  pub same : new ≡ record old { stack = new.stack }

-- the entry is booked, and then the right act of its tag is made, which tells just that
pub record ActsEntry (old : TracedView) (entry : Entry) (new : TracedView) : Type 0 where
  pub held : TracedView
  pub holds : HoldsBooked old entry.tag entry.piece (Ok entry) held
  pub carried : IsCarried 0 held (Act entry.tag) OkReply new
  pub tells : carried.stepped.labels ≡ Device (ActLabel entry.piece entry.bytes) ∷ []

-- the failure of the tag's piece is booked, if one could act; else nothing changes
abbrev pub BooksFailure : TracedView → ℕ → Completion → TracedView → Type 0
BooksFailure old tag completion new =
    ((piece : ℕ) × (srb : Srb) × IsArmed old.stack.adapter tag piece srb × HoldsBooked old tag piece (Err completion) new)
    ⊎ (HasNoneFresh old.stack.adapter tag × (new ≡ old))
