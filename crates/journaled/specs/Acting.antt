-- What the act of a piece comes to, in the journal and at the adapter.
use Rattle.std.specs.Prelude.{◌≡◌, ◌⊎◌, ◌<◌, ℕ, List, length, slice_get, Some, Result, Ok, Err}
use Rattle.srb.specs.declared.Srb.{Srb}
use Rattle.srb.specs.declared.Entry.{Entry}
use Rattle.srb.specs.declared.Completion.{Completion}
use Rattle.srb.specs.declared.Class.TheVariants.{Bad}
use Rattle.srb.specs.Fate.{class_of}
use Rattle.adapter.specs.Calls.{HasNoneFresh}
use Rattle.adapter.specs.Booking.{IsArmed}
use Rattle.io_manager.specs.Shown.{ManagerView}
use Rattle.io_manager.specs.Right.{BooksPiece}
use Rattle.sector_journal.specs.declared.acted.Entered.{Entered}
use Rattle.sector_journal.specs.Journal.{JournalView, MayArm, Arms, Acts}

-- IN THE JOURNAL

-- the piece is armed, and then acts or fails
pub record ActsThere (old : JournalView) (tag piece : ℕ) (srb : Srb) (done : Result ℕ Completion)
    (new : JournalView) : Type 0 where
  pub may : MayArm old tag srb
  pub armed : JournalView
  pub arms : Arms old tag piece srb armed
  pub acts : Acts armed tag piece done new

-- the piece may not be armed: it fails, and nothing changes
pub record FailsUnarmed (old : JournalView) (tag : ℕ) (srb : Srb) (done : Result ℕ Completion)
    (new : JournalView) : Type 0 where
  pub completion : Completion
  pub may_not : ¬ (MayArm old tag srb)
  pub fails : done ≡ Err completion
  pub is_bad : class_of completion ≡ Bad completion
  pub same : new ≡ old

abbrev pub CameTo : JournalView → ℕ → ℕ → Srb → Result ℕ Completion → JournalView → Type 0
CameTo old tag piece srb done new = ActsThere old tag piece srb done new ⊎ FailsUnarmed old tag srb done new

-- AT THE ADAPTER

-- the number is that of an entry
abbrev pub IsNumbered : List Entered → Result ℕ Completion → Type 0
IsNumbered entered (Ok number) = number < length entered
IsNumbered entered (Err completion) = Unit {0}

-- what is booked is the entry of the number, or the failure
abbrev pub IsThat : List Entered → Result ℕ Completion → Result Entry Completion → Type 0
IsThat entered (Ok number) (Ok entry) = (own : Entered) × (slice_get entered number ≡ Some own) × (entry ≡ own.entry)
IsThat entered (Err completion) (Err booked) = booked ≡ completion
IsThat entered _ _ = ⊥

-- what came of the tag's piece in the journal is booked
pub record HasBooked (old : ManagerView) (before : JournalView) (tag : ℕ) (new : ManagerView)
    (after : JournalView) : Type 0 where
  pub piece : ℕ
  pub srb : Srb
  pub done : Result ℕ Completion
  pub what : Result Entry Completion
  pub armed : IsArmed old.adapter tag piece srb
  pub came_to : CameTo before tag piece srb done after
  pub is_that : IsThat after.entered done what
  pub books : BooksPiece old tag piece what new

-- no piece on the tag could act, and nothing changes
pub record HasNoneToBook (old : ManagerView) (before : JournalView) (tag : ℕ) (new : ManagerView)
    (after : JournalView) : Type 0 where
  pub none : HasNoneFresh old.adapter tag
  pub same_stack : new ≡ old
  pub same_journal : after ≡ before

abbrev pub BooksArmed : ManagerView → JournalView → ℕ → ManagerView → JournalView → Type 0
BooksArmed old before tag new after = HasBooked old before tag new after ⊎ HasNoneToBook old before tag new after
