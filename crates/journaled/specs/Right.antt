-- When a step of a stack over a journal is right.
use Rattle.std.specs.Prelude.{◌≡◌, ◌⊎◌, ℕ, Bool, true, false, List, [], Option, Some, None}
use Rattle.sector.specs.declared.Extent.{Extent}
use Rattle.srb.specs.declared.Kind.{Kind}
use Rattle.io_manager.specs.declared.Reply.{Reply}
use Rattle.io_manager.specs.declared.Reply.TheVariants.{Refused, Request as Requested}
use Rattle.io_manager.specs.declared.Refusal.TheVariants.{InsufficientResources}
use Rattle.io_manager.specs.Shown.{ManagerView}
use Rattle.compose.specs.declared.Event.{Event}
use Rattle.compose.specs.declared.Event.TheVariants.{Act}
use Rattle.asking.specs.Asking.{bytes_of, kind_asked}
use Rattle.compose.specs.Right.{IsRight, opened_by}
use Rattle.compose.specs.StepLaws.{IsTransferEvent}
use Rattle.sector_journal.specs.declared.reservation.Reservation.{Reservation}
use Rattle.sector_journal.specs.Journal.{Admits, JournalView}
use Rattle.journaled.specs.Shown.{JournaledView, KeepsEntries}
use Rattle.journaled.specs.Acting.{BooksArmed}

-- before an act its tag's piece acts in the journal, and that is booked; before any other event nothing is, and nothing
-- is entered
abbrev pub BooksFor : JournaledView → Event → ManagerView → JournalView → Type 0
BooksFor old (Act tag) booked after = BooksArmed old.stack old.journal tag booked after
BooksFor old _ booked after = (booked ≡ old.stack) × KeepsEntries old.journal after

-- a right step of the stack, from where its act was booked
pub record StepsBooked (old : JournaledView) (event : Event) (reply : Reply) (new : JournaledView) : Type 0 where
  pub booked : ManagerView
  pub books : BooksFor old event booked new.journal
  pub right : IsRight booked event reply new.stack

-- the journal has no memory for the acts of a request: nothing happens
pub record LacksRoom (old : JournaledView) (event : Event) (reply : Reply) (new : JournaledView) : Type 0 where
  pub is_transfer : IsTransferEvent event
  pub replies : reply ≡ Refused InsufficientResources (bytes_of event)
  pub same : new.stack ≡ old.stack
  pub keeps : KeepsEntries old.journal new.journal

-- a step, or a refusal for want of memory in the journal
abbrev pub IsServed : JournaledView → Event → Reply → JournaledView → Type 0
IsServed old event reply new = StepsBooked old event reply new ⊎ LacksRoom old event reply new

-- THE JOURNAL'S ROOM

-- the event would open a request of this kind, on these sectors of the disk
pub record WouldOpen (v : ManagerView) (event : Event) (kind : Kind) (extent : Extent) : Type 0 where
  pub of_kind : kind_asked event ≡ Some kind
  pub pieces : ℕ
  pub moves : opened_by v event ≡ Some (pieces, extent)

-- the reservation is for the request that the event would open, under this number and in pieces as long as the stack's
pub record IsFor (v : ManagerView) (event : Event) (number : ℕ) (reservation : Reservation) : Type 0 where
  pub is_number : reservation.request ≡ number
  pub opens : WouldOpen v event reservation.kind reservation.extent
  pub longest : reservation.max_transfer ≡ v.rules.max_transfer

-- the reply opens a request
abbrev pub is_opened : Reply → Bool
is_opened (Requested id) = true
is_opened _ = false

-- where the step opened a request, the journal has room for its pieces, under its number, beside all that was reserved;
-- else just that is reserved
abbrev pub HoldsRoom : JournaledView → Event → Reply → JournaledView → Type 0
HoldsRoom old event (Requested id) new =
    (reservation : Reservation) × IsFor old.stack event id.number reservation × Admits old.journal reservation new.journal
HoldsRoom old event _ new = new.journal.reservations ≡ old.journal.reservations

-- room was made for the request that the event would open, under this number, or it would open none
abbrev pub MakesRoom : ManagerView → Event → ℕ → JournalView → JournalView → Type 0
MakesRoom v event number old new =
    ((opened_by v event ≡ None) × (new ≡ old))
    ⊎ ((reservation : Reservation) × IsFor v event number reservation × Admits old reservation new)
