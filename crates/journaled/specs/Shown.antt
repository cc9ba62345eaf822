-- What a stack over a journal shows.
use Rattle.std.specs.Prelude.{◌≡◌, ◌≤◌, ◌<◌, ◌^◌, ℕ, ◌+◌, ◌-◌, min, List, [], ◌∷◌, IsFalse, IsTrue, All, length}
use Rattle.sector.specs.Extents.{IsSector}
use Rattle.machine.specs.Map.{IsMap}
use Rattle.io_manager.specs.Shown.{ManagerView}
use Rattle.machine.specs.declared.Label.{Label}
use Rattle.machine.specs.declared.Label.TheVariants.{Answer, Call}
use Rattle.sector_journal.specs.declared.reservation.Reservation.{Reservation}
use Rattle.sector_journal.specs.Journal.{JournalView, without}

pub record JournaledView : Type 0 where
  pub stack : ManagerView
  pub journal : JournalView

abbrev pub over : ManagerView → JournalView → JournaledView
over stack journal = record { stack = stack; journal = journal }

-- the stack's adapter moves no sectors, and the journal has as many as the stack, of the same size
pub record StandsIn (stack : ManagerView) (journal : JournalView) : Type 0 where
  pub apart : IsFalse stack.adapter.faithful
  pub sector_size : journal.medium.sector_size ≡ stack.rules.sector_size
  pub sectors : length journal.medium.sectors ≡ stack.rules.disk_sectors

-- these sectors are whole, and are as many as the disk of the stack has
pub record IsDiskOf (sectors : List (List ℕ)) (stack : ManagerView) : Type 0 where
  pub whole : All (IsSector stack.rules.sector_size) sectors
  pub many : length sectors ≡ stack.rules.disk_sectors

-- the number of the next call once these labels were taken
abbrev pub next_behind : ℕ → List Label → ℕ
next_behind next [] = next
next_behind next (Call number q ∷ labels) = next_behind (min (number + 1) (2 ^ 64 - 1)) labels
next_behind next (_ ∷ labels) = next_behind next labels

-- the reservation is for a request of a lower number
abbrev pub IsBelow : ℕ → Reservation → Type 0
IsBelow number reservation = reservation.request < number

-- what holds between two calls: the journal was opened with the sectors of the disk, which the partitions lie in, and
-- pieces are as long as the stack's. The number of the next call is known once all labels are taken, and room is held for calls before it alone
pub record JournaledKept (opening : List (List ℕ)) (stack : ManagerView) (journal : JournalView)
    (max_transfer next : ℕ) : Type 0 where
  pub stands : StandsIn stack journal
  pub map : IsMap stack.rules.disk_sectors stack.rules.partitions
  pub disk : IsDiskOf opening stack
  pub some : 1 ≤ max_transfer
  pub longest : max_transfer ≡ stack.rules.max_transfer
  pub bytes : IsTrue stack.rules.keeps_bytes
  pub counts : next_behind next stack.labels ≡ stack.state.next_request
  pub before : All (IsBelow stack.state.next_request) journal.reservations

-- both have the same number of sectors, of the same length
pub record IsAsLarge (old new : JournalView) : Type 0 where
  pub sector_size : new.medium.sector_size ≡ old.medium.sector_size
  pub sectors : length new.medium.sectors ≡ length old.medium.sectors

-- the room of a request is given back with the label of its answer, and with no other
abbrev pub GivesBack : Label → List Reservation → List Reservation → Type 0
GivesBack (Answer number status information bytes) old new = without number old new
GivesBack _ old new = new ≡ old

-- nothing was entered
pub record KeepsEntries (old new : JournalView) : Type 0 where
  pub entries : new.entered ≡ old.entered
  pub same_sectors : new.medium.sectors ≡ old.medium.sectors
  pub same_size : new.medium.sector_size ≡ old.medium.sector_size
