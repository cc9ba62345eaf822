-- What a journal keeps beside what it shows.
use Rattle.std.specs.Prelude.{◌≡◌, ◌≤◌, ℕ, ◌+◌, List, length, All, Option, Some, slice_get}
use Rattle.cdb.specs.declared.Cdb.{Cdb}
use Rattle.cdb.specs.Meaning.{Means}
use Rattle.srb.specs.declared.Kind.{Kind}
use Rattle.srb.specs.Replaying.{Replays}
use Rattle.sector.specs.declared.Extent.{Extent}
use Rattle.sector.specs.Extents.{IsSector}
use Rattle.disk.specs.Medium.{MediumView}
use Rattle.miniport.specs.Carrying.{IsReady}
use Rattle.sector_journal.specs.declared.acted.Entered.{Entered}
use Rattle.sector_journal.specs.declared.slots.Armed.{Armed}
use Rattle.sector_journal.specs.declared.reservation.Reservation.{Reservation}
use Rattle.sector_journal.specs.Entering.{named}
use Rattle.sector_journal.specs.Slots.{armed_at, armed_count}
use Rattle.sector_journal.specs.Journal.{entries_in, AreOfArmings, IsHeld}

-- what an armed piece has
pub record CanEnter (medium : MediumView) (armed : Armed) : Type 0 where
  pub ready : IsReady medium armed.srb
  pub names : (command : Cdb) → Means armed.srb.block command → (what : Kind × Extent) × (named command ≡ Some what)

-- the piece that may act on a tag, and its place among all armings
pub record MayAct (medium : MediumView) (armings : List Armed) (tag : ℕ) (armed : Armed) : Type 0 where
  pub can_enter : CanEnter medium armed
  pub is_tag : armed.tag ≡ tag
  pub noted : slice_get armings armed.number ≡ Some armed

-- the entries give the sectors, replayed from those that the journal was opened with; and whatever is armed can act
pub record JournalKept (opening : List (List ℕ)) (medium : MediumView) (entered : List Entered) (places : ℕ) (slots : List (Option Armed)) (armings : List Armed) (reservations : List Reservation) : Type 0 where
  pub replays : Replays medium.sector_size opening (entries_in entered) medium.sectors
  pub of_armings : AreOfArmings medium armings entered
  pub some : 1 ≤ length medium.sectors
  -- the journal was opened with sectors of the same size
  pub whole : All (IsSector medium.sector_size) opening
  pub ready : (tag : ℕ) (armed : Armed) → armed_at slots tag ≡ Some armed → MayAct medium armings tag armed
  -- each armed piece has a place for its entry
  pub placed : length entered + armed_count slots ≤ places
  -- no more acts failed than were armed
  pub counted : medium.failures + armed_count slots ≤ length armings
  pub held : All (IsHeld medium) reservations
