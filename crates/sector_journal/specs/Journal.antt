-- What a journal shows, and what its calls do.
use Rattle.std.specs.Prelude.{◌≡◌, ◌≢◌, ◌≤◌, ◌<◌, ◌^◌, ℕ, ◌+◌, ◌-◌, min, Bool, true, List, [], ◌∷◌, ◌++◌, length, map, All, Option, Some, None, Result, Ok, Err, MatchOption, replicate, slice_get, slice_set}
use Rattle.std.specs.List.{list_any, position, remove, sum_by}
use Rattle.srb.specs.declared.Srb.{Srb}
use Rattle.srb.specs.declared.Kind.{Kind}
use Rattle.srb.specs.declared.Kind.TheVariants.{Read, Write, Flush}
use Rattle.srb.specs.declared.Entry.{Entry}
use Rattle.srb.specs.declared.Completion.{Completion}
use Rattle.adapter.specs.Booking.{IsOfSrb}
use Rattle.sector.specs.declared.Extent.{Extent}
use Rattle.disk.specs.Medium.{MediumView, IsReserved, Reserves, ReservesNear}
use Rattle.sector_journal.specs.declared.acted.Entered.{Entered}
use Rattle.sector_journal.specs.declared.slots.Armed.{Armed}
use Rattle.sector_journal.specs.declared.reservation.Reservation.{Reservation}
use Rattle.sector_journal.specs.Arming.{AskTheSame}
use Rattle.sector_journal.specs.Entering.{Names, Enters, Refuses}
use Rattle.sector_journal.specs.Slots.{armed_at, armed_count, armed_with, IsFree}
use Rattle.sector_journal.specs.Reserving.{covers, is_of, pieces_of, pieces_with}
use Rattle.sector_journal.specs.Pooling.{SizeClassView, pieces_at}

pub record JournalView : Type 0 where
  -- the sectors
  pub medium : MediumView
  pub write_protected : Bool
  -- what acts did, in their order, each with its arming
  pub entered : List Entered
  -- for how many entries there is room, those that are there among them
  pub places : ℕ
  -- for each tag the piece that may act
  pub slots : List (Option Armed)
  -- all that was ever armed, in its order
  pub armings : List Armed
  -- the reservations: what open requests may move
  pub reservations : List Reservation
  -- for how many pieces of this many bytes there are buffers
  pub room : List SizeClassView

-- what acts did, without their armings
abbrev pub entries_in : List Entered → List Entry
entries_in entered = map (λ (e : Entered). e.entry) entered

abbrev pub entries_of : JournalView → List Entry
entries_of journal = entries_in journal.entered

-- WHAT ALWAYS HOLDS

-- the entry is of the piece that was armed under this number, and of what its SRB asks for
pub record IsOfArming (size sectors : ℕ) (armings : List Armed) (entered : Entered) : Type 0 where
  pub armed : Armed
  pub noted : slice_get armings entered.arming ≡ Some armed
  pub is_piece : entered.entry.piece ≡ armed.piece
  pub is_tag : entered.entry.tag ≡ armed.tag
  pub of_srb : IsOfSrb size sectors armed.srb entered.entry

-- each entry is of the arming that it names
abbrev pub AreOfArmings : MediumView → List Armed → List Entered → Type 0
AreOfArmings medium armings entered = All (IsOfArming medium.sector_size (length medium.sectors) armings) entered

-- a piece has at least one sector, and what a write may move is reserved in the medium
pub record IsHeld (medium : MediumView) (reservation : Reservation) : Type 0 where
  pub some : 1 ≤ reservation.max_transfer
  pub reserved : reservation.kind ≡ Write → IsReserved medium reservation.extent

-- a write may reserve what is near its extent in the medium; no other request may reserve anything
abbrev pub HoldsNear : MediumView → Kind → Extent → MediumView → Type 0
HoldsNear old Write extent new = ReservesNear old extent new
HoldsNear old Read extent new = new ≡ old
HoldsNear old Flush extent new = new ≡ old

-- THE CALLS

-- a journal of these sectors in which nothing happened
pub record IsNew (medium : MediumView) (depth : ℕ) (write_protected : Bool) (journal : JournalView) : Type 0 where
  pub medium_is : journal.medium ≡ medium
  pub protected : journal.write_protected ≡ write_protected
  pub no_entry : journal.entered ≡ []
  pub none_armed : journal.slots ≡ replicate depth None
  pub no_arming : journal.armings ≡ []
  pub none_open : journal.reservations ≡ []

-- there may be more room for entries and in the medium, and nothing else has changed
pub record GainsRoom (old new : JournalView) : Type 0 where
  pub medium : Reserves old.medium new.medium
  pub more : old.places ≤ new.places
  pub buffers : (long : ℕ) → pieces_at new.room long ≡ pieces_at old.room long
  pub after : new ≡ record old { medium = new.medium; places = new.places; room = new.room }

-- there is room for what the request may move: for an entry of each piece of all open requests, and for the buffers of
-- its own pieces beside all others
pub record Admits (old : JournalView) (reservation : Reservation) (new : JournalView) : Type 0 where
  pub medium : Reserves old.medium new.medium
  pub held : IsHeld new.medium reservation
  pub places : length old.entered + sum_by pieces_of new.reservations ≤ new.places
  pub buffers : (long : ℕ) → pieces_at new.room long ≡ pieces_at old.room long + pieces_with old.medium.sector_size long reservation
  pub after : new ≡ record old { medium = new.medium; places = new.places; room = new.room; reservations = old.reservations ++ reservation ∷ [] }

-- the first reservation of the request is gone, if there was one
abbrev pub without : ℕ → List Reservation → List Reservation → Type 0
without request old new = MatchOption (position (is_of request) old) (new ≡ old) (λ at. new ≡ remove old at)

-- how many pieces of this length the open requests have, those that acted among them
abbrev pub pieces_open : JournalView → ℕ → ℕ
pieces_open journal long = sum_by (pieces_with journal.medium.sector_size long) journal.reservations

-- the reservation is gone. Of the buffers of each length as many stay as the other requests may yet need
pub record Releases (old : JournalView) (request : ℕ) (new : JournalView) : Type 0 where
  pub gone : without request old.reservations new.reservations
  pub kept : (long : ℕ) → min (pieces_at old.room long) (pieces_open new long - armed_with new.slots long) ≤ pieces_at new.room long
  pub no_more : (long : ℕ) → pieces_at new.room long ≤ pieces_at old.room long
  pub after : new ≡ record old { reservations = new.reservations; room = new.room }

-- a piece may be armed on the tag by this SRB
pub record MayArm (journal : JournalView) (tag : ℕ) (srb : Srb) : Type 0 where
  pub what : Kind × Extent
  pub names : Names srb.block what
  pub free : IsFree journal.slots tag
  pub covered : list_any (covers what.0 what.1) journal.reservations ≡ true
  pub room : 1 ≤ pieces_at journal.room (length srb.data)
  pub place : length journal.entered + armed_count journal.slots < journal.places
  pub number : length journal.armings < 2 ^ 64 - 1

-- the piece may act on the tag, by an SRB that asks for the same
pub record Arms (old : JournalView) (tag piece : ℕ) (srb : Srb) (new : JournalView) : Type 0 where
  pub armed : Armed
  pub is_tag : armed.tag ≡ tag
  pub is_piece : armed.piece ≡ piece
  pub is_number : armed.number ≡ length old.armings
  pub same : AskTheSame armed.srb srb
  pub same_function : armed.srb.function ≡ srb.function
  pub same_flags : armed.srb.flags ≡ srb.flags
  pub less_room : pieces_at new.room (length srb.data) + 1 ≡ pieces_at old.room (length srb.data)
  pub same_room : (long : ℕ) → long ≢ length srb.data → pieces_at new.room long ≡ pieces_at old.room long
  pub after : new ≡ record old { slots = slice_set old.slots tag (Some armed); armings = old.armings ++ armed ∷ []; room = new.room }

-- no piece may act on the tag. The buffer of its piece is there again, where open requests may need one more
pub record Disarms (old : JournalView) (tag : ℕ) (new : JournalView) : Type 0 where
  pub no_less : (long : ℕ) → pieces_at old.room long ≤ pieces_at new.room long
  pub back : (armed : Armed) → armed_at old.slots tag ≡ Some armed → min (pieces_at old.room (length armed.srb.data) + 1) (pieces_open old (length armed.srb.data)) ≤ pieces_at new.room (length armed.srb.data)
  pub after : new ≡ record old { slots = slice_set old.slots tag None; room = new.room }

-- an entry, with the number of its arming
abbrev pub of_arming : ℕ → Entry → Entered
of_arming number entry = record { arming = number; entry = entry }

-- what came of the act, in the medium and in the entries
abbrev pub Does : JournalView → ℕ → ℕ → Armed → Result ℕ Completion → JournalView → Type 0
Does old tag piece armed (Ok number) new =
    (entry : Entry) × (number ≡ length old.entered) × Enters old.medium old.write_protected tag piece armed.srb entry new.medium × (new.entered ≡ old.entered ++ of_arming armed.number entry ∷ [])
Does old tag piece armed (Err completion) new = Refuses old.medium old.write_protected armed.srb completion new.medium × (new.entered ≡ old.entered)

-- the piece acts or fails, and the tag is disarmed
pub record Acts (old : JournalView) (tag piece : ℕ) (done : Result ℕ Completion) (new : JournalView) : Type 0 where
  pub armed : Armed
  pub was_there : armed_at old.slots tag ≡ Some armed
  pub is_piece : armed.piece ≡ piece
  pub does : Does old tag piece armed done new
  pub after : new ≡ record old { medium = new.medium; entered = new.entered; slots = slice_set old.slots tag None }
