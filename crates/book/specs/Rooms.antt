-- What a step tells the journal: the room of a call, and what follows from its labels.
use Rattle.std.specs.Prelude.{◌≡◌, ◌⊎◌, ◌<◌, ◌≤◌, ℕ, zero, suc, ◌+◌, ◌-◌, ◌^◌, min, List, length, Option, Some, None, MatchBool, MatchOption, Ok, Err, slice_get}
use Rattle.std.specs.Option.{unwrap_or}
use Rattle.sector.specs.declared.Extent.{Extent}
use Rattle.srb.specs.declared.Srb.{Srb}
use Rattle.srb.specs.declared.Completion.{Completion}
use Rattle.srb.specs.declared.DeviceLabel.{DeviceLabel}
use Rattle.srb.specs.declared.DeviceLabel.TheVariants.{Start, Act, Fault, Return}
use Rattle.adapter.specs.View.{AdapterView}
use Rattle.adapter.specs.Booking.{IsArmed}
use Rattle.adapter.specs.Calls.{HasNoneFresh}
use Rattle.machine.specs.declared.Label.{Label}
use Rattle.machine.specs.declared.Label.TheVariants.{Device, Answer}
use Rattle.io_manager.specs.declared.Reply.{Reply}
use Rattle.io_manager.specs.declared.Reply.TheVariants.{Refused}
use Rattle.io_manager.specs.Shown.{ManagerView}
use Rattle.io_manager.specs.declared.Refusal.TheVariants.{InsufficientResources}
use Rattle.compose.specs.declared.Event.{Event}
use Rattle.asking.specs.Asking.{bytes_of, kind_asked}
use Rattle.compose.specs.Right.{opened_by}
use Rattle.sector_journal.specs.Journal.{Acts, Admits, Arms, Disarms, JournalView, Releases}
use Rattle.sector_journal.specs.declared.acted.Entered.{Entered}
use Rattle.sector_journal.specs.Slots.{HasNone}
use Rattle.traced.specs.declared.TraceEntry.{TraceEntry}
use Rattle.journaled.specs.Right.{is_opened}
use Rattle.journaled.specs.declared.acting.TheConstants.{HARDWARE_ERROR}

-- A CALL

-- the number of the next request, where these are the clients of all before
abbrev pub next_number : List ℕ → ℕ
next_number owners = min (length owners + 1) (2 ^ 64 - 1)

-- there is room for the request that the event asks for, of its kind, on just these sectors and under this number
abbrev pub MakesRoom : ℕ → Event → Extent → ℕ → JournalView → JournalView → Type 0
MakesRoom number event extent max_transfer old new =
    MatchOption (kind_asked event) (new ≡ old)
    (λ kind. Admits old (record { request = number; kind = kind; extent = extent; max_transfer = max_transfer }) new)

-- room is made for a call, and given back where the call opened no request
pub record HoldsRoom (number : ℕ) (event : Event) (extent : Extent) (max_transfer : ℕ) (old : JournalView) (reply : Reply) (new : JournalView) : Type 0 where
  pub reserved : JournalView
  pub makes : MakesRoom number event extent max_transfer old reserved
  pub keeps : MatchBool (is_opened reply) (new ≡ reserved) (Releases reserved number new)

-- nothing is entered, armed or reserved
pub record IsLeft (old new : JournalView) : Type 0 where
  pub entered : new.entered ≡ old.entered
  pub slots : new.slots ≡ old.slots
  pub reservations : new.reservations ≡ old.reservations

-- the call is refused, since the journal has no memory for its room
pub record LacksRoom (event : Event) (old : JournalView) (reply : Reply) (new : JournalView) : Type 0 where
  pub replies : reply ≡ Refused InsufficientResources (bytes_of event)
  pub left : IsLeft old new

-- room is held for a call, or it is refused
abbrev pub KeepsRoom : ℕ → Event → Extent → ℕ → JournalView → Reply → JournalView → Type 0
KeepsRoom number event extent max_transfer old reply new =
    HoldsRoom number event extent max_transfer old reply new ⊎ LacksRoom event old reply new

-- the event would open a request on these sectors of the disk
abbrev pub Opens : ManagerView → Event → Extent → Type 0
Opens stack event extent = (pieces : ℕ) × (opened_by stack event ≡ Some (pieces, extent))

-- THE LABELS

-- the piece of the tag may act in the journal as it may in the stack, unless another is still armed there or it has no
-- room; where none may act in the stack, none may in the journal
abbrev pub ArmsTag : AdapterView → ℕ → JournalView → JournalView → Type 0
ArmsTag view tag old new =
    (HasNoneFresh view tag × Disarms old tag new)
    ⊎ ((piece : ℕ) × (srb : Srb) × IsArmed view tag piece srb × (Arms old tag piece srb new ⊎ (new ≡ old)))

-- the piece may act on no tag; what is entered and reserved stays
pub record IsDisarmed (piece : ℕ) (old new : JournalView) : Type 0 where
  pub none : (tag : ℕ) → HasNone new.slots tag piece
  pub entered : new.entered ≡ old.entered
  pub reservations : new.reservations ≡ old.reservations

-- the piece may not act on this tag; on others, what might not act still may not
pub record IsDisarmedOn (tag piece : ℕ) (old new : JournalView) : Type 0 where
  pub none : HasNone new.slots tag piece
  pub others : (other : ℕ) → HasNone old.slots other piece → HasNone new.slots other piece
  pub as_many : length new.slots ≡ length old.slots
  pub entered : new.entered ≡ old.entered
  pub reservations : new.reservations ≡ old.reservations

-- the journal follows a label of the device: a piece that was started may act, one that failed or came back may not
abbrev pub FollowsDevice : AdapterView → DeviceLabel → JournalView → JournalView → Type 0
FollowsDevice view (Start piece tag block) old new = ArmsTag view tag old new
FollowsDevice view (Return piece class) old new = IsDisarmed piece old new
FollowsDevice view (Fault piece) old new = IsDisarmed piece old new
FollowsDevice view (Act piece bytes) old new = new ≡ old

-- the journal follows a label: the room of a request that was answered is given back
abbrev pub Follows : AdapterView → Label → JournalView → JournalView → Type 0
Follows view (Device label) old new = FollowsDevice view label old new
Follows view (Answer number status information bytes) old new = Releases old number new
Follows view _ old new = new ≡ old

-- it follows this many labels from a place on, one after the other
abbrev pub FollowsFrom : AdapterView → List TraceEntry → ℕ → ℕ → JournalView → JournalView → Type 0
FollowsFrom view entries from zero old new = new ≡ old
FollowsFrom view entries from (suc count) old new =
    (mid : JournalView) × FollowsFrom view entries from count old mid
    × ((e : TraceEntry) × (slice_get entries (from + count) ≡ Some e) × Follows view e.label mid new)

-- it follows all labels from a place on
abbrev pub FollowsOn : AdapterView → List TraceEntry → ℕ → JournalView → JournalView → Type 0
FollowsOn view entries from old new = (count : ℕ) × (length entries ≤ from + count) × FollowsFrom view entries from count old new

-- A PIECE THAT MADE NO ENTRY

-- what came of the piece of a tag where it was to act in the journal: how it failed, if it did. With no failure it acted,
-- or might not act, in the stack or in the journal
abbrev pub Transfers : AdapterView → ℕ → JournalView → Option Completion → JournalView → Type 0
Transfers view tag old (Some completion) new = (piece : ℕ) × (srb : Srb) × IsArmed view tag piece srb × Acts old tag piece (Err completion) new
Transfers view tag old None new =
    (HasNoneFresh view tag × (new ≡ old))
    ⊎ ((piece : ℕ) × (srb : Srb) × IsArmed view tag piece srb × (((number : ℕ) × Acts old tag piece (Ok number) new) ⊎ (HasNone old.slots tag piece × (new ≡ old))))

-- the last entry is of this tag, and not among the first ones, which were booked
pub record HasActed (journal : JournalView) (booked tag : ℕ) : Type 0 where
  pub behind : booked < length journal.entered
  pub entered : Entered
  pub last : slice_get journal.entered (length journal.entered - 1) ≡ Some entered
  pub is_tag : entered.entry.tag ≡ tag

-- the piece acts in the journal, and fails as it did there; where it didn't, as one that may not act
pub record FailsThere (view : AdapterView) (tag : ℕ) (old : JournalView) (completion : Completion) (new : JournalView) : Type 0 where
  pub armed : JournalView
  pub arms : ArmsTag view tag old armed
  pub failed : Option Completion
  pub transfers : Transfers view tag armed failed new
  pub told : completion ≡ unwrap_or failed HARDWARE_ERROR

-- how the piece of a tag fails if no entry of it is booked
abbrev pub FailsAs : AdapterView → ℕ → ℕ → JournalView → Completion → JournalView → Type 0
FailsAs view booked tag old completion new =
    (HasActed old booked tag × (completion ≡ HARDWARE_ERROR) × (new ≡ old)) ⊎ FailsThere view tag old completion new
