-- What each call does to the queues.
use Rattle.std.specs.Global.{Box}
use Rattle.std.specs.Prelude.{◌≡◌, ◌≢◌, ℕ, ◌+◌, ◌-◌, ◌==◌, ◌&&◌, Bool, true, false, not, List, [], ◌∷◌, ◌++◌, map, Option, Some, None, IsTrue, IsFalse, All, length, slice_set, slice_index_or}
use Rattle.ntstatus.specs.declared.Sense.{Sense}
use Rattle.srb.specs.declared.Srb.{Srb}
use Rattle.srb.specs.declared.Class.{Class}
use Rattle.srb.specs.declared.Class.TheVariants.{Good, Busy, Bad}
use Rattle.irp.specs.declared.Irp.{Irp}
use Rattle.irp.specs.declared.Payload.{Payload}
use Rattle.irp.specs.declared.Payload.TheVariants.{Srb as Packed}
use Rattle.machine.specs.declared.Request.{Request}
use Rattle.port.specs.declared.queues.Sizes.{Sizes}
use Rattle.port.specs.declared.queues.PortPacket.{PortPacket}
use Rattle.port.specs.declared.queues.Ended.{Ended}
use Rattle.port.specs.declared.queues.Outcome.{Outcome}
use Rattle.port.specs.declared.queues.Outcome.TheVariants.{Returned, Withdrawn, Gone}
use Rattle.port.specs.inside.TableView.{PacketEntry, TableView, held_with, entry_of, ended_entry}

-- the queues have no packet, and never had one
pub record IsEmpty (sizes : Sizes) (b : TableView) : Type 0 where
  pub sizes_are : b.sizes ≡ sizes
  pub waiting : b.waiting ≡ []
  pub started : length b.started ≡ sizes.depth
  pub done : b.done ≡ []
  pub last_request : b.last_request ≡ 0
  pub next_piece : b.next_piece ≡ 1
  pub submitted : b.submitted ≡ 0
  pub removing : b.removing ≡ false
  pub places : b.places ≡ 0
  pub rooms : b.rooms ≡ []
  pub capacity : b.capacity ≡ record { started = sizes.depth; waiting = 0; done = 0; rooms = 0 }

-- what stands at one spot changes, and at no other
pub record SetsSlot (old : List (Option (Option Request))) (spot : ℕ) (before after : Option (Option Request)) (new : List (Option (Option Request))) : Type 0 where
  pub was : slice_index_or old spot None ≡ before
  pub is : slice_index_or new spot None ≡ after
  pub others : (other : ℕ) → other ≢ spot → slice_index_or new other None ≡ slice_index_or old other None

-- a packet that waits stands at another spot
abbrev pub HasOtherSpot : ℕ → PortPacket → Type 0
HasOtherSpot spot held = held.spot ≢ spot

-- the spot of a packet that ended is taken
abbrev pub IsEndedTaken : List (Option (Option Request)) → Ended → Type 0
IsEndedTaken rooms ended = slice_index_or rooms ended.spot None ≡ Some None

-- a spot is reserved
pub record AddsPlace (old : TableView) (spot : ℕ) (request : Request) (new : TableView) : Type 0 where
  pub slot : SetsSlot old.rooms spot None (Some (Some request)) new.rooms
  pub after : new ≡ record old { places = old.places + 1; rooms = new.rooms; capacity = new.capacity }

-- no spot is reserved, though tables may have grown
abbrev pub AddsNone : TableView → TableView → Type 0
AddsNone old new = new ≡ record old { capacity = new.capacity }

-- a spot that was reserved is vacant
pub record RemovesPlace (old : TableView) (spot : ℕ) (new : TableView) : Type 0 where
  pub request : Request
  pub slot : SetsSlot old.rooms spot (Some (Some request)) None new.rooms
  pub after : new ≡ record old { places = old.places - 1; rooms = new.rooms }

-- the packet is queued last, at its spot
pub record Queued (old : TableView) (irp : Box Irp) (request : Request) (spot : ℕ) (new : TableView) : Type 0 where
  pub slot : SetsSlot old.rooms spot (Some (Some request)) (Some None) new.rooms
  pub after : new ≡ record old {
    waiting = old.waiting ++ held_with irp request spot ∷ [];
    last_request = irp.value.number;
    submitted = old.submitted + 1;
    rooms = new.rooms;
  }

-- the packet carries an SRB
abbrev pub IsPacked : PortPacket → Type 0
IsPacked held = (srb : Srb) × (held.irp.value.payload ≡ Packed srb)

-- the packet on a tag, where one is there
abbrev pub held_on : List (Option PortPacket) → ℕ → Option PortPacket
held_on started tag = slice_index_or started tag None

-- the packet that waited longest goes to the tag, and leaves its SRB to the adapter
pub record Starts (old : TableView) (tag piece : ℕ) (srb : Srb) (new : TableView) : Type 0 where
  pub front : PortPacket
  pub rest : List PortPacket
  pub sent : PortPacket
  pub is_front : old.waiting ≡ front ∷ rest
  pub is_srb : front.irp.value.payload ≡ Packed srb
  pub is_piece : piece ≡ old.next_piece
  pub same_entry : entry_of sent ≡ entry_of front
  pub after : new ≡ record old { waiting = rest; started = slice_set old.started tag (Some sent); next_piece = old.next_piece + 1 }

-- nothing waits, and nothing changes
pub record StartsNot (old new : TableView) : Type 0 where
  pub none_waits : old.waiting ≡ []
  pub same : new ≡ old

-- this packet has ended, carrying this payload, with this outcome
pub record EndsAs (held : PortPacket) (payload : Payload) (outcome : Outcome) (ended : Ended) : Type 0 where
  pub same_entry : ended_entry ended ≡ entry_of held
  pub carries : ended.irp.value.payload ≡ payload
  pub ends : ended.outcome ≡ outcome

-- the sense that is left of a piece that came back: one that came back busy can be sent again, and has none
abbrev pub sense_left : Class → Option Sense → Option Sense
sense_left Good sense = sense
sense_left Busy sense = None
sense_left (Bad completion) sense = sense

-- the SRB of a piece that came back
abbrev pub as_returned : Class → Srb → Srb
as_returned class srb = record srb { sense = sense_left class srb.sense }

-- the packet on the tag came back with its SRB
pub record Ends (old : TableView) (tag : ℕ) (srb : Srb) (class : Class) (new : TableView) : Type 0 where
  pub held : PortPacket
  pub ended : Ended
  pub on_tag : held_on old.started tag ≡ Some held
  pub ends_as : EndsAs held (Packed (as_returned class srb)) (Returned class) ended
  pub after : new ≡ record old { started = slice_set old.started tag None; done = old.done ++ ended ∷ [] }

-- the packet that ended first leaves
pub record TakesDone (old : TableView) (ended : Ended) (new : TableView) : Type 0 where
  pub rest : List Ended
  pub is_front : old.done ≡ ended ∷ rest
  pub slot : SetsSlot old.rooms ended.spot (Some None) (Some (Some ended.request)) new.rooms
  pub after : new ≡ record old { done = rest; rooms = new.rooms }

-- no packet has ended, and nothing changes
pub record TakesNone (old new : TableView) : Type 0 where
  pub none_ended : old.done ≡ []
  pub same : new ≡ old

-- a packet that waited when the device was removed
abbrev pub gone : PortPacket → Ended
gone held = record { irp = held.irp; request = held.request; spot = held.spot; outcome = Gone }

-- the queues after a removal: what waited has ended
abbrev pub drained : TableView → TableView
drained old = record old { waiting = []; done = old.done ++ map gone old.waiting; removing = true }

-- the number is the packet's, which is not cancelled yet
abbrev pub is_cancellable : ℕ → PacketEntry → Bool
is_cancellable number e = (e.number == number) && not e.cancelled

-- the packet has another number, or is cancelled already
abbrev pub CannotCancel : ℕ → PacketEntry → Type 0
CannotCancel number e = IsFalse (is_cancellable number e)

-- the packet, cancelled
abbrev pub cancelled : PacketEntry → PacketEntry
cancelled e = record e { cancelled = true }

-- whether the number cancels this packet, which has not ended
abbrev pub can_cancel_held : ℕ → PortPacket → Bool
can_cancel_held number held = is_cancellable number (entry_of held)

-- whether the number cancels this packet, which has ended
abbrev pub can_cancel_ended : ℕ → Ended → Bool
can_cancel_ended number ended = is_cancellable number (ended_entry ended)

-- the number does not cancel this packet, which has not ended
abbrev pub CannotCancelHeld : ℕ → PortPacket → Type 0
CannotCancelHeld number held = CannotCancel number (entry_of held)

-- the number does not cancel this packet, which has ended
abbrev pub CannotCancelEnded : ℕ → Ended → Type 0
CannotCancelEnded number ended = CannotCancel number (ended_entry ended)

-- nobody cancelled the packet
abbrev pub IsUncancelled : PortPacket → Type 0
IsUncancelled held = IsFalse held.irp.value.cancelled

-- the packet of this number that waits is withdrawn; those before and behind it stay
pub record Withdraws (old : TableView) (number : ℕ) (new : TableView) : Type 0 where
  pub before : List PortPacket
  pub held : PortPacket
  pub behind : List PortPacket
  pub withdrawn : Ended
  pub waits : old.waiting ≡ before ++ held ∷ behind
  pub can : IsTrue (is_cancellable number (entry_of held))
  pub same_entry : ended_entry withdrawn ≡ cancelled (entry_of held)
  pub carries : withdrawn.irp.value.payload ≡ held.irp.value.payload
  pub ends : withdrawn.outcome ≡ Withdrawn
  pub after : new ≡ record old { waiting = before ++ behind; done = old.done ++ withdrawn ∷ [] }

-- no packet that waits can be cancelled by the number
pub record WithdrawsNot (old : TableView) (number : ℕ) (new : TableView) : Type 0 where
  pub none : All (CannotCancelHeld number) old.waiting
  pub same : new ≡ old

-- the packet in a place is cancelled
pub record CancelsIn (old : Option PortPacket) (number : ℕ) (new : Option PortPacket) : Type 0 where
  pub held : PortPacket
  pub marked : PortPacket
  pub is_there : old ≡ Some held
  pub can : IsTrue (is_cancellable number (entry_of held))
  pub same_entry : entry_of marked ≡ cancelled (entry_of held)
  pub after : new ≡ Some marked

-- the place has no packet, or the number does not cancel its packet
pub record CancelsNotIn (old : Option PortPacket) (number : ℕ) (new : Option PortPacket) : Type 0 where
  pub cannot : (held : PortPacket) → old ≡ Some held → CannotCancelHeld number held
  pub same : new ≡ old

-- the packet at this spot of the queue has this number, and is withdrawn
pub record WithdrawsAt (old : TableView) (spot number : ℕ) (new : TableView) : Type 0 where
  pub withdraws : Withdraws old number new
  pub at_spot : withdraws.held.spot ≡ spot

-- the packet is at another spot, or has another number
abbrev pub IsNotAt : ℕ → ℕ → PortPacket → Type 0
IsNotAt spot number held = held.spot ≡ spot → held.irp.value.number ≢ number

-- no packet that waits has this spot and this number
pub record WithdrawsNotAt (old : TableView) (spot number : ℕ) (new : TableView) : Type 0 where
  pub none : All (IsNotAt spot number) old.waiting
  pub same : new ≡ old

-- the packet on this tag is cancelled, and goes on
pub record CancelsOn (old : TableView) (tag number : ℕ) (new : TableView) : Type 0 where
  pub held : PortPacket
  pub marked : PortPacket
  pub on_tag : held_on old.started tag ≡ Some held
  pub can : IsTrue (is_cancellable number (entry_of held))
  pub same_entry : entry_of marked ≡ cancelled (entry_of held)
  pub after : new ≡ record old { started = slice_set old.started tag (Some marked) }

-- the number does not cancel the packet on a tag
abbrev pub CannotCancelOn : List (Option PortPacket) → ℕ → ℕ → Type 0
CannotCancelOn started number tag = (held : PortPacket) → held_on started tag ≡ Some held → CannotCancelHeld number held

-- the number does not cancel the packet on this tag, and nothing changes
pub record CancelsNotOn (old : TableView) (tag number : ℕ) (new : TableView) : Type 0 where
  pub cannot : CannotCancelOn old.started number tag
  pub same : new ≡ old

-- the packet at a place of those that ended is cancelled, and ends as it did
pub record Marks (old : List Ended) (index : ℕ) (new : List Ended) : Type 0 where
  pub ended : Ended
  pub marked : Ended
  pub stood : ended ≡ slice_index_or old index ended
  pub same_entry : ended_entry marked ≡ cancelled (ended_entry ended)
  pub carries : marked.irp.value.payload ≡ ended.irp.value.payload
  pub ends : marked.outcome ≡ ended.outcome
  pub after : new ≡ slice_set old index marked

-- a packet that has ended is cancelled, and ends as it did
pub record CancelsEnded (old : TableView) (number : ℕ) (new : TableView) : Type 0 where
  pub before : List Ended
  pub ended : Ended
  pub behind : List Ended
  pub marked : Ended
  pub is_done : old.done ≡ before ++ ended ∷ behind
  pub can : IsTrue (is_cancellable number (ended_entry ended))
  pub same_entry : ended_entry marked ≡ cancelled (ended_entry ended)
  pub carries : marked.irp.value.payload ≡ ended.irp.value.payload
  pub ends : marked.outcome ≡ ended.outcome
  pub after : new ≡ record old { done = before ++ marked ∷ behind }

-- the number cancels no packet that has ended
pub record CancelsNoEnded (old : TableView) (number : ℕ) (new : TableView) : Type 0 where
  pub none : All (CannotCancelEnded number) old.done
  pub same : new ≡ old
