-- What a piece that may act asks for, and what its act tells once something was booked of it.
use Rattle.std.specs.Prelude.{◌≡◌, ℕ, ◌+◌, ◌*◌, List, [], ◌∷◌, Contains, IsFalse, Result, Ok, Err, slice_range}
use Rattle.cdb.specs.Meaning.{Means}
use Rattle.srb.specs.declared.Srb.{Srb}
use Rattle.srb.specs.declared.Entry.{Entry}
use Rattle.srb.specs.declared.Completion.{Completion}
use Rattle.srb.specs.declared.Kind.TheVariants.{Write}
use Rattle.srb.specs.declared.DeviceLabel.TheVariants.{Act, Fault}
use Rattle.srb.specs.Fate.{Fresh}
use Rattle.adapter.specs.View.{IsInOrder}
use Rattle.adapter.specs.Calls.{HasNoneFresh}
use Rattle.adapter.specs.Booking.{IsArmed, IsBookable}
use Rattle.machine.specs.declared.Label.{Label}
use Rattle.machine.specs.declared.Label.TheVariants.{Device}
use Rattle.machine.specs.Rules.{Rules}
use Rattle.machine.specs.Sending.{command_for}
use Rattle.machine.specs.State.{OpenRequest, Piece, State, opening}
use Rattle.machine.specs.Step.{Run}
use Rattle.machine_laws.specs.Reached.{AreWhole, IsReached}
use Rattle.io_manager.specs.declared.Reply.{Reply}
use Rattle.io_manager.specs.Shown.{ManagerView}
use Rattle.io_manager.specs.Right.{BooksPiece, FitsTogether}
use Rattle.compose.specs.declared.Event.TheVariants.{Act as ActEvent}
use Rattle.compose.specs.Journaled.{AreOnTags, IsJournaled}
use Rattle.compose.specs.Right.{IsRight}

-- the SRB is that of a piece which has done nothing yet: it asks for the piece's places, and a write sends the bytes of its request
pub record AsksForPiece (rules : Rules) (s : State) (number : ℕ) (srb : Srb) : Type 0 where
  pub piece : Piece
  pub owner : OpenRequest
  pub is_number : piece.number ≡ number
  pub is_fresh : piece.fate ≡ Fresh
  pub is_out : Contains s.pieces piece
  pub is_open : Contains s.requests owner
  pub is_owner : owner.number ≡ piece.owner
  pub asks : Means srb.block (command_for rules owner.request piece.places owner.request.kind)
  pub sends : owner.request.kind ≡ Write
      → srb.data ≡ slice_range owner.request.bytes (piece.places.first * rules.sector_size) ((piece.places.first + piece.places.count) * rules.sector_size)

-- so does what is armed on a tag, where acts move no arrays
abbrev pub ArmedAskForPieces : Type 0
ArmedAskForPieces = (arrays : List (List (List ℕ))) (trace : List Label) (entries : List Entry) (view : ManagerView) (tag piece : ℕ) (srb : Srb)
    → AreWhole view.rules arrays → Run view.rules (opening arrays) trace view.state → IsJournaled trace entries view → FitsTogether view
    → IsFalse view.rules.faithful → IsArmed view.adapter tag piece srb → AsksForPiece view.rules view.state piece srb

-- the one label of the act of what was booked: an act with the entry's bytes, or a fault
abbrev pub label_booked : ℕ → Result Entry Completion → Label
label_booked piece (Ok entry) = Device (Act piece entry.bytes)
label_booked piece (Err completion) = Device (Fault piece)

-- it tells just that
abbrev pub BookedActsTell : Type 0
BookedActsTell = (old booked new : ManagerView) (tag piece : ℕ) (what : Result Entry Completion) (reply : Reply)
    → IsBookable old.adapter tag piece what → BooksPiece old tag piece what booked
    → IsInOrder booked.adapter → AreOnTags booked → IsReached booked.rules booked.state
    → IsRight booked (ActEvent tag) reply new
    → new.labels ≡ label_booked piece what ∷ []

-- an act on a tag where nothing can act tells nothing
abbrev pub IdleActsTellNothing : Type 0
IdleActsTellNothing = (old : ManagerView) (tag : ℕ) (reply : Reply) (new : ManagerView)
    → AreOnTags old → HasNoneFresh old.adapter tag → IsRight old (ActEvent tag) reply new → new.labels ≡ []
