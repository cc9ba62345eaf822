-- What the pieces of a run did to a storage.
use Rattle.std.specs.Prelude.{◌≡◌, ℕ, List, [], ◌∷◌, Result, Ok, Err}
use Rattle.cdb.specs.Meaning.{Means}
use Rattle.srb.specs.declared.Srb.{Srb}
use Rattle.srb.specs.declared.Entry.{Entry}
use Rattle.srb.specs.declared.Completion.{Completion}
use Rattle.srb.specs.declared.Kind.TheVariants.{Write}
use Rattle.srb.specs.declared.DeviceLabel.TheVariants.{Act, Fault}
use Rattle.machine.specs.declared.Label.{Label}
use Rattle.machine.specs.declared.Label.TheVariants.{Device}
use Rattle.machine.specs.Rules.{Rules}
use Rattle.machine.specs.Sending.{command_for}
use Rattle.machine.specs.State.{OpenRequest, Piece, State, IsSame}
use Rattle.machine.specs.Step.{Step}
use Rattle.file_disk.specs.Transfers.{DiskView, Transfers}
use Rattle.loss.specs.Moved.{work_of}
use Rattle.loss.specs.Sessions.{IsAtWork}

-- a piece that could act, and what came of it
pub record Deed : Type 0 where
  pub tag : ℕ
  pub piece : ℕ
  pub srb : Srb
  pub what : Result Entry Completion

-- the calls to the storage are just those of these pieces, one after the other
abbrev pub Files : DiskView → List Deed → DiskView → Type 0
Files old [] new = new ≡ old
Files old (deed ∷ deeds) new = (mid : DiskView) × Transfers old deed.tag deed.piece deed.srb deed.what mid × Files mid deeds new

-- the deed is of the piece of this number, which has done nothing yet: its SRB asks for the piece's places, and a write sends the bytes
-- of its request
pub record IsDeedOf (rules : Rules) (s : State) (number : ℕ) (deed : Deed) : Type 0 where
  pub piece : Piece
  pub owner : OpenRequest
  pub is_number : piece.number ≡ number
  pub at_work : IsAtWork s piece owner
  pub asks : Means deed.srb.block (command_for rules owner.request piece.places owner.request.kind)
  pub sends : owner.request.kind ≡ Write → deed.srb.data ≡ (work_of rules owner.request piece.places).bytes

-- it was done, and moved these bytes
abbrev pub HasMoved : List ℕ → Result Entry Completion → Type 0
HasMoved bytes (Ok entry) = entry.bytes ≡ bytes
HasMoved bytes (Err completion) = ⊥

abbrev pub HasFailed : Result Entry Completion → Type 0
HasFailed (Ok entry) = ⊥
HasFailed (Err completion) = Unit {0}

-- an act takes the first deed, which was done, a fault one that failed, and any other label none
abbrev pub TakesDeed : Rules → State → Label → List Deed → List Deed → Type 0
TakesDeed rules s (Device (Act number bytes)) deeds later = (deed : Deed) × (deeds ≡ deed ∷ later) × IsDeedOf rules s number deed × HasMoved bytes deed.what
TakesDeed rules s (Device (Fault number)) deeds later = (deed : Deed) × (deeds ≡ deed ∷ later) × IsDeedOf rules s number deed × HasFailed deed.what
TakesDeed rules s label deeds later = later ≡ deeds

-- a run of the machine whose acts and faults are these deeds, in their order
abbrev pub DeedRun : Rules → State → List Label → State → List Deed → Type 0
DeedRun rules s [] s' deeds = IsSame s s' × (deeds ≡ [])
DeedRun rules s (label ∷ labels) s' deeds =
    (mid : State) × (later : List Deed) × Step rules s label mid × TakesDeed rules s label deeds later × DeedRun rules mid labels s' later
