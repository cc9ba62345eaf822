-- A piece that may act, through the steps of its stack.
use Rattle.std.specs.Prelude.{◌≡◌, ◌≢◌, ℕ, List, [], ◌∷◌, Option, Some, None, All}
use Rattle.srb.specs.declared.Srb.{Srb}
use Rattle.srb.specs.declared.DeviceLabel.{DeviceLabel}
use Rattle.srb.specs.declared.DeviceLabel.TheVariants.{Start, Act, Fault, Return}
use Rattle.adapter.specs.View.{AdapterView}
use Rattle.adapter.specs.Booking.{IsArmed}
use Rattle.machine.specs.declared.Label.{Label}
use Rattle.machine.specs.declared.Label.TheVariants.{Device}
use Rattle.io_manager.specs.declared.Reply.{Reply}
use Rattle.io_manager.specs.Shown.{ManagerView}
use Rattle.compose.specs.declared.Event.{Event}
use Rattle.compose.specs.Right.{IsRight}
use Rattle.sector_journal.specs.declared.slots.Armed.{Armed}
use Rattle.sector_journal.specs.Arming.{AskTheSame}
use Rattle.book.specs.Arming.{claimed_at}

-- the label isn't that of an act, a fault or a return of this piece
abbrev pub LeavesPiece : ℕ → DeviceLabel → Type 0
LeavesPiece piece (Start other tag block) = Unit {0}
LeavesPiece piece (Act other bytes) = other ≢ piece
LeavesPiece piece (Fault other) = other ≢ piece
LeavesPiece piece (Return other class) = other ≢ piece

abbrev pub Leaves : ℕ → Label → Type 0
Leaves piece (Device label) = LeavesPiece piece label
Leaves piece _ = Unit {0}

-- a piece that may act still may after a right step that tells no act, fault or return of it
abbrev pub ArmedStays : Type 0
ArmedStays = (old : ManagerView) (event : Event) (reply : Reply) (new : ManagerView) (tag piece : ℕ) (srb : Srb)
    → IsRight old event reply new → All (Leaves piece) new.labels → IsArmed old.adapter tag piece srb → IsArmed new.adapter tag piece srb

-- the piece of which a label of the device tells that it acted, failed or came back
abbrev pub piece_of : DeviceLabel → Option ℕ
piece_of (Start piece tag block) = None
piece_of (Act piece bytes) = Some piece
piece_of (Fault piece) = Some piece
piece_of (Return piece class) = Some piece

abbrev pub piece_told : Label → Option ℕ
piece_told (Device label) = piece_of label
piece_told _ = None

-- WHAT IS ARMED ON THE TAGS

abbrev pub Claimed : Type 0
Claimed = List (Option (List (ℕ × Armed)))

-- this arming is claimed of the tag
abbrev pub IsClaimed : Claimed → ℕ → ℕ → Armed → Type 0
IsClaimed tags tag number armed = claimed_at tags tag ≡ Some ((number, armed) ∷ [])

-- what was armed is the piece on the tag, which may act there by an SRB that asks for the same
pub record IsOnTag (view : AdapterView) (tag : ℕ) (armed : Armed) : Type 0 where
  pub srb : Srb
  pub is_armed : IsArmed view tag armed.piece srb
  pub same : AskTheSame armed.srb srb

-- all armings that are claimed are on their tags
abbrev pub AreOnTags : AdapterView → Claimed → Type 0
AreOnTags view tags = (tag number : ℕ) (armed : Armed) → IsClaimed tags tag number armed → IsOnTag view tag armed

-- what is still claimed was before, and the label tells nothing of its piece
abbrev pub HaveNoted : Label → Claimed → Claimed → Type 0
HaveNoted label old new = (tag number : ℕ) (armed : Armed) → IsClaimed new tag number armed → IsClaimed old tag number armed × Leaves armed.piece label

-- what is still claimed was before, and none of these labels tells of its piece
abbrev pub HaveNotedAll : List Label → Claimed → Claimed → Type 0
HaveNotedAll labels old new = (tag number : ℕ) (armed : Armed) → IsClaimed new tag number armed → IsClaimed old tag number armed × All (Leaves armed.piece) labels
