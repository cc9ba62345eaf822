-- The labels of an adapter in memory, as they are kept until they are taken.
use Rattle.std.specs.Prelude.{◌≡◌, ◌≤◌, ℕ, Bool, IsTrue, IsFalse, List, [], length, Option, Some, None}
use Rattle.srb.specs.declared.DeviceLabel.{DeviceLabel}
use Rattle.srb.specs.declared.DeviceLabel.TheVariants.{Act}
use Rattle.srb.specs.Bare.{in_memory}
use Rattle.miniport.specs.declared.on_tag.OnTag.{OnTag}
use Rattle.miniport.specs.declared.on_tag.Progress.TheVariants.{Moved}
use Rattle.miniport.specs.declared.recorded.Recorded.{Recorded}
use Rattle.miniport.specs.declared.recorded.Recorded.TheVariants.{Told, Acted, Unkept}
use Rattle.miniport.specs.inside.Slots.{piece_at}

abbrev pub data_of : Option OnTag → List ℕ
data_of None = []
data_of (Some on) = on.srb.data

-- the piece in the slot acted
abbrev pub HasActed : Option OnTag → Type 0
HasActed None = ⊥
HasActed (Some on) = on.progress ≡ Moved

-- the label as it is taken: that of an act has the data of its piece
abbrev pub told : List (Option OnTag) → Recorded → DeviceLabel
told slots (Told label) = label
told slots (Acted piece tag room) = Act piece (data_of (piece_at slots tag))
told slots (Unkept piece bytes room) = Act piece bytes.items

-- a label that needs its tag no more
abbrev pub told_of : List (Option OnTag) → Recorded → Recorded
told_of slots (Told label) = Told label
told_of slots (Acted piece tag room) = Told (Act piece (data_of (piece_at slots tag)))
told_of slots (Unkept piece bytes room) = Unkept piece bytes room

-- the bytes of a label are kept in memory just where labels keep theirs
abbrev pub IsKept : Bool → Recorded → Type 0
IsKept keeps (Told label) = label ≡ in_memory keeps label
IsKept keeps (Acted piece tag room) = IsTrue keeps
IsKept keeps (Unkept piece bytes room) = IsFalse keeps

-- the piece of an act is on its tag still, and there is room for its data
abbrev pub IsTellable : List (Option OnTag) → Recorded → Type 0
IsTellable slots (Told label) = Unit {0}
IsTellable slots (Acted piece tag room) = HasActed (piece_at slots tag) × (length (data_of (piece_at slots tag)) ≤ room)
IsTellable slots (Unkept piece bytes room) = Unit {0}

-- it tells this
pub record Tells (slots : List (Option OnTag)) (keeps : Bool) (recorded : Recorded) (label : DeviceLabel) : Type 0 where
  pub tellable : IsTellable slots recorded
  pub kept : IsKept keeps recorded
  pub same : told slots recorded ≡ label
