-- The input of a session, which its owner lends to a thread that reads.
use Rattle.std.specs.Prelude.{◌≡◌, ℕ, List, Option}
use Rattle.nbd.specs.declared.End.{End}
use Rattle.nbd.specs.declared.arrays.Sizes.{Sizes}
use Rattle.nbd.specs.declared.incoming.Incoming.{Incoming}
use Rattle.nbd.specs.Incoming.{IsIncoming}
use Rattle.serving.specs.declared.doors.Arrival.{Arrival}
use Rattle.serving.specs.declared.doors.Arrival.TheVariants.{Request, Done, Nothing}

pub record DoorView : Type 0 where
  -- how many bytes were read
  pub at : ℕ
  -- the bytes that weren't read yet, where they are known
  pub left : Option (List ℕ)
  pub sizes : Sizes

-- a request that was read, from this place in the input's bytes to that one
pub record BroughtView : Type 0 where
  pub incoming : Incoming
  pub sizes : Sizes
  pub from : ℕ
  pub to : ℕ

pub record LastView : Type 0 where
  pub end : End
  pub at : ℕ

-- a request was read, or none
pub record TakesOne (old : DoorView) (incoming : Incoming) (new : DoorView) : Type 0 where
  pub is : IsIncoming old.sizes old.left new.left incoming
  pub same_sizes : new.sizes ≡ old.sizes

-- what came, of whatever came of a piece
abbrev pub ArrivesSo : {D : Type 0} → DoorView → Arrival D → DoorView → Type 0
ArrivesSo old (Request incoming) new = TakesOne old incoming new
ArrivesSo old (Done done) new = new ≡ old
ArrivesSo old Nothing new = new ≡ old
