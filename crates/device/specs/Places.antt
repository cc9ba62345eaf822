-- No call but `reserve` takes memory for a table: each says so, by what it does to what is shown.
use Rattle.std.specs.Prelude.{ℕ, Bool, Option, Result}
use Rattle.srb.specs.declared.Completion.{Completion}
use Rattle.srb.specs.declared.DeviceLabel.{DeviceLabel}
use Rattle.srb.specs.declared.Entry.{Entry}
use Rattle.irp.specs.declared.Payload.{Payload}
use Rattle.machine.specs.declared.Request.{Request}
use Rattle.device.specs.declared.climbing.Climb.{Climb}
use Rattle.device.specs.View.{DeviceView, Packet}
use Rattle.device.specs.Served.{SamePlaces, Submits, Frees, ActsOrFaults, ActsNot, BooksPiece, Finishes, FinishesNot}
use Rattle.device.specs.Served.{Resets, CancelsIfOpen, CancelsAt, DrainsAll, PausesAll, ResumesAll, HandsUp, HandsUpNone}
use Rattle.device.specs.Served.{TakesLabel, ForgetsLabels}

pub record CallsKeepPlaces : Type 0 where
  pub submits : (old : DeviceView) (packet : Packet) (request : Request) (payload : Payload) (new : DeviceView)
      → Submits old packet request payload new → SamePlaces old new
  pub frees : (old : DeviceView) (spot : ℕ) (new : DeviceView) → Frees old spot new → SamePlaces old new
  pub acts : (old : DeviceView) (tag : ℕ) (new : DeviceView) → ActsOrFaults old tag new → SamePlaces old new
  pub acts_not : (old : DeviceView) (tag : ℕ) (new : DeviceView) → ActsNot old tag new → SamePlaces old new
  pub books : (old : DeviceView) (tag piece : ℕ) (what : Result Entry Completion) (new : DeviceView)
      → BooksPiece old tag piece what new → SamePlaces old new
  pub finishes : (old : DeviceView) (tag : ℕ) (new : DeviceView) → Finishes old tag new → SamePlaces old new
  pub finishes_not : (old : DeviceView) (tag : ℕ) (new : DeviceView) → FinishesNot old tag new → SamePlaces old new
  pub resets : (old new : DeviceView) → Resets old new → SamePlaces old new
  pub cancels : (old : DeviceView) (number : ℕ) (new : DeviceView) → CancelsIfOpen old number new → SamePlaces old new
  pub cancels_at : (old : DeviceView) (spot number : ℕ) (new : DeviceView) → CancelsAt old spot number new
      → SamePlaces old new
  pub drains : (old new : DeviceView) → DrainsAll old new → SamePlaces old new
  pub pauses : (old new : DeviceView) → PausesAll old new → SamePlaces old new
  pub resumes : (old new : DeviceView) → ResumesAll old new → SamePlaces old new
  pub hands_up : (takes_srb : Bool) (old : DeviceView) (climb : Climb) (spot : ℕ) (new : DeviceView)
      → HandsUp takes_srb old climb spot new → SamePlaces old new
  pub hands_up_none : (old new : DeviceView) → HandsUpNone old new → SamePlaces old new
  pub takes_label : (old : DeviceView) (label : Option DeviceLabel) (new : DeviceView) → TakesLabel old label new
      → SamePlaces old new
  pub forgets : (old new : DeviceView) → ForgetsLabels old new → SamePlaces old new
