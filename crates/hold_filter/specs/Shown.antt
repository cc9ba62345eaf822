-- What a filter shows beside its device view, and how a packet that it holds is cancelled.
use Rattle.std.specs.Prelude.{◌≡◌, ℕ, List, ◌∷◌, ◌++◌, length, Contains, if◌then◌else◌}
use Rattle.machine.specs.Holding.{Cancels}
use Rattle.device.specs.View.{DeviceView}
use Rattle.device.specs.Served.{IsBeside}

-- a packet that is held: the spot of its room and its number
pub record Queued : Type 0 where
  pub spot : ℕ
  pub number : ℕ

pub record FilterView : Type 0 where
  pub shown : DeviceView
  -- the packets that are held, the one that was held longest first; once the device is removed they have ended
  pub queue : List Queued
  -- how often an entry of the queue was visited, and how often one of those that were cancelled while they were held
  pub queue_visits : ℕ
  pub ended_visits : ℕ

-- the number of held packets: once the device is removed, all have ended
abbrev pub held_count : FilterView → ℕ
held_count f = if f.shown.state.removing then 0 else length f.queue

-- the packet with this spot and this number is held; it leaves the queue, and is cancelled
pub record CancelsHeld (old : FilterView) (spot number : ℕ) (new : FilterView) : Type 0 where
  pub before : List Queued
  pub behind : List Queued
  pub held : old.queue ≡ before ++ record { spot = spot; number = number } ∷ behind
  pub leaves : new.queue ≡ before ++ behind
  pub cancels : Cancels old.shown.state number new.shown.state
  pub beside : IsBeside old.shown new.shown

-- no held packet has this spot and this number, and the queue stays
pub record HoldsNone (old : FilterView) (spot number : ℕ) (new : FilterView) : Type 0 where
  pub none : Contains old.queue (record { spot = spot; number = number }) → ⊥
  pub same_queue : new.queue ≡ old.queue
