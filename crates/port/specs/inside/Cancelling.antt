-- How the port cancels a packet that is at the adapter.
use Rattle.std.specs.Prelude.{◌≡◌, ℕ, All, Any}
use Rattle.adapter.specs.View.{AdapterView, TagInUse, HasTag}
use Rattle.device.specs.Served.{CancelsIfOpen}
use Rattle.port.specs.declared.queues.PortPacket.{PortPacket}
use Rattle.port.specs.inside.TableView.{TableView}
use Rattle.port.specs.Shown.{view_of}
use Rattle.port.specs.inside.TableCalls.{CancelsOn, CannotCancelOn}

-- the packet waits at this spot
pub record IsQueued (spot number : ℕ) (held : PortPacket) : Type 0 where
  pub is_spot : held.spot ≡ spot
  pub is_number : held.irp.value.number ≡ number

-- the packet that waits there is cancelled
pub record CancelsQueued (old : TableView) (v : AdapterView) (spot number : ℕ) (new : TableView) : Type 0 where
  pub queued : Any (IsQueued spot number) old.waiting
  pub cancels : CancelsIfOpen (view_of old v) number (view_of new v)

-- the tag is in use, and its packet is cancelled
pub record CancelsAt (old : TableView) (v : AdapterView) (tag number : ℕ) (new : TableView) : Type 0 where
  pub in_use : Any (HasTag tag) v.tags
  pub cancels : CancelsOn old tag number new

-- the tag is free, or its packet cannot be cancelled
pub record CancelsNotAt (old : TableView) (v : AdapterView) (tag number : ℕ) (new : TableView) : Type 0 where
  pub cannot : Any (HasTag tag) v.tags → CannotCancelOn old.started number tag
  pub same : new ≡ old

-- the packet of a tag in use cannot be cancelled
abbrev pub CannotCancelUse : TableView → ℕ → TagInUse → Type 0
CannotCancelUse b number use' = CannotCancelOn b.started number use'.tag

-- no packet at the adapter can be cancelled
pub record CancelsNoStarted (old : TableView) (v : AdapterView) (number : ℕ) (new : TableView) : Type 0 where
  pub none : All (CannotCancelUse old number) v.tags
  pub same : new ≡ old
