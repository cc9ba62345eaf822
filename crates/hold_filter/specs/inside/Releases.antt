-- How packets go below.
use Rattle.std.specs.Prelude.{◌≡◌, ◌<◌, ◌≤◌, ◌⊎◌, ℕ, ◌+◌, false, List, [], length, All, IsFalse}
use Rattle.irp.specs.declared.Irp.{Irp}
use Rattle.srb.specs.declared.DeviceLabel.{DeviceLabel}
use Rattle.machine.specs.Sending.{IsStart}
use Rattle.device.specs.View.{DeviceView, IsReady, AsksInLocation, Carries, packet_of, request_at}
use Rattle.device.specs.Served.{Moves, StaysOpen, Submits}
use Rattle.hold_filter.specs.inside.TableView.{TableView}
use Rattle.hold_filter.specs.inside.Packets.{PassesDown}

-- what the device below requires of a packet
pub record MaySend (stack_size : ℕ) (v : DeviceView) (irp : Irp) (spot : ℕ) : Type 0 where
  pub ready : IsReady v.rooms spot
  pub not_removing : IsFalse v.state.removing
  pub number : v.state.next_request ≤ irp.number
  pub few : v.submitted < v.most
  pub own_location : AsksInLocation false (request_at v.rooms spot) irp
  pub locations : length irp.locations.items + (1 + stack_size) ≤ 5
  pub some_location : 0 < stack_size
  pub not_cancelled : IsFalse irp.cancelled
  pub carries : Carries false v.rules (request_at v.rooms spot) irp.payload

-- the packet goes below with one location more
pub record Sends (v : DeviceView) (irp : Irp) (spot : ℕ) (v' : DeviceView) : Type 0 where
  pub sent : Irp
  pub passes : PassesDown irp sent
  pub submits : Submits v (packet_of sent spot) (request_at v.rooms spot) sent.payload v'

-- packets go below, and pieces are started; nothing else changes
pub record Releases (old new : DeviceView) : Type 0 where
  pub starts : List DeviceLabel
  pub only_starts : All IsStart starts
  pub moves : Moves old starts new

-- one packet fewer is held
abbrev pub LetsOneGo : TableView → TableView → Type 0
LetsOneGo old new = length new.held < length old.held

-- no packet may go below: the filter is paused or removed, holds no packet, or has a full window
abbrev pub NoneMayGo : DeviceView → TableView → Type 0
NoneMayGo v b = IsFalse b.paused → IsFalse b.removing → (b.held ≡ []) ⊎ (b.window ≤ length v.state.requests)

-- what is open below stays open, and what was cancelled while it was held stays so; where no packet may go, nothing
-- changes
pub record Spares (v : DeviceView) (b : TableView) (v' : DeviceView) (b' : TableView) : Type 0 where
  pub below : All (StaysOpen v'.state) v.state.requests
  pub rules : v'.rules ≡ v.rules
  pub ended : b'.ended ≡ b.ended
  pub paused : b'.paused ≡ b.paused
  pub removing : b'.removing ≡ b.removing
  pub none_goes : NoneMayGo v b → (v' ≡ v) × (b' ≡ b)
