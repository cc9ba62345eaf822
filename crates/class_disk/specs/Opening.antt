-- A class driver to which nothing was submitted yet.
use Rattle.std.specs.Prelude.{◌≡◌, ◌≤◌, ℕ, ◌/◌, ◌^◌, min, Bool, true, []}
use Rattle.machine.specs.State.{opening}
use Rattle.device.specs.View.{DeviceView}
use Rattle.class_disk.specs.Shown.{class_rules, IsPort}

-- how many requests may be submitted, over a layer that takes this many
abbrev pub most_over : ℕ → ℕ
most_over most_below = min (most_below / 2 ^ 17) (2 ^ 63)

-- packets bring an SRB to the layer below, and have enough stack locations there
pub record TakesParts (takes_srb : Bool) (stack_size : ℕ) : Type 0 where
  pub takes : takes_srb ≡ true
  pub locations : stack_size ≤ 4

-- a port of which nothing was asked yet
pub record IsFreshPort (v : DeviceView) : Type 0 where
  pub port : IsPort v.rules
  pub state : v.state ≡ opening v.state.arrays
  pub packets : v.packets ≡ []
  pub rooms : v.rooms ≡ []
  pub submitted : v.submitted ≡ 0

-- what the class driver shows over the port: the same machine by its own rules, with nothing reserved
abbrev pub opening_over : DeviceView → DeviceView
opening_over v = record v { rules = class_rules v.rules; rooms = []; most = most_over v.most }
