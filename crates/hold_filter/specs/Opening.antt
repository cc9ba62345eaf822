-- A filter to which nothing was submitted yet.
use Rattle.std.specs.Prelude.{◌≡◌, ℕ, ◌+◌, [], Some, None, nat_lt, if◌then◌else◌}
use Rattle.machine.specs.State.{opening}
use Rattle.machine.specs.Frame.{with_window}
use Rattle.device.specs.View.{DeviceView, room_at}

-- nothing was asked of the device yet: it has no spot reserved, and no window of its own
pub record IsFreshBelow (v : DeviceView) : Type 0 where
  pub rooms : (spot : ℕ) → room_at v.rooms spot ≡ None
  pub no_window : v.rules.window ≡ None
  pub state : v.state ≡ opening v.state.arrays
  pub packets : v.packets ≡ []
  pub submitted : v.submitted ≡ 0

-- stack locations from the filter on: one more than the layers below need. A packet has four, so no more than five are
-- counted
abbrev pub stack_over : ℕ → ℕ
stack_over below = if nat_lt below 5 then below + 1 else below

-- what the filter shows over the device: the same machine, with the window
abbrev pub opening_over : ℕ → DeviceView → DeviceView
opening_over window v = record v { rules = with_window (Some window) v.rules }
