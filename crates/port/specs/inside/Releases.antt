-- How the port starts what waits.
use Rattle.std.specs.Prelude.{◌≡◌, ◌<◌, ◌≤◌, ◌⊎◌, ◌++◌, ℕ, List, [], map, length, All, Any, Contains}
use Rattle.srb.specs.declared.DeviceLabel.{DeviceLabel}
use Rattle.adapter.specs.View.{AdapterView, HasTag}
use Rattle.machine.specs.State.{OpenRequest}
use Rattle.machine.specs.Sending.{IsStart}
use Rattle.device.specs.Served.{Moves}
use Rattle.port.specs.inside.TableView.{TableView}
use Rattle.port.specs.Shown.{rules_of, done_open, open_on, view_of}

-- the open requests of packets that wait no longer
abbrev pub begun_of : TableView → AdapterView → List OpenRequest
begun_of b v = map (open_on (rules_of b.sizes) b.started) v.tags ++ map (done_open (rules_of b.sizes)) b.done

-- pieces of packets that wait are started, and nothing else changes
pub record Releases (b : TableView) (v : AdapterView) (b' : TableView) (v' : AdapterView) : Type 0 where
  pub starts : List DeviceLabel
  pub only_starts : All IsStart starts
  pub moves : Moves (view_of b v) starts (view_of b' v')
  pub stay : All (Contains (begun_of b' v')) (begun_of b v)
  -- with no tag free no piece is started
  pub full : v.depth ≤ length v.tags → (b' ≡ b) × (v' ≡ v)

-- each tag below this one is in use, or nothing waits
abbrev pub AreLowerInUse : TableView → AdapterView → ℕ → Type 0
AreLowerInUse b v tag = (b.waiting ≡ []) ⊎ ((lower : ℕ) → lower < tag → Any (HasTag lower) v.tags)
