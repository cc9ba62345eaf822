-- What contracts see of a port.
use Rattle.std.specs.Prelude.{ℕ}
use Rattle.adapter.specs.View.{AdapterView}
use Rattle.device.specs.View.{DeviceView}
use Rattle.port.specs.inside.TableView.{TableView, Visited}
use Rattle.port.specs.Shown.{view_of}

-- what it shows as a layer
pub record PortView : Type 0 where
  pub shown : DeviceView
  -- how often an entry of the queue was visited
  pub visits : ℕ
  -- how often the packets that ended were walked
  pub walks : ℕ

-- what the queues over an adapter show
abbrev pub port_of : TableView → AdapterView → Visited → PortView
port_of b v visited = record { shown = view_of b v; visits = visited.queue; walks = visited.walks }
