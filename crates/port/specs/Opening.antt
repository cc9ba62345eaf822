-- A port of which nothing was asked yet.
use Rattle.std.specs.Prelude.{◌≡◌, ◌≤◌, [], map, length}
use Rattle.adapter.specs.View.{AdapterView}
use Rattle.machine.specs.Rules.{Rules}
use Rattle.machine.specs.State.{opening}
use Rattle.sector.specs.Extents.{sectors_in}
use Rattle.device.specs.View.{DeviceView}
use Rattle.port.specs.declared.queues.Sizes.{Sizes}
use Rattle.port.specs.Shown.{rules_of, most}

-- the adapter has no piece on a tag and no label, and has accepted three pieces at most
pub record IsFresh (v : AdapterView) : Type 0 where
  pub tags : v.tags ≡ []
  pub labels : v.labels ≡ []
  pub accepted : v.accepted ≤ 3

-- the sizes of the adapter's disk
abbrev pub sizes_of : AdapterView → Sizes
sizes_of v = record { sector_size = v.sector_size; sectors = length v.sectors; max_transfer = v.max_transfer; depth = v.depth; faithful = v.faithful; keeps_bytes = v.keeps_bytes }

-- the rules of a port over this adapter
abbrev pub rules_over : AdapterView → Rules
rules_over v = rules_of (sizes_of v)

-- what the port shows: the machine's opening, with all sectors of the adapter, and a place for a packet on each tag
abbrev pub opening_view : AdapterView → DeviceView
opening_view v = record {
  rules = rules_over v;
  state = opening (map (sectors_in v.sectors) (rules_over v).partitions);
  packets = [];
  rooms = [];
  submitted = 0;
  most = most;
  places = v.depth;
  adapter = v;
}
