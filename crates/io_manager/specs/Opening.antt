-- A manager before its first call.
use Rattle.std.specs.Prelude.{◌≡◌, ◌<◌, ◌≤◌, ℕ, IsTrue, List, [], Some, None, map, length, slice_get}
use Rattle.machine.specs.Map.{IsMap}
use Rattle.sector.specs.Extents.{sectors_in}
use Rattle.machine.specs.State.{opening}
use Rattle.sector.specs.declared.Extent.{Extent}
use Rattle.machine.specs.Rules.{Rules}
use Rattle.device.specs.View.{DeviceView, room_at}
use Rattle.pnp.specs.declared.State.TheVariants.{Started}
use Rattle.io_manager.specs.declared.Limits.{Limits}
use Rattle.io_manager.specs.declared.tables.Tables.{Tables}
use Rattle.io_manager.specs.Shown.{ManagerView}
use Rattle.io_manager.specs.Calls.{number_limit}
use Rattle.io_manager.specs.inside.Chains.{AreEnds}

-- no spot of the layer is reserved, so no room is out that nobody would give back
abbrev pub HasNoRooms : DeviceView → Type 0
HasNoRooms below = (spot : ℕ) → room_at below.rooms spot ≡ None

-- at each partition's number stands its first sector
abbrev pub AreFirsts : List ℕ → List Extent → Type 0
AreFirsts firsts partitions = (p : ℕ) (extent : Extent) → slice_get partitions p ≡ Some extent
    → slice_get firsts p ≡ Some extent.first

-- the rules of the manager over those of the device below: open requests are counted
abbrev pub rules_of : Limits → Rules → Rules
rules_of limits below = record below { open_requests = Some limits.open_requests }

-- nothing was asked of the device below yet, whose partitions lie on the disk and share no sector
pub record IsUnasked (below : DeviceView) : Type 0 where
  pub is_map : IsMap (length below.adapter.sectors) below.rules.partitions
  pub state : below.state ≡ opening (map (sectors_in below.adapter.sectors) below.rules.partitions)
  pub no_packets : below.packets ≡ []
  pub vacant : HasNoRooms below
  pub none_submitted : below.submitted ≡ 0
  pub many : number_limit ≤ below.most
  pub no_labels : below.adapter.labels ≡ []

-- the limits are right for a manager over this device
pub record AreFor (below : DeviceView) (limits : Limits) : Type 0 where
  pub sector_size : limits.sector_size ≡ below.rules.sector_size
  pub max_transfer : limits.max_transfer ≡ below.rules.max_transfer
  pub some_transfer : 0 < limits.max_transfer
  pub depth : limits.depth ≡ below.rules.depth
  pub keeps_bytes : limits.keeps_bytes ≡ below.rules.keeps_bytes
  pub firsts : AreFirsts limits.first_sectors below.rules.partitions
  pub some_open : (1 ≤ limits.open_requests) × (limits.open_requests ≤ 64)

-- no handles, no requests, no labels and no answers
pub record AreEmpty (tables : Tables) : Type 0 where
  pub first_request : tables.next_request ≡ 1
  pub first_handle : tables.next_handle ≡ 1
  pub started : tables.state ≡ Started
  pub no_handles : tables.handles.slots ≡ []
  pub no_requests : tables.requests.slots ≡ []
  pub no_labels : tables.labels.items ≡ []
  pub keeps : IsTrue tables.labels.keeps
  pub none_put_by : tables.answered.items ≡ []
  pub no_answers : tables.untaken.items ≡ []
  pub counts : length tables.open_counts ≡ 64
  pub chains : AreEnds tables.chains
  pub by_number : AreEnds tables.by_number

-- what a manager with these limits over this device shows before its first call
pub record IsFirstView (limits : Limits) (below : DeviceView) (view : ManagerView) : Type 0 where
  pub rules : view.rules ≡ rules_of limits below.rules
  pub state : view.state ≡ opening (map (sectors_in below.adapter.sectors) below.rules.partitions)
  pub adapter : view.adapter ≡ below.adapter
  pub no_handles : view.handles ≡ []
  pub first_handle : view.next_handle ≡ 1
  pub no_requests : view.holders ≡ []
  pub no_labels : view.labels ≡ []
  pub no_answers : view.answers ≡ []
  pub keeps : IsTrue view.keeps
