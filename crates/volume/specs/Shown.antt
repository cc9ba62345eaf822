-- What a volume shows: the bytes of one partition, and the bytes of the disk around it.
use Rattle.std.specs.Prelude.{ℕ, ◌+◌, List, take, drop, get_or, slice_range, count_by, is_some}
use Rattle.std.specs.List.{concat}
use Rattle.sector.specs.declared.Extent.{Extent}
use Rattle.machine.specs.Rules.{Rules}
use Rattle.machine.specs.State.{State}
use Rattle.io_manager.specs.Shown.{ManagerView}

-- a disk as the user of one partition sees it
pub record Content : Type 0 where
  -- bytes of a sector
  pub sector_size : ℕ
  -- the bytes of the disk in front of the partition
  pub before : List ℕ
  -- the bytes of the partition
  pub bytes : List ℕ
  -- the bytes of the disk behind the partition
  pub behind : List ℕ

pub record VolumeView : Type 0 where
  pub content : Content
  -- the number of the partition, counted from 0
  pub partition : ℕ
  -- the rules of the stack's machine, and the state in which the stack is
  pub rules : Rules
  pub state : State
  -- how many handles are open on the stack, the volume's own among them
  pub open_handles : ℕ

-- the extent of a partition
abbrev pub extent_at : List Extent → ℕ → Extent
extent_at partitions p = get_or partitions p (record { first = 0; count = 0 })

-- the bytes of a disk's sectors, parted at an extent
abbrev pub parted_at : ℕ → List (List ℕ) → Extent → Content
parted_at sector_size sectors extent = record {
  sector_size = sector_size;
  before = concat (take extent.first sectors);
  bytes = concat (slice_range sectors extent.first (extent.first + extent.count));
  behind = concat (drop (extent.first + extent.count) sectors);
}

-- what a stack shows of its disk, parted at a partition
abbrev pub content_of : ManagerView → ℕ → Content
content_of v p = parted_at v.rules.sector_size v.adapter.sectors (extent_at v.rules.partitions p)

-- how many handles are open on a stack
abbrev pub handle_count : ManagerView → ℕ
handle_count v = count_by is_some v.handles

-- what a volume shows over a stack
abbrev pub volume_over : ManagerView → ℕ → VolumeView
volume_over v p = record {
  content = content_of v p;
  partition = p;
  rules = v.rules;
  state = v.state;
  open_handles = handle_count v;
}
