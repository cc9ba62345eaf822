-- A stack with nothing open and nothing waiting to be taken.
use Rattle.std.specs.Prelude.{◌≡◌, ◌≤◌, ◌<◌, ◌^◌, ◌⊎◌, ℕ, [], Some, All, length, IsTrue, IsFalse, IsNone}
use Rattle.sector.specs.Extents.{IsSector}
use Rattle.machine.specs.Map.{IsPartition}
use Rattle.machine.specs.Rules.{Rules, sectors_of}
use Rattle.machine.specs.State.{State}
use Rattle.machine.specs.Calling.{is_full}
use Rattle.machine_laws.specs.Reached.{IsReached}
use Rattle.device.specs.View.{IsRead}
use Rattle.io_manager.specs.Shown.{ManagerView}
use Rattle.io_manager.specs.Calls.{partition_of}
use Rattle.io_manager.specs.declared.Handle.{Handle}
use Rattle.compose.specs.Opening.{longest_request}
use Rattle.volume.specs.declared.Sizes.{Sizes}

-- rules of a stack over whose partitions a volume can be opened: its acts read and write the sectors that it shows, and
-- it takes a request
pub record AreUsable (rules : Rules) : Type 0 where
  pub sector_size : (rules.sector_size ≡ 512) ⊎ (rules.sector_size ≡ 4096)
  pub few : rules.disk_sectors ≤ 2 ^ 40
  pub partitions : All (IsPartition rules.disk_sectors) rules.partitions
  pub longest : rules.longest ≡ longest_request
  pub takes_one : IsFalse (is_full rules.open_requests 0)
  pub faithful : IsTrue rules.faithful

-- nothing is open or out, owed or held, and the device is not removed
pub record IsIdle (s : State) : Type 0 where
  pub none_open : s.requests ≡ []
  pub none_out : s.pieces ≡ []
  pub none_owed : IsNone s.owed
  pub not_paused : IsFalse s.paused
  pub not_removing : IsFalse s.removing

-- a usable stack is idle, has whole sectors, and all of its labels and answers were taken
pub record IsReady (v : ManagerView) : Type 0 where
  pub usable : AreUsable v.rules
  pub idle : IsIdle v.state
  pub reached : IsReached v.rules v.state
  pub read : IsRead v.rules v.state v.adapter
  pub whole_sectors : All (IsSector v.rules.sector_size) v.adapter.sectors
  pub no_labels : v.labels ≡ []
  pub no_answers : v.answers ≡ []

-- what a volume keeps: its stack is ready, its handle is open on its partition, and its sizes are the partition's
pub record VolumeKept (v : ManagerView) (handle : Handle) (partition : ℕ) (sizes : Sizes) : Type 0 where
  pub ready : IsReady v
  pub is_open : partition_of v.handles handle ≡ Some partition
  pub known : partition < length v.rules.partitions
  pub sector_size : sizes.sector_size ≡ v.rules.sector_size
  pub sectors : sizes.sectors ≡ sectors_of v.rules (Some partition)
