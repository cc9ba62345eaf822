-- A stack before its first event, and why one could not be started.
use Rattle.std.specs.Prelude.{◌≡◌, ◌⊎◌, ◌≤◌, ℕ, false, List, [], Some, Err, map, length}
use Rattle.sector.specs.declared.Extent.{Extent}
use Rattle.adapter.specs.View.{AdapterView}
use Rattle.sector.specs.Extents.{sectors_in}
use Rattle.machine.specs.Rules.{Rules}
use Rattle.machine.specs.State.{opening}
use Rattle.probe.specs.Exchange.{IsSameDisk}
use Rattle.probe.specs.Probing.{told_partitions, asked_by_probe, IsReadBy, HasPartitions, FailsOne, LacksMemory}
use Rattle.probe.specs.declared.ProbeFault.{ProbeFault}
use Rattle.probe.specs.declared.ProbeFault.TheVariants.{Device as DeviceProbed, Mbr as TableProbed}
use Rattle.probe.specs.declared.ProbeFault.TheVariants.{NoMemory as ProbedNoMemory}
use Rattle.io_manager.specs.Shown.{ManagerView}
use Rattle.compose.specs.declared.Settings.{Settings}
use Rattle.compose.specs.declared.StartFault.{StartFault}
use Rattle.compose.specs.declared.StartFault.TheVariants.{NoMemory, Device as DeviceFault, Mbr as TableFault}
use Rattle.compose.specs.declared.StartFault.TheVariants.{Settings as SettingsFault}

-- settings that a stack can be started with
pub record AreInRange (settings : Settings) : Type 0 where
  pub window : (1 ≤ settings.window) × (settings.window ≤ 64)
  pub open_requests : (1 ≤ settings.open_requests) × (settings.open_requests ≤ 64)

-- how many sectors the longest request has
abbrev pub longest_request : ℕ
longest_request = 65536

-- which busy return of a request ends it
abbrev pub last_busy_return : ℕ
last_busy_return = 17

-- the rules of a stack over this disk: the pieces of a request are as long as a transfer
abbrev pub first_rules : AdapterView → Settings → List Extent → Rules
first_rules disk settings partitions = record {
  sector_size = disk.sector_size;
  disk_sectors = length disk.sectors;
  partitions = partitions;
  longest = longest_request;
  max_transfer = disk.max_transfer;
  depth = disk.depth;
  open_requests = Some settings.open_requests;
  window = Some settings.window;
  one_piece = false;
  busy_limit = last_busy_return;
  any_cut = false;
  faithful = disk.faithful;
  keeps_bytes = disk.keeps_bytes;
}

-- what a stack over this disk shows before its first event
pub record IsFirstView (disk : AdapterView) (settings : Settings) (view : ManagerView) : Type 0 where
  pub in_range : AreInRange settings
  pub partitions : List Extent
  pub told : HasPartitions disk partitions
  pub rules : view.rules ≡ first_rules disk settings partitions
  pub state : view.state ≡ opening (map (sectors_in disk.sectors) partitions)
  pub same_disk : IsSameDisk (asked_by_probe disk) disk view.adapter
  pub read : IsReadBy disk view.adapter
  pub no_handles : view.handles ≡ []
  pub first_handle : view.next_handle ≡ 1
  pub no_requests : view.holders ≡ []
  pub no_labels : view.labels ≡ []
  pub no_answers : view.answers ≡ []

-- a fault of the probe as one of the start
abbrev pub start_fault_of : ProbeFault → StartFault
start_fault_of (DeviceProbed status) = DeviceFault status
start_fault_of (TableProbed fault) = TableFault fault
start_fault_of ProbedNoMemory = NoMemory

-- why a disk could not be read: memory was refused in the probe or after it, a command failed, or all commands
-- succeeded and the partition table is wrong
abbrev pub IsDiskFault : AdapterView → StartFault → AdapterView → Type 0
IsDiskFault disk NoMemory after = LacksMemory disk after ⊎ IsReadBy disk after
IsDiskFault disk (DeviceFault status) after = FailsOne disk status after
IsDiskFault disk (TableFault fault) after = IsReadBy disk after × (told_partitions disk ≡ Err fault)
IsDiskFault disk SettingsFault after = ⊥

-- why a stack could not be started: a setting is out of range, and nothing was sent; or the disk could not be read
abbrev pub IsStartFault : AdapterView → Settings → StartFault → AdapterView → Type 0
IsStartFault disk settings SettingsFault after = (¬ (AreInRange settings)) × (after ≡ disk)
IsStartFault disk settings fault after = AreInRange settings × IsDiskFault disk fault after

-- what is left of an adapter over which no stack could be started
pub record IsSpent (disk : AdapterView) (settings : Settings) (fault : StartFault) (after : AdapterView) : Type 0 where
  pub same : IsSameDisk (asked_by_probe disk) disk after
  pub why : IsStartFault disk settings fault after
