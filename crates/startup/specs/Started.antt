-- What settings start.
use Rattle.std.specs.Prelude.{◌≡◌, ◌⊎◌, ◌≤◌, ℕ, Bool, true, false, IsTrue, Contains, Err, [], length, map, Some}
use Rattle.std.specs.List.{concat, list_any}
use Rattle.ntstatus.specs.declared.NtStatus.{NtStatus}
use Rattle.ntstatus.specs.declared.NtStatus.TheVariants.{DeviceDataError}
use Rattle.adapter.specs.View.{AdapterView}
use Rattle.disk.specs.Medium.{MediumView}
use Rattle.miniport.specs.Apart.{apart, IsNewBooked}
use Rattle.miniport.specs.Memory.{MemView}
use Rattle.machine.specs.Map.{IsMap}
use Rattle.machine.specs.Rules.{Rules}
use Rattle.machine.specs.State.{opening}
use Rattle.mbr.specs.Faults.{said_of}
use Rattle.probe.specs.Exchange.{IsIdle}
use Rattle.probe.specs.Probing.{FailsOne}
use Rattle.io_manager.specs.Shown.{ManagerView}
use Rattle.io_manager.specs.declared.Refusal.TheVariants.{InvalidParameter}
use Rattle.compose.specs.declared.Settings.{Settings}
use Rattle.compose.specs.declared.StartFault.{StartFault}
use Rattle.compose.specs.declared.StartFault.TheVariants.{Settings as WrongSettings, Device as FailedCommand, Mbr as WrongTable, NoMemory as WantOfMemory}
use Rattle.compose.specs.Opening.{longest_request, last_busy_return, IsFirstView}
use Rattle.settings.specs.declared.Config.{Config}
use Rattle.settings.specs.Medium.{disk_of, entries_of, extents_of, table_sector, zeros, HasBlankPartitions, IsNewAdapter}
use Rattle.settings.specs.Rules.{slows}
use Rattle.volume.specs.declared.OpenFault.{OpenFault}
use Rattle.volume.specs.declared.OpenFault.TheVariants.{Start as NotStarted, Refused}
use Rattle.volume.specs.Shown.{VolumeView, extent_at, parted_at}

-- the most requests that may be open and at work
abbrev pub limits_of : Config → Settings
limits_of c = record { window = c.window; open_requests = c.open_requests }

-- the rules of the stack. The longest piece is as long as a transfer. The adapter may be faithful to the sectors that
-- it shows, or not, and labels may keep their bytes in memory, or not
abbrev pub rules_over : Bool → Bool → Config → Rules
rules_over is_faithful keeps_bytes c = record {
  sector_size = c.sector_size;
  disk_sectors = c.sectors;
  partitions = extents_of c;
  longest = longest_request;
  max_transfer = c.max_transfer;
  depth = c.depth;
  open_requests = Some c.open_requests;
  window = Some c.window;
  one_piece = false;
  busy_limit = last_busy_return;
  any_cut = false;
  faithful = is_faithful;
  keeps_bytes = keeps_bytes;
}

-- the rules of a stack over the disk itself, to whose sectors the adapter is faithful, and whose labels keep their bytes
abbrev pub rules_of : Config → Rules
rules_of c = rules_over true true c

-- the adapter of the settings, after the partition table was read
pub record IsOverDisk (c : Config) (adapter : AdapterView) : Type 0 where
  pub sector_size : adapter.sector_size ≡ c.sector_size
  pub sectors : adapter.sectors ≡ disk_of c
  pub max_transfer : adapter.max_transfer ≡ c.max_transfer
  pub depth : adapter.depth ≡ c.depth
  pub idle : IsIdle adapter

-- the stack of these settings before its first event: all sectors of each partition are zeros, and nothing is open
pub record IsStartOver (is_faithful keeps_bytes : Bool) (c : Config) (view : ManagerView) : Type 0 where
  pub rules : view.rules ≡ rules_over is_faithful keeps_bytes c
  pub is_map : IsMap c.sectors (extents_of c)
  pub state : view.state ≡ opening (map (λ extent. zeros c extent.count) (extents_of c))
  pub adapter : IsOverDisk c view.adapter
  pub faithful : view.adapter.faithful ≡ is_faithful
  pub no_handles : view.handles ≡ []
  pub first_handle : view.next_handle ≡ 1
  pub no_requests : view.holders ≡ []
  pub no_labels : view.labels ≡ []
  pub no_answers : view.answers ≡ []

-- such a stack over the disk itself
abbrev pub IsStartOf : Bool → Config → ManagerView → Type 0
IsStartOf keeps_bytes c view = IsStartOver true keeps_bytes c view

-- such a stack over an adapter beside the disk, which holds only the first of the disk's sectors; labels keep their bytes
abbrev pub IsStartApart : Config → ManagerView → Type 0
IsStartApart c view = IsStartOver false true c view

-- what a stack shows over an adapter of these settings before its first event
pub record IsFirstOf (c : Config) (view : ManagerView) : Type 0 where
  -- an adapter of which nothing was asked
  pub adapter : MemView
  pub new : IsNewAdapter c adapter
  pub blank : HasBlankPartitions c adapter.shown.sectors
  pub first : IsFirstView adapter.shown (limits_of c) view

-- a command was sent to the disk of these settings, and failed with this status
pub record FailsOnDisk (c : Config) (status : NtStatus) : Type 0 where
  pub adapter : MemView
  pub new : IsNewAdapter c adapter
  pub blank : HasBlankPartitions c adapter.shown.sectors
  pub after : AdapterView
  pub fails : FailsOne adapter.shown status after

-- why the stack of these settings did not start: the adapter failed a command, a partition is wrong, or memory was
-- refused
abbrev pub IsStackFault : Config → StartFault → Type 0
IsStackFault c (FailedCommand status) = FailsOnDisk c status
IsStackFault c (WrongTable fault) = said_of c.sectors (entries_of c) ≡ Err fault
IsStackFault c WantOfMemory = Unit {0}
IsStackFault c WrongSettings = ⊥

-- the settings have a rule by which commands come back busy or later
abbrev pub IsSlowed : Config → Type 0
IsSlowed c = IsTrue (list_any slows c.faults.items)

-- why no stack was started: there is such a rule, or the stack did not start
abbrev pub IsStartFault : Config → StartFault → Type 0
IsStartFault c WrongSettings = IsSlowed c
IsStartFault c fault = IsStackFault c fault

-- a command was sent to the adapter beside the disk of these settings, and failed with this status
pub record FailsApart (c : Config) (status : NtStatus) : Type 0 where
  pub adapter : MemView
  pub new : IsNewBooked (table_sector c) c.sectors c.max_transfer c.depth adapter
  pub after : AdapterView
  pub fails : FailsOne (apart adapter.shown) status after

-- sector 0 can't be read
abbrev pub IsTableBad : Config → NtStatus → Type 0
IsTableBad c status = Contains c.bad_sectors.items 0 × (status ≡ DeviceDataError)

-- why no stack could be started beside the disk: sector 0 is bad, the adapter failed a command, a partition is wrong,
-- or memory was refused
abbrev pub IsApartFault : Config → StartFault → Type 0
IsApartFault c (FailedCommand status) = IsTableBad c status ⊎ FailsApart c status
IsApartFault c (WrongTable fault) = said_of c.sectors (entries_of c) ≡ Err fault
IsApartFault c WantOfMemory = Unit {0}
IsApartFault c WrongSettings = ⊥

-- why sector 0 of a medium was not read: it is bad, or memory was refused
abbrev pub IsUnreadTable : MediumView → StartFault → Type 0
IsUnreadTable medium (FailedCommand status) = Contains medium.bad 0 × (status ≡ DeviceDataError)
IsUnreadTable medium (WrongTable fault) = ⊥
IsUnreadTable medium WantOfMemory = Unit {0}
IsUnreadTable medium WrongSettings = ⊥

-- a volume of a partition of the disk of these settings: all its bytes are zeros
pub record IsVolumeOf (c : Config) (p : ℕ) (v : VolumeView) : Type 0 where
  pub is_map : IsMap c.sectors (extents_of c)
  pub content : v.content ≡ parted_at c.sector_size (disk_of c) (extent_at (extents_of c) p)
  pub blank : v.content.bytes ≡ concat (zeros c (extent_at (extents_of c) p).count)
  pub partition : v.partition ≡ p

-- why no volume of these settings could be opened: no stack started, or there is no such partition
abbrev pub IsOpenFault : Config → ℕ → OpenFault → Type 0
IsOpenFault c p (NotStarted fault) = IsStackFault c fault
IsOpenFault c p (Refused InvalidParameter) = length (extents_of c) ≤ p
IsOpenFault c p (Refused _) = ⊥
