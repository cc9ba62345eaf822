-- What a client of a layer knows of it.
use Rattle.std.specs.Prelude.{◌≡◌, ◌≤◌, ◌<◌, ◌^◌, ℕ, Bool, true, false, List, length, Some}
use Rattle.cdb.specs.declared.Cdb.TheVariants.{Sync10}
use Rattle.sector.specs.declared.Extent.{Extent}
use Rattle.irp.specs.declared.Irp.{Irp}
use Rattle.machine.specs.declared.Request.{Request}
use Rattle.machine.specs.Rules.{Rules, home}
use Rattle.machine.specs.Sending.{flush_command}
use Rattle.device.specs.View.{DeviceView, AsksInLocation, Carries, IsBounded}
use Rattle.port.specs.Shown.{rules_of}

-- rules with these partitions of sectors of 512 bytes, and requests of this many sectors at most
abbrev pub rules_on : List Extent → ℕ → Rules
rules_on table longest =
    record (rules_of (record { sector_size = 512; sectors = 4096; max_transfer = 64; depth = 2; faithful = true; keeps_bytes = true })) { partitions = table; longest = longest }

-- the layer has such rules, with any longest request, and two tags
pub record AreLike (rules : Rules) (table : List Extent) : Type 0 where
  pub size : rules.sector_size ≡ 512
  pub flush : flush_command rules.disk_sectors ≡ Sync10 0 0
  pub partitions : rules.partitions ≡ table
  pub depth : rules.depth ≡ 2

-- numbers from this one on were not given; the device is paused or goes on, and is removed or stays
pub record IsKnown (v : DeviceView) (table : List Extent) (next : ℕ) (paused removed : Bool) : Type 0 where
  pub rules : AreLike v.rules table
  pub many : 1000 ≤ v.most
  pub numbers : v.state.next_request ≤ next
  pub submitted : v.submitted ≤ next
  pub paused_is : v.state.paused ≡ paused
  pub removing : v.state.removing ≡ removed

-- what a client knows stays as it is
pub record Keeps (old new : DeviceView) : Type 0 where
  pub rules : new.rules ≡ old.rules
  pub most : new.most ≡ old.most
  pub next_request : new.state.next_request ≡ old.state.next_request
  pub submitted : new.submitted ≡ old.submitted
  pub paused : new.state.paused ≡ old.state.paused
  pub removing : new.state.removing ≡ old.state.removing

-- a request of one of these partitions, which a block of ten bytes can ask for
pub record IsAskable (table : List Extent) (longest : ℕ) (r : Request) : Type 0 where
  pub bounded : IsBounded (rules_on table longest) r
  pub address : home (rules_on table longest) (Some r.volume) r.extent.first < 2 ^ 32
  pub few : r.extent.count ≤ 256

-- a packet of this number that asks for a request
pub record Brings (takes_srb : Bool) (table : List Extent) (longest number : ℕ) (r : Request) (irp : Irp) : Type 0 where
  pub number_is : irp.number ≡ number
  pub fresh : irp.cancelled ≡ false
  pub locations : length irp.locations.items ≡ 1
  pub asks : AsksInLocation takes_srb r irp
  pub carries : Carries takes_srb (rules_on table longest) r irp.payload
