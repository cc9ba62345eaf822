-- What becomes of a command on a medium.
use Rattle.std.specs.Prelude.{◌≡◌, ◌≤◌, ℕ, ◌+◌, Bool, List, length, Some, None, Result, Ok}
use Rattle.std.specs.List.{concat}
use Rattle.sector.specs.declared.Extent.{Extent}
use Rattle.cdb.specs.declared.Cdb.{Cdb}
use Rattle.cdb.specs.declared.CdbFault.{CdbFault}
use Rattle.cdb.specs.Meaning.{Means, AsksToWrite}
use Rattle.srb.specs.declared.Srb.{Srb}
use Rattle.srb.specs.declared.Completion.{Completion}
use Rattle.adapter.specs.Performing.{Performs}
use Rattle.disk.specs.Medium.{MediumView, IsReserved, HasBad, bytes_at, failed, Writes as Rewrites}
use Rattle.miniport.specs.declared.check.Sizes.{Sizes}
use Rattle.miniport.specs.declared.carrying.Outcome.{Outcome}
use Rattle.miniport.specs.declared.carrying.Outcome.TheVariants.{Moved, Failed}
use Rattle.miniport.specs.Faults.{Disk, Decodes, fault_of, error}
use Rattle.miniport.specs.Moving.{moved_by}

-- the disk that a medium and its protection make
abbrev pub disk_of : MediumView → Bool → Disk
disk_of medium write_protected = record {
  sector_size = medium.sector_size;
  sectors = length medium.sectors;
  bad = medium.bad;
  write_protected = write_protected;
}

-- what is known of the disk before a sector is looked at
abbrev pub sizes_of : MediumView → Bool → Sizes
sizes_of medium write_protected = record {
  sector_size = medium.sector_size;
  sectors = length medium.sectors;
  write_protected = write_protected;
}

-- a write that lies in the medium has its extent reserved
abbrev pub IsReady : MediumView → Srb → Type 0
IsReady medium srb =
    (lba count : ℕ) (fua : Bool) → AsksToWrite srb.block lba count fua → lba + count ≤ length medium.sectors
    → IsReserved medium (record { first = lba; count = count })

-- an SRB with other data
abbrev pub with_data : List ℕ → Srb → Srb
with_data bytes srb = record srb { «data» = bytes }

-- the sectors of an extent are read into the SRB's data, unless one is bad
abbrev pub Reads : MediumView → Extent → Srb → Outcome → MediumView → Type 0
Reads medium extent srb (Moved srb') medium' =
    (¬ HasBad medium extent) × (srb' ≡ with_data (bytes_at medium extent) srb) × (medium' ≡ medium)
Reads medium extent srb (Failed srb' completion) medium' =
    HasBad medium extent × (completion ≡ error 3 0x11 0x00) × (srb' ≡ srb) × (medium' ≡ failed medium)

-- the SRB's data are written over an extent, unless a sector of it is bad
abbrev pub Writes : MediumView → Extent → Srb → Outcome → MediumView → Type 0
Writes medium extent srb (Moved srb') medium' =
    (¬ HasBad medium extent) × Rewrites medium extent srb.data medium' × (srb' ≡ srb)
Writes medium extent srb (Failed srb' completion) medium' =
    HasBad medium extent × (completion ≡ error 3 0x0C 0x00) × (srb' ≡ srb) × (medium' ≡ failed medium)

-- the command is carried out: its bytes, as many as the data had, stand in the data
pub record CarriesOut (medium : MediumView) (write_protected : Bool) (srb srb' : Srb) (medium' : MediumView) : Type 0 where
  pub command : Cdb
  pub bytes : List ℕ
  pub moved : List (List ℕ)
  pub sectors : List (List ℕ)
  pub means : Means srb.block command
  pub no_fault : fault_of (disk_of medium write_protected) srb (Ok command) ≡ None
  pub performs : Performs medium.sector_size medium.sectors srb.data command moved sectors
  pub bytes_are : bytes ≡ concat moved
  pub moved_is : moved ≡ moved_by medium.sector_size srb.block bytes
  pub as_many : length bytes ≡ length srb.data
  pub comes_back : srb' ≡ with_data bytes srb
  pub after : medium' ≡ record medium { sectors = sectors }

-- the command fails, and no sector changes
pub record FailsBy (medium : MediumView) (write_protected : Bool) (srb srb' : Srb) (completion : Completion) (medium' : MediumView) : Type 0 where
  pub decoded : Result Cdb CdbFault
  pub failures : ℕ
  pub decodes : Decodes srb.block decoded
  pub fault : fault_of (disk_of medium write_protected) srb decoded ≡ Some completion
  pub same : srb' ≡ srb
  pub counted : failures ≤ medium.failures + 1
  pub after : medium' ≡ record medium { failures = failures }

abbrev pub Ends : MediumView → Bool → Srb → Outcome → MediumView → Type 0
Ends medium write_protected srb (Moved srb') medium' = CarriesOut medium write_protected srb srb' medium'
Ends medium write_protected srb (Failed srb' completion) medium' = FailsBy medium write_protected srb srb' completion medium'
