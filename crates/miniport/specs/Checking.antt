-- What is found of an SRB before the medium is asked.
use Rattle.std.specs.Prelude.{◌≡◌, ◌≤◌, ℕ, ◌+◌, List, length, Some, Result, Ok}
use Rattle.cdb.specs.declared.Cdb.{Cdb}
use Rattle.cdb.specs.declared.CdbFault.{CdbFault}
use Rattle.cdb.specs.Meaning.{Means}
use Rattle.srb.specs.declared.Srb.{Srb}
use Rattle.srb.specs.declared.Completion.{Completion}
use Rattle.miniport.specs.declared.check.Sizes.{Sizes}
use Rattle.miniport.specs.Faults.{Disk, Decodes, fault_of, fault_of_command, fault_of_medium, lba_of, blocks_of, bytes_of}

-- the disk of these sizes with these bad sectors
abbrev pub disk_with : Sizes → List ℕ → Disk
disk_with sizes bad = record {
  sector_size = sizes.sector_size;
  sectors = sizes.sectors;
  bad = bad;
  write_protected = sizes.write_protected;
}

-- only a bad sector can fail the command
pub record Fits (sizes : Sizes) (srb : Srb) (command : Cdb) : Type 0 where
  pub within : lba_of command + blocks_of command ≤ sizes.sectors
  pub as_long : length srb.data ≡ bytes_of sizes.sector_size command
  pub left : (bad : List ℕ) → fault_of_command (disk_with sizes bad) srb command ≡ fault_of_medium (disk_with sizes bad) command

-- the command fails with this completion, whatever sectors are bad
abbrev pub IsMisfit : Sizes → Srb → Cdb → Completion → Type 0
IsMisfit sizes srb command completion = (bad : List ℕ) → fault_of_command (disk_with sizes bad) srb command ≡ Some completion

pub record Passes (sizes : Sizes) (srb : Srb) (command : Cdb) : Type 0 where
  pub means : Means srb.block command
  pub fits : Fits sizes srb command
  pub fault : (bad : List ℕ) → fault_of (disk_with sizes bad) srb (Ok command) ≡ fault_of_medium (disk_with sizes bad) command

pub record IsRefused (sizes : Sizes) (srb : Srb) (completion : Completion) : Type 0 where
  pub decoded : Result Cdb CdbFault
  pub decodes : Decodes srb.block decoded
  pub fault : (bad : List ℕ) → fault_of (disk_with sizes bad) srb decoded ≡ Some completion
