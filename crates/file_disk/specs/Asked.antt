-- What an SRB asks of a file.
use Rattle.std.specs.Prelude.{◌≡◌, Some}
use Rattle.cdb.specs.declared.Cdb.{Cdb}
use Rattle.sector.specs.declared.Extent.{Extent}
use Rattle.srb.specs.declared.Srb.{Srb}
use Rattle.file_disk.specs.declared.file_disk.Task.{Task}
use Rattle.file_disk.specs.Transfers.{DiskView, Fits, task_in}

-- the SRB's command may be carried out, and asks for this task of these sectors
pub record Asks (disk : DiskView) (srb : Srb) (asked : Task × Extent) : Type 0 where
  pub command : Cdb
  pub passes : Fits disk srb command
  pub asks : task_in command ≡ Some asked
