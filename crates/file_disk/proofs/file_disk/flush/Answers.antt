use Rattle.file_disk.proofs.Doing.{sync_failed, synced}
use Rattle.file_disk.proofs.file_disk.flush.Goals as goal

pub returns-in-Ok : goal.returns-in-Ok
returns-in-Ok g c = synced _ _ _ c.in-Ok.ensures.noted

pub returns-in-Err : goal.returns-in-Err
returns-in-Err g c = sync_failed _ _ _ _ c.hardware_fault.ensures c.in-Err.ensures.noted
