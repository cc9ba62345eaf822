use Rattle.std.proofs.Common.{refl, inl}
use Rattle.saddlemug.specs.InMemory.{IsToldVolume, IsToldVolumeStatus}
use Rattle.saddlemug.proofs.Filling.{filled_status, holds_volume}
use Rattle.saddlemug.proofs.memory_calls.saddlemug_memory_open_into.Goals as goal

pub returns-in-Ok-clause-held : goal.returns-in-Ok-clause-held
returns-in-Ok-clause-held c = holds_volume (IsToldVolume c.args.disk.now c.args.bad.now c.args.partition) _ _ _ c.in-Ok.ensures.volume c.fill.ensures.held

pub returns-in-Ok-clause-status : goal.returns-in-Ok-clause-status
returns-in-Ok-clause-status c =
    filled_status (IsToldVolumeStatus c.args.disk.now c.args.bad.now c.args.partition) c.fill.result (inl (inl refl)) c.fill.ensures.status
