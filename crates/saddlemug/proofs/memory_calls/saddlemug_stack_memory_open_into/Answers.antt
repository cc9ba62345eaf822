use Rattle.std.proofs.Common.{refl, inl}
use Rattle.saddlemug.specs.InMemory.{IsToldStack, IsToldStackStatus}
use Rattle.saddlemug.proofs.Filling.{filled_status, holds_stack}
use Rattle.saddlemug.proofs.memory_calls.saddlemug_stack_memory_open_into.Goals as goal

pub returns-in-Ok-clause-held : goal.returns-in-Ok-clause-held
returns-in-Ok-clause-held c = holds_stack (IsToldStack c.args.disk.now c.args.bad.now) _ _ _ c.in-Ok.ensures.stack c.fill.ensures.held

pub returns-in-Ok-clause-status : goal.returns-in-Ok-clause-status
returns-in-Ok-clause-status c = filled_status (IsToldStackStatus c.args.disk.now c.args.bad.now) c.fill.result (inl (inl refl)) c.fill.ensures.status
