use Rattle.std.proofs.Common.{refl, inl}
use Rattle.saddlemug.specs.Opened.{IsNewStack, IsStackStatus}
use Rattle.saddlemug.proofs.Filling.{filled_status, holds_stack}
use Rattle.saddlemug.proofs.stack_calls.saddlemug_stack_open_into.Goals as goal

pub returns-in-Ok-clause-held : goal.returns-in-Ok-clause-held
returns-in-Ok-clause-held c = holds_stack (IsNewStack c.args.settings.now) _ _ _ c.in-Ok.ensures.stack c.fill.ensures.held

pub returns-in-Ok-clause-status : goal.returns-in-Ok-clause-status
returns-in-Ok-clause-status c = filled_status (IsStackStatus c.args.settings.now) c.fill.result (inl (inl refl)) c.fill.ensures.status
