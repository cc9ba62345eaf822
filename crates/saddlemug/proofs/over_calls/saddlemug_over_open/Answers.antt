use Rattle.std.proofs.Common.{refl, inl}
use Rattle.saddlemug.specs.Over.{IsNewOver, IsOverStatus}
use Rattle.saddlemug.proofs.Filling.{filled_status, holds_over}
use Rattle.saddlemug.proofs.over_calls.saddlemug_over_open.Goals as goal

pub returns-in-Ok-clause-held : goal.returns-in-Ok-clause-held
returns-in-Ok-clause-held c = holds_over (IsNewOver c.args.disk.now c.args.first.now) _ _ _ c.in-Ok.ensures.over c.fill.ensures.held

pub returns-in-Ok-clause-status : goal.returns-in-Ok-clause-status
returns-in-Ok-clause-status c = filled_status (IsOverStatus c.args.disk.now c.args.first.now) c.fill.result (inl refl) c.fill.ensures.status
