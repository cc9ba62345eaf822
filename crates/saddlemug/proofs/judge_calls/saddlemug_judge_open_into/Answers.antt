use Rattle.std.proofs.Common.{refl, inl}
use Rattle.saddlemug.specs.Judged.{IsNewJudge}
use Rattle.saddlemug.specs.Opened.{IsJudgeStatus}
use Rattle.saddlemug.proofs.Filling.{filled_status, holds_judge}
use Rattle.saddlemug.proofs.judge_calls.saddlemug_judge_open_into.Goals as goal

pub returns-in-Ok-clause-held : goal.returns-in-Ok-clause-held
returns-in-Ok-clause-held c = holds_judge (IsNewJudge c.args.settings.now) _ _ _ c.in-Ok.ensures.judge c.fill.ensures.held

pub returns-in-Ok-clause-status : goal.returns-in-Ok-clause-status
returns-in-Ok-clause-status c = filled_status (IsJudgeStatus c.args.settings.now) c.fill.result (inl (inl refl)) c.fill.ensures.status
