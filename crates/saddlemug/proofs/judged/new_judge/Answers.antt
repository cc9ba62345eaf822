use Rattle.settings.specs.Settings.{AreSettingsOf}
use Rattle.saddlemug.specs.Opened.{IsConfigStatus, IsUnstarted}
use Rattle.saddlemug.proofs.Texts.{judge_given, why_none}
use Rattle.saddlemug.proofs.judged.new_judge.Goals as goal

pub returns-clause-judge : goal.returns-clause-judge
returns-clause-judge c = judge_given c.args.text.now c.in_ok-config.config c.judge_of.result c.in_ok-config.ensures.settings c.judge_of.ensures.judge

pub returns-clause-why : goal.returns-clause-why
returns-clause-why c =
    why_none (IsConfigStatus c.args.text.now) (AreSettingsOf c.args.text.now) IsUnstarted c.in_ok-config.config c.judge_of.result
    c.in_ok-config.ensures.settings c.judge_of.ensures.why
