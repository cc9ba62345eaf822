use Rattle.settings.specs.Settings.{AreSettingsOf}
use Rattle.saddlemug.specs.Opened.{IsConfigStatus, IsStartStatus}
use Rattle.saddlemug.proofs.Texts.{stack_given, why_none}
use Rattle.saddlemug.proofs.opening.new_stack.Goals as goal

pub returns-clause-stack : goal.returns-clause-stack
returns-clause-stack c =
    stack_given (AreSettingsOf c.args.text.now) c.in_ok-config.config c.stack_of.result c.in_ok-config.ensures.settings c.stack_of.ensures.stack

pub returns-clause-why : goal.returns-clause-why
returns-clause-why c =
    why_none (IsConfigStatus c.args.text.now) (AreSettingsOf c.args.text.now) IsStartStatus c.in_ok-config.config c.stack_of.result
    c.in_ok-config.ensures.settings c.stack_of.ensures.why
