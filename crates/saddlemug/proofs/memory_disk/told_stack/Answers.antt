use Rattle.saddlemug.specs.Opened.{IsStartStatus}
use Rattle.saddlemug.specs.InMemory.{AreTold, IsDiskStatus}
use Rattle.saddlemug.proofs.Texts.{stack_given, why_none}
use Rattle.saddlemug.proofs.memory_disk.told_stack.Goals as goal

pub returns-clause-stack : goal.returns-clause-stack
returns-clause-stack c =
    stack_given (AreTold c.args.disk.now c.args.bad.now) c.in_ok-config.config c.stack_of.result c.in_ok-config.ensures.settings c.stack_of.ensures.stack

pub returns-clause-why : goal.returns-clause-why
returns-clause-why c =
    why_none (IsDiskStatus c.args.disk.now c.args.bad.now) (AreTold c.args.disk.now c.args.bad.now) IsStartStatus c.in_ok-config.config
    c.stack_of.result c.in_ok-config.ensures.settings c.stack_of.ensures.why
