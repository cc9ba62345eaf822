use Rattle.saddlemug.specs.Opened.{IsOpenStatus}
use Rattle.saddlemug.specs.InMemory.{AreTold, IsDiskStatus}
use Rattle.saddlemug.proofs.Texts.{volume_given, why_none}
use Rattle.saddlemug.proofs.memory_disk.told_volume.Goals as goal

pub returns-clause-volume : goal.returns-clause-volume
returns-clause-volume c =
    volume_given (AreTold c.args.disk.now c.args.bad.now) c.in_ok-config.config c.args.partition c.volume_of.result c.in_ok-config.ensures.settings
    c.volume_of.ensures.volume

pub returns-clause-why : goal.returns-clause-why
returns-clause-why c =
    why_none (IsDiskStatus c.args.disk.now c.args.bad.now) (AreTold c.args.disk.now c.args.bad.now) (λ config. IsOpenStatus config c.args.partition)
    c.in_ok-config.config c.volume_of.result c.in_ok-config.ensures.settings c.volume_of.ensures.why
