use Rattle.settings.specs.Settings.{AreSettingsOf}
use Rattle.saddlemug.specs.Opened.{IsConfigStatus, IsOpenStatus}
use Rattle.saddlemug.proofs.Texts.{volume_given, why_none}
use Rattle.saddlemug.proofs.opening.new_volume.Goals as goal

pub returns-clause-volume : goal.returns-clause-volume
returns-clause-volume c =
    volume_given (AreSettingsOf c.args.text.now) c.in_ok-config.config c.args.partition c.volume_of.result c.in_ok-config.ensures.settings c.volume_of.ensures.volume

pub returns-clause-why : goal.returns-clause-why
returns-clause-why c =
    why_none (IsConfigStatus c.args.text.now) (AreSettingsOf c.args.text.now) (λ config. IsOpenStatus config c.args.partition) c.in_ok-config.config
    c.volume_of.result c.in_ok-config.ensures.settings c.volume_of.ensures.why
