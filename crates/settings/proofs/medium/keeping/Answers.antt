use Rattle.settings.proofs.NewDisk.{kept_already}
use Rattle.settings.proofs.medium.keeping.Goals as goal

pub returns-then-keeps_bytes : goal.returns-then-keeps_bytes
returns-then-keeps_bytes g c = kept_already c.args.adapter c.args.keeps_bytes c.requires.kept c.if-keeps_bytes.true
