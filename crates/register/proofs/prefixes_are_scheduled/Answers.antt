use Rattle.register.proofs.Prefixes.{prefixes}
use Rattle.register.proofs.prefixes_are_scheduled.Goals as goal

pub returns : goal.returns
returns c = prefixes
