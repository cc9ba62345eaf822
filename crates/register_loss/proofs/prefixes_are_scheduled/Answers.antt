use Rattle.register_loss.proofs.Prefixes.{prefixes}
use Rattle.register_loss.proofs.prefixes_are_scheduled.Goals as goal

pub returns : goal.returns
returns c = prefixes
