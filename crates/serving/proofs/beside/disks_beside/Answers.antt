use Rattle.std.proofs.Common.{rules}
use Rattle.serving.proofs.beside.disks_beside.Goals as goal

pub new-requires-clause-size : goal.new-requires-clause-size
new-requires-clause-size g = search rules
