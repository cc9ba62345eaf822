use Rattle.std.proofs.Common.{rules}
use Rattle.chronicle.proofs.Steps.{adds}
use Rattle.chronicle.proofs.add.Goals as goal

pub load-requires : goal.load-requires
load-requires g c = (search rules, search rules, rw c.requires.entry (adds _ _ _ _ _ c.requires.keeper))
