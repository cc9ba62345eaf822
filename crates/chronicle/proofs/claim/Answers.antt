use Rattle.std.proofs.Common.{rules}
use Rattle.chronicle.proofs.Steps.{claims_one}
use Rattle.chronicle.proofs.claim.Goals as goal

pub split_seat-requires : goal.split_seat-requires
split_seat-requires g c = (search rules, search rules, rw c.requires.claim (claims_one _ _ _ _ _ c.requires.keeper c.requires.stands))
