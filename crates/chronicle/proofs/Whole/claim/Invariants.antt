use Rattle.std.proofs.Common.{[], ◌∷◌}
use Rattle.chronicle.proofs.Whole.claim.Given as goal

-- the place and the entry of this call
abbrev pub ghosts-claim : goal.ghosts-claim
ghosts-claim g a = record { items = (a.at, a.entry.now) ∷ [] }
