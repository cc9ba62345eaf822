use Rattle.std.proofs.Common.{[], ◌∷◌}
use Rattle.chronicle.proofs.Whole.add.Given as goal

-- the entry of this call
abbrev pub ghosts-add : goal.ghosts-add
ghosts-add g a = record { items = a.entry.now ∷ [] }
