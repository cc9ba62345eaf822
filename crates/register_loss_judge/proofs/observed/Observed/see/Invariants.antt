use Rattle.std.proofs.Common.{◌∷◌, ◌++◌, []}
use Rattle.register_loss_judge.proofs.observed.Observed.see.Given as goal

-- the sights so far, and this one
abbrev pub ghost-with : goal.ghost-with
ghost-with a = a.self.now.items ++ a._from.now ∷ []
