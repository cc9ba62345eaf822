use Rattle.std.proofs.Common.{◌∷◌, ◌++◌, []}
use Rattle.history_judge.proofs.recorded.with_label.Given as goal

-- those before, and this one
abbrev pub ghost-with : goal.ghost-with
ghost-with a = a.self.now.items ++ a._from.now ∷ []
