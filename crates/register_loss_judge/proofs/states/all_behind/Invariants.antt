use Rattle.std.proofs.Common.{◌≡◌, ◌++◌, drop}
use Rattle.register_loss_search.specs.Searching.{behind_all}
use Rattle.register_loss_judge.specs.inside.States.{forms}
use Rattle.register_loss_judge.proofs.states.all_behind.Given as goal

abbrev pub invariant-loop-state : goal.invariant-loop-state
invariant-loop-state l = forms l.all.items ++ behind_all l.sight (forms (drop l.state-index l.states)) ≡ behind_all l.sight (forms l.states)
