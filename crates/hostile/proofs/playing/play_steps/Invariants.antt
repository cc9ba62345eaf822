use Rattle.std.proofs.Common.{◌≡◌, []}
use Rattle.hostile.proofs.playing.play_steps.Given as goal

abbrev pub invariant-loop-step : goal.invariant-loop-step
invariant-loop-step g l = l.stack.labels ≡ []
