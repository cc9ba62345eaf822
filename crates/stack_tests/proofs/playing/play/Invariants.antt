use Rattle.std.proofs.Common.{◌≡◌, []}
use Rattle.script.specs.Events.{AreNamed}
use Rattle.stack_tests.proofs.playing.play.Given as goal

abbrev pub invariant-loop-line : goal.invariant-loop-line
invariant-loop-line g l = (g.S.Carrier.labels l.carrier ≡ []) × AreNamed l.given
