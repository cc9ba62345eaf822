use Rattle.std.proofs.Common.{◌≡◌, []}
use Rattle.hostile.proofs.playing.fits.Given as goal

abbrev pub invariant-loop-label : goal.invariant-loop-label
invariant-loop-label g l = l.stack.labels ≡ []
