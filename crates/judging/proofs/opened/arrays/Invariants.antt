use Rattle.std.proofs.Common.{◌≡◌, map, take}
use Rattle.settings.specs.Medium.{zeros}
use Rattle.judging.proofs.opened.arrays.Given as goal

abbrev pub invariant-loop-extent : goal.invariant-loop-extent
invariant-loop-extent l = l.arrays.items ≡ map (λ extent. zeros l.config extent.count) (take l.extent-index l.extents)
