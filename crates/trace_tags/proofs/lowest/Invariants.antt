use Rattle.std.proofs.Common.{◌≡◌, ◌-◌, ◌≤◌}
use Rattle.trace_tags.specs.Tags.{lowest_from}
use Rattle.trace_tags.proofs.lowest.Given as goal

abbrev pub invariant-loop-tag : goal.invariant-loop-tag
invariant-loop-tag l = record { low : l.tag ≤ 256; same : lowest_from l.out 0 256 ≡ lowest_from l.out l.tag (256 - l.tag) }
