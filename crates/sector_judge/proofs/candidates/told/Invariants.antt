use Rattle.std.proofs.Common.{◌≡◌, take}
use Rattle.std.specs.List.{filter_map}
use Rattle.sector_judge.specs.Known.{told_of}
use Rattle.sector_judge.proofs.candidates.told.Given as goal

-- those so far that are told are there
abbrev pub invariant-loop-candidate : goal.invariant-loop-candidate
invariant-loop-candidate l = l.values.items ≡ filter_map told_of (take l.candidate-index l.candidates)
