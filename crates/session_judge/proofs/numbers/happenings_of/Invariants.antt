use Rattle.std.proofs.Common.{◌≡◌, map, take}
use Rattle.session_judge.specs.Numbers.{happening_of}
use Rattle.session_judge.proofs.numbers.happenings_of.Given as goal

-- those so far are numbered
abbrev pub invariant-loop-deed : goal.invariant-loop-deed
invariant-loop-deed l = l.happenings.items ≡ map (happening_of l.tables) (take l.deed-index l.deeds)
