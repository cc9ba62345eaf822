use Rattle.history_judge.specs.inside.Cells.{sights_in}
use Rattle.history_judge.proofs.Begun.{HasStartsTo}
use Rattle.history_judge.proofs.trying.starts_of.Given as goal

-- the values of the sights so far are there
abbrev pub invariant-loop-one : goal.invariant-loop-one
invariant-loop-one l = HasStartsTo l.first (sights_in l.given) l.one-index l.blanks.items l.values.items
