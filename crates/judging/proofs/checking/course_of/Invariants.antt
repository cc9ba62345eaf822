-- The lines so far are read and judged.
use Rattle.judging.proofs.Courses.{HasRead}
use Rattle.judging.proofs.checking.course_of.Given as goal

abbrev pub invariant-loop-index : goal.invariant-loop-index
invariant-loop-index g l =
    HasRead l.standard (g.B.Read.remaining l.initial.input) (g.B.Read.remaining l.input) l.index (g.O.Write.contents l.initial.out) (g.O.Write.contents l.out) l.course
