use Rattle.std.specs.Io.Buffered.{reader_remaining}
use Rattle.judging.proofs.SaidOfTraces.{fault_by, known_is, said_by, told_by}
use Rattle.judging.proofs.checking.check.Goals as goal

pub returns-clause-printed : goal.returns-clause-printed
returns-clause-printed g c =
    said_by c.args.standard.now (reader_remaining g.T.Read.remaining c.in-Ok.input) (g.T.Read.remaining c.args.trace) (g.O.Write.contents c.args.out.now)
    (g.O.Write.contents c.course_of.new.out) (g.O.Write.contents c.say_verdict.new.out) c.in_ok-course.course c.say_verdict.result
    (known_is g.T.Read.remaining c.in-Ok.input c.args.trace c.in-Ok.ensures.capacity c.in-Ok.ensures.empty c.in-Ok.ensures.inner) c.in_ok-course.ensures.course c.say_verdict.ensures.said

pub returns-clause-fault : goal.returns-clause-fault
returns-clause-fault g c =
    fault_by c.args.standard.now (reader_remaining g.T.Read.remaining c.in-Ok.input) (g.T.Read.remaining c.args.trace) (g.O.Write.contents c.args.out.now)
    (g.O.Write.contents c.course_of.new.out) (g.O.Write.contents c.say_verdict.new.out) c.in_ok-course.course c.say_verdict.result
    (known_is g.T.Read.remaining c.in-Ok.input c.args.trace c.in-Ok.ensures.capacity c.in-Ok.ensures.empty c.in-Ok.ensures.inner) c.in_ok-course.ensures.course c.say_verdict.ensures.fault

pub returns-clause-told : goal.returns-clause-told
returns-clause-told g c =
    told_by c.args.standard.now (reader_remaining g.T.Read.remaining c.in-Ok.input) (g.T.Read.remaining c.args.trace) (g.O.Write.contents c.args.out.now)
    (g.O.Write.contents c.course_of.new.out) (g.O.Write.contents c.say_verdict.new.out) c.in_ok-course.course c.say_verdict.result
    (known_is g.T.Read.remaining c.in-Ok.input c.args.trace c.in-Ok.ensures.capacity c.in-Ok.ensures.empty c.in-Ok.ensures.inner) c.in_ok-course.ensures.course c.say_verdict.ensures.fault
