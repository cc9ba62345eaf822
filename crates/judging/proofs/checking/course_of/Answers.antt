use Rattle.std.proofs.Common.{◌≡◌, arith, ◌+◌, Err, inr, refl, rules}
use Rattle.judging.proofs.Courses.{begins_so, last_read, none_left, none_read, one_read, stopped, told_so_far, told_unread}
use Rattle.judging.proofs.LinesRead.{bare, bare_last, ended_is, ended_so, no_bytes, not_ended, some_bytes}
use Rattle.judging.proofs.checking.course_of.Goals as goal

pub loop-index-init : goal.loop-index-init
loop-index-init g c = none_read c.args.standard.now (g.B.Read.remaining c.args.input.now) (g.O.Write.contents c.args.out.now) c.in_ok-course.course c.in_ok-course.ensures.none

pub returns-in_err-next_line-clause-told : goal.returns-in_err-next_line-clause-told
returns-in_err-next_line-clause-told g c =
    let told : c.from_residual-in_err-next_line.result ≡ Err c.in_err-next_line.field-0.0 = search rules in
    rw told (told_unread c.args.standard.now (g.B.Read.remaining c.args.input.now) (g.B.Read.remaining c.loop-index.input) (g.B.Read.remaining c.loop-index.input)
    c.loop-index.index (g.O.Write.contents c.args.out.now) (g.O.Write.contents c.loop-index.out) c.loop-index.course c.loop-index.invariant
    c.in_err-next_line.field-0.0 c.in_err-next_line.ensures.fault)

pub returns-then-is_empty-clause-course : goal.returns-then-is_empty-clause-course
returns-then-is_empty-clause-course g c =
    let line = c.next_line.new.line in
    none_left c.args.standard.now (g.B.Read.remaining c.args.input.now) (g.B.Read.remaining c.loop-index.input) (g.B.Read.remaining c.next_line.new.input)
    c.loop-index.index (g.O.Write.contents c.args.out.now) (g.O.Write.contents c.loop-index.out) c.loop-index.course c.loop-index.invariant
    line.items c.in_ok-next_line.ensures.read c.in_ok-next_line.ensures.stops c.in_ok-next_line.ensures.last
    (no_bytes line.items line.len c.is_empty.result c.is_empty.ensures c.if-is_empty.true (omega (arith, line.ok.0)))

pub returns-in_err-course-2-clause-fault : goal.returns-in_err-course-2-clause-fault
returns-in_err-course-2-clause-fault g c =
    let told : c.from_residual-in_err-course-2.result ≡ Err c.in_err-course-2.field-0.0 = search rules in
    let line = c.next_line.new.line in
    let begins = begins_so c.args.standard.now (g.B.Read.remaining c.args.input.now) (g.B.Read.remaining c.loop-index.input) (g.B.Read.remaining c.next_line.new.input)
    c.loop-index.index (g.O.Write.contents c.args.out.now) (g.O.Write.contents c.loop-index.out) c.loop-index.course c.loop-index.invariant
    line.items c.in_ok-next_line.ensures.read c.in_ok-next_line.ensures.stops c.in_ok-next_line.ensures.last
    c.without_end.result.now (c.loop-index.index + 1) c.in_ok-told.told c.in_ok-told.ensures.told refl (omega (arith, c.loop-index-test.true))
    c.is_ended-ended.result (ended_is c.as_slice.result.now line.items c.as_slice.ensures.value c.is_ended-ended.result c.is_ended-ended.ensures)
    (λ ended. bare c.as_slice-in-loop-index.result.now line.items c.as_slice-in-loop-index.ensures.value c.without_end.result.now c.without_end.ensures.ended ended)
    (λ no_end. bare_last c.as_slice-in-loop-index.result.now line.items c.as_slice-in-loop-index.ensures.value c.without_end.result.now c.without_end.ensures.last no_end)
    (some_bytes line.items line.len c.is_empty.result c.is_empty.ensures c.if-is_empty.false (omega (arith, line.ok.0))) in
    rw told ((stopped c.args.standard.now (g.B.Read.remaining c.args.input.now) (g.B.Read.remaining c.loop-index.input) (g.B.Read.remaining c.next_line.new.input)
    c.loop-index.index (g.O.Write.contents c.args.out.now) (g.O.Write.contents c.loop-index.out) c.loop-index.course c.loop-index.invariant
    line.items c.in_ok-next_line.ensures.read c.in_ok-next_line.ensures.stops c.in_ok-next_line.ensures.last
    c.without_end.result.now (c.loop-index.index + 1) c.in_ok-told.told c.in_ok-told.ensures.told refl (omega (arith, c.loop-index-test.true))
    (g.O.Write.contents c.after.new.out) c.in_err-course-2.field-0.0 begins c.in_ok-told.told c.in_ok-told.ensures.told c.in_err-course-2.ensures.fault).0)

pub returns-in_err-course-2-clause-told : goal.returns-in_err-course-2-clause-told
returns-in_err-course-2-clause-told g c =
    let told : c.from_residual-in_err-course-2.result ≡ Err c.in_err-course-2.field-0.0 = search rules in
    let line = c.next_line.new.line in
    let begins = begins_so c.args.standard.now (g.B.Read.remaining c.args.input.now) (g.B.Read.remaining c.loop-index.input) (g.B.Read.remaining c.next_line.new.input)
    c.loop-index.index (g.O.Write.contents c.args.out.now) (g.O.Write.contents c.loop-index.out) c.loop-index.course c.loop-index.invariant
    line.items c.in_ok-next_line.ensures.read c.in_ok-next_line.ensures.stops c.in_ok-next_line.ensures.last
    c.without_end.result.now (c.loop-index.index + 1) c.in_ok-told.told c.in_ok-told.ensures.told refl (omega (arith, c.loop-index-test.true))
    c.is_ended-ended.result (ended_is c.as_slice.result.now line.items c.as_slice.ensures.value c.is_ended-ended.result c.is_ended-ended.ensures)
    (λ ended. bare c.as_slice-in-loop-index.result.now line.items c.as_slice-in-loop-index.ensures.value c.without_end.result.now c.without_end.ensures.ended ended)
    (λ no_end. bare_last c.as_slice-in-loop-index.result.now line.items c.as_slice-in-loop-index.ensures.value c.without_end.result.now c.without_end.ensures.last no_end)
    (some_bytes line.items line.len c.is_empty.result c.is_empty.ensures c.if-is_empty.false (omega (arith, line.ok.0))) in
    rw told ((stopped c.args.standard.now (g.B.Read.remaining c.args.input.now) (g.B.Read.remaining c.loop-index.input) (g.B.Read.remaining c.next_line.new.input)
    c.loop-index.index (g.O.Write.contents c.args.out.now) (g.O.Write.contents c.loop-index.out) c.loop-index.course c.loop-index.invariant
    line.items c.in_ok-next_line.ensures.read c.in_ok-next_line.ensures.stops c.in_ok-next_line.ensures.last
    c.without_end.result.now (c.loop-index.index + 1) c.in_ok-told.told c.in_ok-told.ensures.told refl (omega (arith, c.loop-index-test.true))
    (g.O.Write.contents c.after.new.out) c.in_err-course-2.field-0.0 begins c.in_ok-told.told c.in_ok-told.ensures.told c.in_err-course-2.ensures.fault).1)

pub returns-then-not-ended-clause-course : goal.returns-then-not-ended-clause-course
returns-then-not-ended-clause-course g c =
    let line = c.next_line.new.line in
    let no_end = not_ended c.as_slice.result.now line.items c.as_slice.ensures.value c.is_ended-ended.result c.is_ended-ended.ensures c.if-not-ended.true in
    last_read c.args.standard.now (g.B.Read.remaining c.args.input.now) (g.B.Read.remaining c.loop-index.input) (g.B.Read.remaining c.next_line.new.input)
    c.loop-index.index (g.O.Write.contents c.args.out.now) (g.O.Write.contents c.loop-index.out) c.loop-index.course c.loop-index.invariant
    line.items c.in_ok-next_line.ensures.read c.in_ok-next_line.ensures.stops c.in_ok-next_line.ensures.last
    c.without_end.result.now (c.loop-index.index + 1) c.in_ok-told.told c.in_ok-told.ensures.told refl (omega (arith, c.loop-index-test.true))
    (g.O.Write.contents c.after.new.out) c.in_ok-course-2.course c.in_ok-course-2.ensures.goes
    (some_bytes line.items line.len c.is_empty.result c.is_empty.ensures c.if-is_empty.false (omega (arith, line.ok.0))) no_end
    (bare_last c.as_slice-in-loop-index.result.now line.items c.as_slice-in-loop-index.ensures.value c.without_end.result.now c.without_end.ensures.last no_end)

pub loop-index-preserved : goal.loop-index-preserved
loop-index-preserved g c =
    let line = c.next_line.new.line in
    let ended = ended_so c.as_slice.result.now line.items c.as_slice.ensures.value c.is_ended-ended.result c.is_ended-ended.ensures c.if-not-ended.false in
    one_read c.args.standard.now (g.B.Read.remaining c.args.input.now) (g.B.Read.remaining c.loop-index.input) (g.B.Read.remaining c.next_line.new.input)
    c.loop-index.index (g.O.Write.contents c.args.out.now) (g.O.Write.contents c.loop-index.out) c.loop-index.course c.loop-index.invariant
    line.items c.in_ok-next_line.ensures.read c.in_ok-next_line.ensures.stops c.in_ok-next_line.ensures.last
    c.without_end.result.now (c.loop-index.index + 1) c.in_ok-told.told c.in_ok-told.ensures.told refl (omega (arith, c.loop-index-test.true))
    (g.O.Write.contents c.after.new.out) c.in_ok-course-2.course c.in_ok-course-2.ensures.goes
    ended (bare c.as_slice-in-loop-index.result.now line.items c.as_slice-in-loop-index.ensures.value c.without_end.result.now c.without_end.ensures.ended ended)

pub returns-clause-told : goal.returns-clause-told
returns-clause-told g c =
    inr (told_so_far c.args.standard.now (g.B.Read.remaining c.args.input.now) (g.B.Read.remaining c.loop-index.input) (g.B.Read.remaining c.loop-index.input)
    c.loop-index.index (g.O.Write.contents c.args.out.now) (g.O.Write.contents c.loop-index.out) c.loop-index.course c.loop-index.invariant)
