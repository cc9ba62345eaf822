use Rattle.std.proofs.Common.{rules, ◌≡◌, ◌∙◌, refl, subst, sym}
use Rattle.judge.specs.Following.{RefusesLine}
use Rattle.judging.specs.declared.misstep.Misstep.{Misstep}
use Rattle.judging.specs.inside.Course.{IsRefusedFor, broken_as}
use Rattle.judging.proofs.Trying.{broken_so, refused_so, stops_so, taken_so}
use Rattle.judging.proofs.course.Trial.with.Goals as goal

pub returns-in-Ok-clause-tries : goal.returns-in-Ok-clause-tries
returns-in-Ok-clause-tries g c =
    taken_so c.args.self c.count.new.self c.read.new.self c.take_line.new.self c.args.line c.in_ok-told.told (g.O.Write.contents c.args.out.now) (g.O.Write.contents c.args.out.now)
    c.in_default.ensures c.in_ok-count.ensures.counted c.in_ok-told.ensures.read c.take_line.ensures.rules c.in-Ok.ensures.taken refl

pub returns-in-Err-Breaks-clause-tries : goal.returns-in-Err-Breaks-clause-tries
returns-in-Err-Breaks-clause-tries g c =
    let refuses : RefusesLine c.read.new.self.judge c.in_ok-told.told c.in-Err-Breaks.rule = search rules in
    let refused = refused_so c.args.self c.count.new.self c.read.new.self c.args.line c.in_ok-told.told c.in-Err-Breaks.rule c.in_ok-count.ensures.counted c.in_ok-told.ensures.read refuses in
    let broken = broken_so c.args.self c.count.new.self c.read.new.self c.args.line c.in_ok-told.told c.in-Err-Breaks.rule c.in_ok-count.ensures.counted c.in_ok-told.ensures.read refused in
    stops_so c.args.self c.args.line c.args.number c.broken.result c.read.new.self.json (g.O.Write.contents c.args.out.now)
    (g.O.Write.contents c.stopped-in-Err-Breaks.new.out) c.stopped-in-Err-Breaks.result
    (c.in_ok-told.ensures.read.same_form ∙ c.in_ok-count.ensures.counted.same_form)
    (subst (IsRefusedFor c.args.self c.args.line) (sym c.broken.ensures) broken)
    c.stopped-in-Err-Breaks.ensures.stops
