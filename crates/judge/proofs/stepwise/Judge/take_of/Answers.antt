use Rattle.judge.specs.Judging.{line_of}
use Rattle.judge.proofs.Followed.{all_reached, goes_on, refused}
use Rattle.judge.proofs.stepwise.Judge.take_of.Goals as goal

pub returns-in-Some-clause-refused : goal.returns-in-Some-clause-refused
returns-in-Some-clause-refused c = λ arrays lines h.
    refused c.args.self.now arrays lines (line_of c.args.label.now c.args.owner) c.in-Some.rule h (c.in-Some.ensures (all_reached c.args.self.now arrays lines h) h.some)

pub returns-clause-taken : goal.returns-clause-taken
returns-clause-taken c = λ arrays lines h.
    goes_on c.args.self.now (line_of c.args.label.now c.args.owner) c.go.new.self c.in-Ok.ensures.rules c.in-Ok.ensures.next arrays lines h (c.in_default.ensures (all_reached c.args.self.now arrays lines h) h.some)
