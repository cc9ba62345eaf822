use Rattle.serving.proofs.Common.{quiet}
use Rattle.serving.proofs.Requesting.{quietly_taken, taken_labels, taken_stands, takes_beside}
use Rattle.serving.proofs.elsewhere.take_next.Goals as goal

pub returns-clause-takes : goal.returns-clause-takes
returns-clause-takes c = takes_beside (quiet c.args.stack.now) c.take_answer.result (quiet c.take_answer.new.self) (quietly_taken c.args.stack.now c.take_answer.result c.take_answer.new.self c.take_answer.ensures)

pub returns-clause-stands : goal.returns-clause-stands
returns-clause-stands c = λ disk s. taken_stands (quiet c.args.stack.now) c.take_answer.result (quiet c.take_answer.new.self) (quietly_taken c.args.stack.now c.take_answer.result c.take_answer.new.self c.take_answer.ensures) disk s

pub returns-clause-taken : goal.returns-clause-taken
returns-clause-taken c = taken_labels c.args.stack.now c.take_answer.result c.take_answer.new.self c.take_answer.ensures
