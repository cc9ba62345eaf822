use Rattle.std.proofs.Common.{◌≡◌, length}
use Rattle.serving.proofs.moving.forget_answers.Given as goal

abbrev pub invariant-loop-answer : goal.invariant-loop-answer
invariant-loop-answer l = l.stack ≡ record l.initial.stack { answers = l.stack.answers }

abbrev pub decreases-loop-answer : goal.decreases-loop-answer
decreases-loop-answer l = length l.stack.answers
