use Rattle.machine_laws.proofs.Awaiting.{calls_await, answers_were_called, calls_are_answered}
use Rattle.machine_laws.proofs.calls_await_answers.Goals as goal

pub returns : goal.returns
returns c = record { waiting = calls_await; called = answers_were_called; answered = calls_are_answered }
