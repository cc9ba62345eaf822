use Rattle.history_loss_sector.proofs.Once.{answers_stay_apart, calls_stay_apart, none_are_apart}
use Rattle.history_loss_sector.proofs.numbers_stay_apart.Goals as goal

pub returns-clause-none : goal.returns-clause-none
returns-clause-none c = none_are_apart

pub returns-clause-calls : goal.returns-clause-calls
returns-clause-calls c = calls_stay_apart

pub returns-clause-answers : goal.returns-clause-answers
returns-clause-answers c = answers_stay_apart
