use Rattle.machine_laws.proofs.Booked.{starts_once}
use Rattle.machine_laws.proofs.Once.{calls_once, answers_once}
use Rattle.machine_laws.proofs.numbers_are_used_once.Goals as goal

pub returns : goal.returns
returns c = record { calls = calls_once; answers = answers_once; starts = starts_once }
