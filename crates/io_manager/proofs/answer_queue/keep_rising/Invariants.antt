use Rattle.io_manager.specs.inside.Ordering.{inserted}
use Rattle.io_manager.proofs.answer_queue.keep_rising.Given as goal

abbrev pub ghost-with : goal.ghost-with
ghost-with a = inserted a._from.now a.self.now.items
