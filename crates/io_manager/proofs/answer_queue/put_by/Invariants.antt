use Rattle.io_manager.specs.inside.Ordering.{inserted}
use Rattle.io_manager.proofs.answer_queue.put_by.Given as goal

abbrev pub ghost-note : goal.ghost-note
ghost-note a = inserted a.from.now a.self.now.items
