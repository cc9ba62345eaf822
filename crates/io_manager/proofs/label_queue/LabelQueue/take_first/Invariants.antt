use Rattle.std.proofs.Common.{drop}
use Rattle.io_manager.proofs.label_queue.LabelQueue.take_first.Given as goal

abbrev pub ghost-with : goal.ghost-with
ghost-with g a = drop 1 a.self.now.items
