use Rattle.std.proofs.Common.{◌++◌, ◌∷◌, []}
use Rattle.io_manager.proofs.label_queue.LabelQueue.tell_as.Given as goal

abbrev pub ghost-with : goal.ghost-with
ghost-with g a = a.self.now.items ++ g.told ∷ []
