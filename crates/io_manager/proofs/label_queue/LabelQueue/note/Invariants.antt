use Rattle.io_manager.proofs.label_queue.LabelQueue.note.Given as goal

abbrev pub ghost-with : goal.ghost-with
ghost-with g a = g.items
