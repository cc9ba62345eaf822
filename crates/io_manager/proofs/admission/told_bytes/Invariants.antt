use Rattle.io_manager.proofs.admission.told_bytes.Given as goal

abbrev pub ghost-with : goal.ghost-with
ghost-with a = a._from.now
