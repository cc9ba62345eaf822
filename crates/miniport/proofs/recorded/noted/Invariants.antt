use Rattle.miniport.proofs.recorded.noted.Given as goal

abbrev pub ghost-with : goal.ghost-with
ghost-with a = a._from.now
