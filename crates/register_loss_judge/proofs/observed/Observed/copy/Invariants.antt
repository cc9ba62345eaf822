use Rattle.register_loss_judge.proofs.observed.Observed.copy.Given as goal

-- the same sights
abbrev pub ghost-with : goal.ghost-with
ghost-with a = a.self.now.items
