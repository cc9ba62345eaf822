use Rattle.sector_journal.proofs.opened.Opened.new.Given as goal

abbrev pub ghosts-end : goal.ghosts-end
ghosts-end a = record { table = a.opened }
