use Rattle.host.proofs.opened.Opened.end.Given as goal

abbrev pub ghosts-end_history : goal.ghosts-end_history
ghosts-end_history a = record { table = a.history }

abbrev pub ghosts-end_ledger : goal.ghosts-end_ledger
ghosts-end_ledger a = record { name = a.ledger.name; parts = a.ledger.parts }

abbrev pub ghosts-end_keeping : goal.ghosts-end_keeping
ghosts-end_keeping a = record { name = a.keeping.name; parts = a.keeping.parts }
