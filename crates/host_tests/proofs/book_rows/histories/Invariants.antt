use Rattle.host_tests.proofs.book_rows.histories.Given as goal

abbrev pub ghosts-end : goal.ghosts-end
ghosts-end a = record { table = a.opened }
