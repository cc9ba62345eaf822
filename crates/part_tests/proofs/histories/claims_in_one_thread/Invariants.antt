use Rattle.part_tests.proofs.histories.claims_in_one_thread.Given as goal

-- the history that was just opened
abbrev pub ghosts-opened_in_turn : goal.ghosts-opened_in_turn
ghosts-opened_in_turn a = record { table = a.opened }
