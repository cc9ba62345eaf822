use Rattle.stack_tests.proofs.journals.play_over.Given as goal

abbrev pub ghosts-play_named : goal.ghosts-play_named
ghosts-play_named g a = record {
  armings = a.opened.armings;
  entries = a.opened.entries;
  opening = (g.M.Medium.view a.medium).sectors;
}
