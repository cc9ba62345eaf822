use Rattle.std.proofs.Common.{[], ◌∷◌}
use Rattle.host_tests.proofs.book_rows.run_on.Given as goal

-- the stack that was just started, its marks, its history and its ledger
abbrev pub ghosts-carry_out-N-TraceNaming : goal.ghosts-carry_out-N-TraceNaming
ghosts-carry_out-N-TraceNaming g a = record {
  rules = a.ready.stack.rules;
  start = a.ready.stack.state;
  partitions = 0 ∷ 0 ∷ [];
  handles = a.ready.stack.handles;
  marks = a.parts.marks.0;
  slots = a.parts.marks.1;
}

abbrev pub ghosts-carry_out-N-Naming-1 : goal.ghosts-carry_out-N-Naming-1
ghosts-carry_out-N-Naming-1 g a = record { table = a.parts.history }

-- the journal, and the sectors of its medium
abbrev pub ghosts-carry_out-N-Naming-2 : goal.ghosts-carry_out-N-Naming-2
ghosts-carry_out-N-Naming-2 g a = record {
  armings = a.parts.journal.armings;
  entries = a.parts.journal.entries;
  opening = (g.M.Medium.view a.parts.medium).sectors;
}

abbrev pub ghosts-carry_out-N-Ledger : goal.ghosts-carry_out-N-Ledger
ghosts-carry_out-N-Ledger g a = record { name = a.parts.ledger.name; parts = a.parts.ledger.parts }
