use Rattle.host_tests.proofs.rows.run_over.Given as goal

abbrev pub ghosts-carry_out-N-Ledger : goal.ghosts-carry_out-N-Ledger
ghosts-carry_out-N-Ledger g a = record { name = a.ready.opened.name; parts = a.ready.opened.parts }

abbrev pub ghosts-carry_out-N-HostNaming : goal.ghosts-carry_out-N-HostNaming
ghosts-carry_out-N-HostNaming g a = record { gate = a.ready.opened.gate; keeper = a.ready.opened.keeper }

abbrev pub ghosts-carry_out-N-TraceNaming : goal.ghosts-carry_out-N-TraceNaming
ghosts-carry_out-N-TraceNaming g a = record {
  rules = a.ready.opened.rules;
  start = a.ready.opened.opening;
  partitions = a.ready.opened.partitions;
  handles = a.ready.opened.handles;
  marks = a.ready.opened.marks;
  slots = a.ready.opened.slots;
}

abbrev pub ghosts-carry_out-N-Naming-1 : goal.ghosts-carry_out-N-Naming-1
ghosts-carry_out-N-Naming-1 g a = record { table = a.ready.opened.table }

abbrev pub ghosts-carry_out-N-Naming-2 : goal.ghosts-carry_out-N-Naming-2
ghosts-carry_out-N-Naming-2 g a = record { armings = a.ready.histories.armings; entries = a.ready.histories.entries; opening = (g.M.Medium.view a.ready.medium).sectors }
