use Rattle.host_tests.proofs.removing.run_over.Given as goal

abbrev pub ghosts-open_and_go-N-Ledger : goal.ghosts-open_and_go-N-Ledger
ghosts-open_and_go-N-Ledger g a = record { name = a.ready.opened.name; parts = a.ready.opened.parts }

abbrev pub ghosts-open_and_go-N-HostNaming : goal.ghosts-open_and_go-N-HostNaming
ghosts-open_and_go-N-HostNaming g a = record { gate = a.ready.opened.gate; keeper = a.ready.opened.keeper }

abbrev pub ghosts-open_and_go-N-TraceNaming : goal.ghosts-open_and_go-N-TraceNaming
ghosts-open_and_go-N-TraceNaming g a = record {
  rules = a.ready.opened.rules;
  start = a.ready.opened.opening;
  partitions = a.ready.opened.partitions;
  handles = a.ready.opened.handles;
  marks = a.ready.opened.marks;
  slots = a.ready.opened.slots;
}

abbrev pub ghosts-open_and_go-N-Naming-1 : goal.ghosts-open_and_go-N-Naming-1
ghosts-open_and_go-N-Naming-1 g a = record { table = a.ready.opened.table }

abbrev pub ghosts-open_and_go-N-Naming-2 : goal.ghosts-open_and_go-N-Naming-2
ghosts-open_and_go-N-Naming-2 g a = record { armings = a.ready.histories.armings; entries = a.ready.histories.entries; opening = (g.M.Medium.view a.ready.medium).sectors }
