use Rattle.rounds.proofs.run.Given as goal

abbrev pub ghosts-serve-N-Ledger : goal.ghosts-serve-N-Ledger
ghosts-serve-N-Ledger g a = record { name = a.opened.name; parts = a.opened.parts }

abbrev pub ghosts-serve-N-HostNaming : goal.ghosts-serve-N-HostNaming
ghosts-serve-N-HostNaming g a = record { gate = a.opened.gate; keeper = a.opened.keeper }

abbrev pub ghosts-serve-N-TraceNaming : goal.ghosts-serve-N-TraceNaming
ghosts-serve-N-TraceNaming g a = record {
  rules = a.opened.rules;
  start = a.opened.opening;
  partitions = a.opened.partitions;
  handles = a.opened.handles;
  marks = a.opened.marks;
  slots = a.opened.slots;
}

abbrev pub ghosts-serve-N-Naming-1 : goal.ghosts-serve-N-Naming-1
ghosts-serve-N-Naming-1 g a = record { table = a.opened.table }

abbrev pub ghosts-serve-N-Naming-2 : goal.ghosts-serve-N-Naming-2
ghosts-serve-N-Naming-2 g a = record { armings = a.blank.histories.armings; entries = a.blank.histories.entries; opening = (g.M.Medium.view a.blank.medium).sectors }
