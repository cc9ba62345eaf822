use Rattle.host_tests.proofs.beside.run_over.Given as goal

abbrev pub ghosts-play_scene-N-Ledger : goal.ghosts-play_scene-N-Ledger
ghosts-play_scene-N-Ledger g a = record { name = a.ready.opened.name; parts = a.ready.opened.parts }

abbrev pub ghosts-play_scene-N-HostNaming : goal.ghosts-play_scene-N-HostNaming
ghosts-play_scene-N-HostNaming g a = record { gate = a.ready.opened.gate; keeper = a.ready.opened.keeper }

abbrev pub ghosts-play_scene-N-TraceNaming : goal.ghosts-play_scene-N-TraceNaming
ghosts-play_scene-N-TraceNaming g a = record {
  rules = a.ready.opened.rules;
  start = a.ready.opened.opening;
  partitions = a.ready.opened.partitions;
  handles = a.ready.opened.handles;
  marks = a.ready.opened.marks;
  slots = a.ready.opened.slots;
}

abbrev pub ghosts-play_scene-N-Naming-1 : goal.ghosts-play_scene-N-Naming-1
ghosts-play_scene-N-Naming-1 g a = record { table = a.ready.opened.table }

abbrev pub ghosts-play_scene-N-Naming-2 : goal.ghosts-play_scene-N-Naming-2
ghosts-play_scene-N-Naming-2 g a = record { armings = a.ready.histories.armings; entries = a.ready.histories.entries; opening = (g.M.Medium.view a.ready.medium).sectors }
