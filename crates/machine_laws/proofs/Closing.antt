-- A journal whose entries are of the acts of a trace closes its run.
use Rattle.machine_laws.proofs.Common.{JournalsCloseRuns, opening, IsSame-refl, []}
use Rattle.machine_laws.proofs.Booked.{entries_are_of_runs}
use Rattle.machine_laws.proofs.Lifted.{runs_lift}

pub journals_close_runs : JournalsCloseRuns
journals_close_runs rules arrays trace s' entries disk after whole is_map sized run acts replays =
    runs_lift rules (opening arrays) trace s' run entries disk after (record { arrays = arrays; labels = []; whole = whole; run = IsSame-refl (opening arrays) }) is_map sized
    (entries_are_of_runs rules arrays trace s' run entries whole acts) replays
