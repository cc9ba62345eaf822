use Rattle.std.proofs.Common.{take}
use Rattle.std.specs.Prelude.{All}
use Rattle.movers.specs.Flight.{AllBeside}
use Rattle.movers.proofs.flight.all_beside.Given as goal

-- those so far may be moved beside it
abbrev pub invariant-loop-at : goal.invariant-loop-at
invariant-loop-at l = record { beside : All (AllBeside l.flown) (take l.at l.tags) }
