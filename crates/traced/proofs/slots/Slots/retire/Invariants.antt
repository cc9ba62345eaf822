use Rattle.traced.proofs.Arming.{HasRetired}
use Rattle.traced.proofs.slots.Slots.retire.Given as goal

abbrev pub invariant-loop-slot : goal.invariant-loop-slot
invariant-loop-slot g l = record { retired : HasRetired l.number l.slot l.initial.self l.self }
