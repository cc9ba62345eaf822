use Rattle.traced.proofs.Common.{◌≡◌, AreLooked, IsSound, shown}
use Rattle.traced.proofs.traced.look_all.Given as goal

abbrev pub invariant-loop-slot : goal.invariant-loop-slot
invariant-loop-slot g l = record {
  sound : IsSound g.N.TraceNaming.rules g.N.TraceNaming.start g.N.TraceNaming.handles g.N.TraceNaming.slots l.stack l.log l.slots;
  looked : AreLooked l.slot (shown l.initial.stack l.initial.log l.initial.slots) (shown l.stack l.log l.slots);
  no_call : l.log.owners ≡ l.initial.log.owners;
}
