-- The starts so far, with the one that is pending, and those by what is left.
use Rattle.std.proofs.Common.{◌≡◌, ◌++◌, drop}
use Rattle.std.specs.List.{flat_map}
use Rattle.judge.specs.Picking.{choices}
use Rattle.judge.specs.Next.{started_each}
use Rattle.judge.specs.Starting.{IsPending, pending_states}
use Rattle.judge.specs.Views.{rules_of}
use Rattle.judge.proofs.machine_state.Machine.add_starts.Given as goal

abbrev pub invariant-loop-at : goal.invariant-loop-at
invariant-loop-at l = record {
  pending : IsPending l.fn.self l.pending;
  adds : (l.found.items ++ pending_states l.fn.self l.start.tag l.pending)
      ++ flat_map (started_each (rules_of l.rules) l.fn.self l.start.tag l.start.owner l.start.command)
      (drop l.at (choices l.fn.self.requests))
      ≡ l.initial.found.items
      ++ flat_map (started_each (rules_of l.rules) l.fn.self l.start.tag l.start.owner l.start.command)
      (choices l.fn.self.requests);
}
