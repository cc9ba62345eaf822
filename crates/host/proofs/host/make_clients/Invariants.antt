use Rattle.std.proofs.Common.{◌≡◌, ◌+◌, ◌<◌, ℕ, length, All}
use Rattle.host.proofs.Common.{IsOther, IsClientPass}
use Rattle.host.specs.Clients.{client_at, fresh}
use Rattle.host.proofs.host.make_clients.Given as goal

abbrev pub invariant-loop-c : goal.invariant-loop-c
invariant-loop-c g l = record {
  whole : l.whole ≡ l.initial.whole;
  parts : l.all.parts + l.c ≡ l.initial.all.parts;
  amount : l.all.amount ≡ 0;
  seats_left : length l.seats.items + l.c ≡ length g.N.TraceNaming.partitions;
  passes_left : length l.passes.items + l.c ≡ length g.N.TraceNaming.partitions + 1;
  are_seats : All (IsOther g.N.TraceNaming.marks) l.seats.items;
  are_passes : All (IsClientPass g.N.HostNaming.gate) l.passes.items;
  made : length l.clients.items ≡ l.c;
  numbered : (k : ℕ) → k < l.c → (client_at l.clients.items k).client ≡ k;
  are_fresh : (k : ℕ) → k < l.c → client_at l.clients.items k ≡ fresh k;
}
