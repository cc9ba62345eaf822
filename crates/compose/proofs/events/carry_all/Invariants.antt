use Rattle.std.proofs.Common.{◌≡◌, ◌≤◌, [], length, IsTrue}
use Rattle.compose.proofs.Common.{vec_len, vec_capacity, CarriesAll}
use Rattle.compose.proofs.events.carry_all.Given as goal

abbrev pub invariant-loop-event : goal.invariant-loop-event
invariant-loop-event g l = record {
  taken : l.manager.labels ≡ [];
  kept : IsTrue l.manager.keeps;
  bytes : IsTrue l.manager.rules.keeps_bytes;
  counted : vec_len l.shown ≡ length l.yielded;
  places : length l.fn.events.items ≤ vec_capacity l.shown;
  carries : CarriesAll l.initial.manager l.yielded l.shown.items l.manager;
}
