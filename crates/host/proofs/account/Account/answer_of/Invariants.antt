use Rattle.std.proofs.Common.{◌≡◌}
use Rattle.host.proofs.account.Account.answer_of.Given as goal

abbrev pub invariant-loop : goal.invariant-loop
invariant-loop g l = (goal.iterator-loop g).can_next l.iterator' × (goal.iterator-loop g).is_finite l.iterator' × (l.self ≡ l.initial.self) × (l.awaited ≡ l.initial.awaited)
