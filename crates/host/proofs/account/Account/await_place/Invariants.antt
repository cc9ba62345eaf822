use Rattle.std.proofs.Common.{◌≡◌, ◌≤◌}
use Rattle.host.proofs.account.Account.await_place.Given as goal

abbrev pub invariant-loop : goal.invariant-loop
invariant-loop g l =
    (goal.iterator-loop g).can_next l.iterator' × (goal.iterator-loop g).is_finite l.iterator'
    × (l.self.share ≡ l.initial.self.share) × (l.self.called ≡ l.initial.self.called) × (l.self.answered.list ≡ l.initial.self.answered.list)
    × (l.initial.self.answered.room ≤ l.self.answered.room)
