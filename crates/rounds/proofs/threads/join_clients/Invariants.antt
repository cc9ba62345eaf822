use Rattle.std.proofs.Common.{◌≡◌, ◌+◌, ◌*◌, ◌<◌, ◌≤◌, ℕ, false, get_or, length}
use Rattle.std.specs.Vec.Iter.{into_iter_items, into_iter_len}
use Rattle.host.specs.Clients.{client_at}
use Rattle.rounds.specs.Tallies.{AreCounted}
use Rattle.rounds.proofs.threads.join_clients.Given as goal

abbrev pub invariant-loop-handle : goal.invariant-loop-handle
invariant-loop-handle g l =
    let done = length l.clients.items in let rest = l.handle-iterator in
    (done + into_iter_len rest ≡ l.fn.plan.clients)
    × ((k : ℕ) (d : _) → k < into_iter_len rest → (get_or (into_iter_items rest) k d).promise.number ≡ done + k)
    × ((k : ℕ) (d : _) → k < into_iter_len rest → (get_or (into_iter_items rest) k d).promise.rounds ≡ l.fn.plan.rounds)
    × ((k : ℕ) → k < done → (client_at l.clients.items k).client ≡ k)
    × (l.tally.differing ≤ l.tally.answered)
    × (l.tally.answered ≤ 2 * (done * l.fn.plan.rounds))
    × (l.has_wanted ≡ false → AreCounted done l.fn.plan.rounds l.clients.items l.tally)
