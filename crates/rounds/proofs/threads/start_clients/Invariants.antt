use Rattle.std.proofs.Common.{◌≡◌, ◌+◌, ◌<◌, ℕ, get_or, length}
use Rattle.std.specs.Vec.Iter.{into_iter_items, into_iter_len}
use Rattle.host.specs.Clients.{client_at, fresh}
use Rattle.rounds.proofs.threads.start_clients.Given as goal

abbrev pub invariant-loop-client : goal.invariant-loop-client
invariant-loop-client g l =
    let done = length l.handles.items in let rest = l.client-iterator in
    (done + into_iter_len rest ≡ l.shared.plan.clients)
    × ((k : ℕ) → k < into_iter_len rest → client_at (into_iter_items rest) k ≡ fresh (done + k))
    × ((k : ℕ) (d : _) → k < done → (get_or l.handles.items k d).promise.number ≡ k)
    × ((k : ℕ) (d : _) → k < done → (get_or l.handles.items k d).promise.rounds ≡ l.shared.plan.rounds)
