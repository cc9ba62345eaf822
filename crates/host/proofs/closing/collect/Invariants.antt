use Rattle.host.proofs.Common.{◌≡◌, ◌+◌, ◌++◌, length, into_iter_items, into_iter_len, client_at, AreBorneOut, total}
use Rattle.host.proofs.closing.collect.Given as goal

abbrev pub invariant-loop-client : goal.invariant-loop-client
invariant-loop-client g l =
    (l.yielded ++ into_iter_items l.client-iterator ≡ into_iter_items l.initial.client-iterator)
    × (into_iter_len l.client-iterator ≡ length (into_iter_items l.client-iterator))
    × (l.book ≡ l.initial.book)
    × (l.all.parts ≡ l.initial.all.parts + length l.yielded)
    × (l.all.amount ≡ l.initial.all.amount + total (length l.yielded) (λ c. length (client_at l.yielded c).called))
    × AreBorneOut l.initial.book.traced.entries (length l.yielded) l.yielded
