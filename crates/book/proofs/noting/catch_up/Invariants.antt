use Rattle.book.proofs.Keeping.{HaveNotedFrom}
use Rattle.book.proofs.noting.catch_up.Given as goal

abbrev pub invariant-loop-place : goal.invariant-loop-place
invariant-loop-place g l = record { noted : HaveNotedFrom l.fn.traced.entries l.fn.from l.place l.initial.tags l.tags }
