use Rattle.book.proofs.Following.{IsDisarmedBelow}
use Rattle.book.proofs.settling.disarm_piece.Given as goal

abbrev pub invariant-loop-tag : goal.invariant-loop-tag
invariant-loop-tag g l = record { disarmed : IsDisarmedBelow l.tag l.fn.piece l.initial.journal l.journal }
