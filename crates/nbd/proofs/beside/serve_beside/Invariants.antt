use Rattle.nbd.specs.inside.Beside.{HasServedSince}
use Rattle.nbd.proofs.beside.serve_beside.Given as goal

-- all that was read and written so far, with what holds of the desk
abbrev pub invariant-loop : goal.invariant-loop
invariant-loop g l = HasServedSince g.D.Desk.Since l.fn.desk (g.D.Desk.remaining l.fn.desk) (g.W.Write.contents l.fn.out) (g.D.Desk.remaining l.desk) l.desk (g.W.Write.contents l.out)
