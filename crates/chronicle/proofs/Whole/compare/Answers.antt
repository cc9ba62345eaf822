use Rattle.std.proofs.Common.{rules, ap, ◌∙◌}
use Rattle.chronicle.proofs.Steps.{M, checks}
use Rattle.chronicle.proofs.Whole.compare.Goals as goal

pub load-requires : goal.load-requires
load-requires g c =
    let keeps = λ (m : M g.row.E.Denot). m.0.keeps in
    (search rules, search rules, checks _ _ _ (ap keeps c.join_seat.ensures.2 ∙ ap keeps c.self.invariant.1))
