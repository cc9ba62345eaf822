use Rattle.std.proofs.Common.{◌≤◌, ℕ, List}
use Rattle.history.specs.declared.Wait.{Wait}
use Rattle.history_fitting.specs.Services.{rules_of}
use Rattle.history_judge.specs.inside.Cells.{AreToldOf, HasCells, seen_in}
use Rattle.history_judge.proofs.cells.Cells.visit_all.Given as goal

-- those so far have it
abbrev pub invariant-loop-sector : goal.invariant-loop-sector
invariant-loop-sector l = (l.fn.span.extent.first ≤ l.sector)
    × ((seen : ℕ → ℕ → List Wait) → HasCells l.basis.start.any l.basis.start.bytes seen l.initial.self → AreToldOf (rules_of l.basis.service) seen l.fn.span l.told.kind l.told.label.now
    → HasCells l.basis.start.any l.basis.start.bytes (seen_in (rules_of l.basis.service) seen l.fn.span.partition l.fn.span.extent.first l.sector l.told.label.now) l.self)
