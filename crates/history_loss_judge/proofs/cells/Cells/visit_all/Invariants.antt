use Rattle.std.proofs.Common.{◌+◌, ℕ, List}
use Rattle.history_fitting.specs.Services.{rules_of}
use Rattle.history_loss_kept.specs.declared.Shared.{Shared}
use Rattle.history_loss_sector.specs.Seen.{SeenView}
use Rattle.history_loss_judge.specs.inside.Cells.{AreToldOf, HasCells, kept_in}
use Rattle.history_loss_judge.proofs.cells.Cells.visit_all.Given as goal

-- those so far have it
abbrev pub invariant-loop-place : goal.invariant-loop-place
invariant-loop-place l = (shared : List Shared) (kept : ℕ → SeenView) → HasCells l.basis.start kept l.initial.self
    → AreToldOf (rules_of l.basis.service) shared kept l.fn.span l.told.behind l.told.is_sync l.told.label.now
    → HasCells l.basis.start (kept_in (rules_of l.basis.service) shared kept l.fn.span.first (l.fn.span.first + l.place) l.told.label.now) l.self
