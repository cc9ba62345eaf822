use Rattle.std.proofs.Common.{ℕ, Bool, List}
use Rattle.std.specs.Prelude.{option_copied}
use Rattle.history.specs.declared.Wait.{Wait}
use Rattle.history_fitting.specs.Services.{rules_of}
use Rattle.history_judge.specs.inside.Cells.{IsCell}
use Rattle.history_judge.proofs.Celling.{IsFilling}
use Rattle.history_judge.proofs.cell.Cell.fill.Given as goal

-- what becomes of those so far was added
abbrev pub invariant-loop-marked : goal.invariant-loop-marked
invariant-loop-marked l = (any : Bool) (start : ℕ) (waits : List Wait) → IsCell any start waits l.fn.self → IsFilling any start (rules_of l.service) l.number (option_copied l.bytes) waits l.marked-iterator.rest.items l.self
