-- What the parts of a traced stack say of each other between two steps.
use Rattle.std.specs.Prelude.{◌≡◌, ℕ, List, Option, Some}
use Rattle.machine.specs.Rules.{Rules}
use Rattle.machine.specs.State.{State}
use Rattle.io_manager.specs.declared.OpenHandle.{OpenHandle}
use Rattle.io_manager.specs.Shown.{ManagerView}

-- the stack is the one that was named
pub record IsNamed (rules : Rules) (opening : State) (handles : List (Option OpenHandle)) (count : ℕ) (stack : ManagerView) : Type 0 where
  pub same_rules : stack.rules ≡ rules
  pub same_state : stack.state ≡ opening
  pub same_handles : stack.handles ≡ handles
  pub as_many : rules.open_requests ≡ Some count
