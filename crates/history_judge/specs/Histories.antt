-- A history that was taken label by label.
use Rattle.std.specs.Prelude.{ℕ, Bool, List}
use Rattle.machine.specs.declared.Label.{Label}
use Rattle.history_fitting.specs.declared.service.Service.{Service}

-- the labels so far, of a service whose sectors all had these bytes at the start, or any, each its own; and of each label
-- whether its bytes were not recorded
pub record HistoryView : Type 0 where
  pub service : Service
  pub start : List ℕ
  pub any : Bool
  pub gaps : List Bool
  pub labels : List Label
