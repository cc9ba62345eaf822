-- A history over sessions that was taken line by line.
use Rattle.std.specs.Prelude.{ℕ, List}
use Rattle.loss.specs.Sessions.{Line}
use Rattle.history_fitting.specs.declared.service.Service.{Service}

-- the lines so far, of a service whose sectors all had these bytes at the start
pub record HistoryView : Type 0 where
  pub service : Service
  pub start : List ℕ
  pub lines : List Line
