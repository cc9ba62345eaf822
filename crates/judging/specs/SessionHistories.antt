-- How a history over sessions begins.
use Rattle.std.specs.Prelude.{◌≡◌, [], replicate}
use Rattle.history_fitting.specs.declared.service.Service.{Service}
use Rattle.history_loss_judge.specs.Histories.{HistoryView}

-- no line yet, of this service, from sectors of zeros
pub record AreOfService (service : Service) (history : HistoryView) : Type 0 where
  pub service_is : history.service ≡ service
  pub zeros : history.start ≡ replicate service.sector_size 0
  pub none : history.lines ≡ []
