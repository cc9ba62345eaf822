use Rattle.history_fitting.proofs.Opening.{comes_by, open_next_by, owed_next}
use Rattle.history_fitting.proofs.known_fit_by.Goals as goal

pub returns : goal.returns
returns c = λ gap rules asked known label open_now. (
  comes_by rules asked known open_now gap label,
  λ new can takes. record {
    open_still = open_next_by rules asked known new open_now gap label can takes;
    owed = owed_next rules known new label takes;
  },
)
