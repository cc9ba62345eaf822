use Rattle.history_fitting.proofs.Opening.{comes_is, open_next, owed_next}
use Rattle.history_fitting.proofs.known_fit.Goals as goal

pub returns : goal.returns
returns c = λ rules asked known label open_now. (
  comes_is rules asked known open_now label,
  λ new can takes. record {
    open_still = open_next rules asked known new open_now label can takes;
    owed = owed_next rules known new label takes;
  },
)
