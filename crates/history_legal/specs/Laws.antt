-- What a passed history says of the runs of its service.
use Rattle.std.specs.Prelude.{◌≡◌, ℕ, Bool, List, Some, slice_get, length}
use Rattle.machine.specs.declared.ClientRequest.{ClientRequest}
use Rattle.machine.specs.declared.Label.{Label}
use Rattle.machine.specs.Rules.{Rules}
use Rattle.machine.specs.Sending.{array_at}
use Rattle.machine_laws.specs.Reached.{AreWhole}
use Rattle.history_laws.specs.History.{history_of}
use Rattle.history_runs.specs.Laws.{IsAddressable, IsBusyWrite}
use Rattle.history.specs.Gaps.{IsExplainedBySome}
use Rattle.history_fitting.specs.declared.service.Service.{Service}
use Rattle.history_fitting.specs.Services.{rules_of}
use Rattle.history_judge.specs.Verdicts.{IsPassed, IsPassedFromSome}

-- each sector of the arrays has these bytes
abbrev pub HaveBytes : List ℕ → List (List (List ℕ)) → Type 0
HaveBytes start arrays = (p i : ℕ) (sector : List ℕ) → slice_get (array_at arrays p) i ≡ Some sector → sector ≡ start

-- a history that passes, of which no write is answered DEVICE_BUSY, is explained by a run of a service of these sizes, from such arrays,
-- with some bytes in the place of those that were not recorded
abbrev pub PassedAreExplained : Type 0
PassedAreExplained = (service : Service) (start : List ℕ) (gaps : List Bool) (history : List Label) (arrays : List (List (List ℕ)))
    → IsAddressable (rules_of service) → AreWhole (rules_of service) arrays → length start ≡ service.sector_size → HaveBytes start arrays
    → history_of history ≡ history → ((n : ℕ) (q : ClientRequest) → IsBusyWrite history n q → ⊥) → IsPassed service start gaps history
    → IsExplainedBySome (rules_of service) arrays gaps history

-- a run explains the history, with some bytes in its gaps, from some arrays of sectors of the right size
pub record IsExplainedFromSome (rules : Rules) (gaps : List Bool) (history : List Label) : Type 0 where
  pub arrays : List (List (List ℕ))
  pub whole : AreWhole rules arrays
  pub sized : (p i : ℕ) (sector : List ℕ) → slice_get (array_at arrays p) i ≡ Some sector → length sector ≡ rules.sector_size
  pub explained : IsExplainedBySome rules arrays gaps history

-- the same of a history that passes where each sector had any bytes: it is explained from some
abbrev pub PassedFromSomeAreExplained : Type 0
PassedFromSomeAreExplained = (service : Service) (gaps : List Bool) (history : List Label) → IsAddressable (rules_of service)
    → history_of history ≡ history → ((n : ℕ) (q : ClientRequest) → IsBusyWrite history n q → ⊥) → IsPassedFromSome service gaps history
    → IsExplainedFromSome (rules_of service) gaps history
