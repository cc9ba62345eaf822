-- Of what service a history is, how it begins, and what a line adds.
use Rattle.std.specs.Prelude.{◌≡◌, ◌<◌, ℕ, Bool, true, false, List, [], ◌∷◌, ◌++◌, Option, None, Some, if◌then◌else◌, replicate}
use Rattle.sector.specs.declared.Extent.{Extent}
use Rattle.settings.specs.declared.Config.{Config}
use Rattle.startup.specs.Reading.{AreRead}
use Rattle.startup.specs.Started.{rules_of}
use Rattle.machine.specs.declared.Label.{Label}
use Rattle.machine.specs.declared.Label.TheVariants.{Answer, Call}
use Rattle.trace_reader.specs.declared.Recorded.{Recorded}
use Rattle.history_judge.specs.Histories.{HistoryView}
use Rattle.history_fitting.specs.declared.service.Service.{Service}
use Rattle.history_fitting.specs.Services.{AreOf}

-- a service with the sizes and partitions of the settings' stack
pub record IsServiceOf (config : Config) (service : Service) : Type 0 where
  pub are_of : AreOf service (rules_of config)
  pub some : 0 < service.sector_size

-- a service of one partition, number 0, which is the largest disk: sectors of 512 bytes, as many as settings may give a disk, and requests
-- as long as those of a stack
pub record IsLargestDisk (service : Service) : Type 0 where
  pub sector_size : service.sector_size ≡ 512
  pub partitions : service.partitions.items ≡ record { first = 0; count = 1099511627776 } ∷ []
  pub longest : service.longest ≡ 65536

-- the service that the settings of an input describe, or where there is no input the largest disk
abbrev pub IsServiceBy : Option (Option (List ℕ)) → Service → Type 0
IsServiceBy (Some input) service = (config : Config) × AreRead input config × IsServiceOf config service
IsServiceBy None service = IsLargestDisk service

-- no label yet, of this service, from sectors of zeros, or where that is asked for of any bytes
pub record IsOfService (service : Service) (any : Bool) (history : HistoryView) : Type 0 where
  pub service_is : history.service ≡ service
  pub zeros : history.start ≡ replicate service.sector_size 0
  pub starts : history.any ≡ any
  pub none : history.labels ≡ []
  pub no_gap : history.gaps ≡ []

-- clients see a label: it is a call or an answer
abbrev pub is_seen : Label → Bool
is_seen (Call number request) = true
is_seen (Answer number status informed bytes) = true
is_seen _ = false

-- the history with the label of a line, and whether its bytes were not recorded, if clients see it
abbrev pub with_line : Recorded → HistoryView → HistoryView
with_line r history =
    if is_seen r.line.label then record history { gaps = history.gaps ++ r.untold ∷ []; labels = history.labels ++ r.line.label ∷ [] } else history
