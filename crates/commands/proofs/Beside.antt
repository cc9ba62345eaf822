-- The disk beside a stack of some settings, and the run over it.
use Rattle.std.proofs.Common.{◌≡◌, ◌≤◌, ℕ, List, Option, length, sym, ap, subst, ◌∙◌}
use Rattle.disk.specs.Medium.{MediumView}
use Rattle.io_manager.specs.Shown.{ManagerView}
use Rattle.machine.specs.declared.Label.{Label}
use Rattle.machine.specs.Map.{IsMap}
use Rattle.machine.specs.Rules.{Rules}
use Rattle.sector_journal.specs.declared.acted.Entered.{Entered}
use Rattle.host.specs.Closing.{IsFaithfulRun}
use Rattle.host.specs.Opening.{IsDiskFor}
use Rattle.settings.specs.declared.Config.{Config}
use Rattle.settings.specs.InRange.{AreInRange}
use Rattle.settings.specs.Medium.{IsNewDisk, disk_of}
use Rattle.startup.specs.Reading.{AreRead}
use Rattle.startup.specs.Started.{IsStartApart}
use Rattle.commands.specs.Clients.{IsRunOver}

-- it is as long as the stack's rules say, and has its partitions
pub disk_beside : (settings : Config) (stack : ManagerView) (medium : MediumView) → AreInRange settings → IsStartApart settings stack → IsNewDisk settings medium → length medium.sectors ≡ settings.sectors
    → IsDiskFor stack.rules medium
disk_beside settings stack medium in_range starts new many = record {
  sector_size = new.sector_size ∙ sym (ap (λ (r : Rules). r.sector_size) starts.rules);
  sectors = many ∙ sym (ap (λ (r : Rules). r.disk_sectors) starts.rules);
  some = subst (λ (n : ℕ). 1 ≤ n) (sym many) in_range.sectors.0;
  map = subst (λ (r : Rules). IsMap r.disk_sectors r.partitions) (sym starts.rules) starts.is_map;
}

-- a run of its stack from its sectors on is one of the settings
pub run_beside : (input : Option (List ℕ)) (settings : Config) (stack : ManagerView) (medium : MediumView) (trace : List Label) (entries : List Entered) (sectors : List (List ℕ))
    → AreRead input settings → IsStartApart settings stack → IsNewDisk settings medium → IsFaithfulRun stack.rules medium.sectors trace entries sectors
    → IsRunOver input trace entries sectors
run_beside input settings stack medium trace entries sectors read starts new run = (
  settings,
  read,
  subst (λ (r : Rules). IsFaithfulRun r (disk_of settings) trace entries sectors) starts.rules
      (subst (λ (disk : List (List ℕ)). IsFaithfulRun stack.rules disk trace entries sectors) new.sectors run),
)
