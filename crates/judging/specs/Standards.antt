-- What a trace is judged by, and why there is nothing to judge it by.
use Rattle.std.specs.Prelude.{◌≡◌, ◌⊎◌, ℕ, List, Option, Err}
use Rattle.machine.specs.Map.{IsMap}
use Rattle.mbr.specs.declared.MbrFault.{MbrFault}
use Rattle.mbr.specs.Faults.{said_of}
use Rattle.compose.specs.declared.StartFault.TheVariants.{Mbr}
use Rattle.settings.specs.declared.Config.{Config}
use Rattle.settings.specs.Medium.{entries_of, extents_of}
use Rattle.startup.specs.declared.faults.Error.{Error as StartupError}
use Rattle.startup.specs.declared.faults.Error.TheVariants.{Start}
use Rattle.startup.specs.Reading.{AreRead, HasFault}
use Rattle.judging.specs.declared.opened.Standard.{Standard}
use Rattle.judge_words.specs.declared.asked.Asked.{Asked}
use Rattle.judging.specs.declared.faults.Error.{Error}
use Rattle.judging.specs.declared.faults.Error.TheVariants.{Startup, NoMemory}

-- the settings that an input gives, of which a stack can be started, with what is asked
pub record IsStandard (asked : Asked) (input : Option (List ℕ)) (standard : Standard) : Type 0 where
  pub are_read : AreRead input standard.config
  pub is_map : IsMap standard.config.sectors (extents_of standard.config)
  pub asked_is : standard.asked ≡ asked

-- what is wrong with the partitions of settings
abbrev pub IsWrongTable : Config → MbrFault → Type 0
IsWrongTable c why = said_of c.sectors (entries_of c) ≡ Err why

-- the partitions of the settings are wrong, or memory was refused
abbrev pub IsTableFault : Config → Error → Type 0
IsTableFault c fault = (fault ≡ NoMemory) ⊎ ((why : MbrFault) × (fault ≡ Startup (Start (Mbr why))) × IsWrongTable c why)

-- why there are no settings, or why no stack of them could be started
abbrev pub IsStandardFault : Option (List ℕ) → Error → Type 0
IsStandardFault input fault =
    ((why : StartupError) × (fault ≡ Startup why) × HasFault input why)
    ⊎ ((settings : Config) × AreRead input settings × IsTableFault settings fault)
