-- What is told of settings.
use Rattle.std.proofs.Common.{◌≡◌, ◌⊎◌, inl, inr, ℕ, List, [], Option, Some, None, MatchOption, sym, subst}
use Rattle.compose.specs.declared.StartFault.{StartFault}
use Rattle.io_manager.specs.Shown.{ManagerView}
use Rattle.settings.specs.declared.Config.{Config}
use Rattle.settings.specs.Settings.{AreSettingsOf}
use Rattle.startup.specs.declared.faults.Error.{Error}
use Rattle.startup.specs.declared.faults.Error.TheVariants.{NoMemory, Start}
use Rattle.startup.specs.Started.{IsFirstOf, IsStartFault}
use Rattle.startup.specs.Texts.{text_of}
use Rattle.saddlemug.specs.Names.{IsPut, IsWhyNone, TellsFault}
use Rattle.saddlemug.specs.Opened.{IsNewStack}

-- what comes of the settings of a text comes of the text
pub of_text : (text : List ℕ) (config : Config) (found : Option Error) → AreSettingsOf text config
    → MatchOption found ((v : ManagerView) × IsFirstOf config v) (λ fault. (why : StartFault) × (fault ≡ Start why) × IsStartFault config why)
    → MatchOption found ((v : ManagerView) × IsNewStack text v) (IsWhyNone text)
of_text text config None settings h = (h.0, record { config = config; settings = settings; first = h.1 })
of_text text config (Some fault) settings h = subst (IsWhyNone text) (sym h.1) (config, settings, h.2)

-- a fault was told, or want of memory for its words
pub tells_fault : (text : List ℕ) (fault : Error) (before : List ℕ) (count : ℕ) (after : List ℕ) → IsWhyNone text fault
    → IsPut (text_of fault) before count after ⊎ IsPut (text_of NoMemory) before count after → TellsFault text before count after
tells_fault text fault before count after why (inl told) = record { fault = Some fault; why = why; told = told }
tells_fault text fault before count after why (inr told) = record { fault = Some NoMemory; why = tt; told = told }

pub tells_none : (text before : List ℕ) (count : ℕ) (after : List ℕ) → ((v : ManagerView) × IsNewStack text v) → IsPut [] before count after
    → TellsFault text before count after
tells_none text before count after started told = record { fault = None; why = started; told = told }
