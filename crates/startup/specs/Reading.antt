-- What an input gives.
use Rattle.std.specs.Prelude.{◌≡◌, ◌⊎◌, ℕ, List, Option, Some, IfSome, if◌then◌else◌}
use Rattle.std.specs.Str.{is_utf8}
use Rattle.settings.specs.declared.Config.{Config}
use Rattle.settings.specs.declared.ConfigFault.{ConfigFault}
use Rattle.settings.specs.declared.ConfigFault.TheVariants.{NotToml, NoMemory as WantOfMemory}
use Rattle.settings.specs.Faults.{text_fault}
use Rattle.settings.specs.Settings.{AreSettingsOf}
use Rattle.startup.specs.declared.faults.Error.{Error}
use Rattle.startup.specs.declared.faults.Error.TheVariants.{ConfigUnreadable, Settings, Start, NoMemory}

-- a text is all that an input has, where that is known
abbrev pub IsAllOf : Option (List ℕ) → List ℕ → Type 0
IsAllOf known text = IfSome known (λ bytes. text ≡ bytes)

-- the settings that an input gives
pub record AreRead (input : Option (List ℕ)) (settings : Config) : Type 0 where
  pub text : List ℕ
  pub all : IsAllOf input text
  pub of_text : AreSettingsOf text settings

-- the first fault of a text of settings; a text that isn't UTF-8 is no TOML
abbrev pub settings_fault : List ℕ → Option ConfigFault
settings_fault text = if is_utf8 text then text_fault text else Some NotToml

-- a fault of settings is the fault of all the text that an input has, or want of memory
abbrev pub HasFault : Option (List ℕ) → Error → Type 0
HasFault input ConfigUnreadable = Unit {0}
HasFault input (Settings fault) = (text : List ℕ) × IsAllOf input text × ((settings_fault text ≡ Some fault) ⊎ (fault ≡ WantOfMemory))
HasFault input (Start fault) = Unit {0}
HasFault input NoMemory = Unit {0}

-- why there are no settings
abbrev pub IsUnread : Error → Type 0
IsUnread ConfigUnreadable = Unit {0}
IsUnread (Settings fault) = Unit {0}
IsUnread (Start fault) = ⊥
IsUnread NoMemory = Unit {0}
