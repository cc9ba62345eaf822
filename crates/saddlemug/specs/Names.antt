-- What C is told in words.
use Rattle.std.specs.Prelude.{◌≡◌, ◌⊎◌, ◌==◌, ℕ, List, [], ◌∷◌, length, Option, Some, None, MatchOption}
use Rattle.std.specs.List.{find}
use Rattle.std.specs.Option.{option_map_or}
use Rattle.ntstatus.specs.Codes.{name_of, value_of}
use Rattle.ntstatus.specs.declared.NtStatus.{NtStatus}
use Rattle.ntstatus.specs.declared.NtStatus.TheVariants as status
use Rattle.io_manager.specs.Shown.{ManagerView}
use Rattle.settings.specs.declared.Config.{Config}
use Rattle.settings.specs.declared.ConfigFault.TheVariants.{NoMemory as WantOfMemory}
use Rattle.settings.specs.Settings.{AreSettingsOf}
use Rattle.startup.specs.declared.faults.Error.{Error}
use Rattle.startup.specs.declared.faults.Error.TheVariants.{ConfigUnreadable, Settings, Start, NoMemory}
use Rattle.startup.specs.Reading.{settings_fault}
use Rattle.startup.specs.Started.{IsStartFault}
use Rattle.startup.specs.Texts.{text_of}
use Rattle.saddlemug.specs.Opened.{IsNewStack}
use Rattle.saddlemug.specs.Stacks.{AreToldIn}

-- a text stands at the head of a buffer, as much of it as has room there, and its length was counted
pub record IsPut (text before : List ℕ) (count : ℕ) (after : List ℕ) : Type 0 where
  pub many : count ≡ length text
  pub told : AreToldIn before text after

-- all statuses
abbrev pub statuses : List NtStatus
statuses = status.Success ∷ status.Pending ∷ status.DeviceBusy ∷ status.InvalidHandle ∷ status.InvalidParameter ∷ status.NoSuchDevice
    ∷ status.InvalidDeviceRequest ∷ status.NonexistentSector ∷ status.MoreProcessingRequired ∷ status.DeletePending
    ∷ status.InsufficientResources ∷ status.DeviceDataError ∷ status.MediaWriteProtected ∷ status.DeviceNotReady ∷ status.Cancelled
    ∷ status.IoDeviceError ∷ status.NotFound ∷ []

-- the status of a number, if there is one
abbrev pub status_of : ℕ → Option NtStatus
status_of number = find (λ s. value_of s == number) statuses

-- its name, and no text for the number of none
abbrev pub name_of_number : ℕ → List ℕ
name_of_number number = option_map_or name_of (status_of number) []

-- WHY A TEXT'S SETTINGS START NO STACK, AS THE PROGRAMS SAY IT

-- its settings are faulty, no stack of them can be started, or memory was refused
abbrev pub IsWhyNone : List ℕ → Error → Type 0
IsWhyNone text ConfigUnreadable = ⊥
IsWhyNone text (Settings fault) = (settings_fault text ≡ Some fault) ⊎ (fault ≡ WantOfMemory)
IsWhyNone text (Start fault) = (config : Config) × AreSettingsOf text config × IsStartFault config fault
IsWhyNone text NoMemory = Unit {0}

-- its words were told, or none of settings that start a stack
pub record TellsFault (text before : List ℕ) (count : ℕ) (after : List ℕ) : Type 0 where
  pub fault : Option Error
  pub why : MatchOption fault ((v : ManagerView) × IsNewStack text v) (IsWhyNone text)
  pub told : IsPut (option_map_or text_of fault []) before count after
