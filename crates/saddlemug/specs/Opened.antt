-- What is opened over a disk in memory, by settings that a text gives, or C.
use Rattle.std.specs.Prelude.{◌≡◌, ◌⊎◌, ℕ, List, IsSome}
use Rattle.ntstatus.specs.declared.NtStatus.{NtStatus}
use Rattle.ntstatus.specs.declared.NtStatus.TheVariants.{InsufficientResources, InvalidParameter}
use Rattle.compose.specs.declared.StartFault.{StartFault}
use Rattle.io_manager.specs.Shown.{ManagerView}
use Rattle.settings.specs.declared.Config.{Config}
use Rattle.startup.specs.Reading.{settings_fault}
use Rattle.settings.specs.Settings.{AreSettingsOf}
use Rattle.startup.specs.Started.{IsFirstOf, IsOpenFault, IsStackFault, IsStartFault, IsVolumeOf}
use Rattle.volume.specs.declared.OpenFault.{OpenFault}
use Rattle.volume.specs.Shown.{VolumeView}
use Rattle.saddlemug.specs.Statuses.{open_status, start_status}

-- a volume is a partition of the disk of settings that are given so
pub record IsVolumeBy (AreGiven : Config → Type 0) (partition : ℕ) (v : VolumeView) : Type 0 where
  pub config : Config
  pub settings : AreGiven config
  pub new : IsVolumeOf config partition v

-- a stack stands over the disk of settings that are given so, before its first event
pub record IsStackBy (AreGiven : Config → Type 0) (v : ManagerView) : Type 0 where
  pub config : Config
  pub settings : AreGiven config
  pub first : IsFirstOf config v

-- by those of a text
abbrev pub IsNewVolume : List ℕ → ℕ → VolumeView → Type 0
IsNewVolume text partition v = IsVolumeBy (AreSettingsOf text) partition v

abbrev pub IsNewStack : List ℕ → ManagerView → Type 0
IsNewStack text v = IsStackBy (AreSettingsOf text) v

-- WHY NOTHING WAS OPENED

-- why there are no settings: memory was refused, or the text gives none
abbrev pub IsConfigStatus : List ℕ → NtStatus → Type 0
IsConfigStatus text status = (status ≡ InsufficientResources) ⊎ ((status ≡ InvalidParameter) × IsSome (settings_fault text))

-- the status of a fault for which there is no volume of these settings
pub record IsOpenStatus (config : Config) (partition : ℕ) (status : NtStatus) : Type 0 where
  pub fault : OpenFault
  pub why : IsOpenFault config partition fault
  pub is_status : status ≡ open_status fault

-- the status of a fault for which there is no stack of these settings
pub record IsStartStatus (config : Config) (status : NtStatus) : Type 0 where
  pub fault : StartFault
  pub why : IsStartFault config fault
  pub is_status : status ≡ start_status fault

-- the status of a fault for which there is none to judge, whatever the rules of these settings
pub record IsUnstarted (config : Config) (status : NtStatus) : Type 0 where
  pub fault : StartFault
  pub why : IsStackFault config fault
  pub is_status : status ≡ start_status fault

-- why nothing was opened: there are no settings, or nothing of them
abbrev pub IsUnopened : (NtStatus → Type 0) → (Config → Type 0) → (Config → NtStatus → Type 0) → NtStatus → Type 0
IsUnopened AreNone AreGiven IsOfThem status = AreNone status ⊎ ((config : Config) × AreGiven config × IsOfThem config status)

abbrev pub IsVolumeStatus : List ℕ → ℕ → NtStatus → Type 0
IsVolumeStatus text partition status = IsUnopened (IsConfigStatus text) (AreSettingsOf text) (λ config. IsOpenStatus config partition) status

abbrev pub IsStackStatus : List ℕ → NtStatus → Type 0
IsStackStatus text status = IsUnopened (IsConfigStatus text) (AreSettingsOf text) IsStartStatus status

abbrev pub IsJudgeStatus : List ℕ → NtStatus → Type 0
IsJudgeStatus text status = IsUnopened (IsConfigStatus text) (AreSettingsOf text) IsUnstarted status
