-- What settings open is what opens that gives them.
use Rattle.std.proofs.Common.{ℕ, List, Result, Ok, Err, inr}
use Rattle.std.specs.Prelude.{IfErr, IfOk}
use Rattle.ntstatus.specs.declared.NtStatus.{NtStatus}
use Rattle.settings.specs.declared.Config.{Config}
use Rattle.io_manager.specs.Shown.{ManagerView}
use Rattle.volume.specs.Shown.{VolumeView}
use Rattle.startup.specs.Started.{IsFirstOf, IsVolumeOf}
use Rattle.settings.specs.Settings.{AreSettingsOf}
use Rattle.referee.specs.Opening.{IsOpened}
use Rattle.referee.specs.Taking.{RefereeView}
use Rattle.saddlemug.specs.Judged.{IsNewJudge}
use Rattle.saddlemug.specs.Opened.{IsStackBy, IsUnopened, IsVolumeBy}

pub volume_given : (AreGiven : Config → Type 0) (config : Config) (partition : ℕ) (opened : Result VolumeView NtStatus) → AreGiven config
    → IfOk opened (IsVolumeOf config partition) → IfOk opened (IsVolumeBy AreGiven partition)
volume_given AreGiven config partition (Ok v) = λ settings new. record { config = config; settings = settings; new = new }
volume_given AreGiven config partition (Err s) = λ settings new. new

pub stack_given : (AreGiven : Config → Type 0) (config : Config) (opened : Result ManagerView NtStatus) → AreGiven config
    → IfOk opened (IsFirstOf config) → IfOk opened (IsStackBy AreGiven)
stack_given AreGiven config (Ok v) = λ settings first. record { config = config; settings = settings; first = first }
stack_given AreGiven config (Err s) = λ settings first. first

pub judge_given : (text : List ℕ) (config : Config) (opened : Result RefereeView NtStatus) → AreSettingsOf text config
    → IfOk opened (IsOpened config) → IfOk opened (IsNewJudge text)
judge_given text config (Ok v) = λ settings opened. record { config = config; settings = settings; opened = opened }
judge_given text config (Err s) = λ settings opened. opened

-- and why nothing is opened
pub why_none : {A : Type 0} (AreNone : NtStatus → Type 0) (AreGiven : Config → Type 0) (IsOfThem : Config → NtStatus → Type 0) (config : Config)
    (opened : Result A NtStatus) → AreGiven config → IfErr opened (IsOfThem config) → IfErr opened (IsUnopened AreNone AreGiven IsOfThem)
why_none AreNone AreGiven IsOfThem config (Ok v) = λ settings why. tt
why_none AreNone AreGiven IsOfThem config (Err s) = λ settings why. inr (config, settings, why)
