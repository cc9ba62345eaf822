-- No call that did not succeed has the status of success.
use Rattle.std.proofs.Common.{◌≡◌, ℕ, ◌==◌, sym, ap, subst, ◌∙◌, if◌then◌else◌, bit_and}
use Rattle.ntstatus.specs.declared.NtStatus.{NtStatus}
use Rattle.ntstatus.specs.declared.NtStatus.TheVariants.{Success}
use Rattle.ntstatus.proofs.Rows.{success_code}
use Rattle.srb.specs.declared.Class.TheVariants.{Good, Busy, Bad}
use Rattle.srb.specs.Fate.{class_of}
use Rattle.probe.specs.Exchange.{IsOfFailure}
use Rattle.io_manager.specs.declared.Refusal.{Refusal}
use Rattle.io_manager.specs.declared.Refusal.TheVariants.{InvalidHandle, InvalidParameter, DeletePending, DeviceBusy, InsufficientResources, InvalidDeviceRequest, NotFound}
use Rattle.compose.specs.declared.StartFault.{StartFault}
use Rattle.compose.specs.declared.StartFault.TheVariants.{Device, Settings, Mbr, NoMemory}
use Rattle.volume.specs.declared.OpenFault.{OpenFault}
use Rattle.volume.specs.declared.OpenFault.TheVariants.{Start}
use Rattle.settings.specs.declared.Config.{Config}
use Rattle.startup.specs.Started.{IsOpenFault, IsStackFault, IsStartFault}
use Rattle.saddlemug.specs.Statuses.{refusal_status, start_status}

failure_fails : (s : NtStatus) → IsOfFailure s → s ≡ Success → ⊥
failure_fails s f e =
    let code : bit_and f.completion.srb_status 0x3F ≡ 0x01 = success_code f.completion.srb_status f.completion.scsi_status f.completion.sense (sym f.means ∙ e) in
    let good : class_of f.completion ≡ Good = ap (λ (n : ℕ). if n == 1 then Good else (if n == 5 then Busy else Bad f.completion)) code in
    let same : Good ≡ Bad f.completion = sym good ∙ f.is_bad in
    cc (same)

pub stack_fails : (c : Config) (fault : StartFault) → IsStackFault c fault → start_status fault ≡ Success → ⊥
stack_fails c (Device s) failure e = failure_fails s failure.fails.failure e
stack_fails c NoMemory failure e = cc (e)
stack_fails c Settings failure e = cc (e)
stack_fails c (Mbr fault) failure e = cc (e)

pub start_fails : (c : Config) (fault : StartFault) → IsStartFault c fault → start_status fault ≡ Success → ⊥
start_fails c Settings failure e = cc (e)
start_fails c (Device s) failure e = stack_fails c (Device s) failure e
start_fails c NoMemory failure e = cc (e)
start_fails c (Mbr fault) failure e = cc (e)

pub open_fails : (c : Config) (p : ℕ) (opened : OpenFault) (fault : StartFault) → opened ≡ Start fault → IsOpenFault c p opened → start_status fault ≡ Success → ⊥
open_fails c p opened fault is told e = stack_fails c fault (subst (IsOpenFault c p) is told) e

pub refusal_fails : (reason : Refusal) → refusal_status reason ≡ Success → ⊥
refusal_fails InvalidHandle e = cc (e)
refusal_fails InvalidParameter e = cc (e)
refusal_fails DeletePending e = cc (e)
refusal_fails DeviceBusy e = cc (e)
refusal_fails InsufficientResources e = cc (e)
refusal_fails InvalidDeviceRequest e = cc (e)
refusal_fails NotFound e = cc (e)
