-- A cell that was filled, or not.
use Rattle.std.proofs.Common.{◌≡◌, ◌⊎◌, inl, inr, ℕ, Bool, true, false, Option, Some, None, MatchBool, sym, subst}
use Rattle.ntstatus.specs.Codes.{value_of}
use Rattle.ntstatus.specs.declared.NtStatus.{NtStatus}
use Rattle.ntstatus.specs.declared.NtStatus.TheVariants.{InsufficientResources}
use Rattle.io_manager.specs.Shown.{ManagerView}
use Rattle.saddlemug.specs.declared.instance.Instance.{Instance}
use Rattle.volume.specs.Shown.{VolumeView}
use Rattle.saddlemug.specs.declared.instance.Instance.TheVariants.{Judge, Over, Stack, Volume}
use Rattle.saddlemug.specs.Holding.{HoldsJudge, HoldsOver, HoldsStack, HoldsVolume}
use Rattle.referee.specs.Taking.{RefereeView}
use Rattle.saddlemug.specs.Over.{OverView}
use Rattle.saddlemug.specs.Statuses.{IsNumberOfStatus}

pub holds_stack : (P : ManagerView → Type 0) (filled : Bool) (held : Option Instance) (v : ManagerView)
    → P v → MatchBool filled (held ≡ Some (Stack v)) (held ≡ None) → MatchBool filled (HoldsStack P held) (held ≡ None)
holds_stack P true held v new is = subst (HoldsStack P) (sym is) new
holds_stack P false held v new is = is

pub holds_volume : (P : VolumeView → Type 0) (filled : Bool) (held : Option Instance) (v : VolumeView)
    → P v → MatchBool filled (held ≡ Some (Volume v)) (held ≡ None) → MatchBool filled (HoldsVolume P held) (held ≡ None)
holds_volume P true held v new is = subst (HoldsVolume P) (sym is) new
holds_volume P false held v new is = is

pub holds_over : (P : OverView → Type 0) (filled : Bool) (held : Option Instance) (v : OverView)
    → P v → MatchBool filled (held ≡ Some (Over v)) (held ≡ None) → MatchBool filled (HoldsOver P held) (held ≡ None)
holds_over P true held v new is = subst (HoldsOver P) (sym is) new
holds_over P false held v new is = is

pub holds_judge : (P : RefereeView → Type 0) (filled : Bool) (held : Option Instance) (v : RefereeView)
    → P v → MatchBool filled (held ≡ Some (Judge v)) (held ≡ None) → MatchBool filled (HoldsJudge P held) (held ≡ None)
holds_judge P true held v new is = subst (HoldsJudge P) (sym is) new
holds_judge P false held v new is = is

-- its status, where want of memory may be told
pub filled_status : (IsWhy : NtStatus → Type 0) (number : ℕ) → IsWhy InsufficientResources → (number ≡ 0) ⊎ (number ≡ value_of InsufficientResources)
    → (number ≡ 0) ⊎ IsNumberOfStatus IsWhy number
filled_status IsWhy number want (inl e) = inl e
filled_status IsWhy number want (inr e) = inr (record { status = InsufficientResources; why = want; is_number = e })
