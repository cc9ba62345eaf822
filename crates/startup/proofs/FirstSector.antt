-- Why the first sector of a medium was not read.
use Rattle.std.proofs.Common.{◌≡◌, ◌<◌, ◌+◌, Contains, arith, refl, subst}
use Rattle.disk.specs.Medium.{MediumView, HasBad}
use Rattle.ntstatus.specs.declared.NtStatus.TheVariants.{DeviceDataError}
use Rattle.compose.specs.declared.StartFault.TheVariants.{Device as FailedCommand}
use Rattle.startup.specs.Started.{IsUnreadTable}

-- where it can't be read it is bad
pub unread_by : (medium : MediumView) → HasBad medium (record { first = 0; count = 1 }) → IsUnreadTable medium (FailedCommand DeviceDataError)
unread_by medium has =
    let below : has.0 < 0 + 1 = has.2.1 in
    let is : has.0 ≡ 0 = omega (arith, below) in
    (subst (Contains medium.bad) is has.1, refl)
