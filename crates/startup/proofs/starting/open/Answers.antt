use Rattle.std.proofs.Common.{◌≡◌, Err, rules, subst, sym}
use Rattle.compose.specs.declared.Settings.{Settings}
use Rattle.volume.specs.Opening.{IsOpenFault}
use Rattle.volume.specs.Sparse.{AreZeros}
use Rattle.settings.specs.Medium.{extents_of}
use Rattle.volume.specs.Shown.{VolumeView, extent_at}
use Rattle.startup.specs.Started.{IsVolumeOf}
use Rattle.startup.proofs.Joined.{all_zeros}
use Rattle.startup.proofs.OverDisk.{opened, not_opened}
use Rattle.startup.proofs.starting.open.Goals as goal

pub returns-clause-volume : goal.returns-clause-volume
returns-clause-volume c =
    subst (λ (v : VolumeView). IsVolumeOf c.args.config c.args.partition v) (sym c.with_rules.ensures)
    (opened c.args.config c.in-Ok.adapter.inner c.in-Ok.ensures.new c.in-Ok.ensures.says c.new_adapter.ensures.extents c.args.partition c.in_ok-volume.volume c.in-Ok.ensures.blank
    c.in_ok-volume.ensures.content c.in_ok-volume.ensures.partition)

pub returns-clause-zeros : goal.returns-clause-zeros
returns-clause-zeros c =
    let v : IsVolumeOf c.args.config c.args.partition c.in_ok-volume.volume =
    opened c.args.config c.in-Ok.adapter.inner c.in-Ok.ensures.new c.in-Ok.ensures.says c.new_adapter.ensures.extents c.args.partition c.in_ok-volume.volume c.in-Ok.ensures.blank
    c.in_ok-volume.ensures.content c.in_ok-volume.ensures.partition in
    subst (λ (v : VolumeView). AreZeros v.content.bytes) (sym c.with_rules.ensures)
    (all_zeros c.args.config.sector_size (extent_at (extents_of c.args.config) c.args.partition).count c.in_ok-volume.volume.content.bytes v.blank)

pub returns-in_err-volume-clause-fault : goal.returns-in_err-volume-clause-fault
returns-in_err-volume-clause-fault c =
    let given : c.from_residual-in_err-volume.result ≡ Err c.in_err-volume.field-0.0.fault = search rules in
    rw given (not_opened c.args.config c.in-Ok.adapter.inner c.in-Ok.ensures.new c.in-Ok.ensures.says c.new_adapter.ensures.extents c.requires c.in-Ok.ensures.blank c.args.partition
    c.in_err-volume.field-0.0.fault c.in_err-volume.field-0.0.adapter.inner.shown
    (subst (λ (s : Settings). IsOpenFault c.in-Ok.adapter.inner.shown s c.args.partition c.in_err-volume.field-0.0.fault c.in_err-volume.field-0.0.adapter.inner.shown) c.limits_of-settings.ensures c.in_err-volume.ensures.fault))
