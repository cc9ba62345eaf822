use Rattle.std.proofs.Common.{◌≡◌, Err, false, refl, rules, subst, sym, true}
use Rattle.disk.specs.SparseDisk.{shown}
use Rattle.disk.specs.Medium.{MediumView}
use Rattle.compose.specs.declared.Settings.{Settings}
use Rattle.compose.specs.Opening.{IsFirstView, IsSpent}
use Rattle.miniport.specs.Apart.{apart}
use Rattle.settings.specs.Medium.{IsNewDisk}
use Rattle.startup.proofs.OverDisk.{not_started_apart, shows_apart, started_over, unread}
use Rattle.startup.proofs.apart.start_apart.Goals as goal

pub returns-in_err-first-clause-fault : goal.returns-in_err-first-clause-fault
returns-in_err-first-clause-fault c =
    let given : c.from_residual.result ≡ Err c.in_err-first.field-0.0 = search rules in
    rw given (unread c.args.config (shown c.in-Ok.disk) c.in-Ok.ensures.new c.in-Ok.ensures.count c.in_err-first.field-0.0 c.in_err-first.ensures.fault)

pub returns-in_err-stack-clause-fault : goal.returns-in_err-stack-clause-fault
returns-in_err-stack-clause-fault c =
    let given : c.from_residual-in_err-stack.result ≡ Err c.in_err-stack.field-0.0.fault = search rules in
    let shows = shows_apart c.args.config (shown c.in-Ok.disk) c.in-Ok.ensures.new c.in-Ok.ensures.count c.in_ok-first.first.items c.in-Ok-new.adapter c.in_ok-first.ensures.bytes c.in-Ok-new.ensures.new
    c.in_ok-first.ensures.long c.in-Ok.ensures.says c.new_disk.ensures.extents c.in-Ok.ensures.blank in
    rw given (not_started_apart c.args.config (shown c.in-Ok.disk) c.in-Ok.ensures.new c.in-Ok.ensures.count c.in_ok-first.first.items c.in-Ok-new.adapter c.in_ok-first.ensures.bytes c.in-Ok-new.ensures.new
    c.requires shows c.in_err-stack.field-0.0.fault (apart c.in_err-stack.field-0.0.adapter.shown)
    (subst (λ (s : Settings). IsSpent (apart c.in-Ok-new.adapter.shown) s c.in_err-stack.field-0.0.fault (apart c.in_err-stack.field-0.0.adapter.shown)) c.limits_of-limits.ensures c.in_err-stack.ensures.fault))

pub returns-clause-stack : goal.returns-clause-stack
returns-clause-stack c =
    let shows = shows_apart c.args.config (shown c.in-Ok.disk) c.in-Ok.ensures.new c.in-Ok.ensures.count c.in_ok-first.first.items c.in-Ok-new.adapter c.in_ok-first.ensures.bytes c.in-Ok-new.ensures.new
    c.in_ok-first.ensures.long c.in-Ok.ensures.says c.new_disk.ensures.extents c.in-Ok.ensures.blank in
    started_over c.args.config (apart c.in-Ok-new.adapter.shown) shows false true c.in_ok-stack.stack refl c.in-Ok-new.ensures.keeps
    (subst (λ (s : Settings). IsFirstView (apart c.in-Ok-new.adapter.shown) s c.in_ok-stack.stack) c.limits_of-limits.ensures c.in_ok-stack.ensures.view)

pub returns-clause-disk : goal.returns-clause-disk
returns-clause-disk c = subst (λ (medium : MediumView). IsNewDisk c.args.config medium) (sym c.in_ok-first.ensures.same) c.in-Ok.ensures.new
