use Rattle.std.proofs.Common.{◌≡◌, Bool, false, List, Err, rules, subst, ap, sym, ◌∙◌}
use Rattle.std.specs.List.{list_any}
use Rattle.compose.specs.declared.Settings.{Settings}
use Rattle.compose.specs.Opening.{IsFirstView, IsSpent}
use Rattle.injection.specs.declared.Rule.{Rule}
use Rattle.settings.specs.Rules.{slows}
use Rattle.settings.specs.declared.Config.{Config}
use Rattle.startup.specs.Started.{IsSlowed}
use Rattle.startup.proofs.OverDisk.{started, not_refused, not_started}
use Rattle.startup.proofs.starting.start.Goals as goal

-- where no rule that slows was found, none is in the settings
none_slows : (c : Config) (shown : List Rule) (found : Bool) → found ≡ list_any slows shown → shown ≡ c.faults.items → found ≡ false → IsSlowed c → ⊥
none_slows c shown found is same none slowed =
    let e : list_any slows c.faults.items ≡ false = ap (list_any slows) (sym same) ∙ (sym is ∙ none) in
    cc (slowed, e)

pub returns-clause-view : goal.returns-clause-view
returns-clause-view c =
    started c.args.config c.in-Ok.adapter.inner c.in-Ok.ensures.new c.in-Ok.ensures.says c.new_adapter.ensures.extents c.args.keeps_bytes c.in_ok-stack.stack c.in-Ok.ensures.keeps c.in-Ok.ensures.blank
    (subst (λ (s : Settings). IsFirstView c.in-Ok.adapter.inner.shown s c.in_ok-stack.stack) c.limits_of-settings.ensures c.in_ok-stack.ensures.view)

pub returns-clause-first : goal.returns-clause-first
returns-clause-first c = record {
  adapter = c.in-Ok.adapter.inner;
  new = c.in-Ok.ensures.new;
  blank = c.in-Ok.ensures.blank;
  first = subst (λ (s : Settings). IsFirstView c.in-Ok.adapter.inner.shown s c.in_ok-stack.stack) c.limits_of-settings.ensures c.in_ok-stack.ensures.view;
}

pub returns-in_err-stack-clause-fault : goal.returns-in_err-stack-clause-fault
returns-in_err-stack-clause-fault c =
    let given : c.from_residual.result ≡ Err c.in_err-stack.field-0.0.fault = search rules in
    rw given (not_refused c.args.config c.in_err-stack.field-0.0.fault (not_started c.args.config c.in-Ok.adapter.inner c.in-Ok.ensures.new c.in-Ok.ensures.says c.new_adapter.ensures.extents c.requires c.in-Ok.ensures.blank
    c.in_err-stack.field-0.0.fault c.in_err-stack.field-0.0.adapter.inner.shown
    (subst (λ (s : Settings). IsSpent c.in-Ok.adapter.inner.shown s c.in_err-stack.field-0.0.fault c.in_err-stack.field-0.0.adapter.inner.shown) c.limits_of-settings.ensures c.in_err-stack.ensures.fault)))

pub returns-in_err-stack-clause-refused : goal.returns-in_err-stack-clause-refused
returns-in_err-stack-clause-refused c =
    λ slowed. absurd (none_slows c.args.config c.as_slice.result.now c.has_slowing.result c.has_slowing.ensures c.as_slice.ensures.value c.if-has_slowing.false slowed)

pub returns-clause-refused : goal.returns-clause-refused
returns-clause-refused c =
    λ slowed. absurd (none_slows c.args.config c.as_slice.result.now c.has_slowing.result c.has_slowing.ensures c.as_slice.ensures.value c.if-has_slowing.false slowed)
