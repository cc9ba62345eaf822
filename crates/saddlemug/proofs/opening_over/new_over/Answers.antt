use Rattle.std.proofs.Common.{refl, subst}
use Rattle.miniport.specs.Apart.{apart}
use Rattle.compose.specs.declared.Settings.{Settings}
use Rattle.compose.specs.Opening.{IsFirstView}
use Rattle.saddlemug.specs.Over.{IsDisk}
use Rattle.saddlemug.proofs.FirstOver.{first_if, wants, wants_fail}
use Rattle.saddlemug.proofs.opening_over.new_over.Goals as goal

pub returns-in-Ok-start-clause-over : goal.returns-in-Ok-start-clause-over
returns-in-Ok-start-clause-over c =
    let is_disk : IsDisk c.args.disk.now c.args.first.now = c.if-not-is_in_range.ensures.0 refl in
    first_if c.args.disk.now c.args.first.now is_disk c.in-Ok.adapter c.in-Ok.ensures.new c.in-Ok-start.stack c.with_places.result
    (subst (λ (l : Settings). IsFirstView (apart c.in-Ok.adapter.shown) l c.in-Ok-start.stack) c.limits.ensures c.in-Ok-start.ensures.view) c.with_places.ensures.stack c.with_places.ensures.places

pub returns-in-Ok-start-clause-fault : goal.returns-in-Ok-start-clause-fault
returns-in-Ok-start-clause-fault c = wants_fail c.with_places.result c.with_places.ensures.why

pub returns-in-Ok-start-clause-why : goal.returns-in-Ok-start-clause-why
returns-in-Ok-start-clause-why c = wants c.args.disk.now c.args.first.now c.with_places.result c.with_places.ensures.why
