use Rattle.std.proofs.Common.{ap, ◌∙◌}
use Rattle.settings.proofs.Keys.{values_of_found}
use Rattle.settings.proofs.table.items_at.Goals as goal

pub returns-in-Some-Array : goal.returns-in-Some-Array
returns-in-Some-Array c =
    let arm = c.in-Some-Array in
    values_of_found arm.field-0.now arm.items c.as_slice.result.now _ arm.ensures arm.field-0-is (c.as_slice.ensures.value ∙ ap (λ list. list.items) arm.items-is)
