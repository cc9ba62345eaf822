use Rattle.std.proofs.Common.{◌≡◌, sym, ◌∙◌, ap}
use Rattle.std.proofs.lemmas.List.{same_from_push}
use Rattle.irp.specs.Climb.{asks}
use Rattle.irp.proofs.Routines.{asks_routine}
use Rattle.irp.proofs.Irp.set_completion.Goals as goal

pub returns-clause-asks : goal.returns-clause-asks
returns-clause-asks c = λ success cancelled higher own has.
    let is_own : own ≡ c.with_routine.result = (same_from_push higher _ own c.with_routine.result (sym has ∙ c.put_own.ensures.locations)).1 in
    ap (asks success cancelled) (is_own ∙ c.with_routine.ensures) ∙ asks_routine success cancelled c.args.on_success c.args.on_error c.args.on_cancel c.own_location-own.result
