use Rattle.std.proofs.Common.{ap, subst}
use Rattle.std.specs.Prelude.{Some}
use Rattle.std.specs.Global.{Vec}
use Rattle.history_judge.specs.declared.trying.Try.{Try}
use Rattle.history_judge.specs.inside.Cells.{sights_in, starts_in, AreBegun, IsBegunBy, IsFront}
use Rattle.history_judge.proofs.Celling.{on_two, cell_behind, begun_first, no_tries}
use Rattle.history_judge.proofs.cell.Cell.begin.Goals as goal

pub returns-in-Some : goal.returns-in-Some
returns-in-Some c = λ waits h.
    let old = c.args.self.now in
    let any = c.args.start.now.any in
    let start = c.args.start.now.bytes in
    let marked = c.in_ok-given.given.items in
    let given = sights_in marked in
    let tries = c.in-Some.tries in
    let begun = subst (λ ts. AreBegun any start old.seen.items (starts_in ts)) (no_tries old.tries.items c.requires) h.begun in
    let by : IsBegunBy start given (Some tries) = subst (λ gs. IsBegunBy start (sights_in gs) (Some tries)) c.as_slice-2.ensures.value (subst (IsBegunBy start (sights_in c.as_slice-2.result.now)) c.in-Some.is c.in_ok-tries.ensures) in
    let front : IsFront old.waits.items marked = subst (λ ws. IsFront ws marked) c.as_slice.ensures.value c.in_ok-given.ensures in
    let both = begun_first any start old.seen.items given tries begun by in
    on_two c.behind.result (λ seen_is waits_are.
    cell_behind any start waits old.seen.items old.waits.items marked tries.items c.behind.new.self h.is front both.0 both.1 (ap (λ (ts : Vec Try). ts.items) c.behind.ensures.tries) seen_is waits_are)
    c.behind.ensures.seen c.behind.ensures.waits
