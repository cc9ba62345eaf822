use Rattle.std.proofs.Common.{◌≡◌, ◌++◌, [], sym, ◌∙◌, ap, subst, arith, length}
use Rattle.std.specs.Prelude.{All}
use Rattle.std.proofs.lemmas.Result.{IfOk-weaker}
use Rattle.history.specs.Waits.{known}
use Rattle.history_judge.specs.inside.Starting.{IsTriedAll, IsTriedAny, IsTriedBy}
use Rattle.history_judge.specs.inside.Cells.{plain, sights_in, starts_in, IsTry}
use Rattle.history_judge.proofs.Celling.{judged_begun, judged_first, no_tries}
use Rattle.history_judge.proofs.cell.Cell.judge.Goals as goal

pub returns-then-is_empty : goal.returns-then-is_empty
returns-then-is_empty c = λ waits h.
    let cell = c.args.self.now in
    let any = c.args.basis.now.start.any in
    let start = c.args.basis.now.start.bytes in
    let size = c.args.basis.now.service.sector_size in
    let given = c.in_ok-given.given.items in
    let empty : length cell.tries.items ≡ 0 = grind (arith, c.is_empty.ensures, c.if-is_empty.true) in
    let is : sights_in given ≡ known (plain cell.waits.items) = c.in_ok-given.ensures ∙ ap (λ ws. known (plain ws)) c.as_slice.ensures.value in
    IfOk-weaker c.judge_all_starts.result (λ t. IsTriedAny size (sights_in c.as_slice-then-is_empty.result.now) t.so_far) (λ t. IsTriedBy any size start (known waits) t.so_far)
    (λ t tried. judged_first any size start waits cell given t.so_far h (no_tries cell.tries.items empty) is (subst (λ gs. IsTriedAny size (sights_in gs) t.so_far) c.as_slice-then-is_empty.ensures.value tried)) c.judge_all_starts.ensures

pub returns : goal.returns
returns c = λ waits h.
    let cell = c.args.self.now in
    let any = c.args.basis.now.start.any in
    let start = c.args.basis.now.start.bytes in
    let size = c.args.basis.now.service.sector_size in
    let given = c.in_ok-given.given.items in
    let some : cell.tries.items ≡ [] → ⊥ = λ e. let none : length cell.tries.items ≡ 0 = ap length e in absurd (grind (arith, c.is_empty.ensures, c.if-is_empty.false, none)) in
    let is : sights_in given ≡ known (plain cell.waits.items) = c.in_ok-given.ensures ∙ ap (λ ws. known (plain ws)) c.as_slice.ensures.value in
    let seen = cell.seen.items in
    IfOk-weaker c.judge_tries.result (λ t. IsTriedAll any size (starts_in c.as_slice-tries.result.now) (seen ++ sights_in c.as_slice-2.result.now) t.so_far) (λ t. IsTriedBy any size start (known waits) t.so_far)
    (λ t tried. judged_begun any size start waits cell given t.so_far h some is
    (subst (λ ts. IsTriedAll any size (starts_in ts) (seen ++ sights_in given) t.so_far) c.as_slice-tries.ensures.value
    (subst (λ gs. IsTriedAll any size (starts_in c.as_slice-tries.result.now) (seen ++ sights_in gs) t.so_far) c.as_slice-2.ensures.value tried)))
    (c.judge_tries.ensures seen (subst (All (IsTry seen)) (sym c.as_slice-tries.ensures.value) h.tries))
