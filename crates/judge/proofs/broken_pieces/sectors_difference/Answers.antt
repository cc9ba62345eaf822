use Rattle.std.proofs.Common.{◌≡◌, ◌<◌, ◌+◌, ◌-◌, ◌++◌, arith, List, ℕ, sym, ◌∙◌, ap, length, drop}
use Rattle.std.specs.List.{concat}
use Rattle.judge.specs.Ruling.{difference}
use Rattle.judge.proofs.Differing.{found_all, goes_past}
use Rattle.judge.proofs.Sparse.{front_at}
use Rattle.judge.proofs.broken_pieces.sectors_difference.Goals as goal

pub returns-then-is_some : goal.returns-then-is_some
returns-then-is_some c =
    let low : c.loop-i.i < length c.args.sectors.now = omega (arith, c.loop-i.invariant.ends) in
    let front : concat (drop c.loop-i.i c.args.sectors.now) ≡ c.at.result.now ++ concat (drop (c.loop-i.i + 1) c.args.sectors.now) =
    front_at c.args.sectors.now c.loop-i.i c.at.result.now low c.at.ensures in
    found_all c.args.told.now c.loop-i.rest.now c.at.result.now (concat (drop (c.loop-i.i + 1) c.args.sectors.now)) (difference 0 (concat c.args.sectors.now) c.args.told.now) c.next_difference-found.result.0
    c.loop-i.invariant.within (c.loop-i.invariant.same ∙ ap (λ (due : List ℕ). difference (length c.args.told.now - length c.loop-i.rest.now) due c.loop-i.rest.now) front)
    c.next_difference-found.ensures.found (sym c.is_some.ensures ∙ c.if-is_some.true)

pub loop-i-preserved : goal.loop-i-preserved
loop-i-preserved c =
    let low : c.loop-i.i < length c.args.sectors.now = omega (arith, c.loop-i.invariant.ends) in
    let front : concat (drop c.loop-i.i c.args.sectors.now) ≡ c.at.result.now ++ concat (drop (c.loop-i.i + 1) c.args.sectors.now) =
    front_at c.args.sectors.now c.loop-i.i c.at.result.now low c.at.ensures in
    let past = goes_past c.args.told.now c.loop-i.rest.now c.at.result.now (concat (drop (c.loop-i.i + 1) c.args.sectors.now)) (difference 0 (concat c.args.sectors.now) c.args.told.now) c.next_difference-found.result.0
    c.loop-i.invariant.within (c.loop-i.invariant.same ∙ ap (λ (due : List ℕ). difference (length c.args.told.now - length c.loop-i.rest.now) due c.loop-i.rest.now) front)
    c.next_difference-found.ensures.found c.next_difference-found.result.1.now (sym c.is_some.ensures ∙ c.if-is_some.false) c.next_difference-found.ensures.behind in
    record { ends = c.loop-i.invariant.ends; within = past.within; same = past.same }
