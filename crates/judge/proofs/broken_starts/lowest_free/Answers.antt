use Rattle.std.proofs.Common.{◌≡◌, ◌<◌, ◌+◌, ◌-◌, ℕ, suc, List, Some, sym, ◌∙◌, ap, arith, true}
use Rattle.std.specs.Prelude.{Bool, if◌then◌else◌}
use Rattle.std.specs.List.{list_any}
use Rattle.machine.specs.State.{Piece}
use Rattle.judge.specs.Deciding.{has_tag}
use Rattle.judge.specs.StartRuling.{lowest_free}
use Rattle.judge.proofs.broken_starts.lowest_free.Goals as goal

used_here : (pieces : List Piece) (from tag : ℕ) → from < tag → list_any (has_tag from) pieces ≡ true → lowest_free pieces from (tag - from) ≡ lowest_free pieces (from + 1) (tag - (from + 1))
used_here pieces from tag low used =
    let more : tag - from ≡ suc (tag - (from + 1)) = omega arith in
    ap (lowest_free pieces from) more ∙ ap (λ (b : Bool). if b then lowest_free pieces (from + 1) (tag - (from + 1)) else Some from) used

pub loop-lower-preserved : goal.loop-lower-preserved
loop-lower-preserved c = record {
  low = omega arith;
  same = c.loop-lower.invariant.same ∙ used_here c.args.pieces.now c.loop-lower.lower c.args.tag c.loop-lower-test.true (sym c.is_used.ensures ∙ c.if-not-is_used.false);
}
