use Rattle.std.proofs.Common.{◌≡◌, ◌<◌, ◌+◌, ◌-◌, ℕ, suc, List, None, Some, zero, refl, sym, ◌∙◌, ap, arith, true, false}
use Rattle.std.specs.Prelude.{Bool, if◌then◌else◌}
use Rattle.std.specs.List.{list_any}
use Rattle.trace_tags.specs.declared.OnTag.{OnTag}
use Rattle.trace_tags.specs.Tags.{is_given, lowest_from}
use Rattle.trace_tags.proofs.lowest.Goals as goal

at_once : (out : List OnTag) (tag : ℕ) (b : Bool) → tag < 256 → list_any (is_given tag) out ≡ b
    → lowest_from out tag (256 - tag) ≡ (if b then lowest_from out (tag + 1) (256 - (tag + 1)) else Some tag)
at_once out tag b low e =
    let more : 256 - tag ≡ suc (256 - (tag + 1)) = omega arith in
    ap (lowest_from out tag) more ∙ ap (λ (x : Bool). if x then lowest_from out (tag + 1) (256 - (tag + 1)) else Some tag) e

pub loop-tag-preserved : goal.loop-tag-preserved
loop-tag-preserved c = record {
  low = omega arith;
  same = c.loop-tag.invariant.same ∙ at_once c.args.out.now c.loop-tag.tag true c.loop-tag-test.true (sym c.is_taken.ensures ∙ c.if-not-is_taken.false);
}

pub returns-then-not-is_taken : goal.returns-then-not-is_taken
returns-then-not-is_taken c = sym (c.loop-tag.invariant.same ∙ at_once c.args.out.now c.loop-tag.tag false c.loop-tag-test.true (sym c.is_taken.ensures ∙ c.if-not-is_taken.true))

none_left : (out : List OnTag) (tag more : ℕ) → more ≡ 0 → lowest_from out tag more ≡ None
none_left out tag zero e = refl
none_left out tag (suc more) e = absurd (omega (arith, e))

pub returns : goal.returns
returns c = sym (c.loop-tag.invariant.same ∙ none_left c.args.out.now c.loop-tag.tag (256 - c.loop-tag.tag) (omega arith))
