use Rattle.serving.proofs.Common.{◌≡◌, ◌<◌, ℕ, refl, sym, ap, ◌∙◌, subst, All, IsPermutation, All-permutation, Rules, State, HasOtherTag, IsOnTag, tags_out, work, IsFrom, from_next, from_zero, none_left}
use Rattle.serving.proofs.Carrying.{Goes-refl, Goes-trans}
use Rattle.serving.proofs.moving.finish_one.Goals as goal

pub loop-tag-init : goal.loop-tag-init
loop-tag-init g c = record {
  goes = Goes-refl _;
  taken = c.requires.taken;
  same_depth = c.depth-depth.ensures;
  free = from_zero (tags_out c.args.stack.now.state);
  same_work = refl;
}

pub act-requires-clause-stands : goal.act-requires-clause-stands
act-requires-clause-stands g c = c.loop-tag.invariant.goes.stands c.requires.stands

pub loop-tag-preserved : goal.loop-tag-preserved
loop-tag-preserved g c =
    let none : All (HasOtherTag c.loop-tag.tag) c.finishes.new.stack.state.pieces = c.if-finishes.ensures.done.1 in
    let same : c.finishes.new.stack.state ≡ c.act.new.stack.state = c.if-finishes.ensures.done.0 in
    let tags : IsPermutation (tags_out c.loop-tag.stack.state) (tags_out c.act.new.stack.state) = c.act.ensures.same_tags in
    record {
      goes = Goes-trans _ _ _ c.loop-tag.invariant.goes (Goes-trans _ _ _ c.act.ensures.goes (c.finishes.ensures.goes c.act.new.disk));
      taken = c.finishes.ensures.taken;
      same_depth = c.loop-tag.invariant.same_depth ∙ sym (ap (λ (r : Rules). r.depth) ((c.finishes.ensures.goes c.act.new.disk).same_rules ∙ c.act.ensures.goes.same_rules));
      free =
          from_next c.loop-tag.tag c.finishes.new.stack.state.pieces
          (subst (λ (s : State). All (IsFrom c.loop-tag.tag) (tags_out s)) (sym same) (All-permutation (IsFrom c.loop-tag.tag) _ _ tags c.loop-tag.invariant.free)) none;
      same_work = ap (λ (s : State). work s) same ∙ c.act.ensures.same_work ∙ c.loop-tag.invariant.same_work;
    }

pub returns-then-finishes-clause-goes : goal.returns-then-finishes-clause-goes
returns-then-finishes-clause-goes g c = Goes-trans _ _ _ c.loop-tag.invariant.goes (Goes-trans _ _ _ c.act.ensures.goes (c.finishes.ensures.goes c.act.new.disk))

pub returns-then-finishes-clause-less : goal.returns-then-finishes-clause-less
returns-then-finishes-clause-less g c =
    subst (λ (n : ℕ). work c.finishes.new.stack.state < n) (c.act.ensures.same_work ∙ c.loop-tag.invariant.same_work) c.if-finishes.ensures.done

pub returns : goal.returns
returns g c =
    let on_tags : All (IsOnTag c.depth-depth.result) c.loop-tag.stack.state.pieces =
    subst (λ (depth : ℕ). All (IsOnTag depth) c.loop-tag.stack.state.pieces) (sym c.loop-tag.invariant.same_depth) c.shows_whole.ensures.whole.on_tags in
    record {
      goes = c.loop-tag.invariant.goes;
      taken = c.loop-tag.invariant.taken;
      less = none_left c.depth-depth.result c.loop-tag.tag c.loop-tag.stack.state.pieces c.loop-tag-test.false on_tags c.loop-tag.invariant.free;
    }
