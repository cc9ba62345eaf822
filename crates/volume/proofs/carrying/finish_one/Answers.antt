use Rattle.volume.proofs.Common.{◌≡◌, [], arith, refl, sym, ◌∙◌, ap, subst, All, IsPermutation, All-permutation, IsPermutation-refl, IsPermutation-trans, Rules, State, HasOtherTag, IsOnTag, tags_out, work}
use Rattle.volume.proofs.Steps.{IsFrom, Quietly-refl, Quietly-trans, from_next, from_zero, none_before, none_left}
use Rattle.volume.proofs.carrying.finish_one.Goals as goal

pub loop-tag-init : goal.loop-tag-init
loop-tag-init g c = record {
  quietly = Quietly-refl c.args.stack.now;
  between = c.requires.between;
  same_depth = c.depth-depth.ensures;
  free = from_zero (tags_out c.args.stack.now.state);
  same_tags = IsPermutation-refl _;
  same_work = refl;
  no_more = omega arith;
}

pub loop-tag-preserved : goal.loop-tag-preserved
loop-tag-preserved g c =
    let none : All (HasOtherTag c.loop-tag.tag) c.finishes.new.stack.state.pieces = c.if-finishes.ensures.done.1 in
    let same : c.finishes.new.stack.state ≡ c.act.new.stack.state = c.if-finishes.ensures.done.0 in
    let tags : IsPermutation (tags_out c.loop-tag.stack.state) (tags_out c.act.new.stack.state) = c.act.ensures.same_tags in
    record {
      quietly = Quietly-trans _ _ _ c.loop-tag.invariant.quietly (Quietly-trans _ _ _ c.act.ensures.quietly c.finishes.ensures.quietly);
      between = c.finishes.ensures.between;
      same_depth = c.loop-tag.invariant.same_depth ∙ sym (ap (λ (r : Rules). r.depth) (c.finishes.ensures.quietly.same_rules ∙ c.act.ensures.quietly.same_rules));
      free =
          from_next c.loop-tag.tag c.finishes.new.stack.state.pieces
          (subst (λ (s : State). All (IsFrom c.loop-tag.tag) (tags_out s)) (sym same) (All-permutation (IsFrom c.loop-tag.tag) _ _ tags c.loop-tag.invariant.free)) none;
      same_tags = subst (λ (s : State). IsPermutation (tags_out c.args.stack.now.state) (tags_out s)) (sym same) (IsPermutation-trans _ _ _ c.loop-tag.invariant.same_tags tags);
      same_work = ap (λ (s : State). work s) same ∙ c.act.ensures.same_work ∙ c.loop-tag.invariant.same_work;
      no_more = omega (arith, c.loop-tag.invariant.no_more, c.turns_back.ensures.no_more);
    }

pub returns-then-finishes-clause-quietly : goal.returns-then-finishes-clause-quietly
returns-then-finishes-clause-quietly g c = Quietly-trans _ _ _ c.loop-tag.invariant.quietly (Quietly-trans _ _ _ c.act.ensures.quietly c.finishes.ensures.quietly)

pub unreachable-requires : goal.unreachable-requires
unreachable-requires g c =
    let on_tags : All (IsOnTag c.depth-depth.result) c.loop-tag.stack.state.pieces =
    subst (λ depth. All (IsOnTag depth) c.loop-tag.stack.state.pieces) (sym c.loop-tag.invariant.same_depth) c.loop-tag.invariant.between.whole.on_tags in
    let none : c.loop-tag.stack.state.pieces ≡ [] = none_left c.depth-depth.result c.loop-tag.tag c.loop-tag.stack.state.pieces c.loop-tag-test.false on_tags c.loop-tag.invariant.free in
    c.requires.some_out (none_before c.args.stack.now.state c.loop-tag.stack.state c.loop-tag.invariant.same_tags none)

pub returns-then-turns_back-clause-quietly : goal.returns-then-turns_back-clause-quietly
returns-then-turns_back-clause-quietly g c = Quietly-trans _ _ _ c.loop-tag.invariant.quietly c.turn_back.ensures.quietly
