use Rattle.serving.proofs.Common.{refl, ◌∙◌, IsPermutation-refl, IsPermutation-trans}
use Rattle.serving.proofs.Carrying.{Goes-refl, Goes-trans}
use Rattle.serving.proofs.moving.act.Goals as goal

pub acting-init : goal.acting-init
acting-init g c = record { goes = Goes-refl _; taken = c.requires.taken; same_tags = IsPermutation-refl _; same_work = refl }

pub acts-requires-clause-stands : goal.acts-requires-clause-stands
acts-requires-clause-stands g c = c.acting.invariant.goes.stands c.requires.stands

pub acting-preserved : goal.acting-preserved
acting-preserved g c = record {
  goes = Goes-trans _ _ _ c.acting.invariant.goes c.acts.ensures.goes;
  taken = c.acts.ensures.taken;
  same_tags = IsPermutation-trans _ _ _ c.acting.invariant.same_tags c.acts.ensures.same_tags;
  same_work = c.acts.ensures.same_work ∙ c.acting.invariant.same_work;
}

pub returns : goal.returns
returns g c = record {
  goes = Goes-trans _ _ _ c.acting.invariant.goes c.acts.ensures.goes;
  taken = c.acts.ensures.taken;
  same_tags = IsPermutation-trans _ _ _ c.acting.invariant.same_tags c.acts.ensures.same_tags;
  same_work = c.acts.ensures.same_work ∙ c.acting.invariant.same_work;
  none_fresh = c.acting-test.ensures.done;
}
