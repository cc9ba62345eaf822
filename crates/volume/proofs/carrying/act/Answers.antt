use Rattle.volume.proofs.Common.{refl, ◌∙◌, IsPermutation-refl, IsPermutation-trans}
use Rattle.volume.proofs.Steps.{Quietly-refl, Quietly-trans}
use Rattle.volume.proofs.carrying.act.Goals as goal

pub acting-init : goal.acting-init
acting-init g c = record { quietly = Quietly-refl c.args.stack.now; between = c.requires.between; same_tags = IsPermutation-refl _; same_work = refl }

pub acting-preserved : goal.acting-preserved
acting-preserved g c = record {
  quietly = Quietly-trans _ _ _ c.acting.invariant.quietly c.acts.ensures.quietly;
  between = c.acts.ensures.between;
  same_tags = IsPermutation-trans _ _ _ c.acting.invariant.same_tags c.acts.ensures.same_tags;
  same_work = c.acts.ensures.same_work ∙ c.acting.invariant.same_work;
}

pub returns : goal.returns
returns g c = record {
  quietly = Quietly-trans _ _ _ c.acting.invariant.quietly c.acts.ensures.quietly;
  between = c.acts.ensures.between;
  same_tags = IsPermutation-trans _ _ _ c.acting.invariant.same_tags c.acts.ensures.same_tags;
  same_work = c.acts.ensures.same_work ∙ c.acting.invariant.same_work;
  none_fresh = c.acting-test.ensures.done;
}
