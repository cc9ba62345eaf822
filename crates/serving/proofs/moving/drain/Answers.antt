use Rattle.serving.proofs.Carrying.{Goes-refl, Goes-trans}
use Rattle.serving.proofs.moving.drain.Goals as goal

pub finishing-init : goal.finishing-init
finishing-init g c = record { goes = Goes-refl _; taken = c.requires.taken }

pub finish_one-requires-clause-stands : goal.finish_one-requires-clause-stands
finish_one-requires-clause-stands g c = c.finishing.invariant.goes.stands c.requires.stands

pub finishing-preserved : goal.finishing-preserved
finishing-preserved g c = record { goes = Goes-trans _ _ _ c.finishing.invariant.goes c.finish_one.ensures.goes; taken = c.finish_one.ensures.taken }

pub returns : goal.returns
returns g c = record {
  goes = Goes-trans _ _ _ c.finishing.invariant.goes c.finish_one.ensures.goes;
  taken = c.finish_one.ensures.taken;
  none_out = c.finishing-test.ensures.less;
}
