-- Each request that is taken is one more that was gathered.
use Rattle.io_manager.proofs.Common.{◌∙◌, refl, sym, subst, IsOrderly, IsSoundWith}
use Rattle.io_manager.proofs.Gathering.{gathers_none, gathers_more, few_open}
use Rattle.io_manager.proofs.parts.Parts.take_all_ended.Goals as goal

pub ended-init : goal.ended-init
ended-init g c = record {
  limits = refl;
  sound = subst (λ put_by. IsSoundWith put_by c.args.self.now.limits (g.D.Shown.view c.args.self.now.device) c.args.self.now.tables) (sym c.requires.sound.none_put_by) c.requires.sound;
  few = few_open c.args.self.now.limits (g.D.Shown.view c.args.self.now.device) c.args.self.now.tables c.requires.sound;
  gathers = gathers_none (g.D.Shown.view c.args.self.now.device) c.args.self.now.tables c.requires.sound.none_put_by;
}

pub ended-preserved : goal.ended-preserved
ended-preserved g c =
    let order : IsOrderly (g.D.Shown.view c.args.self.now.device) = c.shows_order.ensures.order in
    record {
      limits = c.take_ended.ensures.limits ∙ c.ended.invariant.limits;
      sound = c.take_ended.ensures.sound;
      few = c.take_ended.ensures.few;
      gathers = gathers_more (g.D.Shown.view c.args.self.now.device) (g.D.Shown.view c.ended.self.device) (g.D.Shown.view c.take_ended.new.self.device) c.args.self.now.tables c.ended.self.tables c.take_ended.new.self.tables
          c.ended.invariant.gathers c.ended-test.ensures.takes c.ended.invariant.sound.held c.ended.invariant.sound.apart order.places order.none_owed;
    }
