use Rattle.std.proofs.Common.{subst}
use Rattle.std.specs.Prelude.{IfSome}
use Rattle.register_loss_search.specs.Searching.{Closes}
use Rattle.register_loss_judge.specs.inside.Covering.{InsertsAll}
use Rattle.register_loss_judge.specs.inside.States.{forms}
use Rattle.register_loss_judge.proofs.Inserting.{prunes}
use Rattle.register_loss_judge.proofs.closing.see.Goals as goal

pub returns : goal.returns
returns c = record {
  all = forms c.in-Some.all.items;
  closes = subst (λ fs. Closes fs (forms c.in-Some.all.items)) c.in_ok-behind.ensures
      (subst (λ o. IfSome o (λ all. Closes (forms c.in_ok-behind.behind.items) (forms all.items))) c.in-Some.is c.in_ok-all.ensures);
  prunes = prunes (forms c.in-Some.all.items) (forms c.insert_all.new.states.items)
      (subst (λ xs. InsertsAll (forms xs) (forms c.in-Some.all.items) (forms c.insert_all.new.states.items)) c.new-left.ensures.items c.in_ok-insert_all.ensures);
}
