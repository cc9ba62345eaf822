use Rattle.std.proofs.Common.{◌∙◌, All, List, arith, refl, subst, sym}
use Rattle.std.proofs.lemmas.List.{append-nil}
use Rattle.miniport.specs.declared.recorded.Recorded.{Recorded}
use Rattle.miniport.specs.inside.Recorded.{IsTellable}
use Rattle.miniport.proofs.Recording.{all_so_far, one_more_told, tellable_so_far}
use Rattle.miniport.proofs.recorded.tell_all.Goals as goal

pub loop-init : goal.loop-init
loop-init c = record { labels = sym (append-nil c.args.labels.now.items); many = refl; room = refl }

pub tell_first-requires : goal.tell_first-requires
tell_first-requires c = subst (λ (labels : List Recorded). All (IsTellable c.args.slots.now) labels) (sym c.loop.invariant.labels)
    (tellable_so_far c.args.slots.now c.args.labels.now.items c.loop.counter c.requires)

pub loop-preserved : goal.loop-preserved
loop-preserved c = record {
  labels = one_more_told c.args.slots.now c.args.labels.now.items c.loop.labels.items c.tell_first.new.labels.items c.loop.counter
      (omega (arith, c.loop-test.true, c.len-end.ensures, c.args.labels.now.ok.0)) c.loop.invariant.labels c.tell_first.ensures.first;
  many = c.tell_first.ensures.many ∙ c.loop.invariant.many;
  room = c.tell_first.ensures.room ∙ c.loop.invariant.room;
}

pub returns-clause-labels : goal.returns-clause-labels
returns-clause-labels c = c.loop.invariant.labels
    ∙ all_so_far c.args.slots.now c.args.labels.now.items c.loop.counter (omega (arith, c.loop-test.false, c.loop.auto.counter-end, c.len-end.ensures, c.args.labels.now.ok.0))

pub returns-clause-room : goal.returns-clause-room
returns-clause-room c = c.loop.invariant.room
