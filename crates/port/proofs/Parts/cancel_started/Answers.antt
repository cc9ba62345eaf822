use Rattle.std.proofs.Common.{◌∙◌, ap, refl, arith, length}
use Rattle.port.specs.inside.TableView.{TableView, books_of}
use Rattle.port.proofs.Marking.{none_started, cancels_first, none_to_here}
use Rattle.port.proofs.Parts.cancel_started.Goals as goal

pub loop-tag-init : goal.loop-tag-init
loop-tag-init g c = record { adapter = refl; visits = refl; queues = refl; none = λ lower below here. absurd (omega arith) }

pub cancel_on_tag-requires : goal.cancel_on_tag-requires
cancel_on_tag-requires g c =
    let e = ap (λ (b : TableView). length b.started) c.loop-tag.invariant.queues in
    let k = c.requires.1.kept.started in
    omega arith

pub returns-then-cancel_on_tag-clause-adapter : goal.returns-then-cancel_on_tag-clause-adapter
returns-then-cancel_on_tag-clause-adapter g c = c.cancel_on_tag.ensures.adapter ∙ c.loop-tag.invariant.adapter

pub returns-then-cancel_on_tag-clause-cancels : goal.returns-then-cancel_on_tag-clause-cancels
returns-then-cancel_on_tag-clause-cancels g c = (c.loop-tag.tag, cancels_first _ _ _ _ _ _ _ c.loop-tag.invariant.queues c.loop-tag.invariant.adapter c.if-cancel_on_tag.ensures.cancels)

pub loop-tag-preserved : goal.loop-tag-preserved
loop-tag-preserved g c = record {
  adapter = c.cancel_on_tag.ensures.adapter ∙ c.loop-tag.invariant.adapter;
  visits = c.cancel_on_tag.ensures.visits ∙ c.loop-tag.invariant.visits;
  queues = c.if-cancel_on_tag.ensures.cancels.same ∙ c.loop-tag.invariant.queues;
  none = none_to_here _ _ _ _ _ _ _ c.loop-tag.invariant.queues c.loop-tag.invariant.adapter c.if-cancel_on_tag.ensures.cancels c.loop-tag.invariant.none;
}

pub returns-clause-adapter : goal.returns-clause-adapter
returns-clause-adapter g c = c.loop-tag.invariant.adapter

pub returns-clause-cancels : goal.returns-clause-cancels
returns-clause-cancels g c = none_started (books_of c.args.self.now.queues) _ (g.A.Adapter.view c.args.self.now.adapter) _ _ c.loop-tag.tag c.requires.1 (omega arith) c.loop-tag.invariant.none c.loop-tag.invariant.queues

pub returns-then-cancel_on_tag-clause-visits : goal.returns-then-cancel_on_tag-clause-visits
returns-then-cancel_on_tag-clause-visits g c = c.cancel_on_tag.ensures.visits ∙ c.loop-tag.invariant.visits

pub returns-clause-visits : goal.returns-clause-visits
returns-clause-visits g c = c.loop-tag.invariant.visits
