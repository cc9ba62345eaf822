use Rattle.volume.proofs.Common.{◌≡◌, ℕ, ◌+◌, ◌∙◌, ap, subst, sym, IsReadBy, asked_by_probe}
use Rattle.probe.specs.Exchange.{IsSameDisk}
use Rattle.volume.proofs.Starting.{content_at_start, none_at_start, ready_at_start, refused_of}
use Rattle.volume.proofs.volume.Volume.start.Goals as goal

pub open-requires : goal.open-requires
open-requires g c = record {
  ready = ready_at_start (g.A.Adapter.view c.args.adapter) c.args.settings c.sector_size-size.ensures.order c.requires.faithful c.in-Ok.stack c.in-Ok.ensures.view;
}

pub returns-in-Ok-open-clause-content : goal.returns-in-Ok-open-clause-content
returns-in-Ok-open-clause-content g c = record {
  partitions = c.in-Ok.ensures.view.partitions;
  told = c.in-Ok.ensures.view.told;
  content =
      c.in-Ok-open.ensures.content
      ∙ content_at_start (g.A.Adapter.view c.args.adapter) c.args.settings c.sector_size-size.ensures.order c.requires.faithful c.in-Ok.stack c.in-Ok.ensures.view c.args.partition;
}

pub returns-in-Err-open-clause-fault : goal.returns-in-Err-open-clause-fault
returns-in-Err-open-clause-fault g c =
    let same : g.A.Adapter.view c.into_adapter.result ≡ c.in-Ok.stack.adapter = c.into_adapter.ensures ∙ c.in-Err-open.ensures.adapter in (
      refused_of (g.A.Adapter.view c.args.adapter) c.args.settings c.sector_size-size.ensures.order c.requires.faithful c.in-Ok.stack c.in-Ok.ensures.view c.args.partition c.in-Err-open.why.reason
          c.in-Err-open.ensures.why,
      subst (IsSameDisk (asked_by_probe (g.A.Adapter.view c.args.adapter)) (g.A.Adapter.view c.args.adapter)) (sym same) c.in-Ok.ensures.view.same_disk,
      subst (IsReadBy (g.A.Adapter.view c.args.adapter)) (sym same) c.in-Ok.ensures.view.read,
    )

pub returns-in-Ok-open-clause-handles : goal.returns-in-Ok-open-clause-handles
returns-in-Ok-open-clause-handles g c =
    c.in-Ok-open.ensures.handles
    ∙ ap (λ (n : ℕ). n + 1) (none_at_start (g.A.Adapter.view c.args.adapter) c.args.settings c.sector_size-size.ensures.order c.requires.faithful c.in-Ok.stack c.in-Ok.ensures.view)
