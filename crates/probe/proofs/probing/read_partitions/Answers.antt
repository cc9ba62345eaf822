-- The bytes that were read are those of sector 0.
use Rattle.std.proofs.Common.{ℕ, ◌∙◌, Ok, Err, subst}
use Rattle.machine.specs.Map.{IsMap}
use Rattle.probe.proofs.Reading.{told_of}
use Rattle.probe.proofs.probing.read_partitions.Goals as goal

pub returns-in-Ok-clause-partitions : goal.returns-in-Ok-clause-partitions
returns-in-Ok-clause-partitions g c = record {
  told = told_of (g.A.Adapter.view c.args.adapter.now) c.as_slice.result.now c.args.capacity.sectors (Ok c.in-Ok.partitions.items)
      (c.as_slice.ensures ∙ c.in_ok-table.ensures.brings) c.requires.capacity.sectors c.in-Ok.ensures.answer;
  is_map = subst (λ (n : ℕ). IsMap n c.in-Ok.partitions.items) c.requires.capacity.sectors c.in-Ok.ensures.map;
}

pub returns-clause-fault : goal.returns-clause-fault
returns-clause-fault g c = (
  c.in_ok-table.ensures.exchanged,
  told_of (g.A.Adapter.view c.args.adapter.now) c.as_slice.result.now c.args.capacity.sectors (Err c.in-Err.fault)
      (c.as_slice.ensures ∙ c.in_ok-table.ensures.brings) c.requires.capacity.sectors c.in-Err.ensures.answer,
)
