use Rattle.serving.proofs.Common.{◌≡◌, ◌≢◌, ℕ, List, Ok, subst, told_by, extents_of, Differs}
use Rattle.serving.proofs.on_disk.checked_table.Goals as goal

pub returns-in-Ok-clause-told : goal.returns-in-Ok-clause-told
returns-in-Ok-clause-told g c =
    subst (λ (bytes : List ℕ). told_by c.args.config.now.sectors bytes ≡ Ok (extents_of c.args.config.now)) c.as_slice.ensures.value c.in-Ok.ensures.same

pub returns-in-Err-clause-fault : goal.returns-in-Err-clause-fault
returns-in-Err-clause-fault g c = record {
  table = c.in_ok-sector.sector.items;
  long = c.in_ok-sector.ensures.long;
  reads = c.in_ok-sector.ensures.reads;
  other =
      subst (λ (bytes : List ℕ). told_by c.args.config.now.sectors bytes ≢ Ok (extents_of c.args.config.now)) c.as_slice.ensures.value c.in-Err.ensures.other;
  differs =
      subst (λ (bytes : List ℕ). Differs (told_by c.args.config.now.sectors bytes) c.args.config.now.partitions.items c.in-Err.difference) c.as_slice.ensures.value c.in-Err.ensures.differs;
}
