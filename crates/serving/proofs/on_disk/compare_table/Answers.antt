use Rattle.serving.proofs.Common.{◌≡◌, ◌≢◌, List, map, subst, IfErr, OnOk, Extent, Partition, extent_of, extents_of, DiffersFrom}
use Rattle.serving.proofs.Putting.{bad_table, compared_differs, compared_other, compared_same, gives_none}
use Rattle.serving.proofs.on_disk.compare_table.Goals as goal

pub returns-in-Ok-clause-same : goal.returns-in-Ok-clause-same
returns-in-Ok-clause-same c =
    compared_same c.args.config.now.sectors c.args.sector.now (extents_of c.args.config.now) c.in-Ok.found.items c.in-Ok.ensures.answer c.compare.result
    (subst (λ (xs : List Extent). OnOk c.compare.result (xs ≡ extents_of c.args.config.now)) c.as_slice.ensures.value
    (subst (λ (ps : List Partition). OnOk c.compare.result (c.as_slice.result.now ≡ map extent_of ps)) c.as_slice-partitions.ensures.value c.compare.ensures.same))

pub returns-in-Ok-clause-other : goal.returns-in-Ok-clause-other
returns-in-Ok-clause-other c =
    compared_other c.args.config.now.sectors c.args.sector.now (extents_of c.args.config.now) c.in-Ok.found.items c.in-Ok.ensures.answer c.compare.result
    (subst (λ (xs : List Extent). IfErr c.compare.result (λ _. xs ≢ extents_of c.args.config.now)) c.as_slice.ensures.value
    (subst (λ (ps : List Partition). IfErr c.compare.result (λ _. c.as_slice.result.now ≢ map extent_of ps)) c.as_slice-partitions.ensures.value c.compare.ensures.other))

pub returns-in-Ok-clause-differs : goal.returns-in-Ok-clause-differs
returns-in-Ok-clause-differs c =
    compared_differs c.args.config.now.sectors c.args.sector.now (extents_of c.args.config.now) c.in-Ok.found.items c.in-Ok.ensures.answer c.args.config.now.partitions.items c.compare.result
    (subst (λ (xs : List Extent). IfErr c.compare.result (DiffersFrom xs c.args.config.now.partitions.items)) c.as_slice.ensures.value
    (subst (λ (ps : List Partition). IfErr c.compare.result (DiffersFrom c.as_slice.result.now ps)) c.as_slice-partitions.ensures.value c.compare.ensures.differs))

pub returns-in-Err-clause-other : goal.returns-in-Err-clause-other
returns-in-Err-clause-other c = gives_none c.args.config.now.sectors c.args.sector.now (extents_of c.args.config.now) c.in-Err.fault c.in-Err.ensures.answer

pub returns-in-Err-clause-differs : goal.returns-in-Err-clause-differs
returns-in-Err-clause-differs c = bad_table c.args.config.now.sectors c.args.sector.now (extents_of c.args.config.now) c.in-Err.fault c.args.config.now.partitions.items c.in-Err.ensures.answer
