use Rattle.std.proofs.Common.{rules, nat_lt, arith}
use Rattle.std.proofs.lemmas.Bool.{ltb-true, ltb-false}
use Rattle.std.proofs.lemmas.List.Sorted.{IsPartitionPoint-from_clause}
use Rattle.disk.proofs.Looking.{parted}
use Rattle.disk.proofs.bad_list.first_from.Goals as goal

pub returns : goal.returns
returns c =
    let point = IsPartitionPoint-from_clause (λ y. nat_lt y c.args.sector) _ _ c.partition_point.ensures.partitioned
    (parted _ c.args.sector c.requires) (λ a r q k. search rules) in
    record {
      below = λ k h. ltb-true _ _ (point.0 k 0 (omega arith) h);
      from = λ k h within. ltb-false _ _ (point.1 k 0 h within);
    }
