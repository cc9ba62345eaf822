use Rattle.std.proofs.Common.{ℕ, replicate, ap, ◌∙◌}
use Rattle.disk.proofs.SparseShown.{blank_chunks, none_reserved}
use Rattle.disk.proofs.sparse_disk.SparseDisk.new.Goals as goal

pub returns-clause-blank : goal.returns-clause-blank
returns-clause-blank c =
    let chunks = c.new.result in
    record {
      size_is = c.new.ensures.size;
      zeros = blank_chunks chunks c.new.ensures.none
          ∙ (ap (λ n. replicate n (replicate {A = ℕ} chunks.sector_size 0)) c.new.ensures.count
          ∙ ap (λ n. replicate c.args.sectors (replicate {A = ℕ} n 0)) c.new.ensures.size);
      none_failed = c.new-2.ensures.none_failed;
    }

pub returns-clause-unreserved : goal.returns-clause-unreserved
returns-clause-unreserved c = none_reserved (record { chunks = c.new.result; bad = c.new-2.result }) c.new.ensures.none
