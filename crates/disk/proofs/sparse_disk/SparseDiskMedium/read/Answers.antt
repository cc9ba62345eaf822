use Rattle.std.proofs.Common.{ap, ◌∙◌}
use Rattle.disk.specs.SparseDisk.{shown}
use Rattle.disk.proofs.SparseShown.{reads_sectors, within_chunks}
use Rattle.disk.proofs.sparse_disk.SparseDiskMedium.read.Goals as goal

pub read-requires-clause-within : goal.read-requires-clause-within
read-requires-clause-within c = within_chunks c.args.self.now c.args.extent c.requires.within

pub returns-clause-reads : goal.returns-clause-reads
returns-clause-reads c =
    let disk = c.args.self.now in
    record {
      bytes_are = c.read.ensures ∙ reads_sectors disk c.args.extent c.requires.within;
      after = ap (λ bad. record (shown disk) { bad = bad.sectors.items; failures = bad.failures }) c.in_ok-check.ensures.passes;
    }
