use Rattle.std.proofs.Common.{◌≡◌, ◌-◌, ◌≤◌}
use Rattle.trace_reader.specs.Known.{unlike_from}
use Rattle.trace_reader.proofs.known.Known.unlike.Given as goal

abbrev pub invariant-loop-k : goal.invariant-loop-k
invariant-loop-k l = record {
  low : l.k ≤ l.extent.count;
  same : unlike_from l.self l.extent l.bytes 0 l.extent.count ≡ unlike_from l.self l.extent l.bytes l.k (l.extent.count - l.k);
}
