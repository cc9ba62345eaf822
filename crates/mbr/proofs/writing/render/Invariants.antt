use Rattle.std.proofs.Common.{◌≡◌, ◌+◌, ◌*◌, ◌++◌, length, take, replicate}
use Rattle.std.specs.List.{flat_map}
use Rattle.mbr.specs.Table.{entry_bytes}
use Rattle.mbr.proofs.writing.render.Given as goal

-- the entries so far stand behind the code
abbrev pub invariant-loop-kind : goal.invariant-loop-kind
invariant-loop-kind l = record {
  bytes : l.sector.items ≡ replicate 446 0 ++ flat_map entry_bytes (take l.kind-index l.entries);
  long : length l.sector.items ≡ 446 + 16 * l.kind-index;
}
