use Rattle.volume.specs.inside.Written.{HasAll}
use Rattle.volume.proofs.written.insert_all.Given as goal

abbrev pub invariant-loop-chunk : goal.invariant-loop-chunk
invariant-loop-chunk l = HasAll l.initial.chunks l.first l.chunk l.chunks
