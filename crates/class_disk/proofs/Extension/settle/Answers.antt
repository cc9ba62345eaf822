-- Nothing that has ended waits below.
use Rattle.class_disk.proofs.AllSent.{none_handed}
use Rattle.class_disk.proofs.Extension.settle.Goals as goal

pub unreachable-requires : goal.unreachable-requires
unreachable-requires g c =
    let (first, labels, m) = c.requires in
    none_handed _ _ _ _ _ m.ended c.in-Some.ensures.hands_up
