use Rattle.class_disk.proofs.PartsLeft.{left_same, left_first}
use Rattle.class_disk.proofs.buffers.carried_up.Goals as goal

pub returns-then-lent-clause-left : goal.returns-then-lent-clause-left
returns-then-lent-clause-left c = left_first c.args.parts.now c.index-parts-0.result c.give_back.new.self (c.requires.some c.if-lent.true) c.give_back.ensures.left

pub returns-clause-left : goal.returns-clause-left
returns-clause-left c = left_same c.args.parts.now
