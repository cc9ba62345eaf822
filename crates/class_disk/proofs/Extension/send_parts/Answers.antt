-- One part after the other goes down.
use Rattle.class_disk.proofs.Common.{arith, books_of}
use Rattle.class_disk.proofs.AllSent.{none_sent, can_go_on, one_sent, all_sent}
use Rattle.class_disk.proofs.Standing.{rising}
use Rattle.class_disk.proofs.Extension.send_parts.Goals as goal

pub part_count-part-end-requires : goal.part_count-part-end-requires
part_count-part-end-requires g c = (c.requires.opening.o, c.requires.opening.is_open)

pub loop-part-init : goal.loop-part-init
loop-part-init g c = none_sent _ (books_of c.args.self.now.table) c.args.slot

pub send_part-requires-clause-can : goal.send_part-requires-clause-can
send_part-requires-clause-can g c =
    can_go_on _ (books_of c.args.self.now.table) c.args.slot c.requires.opening
    c.loop-part.part c.part_count-part-end.result c.part_count-part-end.ensures _ (books_of c.loop-part.self.table)
    (rising 0 c.loop-part.self.table.slots.slots) c.loop-part.invariant c.loop-part-test.true (c.loop-part.invariant.opening c.requires.opening).rooms_out.orderly

pub loop-part-preserved : goal.loop-part-preserved
loop-part-preserved g c =
    one_sent _ (books_of c.args.self.now.table) c.args.slot c.requires.opening
    c.loop-part.part c.part_count-part-end.result c.part_count-part-end.ensures _ (books_of c.loop-part.self.table)
    (rising 0 c.loop-part.self.table.slots.slots) c.loop-part.invariant c.loop-part-test.true (c.loop-part.invariant.opening c.requires.opening).rooms_out.orderly
    _ (books_of c.send_part.new.self.table) c.send_part.ensures

pub returns : goal.returns
returns g c = λ first labels so_far.
    all_sent _ (books_of c.args.self.now.table) c.args.slot c.requires.opening
    c.loop-part.part c.part_count-part-end.result c.part_count-part-end.ensures _ (books_of c.loop-part.self.table)
    (rising 0 c.loop-part.self.table.slots.slots) c.loop-part.invariant (omega arith) first labels so_far c.requires.opening
