use Rattle.disk.proofs.Looking.{met_there, met_nowhere}
use Rattle.disk.proofs.bad_list.BadList.meets.Goals as goal

pub first_from-next-requires : goal.first_from-next-requires
first_from-next-requires c = rw c.as_slice-bad.ensures.value c.args.self.now.rising

pub returns-then-next-bad : goal.returns-then-next-bad
returns-then-next-bad c = met_there _ _ c.args.extent _ c.as_slice-bad.ensures.value c.args.self.now.rising
    c.first_from-next.ensures.below c.first_from-next.ensures.from c.if-next-bad.true

pub returns-else-next-bad : goal.returns-else-next-bad
returns-else-next-bad c = met_nowhere _ _ c.args.extent _ c.as_slice-bad.ensures.value c.first_from-next.ensures.below c.if-next-bad.false
