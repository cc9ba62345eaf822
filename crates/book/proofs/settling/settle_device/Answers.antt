use Rattle.book.proofs.Common.{subst, sym, DeviceLabel, FollowsDevice}
use Rattle.book.proofs.settling.settle_device.Goals as goal

pub returns-in-Start-clause-follows : goal.returns-in-Start-clause-follows
returns-in-Start-clause-follows g c =
    subst (λ (l : DeviceLabel). FollowsDevice c.args.traced.now.stack.adapter l c.args.journal.now c.arm_tag.new.journal) (sym c.in-Start.is) c.arm_tag.ensures.arms
