use Rattle.stack_tests.proofs.Refusing.{reserved_below}
use Rattle.stack_tests.proofs.disks.ReluctantMedium.write.Goals as goal

pub write-requires-clause-reserved : goal.write-requires-clause-reserved
write-requires-clause-reserved g c = reserved_below c.args.self.now.refusals (g.M.Medium.view c.args.self.now.medium) c.args.extent c.requires.reserved
