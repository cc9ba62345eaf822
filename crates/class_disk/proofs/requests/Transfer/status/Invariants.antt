use Rattle.class_disk.proofs.Common.{◌≡◌, drop, lowest_status}
use Rattle.class_disk.proofs.requests.Transfer.status.Given as goal

abbrev pub invariant-loop-part : goal.invariant-loop-part
invariant-loop-part l = lowest_status l.self.parts.items ≡ lowest_status (drop l.part-index l.part-items)
