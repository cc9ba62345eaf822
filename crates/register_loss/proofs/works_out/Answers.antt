use Rattle.register_loss.proofs.Working.{are_refuted, are_scheduled, by_hand}
use Rattle.register_loss.proofs.works_out.Goals as goal

pub returns : goal.returns
returns c = record { changes = by_hand; scheduled = are_scheduled; refuted = are_refuted }
