-- What is kept by hand.
use Rattle.std.proofs.Common.{refl}
use Rattle.history_loss_kept.specs.Worked.{AreKeptByHand}

pub by_hand : AreKeptByHand
by_hand = record { loss = refl; loss_steady = refl; loss_elsewhere = refl; sync_session = refl; sync_sights = refl; read_session = refl; read_sights = refl; refusal = refl; refusal_fits = refl; reads_fit = refl }
