-- What is shown by hand.
use Rattle.std.proofs.Common.{inl, inr, refl}
use Rattle.history_loss_shown.specs.Steady.{AllSynced}
use Rattle.history_loss_shown.specs.Worked.{AreShownByHand, cut_off}

none_synced : AllSynced cut_off → ⊥
none_synced (inl none, rest) = absurd (cc (none))
none_synced (inr some, rest) = absurd (cc (some))

pub by_hand : AreShownByHand
by_hand = record { shown = refl; steady = refl; elsewhere = refl; synced = (inr refl, tt); unsynced = none_synced }
