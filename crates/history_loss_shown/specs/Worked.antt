-- What a sector shows where a sync does not succeed, by hand: a disk of two sectors of two bytes.
use Rattle.std.specs.Prelude.{◌≡◌, ℕ, true, List, [], ◌∷◌}
use Rattle.ntstatus.specs.declared.NtStatus.TheVariants.{Success, IoDeviceError}
use Rattle.machine.specs.declared.Label.TheVariants.{Call, Answer}
use Rattle.loss.specs.Sessions.{Line, Told, Lost}
use Rattle.history_loss.specs.Worked.{flush, small, through}
use Rattle.register_loss.specs.declared.What.TheVariants.{Write as Writes, Flush as Flushes, Sync}
use Rattle.register_loss.specs.declared.Sight.{Sight}
use Rattle.register_loss.specs.declared.Sight.TheVariants.{Call as CallSight, Elsewhere, Done, Failed, Lost as LostSight}
use Rattle.history_loss_sights.specs.Sights.{sights_of}
use Rattle.history_loss_shown.specs.Steady.{AllSynced, steady_sights_of}

abbrev pub first_byte : List ℕ → ℕ
first_byte [] = 0
first_byte (byte ∷ bytes) = byte

-- in the second session a flush succeeds
abbrev pub later : List Line
later = Told (Call 1 flush) ∷ Told (Answer 1 Success 0 []) ∷ []

-- a write past volatile caches, of sector 0, is cut off by a loss, and a flush fails
abbrev pub cut_off : List Line
cut_off = Told (Call 1 through) ∷ Told (Call 2 flush) ∷ Told (Answer 2 IoDeviceError 0 []) ∷ Lost ∷ later

abbrev pub later_sights : List Sight
later_sights = Elsewhere 1 ∷ CallSight 1 Flushes ∷ Done 1 ∷ []

pub record AreShownByHand : Type 0 where
  pub shown : sights_of first_byte small 0 cut_off
      ≡ Elsewhere 1 ∷ CallSight 1 Sync ∷ CallSight 1 (Writes 1 true) ∷ Elsewhere 2 ∷ CallSight 2 Flushes ∷ Failed 2 ∷ LostSight ∷ later_sights
  -- both syncs are left out, and the write is not
  pub steady : steady_sights_of first_byte small 0 cut_off ≡ Elsewhere 1 ∷ CallSight 1 (Writes 1 true) ∷ Elsewhere 2 ∷ Failed 2 ∷ LostSight ∷ later_sights
  -- sector 1 shows no write
  pub elsewhere : steady_sights_of first_byte small 1 cut_off ≡ Elsewhere 1 ∷ Elsewhere 2 ∷ Failed 2 ∷ LostSight ∷ later_sights
  pub synced : AllSynced later
  pub unsynced : AllSynced cut_off → ⊥
