-- What is kept, by hand: a disk of two sectors of two bytes.
use Rattle.std.specs.Prelude.{◌≡◌, true, false, List, [], ◌∷◌, None}
use Rattle.ntstatus.specs.declared.NtStatus.TheVariants.{Success, InvalidHandle, IoDeviceError}
use Rattle.machine.specs.declared.ClientRequest.{ClientRequest}
use Rattle.machine.specs.declared.Label.TheVariants.{Call, Answer}
use Rattle.loss.specs.Sessions.{Line, Told, Lost}
use Rattle.loss.specs.Worked.{old}
use Rattle.history_loss.specs.Worked.{flush, read, small, through, write}
use Rattle.history_loss_fits.specs.Laws.{labels_fit}
use Rattle.register_loss.specs.declared.What.TheVariants.{Read as Reads, Write as Writes, Flush as Flushes, Sync}
use Rattle.register_loss.specs.declared.Sight.{Sight}
use Rattle.register_loss.specs.declared.Sight.TheVariants.{Call as CallSight, Done, Failed, Lost as LostSight}
use Rattle.history_loss_shown.specs.Worked.{cut_off, first_byte}
use Rattle.history_loss_kept.specs.declared.Wait.TheVariants.{Known, Awaits}
use Rattle.history_loss_kept.specs.declared.Outcome.TheVariants.{Open, Done as IsDone, Failed as HasFailed}
use Rattle.history_loss_kept.specs.declared.Shared.TheVariants.{Call as SharedCall, End}
use Rattle.history_loss_kept.specs.Kept.{Session, kept_of, known, nothing_kept}

-- a flush is called before a write past volatile caches of sector 0, and both succeed, the write first
abbrev pub overlapped : List Line
overlapped = Told (Call 1 flush) ∷ Told (Call 2 through) ∷ Told (Answer 2 Success 2 []) ∷ Told (Answer 1 Success 0 []) ∷ []

-- a read fails, another succeeds behind a flush that is called later, a third is open yet
abbrev pub three_reads : List Line
three_reads =
    Told (Call 1 read) ∷ Told (Answer 1 IoDeviceError 0 []) ∷ Told (Call 2 read) ∷ Told (Call 3 flush) ∷ Told (Answer 3 Success 0 [])
    ∷ Told (Answer 2 Success 2 old) ∷ Told (Call 4 read) ∷ []

-- a flush of no partition is refused, behind a write
abbrev pub refused : List Line
refused = Told (Call 1 write) ∷ Told (Call 2 (record flush { partition = None })) ∷ Told (Answer 2 InvalidHandle 0 []) ∷ []

abbrev pub overlapped_session : Session
overlapped_session = record {
  shared = SharedCall 1 true IsDone ∷ SharedCall 2 false IsDone ∷ End 2 true ∷ End 1 true ∷ [];
  own = (record { behind = 2; wait = Known (CallSight 2 (Writes 1 true)) }) ∷ [];
}

abbrev pub reads_session : Session
reads_session = record {
  shared = SharedCall 3 true IsDone ∷ End 3 true ∷ [];
  own = record { behind = 0; wait = Known (CallSight 2 (Reads 9)) } ∷ record { behind = 2; wait = Known (Done 2) } ∷ record { behind = 2; wait = Awaits 4 0 } ∷ [];
}

pub record AreKeptByHand : Type 0 where
  -- behind a loss sector 0 sees nothing alone; that session is left out
  pub loss : known true (kept_of first_byte true small 0 nothing_kept cut_off)
      ≡ CallSight 1 Sync ∷ CallSight 1 (Writes 1 true) ∷ CallSight 2 Flushes ∷ Failed 2 ∷ LostSight ∷ []
  -- and syncs that do not succeed
  pub loss_steady : known false (kept_of first_byte false small 0 nothing_kept cut_off) ≡ CallSight 1 (Writes 1 true) ∷ Failed 2 ∷ LostSight ∷ []
  -- sector 1 sees nothing alone
  pub loss_elsewhere : known true (kept_of first_byte true small 1 nothing_kept cut_off) ≡ []
  -- what is kept of one session; the write that succeeds is seen as no sync
  pub sync_session : (kept_of first_byte true small 0 nothing_kept overlapped).session ≡ overlapped_session
  pub sync_sights : known true (kept_of first_byte true small 0 nothing_kept overlapped) ≡ CallSight 1 Flushes ∷ CallSight 2 (Writes 1 true) ∷ Done 2 ∷ Done 1 ∷ []
  -- each at its place; of a read that fails nothing, nor of one that is open
  pub read_session : (kept_of first_byte true small 0 nothing_kept three_reads).session ≡ reads_session
  pub read_sights : known true (kept_of first_byte true small 0 nothing_kept three_reads) ≡ CallSight 2 (Reads 9) ∷ CallSight 3 Flushes ∷ Done 3 ∷ Done 2 ∷ []
  -- a refused sync is one that fails
  pub refusal : known true (kept_of first_byte true small 0 nothing_kept refused) ≡ CallSight 1 (Writes 1 false) ∷ CallSight 2 Flushes ∷ Failed 2 ∷ []
  -- these histories fit
  pub refusal_fits : labels_fit small (None ∷ []) None refused ≡ true
  pub reads_fit : labels_fit small (None ∷ []) None three_reads ≡ true
