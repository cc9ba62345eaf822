-- Schedules by hand: a disk of two sectors of two bytes, which both hold `old` at first.
use Rattle.std.specs.Prelude.{◌≡◌, true, false, List, [], ◌∷◌, Some, None}
use Rattle.ntstatus.specs.declared.NtStatus.TheVariants.{Success, IoDeviceError}
use Rattle.srb.specs.declared.Kind.TheVariants.{Read, Write, Flush}
use Rattle.machine.specs.declared.ClientRequest.{ClientRequest}
use Rattle.machine.specs.declared.Label.TheVariants.{Call, Answer}
use Rattle.machine.specs.Rules.{Rules}
use Rattle.loss.specs.Held.{Held, surely}
use Rattle.loss.specs.Sessions.{Told, Lost, Ended}
use Rattle.loss.specs.Worked.{old, one, two, start}
use Rattle.history_loss.specs.Schedules.{Event, Seen, Effect, Fails, MayFollow, Takes, acted, answered, failed, next_number, shared_of}

abbrev pub small : Rules
small = record {
  sector_size = 2;
  disk_sectors = 2;
  partitions = (record { first = 0; count = 2 }) ∷ [];
  longest = 64;
  max_transfer = 1;
  depth = 1;
  open_requests = None;
  window = None;
  one_piece = false;
  busy_limit = 2;
  any_cut = true;
  faithful = false;
  keeps_bytes = true;
}

-- of sector 0
abbrev pub write : ClientRequest
write = record { partition = Some 0; kind = Write; offset = 0; length = 2; through = false; bytes = one }

-- and past volatile caches
abbrev pub through : ClientRequest
through = record write { through = true }

abbrev pub read : ClientRequest
read = record { partition = Some 0; kind = Read; offset = 0; length = 2; through = false; bytes = [] }

abbrev pub flush : ClientRequest
flush = record { partition = Some 0; kind = Flush; offset = 0; length = 0; through = false; bytes = [] }

-- `one` over `old`, before call 2
abbrev pub written : Held
written = record { now = one ∷ []; older = (record { value = old; behind = 2 }) ∷ [] }

pub record AreChangedByHand : Type 0 where
  -- a write has its effect on its own sector
  pub effect : acted small 2 1 write 0 0 start ≡ written
  pub elsewhere : acted small 2 1 write 0 1 start ≡ start
  pub secured : acted small 2 1 through 0 0 start ≡ surely one
  pub read_only : acted small 2 1 read 0 0 start ≡ start
  -- where it fails it may have had it, and past volatile caches all sectors are in doubt
  pub failure : failed small 2 write 0 0 start ≡ record { now = old ∷ one ∷ []; older = [] }
  pub failure_elsewhere : failed small 2 write 0 1 written ≡ written
  pub doubt : failed small 2 through 0 1 written ≡ record { now = one ∷ old ∷ []; older = [] }
  pub flush_doubt : failed small 2 flush 0 1 written ≡ record { now = one ∷ old ∷ []; older = [] }
  -- a flush that was called behind the write ends what it wrote over, once it is answered SUCCESS
  pub flushed : answered 3 2 Flush Success written ≡ surely one
  -- one that was called before the write had its effect doesn't, nor one that fails
  pub flushed_early : answered 3 1 Flush Success (acted small 3 2 write 0 0 start) ≡ acted small 3 2 write 0 0 start
  pub unflushed : answered 3 2 Flush IoDeviceError written ≡ written
  -- calls count up
  pub second : next_number (Effect 1 one ∷ Seen (Told (Call 1 write)) ∷ []) ≡ 2
  -- sectors share what clients saw and failures
  pub share : shared_of (Seen (Told (Call 1 write)) ∷ Fails 1 0 ∷ Effect 1 one ∷ Seen Lost ∷ []) ≡ Seen (Told (Call 1 write)) ∷ Fails 1 0 ∷ Seen Lost ∷ []

-- a write was answered SUCCESS, and a loss takes it back: `old` is read
abbrev pub taken_back : List Event
taken_back =
    Seen (Told (Call 1 write)) ∷ Effect 1 one ∷ Seen (Told (Answer 1 Success 2 [])) ∷ Seen Lost
    ∷ Seen (Told (Call 1 read)) ∷ Effect 1 old ∷ Seen (Told (Answer 1 Success 2 old)) ∷ []

-- a write is called, and power is lost before its answer: it may have been on the medium
abbrev pub cut_off : List Event
cut_off = Seen (Told (Call 1 write)) ∷ Fails 1 0 ∷ Seen Lost ∷ Seen (Told (Call 1 read)) ∷ Effect 1 one ∷ []

pub record AreScheduledByHand : Type 0 where
  pub taken_back : MayFollow small 0 [] start taken_back
  pub cut_off : MayFollow small 0 [] start cut_off

pub record AreRefutedByHand : Type 0 where
  -- a loss takes back nothing that was flushed, nor the end of the process anything that was written
  pub flushed : Takes small 0 [] (surely one) (Seen Lost) (surely old) → ⊥
  pub ended : Takes small 0 [] written (Seen Ended) (surely old) → ⊥
  -- a read gives what stands there
  pub stale : (h' : Held) → Takes small 0 (Seen (Told (Call 1 read)) ∷ []) (surely one) (Effect 1 old) h' → ⊥
  -- a write writes its own bytes
  pub other : (h' : Held) → Takes small 0 (Seen (Told (Call 1 write)) ∷ []) start (Effect 1 two) h' → ⊥
  -- what wasn't called has no effect, nor a second one, nor one where it failed
  pub uncalled : (h' : Held) → Takes small 0 [] start (Effect 1 one) h' → ⊥
  pub twice : (h' : Held) → Takes small 0 (Effect 1 one ∷ Seen (Told (Call 1 write)) ∷ []) written (Effect 1 one) h' → ⊥
  pub failed : (h' : Held) → Takes small 0 (Fails 1 0 ∷ Seen (Told (Call 1 write)) ∷ []) start (Effect 1 one) h' → ⊥
  -- an answer SUCCESS tells of an effect
  pub unwritten : (h' : Held) → Takes small 0 (Seen (Told (Call 1 write)) ∷ []) start (Seen (Told (Answer 1 Success 2 []))) h' → ⊥
  -- and of a flush that nothing older is left
  pub unflushed : Takes small 0 (Seen (Told (Call 2 flush)) ∷ []) written (Seen (Told (Answer 2 Success 0 []))) written → ⊥
  -- one that failed is not answered so
  pub failed_flush : (h' : Held) → Takes small 0 (Fails 2 0 ∷ Seen (Told (Call 2 flush)) ∷ []) start (Seen (Told (Answer 2 Success 0 []))) h' → ⊥
