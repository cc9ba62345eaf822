-- What a file holds behind some calls, by hand: sectors of two bytes.
use Rattle.std.specs.Prelude.{◌≡◌, ℕ, List, [], ◌∷◌, Some, None, Ok, Err}
use Rattle.file_disk.specs.declared.storage.Failure.TheVariants.{Failed}
use Rattle.file_disk.specs.Calls.{Call, ReadAt, WriteAt, Sync}
use Rattle.loss.specs.Held.{Held, IsOneOf, left, surely}
use Rattle.file_sessions.specs.Stored.{KeepsTo, Survives, held, under_way}

abbrev pub old : List ℕ
old = 9 ∷ 9 ∷ []

abbrev pub one : List ℕ
one = 1 ∷ 1 ∷ []

abbrev pub two : List ℕ
two = 2 ∷ 2 ∷ []

-- sectors 4 and 5 are written, and all is taken
abbrev pub write : Call
write = WriteAt 8 (1 ∷ 1 ∷ 2 ∷ 2 ∷ []) (Ok 4)

-- the first of them is
abbrev pub short : Call
short = WriteAt 8 (1 ∷ 1 ∷ 2 ∷ 2 ∷ []) (Ok 2)

abbrev pub failed : Call
failed = WriteAt 8 (1 ∷ 1 ∷ 2 ∷ 2 ∷ []) (Err Failed)

abbrev pub sync : Call
sync = Sync None

abbrev pub failed_sync : Call
failed_sync = Sync (Some Failed)

-- sector i, which held `old`, behind these calls, of which the newest stands first
abbrev pub behind : ℕ → List Call → Held
behind i calls = held 2 i old calls

pub record AreHeldByHand : Type 0 where
  -- what was written is read, and each sector has its own bytes
  pub first : (behind 4 (write ∷ [])).now ≡ one ∷ []
  pub second : (behind 5 (write ∷ [])).now ≡ two ∷ []
  -- a loss may take it back
  pub unsynced : left (behind 4 (write ∷ [])) ≡ one ∷ old ∷ []
  -- no other sector changes
  pub before : behind 3 (write ∷ []) ≡ surely old
  pub after : behind 6 (write ∷ []) ≡ surely old
  -- what a sync finds is certain
  pub certain : behind 4 (sync ∷ write ∷ []) ≡ surely one
  -- of a write that took less, the rest may be there or not, also behind a sync
  pub taken : (behind 4 (short ∷ [])).now ≡ one ∷ []
  pub rest : (behind 5 (short ∷ [])).now ≡ old ∷ two ∷ []
  pub rest_synced : left (behind 5 (sync ∷ short ∷ [])) ≡ old ∷ two ∷ []
  -- so it is with one that failed, and with one that was under way
  pub write_failed : (behind 4 (failed ∷ [])).now ≡ old ∷ one ∷ []
  pub write_cut : behind 4 (under_way write ∷ []) ≡ behind 4 (failed ∷ [])
  -- behind a sync that failed reads may give what a loss would have left; the next sync makes none of it certain
  pub doubted : (behind 4 (failed_sync ∷ write ∷ [])).now ≡ one ∷ old ∷ []
  pub doubted_synced : left (behind 4 (sync ∷ failed_sync ∷ write ∷ [])) ≡ one ∷ old ∷ []
  -- until it is written again
  pub mended : behind 4 (sync ∷ write ∷ failed_sync ∷ write ∷ []) ≡ surely one
  -- a sync under way may have failed
  pub sync_cut : behind 4 (under_way sync ∷ write ∷ []) ≡ behind 4 (failed_sync ∷ write ∷ [])
  -- reads change nothing
  pub read : behind 4 (ReadAt 8 2 (Ok one) ∷ write ∷ []) ≡ behind 4 (write ∷ [])

-- a disk of eight sectors that held `old`
abbrev pub all : List ℕ → ℕ → List ℕ
all value i = value

pub record AreLeftByHand : Type 0 where
  -- a loss may leave the one sector and take the other back
  pub apart : IsOneOf one (left (behind 4 (write ∷ []))) × IsOneOf old (left (behind 5 (write ∷ [])))
  -- it leaves no half of one
  pub torn : IsOneOf (1 ∷ 9 ∷ []) (left (behind 4 (write ∷ []))) → ⊥
  -- nor what was written before a sync
  pub synced_gone : Survives 2 8 (all old) (sync ∷ write ∷ []) (all old) → ⊥
  -- nor does a read give it
  pub read_old : KeepsTo 2 (all old) (write ∷ []) (ReadAt 8 2 (Ok old)) → ⊥
  -- a write takes no half of a sector
  pub half : KeepsTo 2 (all old) [] (WriteAt 8 (1 ∷ 1 ∷ 2 ∷ 2 ∷ []) (Ok 3)) → ⊥
