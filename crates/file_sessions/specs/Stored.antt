-- What a file keeps of the calls that are made of it. This is the premise about a file, and all of it.
use Rattle.std.specs.Prelude.{◌≡◌, ◌<◌, ℕ, ◌+◌, ◌-◌, ◌/◌, ◌%◌, List, [], ◌∷◌, length, Some, None, Result, Ok, Err, if◌then◌else◌}
use Rattle.sector.specs.declared.Extent.{Extent}
use Rattle.file_disk.specs.declared.storage.Failure.{Failure}
use Rattle.file_disk.specs.declared.storage.Failure.TheVariants.{Failed}
use Rattle.file_disk.specs.Calls.{Call, ReadAt, WriteAt, Sync}
use Rattle.loss.specs.Held.{Held, Puts, Tries, Doubts, IsOneOf, changed, has, left, sector_in, surely}

-- what each sector holds, by its number
abbrev pub Content : Type 0
Content = ℕ → List ℕ

-- ONE CALL

-- the number of bytes that a write took
abbrev pub taken : Result ℕ Failure → ℕ
taken (Ok count) = count
taken (Err why) = 0

-- whole sectors from a byte on
abbrev pub sectors_from : ℕ → ℕ → ℕ → Extent
sectors_from size at count = record { first = at / size; count = count / size }

-- sector i after a write was told these bytes: those that it took are there, and the others may be
abbrev pub told : ℕ → ℕ → ℕ → List ℕ → ℕ → Held → Held
told size i at bytes took h =
    if has (sectors_from size at (length bytes)) i
    then (if has (sectors_from size at took) i then changed 0 (Puts (sector_in size (i - at / size) bytes)) h else changed 0 (Tries (sector_in size (i - at / size) bytes)) h)
    else h

-- what reads give is certain
abbrev pub synced : Held → Held
synced h = record { now = h.now; older = [] }

-- sector i after a call. Behind a sync that failed nothing is certain that was not before: Linux counts the pages that it lost as
-- written, and the next sync succeeds
abbrev pub after_call : ℕ → ℕ → Call → Held → Held
after_call size i (ReadAt at count gave) h = h
after_call size i (WriteAt at bytes took) h = told size i at bytes (taken took) h
after_call size i (Sync None) h = synced h
after_call size i (Sync (Some why)) h = changed 0 Doubts h

-- a call that was under way, as it may have come out: a write may have put what it was told, a sync may have failed
abbrev pub under_way : Call → Call
under_way (ReadAt at count gave) = ReadAt at count (Err Failed)
under_way (WriteAt at bytes took) = WriteAt at bytes (Err Failed)
under_way (Sync fault) = Sync (Some Failed)

-- MANY

-- sector i, that held this at first, after these calls, of which the newest stands first
abbrev pub held : ℕ → ℕ → List ℕ → List Call → Held
held size i first [] = surely first
held size i first (call ∷ calls) = after_call size i call (held size i first calls)

-- power was lost behind these calls: each sector holds what it may, whatever the others hold, and none is torn
abbrev pub Survives : ℕ → ℕ → Content → List Call → Content → Type 0
Survives size sectors before calls after = (i : ℕ) → i < sectors → IsOneOf (after i) (left (held size i (before i) calls))

-- the process ended behind them, and its system went on: each sector holds what a read might have given
abbrev pub Remains : ℕ → ℕ → Content → List Call → Content → Type 0
Remains size sectors before calls after = (i : ℕ) → i < sectors → IsOneOf (after i) (held size i (before i) calls).now

-- a read of whole sectors gives of each what it may hold
pub record IsGiven (size : ℕ) (before : Content) (calls : List Call) (at : ℕ) (gave : List ℕ) : Type 0 where
  pub whole : length gave % size ≡ 0
  pub each : (k : ℕ) → k < length gave / size → IsOneOf (sector_in size k gave) (held size (at / size + k) (before (at / size + k)) calls).now

-- a read gives what it may, and a write takes whole sectors
abbrev pub KeepsTo : ℕ → Content → List Call → Call → Type 0
KeepsTo size before calls (ReadAt at count (Ok gave)) = IsGiven size before calls at gave
KeepsTo size before calls (ReadAt at count (Err why)) = Unit {0}
KeepsTo size before calls (WriteAt at bytes took) = taken took % size ≡ 0
KeepsTo size before calls (Sync fault) = Unit {0}

-- each call did so
abbrev pub IsKept : ℕ → Content → List Call → Type 0
IsKept size before [] = Unit {0}
IsKept size before (call ∷ calls) = KeepsTo size before calls call × IsKept size before calls
