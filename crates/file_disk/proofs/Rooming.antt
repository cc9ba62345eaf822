-- What calls tell of the room in a storage.
use Rattle.std.proofs.Common.{◌≡◌, ℕ, Bool, List, [], ◌∷◌, ◌++◌, length, Result, Ok, Err, refl, sym, ap, ◌∙◌, append_assoc}
use Rattle.srb.specs.declared.Completion.{Completion}
use Rattle.file_disk.specs.declared.storage.Failure.{Failure}
use Rattle.file_disk.specs.declared.storage.Failure.TheVariants.{Protected, Full, Failed}
use Rattle.file_disk.specs.Calls.{Call, ReadAt, WriteAt, Sync, Reads, ReadsAll, Since, StopsReading, StopsWriting, Writes, WritesAll}
use Rattle.file_disk.specs.Noting.{full_behind}
use Rattle.file_disk.specs.Transfers.{Syncs, full_after}

-- reads tell nothing of it
reads_tell : (was : Bool) (offset count : ℕ) (got : List ℕ) (calls : List Call) → Reads offset count got calls → was ≡ full_after was calls
reads_tell was offset count got [] h = refl
reads_tell was offset count got (ReadAt at asked (Ok gave) ∷ calls) h = reads_tell was offset count h.0 calls h.4
reads_tell was offset count got (ReadAt at asked (Err why) ∷ calls) h = absurd h
reads_tell was offset count got (WriteAt at bytes took ∷ calls) h = absurd h
reads_tell was offset count got (Sync fault ∷ calls) h = absurd h

stops_tell : (was : Bool) (offset count : ℕ) (why : Failure) (calls : List Call) → StopsReading offset count why calls → was ≡ full_after was calls
stops_tell was offset count why [] h = absurd h
stops_tell was offset count why (ReadAt at asked gave ∷ calls) h = reads_tell was offset count h.0 calls h.4
stops_tell was offset count why (WriteAt at bytes took ∷ calls) h = absurd h
stops_tell was offset count why (Sync fault ∷ calls) h = absurd h

-- nor do writes that were taken
writes_tell : (was : Bool) (offset : ℕ) (bytes : List ℕ) (taken : ℕ) (calls : List Call) → Writes offset bytes taken calls → was ≡ full_after was calls
writes_tell was offset bytes taken [] h = refl
writes_tell was offset bytes taken (WriteAt at told (Ok took) ∷ calls) h = writes_tell was offset bytes h.0 calls h.4
writes_tell was offset bytes taken (WriteAt at told (Err why) ∷ calls) h = absurd h
writes_tell was offset bytes taken (ReadAt at asked gave ∷ calls) h = absurd h
writes_tell was offset bytes taken (Sync fault ∷ calls) h = absurd h

-- one that failed tells by why it did
refused_tells : (was : Bool) (offset : ℕ) (bytes : List ℕ) (why : Failure) (calls : List Call) → StopsWriting offset bytes why calls → full_behind was why ≡ full_after was calls
refused_tells was offset bytes why [] h = absurd h
refused_tells was offset bytes why (WriteAt at told (Ok took) ∷ calls) h = ap (full_behind was) h.3.1 ∙ writes_tell was offset bytes h.0 calls h.4
refused_tells was offset bytes why (WriteAt at told (Err Full) ∷ calls) h = ap (full_behind was) h.3
refused_tells was offset bytes why (WriteAt at told (Err Protected) ∷ calls) h = ap (full_behind was) h.3
refused_tells was offset bytes why (WriteAt at told (Err Failed) ∷ calls) h = ap (full_behind was) h.3 ∙ writes_tell was offset bytes h.0 calls h.4
refused_tells was offset bytes why (ReadAt at asked gave ∷ calls) h = absurd h
refused_tells was offset bytes why (Sync fault ∷ calls) h = absurd h

module _ (old new : List Call) (was now : Bool) where
  pub room_refused : (offset : ℕ) (bytes : List ℕ) (why : Failure) → now ≡ full_behind was why → Since old new (StopsWriting offset bytes why) → Since old new (λ calls. now ≡ full_after was calls)
  room_refused offset bytes why is since = record { calls = since.calls; after = since.after; made = is ∙ refused_tells was offset bytes why since.calls since.made }

  pub room_written : (offset : ℕ) (bytes : List ℕ) → now ≡ was → Since old new (WritesAll offset bytes) → Since old new (λ calls. now ≡ full_after was calls)
  room_written offset bytes is since = record { calls = since.calls; after = since.after; made = is ∙ writes_tell was offset bytes (length bytes) since.calls since.made }

  synced_tells : (result : Result (Unit {0}) Completion) (calls : List Call) → Syncs {X = Unit {0}} result calls → was ≡ full_after was calls
  synced_tells (Ok x) calls h = sym (ap (full_after was) h)
  synced_tells (Err completion) calls h = sym (ap (full_after was) h.2)

  pub room_synced : (result : Result (Unit {0}) Completion) → now ≡ was → Since old new (Syncs {X = Unit {0}} result) → Since old new (λ calls. now ≡ full_after was calls)
  room_synced result is since = record { calls = since.calls; after = since.after; made = is ∙ synced_tells result since.calls since.made }

  pub room_read : (offset : ℕ) (bytes : List ℕ) → now ≡ was → Since old new (ReadsAll offset bytes) → Since old new (λ calls. now ≡ full_after was calls)
  room_read offset bytes is since = record { calls = since.calls; after = since.after; made = is ∙ reads_tell was offset (length bytes) bytes since.calls since.made }

  pub room_unread : (offset count : ℕ) (why : Failure) → now ≡ was → Since old new (StopsReading offset count why) → Since old new (λ calls. now ≡ full_after was calls)
  room_unread offset count why is since = record { calls = since.calls; after = since.after; made = is ∙ stops_tell was offset count why since.calls since.made }

-- bytes that were taken, and a sync behind them
module _ (old mid new : List Call) (was now : Bool) where
  pub room_written_through : (offset : ℕ) (bytes : List ℕ) (result : Result (Unit {0}) Completion) → now ≡ was → Since old mid (WritesAll offset bytes) → Since mid new (Syncs {X = Unit {0}} result)
      → Since old new (λ calls. now ≡ full_after was calls)
  room_written_through offset bytes result is writes syncs = record {
    calls = syncs.calls ++ writes.calls;
    after = syncs.after ∙ ap (λ (calls : List Call). syncs.calls ++ calls) writes.after ∙ sym (append_assoc syncs.calls writes.calls old);
    made = is ∙ writes_tell was offset bytes (length bytes) writes.calls writes.made ∙ behind result syncs.calls syncs.made;
  }
    where
      behind : (result : Result (Unit {0}) Completion) (calls : List Call) → Syncs {X = Unit {0}} result calls → full_after was writes.calls ≡ full_after was (calls ++ writes.calls)
      behind (Ok x) calls h = sym (ap (λ (c : List Call). full_after was (c ++ writes.calls)) h)
      behind (Err completion) calls h = sym (ap (λ (c : List Call). full_after was (c ++ writes.calls)) h.2)
