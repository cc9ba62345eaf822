-- Calls of one piece, put together.
use Rattle.std.proofs.Common.{◌≡◌, ◌⊎◌, inl, inr, ℕ, Bool, true, false, List, [], ◌∷◌, ◌++◌, length, Some, None, Result, Ok, Err, refl, sym, ap, ◌∙◌, append_assoc}
use Rattle.srb.specs.declared.Completion.{Completion}
use Rattle.file_disk.specs.declared.storage.Failure.{Failure}
use Rattle.file_disk.specs.declared.file_disk.Task.{Task}
use Rattle.file_disk.specs.declared.file_disk.Task.TheVariants.{Read as ReadTask, Write as WriteTask, Flush as FlushTask}
use Rattle.file_disk.specs.Calls.{Call, Sync, Since, ReadsAll, StopsReading, StopsWriting, WritesAll}
use Rattle.file_disk.specs.Transfers.{Does, LacksMemory, ReadsBytes, Syncs, WritesBytes, hardware_fault, read_fault, write_fault}

-- a sync
pub synced : (old new : List Call) (x : Unit {0}) → new ≡ Sync None ∷ old → Since old new (Syncs {X = Unit {0}} (Ok x))
synced old new x noted = record { calls = Sync None ∷ []; after = noted; made = refl }

pub sync_failed : (old new : List Call) (why : Failure) (completion : Completion) → completion ≡ hardware_fault → new ≡ Sync (Some why) ∷ old → Since old new (Syncs {X = Unit {0}} (Err completion))
sync_failed old new why completion is noted = record { calls = Sync (Some why) ∷ []; after = noted; made = (why, is, refl) }

-- writes
module _ (old new : List Call) (offset : ℕ) (bytes : List ℕ) where
  pub write_failed : (through : Bool) (why : Failure) (completion : Completion) → completion ≡ write_fault why → Since old new (StopsWriting offset bytes why)
      → Since old new (WritesBytes {X = Unit {0}} through offset bytes (Err completion))
  write_failed false why completion is since = record { calls = since.calls; after = since.after; made = (why, is, since.made) }
  write_failed true why completion is since = record { calls = since.calls; after = since.after; made = inl (why, is, since.made) }

  pub write_done : (through : Bool) (x : Unit {0}) → through ≡ false → Since old new (WritesAll offset bytes) → Since old new (WritesBytes {X = Unit {0}} through offset bytes (Ok x))
  write_done false x is since = record { calls = since.calls; after = since.after; made = since.made }
  write_done true x is since = absurd (cc (is))

module _ (old mid new : List Call) (offset : ℕ) (bytes : List ℕ) (writes : Since old mid (WritesAll offset bytes)) where
  after_all : (result : Result (Unit {0}) Completion) (syncs : Since mid new (Syncs {X = Unit {0}} result)) → new ≡ (syncs.calls ++ writes.calls) ++ old
  after_all result syncs = syncs.after ∙ ap (λ (calls : List Call). syncs.calls ++ calls) writes.after ∙ sym (append_assoc syncs.calls writes.calls old)

  pub write_synced : (through : Bool) (result : Result (Unit {0}) Completion) → through ≡ true → Since mid new (Syncs {X = Unit {0}} result) → Since old new (WritesBytes {X = Unit {0}} through offset bytes result)
  write_synced false result is syncs = absurd (cc (is))
  write_synced true (Ok x) is syncs = record {
    calls = syncs.calls ++ writes.calls;
    after = after_all (Ok x) syncs;
    made = record { told = writes.calls; after = ap (λ (calls : List Call). calls ++ writes.calls) syncs.made; writes = writes.made };
  }
  write_synced true (Err completion) is syncs = record {
    calls = syncs.calls ++ writes.calls;
    after = after_all (Err completion) syncs;
    made =
        inr (syncs.made.0, syncs.made.1, record { told = writes.calls; after = ap (λ (calls : List Call). calls ++ writes.calls) syncs.made.2; writes = writes.made });
  }

-- WHAT A READ DID

-- all bytes were read, into as many
pub read_done : (old new : List Call) (offset count : ℕ) (bytes : List ℕ) → length bytes ≡ count → Since old new (ReadsAll offset bytes)
    → Since old new (λ calls. ReadsBytes offset count (Ok bytes) calls ⊎ LacksMemory (Ok bytes) calls)
read_done old new offset count bytes long since = record { calls = since.calls; after = since.after; made = inl (long, since.made) }

pub read_failed : (old new : List Call) (offset count : ℕ) (why : Failure) (completion : Completion) → completion ≡ read_fault → Since old new (StopsReading offset count why)
    → Since old new (λ calls. ReadsBytes offset count (Err completion) calls ⊎ LacksMemory (Err completion) calls)
read_failed old new offset count why completion is since = record { calls = since.calls; after = since.after; made = inl (why, is, since.made) }

pub lacked : (calls : List Call) (offset count : ℕ) (completion : Completion) → completion ≡ hardware_fault
    → Since calls calls (λ c. ReadsBytes offset count (Err completion) c ⊎ LacksMemory (Err completion) c)
lacked calls offset count completion is = record { calls = []; after = refl; made = inr (ap (λ (c : Completion). Err c) is, refl) }

-- WHAT A TASK DID

module _ (old new : List Call) (offset : ℕ) (bytes : List ℕ) where
  abbrev Did : Task → Result (List ℕ) Completion → Type 0
  Did task moved = Since old new (λ calls. Does offset bytes task moved calls ⊎ ((task ≡ ReadTask) × LacksMemory moved calls))

  at_read : {A B : Type 0} → A ⊎ B → A ⊎ ((ReadTask ≡ ReadTask) × B)
  at_read (inl a) = inl a
  at_read (inr b) = inr (refl, b)

  pub did_read : (moved : Result (List ℕ) Completion) → Since old new (λ calls. ReadsBytes offset (length bytes) moved calls ⊎ LacksMemory moved calls) → Did ReadTask moved
  did_read moved since = record { calls = since.calls; after = since.after; made = at_read since.made }

  pub read_out : (got : List ℕ) → Since old new (λ calls. ReadsBytes offset (length bytes) (Ok got) calls ⊎ LacksMemory (Ok got) calls) → Did ReadTask (Ok got)
  read_out got since = did_read (Ok got) since

  pub read_not : (completion : Completion) → Since old new (λ calls. ReadsBytes offset (length bytes) (Err completion) calls ⊎ LacksMemory (Err completion) calls) → Did ReadTask (Err completion)
  read_not completion since = did_read (Err completion) since

  pub wrote : (through : Bool) (x : Unit {0}) → Since old new (WritesBytes {X = Unit {0}} through offset bytes (Ok x)) → Did (WriteTask through) (Ok bytes)
  wrote false x since = record { calls = since.calls; after = since.after; made = inl (refl, since.made) }
  wrote true x since = record { calls = since.calls; after = since.after; made = inl (refl, since.made) }

  pub wrote_not : (through : Bool) (completion : Completion) → Since old new (WritesBytes {X = Unit {0}} through offset bytes (Err completion)) → Did (WriteTask through) (Err completion)
  wrote_not false completion since = record { calls = since.calls; after = since.after; made = inl (tt, since.made) }
  wrote_not true completion since = record { calls = since.calls; after = since.after; made = inl (tt, since.made) }

  pub flushed : (x : Unit {0}) → Since old new (Syncs {X = Unit {0}} (Ok x)) → Did FlushTask (Ok bytes)
  flushed x since = record { calls = since.calls; after = since.after; made = inl (refl, since.made) }

  pub flushed_not : (completion : Completion) → Since old new (Syncs {X = Unit {0}} (Err completion)) → Did FlushTask (Err completion)
  flushed_not completion since = record { calls = since.calls; after = since.after; made = inl (tt, since.made) }
