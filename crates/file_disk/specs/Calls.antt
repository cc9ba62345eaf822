-- The calls that move a piece's bytes, and what they gave.
use Rattle.std.specs.Prelude.{◌≡◌, ℕ, ◌+◌, ◌-◌, List, [], ◌∷◌, ◌++◌, length, take, drop, Option, Result, Ok, Err}
use Rattle.file_disk.specs.declared.storage.Failure.{Failure}
use Rattle.file_disk.specs.declared.storage.Failure.TheVariants.{Failed}

-- a call, and what came of it
pub data Call : Type 0 where
  -- this many bytes were asked for from this one on, and these came
  ReadAt : (offset count : ℕ) (gave : Result (List ℕ) Failure) → Call
  -- these bytes were told, from this one on, and this many were taken
  WriteAt : (offset : ℕ) (bytes : List ℕ) (took : Result ℕ Failure) → Call
  Sync : (fault : Option Failure) → Call

-- what a call gave that left this many bytes at the buffer's start
abbrev pub given : Result ℕ Failure → List ℕ → Result (List ℕ) Failure
given (Ok n) buffer = Ok (take n buffer)
given (Err why) buffer = Err why

-- just calls of this kind were made since; calls stand the newest first
pub record Since (old new : List Call) (Made : List Call → Type 0) : Type 0 where
  pub calls : List Call
  pub after : new ≡ calls ++ old
  pub made : Made calls

-- READS

-- these bytes came so far of a read from this one on: each call asked for all that was left
abbrev pub Reads : ℕ → ℕ → List ℕ → List Call → Type 0
Reads offset count got [] = got ≡ []
Reads offset count got (ReadAt at asked (Ok gave) ∷ calls) =
    (before : List ℕ) × (got ≡ before ++ gave) × (at ≡ offset + length before) × (asked ≡ count - length before) × Reads offset count before calls
Reads offset count got (_ ∷ calls) = ⊥

-- calls gave these bytes, and asked for no others
abbrev pub ReadsAll : ℕ → List ℕ → List Call → Type 0
ReadsAll offset bytes calls = Reads offset (length bytes) bytes calls

-- a call gave nothing: it failed like this, or gave 0 bytes, which is told as a failure
abbrev pub GaveNothing : Result (List ℕ) Failure → Failure → Type 0
GaveNothing (Ok gave) why = (gave ≡ []) × (why ≡ Failed)
GaveNothing (Err said) why = why ≡ said

-- the newest call asked for what was left, and gave nothing
abbrev pub StopsReading : ℕ → ℕ → Failure → List Call → Type 0
StopsReading offset count why (ReadAt at asked gave ∷ calls) =
    (before : List ℕ) × (at ≡ offset + length before) × (asked ≡ count - length before) × GaveNothing gave why × Reads offset count before calls
StopsReading offset count why _ = ⊥

-- WRITES

-- this many of these bytes were taken so far, from this one on: each call was given all that was left, in its place
abbrev pub Writes : ℕ → List ℕ → ℕ → List Call → Type 0
Writes offset bytes taken [] = taken ≡ 0
Writes offset bytes taken (WriteAt at told (Ok took) ∷ calls) =
    (before : ℕ) × (taken ≡ before + took) × (at ≡ offset + before) × (told ≡ drop before bytes) × Writes offset bytes before calls
Writes offset bytes taken (_ ∷ calls) = ⊥

-- calls took all of these bytes, from this one on
abbrev pub WritesAll : ℕ → List ℕ → List Call → Type 0
WritesAll offset bytes calls = Writes offset bytes (length bytes) calls

-- a call took nothing: it failed like this, or took 0 bytes, which is told as a failure
abbrev pub TookNothing : Result ℕ Failure → Failure → Type 0
TookNothing (Ok took) why = (took ≡ 0) × (why ≡ Failed)
TookNothing (Err said) why = why ≡ said

-- the newest call was told what was left, and took nothing
abbrev pub StopsWriting : ℕ → List ℕ → Failure → List Call → Type 0
StopsWriting offset bytes why (WriteAt at told took ∷ calls) =
    (before : ℕ) × (at ≡ offset + before) × (told ≡ drop before bytes) × TookNothing took why × Writes offset bytes before calls
StopsWriting offset bytes why _ = ⊥
