-- What a request does to an array, and how it ends.
use Rattle.std.specs.Prelude.{◌≡◌, ◌⊎◌, ◌<◌, ℕ, ◌+◌, List, [], length, slice_range, replicate, MatchResult}
use Rattle.nbd.specs.declared.requests.Request.{Request}
use Rattle.nbd.specs.declared.requests.ReplyError.{ReplyError}
use Rattle.nbd.specs.declared.requests.ReplyError.TheVariants.{Eperm, Eio, Enomem, Eshutdown}
use Rattle.nbd.specs.declared.arrays.ArrayFault.{ArrayFault}
use Rattle.nbd.specs.declared.arrays.ArrayFault.TheVariants.{NoMemory, Protected, Gone, Failed}
use Rattle.nbd.specs.declared.requests.Command.{Command}
use Rattle.nbd.specs.declared.requests.Command.TheVariants.{Read, Write, Flush, WriteZeroes}
use Rattle.nbd.specs.Content.{Content, IsSameOutside, written}
use Rattle.nbd.specs.Requests.{command_in}
use Rattle.nbd.specs.Replies.{Outcome, success, failure}

-- how a call may fail that turns the first array into the second
abbrev pub Faulting : Type 1
Faulting = Content → Content → ArrayFault → Type 0

-- the error by which a fault is told
abbrev pub error_of : ArrayFault → ReplyError
error_of NoMemory = Enomem
error_of Protected = Eperm
error_of Gone = Eshutdown
error_of Failed = Eio

-- the array failed by such a fault
pub record IsFaulty (F : Faulting) (old : Content) (error : ReplyError) (new : Content) : Type 0 where
  pub fault : ArrayFault
  pub fails : F old new fault
  pub told : error ≡ error_of fault

-- the array failed; or memory was refused before it was called, and the array is as it was
abbrev pub IsFailure : Faulting → Content → ReplyError → Content → Type 0
IsFailure F old error new = IsFaulty F old error new ⊎ ((error ≡ Enomem) × (new ≡ old))

-- the command failed, and brought nothing
pub record Fails (F : Faulting) (old : Content) (o : Outcome) (new : Content) : Type 0 where
  pub error : ReplyError
  pub why : IsFailure F old error new
  pub is : o ≡ failure error

-- these bytes were written from this one on, or the write failed and the rest of the array is as it was
abbrev pub Puts : Faulting → Content → ℕ → List ℕ → Outcome → Content → Type 0
Puts F old offset bytes o new = ((o ≡ success []) × (new ≡ written old offset bytes)) ⊎ (Fails F old o new × IsSameOutside old offset (length bytes) new)

-- fewer than all zeros were written, then the command failed, and the rest of the array is as it was
pub record StopsClearing (F : Faulting) (old : Content) (offset count : ℕ) (o : Outcome) (new : Content) : Type 0 where
  pub done : ℕ
  pub fewer : done < count
  pub fails : Fails F (written old offset (replicate done 0)) o new
  pub outside : IsSameOutside old offset count new

-- this many zeros were written from this byte on, or the command failed before all were
abbrev pub Clears : Faulting → Content → ℕ → ℕ → Outcome → Content → Type 0
Clears F old offset count o new = ((o ≡ success []) × (new ≡ written old offset (replicate count 0))) ⊎ StopsClearing F old offset count o new

-- these bytes of the array were brought, or the read failed; nothing changed
pub record Gets (F : Faulting) (old : Content) (offset count : ℕ) (o : Outcome) (new : Content) : Type 0 where
  pub got : (o ≡ success (slice_range old.bytes offset (offset + count))) ⊎ Fails F old o new
  pub same : new ≡ old

-- the array failed, and the command brought nothing
pub record Faults (F : Faulting) (old : Content) (o : Outcome) (new : Content) : Type 0 where
  pub error : ReplyError
  pub why : IsFaulty F old error new
  pub is : o ≡ failure error

-- the flush succeeded, or the array failed; nothing changed. A flush asks for no memory
pub record Flushes (F : Faulting) (old : Content) (o : Outcome) (new : Content) : Type 0 where
  pub flushed : (o ≡ success []) ⊎ Faults F old o new
  pub same : new ≡ old

-- a command was carried out, with the bytes that came behind its request
abbrev pub Carries : Faulting → Command → List ℕ → Content → Outcome → Content → Type 0
Carries F (Read offset count) payload old o new = Gets F old offset count o new
Carries F (Write offset count through) payload old o new = Puts F old offset payload o new
Carries F Flush payload old o new = Flushes F old o new
Carries F (WriteZeroes offset count through) payload old o new = Clears F old offset count o new

-- a request that asks for a command is carried out; any other fails by its error, and changes nothing
abbrev pub Serves : Faulting → Request → List ℕ → Content → Outcome → Content → Type 0
Serves F r payload old o new =
    MatchResult (command_in old.block (length old.bytes) r) (λ command. Carries F command payload old o new) (λ e. (o ≡ failure e) × (new ≡ old))
