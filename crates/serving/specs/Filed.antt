-- A partition of a disk in a storage: what a client's commands ask of its stack.
use Rattle.std.specs.Prelude.{◌≡◌, ◌≢◌, ◌≤◌, ◌⊎◌, ◌^◌, ℕ, ◌+◌, Bool, if◌then◌else◌, List, [], ◌∷◌, length, replicate, IsFalse, Option, Some, None, Result, Ok, Err}
use Rattle.std.specs.Result.{result_err}
use Rattle.ntstatus.specs.declared.NtStatus.{NtStatus}
use Rattle.ntstatus.specs.declared.NtStatus.TheVariants.{Success, InsufficientResources, MediaWriteProtected, NoSuchDevice, DeletePending}
use Rattle.io_manager.specs.declared.Answer.{Answer}
use Rattle.io_manager.specs.declared.Handle.{Handle}
use Rattle.io_manager.specs.declared.Refusal.{Refusal}
use Rattle.io_manager.specs.declared.Refusal.TheVariants.{InsufficientResources as NoResources}
use Rattle.compose.specs.declared.Event.{Event}
use Rattle.compose.specs.declared.Event.TheVariants.{Read as ReadEvent, Write as WriteEvent, Flush as FlushEvent}
use Rattle.nbd.specs.declared.arrays.Sizes.{Sizes}
use Rattle.nbd.specs.declared.requests.Command.{Command}
use Rattle.nbd.specs.declared.requests.Command.TheVariants.{Read, Write, Flush, WriteZeroes}
use Rattle.nbd.specs.declared.requests.ReplyError.{ReplyError}
use Rattle.nbd.specs.declared.requests.ReplyError.TheVariants.{Eio, Enomem, Enospc, Eperm, Eshutdown}
use Rattle.nbd.specs.Replies.{Outcome, failure, success}
use Rattle.serving.specs.Carried.{CarriedView, Requests, StandsIn}

pub record FiledView : Type 0 where
  -- the stack, and the disk in the storage
  pub carried : CarriedView
  -- the open handle on the partition
  pub handle : Handle
  pub sizes : Sizes

-- ONE REQUEST

-- the error by which a status is told, of a storage that had no room for the newest of the writes that it refused, or of
-- another
abbrev pub status_error : Bool → NtStatus → ReplyError
status_error full InsufficientResources = Enomem
status_error full MediaWriteProtected = if full then Enospc else Eperm
status_error full NoSuchDevice = Eshutdown
status_error full DeletePending = Eshutdown
status_error full _ = Eio

-- the error by which a refusal is told
abbrev pub refusal_error : Refusal → ReplyError
refusal_error NoResources = Enomem
refusal_error _ = Eio

-- what a request came to: its bytes where it succeeded, or the error by which its failure is told
abbrev pub ComesTo : Bool → Result Answer Refusal → Result (List ℕ) ReplyError → Type 0
ComesTo full (Ok answer) (Ok bytes) = (answer.status ≡ Success) × (bytes ≡ answer.bytes)
ComesTo full (Ok answer) (Err error) = (answer.status ≢ Success) × (error ≡ status_error full answer.status)
ComesTo full (Err reason) (Ok bytes) = ⊥
ComesTo full (Err reason) (Err error) = error ≡ refusal_error reason

-- the stack was asked for this event, and this came of it
pub record IsAsked (old : FiledView) (event : Event) (done : Result (List ℕ) ReplyError) (new : FiledView) : Type 0 where
  pub result : Result Answer Refusal
  pub requests : Requests old.carried event result new.carried
  pub comes_to : ComesTo new.carried.disk.full result done
  pub same_handle : new.handle ≡ old.handle
  pub same_sizes : new.sizes ≡ old.sizes

-- the stack was asked for an event that brings no bytes, and this is its error, if it failed
pub record IsDone (old : FiledView) (event : Event) (failed : Option ReplyError) (new : FiledView) : Type 0 where
  pub done : Result (List ℕ) ReplyError
  pub asked : IsAsked old event done new
  pub failed_so : failed ≡ result_err done

-- memory for bytes was refused, and nothing was asked
pub record LacksMemory (old : FiledView) (error : ReplyError) (new : FiledView) : Type 0 where
  pub enomem : error ≡ Enomem
  pub same : new ≡ old

-- COMMANDS

-- how a read ends
abbrev pub read_outcome : Result (List ℕ) ReplyError → Outcome
read_outcome (Ok bytes) = success bytes
read_outcome (Err error) = failure error

-- how any other command ends
abbrev pub plain_outcome : Option ReplyError → Outcome
plain_outcome None = success []
plain_outcome (Some error) = failure error

-- a read asked for this many bytes from this one on, into a buffer of as many
pub record Gets (old : FiledView) (offset count : ℕ) (done : Result (List ℕ) ReplyError) (new : FiledView) : Type 0 where
  pub buffer : List ℕ
  pub as_many : length buffer ≡ count
  pub asked : IsAsked old (ReadEvent old.handle offset buffer) done new

-- such a read was made, or there was no memory for its buffer
abbrev pub Reads : FiledView → ℕ → ℕ → Result (List ℕ) ReplyError → FiledView → Type 0
Reads old offset count (Ok bytes) new = Gets old offset count (Ok bytes) new
Reads old offset count (Err error) new = Gets old offset count (Err error) new ⊎ LacksMemory old error new

-- a write asked to put these bytes from this one on
abbrev pub Writes : FiledView → ℕ → List ℕ → Bool → Option ReplyError → FiledView → Type 0
Writes old offset bytes through failed new = IsDone old (WriteEvent old.handle offset bytes through) failed new

abbrev pub Flushes : FiledView → Option ReplyError → FiledView → Type 0
Flushes old failed new = IsDone old (FlushEvent old.handle) failed new

-- the sum of these numbers
abbrev pub total : List ℕ → ℕ
total [] = 0
total (count ∷ counts) = total counts + count

-- this many zeros each were written, one write behind the other, from this byte on; the newest stands first
abbrev pub Clears : FiledView → ℕ → List ℕ → Bool → FiledView → Type 0
Clears old offset [] through new = new ≡ old
Clears old offset (count ∷ counts) through new =
    (mid : FiledView) × Clears old offset counts through mid × Writes mid (offset + total counts) (replicate count 0) through None new

-- this many zeros in all were written
pub record HasCleared (old : FiledView) (offset done : ℕ) (through : Bool) (new : FiledView) : Type 0 where
  pub counts : List ℕ
  pub clears : Clears old offset counts through new
  pub all : done ≡ total counts

-- the next write failed, or there was no memory for its zeros
pub record StopsClearing (old : FiledView) (offset count : ℕ) (through : Bool) (error : ReplyError) (new : FiledView) : Type 0 where
  pub done : ℕ
  pub next : ℕ
  pub fewer : done + next ≤ count
  pub mid : FiledView
  pub cleared : HasCleared old offset done through mid
  pub stops : Writes mid (offset + done) (replicate next 0) through (Some error) new ⊎ LacksMemory mid error new

-- a command to write this many zeros: writes of as many in all did it, or a write failed behind fewer
abbrev pub ClearsBy : FiledView → ℕ → ℕ → Bool → Option ReplyError → FiledView → Type 0
ClearsBy old offset count through None new = HasCleared old offset count through new
ClearsBy old offset count through (Some error) new = StopsClearing old offset count through error new

-- what a command asks of the stack, and how it ends
abbrev pub CarriesBy : Command → List ℕ → FiledView → Outcome → FiledView → Type 0
CarriesBy (Read offset count) payload old o new = (done : Result (List ℕ) ReplyError) × Reads old offset count done new × (o ≡ read_outcome done)
CarriesBy (Write offset count through) payload old o new = (failed : Option ReplyError) × Writes old offset payload through failed new × (o ≡ plain_outcome failed)
CarriesBy Flush payload old o new = (failed : Option ReplyError) × Flushes old failed new × (o ≡ plain_outcome failed)
CarriesBy (WriteZeroes offset count through) payload old o new = (failed : Option ReplyError) × ClearsBy old offset count through failed new × (o ≡ plain_outcome failed)

-- what is kept between two commands
pub record FiledKept (carried : CarriedView) (sizes : Sizes) : Type 0 where
  pub stands : StandsIn carried.stack carried.disk
  pub taken : carried.stack.labels ≡ []
  -- so each request is answered
  pub unpaused : IsFalse carried.stack.state.paused
  pub block : (sizes.block ≡ 512) ⊎ (sizes.block ≡ 4096)
  pub few : sizes.bytes ≤ 2 ^ 63
