-- A client's call, and what the trace tells of it.
use Rattle.std.specs.Prelude.{◌≡◌, ◌≤◌, ◌<◌, ◌^◌, ℕ, ◌+◌, Bool, false, true, List, [], Option, Some, None, length, slice_get}
use Rattle.srb.specs.declared.Kind.{Kind}
use Rattle.srb.specs.declared.Kind.TheVariants.{Read as ReadKind, Write as WriteKind, Flush as FlushKind}
use Rattle.machine.specs.declared.ClientRequest.{ClientRequest}
use Rattle.machine.specs.declared.Label.{Label}
use Rattle.machine.specs.declared.Label.TheVariants.{Call as CallLabel, Answer as AnswerLabel}
use Rattle.machine_laws.specs.NumberLaws.{AnswersOnce, AnswersWereCalled, CallsOnce}
use Rattle.io_manager.specs.declared.Handle.{Handle}
use Rattle.io_manager.specs.declared.Reply.{Reply}
use Rattle.io_manager.specs.declared.Reply.TheVariants.{Request as Requested, Answered, Refused}
use Rattle.io_manager.specs.Calls.{IsWant, are_used_up, bytes_called, status_of_refusal, without_bytes}
use Rattle.io_manager.specs.declared.Refusal.TheVariants.{DeviceBusy}
use Rattle.io_manager.specs.Right.{as_answer}
use Rattle.compose.specs.declared.Event.{Event}
use Rattle.compose.specs.declared.Event.TheVariants.{Read as ReadEvent, Write as WriteEvent, Flush as FlushEvent}
use Rattle.traced.specs.declared.TraceEntry.{TraceEntry}
use Rattle.traced.specs.Entries.{entry, is_call}
use Rattle.traced.specs.Serving.{open_at}
use Rattle.traced.specs.Shares.{ShareView}
use Rattle.traced.specs.Traced.{TracedView}
use Rattle.host.specs.declared.call.Call.{Call}
use Rattle.host.specs.declared.call.Call.TheVariants.{Read, Write, Flush}

-- the event of a call on a handle
abbrev pub event_of : Handle → Call → Event
event_of handle (Read offset buffer) = ReadEvent handle offset buffer
event_of handle (Write offset bytes through) = WriteEvent handle offset bytes through
event_of handle Flush = FlushEvent handle

-- the bytes that a call hands in
abbrev pub buffer_of : Call → List ℕ
buffer_of (Read offset buffer) = buffer
buffer_of (Write offset bytes through) = bytes
buffer_of Flush = []

abbrev pub asked : ℕ → Kind → ℕ → List ℕ → Bool → ClientRequest
asked partition kind offset buffer through = record {
  partition = Some partition;
  kind = kind;
  offset = offset;
  length = length buffer;
  through = through;
  bytes = bytes_called kind buffer;
}

-- the request that a call hands in, on a partition
abbrev pub request_of : ℕ → Call → ClientRequest
request_of partition (Read offset buffer) = asked partition ReadKind offset buffer false
request_of partition (Write offset bytes through) = asked partition WriteKind offset bytes through
request_of partition Flush = asked partition FlushKind 0 [] false

-- WHAT IS TOLD OF A CALL

-- this is the place of the first call from a place on, or there is none
abbrev pub FindsCall : ℕ → List TraceEntry → Option ℕ → Type 0
FindsCall from entries (Some place) = (from ≤ place) × ((e : TraceEntry) × (slice_get entries place ≡ Some e) × (is_call e.label ≡ true))
FindsCall from entries None = (place : ℕ) (e : TraceEntry) → from ≤ place → slice_get entries place ≡ Some e → is_call e.label ≡ false

-- the label stands at the place, in the client's row
abbrev pub Stands : List TraceEntry → ℕ → Label → ℕ → Type 0
Stands entries place label client = slice_get entries place ≡ Some (entry label (Some client))

-- the share has counted this many more calls
pub record HasCounted (old : ShareView) (calls : ℕ) (new : ShareView) : Type 0 where
  pub client : new.client ≡ old.client
  pub handle : new.handle ≡ old.handle
  pub more : new.calls ≡ old.calls + calls

-- the call opened a request, which its slot holds
pub record IsOpened (slots : ℕ) (old new : ShareView) (q : ClientRequest) (book : TracedView) (slot number place : ℕ) : Type 0 where
  pub counted : HasCounted old 1 new
  pub called : Stands book.entries place (CallLabel number q) old.client
  pub held : open_at book.stack slot ≡ Some number
  pub in_range : slot < slots
  pub some_number : 0 < number
  pub small : number < 2 ^ 62

-- the call was answered at once, and its answer stands right behind it
pub record IsAnsweredAtOnce (old new : ShareView) (q : ClientRequest) (entries : List TraceEntry) (number : ℕ) (answer : Label) (place : ℕ) : Type 0 where
  pub counted : HasCounted old 1 new
  pub called : Stands entries place (CallLabel number (without_bytes q)) old.client
  pub answered : Stands entries (place + 1) answer old.client

-- what the book tells of a call, by its reply and the place of its label; one that was busy and is not told found no
-- number left
abbrev pub IsTold : ℕ → ShareView → ShareView → ClientRequest → List ℕ → TracedView → Reply → Option ℕ → Type 0
IsTold slots old new q buffer book (Requested id) (Some place) = IsOpened slots old new q book id.slot id.number place
IsTold slots old new q buffer book (Answered answer) (Some place) = IsAnsweredAtOnce old new q book.entries answer.number (as_answer answer) place
IsTold slots old new q buffer book (Refused reason bytes) (Some place) =
    (bytes ≡ buffer) × ((number : ℕ) × IsAnsweredAtOnce old new q book.entries number (AnswerLabel number (status_of_refusal reason) 0 []) place)
IsTold slots old new q buffer book (Refused reason bytes) None = (bytes ≡ buffer) × IsWant reason × HasCounted old 0 new
    × (reason ≡ DeviceBusy → are_used_up book.stack.state.next_request ≡ true)
IsTold slots old new q buffer book _ _ = ⊥

-- WHAT IS TOLD OF AN ANSWER

-- the laws on the answers of a run
pub record AnswerLaws : Type 0 where
  pub calls : CallsOnce
  pub answers : AnswersOnce
  pub called : AnswersWereCalled
