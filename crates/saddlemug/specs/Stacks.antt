-- Events, replies, labels and answers of a stack as C tells them and is told them.
use Rattle.std.specs.Prelude.{◌≡◌, ℕ, ◌+◌, ◌*◌, nat_lt, Bool, true, false, ◌%◌, ◌/◌, ◌^◌, List, [], ◌∷◌, drop, length, min, replicate, slice_get, take, if◌then◌else◌, Option, Some, None}
use Rattle.std.specs.Option.{option_map}
use Rattle.ntstatus.specs.Codes.{value_of}
use Rattle.srb.specs.declared.Class.{Class}
use Rattle.srb.specs.declared.Class.TheVariants.{Good, Busy, Bad}
use Rattle.ntstatus.specs.declared.Sense.{Sense}
use Rattle.srb.specs.declared.Completion.{Completion}
use Rattle.srb.specs.declared.DeviceLabel.{DeviceLabel}
use Rattle.srb.specs.declared.DeviceLabel.TheVariants.{Start, Act as ActLabel, Fault, Return}
use Rattle.srb.specs.declared.Kind.{Kind}
use Rattle.srb.specs.declared.Kind.TheVariants.{Read as ReadKind, Write as WriteKind, Flush as FlushKind}
use Rattle.machine.specs.declared.ClientRequest.{ClientRequest}
use Rattle.machine.specs.declared.Label.{Label}
use Rattle.machine.specs.declared.Label.TheVariants.{Call, Device, Answer, Cancel, Pause, Resume, Remove as RemoveLabel, Surprise, Removed}
use Rattle.io_manager.specs.declared.Answer.{Answer as AnswerOf}
use Rattle.io_manager.specs.declared.Handle.{Handle}
use Rattle.io_manager.specs.declared.Id.{Id}
use Rattle.io_manager.specs.declared.Reply.{Reply}
use Rattle.io_manager.specs.declared.Reply.TheVariants.{Handle as HandleReply, Ok as OkReply, Request, Answered, Refused, Ignored}
use Rattle.compose.specs.declared.Event.{Event}
use Rattle.compose.specs.declared.Event.TheVariants.{Open, Close, Read, Write, Flush, CancelIoEx, Mark, QueryRemove, CancelRemove, Remove, SurpriseRemove, Act, Finish, Reset}
use Rattle.saddlemug.specs.declared.booking.StackCompletion.{StackCompletion}
use Rattle.saddlemug.specs.declared.events.EventKind.{EventKind}
use Rattle.saddlemug.specs.declared.events.EventKind.TheVariants as which
use Rattle.saddlemug.specs.declared.events.StackId.{StackId}
use Rattle.saddlemug.specs.declared.events.StackEvent.{StackEvent}
use Rattle.saddlemug.specs.declared.events.StackReply.{StackReply}
use Rattle.saddlemug.specs.declared.labels.StackAnswer.{StackAnswer}
use Rattle.saddlemug.specs.declared.labels.StackLabel.{StackLabel}
use Rattle.saddlemug.specs.Statuses.{refusal_status}

-- EVENTS

abbrev pub handle_of : StackId → Handle
handle_of id = record { slot = id.slot; number = id.number }

abbrev pub id_of : StackId → Id
id_of id = record { slot = id.slot; number = id.number }

-- the kinds, in the order of their numbers
abbrev pub kinds : List EventKind
kinds =
    which.Open
    ∷ which.Close
    ∷ which.Read
    ∷ which.Write
    ∷ which.Flush
    ∷ which.CancelIoEx
    ∷ which.Mark
    ∷ which.QueryRemove
    ∷ which.CancelRemove
    ∷ which.Remove
    ∷ which.SurpriseRemove
    ∷ which.Act
    ∷ which.Finish
    ∷ which.Reset
    ∷ []

-- more bytes than the longest request of the layers has: 65,536 sectors of this size
abbrev pub is_too_long : ℕ → ℕ → Bool
is_too_long size count = nat_lt (65536 * size) count

-- how many bytes a read or a write is called with, on sectors of this size: those that it asks for; in place of too many one
-- alone, which is no whole sector, and is refused as they would be
abbrev pub bytes_called : ℕ → ℕ → ℕ
bytes_called size count = if is_too_long size count then 1 else count

-- the event of a kind that is told, with the bytes of a write, on sectors of this size
abbrev pub event_by : ℕ → StackEvent → List ℕ → EventKind → Event
event_by size e bytes which.Open = Open e.partition
event_by size e bytes which.Close = Close (handle_of e.handle)
event_by size e bytes which.Read = Read (handle_of e.handle) e.offset (replicate (bytes_called size e.length) 0)
event_by size e bytes which.Write = Write (handle_of e.handle) e.offset (take (bytes_called size (length bytes)) bytes) e.through
event_by size e bytes which.Flush = Flush (handle_of e.handle)
event_by size e bytes which.CancelIoEx = CancelIoEx (handle_of e.handle) (if e.one then Some (id_of e.request) else None)
event_by size e bytes which.Mark = Mark e.request.number
event_by size e bytes which.QueryRemove = QueryRemove
event_by size e bytes which.CancelRemove = CancelRemove
event_by size e bytes which.Remove = Remove
event_by size e bytes which.SurpriseRemove = SurpriseRemove
event_by size e bytes which.Act = Act e.tag
event_by size e bytes which.Finish = Finish e.tag
event_by size e bytes which.Reset = Reset

abbrev pub asked_event : ℕ → StackEvent → List ℕ → Option Event
asked_event size e bytes = option_map (event_by size e bytes) (slice_get kinds e.kind)

-- REPLIES

abbrev pub replied : ℕ → ℕ → ℕ → ℕ → StackReply
replied kind status number slot = record { kind = kind; status = status; id = record { number = number; slot = slot } }

abbrev pub shown_reply : Reply → StackReply
shown_reply (HandleReply handle) = replied 0 0 handle.number handle.slot
shown_reply OkReply = replied 1 0 0 0
shown_reply (Request id) = replied 2 0 id.number id.slot
shown_reply (Answered answer) = replied 3 (value_of answer.status) answer.number 0
shown_reply (Refused reason bytes) = replied 4 (value_of (refusal_status reason)) 0 0
shown_reply Ignored = replied 5 0 0 0

-- LABELS

-- bytes stand at the head of a buffer, as many as have room there, and what is behind them is as it was
pub record AreToldIn (before bytes after : List ℕ) : Type 0 where
  pub long : length after ≡ length before
  pub told : take (min (length bytes) (length before)) after ≡ take (min (length bytes) (length before)) bytes
  pub behind : drop (min (length bytes) (length before)) after ≡ drop (min (length bytes) (length before)) before

-- no completion is told
abbrev pub no_completion : StackCompletion
no_completion = record { srb_status = 0; scsi_status = 0; has_sense = false; key = 0; asc = 0; ascq = 0 }

-- a completion with these sense data, if there are any
abbrev pub with_sense : Completion → Option Sense → StackCompletion
with_sense c None = record no_completion { srb_status = c.srb_status; scsi_status = c.scsi_status }
with_sense c (Some sense) = record {
  srb_status = c.srb_status;
  scsi_status = c.scsi_status;
  has_sense = true;
  key = sense.key;
  asc = sense.asc;
  ascq = sense.ascq;
}

-- a label that tells its kind alone
abbrev pub label_of_kind : ℕ → StackLabel
label_of_kind kind = record {
  kind = kind;
  status = 0;
  number = 0;
  information = 0;
  piece_low = 0;
  piece_high = 0;
  tag = 0;
  class = 0;
  request = 0;
  partition = 0;
  offset = 0;
  length = 0;
  through = 0;
  completion = no_completion;
  bytes = 0;
}

abbrev pub label_of_piece : ℕ → ℕ → StackLabel
label_of_piece kind piece = record (label_of_kind kind) { piece_low = piece % 2 ^ 64; piece_high = piece / 2 ^ 64 }

abbrev pub kind_number : Kind → ℕ
kind_number ReadKind = 0
kind_number WriteKind = 1
kind_number FlushKind = 2

abbrev pub partition_number : Option ℕ → ℕ
partition_number None = 0
partition_number (Some partition) = partition + 1

-- a piece came back: good, busy, or bad with a completion
abbrev pub shown_return : ℕ → Class → StackLabel
shown_return piece Good = label_of_piece 4 piece
shown_return piece Busy = record (label_of_piece 4 piece) { class = 1 }
shown_return piece (Bad c) = record (label_of_piece 4 piece) { class = 2; completion = with_sense c c.sense }

abbrev pub shown_call : ℕ → ClientRequest → StackLabel
shown_call number q = record (label_of_kind 0) {
  number = number;
  request = kind_number q.kind;
  partition = partition_number q.partition;
  offset = q.offset;
  length = q.length;
  through = if q.through then 1 else 0;
  bytes = length q.bytes;
}

abbrev pub shown_of_device : DeviceLabel → StackLabel
shown_of_device (Start piece tag block) = record (label_of_piece 1 piece) { tag = tag; bytes = length block }
shown_of_device (ActLabel piece bytes) = record (label_of_piece 2 piece) { bytes = length bytes }
shown_of_device (Fault piece) = label_of_piece 3 piece
shown_of_device (Return piece class) = shown_return piece class

abbrev pub device_bytes : DeviceLabel → List ℕ
device_bytes (Start piece tag block) = block
device_bytes (ActLabel piece bytes) = bytes
device_bytes _ = []

abbrev pub shown_label : Label → StackLabel
shown_label (Call number q) = shown_call number q
shown_label (Device label) = shown_of_device label
shown_label (Answer number status information bytes) =
    record (label_of_kind 5) { status = value_of status; number = number; information = information; bytes = length bytes }
shown_label (Cancel number) = record (label_of_kind 6) { number = number }
shown_label Pause = label_of_kind 7
shown_label Resume = label_of_kind 8
shown_label RemoveLabel = label_of_kind 9
shown_label Surprise = label_of_kind 10
shown_label Removed = label_of_kind 11

-- the bytes that come with a label: what a write brings that was taken in, a command block, what a piece moved, or what
-- a request read
abbrev pub label_bytes : Label → List ℕ
label_bytes (Call number q) = q.bytes
label_bytes (Device label) = device_bytes label
label_bytes (Answer number status information bytes) = bytes
label_bytes _ = []

-- ANSWERS

abbrev pub shown_answer : AnswerOf → StackAnswer
shown_answer answer = record { number = answer.number; information = answer.information; status = value_of answer.status; bytes = length answer.bytes }
