-- The label that C tells, and its line.
use Rattle.std.specs.Prelude.{◌≡◌, ◌⊎◌, ℕ, ◌+◌, ◌*◌, ◌-◌, ◌^◌, ◌==◌, ◌++◌, nat_lt, not, List, [], ◌∷◌, length, slice_get, Option, Some, None, if◌then◌else◌}
use Rattle.std.specs.Option.{option_map, option_map_or}
use Rattle.ntstatus.specs.declared.NtStatus.{NtStatus}
use Rattle.srb.specs.declared.Class.{Class}
use Rattle.srb.specs.declared.Class.TheVariants.{Good, Busy, Bad}
use Rattle.srb.specs.declared.DeviceLabel.TheVariants.{Start, Act, Fault, Return}
use Rattle.srb.specs.declared.Kind.{Kind}
use Rattle.srb.specs.declared.Kind.TheVariants.{Read, Write, Flush}
use Rattle.machine.specs.declared.ClientRequest.{ClientRequest}
use Rattle.machine.specs.declared.Label.{Label}
use Rattle.machine.specs.declared.Label.TheVariants.{Call, Device, Answer, Cancel, Pause, Resume, Remove, Surprise, Removed}
use Rattle.label_text.specs.Lines.{line_end, line_of, owned}
use Rattle.saddlemug.specs.declared.booking.StackCompletion.{StackCompletion}
use Rattle.saddlemug.specs.declared.label_kinds.LabelKind.{LabelKind}
use Rattle.saddlemug.specs.declared.label_kinds.LabelKind.TheVariants as which
use Rattle.saddlemug.specs.declared.labels.StackLabel.{StackLabel}
use Rattle.saddlemug.specs.Names.{IsPut, status_of}
use Rattle.saddlemug.specs.Over.{completion_of}

-- the kinds, in the order of their numbers
abbrev pub kinds : List LabelKind
kinds =
    which.Called
    ∷ which.Started
    ∷ which.Acted
    ∷ which.Faulted
    ∷ which.Returned
    ∷ which.Answered
    ∷ which.Cancelled
    ∷ which.Paused
    ∷ which.Resumed
    ∷ which.Removing
    ∷ which.Surprised
    ∷ which.Removed
    ∷ []

abbrev pub request_kinds : List Kind
request_kinds = Read ∷ Write ∷ Flush ∷ []

abbrev pub piece_told : StackLabel → ℕ
piece_told l = l.piece_high * 2 ^ 64 + l.piece_low

-- a partition counted from 1, or 0 where the handle isn't open
abbrev pub partition_in : ℕ → Option (Option ℕ)
partition_in number = if number == 0 then Some None else if nat_lt 256 number then None else Some (Some (number - 1))

abbrev pub byte_in : ℕ → Option ℕ
byte_in number = if nat_lt 255 number then None else Some number

abbrev pub block_in : List ℕ → Option (List ℕ)
block_in bytes = if nat_lt 16 (length bytes) then None else Some bytes

abbrev pub request_told : StackLabel → List ℕ → Option ℕ → Kind → ClientRequest
request_told l bytes partition kind = record {
  partition = partition;
  kind = kind;
  offset = l.offset;
  length = l.length;
  through = not (l.through == 0);
  bytes = bytes;
}

abbrev pub call_by : StackLabel → List ℕ → Option (Option ℕ) → Option Kind → Option Label
call_by l bytes None kind = None
call_by l bytes (Some partition) None = None
call_by l bytes (Some partition) (Some kind) = Some (Call l.number (request_told l bytes partition kind))

abbrev pub call_told : StackLabel → List ℕ → Option Label
call_told l bytes = call_by l bytes (partition_in l.partition) (slice_get request_kinds l.request)

abbrev pub start_by : ℕ → Option ℕ → Option (List ℕ) → Option Label
start_by piece None block = None
start_by piece (Some tag) None = None
start_by piece (Some tag) (Some block) = Some (Device (Start piece tag block))

abbrev pub start_told : StackLabel → List ℕ → Option Label
start_told l bytes = start_by (piece_told l) (byte_in l.tag) (block_in bytes)

-- how a piece came back: good, busy, or bad with its completion
abbrev pub class_told : ℕ → StackCompletion → Option Class
class_told number completion = slice_get (Good ∷ Busy ∷ Bad (completion_of completion) ∷ []) number

abbrev pub return_told : StackLabel → Option Label
return_told l = option_map (λ class. Device (Return (piece_told l) class)) (class_told l.class l.completion)

abbrev pub answer_told : StackLabel → List ℕ → Option Label
answer_told l bytes = option_map (λ status. Answer l.number status l.information bytes) (status_of l.status)

-- the label of a kind, by what C tells of it; what the kind doesn't name isn't read
abbrev pub label_by : StackLabel → List ℕ → LabelKind → Option Label
label_by l bytes which.Called = call_told l bytes
label_by l bytes which.Started = start_told l bytes
label_by l bytes which.Acted = Some (Device (Act (piece_told l) bytes))
label_by l bytes which.Faulted = Some (Device (Fault (piece_told l)))
label_by l bytes which.Returned = return_told l
label_by l bytes which.Answered = answer_told l bytes
label_by l bytes which.Cancelled = Some (Cancel l.number)
label_by l bytes which.Paused = Some Pause
label_by l bytes which.Resumed = Some Resume
label_by l bytes which.Removing = Some Remove
label_by l bytes which.Surprised = Some Surprise
label_by l bytes which.Removed = Some Removed

-- there is none where there is no such kind, or one of its numbers is out of its range
abbrev pub label_told : StackLabel → List ℕ → Option Label
label_told l bytes = option_map_or (label_by l bytes) (slice_get kinds l.kind) None

-- its line, with its end, and no text where there is no such label
abbrev pub line_told : StackLabel → List ℕ → List ℕ
line_told l bytes = option_map_or (λ label. line_of (owned label None) ++ line_end) (label_told l bytes) []

-- the line was told, or nothing where memory for it was refused
abbrev pub TellsLine : StackLabel → List ℕ → List ℕ → ℕ → List ℕ → Type 0
TellsLine l bytes before count after = IsPut (line_told l bytes) before count after ⊎ IsPut [] before count after
