-- What is read of words, one after the other. It is proved that a label is written as what is read as this label.
use denote.Ref.{Bor}
use Rattle.std.specs.Prelude.{◌≡◌, ◌<◌, ℕ, ◌+◌, ◌-◌, ◌*◌, ◌^◌, ◌==◌, ◌&&◌, ◌||◌, not, nat_lt, nat_le, Bool, false, List, [], ◌∷◌, ◌++◌, Option, Some, None, codes, drop, length, replicate, slice_get, is_none, if◌then◌else◌}
use Rattle.std.specs.Fmt.{decimal}
use Rattle.std.specs.List.{position, slice_split}
use Rattle.std.specs.Option.{option_and_then, option_copied, option_map}
use Rattle.std.specs.Str.{bytes_eq}
use Rattle.std.specs.Str.Parse.{digits_value}
use Rattle.ntstatus.specs.declared.NtStatus.{NtStatus}
use Rattle.ntstatus.specs.declared.NtStatus.TheVariants as status
use Rattle.ntstatus.specs.declared.Sense.{Sense}
use Rattle.ntstatus.specs.Codes.{name_of}
use Rattle.srb.specs.declared.Class.{Class}
use Rattle.srb.specs.declared.Completion.{Completion}
use Rattle.srb.specs.declared.Class.TheVariants.{Good, Busy, Bad}
use Rattle.srb.specs.declared.DeviceLabel.TheVariants.{Start, Act, Fault, Return}
use Rattle.srb.specs.declared.Kind.{Kind}
use Rattle.srb.specs.declared.Kind.TheVariants.{Read, Write, Flush}
use Rattle.machine.specs.declared.ClientRequest.{ClientRequest}
use Rattle.machine.specs.declared.Label.{Label}
use Rattle.machine.specs.declared.Label.TheVariants.{Call, Device, Answer, Cancel, Pause, Resume, Remove, Surprise, Removed}
use Rattle.trace_line.specs.declared.Line.{Line}
use Rattle.label_text.specs.Runs.{Run, most_bytes}
use Rattle.label_text.specs.Lines.{Words, owned}
use Rattle.label_text.specs.declared.reading.Head.{Head}
use Rattle.label_text.specs.declared.runs.Run.{Run as TakenRun}

-- the parts of a text between these bytes
abbrev pub parted : ℕ → List ℕ → Words
parted separator text = slice_split (λ b. b == separator) text

-- what is left of a text, as its parts
abbrev pub parts_left : ℕ → Option (List ℕ) → Words
parts_left separator None = []
parts_left separator (Some text) = parted separator text

-- the first part of a text, and what is left behind it
abbrev pub SplitsFirst : ℕ → List ℕ → Bor (List ℕ) × Option (Bor (List ℕ)) → Type 0
SplitsFirst separator text x = parted separator text ≡ x.0.now ∷ parts_left separator (option_copied x.1)

-- the first part of what is left of a text, and what is left behind it
abbrev pub TakesFirst : ℕ → Option (Bor (List ℕ)) → Option (Bor (List ℕ) × Option (Bor (List ℕ))) → Type 0
TakesFirst separator rest None = parts_left separator (option_copied rest) ≡ []
TakesFirst separator rest (Some x) = parts_left separator (option_copied rest) ≡ x.0.now ∷ parts_left separator (option_copied x.1)

-- A WORD

-- the number below 2^bits of which the word is the decimal digits
abbrev pub number_in : ℕ → List ℕ → Option ℕ
number_in bits word =
    if nat_lt (digits_value 10 word) (2 ^ bits) && bytes_eq (decimal (digits_value 10 word)) word then Some (digits_value 10 word) else None

-- the value of a hexadecimal digit in lower case
abbrev pub digit_in : ℕ → Option ℕ
digit_in c = if nat_le 48 c && nat_le c 57 then Some (c - 48) else (if nat_le 97 c && nat_le c 102 then Some (c - 97 + 10) else None)

-- the byte of two hexadecimal digits
abbrev pub byte_of : ℕ → ℕ → Option ℕ
byte_of high low = option_and_then (λ h. option_map (λ l. h * 16 + l) (digit_in low)) (digit_in high)

abbrev pub byte_in : List ℕ → Option ℕ
byte_in (high ∷ low ∷ []) = byte_of high low
byte_in _ = None

-- the bytes of digits, two by two
abbrev pub bytes_in : List ℕ → Option (List ℕ)
bytes_in [] = Some []
bytes_in (high ∷ []) = None
bytes_in (high ∷ low ∷ digits) = option_and_then (λ byte. option_map (λ bytes. byte ∷ bytes) (bytes_in digits)) (byte_of high low)

-- THE NEXT WORD OF SEVERAL

abbrev pub word_at : Words → Option (List ℕ)
word_at words = slice_get words 0

abbrev pub number_at : ℕ → Words → Option ℕ
number_at bits words = option_and_then (number_in bits) (word_at words)

abbrev pub byte_at : Words → Option ℕ
byte_at words = option_and_then byte_in (word_at words)

-- the next word is this one
abbrev pub is_next : List ℕ → Words → Bool
is_next word words = elim (word_at words) [ Some first ↦ bytes_eq first word | None ↦ false ]

-- the words behind this one, where it is the next
abbrev pub behind : List ℕ → Words → Words
behind word words = if is_next word words then drop 1 words else words

-- no word is left
abbrev pub is_end : Words → Bool
is_end words = is_none (word_at words)

-- what was found, where no word is left
abbrev pub at_end : {X : Type 0} → Words → Option X → Option X
at_end words found = if is_end words then found else None

-- THE RUNS OF BYTES

-- a run in the words of the definitions
abbrev pub run_told : TakenRun → Run
run_told run = record { byte = run.byte; count = run.count }

-- a run of the words on both sides of its *
abbrev pub run_at : Words → Option Run
run_at words = option_and_then
    (λ byte. option_and_then (λ count. at_end (drop 1 (drop 1 words)) (Some (record { byte = byte; count = count }))) (number_at 64 (drop 1 words)))
    (byte_at words)

abbrev pub run_in : List ℕ → Option Run
run_in part = run_at (parted 42 part)

-- the byte before is this one
abbrev pub is_last : Option ℕ → ℕ → Bool
is_last None byte = false
is_last (Some last) byte = last == byte

-- a run that may follow that byte: it has bytes, and other ones
abbrev pub may_follow : Option ℕ → Run → Bool
may_follow last run = not (run.count == 0) && not (is_last last run.byte)

-- the bytes of the runs that may follow a byte
abbrev pub bytes_after : Option ℕ → Words → Option (List ℕ)
bytes_after last [] = Some []
bytes_after last (part ∷ parts) = option_and_then
    (λ (run : Run). if may_follow last run then option_map (λ bytes. replicate run.count run.byte ++ bytes) (bytes_after (Some run.byte) parts) else None)
    (run_in part)

-- no more bytes than a label can have
abbrev pub few_bytes : List ℕ → Option (List ℕ)
few_bytes bytes = if nat_le (length bytes) most_bytes then Some bytes else None

abbrev pub runs_in : List ℕ → Option (List ℕ)
runs_in word = option_and_then few_bytes (bytes_after None (parted 44 word))

-- the bytes of digits: some, and no more than a label can have
abbrev pub digits_in : List ℕ → Option (List ℕ)
digits_in digits = if length digits == 0 then None else option_and_then few_bytes (bytes_in digits)

-- the bytes of digits behind x, or of runs
abbrev pub bytes_of : List ℕ → Option (List ℕ)
bytes_of [] = runs_in []
bytes_of (first ∷ digits) = if first == 120 then digits_in digits else runs_in (first ∷ digits)

-- the bytes that are the last word, or none where no word is left
abbrev pub bytes_at : Words → Option (List ℕ)
bytes_at words = elim (word_at words) [ Some word ↦ at_end (drop 1 words) (bytes_of word) | None ↦ Some [] ]

-- a number below 16 is the value of a digit
abbrev pub digit_told : ℕ → Option ℕ
digit_told value = if nat_lt value 16 then Some value else None

-- what is left of a text, of which these are the parts: no digit and no letter parts them
pub record HasLeft (words : Words) (text : List ℕ) : Type 0 where
  pub separator : ℕ
  pub small : separator < 48
  pub parts : words ≡ parted separator text

-- the next word does not begin with this byte
abbrev pub IsOther : ℕ → Words → Type 0
IsOther first words = (rest : List ℕ) → word_at words ≡ Some (first ∷ rest) → ⊥

-- CALLS

abbrev pub kind_in : List ℕ → Option Kind
kind_in word = if bytes_eq word (codes "read") then Some Read
    else (if bytes_eq word (codes "write") then Some Write else (if bytes_eq word (codes "flush") then Some Flush else None))

-- an offset and a length
abbrev pub two_at : Words → Option (ℕ × ℕ)
two_at words = option_and_then (λ offset. option_map (λ bytes. (offset, bytes)) (number_at 64 (drop 1 words))) (number_at 64 words)

-- a flush tells where it begins and how long it is: one of them isn't 0
abbrev pub is_some_extent : ℕ × ℕ → Bool
is_some_extent extent = not ((extent.0 == 0) && (extent.1 == 0))

abbrev pub flushed_at : Words → Option (ℕ × ℕ)
flushed_at words = option_and_then (λ extent. if is_some_extent extent then Some extent else None) (two_at words)

abbrev pub extent_at : Kind → Words → Option (ℕ × ℕ)
extent_at Read words = two_at words
extent_at Write words = two_at words
extent_at Flush words = if is_next (codes "at") words then flushed_at (drop 1 words) else Some (0, 0)

abbrev pub behind_extent : Kind → Words → Words
behind_extent Read words = drop 1 (drop 1 words)
behind_extent Write words = drop 1 (drop 1 words)
behind_extent Flush words = if is_next (codes "at") words then drop 1 (drop 1 (drop 1 words)) else words

abbrev pub partition_in : List ℕ → Option (Option ℕ)
partition_in word = if bytes_eq word (codes "-") then Some None else option_map (λ partition. Some partition) (number_in 8 word)

-- the partition that stands behind the word in
abbrev pub in_partition_at : Words → Option (Option ℕ)
in_partition_at words = if is_next (codes "in") words then option_and_then partition_in (word_at (drop 1 words)) else None

-- what stands before the bytes of a call and behind its kind
abbrev pub placed_at : Kind → Words → Option Head
placed_at kind words = option_and_then
    (λ extent. option_map
    (λ partition. record {
      partition = partition;
      kind = kind;
      offset = extent.0;
      length = extent.1;
      through = is_next (codes "through") (behind_extent kind words);
    })
    (in_partition_at (behind (codes "through") (behind_extent kind words))))
    (extent_at kind words)

abbrev pub behind_placed : Kind → Words → Words
behind_placed kind words = drop 1 (drop 1 (behind (codes "through") (behind_extent kind words)))

-- the head of a request: all of it but its bytes
abbrev pub head_at : Words → Option Head
head_at words = option_and_then (λ kind. placed_at kind (drop 1 words)) (option_and_then kind_in (word_at words))

abbrev pub behind_head : Words → Words
behind_head words = elim (option_and_then kind_in (word_at words)) [ Some kind ↦ behind_placed kind (drop 1 words) | None ↦ [] ]

-- a request, by its head and its bytes
abbrev pub with_bytes : Head → List ℕ → ClientRequest
with_bytes h bytes = record { partition = h.partition; kind = h.kind; offset = h.offset; length = h.length; through = h.through; bytes = bytes }

abbrev pub call_at : Words → Option Label
call_at words = option_and_then
    (λ number. option_and_then (λ h. option_map (λ bytes. Call number (with_bytes h bytes)) (bytes_at (behind_head (drop 1 words)))) (head_at (drop 1 words)))
    (number_at 64 words)

-- WHAT AN ADAPTER RECORDS

-- the bytes of a command block, at most sixteen
abbrev pub short_block : List ℕ → Option (List ℕ)
short_block bytes = if nat_le (length bytes) 16 then Some bytes else None

abbrev pub block_in : List ℕ → Option (List ℕ)
block_in word = if length word == 0 then None else option_and_then short_block (bytes_in word)

-- the next word is no command block: it is the word of, or there is none
abbrev pub is_no_block : Words → Bool
is_no_block words = is_end words || is_next (codes "of") words

abbrev pub block_at : Words → Option (List ℕ)
block_at words = if is_no_block words then Some [] else option_and_then block_in (word_at words)

abbrev pub behind_block : Words → Words
behind_block words = if is_no_block words then words else drop 1 words

-- the request behind the word of, which are the last words, or none where no word is left
abbrev pub owner_at : Words → Option (Option ℕ)
owner_at words =
    if is_next (codes "of") words
    then option_and_then (λ owner. at_end (drop 1 (drop 1 words)) (Some (Some owner))) (number_at 64 (drop 1 words))
    else at_end words (Some None)

abbrev pub tag_at : Words → Option ℕ
tag_at words = if is_next (codes "tag") words then number_at 8 (drop 1 words) else None

-- a start without its owner
abbrev pub start_at : Words → Option Label
start_at words = option_and_then
    (λ piece. option_and_then (λ tag. option_map (λ block. Device (Start piece tag block)) (block_at (drop 1 (drop 1 (drop 1 words))))) (tag_at (drop 1 words)))
    (number_at 128 words)

abbrev pub behind_start : Words → Words
behind_start words = behind_block (drop 1 (drop 1 (drop 1 words)))

abbrev pub owned_start_at : Words → Option Line
owned_start_at words = option_and_then (λ label. option_map (owned label) (owner_at (behind_start words))) (start_at words)

abbrev pub act_at : Words → Option Label
act_at words = option_and_then (λ piece. option_map (λ bytes. Device (Act piece bytes)) (bytes_at (drop 1 words))) (number_at 128 words)

abbrev pub fault_at : Words → Option Label
fault_at words = option_and_then (λ piece. at_end (drop 1 words) (Some (Device (Fault piece)))) (number_at 128 words)

-- the two bytes behind the first of a sense
abbrev pub sense_behind : ℕ → Words → Option Sense
sense_behind key words = option_and_then
    (λ asc. option_and_then
    (λ ascq. at_end (drop 1 (drop 1 words)) (Some (record { key = key; asc = asc; ascq = ascq })))
    (byte_at (drop 1 words)))
    (byte_at words)

abbrev pub sense_from : List ℕ → Words → Option (Option Sense)
sense_from word words = option_and_then (λ key. option_map (λ sense. Some sense) (sense_behind key words)) (byte_in word)

abbrev pub sense_at : Words → Option (Option Sense)
sense_at words = elim (word_at words) [ Some word ↦ sense_from word (drop 1 words) | None ↦ Some None ]

abbrev pub completion_at : Words → Option Completion
completion_at words = option_and_then
    (λ srb. option_and_then
    (λ scsi. option_map (λ sense. record { srb_status = srb; scsi_status = scsi; sense = sense }) (sense_at (drop 1 (drop 1 words))))
    (byte_at (drop 1 words)))
    (byte_at words)

abbrev pub class_by : List ℕ → Words → Option Class
class_by word words = if bytes_eq word (codes "good") then at_end words (Some Good)
    else (if bytes_eq word (codes "busy") then at_end words (Some Busy)
    else (if bytes_eq word (codes "bad") then option_map (λ completion. Bad completion) (completion_at words) else None))

abbrev pub class_at : Words → Option Class
class_at words = option_and_then (λ word. class_by word (drop 1 words)) (word_at words)

abbrev pub return_at : Words → Option Label
return_at words = option_and_then (λ piece. option_map (λ class. Device (Return piece class)) (class_at (drop 1 words))) (number_at 128 words)

-- ANSWERS

abbrev pub statuses : List NtStatus
statuses = status.Success ∷ status.Pending ∷ status.DeviceBusy ∷ status.InvalidHandle ∷ status.InvalidParameter ∷ status.NoSuchDevice
    ∷ status.InvalidDeviceRequest ∷ status.NonexistentSector ∷ status.MoreProcessingRequired ∷ status.DeletePending ∷ status.InsufficientResources
    ∷ status.DeviceDataError ∷ status.MediaWriteProtected ∷ status.DeviceNotReady ∷ status.Cancelled ∷ status.IoDeviceError ∷ status.NotFound ∷ []

-- the place of the first that has this name
abbrev pub place_of : List ℕ → List NtStatus → Option ℕ
place_of word statuses = position (λ s. bytes_eq (name_of s) word) statuses

abbrev pub named : List ℕ → List NtStatus → Option NtStatus
named word statuses = option_and_then (λ at. slice_get statuses at) (place_of word statuses)

abbrev pub status_in : List ℕ → Option NtStatus
status_in word = named word statuses

-- a status and a number of bytes
abbrev pub outcome_at : Words → Option (NtStatus × ℕ)
outcome_at words = option_and_then
    (λ s. option_map (λ information. (s, information)) (number_at 64 (drop 1 words)))
    (option_and_then status_in (word_at words))

abbrev pub answer_at : Words → Option Label
answer_at words = option_and_then
    (λ number. option_and_then
    (λ outcome. option_map (λ bytes. Answer number outcome.0 outcome.1 bytes) (bytes_at (drop 1 (drop 1 (drop 1 words)))))
    (outcome_at (drop 1 words)))
    (number_at 64 words)

-- LABELS

abbrev pub cancel_at : Words → Option Label
cancel_at words = option_and_then (λ number. at_end (drop 1 words) (Some (Cancel number))) (number_at 64 words)

-- a label by the word that it begins with, where it has no bytes
abbrev pub short_by : List ℕ → Words → Option Label
short_by verb words = if bytes_eq verb (codes "fault") then fault_at words
    else (if bytes_eq verb (codes "return") then return_at words
    else (if bytes_eq verb (codes "cancel") then cancel_at words
    else (if bytes_eq verb (codes "pause") then at_end words (Some Pause)
    else (if bytes_eq verb (codes "resume") then at_end words (Some Resume)
    else (if bytes_eq verb (codes "remove") then at_end words (Some Remove)
    else (if bytes_eq verb (codes "surprise") then at_end words (Some Surprise)
    else (if bytes_eq verb (codes "removed") then at_end words (Some Removed) else None)))))))

-- any label but a start, by the word that it begins with
abbrev pub label_by : List ℕ → Words → Option Label
label_by verb words = if bytes_eq verb (codes "call") then call_at words
    else (if bytes_eq verb (codes "act") then act_at words
    else (if bytes_eq verb (codes "answer") then answer_at words else short_by verb words))

-- LINES

-- a label without an owner
abbrev pub bare : Label → Line
bare label = owned label None

abbrev pub line_by : List ℕ → Words → Option Line
line_by verb words = if bytes_eq verb (codes "start") then owned_start_at words else option_map bare (label_by verb words)

abbrev pub line_at : Words → Option Line
line_at words = option_and_then (λ verb. line_by verb (drop 1 words)) (word_at words)

-- the line of a trace that a text is
abbrev pub line_in : List ℕ → Option Line
line_in text = line_at (parted 32 text)
