-- The text of a line of a trace: words that single spaces join.
use Rattle.std.specs.Prelude.{◌≡◌, ◌≤◌, ◌<◌, ◌^◌, ◌==◌, ◌&&◌, ℕ, Bool, true, false, All, List, [], ◌∷◌, ◌++◌, Option, Some, None, codes, length, not, ⊤, if◌then◌else◌}
use Rattle.std.specs.Fmt.{decimal}
use Rattle.std.specs.List.{join_with_byte}
use Rattle.ntstatus.specs.declared.Sense.{Sense}
use Rattle.ntstatus.specs.Codes.{name_of}
use Rattle.srb.specs.declared.Class.{Class}
use Rattle.srb.specs.declared.Class.TheVariants.{Good, Busy, Bad}
use Rattle.srb.specs.declared.DeviceLabel.TheVariants.{Start, Act, Fault, Return}
use Rattle.srb.specs.declared.Kind.{Kind}
use Rattle.srb.specs.declared.Kind.TheVariants.{Read, Write, Flush}
use Rattle.machine.specs.declared.ClientRequest.{ClientRequest}
use Rattle.machine.specs.declared.Label.{Label}
use Rattle.machine.specs.declared.Label.TheVariants.{Call, Device, Answer, Cancel, Pause, Resume, Remove, Surprise, Removed}
use Rattle.trace_line.specs.declared.Line.{Line}
use Rattle.label_text.specs.Runs.{AreBytes, digits_text, hex_bytes, hex_of, runs_of, runs_text}

-- several words
abbrev pub Words : Type 0
Words = List (List ℕ)

-- the runs of bytes are a word, where there are bytes
abbrev pub runs_words : List ℕ → Words
runs_words [] = []
runs_words (byte ∷ bytes) = runs_text (runs_of (byte ∷ bytes)) ∷ []

-- so are their digits behind x
abbrev pub digits_words : List ℕ → Words
digits_words [] = []
digits_words (byte ∷ bytes) = digits_text (byte ∷ bytes) ∷ []

-- how a line tells its bytes
pub data Form : Type 0 where
  InRuns : Form
  InDigits : Form

abbrev pub bytes_words : Form → List ℕ → Words
bytes_words InRuns bytes = runs_words bytes
bytes_words InDigits bytes = digits_words bytes

-- the digits of a command block are a word, where it has bytes
abbrev pub block_words : List ℕ → Words
block_words [] = []
block_words (byte ∷ bytes) = hex_bytes (byte ∷ bytes) ∷ []

abbrev pub kind_word : Kind → List ℕ
kind_word Read = codes "read"
kind_word Write = codes "write"
kind_word Flush = codes "flush"

-- where a request begins and how long it is, in bytes; a flush tells them only where one isn't 0
abbrev pub extent_words : Kind → ℕ → ℕ → Words
extent_words Read offset bytes = decimal offset ∷ decimal bytes ∷ []
extent_words Write offset bytes = decimal offset ∷ decimal bytes ∷ []
extent_words Flush offset bytes = if (offset == 0) && (bytes == 0) then [] else codes "at" ∷ decimal offset ∷ decimal bytes ∷ []

abbrev pub through_words : Bool → Words
through_words true = codes "through" ∷ []
through_words false = []

-- the number of a partition, or - where the handle of a call isn't open
abbrev pub partition_word : Option ℕ → List ℕ
partition_word None = codes "-"
partition_word (Some partition) = decimal partition

-- the words of a call behind its number
abbrev pub request_words_as : Form → ClientRequest → Words
request_words_as form q =
    kind_word q.kind ∷ (extent_words q.kind q.offset q.length
    ++ (through_words q.through ++ (codes "in" ∷ partition_word q.partition ∷ bytes_words form q.bytes)))

abbrev pub request_words : ClientRequest → Words
request_words q = request_words_as InRuns q

abbrev pub sense_words : Option Sense → Words
sense_words None = []
sense_words (Some sense) = hex_of sense.key ∷ hex_of sense.asc ∷ hex_of sense.ascq ∷ []

abbrev pub class_word : Class → List ℕ
class_word Good = codes "good"
class_word Busy = codes "busy"
class_word (Bad completion) = codes "bad"

abbrev pub class_words : Class → Words
class_words Good = codes "good" ∷ []
class_words Busy = codes "busy" ∷ []
class_words (Bad completion) = codes "bad" ∷ hex_of completion.srb_status ∷ hex_of completion.scsi_status ∷ sense_words completion.sense

-- behind a start the request that its piece is of, where the line tells it
abbrev pub owner_words : Option ℕ → Words
owner_words None = []
owner_words (Some owner) = codes "of" ∷ decimal owner ∷ []

-- the first word of a line
abbrev pub verb_of : Label → List ℕ
verb_of (Call number request) = codes "call"
verb_of (Device (Start piece tag block)) = codes "start"
verb_of (Device (Act piece bytes)) = codes "act"
verb_of (Device (Fault piece)) = codes "fault"
verb_of (Device (Return piece class)) = codes "return"
verb_of (Answer number status information bytes) = codes "answer"
verb_of (Cancel number) = codes "cancel"
verb_of Pause = codes "pause"
verb_of Resume = codes "resume"
verb_of Remove = codes "remove"
verb_of Surprise = codes "surprise"
verb_of Removed = codes "removed"

-- the other words of a line
abbrev pub words_behind_as : Form → Label → Option ℕ → Words
words_behind_as form (Call number request) owner = decimal number ∷ request_words_as form request
words_behind_as form (Device (Start piece tag block)) owner = decimal piece ∷ codes "tag" ∷ decimal tag ∷ (block_words block ++ owner_words owner)
words_behind_as form (Device (Act piece bytes)) owner = decimal piece ∷ bytes_words form bytes
words_behind_as form (Device (Fault piece)) owner = decimal piece ∷ []
words_behind_as form (Device (Return piece class)) owner = decimal piece ∷ class_words class
words_behind_as form (Answer number status information bytes) owner = decimal number ∷ name_of status ∷ decimal information ∷ bytes_words form bytes
words_behind_as form (Cancel number) owner = decimal number ∷ []
words_behind_as form Pause owner = []
words_behind_as form Resume owner = []
words_behind_as form Remove owner = []
words_behind_as form Surprise owner = []
words_behind_as form Removed owner = []

abbrev pub words_behind : Label → Option ℕ → Words
words_behind label owner = words_behind_as InRuns label owner

abbrev pub words_as : Form → Line → Words
words_as form line = verb_of line.label ∷ words_behind_as form line.label line.owner

abbrev pub words_of : Line → Words
words_of line = words_as InRuns line

-- a line of a label, and of the request that its piece is of, where it tells that
abbrev pub owned : Label → Option ℕ → Line
owned label owner = record { label = label; owner = owner }

-- the text of a line, without its end
abbrev pub line_as : Form → Line → List ℕ
line_as form line = join_with_byte 32 (words_as form line)

-- as it is written: in runs
abbrev pub line_of : Line → List ℕ
line_of line = line_as InRuns line

-- the end of a line
abbrev pub line_end : List ℕ
line_end = 10 ∷ []

-- IN SHORT: of a call the number, the kind and the extent, of a piece that came back how it did, and bytes of answers alone

-- a write tells whether it goes through
abbrev pub short_extent : Kind → ClientRequest → Words
short_extent Read q = decimal q.offset ∷ decimal q.length ∷ []
short_extent Write q = decimal q.offset ∷ decimal q.length ∷ through_words q.through
short_extent Flush q = []

abbrev pub short_words : Label → Words
short_words (Call number q) = decimal number ∷ kind_word q.kind ∷ short_extent q.kind q
short_words (Device (Act piece bytes)) = decimal piece ∷ []
short_words (Device (Return piece class)) = decimal piece ∷ class_word class ∷ []
short_words label = words_behind label None

-- a label in short, without the end of its line
abbrev pub short_line_of : Label → List ℕ
short_line_of label = join_with_byte 32 (verb_of label ∷ short_words label)

-- WHAT FITS: the numbers of a label are no larger than their types

abbrev pub PartitionFits : Option ℕ → Type 0
PartitionFits None = ⊤
PartitionFits (Some partition) = partition < 2 ^ 8

pub record RequestFits (q : ClientRequest) : Type 0 where
  pub offset : q.offset < 2 ^ 64
  pub bytes_long : q.length < 2 ^ 64
  pub partition : PartitionFits q.partition
  pub bytes : AreBytes q.bytes

abbrev pub SenseFits : Option Sense → Type 0
SenseFits None = ⊤
SenseFits (Some sense) = (sense.key < 2 ^ 8) × (sense.asc < 2 ^ 8) × (sense.ascq < 2 ^ 8)

abbrev pub ClassFits : Class → Type 0
ClassFits Good = ⊤
ClassFits Busy = ⊤
ClassFits (Bad completion) = (completion.srb_status < 2 ^ 8) × (completion.scsi_status < 2 ^ 8) × SenseFits completion.sense

-- at most sixteen bytes
abbrev pub BlockFits : List ℕ → Type 0
BlockFits block = (length block ≤ 16) × All (λ byte. byte < 2 ^ 8) block

abbrev pub Fits : Label → Type 0
Fits (Call number request) = (number < 2 ^ 64) × RequestFits request
Fits (Device (Start piece tag block)) = (piece < 2 ^ 128) × (tag < 2 ^ 8) × BlockFits block
Fits (Device (Act piece bytes)) = (piece < 2 ^ 128) × AreBytes bytes
Fits (Device (Fault piece)) = piece < 2 ^ 128
Fits (Device (Return piece class)) = (piece < 2 ^ 128) × ClassFits class
Fits (Answer number status information bytes) = (number < 2 ^ 64) × (information < 2 ^ 64) × AreBytes bytes
Fits (Cancel number) = number < 2 ^ 64
Fits Pause = ⊤
Fits Resume = ⊤
Fits Remove = ⊤
Fits Surprise = ⊤
Fits Removed = ⊤

abbrev pub OwnerIsSmall : Option ℕ → Type 0
OwnerIsSmall None = ⊤
OwnerIsSmall (Some owner) = owner < 2 ^ 64

-- only a start has an owner
abbrev pub OwnerFits : Label → Option ℕ → Type 0
OwnerFits (Device (Start piece tag block)) owner = OwnerIsSmall owner
OwnerFits _ owner = owner ≡ None

-- a text spells a line of a trace
pub record Spells (text : List ℕ) (line : Line) : Type 0 where
  pub form : Form
  pub is : text ≡ line_as form line
  pub fits : Fits line.label
  pub owner_fits : OwnerFits line.label line.owner

-- a line of a trace tells a label: it is neither empty nor a remark, which begins with #
abbrev pub is_told : List ℕ → Bool
is_told [] = false
is_told (b ∷ bs) = not (b == 35)
