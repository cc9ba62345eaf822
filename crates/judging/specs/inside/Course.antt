-- How the lines of a trace are judged, one by one.
use Rattle.std.specs.Prelude.{◌≡◌, ◌<◌, ◌≤◌, ◌+◌, ◌-◌, ◌^◌, ℕ, min, Bool, List, [], All, Option, None, Some, count_by, false, if◌then◌else◌, is_some, length, true}
use Rattle.std.specs.Io.KnownBytes.{Appends}
use Rattle.machine.specs.declared.Label.{Label}
use Rattle.trace_line.specs.declared.Line.{Line}
use Rattle.trace_reader.specs.declared.Recorded.{Recorded}
use Rattle.trace_reader.specs.declared.Reader.{Reader}
use Rattle.trace_reader.specs.Known.{KnownView}
use Rattle.trace_reader.specs.Readers.{CanRead, CantRead, after_all, read_line, reader_after}
use Rattle.judge.specs.Following.{HasTakenLines, RefusesLine, TakesLine}
use Rattle.judge.specs.Refusals.{most_readings}
use Rattle.judge.specs.declared.label_rules.Rule.{Rule}
use Rattle.judge.specs.declared.NoVerdict.{NoVerdict}
use Rattle.judge.specs.declared.NoVerdict.TheVariants.{NoMemory as WantOfMemory, Readings as TooMany}
use Rattle.judging.specs.Checked.{CanBeRead, IsFirstRefused, IsInTable, IsOutputFault, arrays_of, count_of, first_reader, is_call, is_start, judged, partition_of, refused_line, rules_by}
use Rattle.judging.specs.declared.course.Course.{Course}
use Rattle.judging.specs.declared.course.Course.TheVariants.{Legal, Refused}
use Rattle.judging.specs.declared.course.Tally.{Tally}
use Rattle.judging.specs.declared.course.Trial.{Trial}
use Rattle.judging.specs.declared.faults.Error.{Error}
use Rattle.judging.specs.declared.faults.Error.TheVariants.{BadLine, Readings, OutputFailed, NoMemory}
use Rattle.judging.specs.declared.misstep.Misstep.{Misstep}
use Rattle.judging.specs.declared.misstep.Misstep.TheVariants.{Blank, Breaks, NoPartition, Read}
use Rattle.judging.specs.declared.opened.Standard.{Standard}
use Rattle.judging.specs.declared.told.Told.{Told}
use Rattle.judging.specs.declared.told.Told.TheVariants.{Line as TellsLine, Nothing, BadWord}

-- a count with one more, where this is so and it isn't full
abbrev pub one_more : ℕ → Bool → ℕ
one_more count is_so = min (count + (if is_so then 1 else 0)) (2 ^ 64 - 1)

-- one label more is counted
pub record Tallies (old : Tally) (label : Label) (new : Tally) : Type 0 where
  pub labels_are : new.labels ≡ min (old.labels + 1) (2 ^ 64 - 1)
  pub calls_are : new.calls ≡ one_more old.calls (is_call label)
  pub starts_are : new.starts ≡ one_more old.starts (is_start label)

-- the call is in a partition that none of so many is
abbrev pub IsAbsent : ℕ → Label → ℕ → Type 0
IsAbsent count label partition = (partition_of label ≡ Some partition) × (count ≤ partition)

-- how it is told that a line breaks a rule: where some bytes were not recorded zeros stand for all
abbrev pub broken_as : Option KnownView → Rule → Misstep
broken_as None rule = Breaks rule
broken_as (Some known) rule = Blank rule

-- why the judge of a trial refuses a line
abbrev pub IsRefusedFor : Trial → Recorded → Misstep → Type 0
IsRefusedFor trial line (Breaks rule) = (is_some trial.reader.known ≡ false) × RefusesLine trial.judge (read_line trial.reader line) rule
IsRefusedFor trial line (Blank rule) = (is_some trial.reader.known ≡ true) × RefusesLine trial.judge (read_line trial.reader line) rule
IsRefusedFor trial line (NoPartition partition most) =
    (partition_of line.line.label ≡ Some partition) × (most ≡ length trial.judge.rules.partitions) × (most ≤ partition)
IsRefusedFor trial line (Read rule) = CantRead trial.reader line rule

-- the line is in the table, and can be read
pub record IsFit (trial : Trial) (line : Recorded) : Type 0 where
  pub in_table : IsInTable (length trial.judge.rules.partitions) line.line.label
  pub can_read : CanRead trial.reader line

-- the refusal of the line of this number is written
pub record SaysRefused (json : Bool) (number : ℕ) (misstep : Misstep) (a b : Option (List ℕ)) : Type 0 where
  pub more : List ℕ
  pub appends : Appends a b (refused_line json number misstep more)

-- one label more is counted
pub record IsCounted (old : Trial) (label : Label) (new : Trial) : Type 0 where
  pub same_judge : new.judge ≡ old.judge
  pub same_reader : new.reader ≡ old.reader
  pub same_form : new.json ≡ old.json
  pub counted : Tallies old.tally label new.tally

-- a line is read
pub record IsLineRead (old : Trial) (line : Recorded) (told : Line) (new : Trial) : Type 0 where
  pub same_judge : new.judge ≡ old.judge
  pub same_form : new.json ≡ old.json
  pub same_tally : new.tally ≡ old.tally
  pub reader : new.reader ≡ reader_after old.reader line
  pub is_told : told ≡ read_line old.reader line

-- the fault of a line on which there is no verdict
abbrev pub unjudged : ℕ → NoVerdict → Error
unjudged line (TooMany readings) = Readings line readings
unjudged line WantOfMemory = NoMemory

-- one line more is taken, and nothing is written
pub record IsTaken (old : Trial) (line : Recorded) (a b : Option (List ℕ)) (new : Trial) : Type 0 where
  pub same_rules : new.judge.rules ≡ old.judge.rules
  pub same_form : new.json ≡ old.json
  pub takes : TakesLine old.judge (read_line old.reader line) new.judge
  pub reader : new.reader ≡ reader_after old.reader line
  pub tallies : Tallies old.tally line.line.label new.tally
  pub fit : IsFit old line
  pub untold : b ≡ a

-- the line of this number is refused, and that is written
abbrev pub IsStopped : Bool → ℕ → Misstep → Option (List ℕ) → Option (List ℕ) → Course → Type 0
IsStopped json number misstep a b (Legal new) = ⊥
IsStopped json number misstep a b (Refused stop) = (stop.line ≡ number) × (stop.misstep ≡ misstep) × SaysRefused json number misstep a b

-- one line more is taken, or refused
abbrev pub Tries : Trial → Recorded → ℕ → Option (List ℕ) → Option (List ℕ) → Course → Type 0
Tries old line number a b (Legal new) = IsTaken old line a b new
Tries old line number a b (Refused stop) = (stop.line ≡ number) × IsRefusedFor old line stop.misstep × SaysRefused old.json number stop.misstep a b

-- why a line is neither: the judge has more readings than it follows, or what it is can't be told
abbrev pub IsStopByLine : Trial → ℕ → Option (List ℕ) → Option (List ℕ) → Error → Type 0
IsStopByLine trial number a b (Readings line readings) = (line ≡ number) × (readings ≡ length trial.judge.states) × (most_readings < readings) × (b ≡ a)
IsStopByLine trial number a b OutputFailed = Unit {0}
IsStopByLine trial number a b NoMemory = Unit {0}
IsStopByLine trial number a b _ = ⊥

-- one line more is judged
abbrev pub GoesByLine : Course → Recorded → ℕ → Option (List ℕ) → Option (List ℕ) → Course → Type 0
GoesByLine (Legal trial) line number a b new = Tries trial line number a b new
GoesByLine (Refused stop) line number a b new = (new ≡ Refused stop) × (b ≡ a)

abbrev pub IsStopOf : Course → ℕ → Option (List ℕ) → Option (List ℕ) → Error → Type 0
IsStopOf (Legal trial) number a b fault = IsStopByLine trial number a b fault
IsStopOf (Refused stop) number a b fault = ⊥

-- one line more is read, which has this number and tells this
abbrev pub GoesOn : Course → Told → ℕ → Option (List ℕ) → Option (List ℕ) → Course → Type 0
GoesOn old (TellsLine line) number a b new = GoesByLine old line number a b new
GoesOn old Nothing number a b new = (new ≡ old) × (b ≡ a)
GoesOn old (BadWord column) number a b new = ⊥

abbrev pub IsStop : Course → Told → ℕ → Option (List ℕ) → Option (List ℕ) → Error → Type 0
IsStop old (TellsLine line) number a b fault = IsStopOf old number a b fault
IsStop old Nothing number a b fault = ⊥
IsStop old (BadWord column) number a b fault = (fault ≡ BadLine number column) × (b ≡ a)

-- the judge has taken these lines over the settings' machine, and they are counted
pub record HasTried (standard : Standard) (lines : List Recorded) (trial : Trial) : Type 0 where
  pub rules_are : trial.judge.rules ≡ rules_by standard
  pub form_is : trial.json ≡ standard.asked.json
  pub taken : HasTakenLines trial.judge (arrays_of standard) (judged standard lines)
  pub reader_is : trial.reader ≡ after_all (first_reader standard) lines
  pub can_be_read : CanBeRead standard lines
  pub in_table : All (λ r. IsInTable (count_of standard) r.line.label) lines
  pub labels_are : trial.tally.labels ≡ length lines
  pub calls_are : trial.tally.calls ≡ count_by (λ r. is_call r.line.label) lines
  pub starts_are : trial.tally.starts ≡ count_by (λ r. is_start r.line.label) lines

-- no line is taken yet
abbrev pub IsOpening : Standard → Course → Type 0
IsOpening standard (Legal trial) = HasTried standard [] trial
IsOpening standard (Refused stop) = ⊥

-- what these lines come to
abbrev pub IsCourse : Standard → List Recorded → List ℕ → Option (List ℕ) → Option (List ℕ) → Course → Type 0
IsCourse standard lines numbers a b (Legal trial) = HasTried standard lines trial × (b ≡ a)
IsCourse standard lines numbers a b (Refused stop) = IsFirstRefused standard lines numbers stop.line stop.misstep × SaysRefused standard.asked.json stop.line stop.misstep a b
