-- What is said of a trace, and why nothing is.
use Rattle.std.specs.Prelude.{◌≡◌, ◌≢◌, ◌⊎◌, ◌<◌, ◌≤◌, ◌+◌, ℕ, ◌==◌, ◌&&◌, ◌||◌, Bool, true, false, List, [], ◌∷◌, ◌++◌, All, Any, Option, None, Some, codes, count_by, if◌then◌else◌, length, map, not, slice_get}
use Rattle.std.specs.Fmt.{decimal}
use Rattle.std.specs.List.{list_any}
use Rattle.std.specs.Io.KnownBytes.{Appends}
use Rattle.std.specs.Str.Lines.{lines}
use Rattle.sector.specs.declared.Extent.{Extent}
use Rattle.srb.specs.declared.DeviceLabel.TheVariants.{Start}
use Rattle.machine.specs.declared.Label.{Label}
use Rattle.machine.specs.declared.Label.TheVariants.{Call, Device}
use Rattle.machine.specs.State.{State, opening}
use Rattle.machine.specs.Rules.{Rules}
use Rattle.trace_line.specs.declared.Line.{Line}
use Rattle.trace_reader.specs.declared.Recorded.{Recorded}
use Rattle.trace_reader.specs.declared.Reader.{Reader}
use Rattle.trace_reader.specs.Known.{KnownView}
use Rattle.trace_reader.specs.Readers.{CanReadAll, CantRead, after_all, read_all, read_line, read_text}
use Rattle.judge.specs.Judging.{AreLinesReached, IsLineRun}
use Rattle.judge.specs.Following.{IsLineRefused}
use Rattle.judge.specs.LeftUndone.{IsSettled}
use Rattle.judge.specs.Refusals.{most_readings}
use Rattle.judge.specs.RuleTexts.{rule_text}
use Rattle.judge.specs.declared.label_rules.AnswerRule.TheVariants as answer_rules
use Rattle.judge.specs.declared.label_rules.Difference.{Difference}
use Rattle.judge.specs.declared.label_rules.Rule.{Rule}
use Rattle.judge.specs.declared.label_rules.Rule.TheVariants as rules
use Rattle.trace_tags.specs.Tags.{TagsView}
use Rattle.settings.specs.declared.Config.{Config}
use Rattle.settings.specs.Medium.{extents_of, zeros}
use Rattle.startup.specs.Reading.{IsAllOf}
use Rattle.startup.specs.Started.{rules_of}
use Rattle.startup.specs.declared.ending.Verdict.{Verdict}
use Rattle.startup.specs.declared.ending.Verdict.TheVariants.{Passed, Failed}
use Rattle.judging.specs.Told.{AreTold, AreToldFirst, IsFirstBad}
use Rattle.judging.specs.declared.misstep.Misstep.{Misstep}
use Rattle.judging.specs.declared.misstep.Misstep.TheVariants.{Blank, Breaks, NoPartition, Read}
use Rattle.judging.specs.declared.opened.Standard.{Standard}
use Rattle.judge_words.specs.declared.asked.Asked.{Asked}
use Rattle.judging.specs.declared.faults.Error.{Error}
use Rattle.judging.specs.declared.faults.Error.TheVariants.{Usage, Startup, TraceUnreadable, ScriptUnreadable, BadLine, NoLabel, Readings, Script, OutputFailed, NoMemory}

-- the partitions: those of the settings, or one that is the whole disk, where that is asked for
abbrev pub extents_by : Standard → List Extent
extents_by standard = if standard.asked.whole_disk then record { first = 0; count = standard.config.sectors } ∷ [] else extents_of standard.config

-- the sectors of each partition: zeros
abbrev pub arrays_of : Standard → List (List (List ℕ))
arrays_of standard = map (λ extent. zeros standard.config extent.count) (extents_by standard)

-- how many tags there are, and how many requests may be open
abbrev pub depth_by : Config → Asked → ℕ
depth_by config asked = if asked.many then 256 else config.depth

abbrev pub open_by : Config → Asked → ℕ
open_by config asked = if asked.many then 4096 else config.open_requests

-- the rules that a trace is judged by: those of the settings, but for what is asked
abbrev pub rules_by : Standard → Rules
rules_by standard = record (rules_of standard.config) {
  partitions = extents_by standard;
  depth = depth_by standard.config standard.asked;
  open_requests = Some (open_by standard.config standard.asked);
  any_cut = standard.asked.any_cut;
  faithful = not (standard.asked.any_read || standard.asked.gaps);
}

-- the machine before its first label
abbrev pub opening_of : Standard → State
opening_of standard = opening (arrays_of standard)

-- the tags of an adapter that has so many, before the first line, where any free one will do
abbrev pub tags_for : Asked → ℕ → Option TagsView
tags_for asked depth = if asked.any_tag then Some (record { depth = depth; out = [] }) else None

-- what is known of bytes before the first line, where some were not recorded: the sectors are zeros
abbrev pub first_known : Standard → KnownView
first_known standard = record {
  size = standard.config.sector_size;
  partitions = extents_by standard;
  asked = [];
  sent = [];
  moved = [];
  sectors = zeros standard.config standard.config.sectors;
}

-- how the first line is read
abbrev pub first_reader : Standard → Reader
first_reader standard = record {
  tags = tags_for standard.asked (rules_by standard).depth;
  known = if standard.asked.gaps then Some (first_known standard) else None;
}

-- the lines that are judged: where any free tag will do each start has the lowest in place of its own, and where bytes were not recorded
-- zeros stand for all
abbrev pub judged : Standard → List Recorded → List Line
judged standard lines = read_all (first_reader standard) lines

-- where any free tag will do, each start's own is free; bytes are not otherwise than what was told, and none is missing but where some were
-- not recorded
abbrev pub CanBeRead : Standard → List Recorded → Type 0
CanBeRead standard lines = CanReadAll (first_reader standard) lines

abbrev pub is_call : Label → Bool
is_call (Call number request) = true
is_call _ = false

-- the label is the start of a piece
abbrev pub is_start : Label → Bool
is_start (Device (Start piece tag block)) = true
is_start _ = false

-- the partition of a call whose handle is open
abbrev pub partition_of : Label → Option ℕ
partition_of (Call number request) = request.partition
partition_of _ = None

abbrev pub IsBelow : ℕ → Option ℕ → Type 0
IsBelow count None = Unit {0}
IsBelow count (Some partition) = partition < count

-- a call is in one of so many partitions, or has no open handle
abbrev pub IsInTable : ℕ → Label → Type 0
IsInTable count label = IsBelow count (partition_of label)

abbrev pub count_of : Standard → ℕ
count_of standard = length (extents_by standard)

-- LINES THAT ARE A RUN

-- the state has no open request, and no piece at the adapter
abbrev pub has_ended : State → Bool
has_ended s = (length s.requests == 0) && (length s.pieces == 0)

-- of the states that lines lead to, one has what is asked for
pub record Meets (asked : Asked) (rules : Rules) (states : List State) : Type 0 where
  pub settled : asked.settled ≡ true → Any (IsSettled rules) states
  pub ended : asked.ended ≡ true → list_any has_ended states ≡ true

-- what is said of lines that are a run, by their counts, with what they leave: a line, or a JSON object
abbrev pub legal_by : Bool → ℕ → ℕ → ℕ → List ℕ → List ℕ
legal_by false labels calls starts left =
    codes "legal: " ++ (decimal labels ++ (codes " labels, " ++ (decimal calls ++ (codes " requests, " ++ (decimal starts ++ (codes " pieces" ++ (left ++ 10 ∷ [])))))))
legal_by true labels calls starts left =
    codes "{\"verdict\": \"legal\", \"labels\": " ++ (decimal labels ++ (codes ", \"requests\": " ++ (decimal calls ++ (codes ", \"pieces\": " ++ (decimal starts ++ (left ++ codes "}\n"))))))

abbrev pub legal_line : Bool → List Recorded → List ℕ → List ℕ
legal_line json lines left = legal_by json (length lines) (count_by (λ r. is_call r.line.label) lines) (count_by (λ r. is_start r.line.label) lines) left

abbrev pub IsPassedIf : Type 0 → Verdict → Type 0
IsPassedIf P Passed = P
IsPassedIf P Failed = ¬ P

-- there are lines, they are a run in the partitions that are there, and the verdict goes by what is asked for
pub record IsLegal (standard : Standard) (lines : List Recorded) (verdict : Verdict) (said : List ℕ) : Type 0 where
  pub some_label : lines ≢ []
  pub states : List State
  pub reached : AreLinesReached (rules_by standard) (opening_of standard) (judged standard lines) states
  pub can_be_read : CanBeRead standard lines
  pub some_state : 0 < length states
  pub in_table : All (λ r. IsInTable (count_of standard) r.line.label) lines
  pub verdict_is : IsPassedIf (Meets standard.asked (rules_by standard) states) verdict
  pub left : List ℕ
  pub line : said ≡ legal_line standard.asked.json lines left

-- A LINE THAT IS REFUSED

-- the line behind these is no step, and breaks the rule
abbrev pub BreaksRule : Standard → List Recorded → Recorded → Rule → Type 0
BreaksRule standard before line rule =
    IsLineRefused (rules_by standard) (arrays_of standard) (judged standard before) (read_line (after_all (first_reader standard) before) line) rule

-- it is no step, as it is judged or with zeros for its bytes; or it is a call in a partition that isn't there; or it can't
-- be read
abbrev pub IsMisstep : Standard → List Recorded → Recorded → Misstep → Type 0
IsMisstep standard before line (Breaks rule) = (standard.asked.gaps ≡ false) × BreaksRule standard before line rule
IsMisstep standard before line (Blank rule) = (standard.asked.gaps ≡ true) × BreaksRule standard before line rule
IsMisstep standard before line (NoPartition partition count) =
    (partition_of line.line.label ≡ Some partition) × (count ≡ count_of standard) × (count ≤ partition)
IsMisstep standard before line (Read rule) = CantRead (after_all (first_reader standard) before) line rule

-- the lines before are a run in the partitions that are there, and the one of this number is refused
pub record IsFirstRefused (standard : Standard) (lines : List Recorded) (numbers : List ℕ) (number : ℕ) (misstep : Misstep) : Type 0 where
  pub before : List Recorded
  pub line : Recorded
  pub after : List Recorded
  pub split : lines ≡ before ++ line ∷ after
  pub is_number : slice_get numbers (length before) ≡ Some number
  pub run : IsLineRun (rules_by standard) (opening_of standard) (judged standard before)
  pub can_be_read : CanBeRead standard before
  pub in_table : All (λ r. IsInTable (count_of standard) r.line.label) before
  pub is_misstep : IsMisstep standard before line misstep

-- the first byte of an answer that differs from what is due, if a rule says that
abbrev pub bytes_handed : Rule → Option Difference
bytes_handed (rules.Answer (answer_rules.Bytes difference)) = Some difference
bytes_handed _ = None

-- an answer has too few bytes, or too many
abbrev pub count_as : ℕ → Option ℕ → List ℕ
count_as at (Some due) = codes "the bytes of the answer: byte " ++ (decimal at ++ codes " is missing")
count_as at None = codes "the bytes of the answer: no more than " ++ (decimal at ++ codes " are due")

abbrev pub count_text : Difference → List ℕ
count_text difference = count_as difference.at difference.due

-- of zeros that stand for bytes only their number is told
abbrev pub blank_by : Option Difference → Rule → List ℕ
blank_by (Some difference) rule = count_text difference
blank_by None rule = rule_text rule

-- why a line is refused, in words
abbrev pub misstep_text : Misstep → List ℕ
misstep_text (Breaks rule) = rule_text rule
misstep_text (Blank rule) = blank_by (bytes_handed rule) rule
misstep_text (NoPartition partition count) = codes "there is no partition " ++ (decimal partition ++ (codes ": there are " ++ (decimal count ++ codes ", counted from 0")))
misstep_text (Read rule) = read_text rule

-- what is said of a line that is refused, with more behind it: a line, or a JSON object
abbrev pub refused_line : Bool → ℕ → Misstep → List ℕ → List ℕ
refused_line false number misstep more = codes "line " ++ (decimal number ++ (codes ": " ++ (misstep_text misstep ++ (more ++ 10 ∷ []))))
refused_line true number misstep more =
    codes "{\"verdict\": \"refused\", \"line\": " ++ (decimal number ++ (codes ", \"rule\": \"" ++ (misstep_text misstep ++ (codes "\"" ++ (more ++ codes "}\n")))))

-- the first of these lines that is refused is told
pub record IsRefusalTold (standard : Standard) (lines : List Recorded) (numbers : List ℕ) (old new : Option (List ℕ)) : Type 0 where
  pub number : ℕ
  pub misstep : Misstep
  pub first : IsFirstRefused standard lines numbers number misstep
  pub more : List ℕ
  pub appends : Appends old new (refused_line standard.asked.json number misstep more)

-- THE WHOLE

pub record IsLegalTold (standard : Standard) (lines : List Recorded) (verdict : Verdict) (old new : Option (List ℕ)) : Type 0 where
  pub said : List ℕ
  pub is_legal : IsLegal standard lines verdict said
  pub appends : Appends old new said

abbrev pub IsVerdictTold : Standard → List Recorded → List ℕ → Verdict → Option (List ℕ) → Option (List ℕ) → Type 0
IsVerdictTold standard lines numbers verdict old new =
    IsLegalTold standard lines verdict old new ⊎ ((verdict ≡ Failed) × IsRefusalTold standard lines numbers old new)

-- the verdict on the trace of an input was printed
pub record PrintsVerdict (standard : Standard) (trace : Option (List ℕ)) (old new : Option (List ℕ)) (verdict : Verdict) : Type 0 where
  pub text : List ℕ
  pub all : IsAllOf trace text
  pub told_lines : List Recorded
  pub numbers : List ℕ
  pub are_told : AreTold (lines text) told_lines numbers
  pub is_told : IsVerdictTold standard told_lines numbers verdict old new

-- WHY THERE IS NO VERDICT

-- the lines before the one of this number lead to so many states that are told apart, and no more are followed
pub record MeetsBound (standard : Standard) (trace : Option (List ℕ)) (number readings : ℕ) : Type 0 where
  pub text : List ℕ
  pub all : IsAllOf trace text
  pub told_lines : List Recorded
  pub numbers : List ℕ
  pub first : AreToldFirst (lines text) told_lines numbers
  pub is_number : number ≡ length first.front + 1
  pub states : List State
  pub reached : AreLinesReached (rules_by standard) (opening_of standard) (judged standard told_lines) states
  pub count : readings ≡ length states
  pub too_many : most_readings < readings

abbrev pub IsCheckFault : Standard → Option (List ℕ) → Error → Type 0
IsCheckFault standard trace Usage = ⊥
IsCheckFault standard trace (Startup fault) = ⊥
IsCheckFault standard trace TraceUnreadable = Unit {0}
IsCheckFault standard trace ScriptUnreadable = ⊥
IsCheckFault standard trace (BadLine line column) = (text : List ℕ) × IsAllOf trace text × IsFirstBad (lines text) line
IsCheckFault standard trace NoLabel = (text : List ℕ) × IsAllOf trace text × AreTold (lines text) [] []
IsCheckFault standard trace (Readings line readings) = MeetsBound standard trace line readings
IsCheckFault standard trace (Script fault) = ⊥
IsCheckFault standard trace OutputFailed = Unit {0}
IsCheckFault standard trace NoMemory = Unit {0}

-- the output failed, or memory was refused
abbrev pub IsOutputFault : Error → Type 0
IsOutputFault fault = (fault ≡ OutputFailed) ⊎ (fault ≡ NoMemory)

-- of the lines that were read nothing is told, and they are a run; or the first of them that is refused is told
pub record IsToldSoFar (standard : Standard) (trace old new : Option (List ℕ)) : Type 0 where
  pub text : List ℕ
  pub all : IsAllOf trace text
  pub told_lines : List Recorded
  pub numbers : List ℕ
  pub first : AreToldFirst (lines text) told_lines numbers
  pub so_far : (IsLineRun (rules_by standard) (opening_of standard) (judged standard told_lines) × (new ≡ old)) ⊎ IsRefusalTold standard told_lines numbers old new

-- what was printed before a fault, unless the output failed or memory was refused
abbrev pub IsToldBefore : Standard → Option (List ℕ) → Option (List ℕ) → Option (List ℕ) → Error → Type 0
IsToldBefore standard trace old new fault = IsOutputFault fault ⊎ IsToldSoFar standard trace old new
