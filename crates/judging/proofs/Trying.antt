-- One line more, as its trial takes it.
use Rattle.std.proofs.Common.{◌≡◌, ◌<◌, ◌∙◌, ℕ, Bool, List, [], Option, None, Some, Result, Ok, Err, ap, inl, inr, is_some, length, refl, subst, sym, IfOk}
use Rattle.trace_line.specs.declared.Line.{Line}
use Rattle.trace_reader.specs.declared.Recorded.{Recorded}
use Rattle.trace_reader.specs.declared.Reader.{Reader}
use Rattle.trace_reader.specs.Known.{KnownView}
use Rattle.trace_reader.specs.Readers.{CanRead, known_after, read_line, reader_after}
use Rattle.std.proofs.lemmas.List.Elements.{All-nil}
use Rattle.judge.specs.Following.{HasTakenLines, JudgeView, RefusesLine, TakesLine}
use Rattle.judge.specs.Refusals.{IsNoVerdict}
use Rattle.judge.specs.declared.NoVerdict.{NoVerdict}
use Rattle.judge.specs.declared.NoVerdict.TheVariants.{NoMemory as WantOfMemory, Readings as TooMany}
use Rattle.judge.specs.declared.label_rules.Rule.{Rule}
use Rattle.judging.specs.Checked.{IsBelow, IsInTable, IsOutputFault, arrays_of, count_of, first_reader, rules_by}
use Rattle.judging.specs.declared.opened.Standard.{Standard}
use Rattle.judging.specs.declared.course.Course.{Course}
use Rattle.judging.specs.declared.course.Course.TheVariants.{Legal, Refused}
use Rattle.judging.specs.declared.course.Tally.{Tally}
use Rattle.judging.specs.declared.course.Trial.{Trial}
use Rattle.judging.specs.declared.faults.Error.{Error}
use Rattle.judging.specs.declared.misstep.Misstep.{Misstep}
use Rattle.judging.specs.inside.Course.{HasTried, IsCounted, IsFit, IsLineRead, IsRefusedFor, IsStopByLine, IsStopped, IsTaken, SaysRefused, Tallies, Tries, broken_as, unjudged}

pub below_none : (count : ℕ) (partition : Option ℕ) → partition ≡ None → IsBelow count partition
below_none count partition is = subst (IsBelow count) (sym is) tt

pub below_some : (count : ℕ) (partition : Option ℕ) (p : ℕ) → partition ≡ Some p → p < count → IsBelow count partition
below_some count partition p is low = subst (IsBelow count) (sym is) low

-- a refusal that can't be told
pub output_stops : (trial : Trial) (number : ℕ) (a b : Option (List ℕ)) (fault : Error) → IsOutputFault fault → IsStopByLine trial number a b fault
output_stops trial number a b fault (inl is) = subst (IsStopByLine trial number a b) (sym is) tt
output_stops trial number a b fault (inr is) = subst (IsStopByLine trial number a b) (sym is) tt

-- a line that is counted, read and taken
pub taken_so : (old counted read : Trial) (judge : JudgeView) (line : Recorded) (told : Line) (a b : Option (List ℕ)) → IsFit old line → IsCounted old line.line.label counted → IsLineRead counted line told read
    → judge.rules ≡ read.judge.rules → TakesLine read.judge told judge → b ≡ a → IsTaken old line a b (record read { judge = judge })
taken_so old counted read judge line told a b fit count reads rules takes untold =
    let same_judge : read.judge ≡ old.judge = reads.same_judge ∙ count.same_judge in
    let is_told : told ≡ read_line old.reader line = reads.is_told ∙ ap (λ (v : Reader). read_line v line) count.same_reader in
    record {
      same_rules = rules ∙ ap (λ (j : JudgeView). j.rules) same_judge;
      same_form = reads.same_form ∙ count.same_form;
      takes = subst (λ (j : JudgeView). TakesLine j (read_line old.reader line) judge) same_judge (subst (λ (l : Line). TakesLine read.judge l judge) is_told takes);
      reader = reads.reader ∙ ap (λ (v : Reader). reader_after v line) count.same_reader;
      tallies = subst (λ (t : Tally). Tallies old.tally line.line.label t) (sym reads.same_tally) count.counted;
      fit = fit;
      untold = untold;
    }

-- a line that is counted, read and refused
pub refused_so : (old counted read : Trial) (line : Recorded) (told : Line) (rule : Rule) → IsCounted old line.line.label counted → IsLineRead counted line told read → RefusesLine read.judge told rule
    → RefusesLine old.judge (read_line old.reader line) rule
refused_so old counted read line told rule count reads refuses =
    let is_told : told ≡ read_line old.reader line = reads.is_told ∙ ap (λ (v : Reader). read_line v line) count.same_reader in
    subst (λ (j : JudgeView). RefusesLine j (read_line old.reader line) rule) (reads.same_judge ∙ count.same_judge) (subst (λ (l : Line). RefusesLine read.judge l rule) is_told refuses)

by_known : (old : Trial) (line : Recorded) (known : Option KnownView) (rule : Rule) → old.reader.known ≡ known → RefusesLine old.judge (read_line old.reader line) rule
    → IsRefusedFor old line (broken_as (known_after known line) rule)
by_known old line None rule is refuses = (ap (λ (k : Option KnownView). is_some k) is, refuses)
by_known old line (Some known) rule is refuses = (ap (λ (k : Option KnownView). is_some k) is, refuses)

-- a rule that it breaks is told by what was known of bytes
pub broken_so : (old counted read : Trial) (line : Recorded) (told : Line) (rule : Rule) → IsCounted old line.line.label counted → IsLineRead counted line told read
    → RefusesLine old.judge (read_line old.reader line) rule → IsRefusedFor old line (broken_as read.reader.known rule)
broken_so old counted read line told rule count reads refuses =
    let after : read.reader ≡ reader_after old.reader line = reads.reader ∙ ap (λ (v : Reader). reader_after v line) count.same_reader in
    subst (λ (v : Reader). IsRefusedFor old line (broken_as v.known rule)) (sym after) (by_known old line old.reader.known rule refl refuses)

-- a stop at a misstep of the line
pub stops_so : (old : Trial) (line : Recorded) (number : ℕ) (misstep : Misstep) (json : Bool) (a b : Option (List ℕ)) (result : Result Course Error) → json ≡ old.json → IsRefusedFor old line misstep
    → IfOk result (IsStopped json number misstep a b) → IfOk result (Tries old line number a b)
stops_so old line number misstep json a b (Ok (Legal new)) form why stops = absurd stops
stops_so old line number misstep json a b (Ok (Refused stop)) form why stops =
    (stops.0, subst (IsRefusedFor old line) (sym stops.1) why, subst (λ (m : Misstep). SaysRefused old.json number m a b) (sym stops.1) (subst (λ (j : Bool). SaysRefused j number misstep a b) form stops.2))
stops_so old line number misstep json a b (Err fault) form why stops = tt

-- there are more readings than are followed
pub unjudged_so : (old counted read : Trial) (line : Recorded) (told : Line) (number : ℕ) (why : NoVerdict) (a b : Option (List ℕ)) → IsCounted old line.line.label counted → IsLineRead counted line told read
    → IsNoVerdict read.judge why → b ≡ a → IsStopByLine old number a b (unjudged number why)
unjudged_so old counted read line told number WantOfMemory a b count reads is untold = tt
unjudged_so old counted read line told number (TooMany readings) a b count reads is untold =
    (refl, is.0 ∙ ap (λ (j : JudgeView). length j.states) (reads.same_judge ∙ count.same_judge), is.1, untold)

-- a line that is fit
pub fit_so : (trial : Trial) (line : Recorded) (count : ℕ) → count ≡ length trial.judge.rules.partitions → IsInTable count line.line.label → CanRead trial.reader line → IsFit trial line
fit_so trial line count same within can = record { in_table = subst (λ n. IsInTable n line.line.label) same within; can_read = can }

-- a trial that has taken no line
pub opens_so : (c : Standard) (trial : Trial) → trial.judge.rules ≡ rules_by c → trial.json ≡ c.asked.json → HasTakenLines trial.judge (arrays_of c) [] → trial.reader ≡ first_reader c
    → trial.tally ≡ record { labels = 0; calls = 0; starts = 0 } → HasTried c [] trial
opens_so c trial rules form taken reader tally = record {
  rules_are = rules;
  form_is = form;
  taken = taken;
  reader_is = reader;
  can_be_read = tt;
  in_table = All-nil (λ (r : Recorded). IsInTable (count_of c) r.line.label);
  labels_are = ap (λ (t : Tally). t.labels) tally;
  calls_are = ap (λ (t : Tally). t.calls) tally;
  starts_are = ap (λ (t : Tally). t.starts) tally;
}
