-- What is said of a trace, and why nothing is.
use Rattle.std.proofs.Common.{◌≡◌, ◌≢◌, ◌==◌, ◌<◌, ◌++◌, ◌∷◌, ◌⊎◌, inl, inr, ℕ, List, [], All, Option, None, Some, Result, Ok, Err, Bool, true, false, refl, subst, sym, ◌∙◌, ap, append-nil, arith, codes, cond, decimal, length, IfErr, IfOk, IfSome}
use Rattle.std.specs.Str.Lines.{lines}
use Rattle.std.specs.Io.KnownBytes.{Appends, prepend_known}
use Rattle.std.specs.Io.Buffered.{reader_buffer, reader_capacity, reader_inner, reader_remaining}
use Rattle.std.specs.declared.io.buffered.BufReader.{BufReader}
use Rattle.machine.specs.Rules.{Rules}
use Rattle.trace_reader.specs.declared.Recorded.{Recorded}
use Rattle.startup.specs.declared.ending.Verdict.{Verdict}
use Rattle.startup.specs.declared.ending.Verdict.TheVariants.{Passed, Failed}
use Rattle.judging.specs.Checked.{IsCheckFault, IsLegal, IsOutputFault, IsPassedIf, IsToldBefore, IsToldSoFar, Meets, PrintsVerdict, legal_by, legal_line, refused_line, rules_by}
use Rattle.judging.specs.Told.{AreTold}
use Rattle.judging.specs.declared.course.Course.{Course}
use Rattle.judging.specs.declared.course.Course.TheVariants.{Legal, Refused}
use Rattle.judging.specs.declared.course.Trial.{Trial}
use Rattle.judging.specs.declared.opened.Standard.{Standard}
use Rattle.judging.specs.declared.faults.Error.{Error}
use Rattle.judging.specs.declared.faults.Error.TheVariants.{NoLabel, OutputFailed, NoMemory}
use Rattle.judging.specs.inside.Checked.{IsCourseOf, IsLegalFault, IsSaysFault, SaysLegal, SaysOf, tally_line}
use Rattle.judging.specs.inside.Course.{HasTried}
use Rattle.judging.proofs.Courses.{is_run, reached}

-- the bytes of an input behind an empty buffer
behind_none : (known : Option (List ℕ)) → prepend_known [] known ≡ known
behind_none None = refl
behind_none (Some bytes) = refl

pub known_is : {T A : Type 0} (remaining : T → Option (List ℕ)) (reader : BufReader T A) (input : T) → reader_capacity reader ≡ 65536 → reader_buffer reader ≡ [] → reader_inner reader ≡ input
    → reader_remaining remaining reader ≡ remaining input
known_is remaining reader input room none same =
    ap (λ n. cond (n == 0) None (prepend_known (reader_buffer reader) (remaining (reader_inner reader)))) room
    ∙ ap (λ b. prepend_known b (remaining (reader_inner reader))) none ∙ behind_none (remaining (reader_inner reader)) ∙ ap remaining same

-- labels that are a run, by their numbers
counted : (c : Standard) (told_lines : List Recorded) (trial : Trial) (json : Bool) (left : List ℕ) → HasTried c told_lines trial → tally_line json trial.tally left ≡ legal_line json told_lines left
counted c told_lines trial json left h = (λ i. legal_by json (h.labels_are i) (h.calls_are i) (h.starts_are i) left)

none_in : {A : Type 0} (xs : List A) → length xs ≡ 0 → xs ≡ []
none_in [] e = refl
none_in (x ∷ xs) e = absurd (omega (arith, e))

module _ (c : Standard) where
  legal : (told_lines : List Recorded) (trial : Trial) (a b : Option (List ℕ)) (verdict : Verdict) → HasTried c told_lines trial → (says : SaysLegal c.asked trial a b verdict)
      → IsLegal c told_lines verdict (tally_line c.asked.json trial.tally says.left)
  legal told_lines trial a b verdict h says = record {
    some_label = λ none. says.some_label (h.labels_are ∙ ap length none);
    states = trial.judge.states;
    reached = reached c told_lines trial h;
    can_be_read = h.can_be_read;
    some_state = h.taken.some;
    in_table = h.in_table;
    verdict_is = subst (λ (r : Rules). IsPassedIf (Meets c.asked r trial.judge.states) verdict) h.rules_are (says.meets h.taken.some);
    left = says.left;
    line = counted c told_lines trial c.asked.json says.left h;
  }

  module _ (trace a mid b : Option (List ℕ)) where
    said : (course : Course) (verdict : Verdict) → IsCourseOf c trace a mid course → SaysOf c.asked course mid b verdict → PrintsVerdict c trace a b verdict
    said (Legal trial) verdict h says = record {
      text = h.text;
      all = h.all;
      told_lines = h.told_lines;
      numbers = h.numbers;
      are_told = h.are_told;
      is_told = inl (record {
        said = tally_line c.asked.json trial.tally says.left;
        is_legal = legal h.told_lines trial mid b verdict h.is.0 says;
        appends = subst (λ x. Appends x b (tally_line c.asked.json trial.tally says.left)) h.is.1 says.appends;
      });
    }
    said (Refused stop) verdict h says = record {
      text = h.text;
      all = h.all;
      told_lines = h.told_lines;
      numbers = h.numbers;
      are_told = h.are_told;
      is_told = inr (
        says.0,
        record {
          number = stop.line;
          misstep = stop.misstep;
          first = h.is.0;
          more = h.is.1.more;
          appends = subst (λ x. Appends a x (refused_line c.asked.json stop.line stop.misstep h.is.1.more)) (sym says.1) h.is.1.appends;
        },
      );
    }

    output : (fault : Error) → IsOutputFault fault → IsCheckFault c trace fault × IsToldBefore c trace a b fault
    output fault (inl is) = (subst (IsCheckFault c trace) (sym is) tt, inl (inl is))
    output fault (inr is) = (subst (IsCheckFault c trace) (sym is) tt, inl (inr is))

    no_label : (trial : Trial) → IsCourseOf c trace a mid (Legal trial) → trial.tally.labels ≡ 0 → b ≡ mid → IsCheckFault c trace NoLabel × IsToldBefore c trace a b NoLabel
    no_label trial h none same =
        let no_lines : h.told_lines ≡ [] = none_in h.told_lines (sym h.is.0.labels_are ∙ none) in
        let no_numbers : h.numbers ≡ [] = none_in h.numbers (h.are_told.as_many ∙ ap length no_lines) in (
          (h.text, h.all, subst (λ ns. AreTold (lines h.text) [] ns) no_numbers (subst (λ ls. AreTold (lines h.text) ls h.numbers) no_lines h.are_told)),
          inr (record {
            text = h.text;
            all = h.all;
            told_lines = h.told_lines;
            numbers = h.numbers;
            first = record { front = lines h.text; behind = []; split = sym (append-nil (lines h.text)); told = h.are_told };
            so_far = inl (is_run c h.told_lines trial h.is.0, same ∙ h.is.1);
          }),
        )

    unsaid : (course : Course) (fault : Error) → IsCourseOf c trace a mid course → IsSaysFault course mid b fault → IsCheckFault c trace fault × IsToldBefore c trace a b fault
    unsaid (Legal trial) fault h (inl is) = output fault is
    unsaid (Legal trial) fault h (inr is) =
        subst (λ f. IsCheckFault c trace f × IsToldBefore c trace a b f) (sym is.0) (no_label trial h is.1 is.2)
    unsaid (Refused stop) fault h is = absurd is

-- over the buffer of an input
module _ (c : Standard) (known trace a mid b : Option (List ℕ)) (course : Course) (result : Result Verdict Error) (same : known ≡ trace) (h : IsCourseOf c known a mid course) where
  there : IsCourseOf c trace a mid course
  there = subst (λ k. IsCourseOf c k a mid course) same h

  pub said_by : IfOk result (SaysOf c.asked course mid b) → IfOk result (PrintsVerdict c trace a b)
  said_by says = by result says
    where
      by : (r : Result Verdict Error) → IfOk r (SaysOf c.asked course mid b) → IfOk r (PrintsVerdict c trace a b)
      by (Ok verdict) says = said c trace a mid b course verdict there says
      by (Err fault) says = tt

  pub fault_by : IfErr result (IsSaysFault course mid b) → IfErr result (IsCheckFault c trace)
  fault_by is = by result is
    where
      by : (r : Result Verdict Error) → IfErr r (IsSaysFault course mid b) → IfErr r (IsCheckFault c trace)
      by (Ok verdict) is = tt
      by (Err fault) is = (unsaid c trace a mid b course fault there is).0

  pub told_by : IfErr result (IsSaysFault course mid b) → IfErr result (IsToldBefore c trace a b)
  told_by is = by result is
    where
      by : (r : Result Verdict Error) → IfErr r (IsSaysFault course mid b) → IfErr r (IsToldBefore c trace a b)
      by (Ok verdict) is = tt
      by (Err fault) is = (unsaid c trace a mid b course fault there is).1
