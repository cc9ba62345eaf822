-- The lines of a trace, judged one by one.
use Rattle.std.proofs.Common.{◌≡◌, ◌<◌, ◌≤◌, ◌+◌, ◌++◌, ◌∙◌, ◌-◌, ◌^◌, ◌⊎◌, inl, inr, min, ℕ, zero, suc, Bool, List, [], ◌∷◌, All, Option, None, Some, arith, ap, append-nil, append_assoc, cond, count_by, false, filter, if◌then◌else◌, is_some, length, length-append, refl, slice_get, subst, sym, true, IfSome, IsUtf8, MatchBool}
use Rattle.std.specs.List.{AllZip}
use Rattle.std.specs.Io.{StopsAt}
use Rattle.std.specs.Io.KnownBytes.{Appends, Consumes, IsAtEnd}
use Rattle.std.specs.Str.Lines.{lines, strip_carriage_return}
use Rattle.std.proofs.lemmas.List.Elements.{All-nil, All-cons, All-head, All-tail, All-append, filter-append}
use Rattle.std.proofs.lemmas.List.Sums.{count_by-le-length, sum_by-append, sum_by-cons}
use Rattle.machine.specs.Rules.{Rules}
use Rattle.machine.specs.State.{State, opening}
use Rattle.trace_reader.specs.declared.Recorded.{Recorded}
use Rattle.trace_reader.specs.declared.Reader.{Reader}
use Rattle.trace_reader.specs.Known.{KnownView}
use Rattle.trace_reader.specs.Readers.{CanRead, CantRead, read_line, reader_after}
use Rattle.trace_reader.proofs.Reading.{after_more, can_more, known_still, read_more}
use Rattle.trace_line.specs.Lines.{LineRun}
use Rattle.judge.specs.Following.{HasTakenLines, IsLineRefused, JudgeView, RefusesLine}
use Rattle.judge.specs.declared.label_rules.Rule.{Rule}
use Rattle.judge.specs.Judging.{AreLinesReached, IsLineRun}
use Rattle.judge.specs.Refusals.{most_readings}
use Rattle.label_text.specs.Lines.{is_told}
use Rattle.startup.specs.Reading.{IsAllOf}
use Rattle.judging.specs.Checked.{BreaksRule, IsCheckFault, IsFirstRefused, IsInTable, IsMisstep, IsRefusalTold, IsToldBefore, IsToldSoFar, arrays_of, count_of, first_known, first_reader, is_call, is_start, judged, opening_of, refused_line, rules_by}
use Rattle.judging.specs.Told.{AreTold, IsBad, IsFirstBad, Records, numbers_from}
use Rattle.judging.specs.declared.course.Course.{Course}
use Rattle.judging.specs.declared.course.Course.TheVariants.{Legal, Refused}
use Rattle.judging.specs.declared.course.Trial.{Trial}
use Rattle.judging.specs.declared.faults.Error.{Error}
use Rattle.judging.specs.declared.faults.Error.TheVariants.{Usage, Startup, TraceUnreadable, ScriptUnreadable, BadLine, NoLabel, Readings, Script, OutputFailed, NoMemory}
use Rattle.judging.specs.declared.misstep.Misstep.{Misstep}
use Rattle.judging.specs.declared.misstep.Misstep.TheVariants.{Blank, Breaks, NoPartition, Read}
use Rattle.judging.specs.declared.opened.Standard.{Standard}
use Rattle.judging.specs.declared.told.Told.{Told}
use Rattle.judging.specs.declared.told.Told.TheVariants.{Line as TellsLine, Nothing, BadWord}
use Rattle.judging.specs.inside.Checked.{IsCourseOf}
use Rattle.judging.specs.inside.Course.{GoesOn, HasTried, IsCourse, IsOpening, IsRefusedFor, IsStop, IsStopByLine, IsStopOf, SaysRefused, Tries}
use Rattle.judging.specs.inside.Reading.{IsEnded, IsUnreadTrace}
use Rattle.judging.specs.inside.Telling.{Tells}
use Rattle.judging.proofs.LinesRead.{AreLines, BeginsWith, all_lines, begins_with, no_lines, none_at_all, none_before, one_line, taken_all, taken_both, taken_none, with_last}

-- LABELS THAT LINES TELL

-- one line more, which tells a label or none
kept_more : (texts : List (List ℕ)) (text : List ℕ) (t : Bool) → is_told text ≡ t → filter is_told (texts ++ text ∷ []) ≡ filter is_told texts ++ cond t (text ∷ []) []
kept_more texts text t e = filter-append is_told texts (text ∷ []) ∙ ap (λ b. filter is_told texts ++ cond b (text ∷ []) []) e

numbers_more : (n : ℕ) (texts : List (List ℕ)) (text : List ℕ) (t : Bool) → is_told text ≡ t
    → numbers_from n (texts ++ text ∷ []) ≡ numbers_from n texts ++ cond t ((n + length texts) ∷ []) []
numbers_more n [] text t e =
    let same : n ≡ n + 0 = omega arith in
    append-nil (cond (is_told text) (n ∷ []) []) ∙ (λ i. cond (e i) (same i ∷ []) [])
numbers_more n (x ∷ texts) text t e =
    let same : n + 1 + length texts ≡ n + length (x ∷ texts) = omega arith in
    ap (λ l. cond (is_told x) (n ∷ []) [] ++ l) (numbers_more (n + 1) texts text t e)
    ∙ sym (append_assoc (cond (is_told x) (n ∷ []) []) (numbers_from (n + 1) texts) (cond t ((n + 1 + length texts) ∷ []) []))
    ∙ ap (λ m. (cond (is_told x) (n ∷ []) [] ++ numbers_from (n + 1) texts) ++ cond t (m ∷ []) []) same

abbrev IsText : List ℕ → Type 0
IsText text = IsUtf8 text

text_more : (texts : List (List ℕ)) (text : List ℕ) → All IsText texts → IsText text → All IsText (texts ++ text ∷ [])
text_more texts text are is = All-append IsText texts (text ∷ []) are (All-cons IsText text [] is (All-nil IsText))

none_told : (texts : List (List ℕ)) (text : List ℕ) (told_lines : List Recorded) (numbers : List ℕ) → AreTold texts told_lines numbers → is_told text ≡ false → IsText text
    → AreTold (texts ++ text ∷ []) told_lines numbers
none_told texts text told_lines numbers h none is = record {
  spelled = subst (λ xs. AllZip Records xs told_lines) (sym (kept_more texts text false none ∙ append-nil (filter is_told texts))) h.spelled;
  counted = h.counted ∙ sym (numbers_more 1 texts text false none ∙ append-nil (numbers_from 1 texts));
  as_many = h.as_many;
  are_text = text_more texts text h.are_text is;
}

all_zip_append : (xs : List (List ℕ)) (ys : List Recorded) (x : List ℕ) (y : Recorded) → AllZip Records xs ys → Records x y → AllZip Records (xs ++ x ∷ []) (ys ++ y ∷ [])
all_zip_append [] [] x y h is = (is, tt)
all_zip_append [] (w ∷ ys) x y h is = absurd h
all_zip_append (v ∷ xs) [] x y h is = absurd h
all_zip_append (v ∷ xs) (w ∷ ys) x y h is = (h.0, all_zip_append xs ys x y h.1 is)

one_told : (texts : List (List ℕ)) (text : List ℕ) (told_lines : List Recorded) (numbers : List ℕ) (line : Recorded) (n : ℕ) → AreTold texts told_lines numbers
    → is_told text ≡ true → Records text line → IsText text → n ≡ length texts + 1 → AreTold (texts ++ text ∷ []) (told_lines ++ line ∷ []) (numbers ++ n ∷ [])
one_told texts text told_lines numbers line n h some spells is e =
    let here : n ≡ 1 + length texts = omega (arith, e) in
    record {
      spelled =
          subst (λ xs. AllZip Records xs (told_lines ++ line ∷ [])) (sym (kept_more texts text true some)) (all_zip_append (filter is_told texts) told_lines text line h.spelled spells);
      counted = (λ i. h.counted i ++ here i ∷ []) ∙ sym (numbers_more 1 texts text true some);
      as_many = omega (arith, h.as_many, length-append told_lines (line ∷ []), length-append numbers (n ∷ []));
      are_text = text_more texts text h.are_text is;
    }

-- there are no more labels than lines
few_by : (text : List ℕ) (texts : List (List ℕ)) (told_lines : List Recorded) (t : Bool) → AllZip Records (cond t (text ∷ filter is_told texts) (filter is_told texts)) told_lines
    → ((ls : List Recorded) → AllZip Records (filter is_told texts) ls → length ls ≤ length texts) → length told_lines ≤ length (text ∷ texts)
few_by text texts told_lines false h rest = omega (arith, rest told_lines h)
few_by text texts [] true h rest = omega arith
few_by text texts (line ∷ told_lines) true h rest = omega (arith, rest told_lines h.1)

few : (texts : List (List ℕ)) (told_lines : List Recorded) → AllZip Records (filter is_told texts) told_lines → length told_lines ≤ length texts
few [] [] h = omega arith
few [] (line ∷ told_lines) h = absurd h
few (text ∷ texts) told_lines h = few_by text texts told_lines (is_told text) h (few texts)

-- what was read so far has no bad line
good_untold : (text : List ℕ) → is_told text ≡ false → IsText text → IsBad text → ⊥
good_untold text e is (inl bad) = absurd (cc (bad.0, e))
good_untold text e is (inr no_text) = no_text is

good_told : (text : List ℕ) (line : Recorded) → Records text line → IsText text → IsBad text → ⊥
good_told text line spells is (inl bad) = bad.1 line spells
good_told text line spells is (inr no_text) = no_text is

abbrev IsGood : List ℕ → Type 0
IsGood text = ¬ (IsBad text)

good_at : (text : List ℕ) (texts : List (List ℕ)) (told_lines : List Recorded) (t : Bool) → is_told text ≡ t → IsText text
    → AllZip Records (cond t (text ∷ filter is_told texts) (filter is_told texts)) told_lines
    → ((ls : List Recorded) → AllZip Records (filter is_told texts) ls → All IsGood texts) → All IsGood (text ∷ texts)
good_at text texts told_lines false e is h rest = All-cons IsGood text texts (good_untold text e is) (rest told_lines h)
good_at text texts [] true e is h rest = absurd h
good_at text texts (line ∷ told_lines) true e is h rest = All-cons IsGood text texts (good_told text line h.0 is) (rest told_lines h.1)

all_good : (texts : List (List ℕ)) (told_lines : List Recorded) → AllZip Records (filter is_told texts) told_lines → All IsText texts → All IsGood texts
all_good [] told_lines h are = All-nil IsGood
all_good (text ∷ texts) told_lines h are =
    good_at text texts told_lines (is_told text) refl (All-head IsText text texts are) h (λ ls told. all_good texts ls told (All-tail IsText text texts are))

-- COUNTS

abbrev calls : Recorded → Bool
calls line = is_call line.line.label

abbrev starts : Recorded → Bool
starts line = is_start line.line.label

count_more : (p : Recorded → Bool) (told_lines : List Recorded) (line : Recorded) → count_by p (told_lines ++ line ∷ []) ≡ count_by p told_lines + cond (p line) 1 0
count_more p told_lines line =
    let last : count_by p (line ∷ []) ≡ cond (p line) 1 0 + count_by p [] = sum_by-cons (λ y. cond (p y) 1 0) line [] in
    sum_by-append (λ y. cond (p y) 1 0) told_lines (line ∷ []) ∙ ap (λ n. count_by p told_lines + n) (last ∙ omega arith)

counted_more : (p : Recorded → Bool) (told_lines : List Recorded) (line : Recorded) (old new : ℕ) → length told_lines + 1 < 2 ^ 64 → old ≡ count_by p told_lines
    → new ≡ min (old + cond (p line) 1 0) (2 ^ 64 - 1) → new ≡ count_by p (told_lines ++ line ∷ [])
counted_more p told_lines line old new short is more = at (p line) more (count_more p told_lines line)
  where
    at : (b : Bool) → new ≡ min (old + cond b 1 0) (2 ^ 64 - 1) → count_by p (told_lines ++ line ∷ []) ≡ count_by p told_lines + cond b 1 0 → new ≡ count_by p (told_lines ++ line ∷ [])
    at true e c = omega (arith, count_by-le-length p told_lines)
    at false e c = omega (arith, count_by-le-length p told_lines)

-- LISTS WITH MORE BEHIND THEM

got_before : {A : Type 0} (xs ys : List A) (k : ℕ) → k < length xs → slice_get (xs ++ ys) k ≡ slice_get xs k
got_before [] ys k low = absurd (omega arith)
got_before (x ∷ xs) ys zero low = refl
got_before (x ∷ xs) ys (suc k) low = got_before xs ys k (omega arith)

got_last : {A : Type 0} (xs : List A) (y : A) (k : ℕ) → k ≡ length xs → slice_get (xs ++ y ∷ []) k ≡ Some y
got_last [] y zero is = refl
got_last [] y (suc k) is = absurd (omega arith)
got_last (x ∷ xs) y zero is = absurd (omega arith)
got_last (x ∷ xs) y (suc k) is = got_last xs y k (omega arith)

-- a judge holds a state
some_state : (P : State → Type 0) (states : List State) → All P states → 0 < length states → (s : State) × P s
some_state P [] all some = absurd (omega arith)
some_state P (s ∷ states) all some = (s, All-head P s states all)

-- ONE LINE MORE

first_gaps : (known : KnownView) (gaps : Bool) → is_some (if gaps then Some known else None) ≡ gaps
first_gaps known true = refl
first_gaps known false = refl

module _ (c : Standard) where
  abbrev InTable : Recorded → Type 0
  InTable line = IsInTable (count_of c) line.line.label

  count_is : (trial : Trial) → trial.judge.rules ≡ rules_by c → length trial.judge.rules.partitions ≡ count_of c
  count_is trial e = ap (λ (r : Rules). length r.partitions) e

  pub reached : (told_lines : List Recorded) (trial : Trial) → HasTried c told_lines trial → AreLinesReached (rules_by c) (opening_of c) (judged c told_lines) trial.judge.states
  reached told_lines trial h = subst (λ (r : Rules). AreLinesReached r (opening_of c) (judged c told_lines) trial.judge.states) h.rules_are h.taken.reached

  pub is_run : (told_lines : List Recorded) (trial : Trial) → HasTried c told_lines trial → IsLineRun (rules_by c) (opening_of c) (judged c told_lines)
  is_run told_lines trial h =
      some_state (LineRun (rules_by c) (opening_of c) (judged c told_lines)) trial.judge.states (reached told_lines trial h).each h.taken.some

  tried_more : (told_lines : List Recorded) (line : Recorded) (old new : Trial) (n : ℕ) (a b : Option (List ℕ)) → length told_lines + 1 < 2 ^ 64 → HasTried c told_lines old
      → Tries old line n a b (Legal new) → HasTried c (told_lines ++ line ∷ []) new
  tried_more told_lines line old new n a b short h tries = record {
    rules_are = tries.same_rules ∙ h.rules_are;
    form_is = tries.same_form ∙ h.form_is;
    taken = subst (λ ls. HasTakenLines new.judge (arrays_of c) ls) (sym (read_more (first_reader c) told_lines line)) (subst (λ (v : Reader). HasTakenLines new.judge (arrays_of c) (judged c told_lines ++ read_line v line ∷ [])) h.reader_is (tries.takes (arrays_of c) (judged c told_lines) h.taken));
    reader_is = tries.reader ∙ ap (λ (v : Reader). reader_after v line) h.reader_is ∙ sym (after_more (first_reader c) told_lines line);
    can_be_read = can_more (first_reader c) told_lines line h.can_be_read (subst (λ (v : Reader). CanRead v line) h.reader_is tries.fit.can_read);
    in_table =
        All-append InTable told_lines (line ∷ []) h.in_table
        (All-cons InTable line [] (subst (λ k. IsInTable k line.line.label) (count_is old h.rules_are) tries.fit.in_table) (All-nil InTable));
    labels_are = omega (arith, h.labels_are, tries.tallies.labels_are, length-append told_lines (line ∷ []));
    calls_are = counted_more calls told_lines line old.tally.calls new.tally.calls short h.calls_are tries.tallies.calls_are;
    starts_are = counted_more starts told_lines line old.tally.starts new.tally.starts short h.starts_are tries.tallies.starts_are;
  }

  breaks_of : (told_lines : List Recorded) (line : Recorded) (trial : Trial) (rule : Rule) → HasTried c told_lines trial → RefusesLine trial.judge (read_line trial.reader line) rule
      → BreaksRule c told_lines line rule
  breaks_of told_lines line trial rule h why =
      subst (λ (v : Reader). IsLineRefused (rules_by c) (arrays_of c) (judged c told_lines) (read_line v line) rule) h.reader_is
      (subst (λ (r : Rules). IsLineRefused r (arrays_of c) (judged c told_lines) (read_line trial.reader line) rule) h.rules_are (why (arrays_of c) (judged c told_lines) h.taken))

  -- some bytes were not recorded just where that was said
  gaps_are : (told_lines : List Recorded) (trial : Trial) → HasTried c told_lines trial → is_some trial.reader.known ≡ c.asked.gaps
  gaps_are told_lines trial h =
      ap (λ (v : Reader). is_some v.known) h.reader_is ∙ known_still (first_reader c) told_lines ∙ first_gaps (first_known c) c.asked.gaps

  misstep_of : (told_lines : List Recorded) (line : Recorded) (trial : Trial) (misstep : Misstep) → HasTried c told_lines trial → IsRefusedFor trial line misstep → IsMisstep c told_lines line misstep
  misstep_of told_lines line trial (Breaks rule) h why = (sym (gaps_are told_lines trial h) ∙ why.0, breaks_of told_lines line trial rule h why.1)
  misstep_of told_lines line trial (Blank rule) h why = (sym (gaps_are told_lines trial h) ∙ why.0, breaks_of told_lines line trial rule h why.1)
  misstep_of told_lines line trial (NoPartition partition most) h why = (why.0, why.1 ∙ count_is trial h.rules_are, why.2)
  misstep_of told_lines line trial (Read rule) h why = subst (λ (v : Reader). CantRead v line rule) h.reader_is why

  refused_last : (told_lines : List Recorded) (numbers : List ℕ) (line : Recorded) (n : ℕ) (trial : Trial) (misstep : Misstep) → length numbers ≡ length told_lines → HasTried c told_lines trial
      → IsRefusedFor trial line misstep → IsFirstRefused c (told_lines ++ line ∷ []) (numbers ++ n ∷ []) n misstep
  refused_last told_lines numbers line n trial misstep as_many h why = record {
    before = told_lines;
    line = line;
    after = [];
    split = refl;
    is_number = got_last numbers n (length told_lines) (sym as_many);
    run = is_run told_lines trial h;
    can_be_read = h.can_be_read;
    in_table = h.in_table;
    is_misstep = misstep_of told_lines line trial misstep h why;
  }

  refused_still : (told_lines : List Recorded) (numbers : List ℕ) (line : Recorded) (n number : ℕ) (misstep : Misstep) → length numbers ≡ length told_lines
      → IsFirstRefused c told_lines numbers number misstep → IsFirstRefused c (told_lines ++ line ∷ []) (numbers ++ n ∷ []) number misstep
  refused_still told_lines numbers line n number misstep as_many h = record {
    before = h.before;
    line = h.line;
    after = h.after ++ line ∷ [];
    split = ap (λ l. l ++ line ∷ []) h.split ∙ append_assoc h.before (h.line ∷ h.after) (line ∷ []);
    is_number = got_before numbers (n ∷ []) (length h.before) (omega (arith, as_many, ap length h.split, length-append h.before (h.line ∷ h.after))) ∙ h.is_number;
    run = h.run;
    can_be_read = h.can_be_read;
    in_table = h.in_table;
    is_misstep = h.is_misstep;
  }

-- what these lines come to
pub record IsReadTo (c : Standard) (texts : List (List ℕ)) (a b : Option (List ℕ)) (course : Course) : Type 0 where
  pub told_lines : List Recorded
  pub numbers : List ℕ
  pub told : AreTold texts told_lines numbers
  pub is : IsCourse c told_lines numbers a b course

module _ (c : Standard) (texts : List (List ℕ)) (text : List ℕ) (n : ℕ) (a b d : Option (List ℕ)) (here : n ≡ length texts + 1) (short : n < 2 ^ 64) where
  tried : (trial : Trial) (line : Recorded) (new : Course) → IsReadTo c texts a b (Legal trial) → is_told text ≡ true → Records text line → IsText text → Tries trial line n b d new
      → IsReadTo c (texts ++ text ∷ []) a d new
  tried trial line (Legal next) h some spells is tries = record {
    told_lines = h.told_lines ++ line ∷ [];
    numbers = h.numbers ++ n ∷ [];
    told = one_told texts text h.told_lines h.numbers line n h.told some spells is here;
    is = (tried_more c h.told_lines line trial next n b d (omega (arith, here, short, few texts h.told_lines h.told.spelled)) h.is.0 tries, tries.untold ∙ h.is.1);
  }
  tried trial line (Refused stop) h some spells is tries = record {
    told_lines = h.told_lines ++ line ∷ [];
    numbers = h.numbers ++ n ∷ [];
    told = one_told texts text h.told_lines h.numbers line n h.told some spells is here;
    is = (
      subst (λ m. IsFirstRefused c (h.told_lines ++ line ∷ []) (h.numbers ++ n ∷ []) m stop.misstep) (sym tries.0)
          (refused_last c h.told_lines h.numbers line n trial stop.misstep h.told.as_many h.is.0 tries.1),
      subst (λ m. SaysRefused c.asked.json m stop.misstep a d) (sym tries.0)
          (subst (λ x. SaysRefused c.asked.json n stop.misstep x d) h.is.1 (subst (λ (j : Bool). SaysRefused j n stop.misstep b d) h.is.0.form_is tries.2)),
    );
  }

  pub one_more : (old new : Course) (told : Told) → IsReadTo c texts a b old → Tells text told → GoesOn old told n b d new → IsReadTo c (texts ++ text ∷ []) a d new
  one_more (Legal trial) new (TellsLine line) h tells goes = tried trial line new h tells.0 tells.1 tells.2 goes
  one_more (Refused stop) new (TellsLine line) h tells goes =
      subst (λ k. IsReadTo c (texts ++ text ∷ []) a d k) (sym goes.0) (subst (λ x. IsReadTo c (texts ++ text ∷ []) a x (Refused stop)) (sym goes.1) (record {
        told_lines = h.told_lines ++ line ∷ [];
        numbers = h.numbers ++ n ∷ [];
        told = one_told texts text h.told_lines h.numbers line n h.told tells.0 tells.1 tells.2 here;
        is = (refused_still c h.told_lines h.numbers line n stop.line stop.misstep h.told.as_many h.is.0, h.is.1);
      }))
  one_more old new Nothing h tells goes =
      subst (λ k. IsReadTo c (texts ++ text ∷ []) a d k) (sym goes.0) (subst (λ x. IsReadTo c (texts ++ text ∷ []) a x old) (sym goes.1) (record {
        told_lines = h.told_lines;
        numbers = h.numbers;
        told = none_told texts text h.told_lines h.numbers h.told tells.0 tells.1;
        is = h.is;
      }))
  one_more old new (BadWord column) h tells goes = absurd goes

-- ALL LINES

-- so many lines were read of an input, and this is what they come to
pub record HasRead (c : Standard) (start now : Option (List ℕ)) (count : ℕ) (a b : Option (List ℕ)) (course : Course) : Type 0 where
  pub text : List ℕ
  pub texts : List (List ℕ)
  pub taken : Consumes start now text
  pub are_lines : AreLines text texts
  pub counted : count ≡ length texts
  pub is : IsReadTo c texts a b course

pub none_read : (c : Standard) (start a : Option (List ℕ)) (course : Course) → IsOpening c course → HasRead c start start 0 a a course
none_read c start a (Refused stop) h = absurd h
none_read c start a (Legal trial) h = record {
  text = [];
  texts = [];
  taken = taken_none start;
  are_lines = no_lines;
  counted = refl;
  is = record { told_lines = []; numbers = []; told = record { spelled = tt; counted = refl; as_many = refl; are_text = All-nil IsText }; is = (h, refl) };
}

whole : (c : Standard) (start a b : Option (List ℕ)) (text : List ℕ) (texts : List (List ℕ)) (course : Course) → IsAllOf start text → lines text ≡ texts → IsReadTo c texts a b course
    → IsCourseOf c start a b course
whole c start a b text texts course all same h = record {
  text = text;
  all = all;
  told_lines = h.told_lines;
  numbers = h.numbers;
  are_told = subst (λ ls. AreTold ls h.told_lines h.numbers) (sym same) h.told;
  is = h.is;
}

-- what is told so far
module _ (c : Standard) (start a b : Option (List ℕ)) where
  told_by_course : (told_lines : List Recorded) (numbers : List ℕ) (course : Course) → IsCourse c told_lines numbers a b course
      → (IsLineRun (rules_by c) (opening_of c) (judged c told_lines) × (b ≡ a)) ⊎ IsRefusalTold c told_lines numbers a b
  told_by_course told_lines numbers (Legal trial) is = inl (is_run c told_lines trial is.0, is.1)
  told_by_course told_lines numbers (Refused stop) is =
      inr (record { number = stop.line; misstep = stop.misstep; first = is.0; more = is.1.more; appends = is.1.appends })

  so_far : (texts : List (List ℕ)) (course : Course) → BeginsWith start texts → IsReadTo c texts a b course → IsToldSoFar c start a b
  so_far texts course begins h = record {
    text = begins.all;
    all = begins.is_all;
    told_lines = h.told_lines;
    numbers = h.numbers;
    first = record { front = texts; behind = begins.behind; split = begins.split; told = h.told };
    so_far = told_by_course h.told_lines h.numbers course h.is;
  }

module _ (c : Standard) (start now new : Option (List ℕ)) (count : ℕ) (a b : Option (List ℕ)) (old : Course) (h : HasRead c start now count a b old) where
  -- reading fails, or memory is refused
  pub told_so_far : IsToldSoFar c start a b
  told_so_far = so_far c start a b h.texts old (begins_with start now h.text h.texts h.taken h.are_lines) h.is

  pub told_unread : (fault : Error) → IsUnreadTrace fault → IsToldBefore c start a b fault
  told_unread fault (inl is) = inr told_so_far
  told_unread fault (inr is) = inl (inr is)

  module _ (line : List ℕ) (taken : Consumes now new line) (stops : StopsAt line 10) (last : ¬ (IsEnded line) → IfSome now (λ _. IsAtEnd new)) where
    -- the input is at its end
    pub none_left : line ≡ [] → IsCourseOf c start a b old
    none_left none =
        let no_end : ¬ (IsEnded line) = λ ended. absurd (omega (arith, ap length none, ap length ended.1, length-append ended.0 (10 ∷ []))) in
        let same : h.text ++ line ≡ h.text = ap (λ l. h.text ++ l) none ∙ append-nil h.text in
        whole c start a b h.text h.texts old (subst (IsAllOf start) same (taken_all start now new h.text line h.taken taken (last no_end))) (all_lines h.text h.texts h.are_lines) h.is

    module _ (stripped : List ℕ) (n : ℕ) (told : Told) (tells : Tells stripped told) (here : n ≡ count + 1) (short : n < 2 ^ 64) where
      number_is : n ≡ length h.texts + 1
      number_is = omega (arith, here, h.counted)

      lines_more : (ended : IsEnded line) → stripped ≡ strip_carriage_return ended.0 → AreLines (h.text ++ line) (h.texts ++ stripped ∷ [])
      lines_more ended same =
          let none = none_before ended.0 (subst (λ l. StopsAt l 10) ended.1 stops) in
          subst (λ l. AreLines (h.text ++ l) (h.texts ++ stripped ∷ [])) (sym ended.1)
          (subst (λ t. AreLines (h.text ++ (ended.0 ++ 10 ∷ [])) (h.texts ++ t ∷ [])) (sym same) (one_line h.text ended.0 h.texts h.are_lines none))

      lines_last : 0 < length line → ¬ (IsEnded line) → stripped ≡ line → lines (h.text ++ line) ≡ h.texts ++ stripped ∷ []
      lines_last some no_end same = with_last h.text line h.texts h.are_lines (none_at_all line stops no_end) some ∙ ap (λ l. h.texts ++ l ∷ []) (sym same)

      -- the line as one of all
      pub begins_so : (b' : Bool) → MatchBool b' (IsEnded line) (¬ (IsEnded line)) → ((ended : IsEnded line) → stripped ≡ strip_carriage_return ended.0) → (¬ (IsEnded line) → stripped ≡ line)
          → 0 < length line → BeginsWith start (h.texts ++ stripped ∷ [])
      begins_so true ended same other some =
          begins_with start new (h.text ++ line) (h.texts ++ stripped ∷ []) (taken_both start now new h.text line h.taken taken) (lines_more ended (same ended))
      begins_so false no_end same other some = record {
        all = h.text ++ line;
        is_all = taken_all start now new h.text line h.taken taken (last no_end);
        behind = [];
        split = lines_last some no_end (other no_end) ∙ sym (append-nil (h.texts ++ stripped ∷ []));
      }

      module _ (d : Option (List ℕ)) (next : Course) (goes : GoesOn old told n b d next) where
        -- a line with its end, behind which there may be more
        pub one_read : (ended : IsEnded line) → stripped ≡ strip_carriage_return ended.0 → HasRead c start new n a d next
        one_read ended same = record {
          text = h.text ++ line;
          texts = h.texts ++ stripped ∷ [];
          taken = taken_both start now new h.text line h.taken taken;
          are_lines = lines_more ended same;
          counted = omega (arith, number_is, length-append h.texts (stripped ∷ []));
          is = one_more c h.texts stripped n a b d number_is short old next told h.is tells goes;
        }

        -- the last one, which has none
        pub last_read : 0 < length line → ¬ (IsEnded line) → stripped ≡ line → IsCourseOf c start a d next
        last_read some no_end same =
            whole c start a d (h.text ++ line) (h.texts ++ stripped ∷ []) next (taken_all start now new h.text line h.taken taken (last no_end))
            (lines_last some no_end same) (one_more c h.texts stripped n a b d number_is short old next told h.is tells goes)

      -- a line that ends the check
      module _ (d : Option (List ℕ)) (fault : Error) (begins : BeginsWith start (h.texts ++ stripped ∷ [])) where
        split_is : lines begins.all ≡ h.texts ++ stripped ∷ begins.behind
        split_is = begins.split ∙ append_assoc h.texts (stripped ∷ []) begins.behind

        bad_line : (column : ℕ) → IsBad stripped → IsCheckFault c start (BadLine n column)
        bad_line column bad = (
          begins.all,
          begins.is_all,
          record {
            before = h.texts;
            bad = stripped;
            after = begins.behind;
            split = split_is;
            counted = number_is;
            good = all_good h.texts h.is.told_lines h.is.told.spelled h.is.told.are_text;
            is_bad = bad;
          },
        )

        too_many : (trial : Trial) → IsReadTo c h.texts a b (Legal trial) → (line readings : ℕ) → line ≡ n → readings ≡ length trial.judge.states → most_readings < readings
            → IsCheckFault c start (Readings line readings)
        too_many trial read line readings same count many = record {
          text = begins.all;
          all = begins.is_all;
          told_lines = read.told_lines;
          numbers = read.numbers;
          first = record { front = h.texts; behind = stripped ∷ begins.behind; split = split_is; told = read.told };
          is_number = same ∙ number_is;
          states = trial.judge.states;
          reached = reached c read.told_lines trial read.is.0;
          count = count;
          too_many = many;
        }

        fault_by_line : (trial : Trial) (fault' : Error) → IsReadTo c h.texts a b (Legal trial) → IsStopByLine trial n b d fault' → IsCheckFault c start fault'
        fault_by_line trial Usage read is = absurd is
        fault_by_line trial (Startup why) read is = absurd is
        fault_by_line trial TraceUnreadable read is = absurd is
        fault_by_line trial ScriptUnreadable read is = absurd is
        fault_by_line trial (BadLine line column) read is = absurd is
        fault_by_line trial NoLabel read is = absurd is
        fault_by_line trial (Readings line readings) read is = too_many trial read line readings is.0 is.1 is.2
        fault_by_line trial (Script why) read is = absurd is
        fault_by_line trial OutputFailed read is = tt
        fault_by_line trial NoMemory read is = tt

        told_by_line : (trial : Trial) (fault' : Error) → IsStopByLine trial n b d fault' → IsToldBefore c start a d fault'
        told_by_line trial Usage is = absurd is
        told_by_line trial (Startup why) is = absurd is
        told_by_line trial TraceUnreadable is = absurd is
        told_by_line trial ScriptUnreadable is = absurd is
        told_by_line trial (BadLine line column) is = absurd is
        told_by_line trial NoLabel is = absurd is
        told_by_line trial (Readings line readings) is = inr (subst (λ x. IsToldSoFar c start a x) (sym is.3) told_so_far)
        told_by_line trial (Script why) is = absurd is
        told_by_line trial OutputFailed is = inl (inl refl)
        told_by_line trial NoMemory is = inl (inr refl)

        stop_by_line : (course : Course) → IsReadTo c h.texts a b course → IsStopOf course n b d fault → IsCheckFault c start fault × IsToldBefore c start a d fault
        stop_by_line (Legal trial) read is = (fault_by_line trial fault read is, told_by_line trial fault is)
        stop_by_line (Refused stop) read is = absurd is

        pub stopped : (told' : Told) → Tells stripped told' → IsStop old told' n b d fault → IsCheckFault c start fault × IsToldBefore c start a d fault
        stopped (TellsLine line) tells' is = stop_by_line old h.is is
        stopped Nothing tells' is = absurd is
        stopped (BadWord column) tells' is =
            (subst (IsCheckFault c start) (sym is.0) (bad_line column tells'), inr (subst (λ x. IsToldSoFar c start a x) (sym is.1) told_so_far))
