-- The labels that are written, and those that are left.
use Rattle.script.proofs.Common.{◌≡◌, ℕ, List, [], ◌∷◌, ◌++◌, Bool, true, false, Option, Some, None, ap, subst, sym, refl, ◌∙◌, drop, decimal, join_with_byte, append_assoc, append-nil, Kind, in_memory, request_in_memory, ClientRequest, Label, Answer, TakesAnswer, TakesShown, ManagerView, Words, kind_word, line_end, short_extent, short_line_of, Style, Transcript, Trace, label_line, labels_text, all_taken, GoWith, HasBytesOf, answered_by, first_bytes, left_by}
use Rattle.std.specs.Prelude.{IsTrue, codes}
use Rattle.srb.specs.declared.DeviceLabel.TheVariants.{Start, Act, Fault, Return}
use Rattle.srb.specs.declared.Kind.TheVariants.{Read, Write, Flush}
use Rattle.machine.specs.declared.Label.TheVariants.{Call, Device, Answer as AnswerLabel, Cancel, Pause, Resume, Remove, Surprise, Removed}

-- taking an answer leaves those behind the first
pub answer_taken : (old new : ManagerView) (answer : Option Answer) → TakesAnswer old answer new → new ≡ record old { answers = drop 1 old.answers }
answer_taken old new None t =
    t.1 ∙ (ap (λ (xs : List Answer). record old { answers = xs }) t.0 ∙ ap (λ (xs : List Answer). record old { answers = drop 1 xs }) (sym t.0))
answer_taken old new (Some answer) t = t.3 ∙ ap (λ (xs : List Answer). record old { answers = drop 1 xs }) (sym t.1)

-- A LABEL

-- a label that keeps its bytes is in memory as it is told
whole : (label : Label) → in_memory true label ≡ label
whole (Call number q) = refl
whole (Device (Start piece tag block)) = refl
whole (Device (Act piece bytes)) = refl
whole (Device (Fault piece)) = refl
whole (Device (Return piece class)) = refl
whole (AnswerLabel number status information bytes) = refl
whole (Cancel number) = refl
whole Pause = refl
whole Resume = refl
whole Remove = refl
whole Surprise = refl
whole Removed = refl

-- the bytes of the answer that goes with a label are those that the label tells
same_bytes : (answers : List Answer) (bytes : List ℕ) → bytes ≡ first_bytes answers [] → first_bytes answers bytes ≡ bytes
same_bytes [] bytes same = refl
same_bytes (answer ∷ answers) bytes same = sym same

whole_answered : (label : Label) (answers : List Answer) → HasBytesOf label answers → answered_by label answers ≡ label
whole_answered (AnswerLabel number status information bytes) answers same = ap (λ (l : List ℕ). AnswerLabel number status information l) (same_bytes answers bytes same)
whole_answered (Call number q) answers same = refl
whole_answered (Device label) answers same = refl
whole_answered (Cancel number) answers same = refl
whole_answered Pause answers same = refl
whole_answered Resume answers same = refl
whole_answered Remove answers same = refl
whole_answered Surprise answers same = refl
whole_answered Removed answers same = refl

-- a call in short tells no bytes
bare_extent : (kind : Kind) (q : ClientRequest) → short_extent kind (request_in_memory false q) ≡ short_extent kind q
bare_extent Read q = refl
bare_extent Write q = refl
bare_extent Flush q = refl

-- a label in short tells bytes of answers alone
short_answered : (label : Label) (answers : List Answer) → HasBytesOf label answers → short_line_of (answered_by (in_memory false label) answers) ≡ short_line_of label
short_answered (Call number q) answers same =
    ap (λ (extent : Words). join_with_byte 32 (codes "call" ∷ decimal number ∷ kind_word q.kind ∷ extent)) (bare_extent q.kind q)
short_answered (Device (Start piece tag block)) answers same = refl
short_answered (Device (Act piece bytes)) answers same = refl
short_answered (Device (Fault piece)) answers same = refl
short_answered (Device (Return piece class)) answers same = refl
short_answered (AnswerLabel number status information bytes) answers same =
    ap (λ (l : List ℕ). short_line_of (AnswerLabel number status information l)) (sym same)
short_answered (Cancel number) answers same = refl
short_answered Pause answers same = refl
short_answered Resume answers same = refl
short_answered Remove answers same = refl
short_answered Surprise answers same = refl
short_answered Removed answers same = refl

-- the line of a label as memory has it, with the bytes of the answer that goes with it, is that of the label
line_answered : (style : Style) (keeps : Bool) (label : Label) (answers : List Answer) → (style ≡ Trace → IsTrue keeps) → HasBytesOf label answers
    → label_line style (answered_by (in_memory keeps label) answers) ≡ label_line style label
line_answered style true label answers traced same =
    ap (λ (l : Label). label_line style (answered_by l answers)) (whole label) ∙ ap (label_line style) (whole_answered label answers same)
line_answered Transcript false label answers traced same = ap (λ (l : List ℕ). l ++ line_end) (short_answered label answers same)
line_answered Trace false label answers traced same = let no : false ≡ true = traced refl in absurd (cc (no))

left_same : (keeps : Bool) (label : Label) (answers : List Answer) → left_by (in_memory keeps label) answers ≡ left_by label answers
left_same keeps (AnswerLabel number status information bytes) answers = refl
left_same keeps (Call number q) answers = refl
left_same keeps (Device label) answers = refl
left_same keeps (Cancel number) answers = refl
left_same keeps Pause answers = refl
left_same keeps Resume answers = refl
left_same keeps Remove answers = refl
left_same keeps Surprise answers = refl
left_same keeps Removed answers = refl

-- ALL LABELS

-- the labels of a stack are written behind a text and taken but for those that are left, and with them the answers that go with them
pub record AreWritten (style : Style) (old : List ℕ) (all left : ManagerView) (new : List ℕ) : Type 0 where
  pub behind : old ++ labels_text style all.labels ≡ new ++ labels_text style left.labels
  pub taken : all_taken all ≡ all_taken left
  pub answers : GoWith left.labels left.answers
  pub bytes : style ≡ Trace → IsTrue left.rules.keeps_bytes

pub none_written : (style : Style) (old : List ℕ) (all : ManagerView) → GoWith all.labels all.answers → (style ≡ Trace → IsTrue all.rules.keeps_bytes) → AreWritten style old all all old
none_written style old all answers bytes = record { behind = refl; taken = refl; answers = answers; bytes = bytes }

one_written : (style : Style) (old : List ℕ) (all left : ManagerView) (label : Label) (rest : List Label) (mid new : List ℕ) → AreWritten style old all left mid
    → left.labels ≡ label ∷ rest → new ≡ mid ++ label_line style (answered_by (in_memory left.rules.keeps_bytes label) left.answers)
    → AreWritten style old all (record left { labels = rest; answers = left_by label left.answers }) new
one_written style old all left label rest mid new h first more =
    let go : GoWith (label ∷ rest) left.answers = subst (λ (labels : List Label). GoWith labels left.answers) first h.answers in
    let line = line_answered style left.rules.keeps_bytes label left.answers h.bytes go.0 in
    record {
      behind = h.behind ∙ (ap (λ (labels : List Label). mid ++ labels_text style labels) first
          ∙ (sym (append_assoc mid (label_line style label) (labels_text style rest))
          ∙ ap (λ (l : List ℕ). l ++ labels_text style rest) (sym (more ∙ ap (λ (l : List ℕ). mid ++ l) line))));
      taken = h.taken;
      answers = go.1;
      bytes = h.bytes;
    }

-- the same with the stack as it is after the line
pub step_written : (style : Style) (old : List ℕ) (all before after : ManagerView) (shown label : Label) (mid new : List ℕ) (last : ManagerView) → AreWritten style old all before mid
    → TakesShown before (Some shown) after → last ≡ record after { answers = left_by shown after.answers } → label ≡ answered_by shown after.answers
    → new ≡ mid ++ label_line style label → AreWritten style old all last new
step_written style old all before after shown label mid new last h (rest, told, first, is_shown, is_after) same answered more =
    let keeps : Bool = before.rules.keeps_bytes in
    let answers : after.answers ≡ before.answers = ap (λ (v : ManagerView). v.answers) is_after in
    let line : label ≡ answered_by (in_memory keeps told) before.answers = answered ∙ (λ i. answered_by (is_shown i) (answers i)) in
    let left : left_by shown after.answers ≡ left_by told before.answers = (λ i. left_by (is_shown i) (answers i)) ∙ left_same keeps told before.answers in
    let there : last ≡ record before { labels = rest; answers = left_by told before.answers } =
    same ∙ (λ i. record (is_after i) { answers = left i }) in
    subst (λ (v : ManagerView). AreWritten style old all v new) (sym there)
    (one_written style old all before told rest mid new h first (more ∙ ap (λ (l : Label). mid ++ label_line style l) line))

-- with no label left, all are written and taken
pub all_written : (style : Style) (old : List ℕ) (all left : ManagerView) (new : List ℕ) → AreWritten style old all left new → left.labels ≡ []
    → new ≡ old ++ labels_text style all.labels
all_written style old all left new h none = sym (h.behind ∙ (ap (λ (labels : List Label). new ++ labels_text style labels) none ∙ append-nil new))

pub none_left : (style : Style) (old : List ℕ) (all left : ManagerView) (new : List ℕ) → AreWritten style old all left new → left.labels ≡ [] → left ≡ all_taken all
none_left style old all left new h none =
    let gone : left.answers ≡ [] = subst (λ (labels : List Label). GoWith labels left.answers) none h.answers in
    (λ i. record left { labels = none i; answers = gone i }) ∙ sym h.taken
