-- A trace that gets lines, some behind others.
use Rattle.serving.proofs.Common.{◌≡◌, ℕ, Bool, true, List, [], ◌∷◌, ◌++◌, Option, Some, None, refl, sym, ap, subst, ◌∙◌, append-nil, append_assoc, Label, ManagerView, TraceView, Wrote, lines_of, shown_lines}
use Rattle.std.specs.Prelude.{IsTrue}
use Rattle.io_manager.specs.Right.{TakesShown}
use Rattle.std.specs.Io.KnownBytes.{Appends}
use Rattle.machine.specs.Bare.{in_memory}
use Rattle.machine.specs.declared.Label.TheVariants.{Call, Device, Answer as AnswerLabel, Cancel, Pause, Resume, Remove, Surprise, Removed}
use Rattle.srb.specs.declared.DeviceLabel.TheVariants.{Start, Act, Fault, Return}
use Rattle.label_text.specs.Lines.{line_end, line_of, owned}

appends_none : (known : Option (List ℕ)) → Appends known known []
appends_none None = tt
appends_none (Some xs) = sym (append-nil xs)

appends_more : (old mid new : Option (List ℕ)) (xs ys : List ℕ) → Appends old mid xs → Appends mid new ys → Appends old new (xs ++ ys)
appends_more None mid new xs ys h k = tt
appends_more (Some a) None new xs ys h k = absurd h
appends_more (Some a) (Some b) None xs ys h k = absurd k
appends_more (Some a) (Some b) (Some c) xs ys h k = k ∙ ap (λ (t : List ℕ). t ++ ys) h ∙ append_assoc a xs ys

abbrev line : Label → List ℕ
line label = line_of (owned label None) ++ line_end

lines_append : (xs ys : List Label) → lines_of (xs ++ ys) ≡ lines_of xs ++ lines_of ys
lines_append [] ys = refl
lines_append (x ∷ xs) ys = ap (λ (t : List ℕ). line x ++ t) (lines_append xs ys) ∙ sym (append_assoc (line x) (lines_of xs) (lines_of ys))

pub wrote_none : (trace : TraceView) → Wrote trace [] trace
wrote_none trace whole = (whole, appends_none trace.bytes)

pub wrote_more : (old mid new : TraceView) (xs ys : List Label) → Wrote old xs mid → Wrote mid ys new → Wrote old (xs ++ ys) new
wrote_more old mid new xs ys h k whole =
    let two = k whole in
    let one = h two.0 in
    (one.0, subst (λ (t : List ℕ). Appends old.bytes new.bytes t) (sym (lines_append xs ys)) (appends_more old.bytes mid.bytes new.bytes (lines_of xs) (lines_of ys) one.1 two.1))

-- a label that keeps its bytes is in memory as it is told
in_whole : (label : Label) → in_memory true label ≡ label
in_whole (Call number q) = refl
in_whole (Device (Start piece tag block)) = refl
in_whole (Device (Act piece bytes)) = refl
in_whole (Device (Fault piece)) = refl
in_whole (Device (Return piece class)) = refl
in_whole (AnswerLabel number status information bytes) = refl
in_whole (Cancel number) = refl
in_whole Pause = refl
in_whole Resume = refl
in_whole Remove = refl
in_whole Surprise = refl
in_whole Removed = refl

pub shown_whole : (labels : List Label) → shown_lines true labels ≡ lines_of labels
shown_whole [] = refl
shown_whole (label ∷ labels) = ap (λ (l : Label). line l ++ shown_lines true labels) (in_whole label) ∙ ap (λ (t : List ℕ). line label ++ t) (shown_whole labels)

-- THE LINES OF A STEP

-- the lines of the labels that were taken stand behind a text, if there was memory for all
pub record AreLined (old : List ℕ) (first left : ManagerView) (all : Bool) (text : List ℕ) : Type 0 where
  pub behind : IsTrue all → old ++ shown_lines first.rules.keeps_bytes first.labels ≡ text ++ shown_lines first.rules.keeps_bytes left.labels
  pub same : left ≡ record first { labels = left.labels }

pub lined_none : (old : List ℕ) (first : ManagerView) (all : Bool) → AreLined old first first all old
lined_none old first all = record { behind = λ _. refl; same = refl }

pub lined_more : (old : List ℕ) (first before after : ManagerView) (shown : Label) (all all' : Bool) (mid new : List ℕ) → AreLined old first before all mid → TakesShown before (Some shown) after
    → (IsTrue all' → IsTrue all × (new ≡ mid ++ (line_of (owned shown None) ++ line_end))) → AreLined old first after all' new
lined_more old first before after shown all all' mid new h t one = record {
  behind = λ whole.
      let w = one whole in
      let bytes : shown ≡ in_memory first.rules.keeps_bytes t.1 = t.3 ∙ ap (λ (v : ManagerView). in_memory v.rules.keeps_bytes t.1) h.same in
      h.behind w.0
      ∙ ap (λ (ls : List Label). mid ++ shown_lines first.rules.keeps_bytes ls) t.2
      ∙ ap (λ (l : Label). mid ++ (line l ++ shown_lines first.rules.keeps_bytes t.0)) (sym bytes)
      ∙ sym (append_assoc mid (line shown) (shown_lines first.rules.keeps_bytes t.0))
      ∙ ap (λ (xs : List ℕ). xs ++ shown_lines first.rules.keeps_bytes t.0) (sym w.1)
      ∙ ap (λ (ls : List Label). new ++ shown_lines first.rules.keeps_bytes ls) (sym (ap (λ (v : ManagerView). v.labels) t.4));
  same = t.4 ∙ ap (λ (v : ManagerView). record v { labels = t.0 }) h.same ∙ ap (λ (ls : List Label). record first { labels = ls }) (sym (ap (λ (v : ManagerView). v.labels) t.4));
}

pub all_lined : (old : List ℕ) (first last : ManagerView) (all : Bool) (text : List ℕ) → AreLined old first last all text → last.labels ≡ [] → IsTrue all → text ≡ old ++ shown_lines first.rules.keeps_bytes first.labels
all_lined old first last all text h none whole = sym (h.behind whole ∙ ap (λ (ls : List Label). text ++ shown_lines first.rules.keeps_bytes ls) none ∙ append-nil text)

pub lines_taken : (old : List ℕ) (first last : ManagerView) (all : Bool) (text : List ℕ) → AreLined old first last all text → last.labels ≡ [] → last ≡ record first { labels = [] }
lines_taken old first last all text h none = h.same ∙ ap (λ (ls : List Label). record first { labels = ls }) none

-- they were given to the writer
pub lines_given : (old new : TraceView) (keeps_bytes : Bool) (labels : List Label) (empty text : List ℕ) (all : Bool) → empty ≡ [] → (IsTrue all → text ≡ empty ++ shown_lines keeps_bytes labels)
    → (IsTrue new.whole → IsTrue old.whole × IsTrue all × Appends old.bytes new.bytes text) → IsTrue keeps_bytes → Wrote old labels new
lines_given old new keeps_bytes labels empty text all none lined put keeps whole =
    let given = put whole in
    let lines : text ≡ lines_of labels = lined given.1 ∙ ap (λ (xs : List ℕ). xs ++ shown_lines keeps_bytes labels) none ∙ ap (λ (k : Bool). shown_lines k labels) keeps ∙ shown_whole labels in
    (given.0, subst (λ (t : List ℕ). Appends old.bytes new.bytes t) lines given.2)
