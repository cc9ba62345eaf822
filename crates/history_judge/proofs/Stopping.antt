-- Histories, label by label.
use Rattle.std.proofs.Common.{◌≡◌, ◌<◌, ℕ, ◌+◌, ◌^◌, Bool, true, false, List, [], ◌∷◌, ◌++◌, ◌⊎◌, inl, inr, Option, Some, None, sym, ◌∙◌, ap, subst, append-nil, append_assoc}
use Rattle.std.specs.Prelude.{Result, Ok, Err, OnOk, if◌then◌else◌}
use Rattle.std.proofs.lemmas.Bool.{cases_Bool}
use Rattle.srb.specs.declared.Kind.{Kind}
use Rattle.machine.specs.declared.Label.{Label}
use Rattle.machine.specs.Rules.{Rules}
use Rattle.history_laws.specs.Fitting.{asked_after, owed_after}
use Rattle.history.specs.Gaps.{fits_by, all_fit_by, all_fit_by_at_first}
use Rattle.history.specs.Filling.{ExplainedBySomeFit}
use Rattle.register.specs.Values.{code}
use Rattle.history.specs.Waits.{step}
use Rattle.history_fitting.specs.declared.fitting.Misfit.{Misfit}
use Rattle.history_judge.specs.declared.cells.Cells.{Cells}
use Rattle.history_judge.specs.declared.cells.Span.{Span}
use Rattle.history_judge.specs.declared.recorded.Fitted.{Fitted}
use Rattle.history_fitting.specs.Services.{rules_of}
use Rattle.history_judge.specs.Verdicts.{IsUnfit}
use Rattle.history_fitting.specs.Opened.{opened_at, may_come_by, Takes}
use Rattle.history_judge.specs.inside.Cells.{HasCells, AreToldOf, in_span, seen_in, seen_of}
use Rattle.history_judge.specs.inside.Histories.{AreTold, IsSpan, IsWhole, IsStopped, StopsAt}
use Rattle.history_judge.proofs.Judged.{unfit}
use Rattle.history_fitting.proofs.Opening.{comes_by, open_next_by, owed_next, open_first}
use Rattle.history_judge.proofs.Fresh.{stands, seen_push, told_next, told_first, passed_over, told_of, span_fits}
use Rattle.history_judge.proofs.Visiting.{cells_alike}

pub on_ok : {T E : Type 0} {P Q : Type 0} (r : Result T E) → (P → Q) → OnOk r P → OnOk r Q
on_ok (Ok x) f h = f h
on_ok (Err fault) f h = tt

abbrev span_or : Span → Option (Span × Kind) → Span
span_or span None = span
span_or span (Some found) = found.0

same_span : (span other : Span) (kind same : Kind) → ◌≡◌ {A = Option (Span × Kind)} (Some (span, kind)) (Some (other, same)) → span ≡ other
same_span span other kind same e = ap (span_or span) e

-- labels so far fit
pub fit_so_far : (f : Fitted) → IsWhole f → all_fit_by_at_first (rules_of f.basis.service) f.gaps.items f.labels.items ≡ true
fit_so_far f whole =
    ap (λ gaps. all_fit_by_at_first (rules_of f.basis.service) gaps f.labels.items) (sym (append-nil f.gaps.items))
    ∙ ap (all_fit_by_at_first (rules_of f.basis.service) (f.gaps.items ++ [])) (sym (append-nil f.labels.items)) ∙ whole.known [] []

-- labels behind one that doesn't fit make no history that a run explains
pub unfit_stopped : ExplainedBySomeFit → (f : Fitted) (gaps : List Bool) (behind : List Label) → IsWhole f → IsStopped f gaps behind → IsUnfit f.basis.service (f.gaps.items ++ gaps) (f.labels.items ++ behind)
unfit_stopped law f gaps behind whole stopped =
    let rules : Rules = rules_of f.basis.service in
    let not_fit : fits_by stopped.gap rules whole.asked f.known.owed stopped.label ≡ false = sym (comes_by rules whole.asked f.known whole.opens stopped.gap stopped.label) ∙ stopped.misfit in
    unfit law f.basis.service (f.gaps.items ++ gaps) (f.labels.items ++ behind)
    (whole.known gaps behind ∙ ap (λ gs. all_fit_by rules whole.asked f.known.owed gs behind) stopped.gaps_are ∙ ap (all_fit_by rules whole.asked f.known.owed (stopped.gap ∷ stopped.other_gaps)) stopped.is
    ∙ ap (λ b. if b then all_fit_by rules (asked_after rules whole.asked f.known.owed stopped.label) (owed_after rules f.known.owed stopped.label) stopped.other_gaps stopped.rest else false) not_fit)

pub unfit_by : ExplainedBySomeFit → (f : Fitted) (misfit : Option (ℕ × Misfit)) (gaps all_gaps : List Bool) (behind labels : List Label) (at : ℕ × Misfit) → misfit ≡ Some at → f.gaps.items ++ gaps ≡ all_gaps
    → f.labels.items ++ behind ≡ labels → IsWhole f → StopsAt f misfit gaps behind → IsUnfit f.basis.service all_gaps labels
unfit_by law f misfit gaps all_gaps behind labels at is same_gaps same whole stops =
    subst (λ gs. IsUnfit f.basis.service gs labels) same_gaps
    (subst (IsUnfit f.basis.service (f.gaps.items ++ gaps)) same (unfit_stopped law f gaps behind whole (subst (λ m. StopsAt f m gaps behind) is stops)))

-- where all labels fit none is behind
pub none_behind : (f : Fitted) (misfit : Option (ℕ × Misfit)) (gaps all_gaps : List Bool) (behind labels : List Label) → misfit ≡ None → f.gaps.items ++ gaps ≡ all_gaps → f.labels.items ++ behind ≡ labels
    → StopsAt f misfit gaps behind → (f.gaps.items ≡ all_gaps) × (f.labels.items ≡ labels)
none_behind f misfit gaps all_gaps behind labels is same_gaps same stops =
    let none : (gaps ≡ []) × (behind ≡ []) = subst (λ m. StopsAt f m gaps behind) is stops in (
      sym (ap (λ xs. f.gaps.items ++ xs) none.0 ∙ append-nil f.gaps.items) ∙ same_gaps,
      sym (ap (λ xs. f.labels.items ++ xs) none.1 ∙ append-nil f.labels.items) ∙ same,
    )

-- BEFORE THE FIRST LABEL

pub whole_first : (f : Fitted) → 0 < f.basis.service.sector_size → f.labels.items ≡ [] → f.gaps.items ≡ [] → f.known.calls ≡ 0 → f.known.owed ≡ None → ((n : ℕ) → opened_at f.known.opened n ≡ None)
    → HasCells f.basis.start.any f.basis.start.bytes (λ p i. []) f.cells → IsWhole f
whole_first f sized none no_gaps calls owed closed cells = record {
  sized = sized;
  asked = None ∷ [];
  known = λ gaps rest.
      ap (λ xs. all_fit_by_at_first (rules_of f.basis.service) (f.gaps.items ++ gaps) (xs ++ rest)) none
      ∙ ap (λ gs. all_fit_by_at_first (rules_of f.basis.service) (gs ++ gaps) rest) no_gaps
      ∙ ap (λ o. all_fit_by (rules_of f.basis.service) (None ∷ []) o gaps rest) (sym owed);
  opens = open_first f.known calls owed closed;
  told = subst (λ ls. AreTold (rules_of f.basis.service) ls f.known) (sym none) (told_first (rules_of f.basis.service) f.known closed);
  cells = subst (λ ls. HasCells f.basis.start.any f.basis.start.bytes (seen_of (rules_of f.basis.service) ls) f.cells) (sym none) cells;
}

-- ONE LABEL MORE

module _ (f : Fitted) (gap : Bool) (label : Label) (whole : IsWhole f) (can : may_come_by gap (rules_of f.basis.service) f.known label ≡ true) where
  abbrev rules : Rules
  rules = rules_of f.basis.service

  next_seen : (p i : ℕ) → step code rules p i (seen_of rules f.labels.items p i) label ≡ seen_of rules (f.labels.items ++ label ∷ []) p i
  next_seen p i = sym (seen_push rules p i [] f.labels.items label)

  passed : (found : Option (Span × Kind)) → IsSpan rules f.known label found → (p i : ℕ) → ((span : Span) (kind : Kind) → found ≡ Some (span, kind) → in_span span p i ≡ false)
      → seen_of rules f.labels.items p i ≡ seen_of rules (f.labels.items ++ label ∷ []) p i
  passed found spans p i out = sym (passed_over rules whole.asked f.labels.items f.known f.known whole.opens whole.told label found p i (stands gap rules f.known label can) spans out) ∙ next_seen p i

  -- what was visited is all that it is for
  visited : (span : Span) (kind : Kind) → IsSpan rules f.known label (Some (span, kind)) → (p i : ℕ)
      → seen_in rules (seen_of rules f.labels.items) span.partition span.extent.first (span.extent.first + span.extent.count) label p i ≡ seen_of rules (f.labels.items ++ label ∷ []) p i
  visited span kind spans p i = by (cases_Bool (in_span span p i))
    where
      by : (in_span span p i ≡ true) ⊎ (in_span span p i ≡ false)
          → seen_in rules (seen_of rules f.labels.items) span.partition span.extent.first (span.extent.first + span.extent.count) label p i ≡ seen_of rules (f.labels.items ++ label ∷ []) p i
      by (inl e) = ap (λ b. if b then step code rules p i (seen_of rules f.labels.items p i) label else seen_of rules f.labels.items p i) e ∙ next_seen p i
      by (inr e) =
          ap (λ b. if b then step code rules p i (seen_of rules f.labels.items p i) label else seen_of rules f.labels.items p i) e
          ∙ passed (Some (span, kind)) spans p i (λ s k other. subst (λ (x : Span). in_span x p i ≡ false) (same_span span s kind k other) e)

  pub cells_visited : (span : Span) (kind : Kind) (cells : Cells) → IsSpan rules f.known label (Some (span, kind))
      → HasCells f.basis.start.any f.basis.start.bytes (seen_in rules (seen_of rules f.labels.items) span.partition span.extent.first (span.extent.first + span.extent.count) label) cells
      → HasCells f.basis.start.any f.basis.start.bytes (seen_of rules (f.labels.items ++ label ∷ [])) cells
  cells_visited span kind cells spans h =
      cells_alike f.basis.start.any f.basis.start.bytes (seen_in rules (seen_of rules f.labels.items) span.partition span.extent.first (span.extent.first + span.extent.count) label)
      (seen_of rules (f.labels.items ++ label ∷ [])) cells (visited span kind spans) h

  pub cells_passed : IsSpan rules f.known label None → HasCells f.basis.start.any f.basis.start.bytes (seen_of rules (f.labels.items ++ label ∷ [])) f.cells
  cells_passed spans =
      cells_alike f.basis.start.any f.basis.start.bytes (seen_of rules f.labels.items) (seen_of rules (f.labels.items ++ label ∷ [])) f.cells (λ p i. passed None spans p i (λ s k other. absurd (cc (other)))) whole.cells

  pub told_label : (span : Span) (kind : Kind) → IsSpan rules f.known label (Some (span, kind)) → AreToldOf rules (seen_of rules f.labels.items) span kind label
  told_label span kind spans = told_of rules whole.asked f.labels.items f.known f.known whole.opens whole.told label span kind (stands gap rules f.known label can) spans

  pub fits_label : (span : Span) (kind : Kind) → IsSpan rules f.known label (Some (span, kind)) → span.extent.first + span.extent.count < 2 ^ 64
  fits_label span kind spans = span_fits rules whole.asked f.labels.items f.known f.known whole.opens whole.told label span kind spans

  pub whole_push : (g : Fitted) → g.basis ≡ f.basis → g.labels.items ≡ f.labels.items ++ label ∷ [] → g.gaps.items ≡ f.gaps.items ++ gap ∷ [] → Takes rules f.known label g.known
      → HasCells f.basis.start.any f.basis.start.bytes (seen_of rules (f.labels.items ++ label ∷ [])) g.cells → IsWhole g
  whole_push g same told noted takes cells = record {
    sized = subst (λ b. 0 < b.service.sector_size) (sym same) whole.sized;
    asked = asked_after rules whole.asked f.known.owed label;
    known = λ gaps rest.
        ap (λ b. all_fit_by_at_first (rules_of b.service) (g.gaps.items ++ gaps) (g.labels.items ++ rest)) same
        ∙ ap (λ xs. all_fit_by_at_first rules (g.gaps.items ++ gaps) (xs ++ rest)) told
        ∙ ap (λ gs. all_fit_by_at_first rules (gs ++ gaps) ((f.labels.items ++ label ∷ []) ++ rest)) noted
        ∙ ap (all_fit_by_at_first rules ((f.gaps.items ++ gap ∷ []) ++ gaps)) (append_assoc f.labels.items (label ∷ []) rest)
        ∙ ap (λ gs. all_fit_by_at_first rules gs (f.labels.items ++ (label ∷ rest))) (append_assoc f.gaps.items (gap ∷ []) gaps)
        ∙ whole.known (gap ∷ gaps) (label ∷ rest)
        ∙ ap (λ b. if b then all_fit_by rules (asked_after rules whole.asked f.known.owed label) (owed_after rules f.known.owed label) gaps rest else false)
        (sym (comes_by rules whole.asked f.known whole.opens gap label) ∙ can)
        ∙ ap (λ o. all_fit_by rules (asked_after rules whole.asked f.known.owed label) o gaps rest) (sym (owed_next rules f.known g.known label takes))
        ∙ ap (λ b. all_fit_by (rules_of b.service) (asked_after rules whole.asked f.known.owed label) g.known.owed gaps rest) (sym same);
    opens = open_next_by rules whole.asked f.known g.known whole.opens gap label can takes;
    told = subst (λ b. AreTold (rules_of b.service) g.labels.items g.known) (sym same)
        (subst (λ xs. AreTold rules xs g.known) (sym told)
        (told_next rules whole.asked f.labels.items f.known g.known whole.opens whole.told whole.sized label (stands gap rules f.known label can) takes));
    cells = subst (λ b. HasCells b.start.any b.start.bytes (seen_of (rules_of b.service) g.labels.items) g.cells) (sym same)
        (subst (λ xs. HasCells f.basis.start.any f.basis.start.bytes (seen_of rules xs) g.cells) (sym told) cells);
  }
