-- Histories over sessions, line by line.
use Rattle.std.proofs.Common.{◌≡◌, ◌<◌, ℕ, ◌+◌, ◌-◌, ◌^◌, Bool, true, false, List, [], ◌∷◌, ◌++◌, ◌⊎◌, inl, inr, Option, Some, None, refl, sym, ◌∙◌, ap, subst, arith, append-nil, append_assoc, length, IfSome, is_some}
use Rattle.std.specs.Prelude.{is_none, if◌then◌else◌}
use Rattle.std.specs.List.{list_any}
use Rattle.std.proofs.lemmas.Bool.{cases_Bool}
use Rattle.ntstatus.specs.declared.NtStatus.{NtStatus}
use Rattle.machine.specs.declared.ClientRequest.{ClientRequest}
use Rattle.machine.specs.declared.Label.{Label}
use Rattle.machine.specs.declared.Label.TheVariants.{Call, Device, Answer, Cancel, Pause, Resume, Remove, Surprise, Removed}
use Rattle.machine.specs.Rules.{Rules}
use Rattle.history_laws.specs.declared.Asked.{Asked}
use Rattle.history_laws.specs.Fitting.{fits, asked_after, owed_after}
use Rattle.loss.specs.Sessions.{Line as SessionLine, Told as ToldLine}
use Rattle.history_loss_runs.specs.Laws.{all_fit_over}
use Rattle.history_loss_fits.specs.Laws.{LabelsFit, labels_fit}
use Rattle.history_loss_kept.specs.declared.Shared.{Shared}
use Rattle.history_loss_kept.specs.Kept.{is_sync_of}
use Rattle.history_loss_sights.specs.Sights.{has_sector}
use Rattle.history_loss_sector.specs.declared.seen.Turned.{Turned}
use Rattle.history_loss_sector.specs.declared.seen.Turned.TheVariants.{Lost as TurnsLost, Ended as TurnsEnded}
use Rattle.history_loss_sector.specs.Seen.{SeenView, shared_in, turned_sight}
use Rattle.history_fitting.specs.declared.fitting.Misfit.{Misfit}
use Rattle.history_fitting.specs.declared.service.Service.{Service}
use Rattle.history_loss_judge.specs.Histories.{HistoryView}
use Rattle.history_fitting.specs.Opened.{Takes, may_come, opened_at}
use Rattle.history_fitting.specs.Services.{rules_of}
use Rattle.history_fitting.proofs.Opening.{comes_is, open_first, open_next, owed_next}
use Rattle.history_loss_judge.specs.declared.lines.Line.{Line}
use Rattle.history_loss_judge.specs.declared.lines.Line.TheVariants.{Told}
use Rattle.history_loss_judge.specs.declared.recorded.Fitted.{Fitted}
use Rattle.history_loss_judge.specs.declared.spans.Span.{Span}
use Rattle.history_loss_judge.specs.declared.syncs.Syncs.{Syncs}
use Rattle.history_loss_judge.specs.Verdicts.{IsUnfit}
use Rattle.history_loss_judge.specs.inside.Cells.{AreToldBy, HasCells, kept_by, kept_in, nothing_seen, turned_by}
use Rattle.history_loss_judge.specs.inside.Histories.{AreOver, AreQuiet, IsHistory, IsKept, IsSpanAt, IsSpanFor, IsStopped, IsWhole, StopsAt, moves_at, owing_after}
use Rattle.history_loss_judge.specs.inside.Lines.{line_in, line_of, lines_in, turned_line}
use Rattle.history_loss_judge.specs.inside.Spans.{IsSpanOf, in_range}
use Rattle.history_loss_judge.specs.inside.Syncs.{BeginsBy, FinishesBy, IsSyncOf, index_of}
use Rattle.history_loss_judge.specs.inside.Telling.{behind_label, shared_called}
use Rattle.history_loss_judge.proofs.Alike.{labels_alike}
use Rattle.history_loss_judge.proofs.Keeping.{kept_first, kept_told, kept_turned}
use Rattle.history_loss_judge.proofs.Quiet.{answer_fresh, answer_passed, call_passed, once_next, quiet_next}
use Rattle.history_loss_judge.proofs.Syncing.{found_first, found_next, shared_next, sync_is}
use Rattle.history_loss_judge.proofs.Visiting.{cells_alike, range_in}

-- LINES

pub lines_push : (lines : List Line) (line : Line) → lines_in (lines ++ line ∷ []) ≡ lines_in lines ++ line_in line ∷ []
lines_push [] line = refl
lines_push (l ∷ lines) line = ap (λ xs. line_in l ∷ xs) (lines_push lines line)

pub lines_both : (xs ys : List Line) → lines_in (xs ++ ys) ≡ lines_in xs ++ lines_in ys
lines_both [] ys = refl
lines_both (l ∷ xs) ys = ap (λ zs. line_in l ∷ zs) (lines_both xs ys)

pub turned_is : (how : Turned) → line_in (turned_line how) ≡ line_of how
turned_is TurnsLost = refl
turned_is TurnsEnded = refl

-- BEFORE THE FIRST LINE

pub whole_first : (f : Fitted) → 0 < f.basis.service.sector_size → f.lines.items ≡ [] → f.owing ≡ None → f.known.calls ≡ 0 → f.known.owed ≡ None → ((n : ℕ) → opened_at f.known.opened n ≡ None)
    → shared_in f.syncs.shared.items ≡ [] → ((n : ℕ) → index_of f.syncs.calls n ≡ None) → HasCells f.basis.start (nothing_seen f.basis.start) f.cells → IsWhole f
whole_first f sized none owes calls owed closed unshared unfound cells = record {
  sized = sized;
  asked = None ∷ [];
  fit = λ rest. ap (λ xs. labels_fit rules (None ∷ []) None (lines_in xs ++ rest)) none ∙ ap (λ o. labels_fit rules (None ∷ []) o rest) (sym owed);
  over = subst (AreOver rules (None ∷ []) f.known.owed (lines_in f.lines.items)) (sym owes)
      (λ rest. ap (λ xs. all_fit_over rules (None ∷ []) None (lines_in xs ++ rest)) none ∙ ap (λ o. all_fit_over rules (None ∷ []) o rest) (sym owed));
  opens = open_first f.known calls owed closed;
  kept = nothing_seen f.basis.start;
  begins = λ i. refl;
  is_kept = subst (λ xs. IsKept rules (lines_in xs) (shared_in f.syncs.shared.items) (nothing_seen f.basis.start)) (sym none)
      (subst (λ xs. IsKept rules [] xs (nothing_seen f.basis.start)) (sym unshared) (kept_first rules f.basis.start));
  quiet = λ i n fresh still. refl;
  once = λ i n. tt;
  found = found_first f.known f.syncs unshared unfound;
  cells = cells;
}
  where
    rules : Rules
    rules = rules_of f.basis.service

-- ONE LABEL MORE

-- a place of its span
place_in : (first place : ℕ) → (first + place) - first ≡ place
place_in first place = omega arith

module _ (f : Fitted) (label : Label) (whole : IsWhole f) (can : may_come (rules_of f.basis.service) f.known label ≡ true) where
  abbrev rules : Rules
  rules = rules_of f.basis.service

  span_fits : (found : Option Span) → IsSpanFor rules f.known label found → IfSome found (λ s. s.first + s.count < 2 ^ 128)
  span_fits found spans = by_label label spans
    where
      by_span : (q : ClientRequest) (found : Option Span) → IsSpanOf rules q found → IfSome found (λ s. s.first + s.count < 2 ^ 128)
      by_span q None is = tt
      by_span q (Some span) is = is.fits

      none_fits : (found : Option Span) → found ≡ None → IfSome found (λ s. s.first + s.count < 2 ^ 128)
      none_fits None is = tt
      none_fits (Some span) is = absurd (cc (is))

      by_open : (request : Option ClientRequest) → IsSpanAt rules request found → IfSome found (λ s. s.first + s.count < 2 ^ 128)
      by_open None is = none_fits found is
      by_open (Some q) is = by_span q found is

      by_label : (label : Label) → IsSpanFor rules f.known label found → IfSome found (λ s. s.first + s.count < 2 ^ 128)
      by_label (Call n q) is = by_span q found is
      by_label (Answer n status informed bytes) is = by_open (opened_at f.known.opened n) is
      by_label (Device l) is = none_fits found is
      by_label (Cancel n) is = none_fits found is
      by_label Pause is = none_fits found is
      by_label Resume is = none_fits found is
      by_label Remove is = none_fits found is
      by_label Surprise is = none_fits found is
      by_label Removed is = none_fits found is

  pub fits_label : (found : Option Span) → IsSpanFor rules f.known label found → IfSome found (λ s. s.first + s.count < 2 ^ 128)
  fits_label found spans = span_fits found spans

-- what is told of each sector of its span
module _ (f : Fitted) (whole : IsWhole f) where
  abbrev these : Rules
  these = rules_of f.basis.service

  abbrev seen_by_all : List Shared
  seen_by_all = shared_in f.syncs.shared.items

  told_call : (n : ℕ) (q : ClientRequest) (found : Option Span) (behind : ℕ) (is_sync : Bool) → IsSpanOf these q found → length (shared_called (Call n q) seen_by_all) ≡ behind
      → AreToldBy these seen_by_all whole.kept found behind is_sync (Call n q)
  told_call n q None behind is_sync spans count = tt
  told_call n q (Some span) behind is_sync spans count = λ place low.
      (spans.has (span.first + place) ∙ range_in span.first place span.count low, ap (λ m. (span.first + place) - m) (sym spans.first) ∙ place_in span.first place, count)

  told_answer : (n : ℕ) (status : NtStatus) (informed : ℕ) (bytes : List ℕ) (found : Option Span) (behind : ℕ) (is_sync : Bool) → length seen_by_all ≡ behind → list_any (is_sync_of n) seen_by_all ≡ is_sync
      → AreToldBy these seen_by_all whole.kept found behind is_sync (Answer n status informed bytes)
  told_answer n status informed bytes None behind is_sync count is = tt
  told_answer n status informed bytes (Some span) behind is_sync count is = λ place low. (count, is, whole.once (span.first + place) n)

  told_other : (found : Option Span) (behind : ℕ) (is_sync : Bool) (label : Label) → found ≡ None → AreToldBy these seen_by_all whole.kept found behind is_sync label
  told_other None behind is_sync label is = tt
  told_other (Some span) behind is_sync label is = absurd (cc (is))

  pub told_label : (label : Label) → may_come these f.known label ≡ true → (found : Option Span) (behind : ℕ) (is_sync : Bool) → IsSpanFor these f.known label found → IsSyncOf f.syncs label is_sync
      → length (shared_called label seen_by_all) ≡ behind → AreToldBy these seen_by_all whole.kept found behind is_sync label
  told_label (Call n q) can found behind is_sync spans is count = told_call n q found behind is_sync spans count
  told_label (Answer n status informed bytes) can found behind is_sync spans is count =
      told_answer n status informed bytes found behind is_sync count
      (sync_is f.known f.syncs whole.found n (answer_fresh f.known n status informed (length bytes) f.known.owed refl can) is_sync is)
  told_label (Device l) can found behind is_sync spans is count = told_other found behind is_sync (Device l) spans
  told_label (Cancel n) can found behind is_sync spans is count = told_other found behind is_sync (Cancel n) spans
  told_label Pause can found behind is_sync spans is count = told_other found behind is_sync Pause spans
  told_label Resume can found behind is_sync spans is count = told_other found behind is_sync Resume spans
  told_label Remove can found behind is_sync spans is count = told_other found behind is_sync Remove spans
  told_label Surprise can found behind is_sync spans is count = told_other found behind is_sync Surprise spans
  told_label Removed can found behind is_sync spans is count = told_other found behind is_sync Removed spans

  -- what was told is all that it is for
  module _ (label : Label) (can : may_come these f.known label ≡ true) where
    abbrev following : ℕ → SeenView
    following i = behind_label these i seen_by_all label (whole.kept i)

    by_range : (span : Span) (i : ℕ) → (in_range span.first (span.first + span.count) i ≡ false → following i ≡ whole.kept i) → kept_in these seen_by_all whole.kept span.first (span.first + span.count) label i ≡ following i
    by_range span i out = by (cases_Bool (in_range span.first (span.first + span.count) i))
      where
        by : (in_range span.first (span.first + span.count) i ≡ true) ⊎ (in_range span.first (span.first + span.count) i ≡ false) → kept_in these seen_by_all whole.kept span.first (span.first + span.count) label i ≡ following i
        by (inl e) = ap (λ b. if b then following i else whole.kept i) e
        by (inr e) = ap (λ b. if b then following i else whole.kept i) e ∙ sym (out e)

    by_found : (q : ClientRequest) (found : Option Span) (i : ℕ) → IsSpanOf these q found → (has_sector these i q ≡ false → following i ≡ whole.kept i) → kept_by these seen_by_all whole.kept found label i ≡ following i
    by_found q None i spans out = sym (out (spans i))
    by_found q (Some span) i spans out = by_range span i (λ e. out (spans.has i ∙ e))

    by_none : (found : Option Span) (i : ℕ) → found ≡ None → following i ≡ whole.kept i → kept_by these seen_by_all whole.kept found label i ≡ following i
    by_none None i is same = sym same
    by_none (Some span) i is same = absurd (cc (is))

  pub told_all : (label : Label) → may_come these f.known label ≡ true → (found : Option Span) → IsSpanFor these f.known label found → (i : ℕ)
      → kept_by these seen_by_all whole.kept found label i ≡ behind_label these i seen_by_all label (whole.kept i)
  told_all (Call n q) can found spans i =
      by_found (Call n q) can q found i spans (λ none. call_passed these whole.asked f.known f.known whole.opens seen_by_all whole.kept whole.quiet whole.once n q i none)
  told_all (Answer n status informed bytes) can found spans i = by_open (opened_at f.known.opened n) refl spans
    where
      passed : moves_at these i (opened_at f.known.opened n) ≡ false → behind_label these i seen_by_all (Answer n status informed bytes) (whole.kept i) ≡ whole.kept i
      passed still =
          answer_passed these whole.asked f.known f.known whole.opens seen_by_all whole.kept whole.quiet whole.once n status informed bytes i
          (answer_fresh f.known n status informed (length bytes) f.known.owed refl can) still

      by_open : (request : Option ClientRequest) → opened_at f.known.opened n ≡ request → IsSpanAt these request found
          → kept_by these seen_by_all whole.kept found (Answer n status informed bytes) i ≡ behind_label these i seen_by_all (Answer n status informed bytes) (whole.kept i)
      by_open None is spans' = by_none (Answer n status informed bytes) can found i spans' (passed (ap (moves_at these i) is))
      by_open (Some q) is spans' = by_found (Answer n status informed bytes) can q found i spans' (λ none. passed (ap (moves_at these i) is ∙ none))
  told_all (Device l) can found spans i = by_none (Device l) can found i spans refl
  told_all (Cancel n) can found spans i = by_none (Cancel n) can found i spans refl
  told_all Pause can found spans i = by_none Pause can found i spans refl
  told_all Resume can found spans i = by_none Resume can found i spans refl
  told_all Remove can found spans i = by_none Remove can found i spans refl
  told_all Surprise can found spans i = by_none Surprise can found i spans refl
  told_all Removed can found spans i = by_none Removed can found i spans refl

over_next : (rules : Rules) (asked : List (Option Asked)) (owed owed' : Option NtStatus) (lines lines' : List SessionLine) (label : Label) (owing : Option ℕ) → lines' ≡ lines ++ ToldLine label ∷ [] → fits rules asked owed label ≡ true
    → owed' ≡ owed_after rules owed label → AreOver rules asked owed lines owing → AreOver rules (asked_after rules asked owed label) owed' lines' owing
over_next rules asked owed owed' lines lines' label None told fit after h = λ rest.
    ap (λ xs. all_fit_over rules (None ∷ []) None (xs ++ rest)) told
    ∙ ap (all_fit_over rules (None ∷ []) None) (append_assoc lines (ToldLine label ∷ []) rest)
    ∙ h (ToldLine label ∷ rest)
    ∙ ap (λ b. if b then all_fit_over rules (asked_after rules asked owed label) (owed_after rules owed label) rest else false) fit
    ∙ ap (λ o. all_fit_over rules (asked_after rules asked owed label) o rest) (sym after)
over_next rules asked owed owed' lines lines' label (Some line) told fit after h = λ rest.
    ap (λ xs. all_fit_over rules (None ∷ []) None (xs ++ rest)) told
    ∙ ap (all_fit_over rules (None ∷ []) None) (append_assoc lines (ToldLine label ∷ []) rest)
    ∙ h (ToldLine label ∷ rest)

pub whole_told : (f g : Fitted) (label : Label) (mid : Syncs) (found : Option Span) → (whole : IsWhole f) → may_come (rules_of f.basis.service) f.known label ≡ true → IsSpanFor (rules_of f.basis.service) f.known label found
    → g.basis ≡ f.basis → g.owing ≡ f.owing → g.lines.items ≡ f.lines.items ++ Told label ∷ [] → Takes (rules_of f.basis.service) f.known label g.known → BeginsBy label f.syncs mid → FinishesBy label mid g.syncs
    → HasCells f.basis.start (kept_by (rules_of f.basis.service) (shared_in f.syncs.shared.items) whole.kept found label) g.cells → IsWhole g
whole_told f g label mid found whole can spans same owes told takes begins ends cells = record {
  sized = subst (λ b. 0 < b.service.sector_size) (sym same) whole.sized;
  asked = asked_after rules whole.asked f.known.owed label;
  fit = λ rest.
      ap (λ b. labels_fit (rules_of b.service) (None ∷ []) None (lines_in g.lines.items ++ rest)) same
      ∙ ap (λ xs. labels_fit rules (None ∷ []) None (xs ++ rest)) lines_are
      ∙ ap (labels_fit rules (None ∷ []) None) (append_assoc (lines_in f.lines.items) (ToldLine label ∷ []) rest)
      ∙ whole.fit (ToldLine label ∷ rest)
      ∙ ap (λ b. if b then labels_fit rules (asked_after rules whole.asked f.known.owed label) (owed_after rules f.known.owed label) rest else false) fit
      ∙ ap (λ o. labels_fit rules (asked_after rules whole.asked f.known.owed label) o rest) (sym owed)
      ∙ ap (λ b. labels_fit (rules_of b.service) (asked_after rules whole.asked f.known.owed label) g.known.owed rest) (sym same);
  over = subst (λ b. AreOver (rules_of b.service) (asked_after rules whole.asked f.known.owed label) g.known.owed (lines_in g.lines.items) g.owing) (sym same)
      (subst (AreOver rules (asked_after rules whole.asked f.known.owed label) g.known.owed (lines_in g.lines.items)) (sym owes)
      (over_next rules whole.asked f.known.owed g.known.owed (lines_in f.lines.items) (lines_in g.lines.items) label f.owing lines_are fit owed whole.over));
  opens = open_next rules whole.asked f.known g.known whole.opens label can takes;
  kept = following;
  begins = λ i. whole.begins i ∙ ap (λ b. b.start) (sym same);
  is_kept = subst (λ b. IsKept (rules_of b.service) (lines_in g.lines.items) (shared_in g.syncs.shared.items) following) (sym same)
      (subst (λ xs. IsKept rules xs (shared_in g.syncs.shared.items) following) (sym lines_are)
      (subst (λ xs. IsKept rules (lines_in f.lines.items ++ ToldLine label ∷ []) xs following) (sym (shared_next rules whole.asked f.known g.known whole.opens f.syncs whole.found label mid g.syncs can begins ends))
      (kept_told rules (lines_in f.lines.items) (shared_in f.syncs.shared.items) whole.kept label whole.is_kept)));
  quiet = subst (λ b. AreQuiet (rules_of b.service) g.known following) (sym same)
      (quiet_next rules whole.asked f.known g.known whole.opens (shared_in f.syncs.shared.items) whole.kept whole.quiet whole.once whole.sized label can takes);
  once = once_next rules whole.asked f.known g.known whole.opens (shared_in f.syncs.shared.items) whole.kept whole.quiet whole.once label can;
  found = found_next rules whole.asked f.known g.known whole.opens f.syncs whole.found label mid g.syncs can takes begins ends;
  cells = subst (λ b. HasCells b.start following g.cells) (sym same)
      (cells_alike f.basis.start (kept_by rules (shared_in f.syncs.shared.items) whole.kept found label) following g.cells (told_all f whole label can found spans) cells);
}
  where
    rules : Rules
    rules = rules_of f.basis.service

    following : ℕ → SeenView
    following i = behind_label rules i (shared_in f.syncs.shared.items) label (whole.kept i)

    fit : fits rules whole.asked f.known.owed label ≡ true
    fit = sym (comes_is rules whole.asked f.known whole.opens label) ∙ can

    owed : g.known.owed ≡ owed_after rules f.known.owed label
    owed = owed_next rules f.known g.known label takes

    lines_are : lines_in g.lines.items ≡ lines_in f.lines.items ++ ToldLine label ∷ []
    lines_are = ap lines_in told ∙ lines_push f.lines.items (Told label)

-- A SESSION ENDS

fit_turned : (these : Rules) (asked : List (Option Asked)) (owed : Option NtStatus) (how : Turned) (rest : List SessionLine) → labels_fit these asked owed (line_of how ∷ rest) ≡ labels_fit these (None ∷ []) None rest
fit_turned these asked owed TurnsLost rest = refl
fit_turned these asked owed TurnsEnded rest = refl

over_turned : (rules : Rules) (asked : List (Option Asked)) (owed : Option NtStatus) (how : Turned) (rest : List SessionLine) → all_fit_over rules asked owed (line_of how ∷ rest) ≡ (if is_none owed then all_fit_over rules (None ∷ []) None rest else false)
over_turned r asked owed TurnsLost rest = refl
over_turned r asked owed TurnsEnded rest = refl

over_after : (rules : Rules) (asked : List (Option Asked)) (owed owed' : Option NtStatus) (lines lines' : List SessionLine) (how : Turned) (line : ℕ) (owing : Option ℕ) → lines' ≡ lines ++ line_of how ∷ [] → owed' ≡ None
    → AreOver rules asked owed lines owing → AreOver rules (None ∷ []) owed' lines' (owing_after owing owed line)
over_after rules asked None owed' lines lines' how line None told none h = λ rest.
    ap (λ xs. all_fit_over rules (None ∷ []) None (xs ++ rest)) told
    ∙ ap (all_fit_over rules (None ∷ []) None) (append_assoc lines (line_of how ∷ []) rest)
    ∙ h (line_of how ∷ rest) ∙ over_turned rules asked None how rest
    ∙ ap (λ o. all_fit_over rules (None ∷ []) o rest) (sym none)
over_after rules asked (Some status) owed' lines lines' how line None told none h = λ rest.
    ap (λ xs. all_fit_over rules (None ∷ []) None (xs ++ rest)) told
    ∙ ap (all_fit_over rules (None ∷ []) None) (append_assoc lines (line_of how ∷ []) rest)
    ∙ h (line_of how ∷ rest) ∙ over_turned rules asked (Some status) how rest
over_after rules asked owed owed' lines lines' how line (Some first) told none h = λ rest.
    ap (λ xs. all_fit_over rules (None ∷ []) None (xs ++ rest)) told
    ∙ ap (all_fit_over rules (None ∷ []) None) (append_assoc lines (line_of how ∷ []) rest)
    ∙ h (line_of how ∷ rest)

pub whole_turned : (f g : Fitted) (how : Turned) (line : ℕ) (whole : IsWhole f) → g.basis ≡ f.basis → g.owing ≡ owing_after f.owing f.known.owed line → g.lines.items ≡ f.lines.items ++ turned_line how ∷ []
    → g.known.calls ≡ 0 → g.known.owed ≡ None → ((n : ℕ) → opened_at g.known.opened n ≡ None) → shared_in g.syncs.shared.items ≡ [] → ((n : ℕ) → index_of g.syncs.calls n ≡ None)
    → HasCells f.basis.start (turned_by (shared_in f.syncs.shared.items) (turned_sight how) whole.kept) g.cells → IsWhole g
whole_turned f g how line whole same owes told calls owed closed unshared unfound cells = record {
  sized = subst (λ b. 0 < b.service.sector_size) (sym same) whole.sized;
  asked = None ∷ [];
  fit = λ rest.
      ap (λ b. labels_fit (rules_of b.service) (None ∷ []) None (lines_in g.lines.items ++ rest)) same
      ∙ ap (λ xs. labels_fit rules (None ∷ []) None (xs ++ rest)) lines_are
      ∙ ap (labels_fit rules (None ∷ []) None) (append_assoc (lines_in f.lines.items) (line_of how ∷ []) rest)
      ∙ whole.fit (line_of how ∷ rest)
      ∙ fit_turned rules whole.asked f.known.owed how rest
      ∙ ap (λ o. labels_fit rules (None ∷ []) o rest) (sym owed)
      ∙ ap (λ b. labels_fit (rules_of b.service) (None ∷ []) g.known.owed rest) (sym same);
  over = subst (λ b. AreOver (rules_of b.service) (None ∷ []) g.known.owed (lines_in g.lines.items) g.owing) (sym same)
      (subst (AreOver rules (None ∷ []) g.known.owed (lines_in g.lines.items)) (sym owes)
      (over_after rules whole.asked f.known.owed g.known.owed (lines_in f.lines.items) (lines_in g.lines.items) how line f.owing lines_are owed whole.over));
  opens = open_first g.known calls owed closed;
  kept = following;
  begins = λ i. whole.begins i ∙ ap (λ b. b.start) (sym same);
  is_kept = subst (λ b. IsKept (rules_of b.service) (lines_in g.lines.items) (shared_in g.syncs.shared.items) following) (sym same)
      (subst (λ xs. IsKept rules xs (shared_in g.syncs.shared.items) following) (sym lines_are)
      (subst (λ xs. IsKept rules (lines_in f.lines.items ++ line_of how ∷ []) xs following) (sym unshared)
      (kept_turned rules (lines_in f.lines.items) (shared_in f.syncs.shared.items) whole.kept how whole.is_kept)));
  quiet = λ i n fresh still. refl;
  once = λ i n. tt;
  found = found_first g.known g.syncs unshared unfound;
  cells = subst (λ b. HasCells b.start following g.cells) (sym same) cells;
}
  where
    rules : Rules
    rules = rules_of f.basis.service

    following : ℕ → SeenView
    following = turned_by (shared_in f.syncs.shared.items) (turned_sight how) whole.kept

    lines_are : lines_in g.lines.items ≡ lines_in f.lines.items ++ line_of how ∷ []
    lines_are = ap lines_in told ∙ lines_push f.lines.items (turned_line how) ∙ ap (λ l. lines_in f.lines.items ++ l ∷ []) (turned_is how)

-- WHAT FITS

-- lines so far fit
pub fit_so_far : (f : Fitted) → IsWhole f → labels_fit (rules_of f.basis.service) (None ∷ []) None (lines_in f.lines.items) ≡ true
fit_so_far f whole = ap (labels_fit (rules_of f.basis.service) (None ∷ []) None) (sym (append-nil (lines_in f.lines.items))) ∙ whole.fit []

pub unfit : LabelsFit → (f : Fitted) (lines : List SessionLine) → labels_fit (rules_of f.basis.service) (None ∷ []) None lines ≡ false → IsUnfit f.basis.service lines
unfit law f lines not_fit rules disk of explained =
    let fit : labels_fit rules (None ∷ []) None lines ≡ true = law rules disk lines explained in
    let same : labels_fit rules (None ∷ []) None lines ≡ labels_fit (rules_of f.basis.service) (None ∷ []) None lines = labels_alike f.basis.service rules of lines in
    cc (fit, same, not_fit)

-- lines behind one that doesn't fit make no history that sessions explain
unfit_stopped : LabelsFit → (f : Fitted) (behind : List Line) → IsWhole f → IsStopped f behind → IsUnfit f.basis.service (lines_in (f.lines.items ++ behind))
unfit_stopped law f behind whole stopped =
    let rules : Rules = rules_of f.basis.service in
    let not_fit : fits rules whole.asked f.known.owed stopped.label ≡ false = sym (comes_is rules whole.asked f.known whole.opens stopped.label) ∙ stopped.misfit in
    unfit law f (lines_in (f.lines.items ++ behind))
    (ap (labels_fit rules (None ∷ []) None) (lines_both f.lines.items behind)
    ∙ whole.fit (lines_in behind) ∙ ap (labels_fit rules whole.asked f.known.owed) stopped.is
    ∙ ap (λ b. if b then labels_fit rules (asked_after rules whole.asked f.known.owed stopped.label) (owed_after rules f.known.owed stopped.label) stopped.rest else false) not_fit)

pub unfit_by : LabelsFit → (f : Fitted) (misfit : Option (ℕ × Misfit)) (behind : List Line) (lines : List SessionLine) (at : ℕ × Misfit) → misfit ≡ Some at → lines_in (f.lines.items ++ behind) ≡ lines → IsWhole f → StopsAt f misfit behind
    → IsUnfit f.basis.service lines
unfit_by law f misfit behind lines at is same whole stops = subst (IsUnfit f.basis.service) same (unfit_stopped law f behind whole (subst (λ m. StopsAt f m behind) is stops))

-- where all labels fit none is behind
pub none_behind : (f : Fitted) (misfit : Option (ℕ × Misfit)) (behind : List Line) (lines : List SessionLine) → misfit ≡ None → lines_in (f.lines.items ++ behind) ≡ lines → StopsAt f misfit behind → lines_in f.lines.items ≡ lines
none_behind f misfit behind lines is same stops =
    ap lines_in (sym (ap (λ xs. f.lines.items ++ xs) (subst (λ m. StopsAt f m behind) is stops) ∙ append-nil f.lines.items)) ∙ same

-- MORE LINES BEHIND

stopped_more : (f : Fitted) (behind : List Line) (line : Line) → IsStopped f behind → IsStopped f (behind ++ line ∷ [])
stopped_more f behind line h = record {
  label = h.label;
  rest = h.rest ++ line_in line ∷ [];
  is = lines_push behind line ∙ ap (λ xs. xs ++ line_in line ∷ []) h.is;
  misfit = h.misfit;
}

stops_more : (f : Fitted) (misfit : Option (ℕ × Misfit)) (behind : List Line) (line : Line) → true ≡ is_some misfit → StopsAt f misfit behind → StopsAt f misfit (behind ++ line ∷ [])
stops_more f None behind line some h = absurd (cc (some))
stops_more f (Some at) behind line some h = stopped_more f behind line h

pub history_more : (f : Fitted) (start : List ℕ) (misfit : Option (ℕ × Misfit)) (behind items : List Line) (line : Line) → true ≡ is_some misfit → items ≡ behind ++ line ∷ [] → IsHistory f start misfit behind → IsHistory f start misfit items
history_more f start misfit behind items line some is h = record {
  whole = h.whole;
  starts = h.starts;
  stops = subst (StopsAt f misfit) (sym is) (stops_more f misfit behind line some h.stops);
}

abbrev with_line : HistoryView → SessionLine → HistoryView
with_line view line = record { service = view.service; start = view.start; lines = view.lines ++ line ∷ [] }

abbrev viewed : Service → List ℕ → List SessionLine → HistoryView
viewed service start lines = record { service = service; start = start; lines = lines }

pub view_more : (service : Service) (start : List ℕ) (xs ys items : List Line) (line : Line) (told : SessionLine) (view : HistoryView) → line_in line ≡ told → viewed service start (lines_in (xs ++ ys)) ≡ view → items ≡ ys ++ line ∷ []
    → viewed service start (lines_in (xs ++ items)) ≡ with_line view told
view_more service start xs ys items line told view tells is more =
    ap (λ zs. viewed service start (lines_in (xs ++ zs))) more
    ∙ ap (λ zs. viewed service start (lines_in zs)) (sym (append_assoc xs ys (line ∷ [])))
    ∙ ap (viewed service start) (lines_push (xs ++ ys) line)
    ∙ ap (λ l. viewed service start (lines_in (xs ++ ys) ++ l ∷ [])) tells
    ∙ ap (λ v. with_line v told) is

none_left : (f : Fitted) (misfit : Option (ℕ × Misfit)) (behind : List Line) → false ≡ is_some misfit → StopsAt f misfit behind → behind ≡ []
none_left f None behind none h = h
none_left f (Some at) behind none h = absurd (cc (none))

pub view_taken : (f : Fitted) (misfit : Option (ℕ × Misfit)) (service : Service) (start : List ℕ) (xs behind : List Line) (line : Line) (told : SessionLine) (view : HistoryView) → false ≡ is_some misfit → StopsAt f misfit behind → line_in line ≡ told
    → service ≡ f.basis.service → viewed f.basis.service start (lines_in (f.lines.items ++ behind)) ≡ view → xs ≡ f.lines.items ++ line ∷ [] → viewed service start (lines_in (xs ++ behind)) ≡ with_line view told
view_taken f misfit service start xs behind line told view none stops tells same is more =
    let empty : behind ≡ [] = none_left f misfit behind none stops in
    ap (λ s. viewed s start (lines_in (xs ++ behind))) same
    ∙ ap (λ zs. viewed f.basis.service start (lines_in (xs ++ zs))) empty
    ∙ ap (λ zs. viewed f.basis.service start (lines_in zs)) (append-nil xs)
    ∙ ap (λ zs. viewed f.basis.service start (lines_in zs)) more
    ∙ ap (viewed f.basis.service start) (lines_push f.lines.items line)
    ∙ ap (λ zs. viewed f.basis.service start (lines_in zs ++ line_in line ∷ [])) (sym (append-nil f.lines.items))
    ∙ ap (λ zs. viewed f.basis.service start (lines_in (f.lines.items ++ zs) ++ line_in line ∷ [])) (sym empty)
    ∙ ap (λ l. viewed f.basis.service start (lines_in (f.lines.items ++ behind) ++ l ∷ [])) tells
    ∙ ap (λ v. with_line v told) is
