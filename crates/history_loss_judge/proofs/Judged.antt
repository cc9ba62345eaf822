-- Verdicts of sectors, and of all.
use Rattle.std.proofs.Common.{◌≡◌, ◌<◌, ◌≤◌, ◌⊎◌, inl, inr, ℕ, ◌+◌, true, false, List, [], ◌∷◌, ◌++◌, Option, Some, None, refl, sym, ◌∙◌, ap, subst, length, get_or, take, append-nil}
use Rattle.std.specs.Prelude.{All, is_none}
use Rattle.std.proofs.lemmas.List.{take_more, take_all}
use Rattle.std.proofs.lemmas.List.Elements.{All-nil, All-append, All-contains, All-cons}
use Rattle.ntstatus.specs.declared.NtStatus.{NtStatus}
use Rattle.register.specs.Values.{code}
use Rattle.loss.specs.Sessions.{Line}
use Rattle.register_loss.specs.declared.Sight.{Sight}
use Rattle.register_loss.specs.Schedules.{HasSchedule, opening}
use Rattle.register_loss_judge.specs.declared.observed.SoFar.{SoFar}
use Rattle.register_loss_judge.specs.declared.observed.SoFar.TheVariants.{Passed as PassedSoFar, Refused as RefusedSoFar, Undecided as UndecidedSoFar}
use Rattle.register_loss_judge.specs.Observed.{IsSoFar}
use Rattle.history_loss_runs.specs.Laws.{all_fit_over}
use Rattle.history_loss_fits.specs.Laws.{labels_fit}
use Rattle.history_loss_sights.specs.Sights.{sights_of}
use Rattle.history_loss_shown.specs.Laws.{RefusedHaveNoSessions}
use Rattle.history_loss_kept.specs.declared.Shared.{Shared}
use Rattle.history_loss_kept.specs.Kept.{known, kept_of, nothing_kept, seen_by}
use Rattle.history_loss_kept.specs.Laws.{KeptTellAll, KeptTellSteady}
use Rattle.history_loss_sector.specs.Seen.{SeenView, shared_in}
use Rattle.history_fitting.specs.declared.service.Service.{Service}
use Rattle.history_fitting.specs.Services.{rules_of}
use Rattle.history_loss_judge.specs.declared.judging.Verdict.{Verdict}
use Rattle.history_loss_judge.specs.declared.judging.Verdict.TheVariants.{Passed, Misfit, Refused, Undecided, Open, Owing}
use Rattle.history_loss_judge.specs.declared.recorded.Fitted.{Fitted}
use Rattle.history_loss_judge.specs.Verdicts.{IsRight, IsUnexplained, Passes, PassesSteady}
use Rattle.history_loss_judge.specs.inside.Cells.{IsCellOf, cell_at, cell_by, index_at, unseen}
use Rattle.history_loss_judge.specs.inside.Histories.{AreOver, IsKept, IsWhole, owing_after}
use Rattle.history_loss_judge.specs.inside.Judging.{IsOneOf, IsRightOf, IsRightOfAll, IsVerdictOf, is_passed, owed_by, with_owing}
use Rattle.history_loss_judge.specs.inside.Lines.{lines_in}
use Rattle.history_loss_judge.proofs.Alike.{shown_alike}
use Rattle.history_loss_judge.proofs.Whole.{fit_so_far}

-- ONE OF TWO

pub second_of_passed : (a b : Verdict) → is_passed a ≡ true → IsOneOf a b b
second_of_passed Passed b h = record { passes = λ e. (refl, e); one = inr refl }
second_of_passed (Misfit line why) b h = absurd (cc (h))
second_of_passed (Refused sector line) b h = absurd (cc (h))
second_of_passed (Undecided sector) b h = absurd (cc (h))
second_of_passed (Open sector) b h = absurd (cc (h))
second_of_passed (Owing line) b h = absurd (cc (h))

pub first_of_others : (a b : Verdict) → is_passed a ≡ false → IsOneOf a b a
first_of_others a b h = record { passes = λ e. absurd (cc (sym h ∙ ap is_passed e)); one = inl refl }

pub second_of_others : (a b : Verdict) → is_passed b ≡ false → IsOneOf a b b
second_of_others a b h = record { passes = λ e. absurd (cc (sym h ∙ ap is_passed e)); one = inr refl }

-- ONE SECTOR

module _ (tell_all : KeptTellAll) (tell_steady : KeptTellSteady) (refuses : RefusedHaveNoSessions) (service : Service) (lines : List Line) (fit : labels_fit (rules_of service) (None ∷ []) None lines ≡ true) (shared : List Shared) (kept : ℕ → SeenView)
    (is_kept : IsKept (rules_of service) lines shared kept) (start : List ℕ) (i : ℕ) where
  abbrev shows_all : List Sight
  shows_all = (kept i).all ++ seen_by true shared [] (kept i).own

  abbrev shows_steady : List Sight
  shows_steady = (kept i).steady ++ seen_by false shared [] (kept i).own

  known_all : known true (kept_of code true (rules_of service) i nothing_kept lines) ≡ shows_all
  known_all = ap (known true) (is_kept.all i)

  known_steady : known false (kept_of code false (rules_of service) i nothing_kept lines) ≡ shows_steady
  known_steady = ap (known false) (is_kept.steady i)

  all_to : HasSchedule (code start) shows_all → Passes service start lines i
  all_to h = (tell_all code (rules_of service) i (code start) lines fit).0 (subst (HasSchedule (code start)) (sym known_all) h)

  all_from : Passes service start lines i → HasSchedule (code start) shows_all
  all_from h = subst (HasSchedule (code start)) known_all ((tell_all code (rules_of service) i (code start) lines fit).1 h)

  steady_to : HasSchedule (code start) shows_steady → PassesSteady service start lines i
  steady_to h = (tell_steady code (rules_of service) i (code start) lines fit).0 (subst (HasSchedule (code start)) (sym known_steady) h)

  steady_from : PassesSteady service start lines i → HasSchedule (code start) shows_steady
  steady_from h = subst (HasSchedule (code start)) known_steady ((tell_steady code (rules_of service) i (code start) lines fit).1 h)

  unexplained : (HasSchedule (code start) shows_all → ⊥) → IsUnexplained service start lines i
  unexplained none = λ rules disk of low same explained.
      refuses code rules disk lines i low
      (λ schedule. none (all_from (subst (HasSchedule (code start)) (shown_alike service rules of code i lines) (subst (λ b. HasSchedule (code b) (sights_of code rules i lines)) same schedule))))
      explained

  abbrev Right : Verdict → Type 0
  Right verdict = IsRightOf service start lines (i ∷ []) verdict

  pub sector_right : (all steady : SoFar) (verdict : Verdict) → IsSoFar (code start) shows_all all → IsSoFar (code start) shows_steady steady → IsVerdictOf i all steady verdict → IsRightOf service start lines (i ∷ []) verdict
  sector_right RefusedSoFar steady verdict h k is = subst Right (sym is.1) (unexplained h)
  sector_right PassedSoFar PassedSoFar verdict h k is = subst Right (sym is) (All-cons (PassesSteady service start lines) i [] (steady_to k) (All-nil (PassesSteady service start lines)))
  sector_right PassedSoFar RefusedSoFar verdict h k is = subst Right (sym is) (record { passes = all_to h; not_steady = λ s. k (steady_from s) })
  sector_right PassedSoFar UndecidedSoFar verdict h k is = subst Right (sym is) tt
  sector_right UndecidedSoFar PassedSoFar verdict h k is = subst Right (sym is) (All-cons (PassesSteady service start lines) i [] (steady_to k) (All-nil (PassesSteady service start lines)))
  sector_right UndecidedSoFar RefusedSoFar verdict h k is = subst Right (sym is) tt
  sector_right UndecidedSoFar UndecidedSoFar verdict h k is = subst Right (sym is) tt

-- a cell that has what is kept
pub cell_right : KeptTellAll → KeptTellSteady → RefusedHaveNoSessions → (f : Fitted) (whole : IsWhole f) (start : List ℕ) → f.basis.start ≡ code start → (i : ℕ) (seen : SeenView) → cell_at f.cells i ≡ Some seen → (all steady : SoFar) (verdict : Verdict)
    → IsSoFar seen.start (seen.all ++ seen_by true (shared_in f.syncs.shared.items) [] seen.own) all → IsSoFar seen.start (seen.steady ++ seen_by false (shared_in f.syncs.shared.items) [] seen.own) steady → IsVerdictOf i all steady verdict
    → IsRightOf f.basis.service start (lines_in f.lines.items) (i ∷ []) verdict
cell_right tell_all tell_steady refuses f whole start starts i seen there all steady verdict h k is =
    let same : seen ≡ whole.kept i = subst (IsCellOf f.basis.start (whole.kept i)) there (whole.cells.cell i) in
    let begins : (whole.kept i).start ≡ code start = whole.begins i ∙ starts in
    sector_right tell_all tell_steady refuses f.basis.service (lines_in f.lines.items) (fit_so_far f whole) (shared_in f.syncs.shared.items) whole.kept whole.is_kept start i all steady verdict
    (subst (λ n. IsSoFar n ((whole.kept i).all ++ seen_by true (shared_in f.syncs.shared.items) [] (whole.kept i).own) all) begins
    (subst (λ (s : SeenView). IsSoFar s.start (s.all ++ seen_by true (shared_in f.syncs.shared.items) [] s.own) all) same h))
    (subst (λ n. IsSoFar n ((whole.kept i).steady ++ seen_by false (shared_in f.syncs.shared.items) [] (whole.kept i).own) steady) begins
    (subst (λ (s : SeenView). IsSoFar s.start (s.steady ++ seen_by false (shared_in f.syncs.shared.items) [] s.own) steady) same k))
    is

-- SOME SECTORS

pub right_more : (service : Service) (start : List ℕ) (lines : List Line) (sectors : List ℕ) (index d : ℕ) (found verdict both : Verdict) → index < length sectors
    → IsRightOf service start lines (take index sectors) found → IsRightOf service start lines (get_or sectors index d ∷ []) verdict → IsOneOf found verdict both
    → IsRightOf service start lines (take (index + 1) sectors) both
right_more service start lines sectors index d found verdict both low h here one = by_both both one.passes one.one
  where
    by_both : (both : Verdict) → (both ≡ Passed → (found ≡ Passed) × (verdict ≡ Passed)) → (both ≡ found) ⊎ (both ≡ verdict) → IsRightOf service start lines (take (index + 1) sectors) both
    by_both Passed passes one =
        subst (All (PassesSteady service start lines)) (sym (take_more sectors index d low))
        (All-append (PassesSteady service start lines) (take index sectors) (get_or sectors index d ∷ []) (subst (IsRightOf service start lines (take index sectors)) (passes refl).0 h)
        (subst (IsRightOf service start lines (get_or sectors index d ∷ [])) (passes refl).1 here))
    by_both (Misfit line why) passes (inl e) = subst (IsRightOf service start lines (take index sectors)) (sym e) h
    by_both (Misfit line why) passes (inr e) = subst (IsRightOf service start lines (get_or sectors index d ∷ [])) (sym e) here
    by_both (Refused other line) passes (inl e) = subst (IsRightOf service start lines (take index sectors)) (sym e) h
    by_both (Refused other line) passes (inr e) = subst (IsRightOf service start lines (get_or sectors index d ∷ [])) (sym e) here
    by_both (Undecided other) passes one = tt
    by_both (Open other) passes (inl e) = subst (IsRightOf service start lines (take index sectors)) (sym e) h
    by_both (Open other) passes (inr e) = subst (IsRightOf service start lines (get_or sectors index d ∷ [])) (sym e) here
    by_both (Owing line) passes (inl e) = subst (IsRightOf service start lines (take index sectors)) (sym e) h
    by_both (Owing line) passes (inr e) = subst (IsRightOf service start lines (get_or sectors index d ∷ [])) (sym e) here

pub right_of_all : (service : Service) (start : List ℕ) (lines : List Line) (sectors : List ℕ) (index : ℕ) (verdict : Verdict) → length sectors ≤ index
    → IsRightOf service start lines (take index sectors) verdict → IsRightOf service start lines sectors verdict
right_of_all service start lines sectors index verdict end h = subst (λ xs. IsRightOf service start lines xs verdict) (take_all index sectors end) h

-- ALL SECTORS

-- one of which nothing is seen has a schedule
nothing_passes : (n : ℕ) → HasSchedule n []
nothing_passes n = record { events = []; register = opening n; in_turn = refl; seen = refl }

module _ (tell_steady : KeptTellSteady) (f : Fitted) (whole : IsWhole f) (start : List ℕ) where
  abbrev service : Service
  service = f.basis.service

  abbrev lines : List Line
  lines = lines_in f.lines.items

  unseen_passes : (i : ℕ) → whole.kept i ≡ unseen f.basis.start → PassesSteady service start lines i
  unseen_passes i none =
      (tell_steady code (rules_of service) i (code start) lines (fit_so_far f whole)).0
      (subst (HasSchedule (code start)) (sym (ap (known false) (whole.is_kept.steady i) ∙ ap (λ (s : SeenView). s.steady ++ seen_by false (shared_in f.syncs.shared.items) [] s.own) none)) (nothing_passes (code start)))

  pass_by : All (PassesSteady service start lines) f.cells.sectors.items → (i : ℕ) (found : Option ℕ) → index_at f.cells.index i ≡ found → PassesSteady service start lines i
  pass_by h i None is = unseen_passes i (subst (IsCellOf f.basis.start (whole.kept i)) (ap (cell_by f.cells.cells.items) is) (whole.cells.cell i))
  pass_by h i (Some k) is = All-contains (PassesSteady service start lines) f.cells.sectors.items i h (whole.cells.listed i k is)

  of_all : (verdict : Verdict) → IsRightOf service start lines f.cells.sectors.items verdict → IsRightOfAll service start lines verdict
  of_all Passed h = λ i. pass_by h i (index_at f.cells.index i) refl
  of_all (Misfit line why) h = h
  of_all (Refused sector line) h = h
  of_all (Undecided sector) h = h
  of_all (Open sector) h = h
  of_all (Owing line) h = h

  over_none : AreOver (rules_of service) whole.asked f.known.owed lines None → f.known.owed ≡ None → all_fit_over (rules_of service) (None ∷ []) None lines ≡ true
  over_none over owed = ap (all_fit_over (rules_of service) (None ∷ []) None) (sym (append-nil lines)) ∙ over [] ∙ ap is_none owed

  over_owed : (status : NtStatus) → AreOver (rules_of service) whole.asked f.known.owed lines None → f.known.owed ≡ Some status → all_fit_over (rules_of service) (None ∷ []) None lines ≡ false
  over_owed status over owed = ap (all_fit_over (rules_of service) (None ∷ []) None) (sym (append-nil lines)) ∙ over [] ∙ ap is_none owed

  owed_right : ((i : ℕ) → PassesSteady service start lines i) → (owing : Option ℕ) (owed : Option NtStatus) → f.known.owed ≡ owed → AreOver (rules_of service) whole.asked f.known.owed lines owing
      → IsRight service start lines (owed_by (owing_after owing owed 0))
  owed_right passes None None is over = record { fit = over_none over is; passes = passes }
  owed_right passes None (Some status) is over = record { fit = fit_so_far f whole; not_answered = over_owed status over is; passes = passes }
  owed_right passes (Some line) owed is over =
      record { fit = fit_so_far f whole; not_answered = ap (all_fit_over (rules_of service) (None ∷ []) None) (sym (append-nil lines)) ∙ over []; passes = passes }

  by_verdict : (verdict : Verdict) → IsRightOfAll service start lines verdict → IsRight service start lines (with_owing verdict (owing_after f.owing f.known.owed 0))
  by_verdict Passed h = owed_right h f.owing f.known.owed refl whole.over
  by_verdict (Misfit line why) h = h
  by_verdict (Refused sector line) h = h
  by_verdict (Undecided sector) h = h
  by_verdict (Open sector) h = h
  by_verdict (Owing line) h = absurd h

  pub right_all : (verdict : Verdict) → IsRightOf service start lines f.cells.sectors.items verdict → IsRight service start lines (with_owing verdict (owing_after f.owing f.known.owed 0))
  right_all verdict h = by_verdict verdict (of_all verdict h)
