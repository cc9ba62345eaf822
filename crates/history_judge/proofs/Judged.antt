-- Verdicts of sectors.
use Rattle.std.proofs.Common.{◌≡◌, ◌<◌, ◌≤◌, ◌⊎◌, inl, inr, ℕ, ◌+◌, Bool, true, false, List, [], ◌∷◌, Option, Some, None, refl, sym, ◌∙◌, ap, subst, length, get_or, take, replicate}
use Rattle.std.specs.Prelude.{All}
use Rattle.std.proofs.lemmas.List.{take_more, take_all, length-replicate}
use Rattle.std.proofs.lemmas.List.Elements.{All-nil, All-append, All-contains, All-cons}
use Rattle.machine.specs.declared.Label.{Label}
use Rattle.register.specs.Values.{code}
use Rattle.register.specs.declared.Sight.{Sight}
use Rattle.register.specs.Schedules.{HasSchedule}
use Rattle.register_judge.specs.declared.observed.SoFar.{SoFar}
use Rattle.register_judge.specs.declared.observed.SoFar.TheVariants.{Passed as PassedSoFar, Refused as RefusedSoFar, Undecided as UndecidedSoFar}
use Rattle.history.specs.Sights.{sights_of}
use Rattle.history.specs.Waits.{known, ShownByWaits}
use Rattle.history.specs.Gaps.{all_fit_by_at_first}
use Rattle.history.specs.Filling.{RefusedAreUnexplainedByAny, ExplainedBySomeFit}
use Rattle.history_fitting.specs.declared.service.Service.{Service}
use Rattle.history_fitting.specs.declared.service.Place.{Place}
use Rattle.history_judge.specs.declared.cells.Cells.{Cells}
use Rattle.history_fitting.specs.declared.fitting.Misfit.{Misfit as MisfitWhy}
use Rattle.history_judge.specs.declared.judging.Verdict.{Verdict}
use Rattle.history_judge.specs.declared.judging.Verdict.TheVariants.{Passed, Misfit, Refused, Undecided}
use Rattle.history_fitting.specs.Services.{rules_of}
use Rattle.history_judge.specs.Verdicts.{IsTouched, IsUnexplained, IsUnfit, IsRightBy}
use Rattle.history_judge.specs.inside.Starting.{IsTriedBy}
use Rattle.history_judge.specs.inside.Cells.{seen_of, index_at, cell_by, IsCellAt, HasCells}
use Rattle.history_judge.specs.inside.Judging.{PassesBy, IsRightOf, IsOneOf, IsVerdictOf}
use Rattle.history_fitting.proofs.Sizes.{fits_alike_by}
use Rattle.history_judge.proofs.Alike.{shown_alike}

-- ONE SECTOR

pub undecided_by : (any : Bool) (service : Service) (start : List ℕ) (gaps : List Bool) (labels : List Label) (place : Place) → IsRightBy any service start gaps labels (Undecided place)
undecided_by true service start gaps labels place = tt
undecided_by false service start gaps labels place = tt

module _ (law : RefusedAreUnexplainedByAny) (waits : ShownByWaits) (service : Service) (gaps : List Bool) (labels : List Label) (place : Place) where
  abbrev seen : List Sight
  seen = known (seen_of (rules_of service) labels place.partition place.sector)

  is_shown : sights_of code (rules_of service) place.partition place.sector [] labels ≡ seen
  is_shown = waits code (rules_of service) place.partition place.sector labels

  -- a sector that shows what has no schedule from some bytes on
  unexplained : (start : List ℕ) → (HasSchedule (code start) seen → ⊥) → IsUnexplained service start gaps labels place
  unexplained start none = λ rules arrays of whole there.
      law rules arrays gaps labels place.partition place.sector start whole there
      λ schedule. none (subst (HasSchedule (code start)) (shown_alike service rules of code place.partition place.sector labels ∙ is_shown) schedule)

  refused_by : (any : Bool) (start : List ℕ) (line : ℕ) → IsTriedBy any service.sector_size (code start) seen RefusedSoFar → IsRightBy any service start gaps labels (Refused place line)
  refused_by true start line h = λ bytes. unexplained bytes (h (code bytes))
  refused_by false start line h = unexplained start h

  passed_by : (any : Bool) (start : List ℕ) → IsTriedBy any service.sector_size (code start) seen PassedSoFar → PassesBy any service start labels place
  passed_by true start h = record {
    start = h.sized.bytes;
    whole = h.sized.whole;
    passes = subst (HasSchedule (code h.sized.bytes)) (sym is_shown) (subst (λ n. HasSchedule n seen) h.sized.is h.schedule);
  }
  passed_by false start h = subst (HasSchedule (code start)) (sym is_shown) h

  pub sector_right : (any : Bool) (start : List ℕ) (so_far : SoFar) (verdict : Verdict) → IsTriedBy any service.sector_size (code start) seen so_far → IsVerdictOf place so_far verdict
      → IsRightOf any service start gaps labels (place ∷ []) verdict
  sector_right any start PassedSoFar verdict h is =
      subst (IsRightOf any service start gaps labels (place ∷ [])) (sym is) (All-cons (PassesBy any service start labels) place [] (passed_by any start h) (All-nil (PassesBy any service start labels)))
  sector_right any start RefusedSoFar verdict h is = subst (IsRightOf any service start gaps labels (place ∷ [])) (sym is.1) (refused_by any start is.0 h)
  sector_right any start UndecidedSoFar verdict h is = subst (IsRightOf any service start gaps labels (place ∷ [])) (sym is) (undecided_by any service start gaps labels place)

-- SOME SECTORS

pub right_more : (any : Bool) (service : Service) (start : List ℕ) (gaps : List Bool) (labels : List Label) (places : List Place) (index : ℕ) (d : Place) (found verdict both : Verdict) → index < length places
    → IsRightOf any service start gaps labels (take index places) found → IsRightOf any service start gaps labels (get_or places index d ∷ []) verdict → IsOneOf found verdict both
    → IsRightOf any service start gaps labels (take (index + 1) places) both
right_more any service start gaps labels places index d found verdict both low h here one = by_both both one.passes one.one
  where
    by_both : (both : Verdict) → (both ≡ Passed → (found ≡ Passed) × (verdict ≡ Passed)) → (both ≡ found) ⊎ (both ≡ verdict) → IsRightOf any service start gaps labels (take (index + 1) places) both
    by_both Passed passes one =
        subst (All (PassesBy any service start labels)) (sym (take_more places index d low))
        (All-append (PassesBy any service start labels) (take index places) (get_or places index d ∷ []) (subst (IsRightOf any service start gaps labels (take index places)) (passes refl).0 h)
        (subst (IsRightOf any service start gaps labels (get_or places index d ∷ [])) (passes refl).1 here))
    by_both (Misfit line why) passes (inl e) = subst (IsRightOf any service start gaps labels (take index places)) (sym e) h
    by_both (Misfit line why) passes (inr e) = subst (IsRightOf any service start gaps labels (get_or places index d ∷ [])) (sym e) here
    by_both (Refused other line) passes (inl e) = subst (IsRightOf any service start gaps labels (take index places)) (sym e) h
    by_both (Refused other line) passes (inr e) = subst (IsRightOf any service start gaps labels (get_or places index d ∷ [])) (sym e) here
    by_both (Undecided other) passes one = undecided_by any service start gaps labels other

pub right_of_all : (any : Bool) (service : Service) (start : List ℕ) (gaps : List Bool) (labels : List Label) (places : List Place) (index : ℕ) (verdict : Verdict) → length places ≤ index
    → IsRightOf any service start gaps labels (take index places) verdict → IsRightOf any service start gaps labels places verdict
right_of_all any service start gaps labels places index verdict end h = subst (λ ps. IsRightOf any service start gaps labels ps verdict) (take_all index places end) h

-- ALL SECTORS

-- labels that don't fit are explained by no run
pub unfit : ExplainedBySomeFit → (service : Service) (gaps : List Bool) (labels : List Label) → all_fit_by_at_first (rules_of service) gaps labels ≡ false → IsUnfit service gaps labels
unfit law service gaps labels not_fit rules arrays of whole explained =
    let fit : all_fit_by_at_first rules gaps labels ≡ true = law rules arrays gaps labels whole explained in
    let same : all_fit_by_at_first rules gaps labels ≡ all_fit_by_at_first (rules_of service) gaps labels = fits_alike_by service rules of (None ∷ []) None gaps labels in
    cc (fit, same, not_fit)

-- labels that no run explains are so wherever sectors begin
pub misfit_by : (any : Bool) (service : Service) (start : List ℕ) (gaps : List Bool) (labels : List Label) (line : ℕ) (why : MisfitWhy) → IsUnfit service gaps labels → IsRightBy any service start gaps labels (Misfit line why)
misfit_by true service start gaps labels line why unfit = unfit
misfit_by false service start gaps labels line why unfit = unfit

all_pass : (any : Bool) (service : Service) (start : List ℕ) (gaps : List Bool) (labels : List Label) → all_fit_by_at_first (rules_of service) gaps labels ≡ true
    → ((place : Place) → IsTouched (rules_of service) place labels → PassesBy any service start labels place) → IsRightBy any service start gaps labels Passed
all_pass true service start gaps labels fit passes = record { fit = fit; passes = passes }
all_pass false service start gaps labels fit passes = record { fit = fit; passes = passes }

-- a sector of which nothing is seen has a schedule
passes_none : ShownByWaits → (any : Bool) (service : Service) (start : List ℕ) (labels : List Label) (place : Place) → seen_of (rules_of service) labels place.partition place.sector ≡ [] → PassesBy any service start labels place
passes_none waits any service start labels place none = by_any any
  where
    empty : sights_of code (rules_of service) place.partition place.sector [] labels ≡ []
    empty = waits code (rules_of service) place.partition place.sector labels ∙ ap known none

    scheduled : (n : ℕ) → HasSchedule n (sights_of code (rules_of service) place.partition place.sector [] labels)
    scheduled n = record { events = []; in_turn = tt; seen = sym empty }

    by_any : (any : Bool) → PassesBy any service start labels place
    by_any true = record { start = replicate service.sector_size 0; whole = length-replicate service.sector_size 0; passes = scheduled (code (replicate service.sector_size 0)) }
    by_any false = scheduled (code start)

pub right_all : ShownByWaits → (any : Bool) (service : Service) (start : List ℕ) (began : ℕ) (gaps : List Bool) (labels : List Label) (cells : Cells) (verdict : Verdict) → all_fit_by_at_first (rules_of service) gaps labels ≡ true
    → HasCells any began (seen_of (rules_of service) labels) cells → IsRightOf any service start gaps labels cells.places.items verdict → IsRightBy any service start gaps labels verdict
right_all waits any service start began gaps labels cells Passed fit has h =
    all_pass any service start gaps labels fit (λ place t. by_index place (index_at cells.index place.partition place.sector) refl)
  where
    by_index : (place : Place) (found : Option ℕ) → index_at cells.index place.partition place.sector ≡ found → PassesBy any service start labels place
    by_index place None is =
        passes_none waits any service start labels place
        (subst (IsCellAt any began (seen_of (rules_of service) labels place.partition place.sector)) (ap (cell_by cells.cells.items) is) (has.cell place.partition place.sector))
    by_index place (Some k) is = All-contains (PassesBy any service start labels) cells.places.items place h (has.listed place.partition place.sector k is)
right_all waits any service start began gaps labels cells (Misfit line why) fit has h = h
right_all waits any service start began gaps labels cells (Refused place line) fit has h = h
right_all waits any service start began gaps labels cells (Undecided place) fit has h = h
