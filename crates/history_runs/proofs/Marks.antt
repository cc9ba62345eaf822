-- The marks of a request of which one place came back.
use Rattle.std.proofs.Common.{◌≡◌, ◌≢◌, ◌<◌, inl, inr, ℕ, zero, suc, ◌-◌, ◌&&◌, Bool, true, false, not, List, [], ◌∷◌, refl, ◌∙◌, ap, arith, length, get_or}
use Rattle.std.specs.List.{list_all}
use Rattle.std.proofs.lemmas.Bool.{cases_order}
use Rattle.sector.specs.Splice.{splice}
use Rattle.sector.proofs.Splicing.{length-splice}
use Rattle.srb.specs.declared.Class.{Class}
use Rattle.machine.specs.State.{Mark, Untouched, Out, OpenRequest}
use Rattle.machine.specs.Cutting.{mark_at}
use Rattle.machine.specs.Sending.{is_untouched, is_started}
use Rattle.machine.proofs.Placed.{get_or-splice_inside, get_or-splice_below, get_or-splice_above}
use Rattle.history_runs.proofs.Steps.{remarked}

-- A PLACE PUT IN

module _ (marks : List Mark) (place : ℕ) (mark : Mark) (inside : place < length marks) where
  put_length : length (splice marks place (mark ∷ [])) ≡ length marks
  put_length = length-splice marks place (mark ∷ []) (omega arith)

  put_there : get_or (splice marks place (mark ∷ [])) place Untouched ≡ mark
  put_there =
      let none : place - place ≡ 0 = omega arith in
      get_or-splice_inside marks place (mark ∷ []) place Untouched (omega arith) (omega arith) (omega arith) ∙ ap (λ j. get_or (mark ∷ []) j Untouched) none

  put_elsewhere : (k : ℕ) → k ≢ place → get_or (splice marks place (mark ∷ [])) k Untouched ≡ get_or marks k Untouched
  put_elsewhere k other =
      elim (cases_order k place) [
        | inl same ↦ absurd (other same)
        | inr (inl below) ↦ get_or-splice_below marks place (mark ∷ []) k Untouched (omega arith) below
        | inr (inr above) ↦ get_or-splice_above marks place (mark ∷ []) k Untouched (omega arith) (omega arith)
      ]

-- THE REQUEST

module _ (place : ℕ) (class : Class) (mark : Mark) (o : OpenRequest) (inside : place < length o.marks) where
  out_inside : place < length (splice o.marks place (Out ∷ []))
  out_inside = rw (put_length o.marks place Out inside) inside

  pub remarked_length : length (remarked place class mark o).marks ≡ length o.marks
  remarked_length = put_length (splice o.marks place (Out ∷ [])) place mark out_inside ∙ put_length o.marks place Out inside

  pub remarked_there : mark_at (remarked place class mark o) place ≡ mark
  remarked_there = put_there (splice o.marks place (Out ∷ [])) place mark out_inside

  pub remarked_elsewhere : (k : ℕ) → k ≢ place → mark_at (remarked place class mark o) k ≡ mark_at o k
  remarked_elsewhere k other = put_elsewhere (splice o.marks place (Out ∷ [])) place mark out_inside k other ∙ put_elsewhere o.marks place Out inside k other

-- STARTED

started_marks : (marks : List Mark) (k : ℕ) → k < length marks → is_untouched (get_or marks k Untouched) ≡ false → not (list_all is_untouched marks) ≡ true
started_marks [] k low e = absurd (omega arith)
started_marks (mark ∷ marks) zero low e = rw e refl
started_marks (mark ∷ marks) (suc k) low e = either (is_untouched mark) (list_all is_untouched marks) (started_marks marks k (omega arith) e)
  where
    either : (a b : Bool) → not b ≡ true → not (a && b) ≡ true
    either true b h = h
    either false b h = refl

pub started_at : (o : OpenRequest) (k : ℕ) → k < length o.marks → is_untouched (mark_at o k) ≡ false → is_started o ≡ true
started_at o k low e = started_marks o.marks k low e
