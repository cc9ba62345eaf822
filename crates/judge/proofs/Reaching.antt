-- The states that are reached, label by label.
use Rattle.std.proofs.Common.{inl, inr, ℕ, zero, suc, List, [], ◌∷◌, ◌++◌, refl, map, sym, subst, arith}
use Rattle.std.specs.Prelude.{Any}
use Rattle.std.specs.List.{AllByRecursion, flat_map}
use Rattle.std.proofs.lemmas.List.Elements.{All-nil, All-cons, All-from_recursion, recursion_from_All}
use Rattle.machine.specs.Rules.{Rules}
use Rattle.machine.specs.State.{State, IsSame, opening}
use Rattle.machine.proofs.Same.{IsSame-refl, IsSame-sym}
use Rattle.trace_line.specs.declared.Line.{Line}
use Rattle.trace_line.specs.Lines.{LineStep, LineRun}
use Rattle.judge.specs.declared.reading.Told.{Told}
use Rattle.judge.specs.Breaking.{IsReached}
use Rattle.judge.specs.LabelRuling.{IsToldBy}
use Rattle.judge.specs.Next.{next}
use Rattle.judge.specs.Judging.{AreLinesReached}
use Rattle.judge.proofs.Picking.{Among, among_both, all_flat_map, among_flat_map}
use Rattle.judge.proofs.Lines.{labels_run, run_append, run_split, step_same}
use Rattle.judge.proofs.Broken.{all_next, all_found}

module _ {X : Type 0} (P : X → Type 0) where
  pub among_from_any : (xs : List X) → Any P xs → Among P xs
  among_from_any [] (k, x, low, is, h) = absurd (omega arith)
  among_from_any (y ∷ ys) (zero, x, low, is, h) = inl (subst P (sym is) h)
  among_from_any (y ∷ ys) (suc k, x, low, is, h) = inr (among_from_any ys (k, x, omega arith, is, h))

  pub any_from_among : (xs : List X) → Among P xs → Any P xs
  any_from_among [] h = absurd h
  any_from_among (y ∷ ys) (inl h) = (0, y, omega arith, refl, h)
  any_from_among (y ∷ ys) (inr h) = let more : Any P ys = any_from_among ys h in (suc more.0, more.1, omega arith, more.3, more.4)

module _ (rules : Rules) (arrays : List (List (List ℕ))) where
  pub reached_none : AreLinesReached rules (opening arrays) [] (opening arrays ∷ [])
  reached_none = record {
    each = All-cons (LineRun rules (opening arrays) []) (opening arrays) [] (IsSame-refl (opening arrays)) (All-nil (LineRun rules (opening arrays) []));
    all = λ s' same. (0, opening arrays, omega arith, refl, IsSame-sym (opening arrays) s' same);
  }

  module _ (lines : List Line) (line : Line) (told : Told) (means : IsToldBy line told) where
    reaches : (s : State) → LineRun rules (opening arrays) lines s → IsReached rules s
    reaches s run = (arrays, map (λ (l : Line). l.label) lines, labels_run rules (opening arrays) lines s run)

    one_more : (s t : State) → LineRun rules (opening arrays) lines s → LineStep rules s line t → LineRun rules (opening arrays) (lines ++ line ∷ []) t
    one_more s t run step = run_append rules (opening arrays) lines s (line ∷ []) t run (t, step, IsSame-refl t)

    each_leads : (s : State) → LineRun rules (opening arrays) lines s → AllByRecursion (LineRun rules (opening arrays) (lines ++ line ∷ [])) (next rules told line.label s)
    each_leads s run = more (next rules told line.label s) (all_next rules s line told means (reaches s run))
      where
        more : (ts : List State) → AllByRecursion (LineStep rules s line) ts → AllByRecursion (LineRun rules (opening arrays) (lines ++ line ∷ [])) ts
        more [] h = tt
        more (t ∷ ts) h = (one_more s t run h.0, more ts h.1)

    record Between (mid s' x : State) : Type 0 where
      run : LineRun rules (opening arrays) lines x
      step : LineStep rules x line s'

    leads : (s' x : State) → Between x s' x → Among (IsSame s') (next rules told line.label x)
    leads s' x h = all_found rules x line told means (reaches x h.run) s' h.step

    pub reached_more : (states : List State) → AreLinesReached rules (opening arrays) lines states → AreLinesReached rules (opening arrays) (lines ++ line ∷ []) (flat_map (next rules told line.label) states)
    reached_more states h = record {
      each = All-from_recursion (LineRun rules (opening arrays) (lines ++ line ∷ [])) _
          (all_flat_map (next rules told line.label) (LineRun rules (opening arrays) lines) (LineRun rules (opening arrays) (lines ++ line ∷ [])) each_leads states runs);
      all = λ s' run. found s' (run_split rules (opening arrays) lines (line ∷ []) s' run);
    }
      where
        runs : AllByRecursion (LineRun rules (opening arrays) lines) states
        runs = recursion_from_All (LineRun rules (opening arrays) lines) states h.each

        found : (s' : State) → (mid : State) × LineRun rules (opening arrays) lines mid × LineRun rules mid (line ∷ []) s' → Any (IsSame s') (flat_map (next rules told line.label) states)
        found s' (mid, before, (after, step, same)) =
            any_from_among (IsSame s') (flat_map (next rules told line.label) states)
            (among_flat_map (next rules told line.label) (λ x. Between x s' x) (IsSame s') (leads s') states
            (among_both (LineRun rules (opening arrays) lines) (IsSame mid) (λ x. Between x s' x)
            (λ x run alike. record { run = run; step = step_same mid x after s' alike same rules line step }) states runs
            (among_from_any (IsSame mid) states (h.all mid before))))
