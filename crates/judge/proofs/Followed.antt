-- Labels that are taken one by one.
use Rattle.std.proofs.Common.{◌≡◌, ◌<◌, ℕ, Bool, true, false, List, [], ◌∷◌, ◌++◌, Option, Some, None, refl, sym, ap, subst, arith, length, get_or, map}
use Rattle.std.specs.Prelude.{Any, Contains, IfSome, MatchOption, not, is_some, slice_get, if◌then◌else◌}
use Rattle.std.specs.List.{list_any}
use Rattle.std.proofs.lemmas.Bool.{both_ways}
use Rattle.std.proofs.lemmas.List.Folds.{Any-from_list_any}
use Rattle.std.proofs.lemmas.List.Elements.{All-contains, Contains-get_or}
use Rattle.machine.specs.declared.Label.{Label}
use Rattle.machine.specs.Rules.{Rules}
use Rattle.machine.specs.State.{State, IsSame, opening}
use Rattle.machine.proofs.Same.{IsSame-refl}
use Rattle.trace_line.specs.declared.Line.{Line}
use Rattle.trace_line.specs.Lines.{LineRun}
use Rattle.judge.specs.declared.reading.Told.{Told}
use Rattle.judge.specs.Judging.{line_of, AreLinesReached, IsLineRun}
use Rattle.judge.specs.declared.label_rules.Rule.{Rule}
use Rattle.judge.specs.Breaking.{HasLineStep, IsReached, LineBreaks}
use Rattle.judge.specs.Following.{JudgeView, HasTakenLines, GoesTo, IsLineRefused, AllReached, HasNoStep, BreaksSome, StopsAll, SomeGoes}
use Rattle.judge.specs.LabelRuling.{IsToldBy, label_rule, goes_by, rule_of_first, rule_of_all}
use Rattle.judge.proofs.Picking.{none_any}
use Rattle.judge.proofs.Broken.{exactly, breaks}
use Rattle.judge.proofs.Lines.{labels_run, run_append, run_split, step_same}
use Rattle.judge.proofs.Reaching.{reached_none, reached_more}

pub opens_as : (rules : Rules) (arrays : List (List (List ℕ))) (states : List State) → states ≡ opening arrays ∷ [] → HasTakenLines (record { rules = rules; states = states }) arrays []
opens_as rules arrays states e = record {
  reached = subst (λ ss. AreLinesReached rules (opening arrays) [] ss) (sym e) (reached_none rules arrays);
  some = some states e;
}
  where
    some : (states : List State) → states ≡ opening arrays ∷ [] → 0 < length states
    some [] e = cc (e)
    some (s ∷ states) e = omega arith

module _ (j : JudgeView) where
  -- what was taken leads to each of the states
  pub all_reached : (arrays : List (List (List ℕ))) (lines : List Line) → HasTakenLines j arrays lines → AllReached j.rules j.states
  all_reached arrays lines h = λ k d low. (arrays, map (λ (l : Line). l.label) lines, labels_run j.rules (opening arrays) lines (get_or j.states k d) (h.reached.each k d low))

  -- from one of the states some step goes
  some_run : (arrays : List (List (List ℕ))) (lines : List Line) (line : Line) → HasTakenLines j arrays lines → SomeGoes j.rules j.states line → IsLineRun j.rules (opening arrays) (lines ++ line ∷ [])
  some_run arrays lines line h goes =
      let run : LineRun j.rules (opening arrays) lines goes.1 = All-contains (LineRun j.rules (opening arrays) lines) j.states goes.1 h.reached.each (goes.0, goes.2, goes.3) in
      (goes.4.0, run_append j.rules (opening arrays) lines goes.1 (line ∷ []) goes.4.0 run (goes.4.0, goes.4.1, IsSame-refl goes.4.0))

  pub goes_on : (line : Line) (new : JudgeView) → new.rules ≡ j.rules → GoesTo j line new → (arrays : List (List (List ℕ))) (lines : List Line) → HasTakenLines j arrays lines
      → SomeGoes j.rules j.states line → HasTakenLines new arrays (lines ++ line ∷ [])
  goes_on line new same (all, (told, means, e), alike) arrays lines h goes = record {
    reached = subst (λ r. AreLinesReached r (opening arrays) (lines ++ line ∷ []) new.states) (sym same) after;
    some = more (after.all last.0 last.1);
  }
    where
      reached_once : AreLinesReached j.rules (opening arrays) (lines ++ line ∷ []) all → AreLinesReached j.rules (opening arrays) (lines ++ line ∷ []) new.states
      reached_once r = record {
        each = λ k d low. All-contains (LineRun j.rules (opening arrays) (lines ++ line ∷ [])) all (get_or new.states k d) r.each (alike.given (get_or new.states k d) (Contains-get_or new.states k d low));
        all = λ s' run. there s' (r.all s' run);
      }
        where
          there : (s' : State) → Any (IsSame s') all → Any (IsSame s') new.states
          there s' any = let c : Contains new.states any.1 = alike.kept any.1 (any.0, any.2, any.3) in (c.0, any.1, c.1, c.2, any.4)

      after : AreLinesReached j.rules (opening arrays) (lines ++ line ∷ []) new.states
      after = reached_once (subst (λ ss. AreLinesReached j.rules (opening arrays) (lines ++ line ∷ []) ss) (sym e) (reached_more j.rules arrays lines line told means j.states h.reached))

      last : IsLineRun j.rules (opening arrays) (lines ++ line ∷ [])
      last = some_run arrays lines line h goes

      more : Any (IsSame last.0) new.states → 0 < length new.states
      more any = omega (arith, any.2)

  pub refused : (arrays : List (List (List ℕ))) (lines : List Line) (line : Line) (rule : Rule) → HasTakenLines j arrays lines → StopsAll j.rules j.states line rule → IsLineRefused j.rules arrays lines line rule
  refused arrays lines line rule h stops = record {
    no_run = λ run. none run.0 (run_split j.rules (opening arrays) lines (line ∷ []) run.0 run.1);
    each = λ s run. stops.named s (arrays, map (λ (l : Line). l.label) lines, labels_run j.rules (opening arrays) lines s run) (stuck s run);
    broken = (stops.there.1, All-contains (LineRun j.rules (opening arrays) lines) j.states stops.there.1 h.reached.each (stops.there.0, stops.there.2, stops.there.3), stops.there.4);
  }
    where
      stuck : (mid : State) → LineRun j.rules (opening arrays) lines mid → HasNoStep j.rules line mid
      stuck mid before (after, step) =
          let there : Any (IsSame mid) j.states = h.reached.all mid before in
          All-contains (HasNoStep j.rules line) j.states there.1 stops.none (there.0, there.2, there.3) (after, step_same mid there.1 after after there.4 (IsSame-refl after) j.rules line step)

      none : (s' : State) → (mid : State) × LineRun j.rules (opening arrays) lines mid × LineRun j.rules mid (line ∷ []) s' → ⊥
      none s' (mid, before, (after, step, same)) = stuck mid before (after, step)

-- THE RULE THAT IS NAMED AT ALL STATES

module _ (rules : Rules) (line : Line) (told : Told) (is : IsToldBy line told) where
  goes_so : (s : State) → IsReached rules s → goes_by rules told line.label s ≡ true → HasLineStep rules s line
  goes_so s reached e = (exactly rules s line told is reached).0 (none_is _ e)
    where
      none_is : (x : Option Rule) → not (is_some x) ≡ true → x ≡ None
      none_is None e = refl
      none_is (Some r) e = cc (e)

  no_step : (s : State) → IsReached rules s → goes_by rules told line.label s ≡ false → HasNoStep rules line s
  no_step s reached e step = both_ways _ e (ap (λ x. not (is_some x)) ((exactly rules s line told is reached).1 step))

  -- where no step goes by the line a rule is named
  named : (s : State) → IsReached rules s → HasNoStep rules line s → BreaksSome rules line s
  named s reached none = by (label_rule rules s told line.label) refl (breaks rules s line told is reached)
    where
      by : (x : Option Rule) → label_rule rules s told line.label ≡ x → IfSome x (λ rule. LineBreaks rules s line rule) → BreaksSome rules line s
      by None e h = absurd (none ((exactly rules s line told is reached).0 e))
      by (Some rule) e h = (rule, h)

  stops : (states : List State) → AllReached rules states → list_any (goes_by rules told line.label) states ≡ false → 0 < length states
      → MatchOption (rule_of_first rules told line.label (slice_get states 0)) (SomeGoes rules states line) (StopsAll rules states line)
  stops [] reached none some = absurd (omega arith)
  stops (x ∷ xs) reached none some = by (label_rule rules x told line.label) refl (breaks rules x line told is here)
    where
      here : IsReached rules x
      here = reached 0 x (omega arith)

      by : (r : Option Rule) → label_rule rules x told line.label ≡ r → IfSome r (λ rule. LineBreaks rules x line rule) → MatchOption r (SomeGoes rules (x ∷ xs) line) (StopsAll rules (x ∷ xs) line)
      by None e h = absurd (both_ways _ (none_any (goes_by rules told line.label) (x ∷ xs) none x (0, omega arith, refl)) (ap (λ r. not (is_some r)) e))
      by (Some rule) e h = record {
        none = λ k d low. no_step (get_or (x ∷ xs) k d) (reached k d low) (none_any (goes_by rules told line.label) (x ∷ xs) none (get_or (x ∷ xs) k d) (Contains-get_or (x ∷ xs) k d low));
        named = named;
        there = (0, x, omega arith, refl, h);
      }

  all_named : (states : List State) → AllReached rules states → 0 < length states → MatchOption (rule_of_all rules told states line.label) (SomeGoes rules states line) (StopsAll rules states line)
  all_named states reached some = by (list_any (goes_by rules told line.label) states) refl
    where
      by : (b : Bool) → list_any (goes_by rules told line.label) states ≡ b
          → MatchOption (if b then None else rule_of_first rules told line.label (slice_get states 0)) (SomeGoes rules states line) (StopsAll rules states line)
      by true e =
          let any : Any (λ s. goes_by rules told line.label s ≡ true) states = Any-from_list_any (goes_by rules told line.label) states e in
          (any.0, any.1, any.2, any.3, goes_so any.1 (All-contains (IsReached rules) states any.1 reached (any.0, any.2, any.3)) any.4)
      by false e = stops states reached e some

pub all_told : (rules : Rules) (l : Label) (owner : Option ℕ) (told : Told) → IsToldBy (line_of l owner) told → (states : List State) → AllReached rules states → 0 < length states
    → MatchOption (rule_of_all rules told states l) (SomeGoes rules states (line_of l owner)) (StopsAll rules states (line_of l owner))
all_told rules l owner told is states reached some = all_named rules (line_of l owner) told is states reached some
