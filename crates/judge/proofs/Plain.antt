-- Labels are lines that name no request.
use Rattle.std.proofs.Common.{◌≡◌, ◌<◌, ℕ, List, [], ◌∷◌, ◌++◌, refl, sym, ap, subst, arith, length, take, drop}
use Rattle.std.specs.Prelude.{Any}
use Rattle.std.specs.List.{flat_map}
use Rattle.std.proofs.lemmas.List.{take-append-drop}
use Rattle.std.proofs.lemmas.List.Elements.{All-weaker}
use Rattle.machine.specs.declared.Label.{Label}
use Rattle.machine.specs.Rules.{Rules}
use Rattle.machine.specs.State.{State, IsSame, opening}
use Rattle.machine.specs.Step.{Run}
use Rattle.machine.proofs.Same.{IsSame-refl}
use Rattle.trace_line.specs.Lines.{LineRun}
use Rattle.judge.specs.declared.label_rules.Rule.{Rule}
use Rattle.judge.specs.declared.reading.Told.{Told}
use Rattle.judge.specs.Judging.{AreReached, IsRun, plain, all_plain, AreLinesReached}
use Rattle.judge.specs.Following.{JudgeView, HasTaken, Takes, Refuses, HasTakenLines, TakesLine, RefusesLine}
use Rattle.judge.specs.LabelRuling.{IsToldBy}
use Rattle.judge.specs.Next.{next}
use Rattle.judge.proofs.Lines.{plain_run, run_plain}
use Rattle.judge.proofs.Reaching.{reached_more}

plain_more : (labels : List Label) (label : Label) → all_plain (labels ++ label ∷ []) ≡ all_plain labels ++ plain label ∷ []
plain_more [] label = refl
plain_more (l ∷ labels) label = ap (λ ls. plain l ∷ ls) (plain_more labels label)

module _ (rules : Rules) (s : State) (labels : List Label) (states : List State) where
  pub to_lines : AreReached rules s labels states → AreLinesReached rules s (all_plain labels) states
  to_lines h = record {
    each = All-weaker (Run rules s labels) (LineRun rules s (all_plain labels)) (λ t run. plain_run rules s labels t run) states h.each;
    all = λ s' run. h.all s' (run_plain rules s labels s' run);
  }

  pub from_lines : AreLinesReached rules s (all_plain labels) states → AreReached rules s labels states
  from_lines h = record {
    each = All-weaker (LineRun rules s (all_plain labels)) (Run rules s labels) (λ t run. run_plain rules s labels t run) states h.each;
    all = λ s' run. h.all s' (plain_run rules s labels s' run);
  }

-- one label more
pub label_more : (rules : Rules) (arrays : List (List (List ℕ))) (labels : List Label) (label : Label) (told : Told) → IsToldBy (plain label) told → (states : List State) → AreReached rules (opening arrays) labels states
    → AreReached rules (opening arrays) (labels ++ label ∷ []) (flat_map (next rules told label) states)
label_more rules arrays labels label told is states h =
    from_lines rules (opening arrays) (labels ++ label ∷ []) (flat_map (next rules told label) states)
    (subst (λ ls. AreLinesReached rules (opening arrays) ls (flat_map (next rules told label) states)) (sym (plain_more labels label))
    (reached_more rules arrays (all_plain labels) (plain label) told is states (to_lines rules (opening arrays) labels states h)))

-- A JUDGE OF LABELS

module _ (j : JudgeView) (arrays : List (List (List ℕ))) where
  taken_lines : (labels : List Label) → HasTaken j arrays labels → HasTakenLines j arrays (all_plain labels)
  taken_lines labels h = record { reached = to_lines j.rules (opening arrays) labels j.states h.reached; some = h.some }

  pub taken_labels : (labels : List Label) → HasTakenLines j arrays (all_plain labels) → HasTaken j arrays labels
  taken_labels labels h = record { reached = from_lines j.rules (opening arrays) labels j.states h.reached; some = h.some }

pub takes_plain : (old new : JudgeView) (label : Label) → TakesLine old (plain label) new → Takes old label new
takes_plain old new label h = λ arrays labels t.
    taken_labels new arrays (labels ++ label ∷ [])
    (subst (λ ls. HasTakenLines new arrays ls) (sym (plain_more labels label)) (h arrays (all_plain labels) (taken_lines old arrays labels t)))

pub refuses_plain : (j : JudgeView) (label : Label) (rule : Rule) → RefusesLine j (plain label) rule → Refuses j label rule
refuses_plain j label rule h = λ arrays labels t.
    let refused = h arrays (all_plain labels) (taken_lines j arrays labels t) in
    record {
      no_run = λ run. refused.no_run (run.0, subst (λ ls. LineRun j.rules (opening arrays) ls run.0) (plain_more labels label) (plain_run j.rules (opening arrays) (labels ++ label ∷ []) run.0 run.1));
      each = λ s run. refused.each s (plain_run j.rules (opening arrays) labels s run);
      broken = (refused.broken.0, run_plain j.rules (opening arrays) labels refused.broken.0 refused.broken.1, refused.broken.2);
    }

-- RUNS OF LABELS

-- a run of joined labels passes through a state between them
run_parts : (rules : Rules) (s : State) (xs ys : List Label) (s' : State) → Run rules s (xs ++ ys) s' → (mid : State) × Run rules s xs mid × Run rules mid ys s'
run_parts rules s [] ys s' run = (s, IsSame-refl s, run)
run_parts rules s (x ∷ xs) ys s' run =
    let rest : (mid : State) × Run rules run.0 xs mid × Run rules mid ys s' = run_parts rules run.0 xs ys s' run.2 in
    (rest.0, (run.0, run.1, rest.1), rest.2)

-- what isn't a run is none whatever follows
pub stays_none : (rules : Rules) (arrays : List (List (List ℕ))) (labels : List Label) (n : ℕ) → ¬ (IsRun rules (opening arrays) (take n labels)) → ¬ (IsRun rules (opening arrays) labels)
stays_none rules arrays labels n h (s', run) =
    let parts : (mid : State) × Run rules (opening arrays) (take n labels) mid × Run rules mid (drop n labels) s' =
    run_parts rules (opening arrays) (take n labels) (drop n labels) s' (subst (λ ls. Run rules (opening arrays) ls s') (sym (take-append-drop n labels)) run) in
    h (parts.0, parts.1)

module _ (rules : Rules) (s : State) where
  pub reached_some : (labels : List Label) (states : List State) → AreReached rules s labels states → 0 < length states → IsRun rules s labels
  reached_some labels [] h some = absurd (omega arith)
  reached_some labels (t ∷ states) h some = (t, h.each 0 t (omega arith))

  pub reached_nothing : (labels : List Label) (states : List State) → AreReached rules s labels states → length states ≡ 0 → ¬ (IsRun rules s labels)
  reached_nothing labels [] h none (s', run) = let any : Any (IsSame s') [] = h.all s' run in absurd (omega (arith, any.2))
  reached_nothing labels (t ∷ states) h none run = absurd (omega arith)
