-- A verdict is a run exactly where the labels are.
use Rattle.std.proofs.Common.{◌≡◌, ◌<◌, ℕ, ◌+◌, List, [], ◌∷◌, ◌++◌, refl, sym, ◌∙◌, ap, subst, arith, length, take, get_or}
use Rattle.std.specs.Prelude.{◌↔◌, IsTrue}
use Rattle.std.proofs.lemmas.List.{take_more}
use Rattle.machine.specs.declared.Label.{Label}
use Rattle.machine.specs.Rules.{Rules}
use Rattle.machine.specs.State.{State, opening}
use Rattle.judge.specs.Judging.{AreReached, IsRun, StopsAt, plain}
use Rattle.judge.specs.Next.{AreNext}
use Rattle.judge.specs.Verdicts.{IsVerdict, is_run}
use Rattle.judge.specs.declared.judging.Verdict.{Verdict}
use Rattle.judge.specs.declared.judging.Verdict.TheVariants.{Run, Stops}
use Rattle.judge.proofs.Reaching.{reached_none}
use Rattle.judge.proofs.Plain.{from_lines, label_more, reached_some, reached_nothing, stays_none}

module _ (rules : Rules) (arrays : List (List (List ℕ))) (labels : List Label) where
  pub exactly : (v : Verdict) → IsVerdict rules (opening arrays) labels v → IsTrue (is_run v) ↔ IsRun rules (opening arrays) labels
  exactly (Run machines) h = (λ t. reached_some rules (opening arrays) labels machines.items h.0 h.1, λ run. refl)
  exactly (Stops at) h = (λ t. cc (t), λ run. absurd (stays_none rules arrays labels (at + 1) h.none run))

  -- what is reached after the labels up to a place, of which there is something
  pub record ReachedSome (at : ℕ) (states : List State) : Type 0 where
    pub reached : AreReached rules (opening arrays) (take at labels) states
    pub some : 0 < length states

  pub one_reached : (at : ℕ) (states after : List State) (label : Label) → ReachedSome at states → at < length labels → label ≡ get_or labels at label → AreNext rules (plain label) states after
      → AreReached rules (opening arrays) (take (at + 1) labels) after
  one_reached at states after label h low is (told, means, e) =
      let further : take (at + 1) labels ≡ take at labels ++ label ∷ [] = take_more labels at label low ∙ ap (λ l. take at labels ++ l ∷ []) (sym is) in
      subst (λ ls. AreReached rules (opening arrays) ls after) (sym further)
      (subst (λ ss. AreReached rules (opening arrays) (take at labels ++ label ∷ []) ss) (sym e) (label_more rules arrays (take at labels) label told means states h.reached))

  pub stops_here : (at : ℕ) (states after : List State) (label : Label) → ReachedSome at states → at < length labels → label ≡ get_or labels at label → AreNext rules (plain label) states after
      → length after ≡ 0 → StopsAt rules (opening arrays) labels at
  stops_here at states after label h low is e none = record {
    within = low;
    before = reached_some rules (opening arrays) (take at labels) states h.reached h.some;
    none = reached_nothing rules (opening arrays) (take (at + 1) labels) after (one_reached at states after label h low is e) none;
  }

  pub goes_on : (at : ℕ) (states after : List State) (label : Label) → ReachedSome at states → at < length labels → label ≡ get_or labels at label → AreNext rules (plain label) states after
      → 0 < length after → ReachedSome (at + 1) after
  goes_on at states after label h low is e some = record { reached = one_reached at states after label h low is e; some = some }

  pub first_reached : (states : List State) → states ≡ opening arrays ∷ [] → ReachedSome 0 states
  first_reached states e = subst (λ ss. ReachedSome 0 ss) (sym e) (record { reached = from_lines rules (opening arrays) [] (opening arrays ∷ []) (reached_none rules arrays); some = omega arith })
