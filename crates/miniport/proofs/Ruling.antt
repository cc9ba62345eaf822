-- An act by a plan.
use Rattle.std.proofs.Common.{◌≡◌, ℕ, List, [], map, Bool, true, false, Option, MatchBool, ap, refl, sym, subst}
use Rattle.ntstatus.specs.First.{first_some}
use Rattle.sector.specs.declared.Extent.{Extent}
use Rattle.srb.specs.declared.Srb.{Srb}
use Rattle.injection.specs.declared.Kind.{Kind}
use Rattle.injection.specs.declared.Rule.{Rule}
use Rattle.injection.specs.Rules.{Names, behind, kind_if_due, named}
use Rattle.adapter.specs.Calls.{ActsOrFaults, ActsNot}
use Rattle.miniport.specs.Memory.{MemView, ActsByTable}
use Rattle.miniport.specs.Planned.{PlannedView, ActsByPlan, EndsByPlan}
use Rattle.miniport.specs.inside.Planned.{AsksOn}

-- the tag's piece ends by the plan
pub ended : (old new : PlannedView) (tag : ℕ) (asked : Extent) (failing : Option Kind) (acts : Bool)
    → AsksOn old.inner.shown tag asked → failing ≡ first_some (map (kind_if_due asked) old.rules) → new.rules ≡ map (behind asked) old.rules
    → MatchBool acts (ActsOrFaults old.inner.shown tag new.inner.shown) (ActsNot old.inner.shown tag new.inner.shown)
    → MatchBool acts (EndsByPlan failing old.inner tag new.inner) (new.inner ≡ old.inner)
    → MatchBool acts (ActsByPlan old tag new) (new ≡ old)
ended old new tag asked failing true asks fails counted acts ends = record {
  use' = asks.armed.use';
  others = asks.armed.others;
  asked = asked;
  is_on = asks.armed.is_on;
  names = subst (λ (srb : Srb). Names srb.block asked) (sym asks.armed.is_srb) asks.names;
  ends = subst (λ k. EndsByPlan k old.inner tag new.inner) fails ends;
  counted = counted;
}
ended old new tag asked failing false asks fails counted acts ends =
    absurd (acts.none_fresh asks.armed.use' asks.armed.others asks.armed.is_on asks.armed.is_fresh)

abbrev pub planned : List Rule → MemView → PlannedView
planned rules inner = record { inner = inner; rules = rules }

-- where there are no rules it goes by the table
pub unruled : (rules : List Rule) (old new : MemView) (tag : ℕ) (acts : Bool) → rules ≡ []
    → MatchBool acts (ActsByTable old tag new) (new ≡ old)
    → MatchBool acts (ActsByPlan (planned rules old) tag (planned rules new)) (planned rules new ≡ planned rules old)
unruled rules old new tag true none by = record {
  use' = by.use';
  others = by.others;
  asked = named by.decoded;
  is_on = by.is_on;
  names = record { decoded = by.decoded; decodes = by.decodes; is = refl };
  ends = subst (λ (rs : List Rule). EndsByPlan (first_some (map (kind_if_due (named by.decoded)) rs)) old tag new) (sym none) by;
  counted = subst (λ (rs : List Rule). rs ≡ map (behind (named by.decoded)) rs) (sym none) refl;
}
unruled rules old new tag false none same = ap (planned rules) same
