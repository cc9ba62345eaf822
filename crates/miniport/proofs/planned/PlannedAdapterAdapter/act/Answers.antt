use Rattle.std.proofs.Common.{◌≡◌, ◌∙◌, List, [], length, map, MatchBool, ap, refl, subst, sym, rules}
use Rattle.std.specs.Vec.{with_items}
use Rattle.std.proofs.lemmas.List.{length-map, nil_from_length, with_items_is}
use Rattle.ntstatus.specs.First.{first_some}
use Rattle.adapter.specs.Calls.{HasNoneFresh}
use Rattle.injection.specs.declared.Rule.{Rule}
use Rattle.injection.specs.Rules.{behind, kind_if_due}
use Rattle.miniport.specs.Planned.{PlannedView, ActsByPlan}
use Rattle.miniport.proofs.Ruling.{ended, unruled}
use Rattle.miniport.proofs.planned.PlannedAdapterAdapter.act.Goals as goal

pub returns-in_default-clause-acts : goal.returns-in_default-clause-acts
returns-in_default-clause-acts g c = record {
  none_fresh = subst (λ (v : PlannedView). HasNoneFresh v.inner.shown c.args.tag) c.self.view_is c.in_default.ensures.asks;
  same = refl;
}

pub returns-clause-planned : goal.returns-clause-planned
returns-clause-planned g c =
    let asked = c.in-Some.asked in
    let listed : List Rule = c.self.inside.rules.items in
    let left : List Rule = (with_items c.self.inside.rules c.turn-failing.new.rules).items in
    let old : PlannedView = record { inner = c.self.inside.inner; rules = listed } in
    let new : PlannedView = record { inner = c.end_by.new.inner; rules = left } in
    let counted : c.turn-failing.new.rules ≡ map (behind asked) listed = c.turn-failing.ensures.counted ∙ ap (λ rs. map (behind asked) rs) c.as_mut_slice.ensures.value in
    let long : length c.turn-failing.new.rules ≡ c.self.inside.rules.len = ap (length {A = Rule}) counted ∙ (length-map listed (behind asked) ∙ sym c.self.inside.rules.ok.0) in
    subst (λ (v : PlannedView). MatchBool c.end_by.result (ActsByPlan v c.args.tag new) (new ≡ v)) c.self.view_is
    (ended old new c.args.tag asked c.turn-failing.result c.end_by.result c.in-Some.ensures.asks
    (c.turn-failing.ensures.does ∙ ap (λ rs. first_some (map (kind_if_due asked) rs)) c.as_mut_slice.ensures.value)
    (with_items_is c.self.inside.rules c.turn-failing.new.rules long ∙ counted)
    c.end_by.ensures.acts c.end_by.ensures.ends)

pub returns-then-is_empty-clause-planned : goal.returns-then-is_empty-clause-planned
returns-then-is_empty-clause-planned g c =
    let zero : length c.self.inside.rules.items ≡ 0 = search rules in
    let none : c.self.inside.rules.items ≡ [] = nil_from_length c.self.inside.rules.items zero in
    let new : PlannedView = record { inner = c.act.new.self; rules = c.self.inside.rules.items } in
    subst (λ (v : PlannedView). MatchBool c.act.result (ActsByPlan v c.args.tag new) (new ≡ v)) c.self.view_is
    (unruled c.self.inside.rules.items c.self.inside.inner c.act.new.self c.args.tag c.act.result none c.act.ensures.by_table)
