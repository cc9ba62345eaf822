use Rattle.std.proofs.Common.{◌≡◌, ◌+◌, ◌++◌, ◌∷◌, [], map, take, rules, sym, ap, ◌∙◌}
use Rattle.std.proofs.lemmas.List.{take_more, map-append}
use Rattle.toml.specs.View.{view}
use Rattle.settings.specs.Faults.{rule_fault}
use Rattle.settings.proofs.FirstFault.{item_passed}
use Rattle.settings.proofs.Zipped.{all_zip_append}
use Rattle.settings.proofs.planned.fault_rules_of.Goals as goal

pub loop-item-preserved : goal.loop-item-preserved
loop-item-preserved c =
    let so_far = take c.loop-item.item-index c.args.items.now in
    let more : take (c.loop-item.item-index + 1) c.args.items.now ≡ so_far ++ c.item-item.result ∷ [] =
    take_more c.args.items.now c.loop-item.item-index c.item-item.result c.loop-item-test.true ∙ ap (λ x. so_far ++ x ∷ []) (sym c.item-item.is) in
    let tables : map view (take (c.loop-item.item-index + 1) c.args.items.now) ≡ map view so_far ++ view c.item-item.result ∷ [] =
    ap (map view) more ∙ map-append view so_far _ in
    let pushed : c.push.new.self.items ≡ c.loop-item.found.items ++ c.in_ok-rule.rule ∷ [] = search rules in
    record {
      value = rw (tables, pushed) (all_zip_append _ _ _ _ _ c.loop-item.invariant.value c.in_ok-rule.ensures.value);
      rest = c.loop-item.invariant.rest
          ∙ item_passed (λ item. rule_fault (view item)) c.args.items.now c.loop-item.item-index c.item-item.result c.loop-item-test.true c.item-item.is (sym c.in_ok-rule.ensures.fault);
    }
