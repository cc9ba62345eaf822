use Rattle.std.proofs.Common.{rules, tests, ◌∙◌, sym}
use Rattle.std.proofs.lemmas.Iterator.{YieldsList-from_slice}
use Rattle.std.proofs.lemmas.Iterator.Search.{all_from_yields_List}
use Rattle.std.proofs.lemmas.List.Folds.{list_all-map}
use Rattle.toml.specs.View.{view}
use Rattle.settings.specs.Settings.{has_rule_keys}
use Rattle.settings.proofs.table.have_rule_keys.Goals as goal

pub returns : goal.returns
returns c =
    all_from_yields_List (λ v. has_rule_keys (view v)) _ _ c.all.result c.all.ensures.ran
    (YieldsList-from_slice c.args.items.now cc) (λ x b q k. search (rules, tests))
    ∙ sym (list_all-map has_rule_keys view c.args.items.now)
