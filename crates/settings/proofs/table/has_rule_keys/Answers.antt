use Rattle.std.proofs.Common.{rules, tests, string_bytes, bytes_eq, ◌∙◌}
use Rattle.std.specs.BTreeMap.{keys}
use Rattle.std.specs.List.{list_any}
use Rattle.std.proofs.lemmas.Iterator.Search.{all_from_yields_List}
use Rattle.std.proofs.lemmas.Iterator.Consumers.{YieldsList-from_rest}
use Rattle.settings.specs.Settings.{rule_keys}
use Rattle.settings.proofs.Keys.{all_keys}
use Rattle.settings.proofs.table.has_rule_keys.Goals as goal

pub returns : goal.returns
returns c =
    all_from_yields_List (λ s. list_any (bytes_eq (string_bytes s)) rule_keys) _ _ c.all.result c.all.ensures.ran
    (YieldsList-from_rest (keys c.args.table.now) cc) (λ x b q k. search (rules, tests))
    ∙ all_keys (λ key. list_any (bytes_eq key) rule_keys) c.args.table.now.entries
