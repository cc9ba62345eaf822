use Rattle.std.proofs.Common.{ap₂, codes, false, ◌≡◌, ◌∙◌}
use Rattle.std.proofs.lemmas.Result.{IfOk-weaker}
use Rattle.clap.specs.Words.{app_of, rule_of, with_rule}
use Rattle.command_line.specs.Grammar.{flag_rule, option_rule, word_rule}
use Rattle.serving.specs.CommandLine.{words}
use Rattle.serving.proofs.words.AskedParser.grammar.Goals as goal

pub returns : goal.returns
returns c =
    let config_is : rule_of c.word.result ≡ word_rule (codes "CONFIG") false = c.word.ensures.rule in
    let partition_is : rule_of c.word-2.result ≡ word_rule (codes "PARTITION") false = c.word-2.ensures.rule in
    let disk_is : rule_of c.option.result ≡ option_rule (codes "disk") = c.option.ensures.rule in
    let create_is : rule_of c.flag.result ≡ flag_rule (codes "create") = c.flag.ensures.rule in
    let trace_is : rule_of c.option-2.result ≡ option_rule (codes "trace") = c.option-2.ensures.rule in
    let words_are : app_of c.in_ok-arg-2.field-0 ≡ words = c.in_ok-arg-2.ensures.shape c.word-2.ensures.local
    ∙ ap₂ with_rule (c.in_ok-arg.ensures.shape c.word.ensures.local ∙ ap₂ with_rule c.new.ensures.app config_is) partition_is in
    let created : app_of c.in_ok-arg-4.field-0 ≡ with_rule (with_rule words (option_rule (codes "disk"))) (flag_rule (codes "create")) =
    c.in_ok-arg-4.ensures.shape c.flag.ensures.local ∙ ap₂ with_rule (c.in_ok-arg-3.ensures.shape c.option.ensures.local ∙ ap₂ with_rule words_are disk_is) create_is in
    let traced : app_of c.in_ok-arg-5.field-0 ≡ with_rule (with_rule (with_rule words (option_rule (codes "disk"))) (flag_rule (codes "create"))) (option_rule (codes "trace")) =
    c.in_ok-arg-5.ensures.shape c.option-2.ensures.local ∙ ap₂ with_rule created trace_is in
    let beside_is : rule_of c.flag-2.result ≡ flag_rule (codes "beside") = c.flag-2.ensures.rule in
    IfOk-weaker c.arg-6.result _ _ (λ r h. h.shape c.flag-2.ensures.local ∙ ap₂ with_rule traced beside_is) c.arg-6.ensures
