use Rattle.std.proofs.Common.{rules, ap, ap₂, codes, true, ◌≡◌, ◌∙◌}
use Rattle.std.proofs.lemmas.Result.{IfOk-weaker}
use Rattle.clap.specs.Words.{App, app_of, rule_of, with_rule, with_subcommand}
use Rattle.command_line.specs.Grammar.{word_rule}
use Rattle.commands.specs.CommandLine.{clients_words, trace_words}
use Rattle.commands.proofs.words.CommandParser.grammar.Goals as goal

pub returns : goal.returns
returns c =
    let config_is : rule_of c.word.result ≡ word_rule (codes "CONFIG") true = c.word.ensures.rule in
    let script_is : rule_of c.word-2.result ≡ word_rule (codes "SCRIPT") true = c.word-2.ensures.rule in
    let trace_is : app_of c.in_ok-trace.trace ≡ trace_words = c.in_ok-trace.ensures.shape c.word-2.ensures.local
    ∙ ap₂ with_rule (c.in_ok-arg.ensures.shape c.word.ensures.local ∙ ap₂ with_rule c.new.ensures.app config_is) script_is in
    let clients_config_is : rule_of c.word-3.result ≡ word_rule (codes "CONFIG") true = c.word-3.ensures.rule in
    let threads_is : rule_of c.word-4.result ≡ word_rule (codes "THREADS") true = c.word-4.ensures.rule in
    let calls_is : rule_of c.word-5.result ≡ word_rule (codes "CALLS") true = c.word-5.ensures.rule in
    let clients_is : app_of c.in_ok-clients.clients ≡ clients_words = c.in_ok-clients.ensures.shape c.word-5.ensures.local
    ∙ ap₂ with_rule (c.in_ok-arg-3.ensures.shape c.word-4.ensures.local
    ∙ ap₂ with_rule (c.in_ok-arg-2.ensures.shape c.word-3.ensures.local ∙ ap₂ with_rule c.new-2.ensures.app clients_config_is) threads_is) calls_is in
    let traced : app_of c.in_ok-subcommand.field-0 ≡ with_subcommand (app_of c.new-3.result) trace_words.top =
    c.in_ok-subcommand.ensures.shape (search rules) ∙ ap (λ (a : App). with_subcommand (app_of c.new-3.result) a.top) trace_is in
    IfOk-weaker c.subcommand-2.result _ _ (λ r h. h.shape (search rules) ∙ ap₂ with_subcommand (traced ∙ ap (λ (a : App). with_subcommand a trace_words.top) c.new-3.ensures.app) (ap (λ (a : App). a.top) clients_is))
    c.subcommand-2.ensures
