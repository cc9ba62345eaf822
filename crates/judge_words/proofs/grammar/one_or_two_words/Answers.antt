use Rattle.std.proofs.Common.{List, ℕ, codes, false, subst, true}
use Rattle.clap.specs.Words.{App, Rule, new_app, with_rule}
use Rattle.command_line.specs.Grammar.{word_rule}
use Rattle.judge_words.specs.CommandLine.{IsApp}
use Rattle.judge_words.proofs.grammar.one_or_two_words.Goals as goal

abbrev first : (name : List ℕ) → App
first name = with_rule (new_app name) (word_rule (codes "FIRST") true)

pub returns : goal.returns
returns c =
    let name = c.args.name.now in
    let one : IsApp (first name) c.in_ok-one.one = subst (λ (r : Rule). IsApp (with_rule (new_app name) r) c.in_ok-one.one) c.word.ensures.rule (c.in_ok-one.ensures _ c.named-command.ensures) in
    subst (λ (r : Rule). IsApp (with_rule (first name) r) c.in_ok-both.both) c.word-2.ensures.rule (c.in_ok-both.ensures _ one)
