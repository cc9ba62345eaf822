use Rattle.std.proofs.Common.{subst, true}
use Rattle.clap.specs.Words.{Rule, new_app, with_rule}
use Rattle.command_line.specs.Grammar.{word_rule}
use Rattle.judge_words.specs.CommandLine.{IsApp}
use Rattle.judge_words.proofs.grammar.two_words.Goals as goal

pub returns : goal.returns
returns c =
    let one : IsApp (with_rule (new_app c.args.name.now) (word_rule c.args.first.now true)) c.in_ok-one.one =
    subst (λ (r : Rule). IsApp (with_rule (new_app c.args.name.now) r) c.in_ok-one.one) c.word.ensures.rule (c.in_ok-one.ensures _ c.named-command.ensures) in
    subst (λ (r : Rule). IsApp (with_rule (with_rule (new_app c.args.name.now) (word_rule c.args.first.now true)) r) c.in_ok-both.both) c.word-2.ensures.rule (c.in_ok-both.ensures _ one)
