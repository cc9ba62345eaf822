use Rattle.std.proofs.Common.{codes, subst}
use Rattle.clap.specs.Words.{Rule, with_rule}
use Rattle.judge_words.specs.CommandLine.{IsApp, judged_words, one_or_two_words, with_flag}
use Rattle.judge_words.proofs.grammar.pictures.Goals as goal

pub returns : goal.returns
returns c =
    subst (λ (r : Rule). IsApp (with_rule (with_flag (judged_words (one_or_two_words (codes "picture"))) (codes "events")) r) c.in_ok-lines.lines) c.option.ensures.rule
    (c.in_ok-lines.ensures _ (c.in_ok-events.ensures _ (c.in_ok-judged.ensures _ c.in_ok-command.ensures)))
