use Rattle.std.proofs.Common.{subst}
use Rattle.clap.specs.Words.{Rule, with_rule}
use Rattle.judge_words.specs.CommandLine.{IsApp}
use Rattle.judge_words.proofs.grammar.with_flag.Goals as goal

pub returns : goal.returns
returns c = λ app is. subst (λ (r : Rule). IsApp (with_rule app r) c.in_ok-more.more) c.flag.ensures.rule (c.in_ok-more.ensures app is)
