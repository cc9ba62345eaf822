use Rattle.judge_words.proofs.grammar.cuts.Goals as goal

pub returns : goal.returns
returns c = c.in_ok-judged.ensures _ c.in_ok-command.ensures
