use Rattle.judge_words.proofs.grammar.histories.Goals as goal

pub returns : goal.returns
returns c = c.in_ok-sessions.ensures _ (c.in_ok-json.ensures _ (c.in_ok-progress.ensures _ (c.in_ok-start.ensures _ c.in_ok-command.ensures)))
