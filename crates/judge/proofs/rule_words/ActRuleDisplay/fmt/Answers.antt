use Rattle.judge.proofs.rule_words.ActRuleDisplay.fmt.Goals as goal

pub returns-in-Length-clause-writes : goal.returns-in-Length-clause-writes
returns-in-Length-clause-writes g c = rw c.in-Length.is c.write-in-Length.ensures.writes
