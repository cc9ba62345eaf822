use Rattle.judge.proofs.rule_words.AnswerRuleDisplay.fmt.Goals as goal

pub returns-in-Status-clause-writes : goal.returns-in-Status-clause-writes
returns-in-Status-clause-writes g c = rw c.in-Status.is c.write-in-Status.ensures.writes
