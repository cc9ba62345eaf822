use Rattle.judge.proofs.rule_words.StartRuleDisplay.fmt.Goals as goal

pub returns-in-Tag-clause-writes : goal.returns-in-Tag-clause-writes
returns-in-Tag-clause-writes g c = rw c.in-Tag.is c.write-in-Tag.ensures.writes
