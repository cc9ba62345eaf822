use Rattle.trace_reader.proofs.known.ByteRuleDisplay.fmt.Goals as goal

pub returns-in-Sector-clause-writes : goal.returns-in-Sector-clause-writes
returns-in-Sector-clause-writes g c = rw c.in-Sector.is c.write-in-Sector.ensures.writes
