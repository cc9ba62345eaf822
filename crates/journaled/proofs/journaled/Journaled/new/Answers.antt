use Rattle.journaled.proofs.Beginning.{kept_at_first, told_at_first}
use Rattle.journaled.proofs.journaled.Journaled.new.Goals as goal

pub invariant_of-result : goal.invariant_of-result
invariant_of-result g c =
    kept_at_first c.args.stack c.args.journal c.requires.started c.requires.unused g.N.Naming.opening c.args.max_transfer c.requires.stands c.requires.some c.requires.longest c.requires.bytes c.shows_rule.ensures

pub returns-clause-told : goal.returns-clause-told
returns-clause-told g c = told_at_first c.args.stack c.args.journal c.requires.started c.requires.unused c.keeps_lengths.ensures c.shows_whole.ensures.reached
