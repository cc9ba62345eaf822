use Rattle.host.proofs.Issuing.{was_open, was_used_up}
use Rattle.host.proofs.account.Account.issue_and_note.Goals as goal

pub returns-clause-was_open : goal.returns-clause-was_open
returns-clause-was_open g c =
    was_open g.N.TraceNaming.rules g.N.TraceNaming.start g.N.TraceNaming.partitions g.N.TraceNaming.handles c.issue_in-issued.new.book.traced c.issue_in-issued.result c.shows_whole.ensures
    c.issue_in-issued.ensures.stands c.issue_in-issued.ensures.held

pub returns-clause-used_up : goal.returns-clause-used_up
returns-clause-used_up g c =
    was_used_up g.N.TraceNaming.rules g.N.TraceNaming.start g.N.TraceNaming.partitions g.N.TraceNaming.handles c.issue_in-issued.new.book.traced c.args.self.now.called.list c.args.self.now.answered.list c.issue_in-issued.result c.shows_whole.ensures
    c.issue_in-issued.ensures.used_up
