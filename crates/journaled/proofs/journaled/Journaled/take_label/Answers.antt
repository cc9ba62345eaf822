use Rattle.journaled.proofs.Keeping.{entries_stay, noted}
use Rattle.journaled.proofs.Taking.{label_stays}
use Rattle.journaled.proofs.journaled.Journaled.take_label.Goals as goal

pub returns-clause-told : goal.returns-clause-told
returns-clause-told g c = λ arrays trace told.
    entries_stay arrays trace c.take_label.new.self c.self.inside.journal c.note.new.journal c.note.ensures.keeps
    (label_stays c.args.self.now c.self.inside.stack c.take_label.new.self c.self.inside.journal c.self.view_is c.take_label.result c.take_label.ensures arrays trace told)

pub invariant_of-self-2 : goal.invariant_of-self-2
invariant_of-self-2 g c =
    noted g.N.Naming.opening c.self.inside.stack c.take_label.new.self c.self.inside.journal c.note.new.journal c.self.inside.max_transfer c.self.inside.next_request c.note.new.next_request c.in_ok-label.label
    c.self.invariant c.in_ok-label.ensures c.note.ensures.keeps c.note.ensures.room c.note.ensures.next
