use Rattle.std.proofs.Common.{sym, ◌∙◌}
use Rattle.sector_journal.proofs.SizeClasses.{booked, dropped, spent_there, free_pieces}
use Rattle.sector_journal.proofs.buffer_pool.BufferPool.drop_spent.Goals as goal

pub returns-then-len-gt-SPENT_CLASSES-clause-same : goal.returns-then-len-gt-SPENT_CLASSES-clause-same
returns-then-len-gt-SPENT_CLASSES-clause-same c =
    let spent = spent_there c.self.inside.classes.items c.args.self.now c.args.length c.args.at c.index.result.now c.self.view_is c.requires.there c.index.ensures (sym c.is_spent.ensures ∙ c.if-is_spent.true) in
    dropped free_pieces c.self.inside.classes.items c.args.self.now c.remove_length.new.classes.items c.args.length c.self.view_is c.remove_length.ensures (c.requires.empty spent)

pub returns-then-len-gt-SPENT_CLASSES-clause-booked : goal.returns-then-len-gt-SPENT_CLASSES-clause-booked
returns-then-len-gt-SPENT_CLASSES-clause-booked c =
    let spent = spent_there c.self.inside.classes.items c.args.self.now c.args.length c.args.at c.index.result.now c.self.view_is c.requires.there c.index.ensures (sym c.is_spent.ensures ∙ c.if-is_spent.true) in
    dropped booked c.self.inside.classes.items c.args.self.now c.remove_length.new.classes.items c.args.length c.self.view_is c.remove_length.ensures spent
