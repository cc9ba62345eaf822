use Rattle.std.proofs.Common.{rules, ◌≡◌, None, ◌∷◌, ◌++◌, [], sym, ◌∙◌}
use Rattle.sector_journal.proofs.SizeClasses.{pushed_there_in}
use Rattle.sector_journal.proofs.buffer_pool.BufferPool.find_or_add.Goals as goal

pub returns-in_ok-push-in-None-clause-found : goal.returns-in_ok-push-in-None-clause-found
returns-in_ok-push-in-None-clause-found c =
    let longer : c.push.new.self.items ≡ c.self.inside.classes.items ++ c.new.result ∷ [] = search rules in
    let none : c.find.result ≡ None = search rules in
    pushed_there_in c.self.inside.classes.items c.args.self.now c.push.new.self.items c.new.result c.args.length _ c.self.view_is (sym c.find.ensures ∙ none) c.new.ensures longer (search rules)
