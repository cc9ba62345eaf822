use Rattle.std.proofs.Common.{rules}
use Rattle.commands.proofs.Acts.{acts_counted}
use Rattle.commands.proofs.clients.acts_in.Goals as goal

pub returns : goal.returns
returns c = search (rules, acts_counted)
