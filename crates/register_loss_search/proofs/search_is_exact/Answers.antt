use Rattle.register_loss_search.proofs.Searching.{search_exact}
use Rattle.register_loss_search.proofs.search_is_exact.Goals as goal

pub returns : goal.returns
returns c = search_exact
