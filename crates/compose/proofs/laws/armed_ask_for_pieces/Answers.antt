use Rattle.compose.proofs.Armed.{armed_ask_for_pieces}
use Rattle.compose.proofs.laws.armed_ask_for_pieces.Goals as goal

pub returns : goal.returns
returns c = armed_ask_for_pieces c.acts_were_asked.ensures c.numbers_are_used_once.ensures.starts
