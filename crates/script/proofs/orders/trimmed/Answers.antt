use Rattle.script.proofs.Trims.{trim_is}
use Rattle.script.proofs.orders.trimmed.Goals as goal

pub returns : goal.returns
returns c =
    trim_is c.args.text.now c.trim_start_matches.result.now c.trim_end_matches.result.now c.trim_start_matches.ensures.matches c.trim_end_matches.ensures.matches
