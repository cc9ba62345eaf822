use Rattle.script.proofs.Printed.{last_written, stays}
use Rattle.script.proofs.player.play.Goals as goal

pub returns-in-Ok-clause-text : goal.returns-in-Ok-clause-text
returns-in-Ok-clause-text g c =
    stays _ _ _ _ (last_written _ _ _ _ _ _ c.in_ok-text.ensures.items c.in-Ok.ensures.text c.in_ok-write_out-in-Ok.ensures.written) c.in_ok-flush-in-Ok.ensures.bytes
