use Rattle.label_text.proofs.RunsRead.{counted_is}
use Rattle.label_text.proofs.runs.short_run.Goals as goal

pub returns-in_ok-byte_of-in-len4 : goal.returns-in_ok-byte_of-in-len4
returns-in_ok-byte_of-in-len4 c =
    counted_is c.args.part.now c.in_ok-byte_of-in-len4.field-0 c.byte_of.result c.counted.result c.in-len4.len_at_least c.in-len4.len_below c.byte_of.ensures c.in_ok-byte_of-in-len4.was c.counted.ensures
