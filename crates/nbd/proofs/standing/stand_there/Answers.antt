use Rattle.std.proofs.Common.{length, ap, ◌∙◌}
use Rattle.std.proofs.lemmas.List.{length-replicate}
use Rattle.nbd.proofs.Clearing.{found_there}
use Rattle.nbd.proofs.standing.stand_there.Goals as goal

pub returns-in-Ok-clause-there : goal.returns-in-Ok-clause-there
returns-in-Ok-clause-there g c =
    found_there (g.A.Array.content c.args.array.now).bytes c.args.offset c.args.bytes.now c.in-Some.buffer.items c.in-Ok.found.items c.as_slice.result.now c.are_same.result
    (ap length c.in-Some.ensures ∙ length-replicate _ 0) c.in-Ok.ensures.reads c.as_slice.ensures.value c.are_same.ensures
