use Rattle.std.proofs.Common.{rules, refl, Ok}
use Rattle.nbd.proofs.Arriving.{arrives_bare, arrives_whole, arrives_wrong}
use Rattle.nbd.proofs.incoming.take_request.Goals as goal

pub returns-in_ok-skip-in-Err-clause-taken : goal.returns-in_ok-skip-in-Err-clause-taken
returns-in_ok-skip-in-Err-clause-taken g c =
    arrives_wrong _ _ _ _ _ _ _ _ c.in_ok-request.ensures.taken c.payload_count-count.ensures c.command_of.ensures.command c.in-Err.is refl c.in_ok-skip-in-Err.ensures.taken

pub returns-in-Ok-clause-taken : goal.returns-in-Ok-clause-taken
returns-in-Ok-clause-taken g c =
    arrives_bare _ _ _ _ _ _ _ c.in_ok-request.ensures.taken c.payload_count-count.ensures (search rules) c.command_of.ensures.command c.in-Ok.is refl

pub returns-in-Some-clause-taken : goal.returns-in-Some-clause-taken
returns-in-Some-clause-taken g c =
    arrives_whole c.args.sizes (g.R.Read.remaining c.args.input.now) _ (g.R.Read.remaining c.take_all_in.new.input) (record { request = c.in_ok-request.request; asked = Ok c.in-Ok.command; payload = c.in-Some.payload }) _ _ _ c.in_ok-request.ensures.taken c.payload_count-count.ensures c.command_of.ensures.command c.in-Ok.is refl (search rules)
