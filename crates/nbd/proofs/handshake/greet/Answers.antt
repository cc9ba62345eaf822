use Rattle.std.proofs.Common.{◌≡◌, Err, rules}
use Rattle.std.specs.Io.KnownBytes.{Appends}
use Rattle.nbd.specs.Options.{greeting}
use Rattle.nbd.proofs.Haggling.{greeting_cut}
use Rattle.nbd.proofs.handshake.greet.Goals as goal

pub returns-in_err-take-clause-ended : goal.returns-in_err-take-clause-ended
returns-in_err-take-clause-ended g c =
    let given : c.from_residual.result ≡ Err c.in_err-take.field-0.0 = search rules in
    let told : Appends (g.W.Write.contents c.args.out.now) (g.W.Write.contents c.flush.new.self) greeting = search rules in
    rw given (greeting_cut _ _ _ _ c.in_err-take.ensures.ended told)
