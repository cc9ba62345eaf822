use Rattle.std.proofs.Common.{◌<◌, ◌*◌, rules}
use Rattle.saddlemug.proofs.TooLong.{refused_alike}
use Rattle.saddlemug.proofs.events.bytes_called.Goals as goal

pub returns-then-from-clause-refused_alike : goal.returns-then-from-clause-refused_alike
returns-then-from-clause-refused_alike c =
    let more : 65536 * c.args.size < c.args.count = search rules in
    refused_alike c.args.size c.args.count more
