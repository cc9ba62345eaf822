use Rattle.std.proofs.Common.{List, ℕ, ◌++◌, []}
use Rattle.byteorder.specs.Endian.{big_bytes}
use Rattle.nbd.specs.Contexts.{allocation}
use Rattle.nbd.specs.Options.{option_reply}
use Rattle.nbd.proofs.Streaming.{retold, tells_more}
use Rattle.nbd.proofs.options.write_context.Goals as goal

pub returns : goal.returns
returns g c =
    let reply = λ (b : List ℕ). option_reply c.args.code 4 b in
    tells_more _ _ _ (reply (big_bytes 4 c.args.id ++ allocation)) (option_reply c.args.code 1 [])
    (retold _ _ reply _ (big_bytes 4 c.args.id ++ allocation) c.context_bytes.ensures c.in_ok-write_option_reply.ensures)
    c.in_ok-write_option_reply-2.ensures
