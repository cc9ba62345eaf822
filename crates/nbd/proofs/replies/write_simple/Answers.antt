use Rattle.nbd.proofs.Streaming.{tells_reply}
use Rattle.nbd.specs.Replies.{simple_bytes}
use Rattle.nbd.proofs.replies.write_simple.Goals as goal

pub returns : goal.returns
returns g c =
    tells_reply _ _ _ _ (simple_bytes c.args.cookie c.args.error) _ c.simple_reply.ensures c.in_ok-write_all.ensures.bytes c.in_ok-write_all-2.ensures.bytes
