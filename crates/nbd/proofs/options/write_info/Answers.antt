use Rattle.std.proofs.Common.{List, ℕ, ◌++◌, []}
use Rattle.byteorder.specs.Endian.{big_bytes}
use Rattle.nbd.specs.Options.{block_bytes, export_bytes, option_reply}
use Rattle.nbd.proofs.Streaming.{tells_more, retold}
use Rattle.nbd.proofs.options.write_info.Goals as goal

pub returns : goal.returns
returns g c =
    let reply = λ (b : List ℕ). option_reply c.args.code 3 b in
    tells_more _ _ _ (reply (big_bytes 2 0 ++ export_bytes c.args.sizes)) (reply (big_bytes 2 3 ++ block_bytes c.args.sizes.block) ++ option_reply c.args.code 1 [])
    (retold _ _ reply _ (big_bytes 2 0 ++ export_bytes c.args.sizes) c.export_info.ensures c.in_ok-write_option_reply.ensures)
    (tells_more _ _ _ (reply (big_bytes 2 3 ++ block_bytes c.args.sizes.block)) (option_reply c.args.code 1 [])
    (retold _ _ reply _ (big_bytes 2 3 ++ block_bytes c.args.sizes.block) c.block_info.ensures c.in_ok-write_option_reply-2.ensures)
    c.in_ok-write_option_reply-3.ensures)
