use Rattle.std.proofs.Common.{◌≡◌, ℕ, length, rules}
use Rattle.nbd.specs.Chunks.{chunk_header}
use Rattle.nbd.proofs.Streaming.{tells_reply}
use Rattle.nbd.proofs.chunks.write_chunk.Goals as goal

pub returns : goal.returns
returns g c =
    let e : c.chunk_header.result ≡ chunk_header c.args.kind c.args.cookie (length {A = ℕ} c.args.bytes.now) = search rules in
    tells_reply _ _ _ _ (chunk_header c.args.kind c.args.cookie (length {A = ℕ} c.args.bytes.now)) _ e c.in_ok-write_all.ensures.bytes c.in_ok-write_all-2.ensures.bytes
