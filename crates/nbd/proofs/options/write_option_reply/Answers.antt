use Rattle.std.proofs.Common.{◌≡◌, ℕ, length, rules}
use Rattle.nbd.specs.Options.{option_header}
use Rattle.nbd.proofs.Streaming.{tells_reply}
use Rattle.nbd.proofs.options.write_option_reply.Goals as goal

pub returns : goal.returns
returns g c =
    let e : c.header.result ≡ option_header c.args.code c.args.kind (length {A = ℕ} c.args.bytes.now) = search rules in
    tells_reply _ _ _ _ (option_header c.args.code c.args.kind (length {A = ℕ} c.args.bytes.now)) _ e c.in_ok-write_all.ensures.bytes c.in_ok-write_all-2.ensures.bytes
