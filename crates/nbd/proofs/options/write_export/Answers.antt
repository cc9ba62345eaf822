use Rattle.std.proofs.Common.{◌≡◌, false, rules}
use Rattle.nbd.specs.Options.{export_bytes}
use Rattle.nbd.proofs.Streaming.{tells_reply}
use Rattle.nbd.proofs.options.write_export.Goals as goal

pub returns-in_ok-write_all-2 : goal.returns-in_ok-write_all-2
returns-in_ok-write_all-2 g c =
    let e : c.args.no_zeroes ≡ false = search rules in
    rw e (tells_reply _ _ _ _ (export_bytes c.args.sizes) _ c.export.ensures c.in_ok-write_all.ensures.bytes c.in_ok-write_all-2.ensures.bytes)
