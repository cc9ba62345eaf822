use Rattle.std.proofs.Common.{refl}
use Rattle.nbd.proofs.Telling.{data_told}
use Rattle.nbd.proofs.chunks.write_data.Goals as goal

pub returns : goal.returns
returns g c = data_told _ _ _ _ _ _ _ _ c.data_header.ensures refl c.in_ok-write_all.ensures.bytes c.in_ok-write_all-2.ensures.bytes
