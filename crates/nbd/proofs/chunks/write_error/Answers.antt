use Rattle.nbd.specs.Chunks.{chunk}
use Rattle.nbd.proofs.Telling.{retold_by}
use Rattle.nbd.proofs.chunks.write_error.Goals as goal

pub returns : goal.returns
returns g c = retold_by _ _ _ (chunk 0x8001 c.args.cookie) _ _ c.error_bytes.ensures c.write_chunk.ensures
