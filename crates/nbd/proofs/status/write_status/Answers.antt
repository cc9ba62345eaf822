use Rattle.nbd.specs.Chunks.{content_chunk}
use Rattle.nbd.proofs.Telling.{retold_by}
use Rattle.nbd.proofs.status.write_status.Goals as goal

pub returns-in-Ok : goal.returns-in-Ok
returns-in-Ok g c = rw c.in-Ok.is (retold_by _ _ _ (content_chunk c.args.request) _ _ c.run_bytes.ensures c.write_content.ensures)
