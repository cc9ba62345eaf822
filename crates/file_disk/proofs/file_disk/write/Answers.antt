use Rattle.std.proofs.Common.{refl}
use Rattle.file_disk.proofs.Doing.{write_synced}
use Rattle.file_disk.proofs.Rooming.{room_refused, room_written, room_written_through}
use Rattle.file_disk.proofs.file_disk.write.Goals as goal

pub returns-in-Ok-clause-writes : goal.returns-in-Ok-clause-writes
returns-in-Ok-clause-writes g c = write_synced _ _ _ _ _ c.in-Ok.ensures c.args.through c.flush.result c.if-through.true c.flush.ensures

pub returns-in-Ok-clause-room : goal.returns-in-Ok-clause-room
returns-in-Ok-clause-room g c = room_written_through _ _ _ _ _ c.args.offset c.args.bytes.now c.flush.result refl c.in-Ok.ensures c.flush.ensures

pub returns-in-Ok-2-clause-room : goal.returns-in-Ok-2-clause-room
returns-in-Ok-2-clause-room g c = room_written _ _ _ _ c.args.offset c.args.bytes.now refl c.in-Ok-2.ensures

pub returns-in-Err-clause-room : goal.returns-in-Err-clause-room
returns-in-Err-clause-room g c = room_refused _ _ _ _ c.args.offset c.args.bytes.now c.in-Err.why c.full_behind.ensures c.in-Err.ensures
