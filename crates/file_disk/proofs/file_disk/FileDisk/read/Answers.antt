use Rattle.std.proofs.Common.{rules, ◌≡◌, ◌∙◌, List, Err, length, ap, subst}
use Rattle.file_disk.specs.Calls.{Call, ReadsAll, Since, StopsReading}
use Rattle.file_disk.specs.Transfers.{DiskView}
use Rattle.file_disk.proofs.Doing.{lacked}
use Rattle.file_disk.proofs.Rooming.{room_read, room_unread}
use Rattle.file_disk.proofs.file_disk.FileDisk.read.Goals as goal

pub returns-in_err-room-clause-reads : goal.returns-in_err-room-clause-reads
returns-in_err-room-clause-reads g c =
    let given : c.from_residual.result ≡ Err c.in_err-room.field-0.0 = search rules in
    rw (given, c.take_room.ensures.same) (lacked c.args.self.now.calls c.args.offset c.args.count c.in_err-room.field-0.0 c.in_err-room.ensures.room)

pub returns-in-Ok-clause-room : goal.returns-in-Ok-clause-room
returns-in-Ok-clause-room g c =
    let same = c.self.view_is ∙ c.take_room.ensures.same in
    room_read c.args.self.now.calls (g.S.Storage.calls c.read_all.new.storage) c.args.self.now.full c.self.inside.full c.args.offset c.read_all.new.buffer (ap (λ (d : DiskView). d.full) same)
    (subst (λ (calls : List Call). Since calls (g.S.Storage.calls c.read_all.new.storage) (ReadsAll c.args.offset c.read_all.new.buffer)) (ap (λ (d : DiskView). d.calls) same) c.in-Ok.ensures)

pub returns-in-Err-clause-room : goal.returns-in-Err-clause-room
returns-in-Err-clause-room g c =
    let same = c.self.view_is ∙ c.take_room.ensures.same in
    let count = length c.as_mut_slice.result.now in
    room_unread c.args.self.now.calls (g.S.Storage.calls c.read_all.new.storage) c.args.self.now.full c.self.inside.full c.args.offset count c.in-Err.field-0 (ap (λ (d : DiskView). d.full) same)
    (subst (λ (calls : List Call). Since calls (g.S.Storage.calls c.read_all.new.storage) (StopsReading c.args.offset count c.in-Err.field-0)) (ap (λ (d : DiskView). d.calls) same) c.in-Err.ensures)
