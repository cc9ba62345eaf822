use Rattle.std.proofs.Common.{◌≡◌, Err, rules}
use Rattle.serving.proofs.Putting.{put_fails, put_so, put_stopped}
use Rattle.serving.proofs.on_disk.put.Goals as goal

pub returns-in_err-write_all-clause-fault : goal.returns-in_err-write_all-clause-fault
returns-in_err-write_all-clause-fault g c =
    let given : c.from_residual.result ≡ Err c.in_err-write_all.field-0.0 = search rules in
    rw given (put_stopped (g.S.Storage.calls c.args.storage.now) (g.S.Storage.calls c.write_all.new.storage) c.args.bytes.now c.in_err-write_all.field-0.0 c.in_err-write_all.ensures)

pub returns-clause-synced : goal.returns-clause-synced
returns-clause-synced g c =
    put_so (g.S.Storage.calls c.args.storage.now) (g.S.Storage.calls c.write_all.new.storage) (g.S.Storage.calls c.sync.new.self) c.args.bytes.now c.sync.result c.in_ok-write_all.ensures c.sync.ensures.noted

pub returns-clause-fault : goal.returns-clause-fault
returns-clause-fault g c =
    put_fails (g.S.Storage.calls c.args.storage.now) (g.S.Storage.calls c.write_all.new.storage) (g.S.Storage.calls c.sync.new.self) c.args.bytes.now c.sync.result c.in_ok-write_all.ensures c.sync.ensures.noted
