use Rattle.class_disk.proofs.Common.{◌≡◌, sym, subst, refl, IsPlain, Means, disk_command}
use Rattle.class_disk.proofs.AsksWhole.{asks_for}
use Rattle.class_disk.proofs.blocks.srb_for.Goals as goal

pub returns-clause-asks : goal.returns-clause-asks
returns-clause-asks c = λ rules whole data_length label_length.
    let block : c.new.result ≡ c.encode.result.items = c.new.ensures in
    let means : Means c.new.result (disk_command c.args.disk_sectors c.args.request.now c.args.request.now.kind) = subst (λ b. Means b (disk_command c.args.disk_sectors c.args.request.now c.args.request.now.kind)) (sym block) (subst (λ k. Means c.encode.result.items k) c.command_of.ensures c.encode.ensures.meaning) in
    let plain : IsPlain c.new.result (disk_command c.args.disk_sectors c.args.request.now c.args.request.now.kind) = subst (λ b. IsPlain b (disk_command c.args.disk_sectors c.args.request.now c.args.request.now.kind)) (sym block) (subst (λ k. IsPlain c.encode.result.items k) c.command_of.ensures c.encode.ensures.plain) in
    asks_for c.args.disk_sectors rules c.args.request.now _ whole c.requires.volume refl c.direction.ensures means plain refl data_length label_length
