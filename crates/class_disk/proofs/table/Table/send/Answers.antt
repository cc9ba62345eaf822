use Rattle.class_disk.proofs.Common.{ap, sym, ◌∙◌, subst, slice_get, Sizes, Opened, opened_of, IsReadyAt, SendsAs}
use Rattle.class_disk.proofs.Replacing.{stands_counted, same_counted, sizes_counted, books_counted}
use Rattle.class_disk.proofs.table.Table.send.Goals as goal

pub take_open-transfer-requires : goal.take_open-transfer-requires
take_open-transfer-requires c = let (o, (open', ready)) = c.requires.ready in stands_counted c.args.self.now c.take_number-number.new.self c.args.id.slot c.take_number-number.ensures.after o open'

pub send-packet-requires : goal.send-packet-requires
send-packet-requires c =
    let (o, (open', ready)) = c.requires.ready in
    let same = same_counted c.args.self.now c.take_number-number.new.self c.args.id.slot c.take_number-number.ensures.after c.take_open-transfer.result o c.take_open-transfer.ensures.was open' in
    let sizes = sizes_counted c.args.self.now c.take_number-number.new.self c.args.id.slot c.take_number-number.ensures.after c.take_open-transfer.new.self c.take_open-transfer.ensures.gone in
    subst (λ (s : Sizes). IsReadyAt s (opened_of c.take_open-transfer.result) c.args.id.part) (sym sizes)
    (subst (λ (x : Opened). IsReadyAt c.args.self.now.sizes x c.args.id.part) (sym same) ready)

pub returns : goal.returns
returns c = λ o part place open' there ready.
    let same = same_counted c.args.self.now c.take_number-number.new.self c.args.id.slot c.take_number-number.ensures.after c.take_open-transfer.result o c.take_open-transfer.ensures.was open' in
    let sizes = sizes_counted c.args.self.now c.take_number-number.new.self c.args.id.slot c.take_number-number.ensures.after c.take_open-transfer.new.self c.take_open-transfer.ensures.gone in
    let s = c.send-packet.ensures part place (ap (λ (x : Opened). slice_get x.parts c.args.id.part) same ∙ there) ready in
    record {
      o' = opened_of c.send-packet.new.self;
      sends = subst (λ n. SendsAs c.args.self.now.sizes o c.args.id.part n part place c.send-packet.result (opened_of c.send-packet.new.self)) c.take_number-number.ensures.number
          (subst (λ (z : Sizes). SendsAs z o c.args.id.part c.take_number-number.result part place c.send-packet.result (opened_of c.send-packet.new.self)) sizes
          (subst (λ (x : Opened). SendsAs c.take_open-transfer.new.self.sizes x c.args.id.part c.take_number-number.result part place c.send-packet.result (opened_of c.send-packet.new.self)) same s));
      after = books_counted c.args.self.now c.take_number-number.new.self c.args.id.slot c.take_number-number.ensures.after c.take_open-transfer.new.self c.put_open.new.self c.take_open-transfer.result c.send-packet.new.self
          c.take_open-transfer.ensures.was c.take_open-transfer.ensures.gone c.put_open.ensures;
    }
