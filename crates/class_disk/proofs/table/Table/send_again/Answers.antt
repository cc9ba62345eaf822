use Rattle.class_disk.proofs.Common.{ap, sym, ◌∙◌, subst, Opened, opened_of, SendsAgain}
use Rattle.std.specs.Prelude.{◌<◌, slice_get}
use Rattle.class_disk.proofs.Replacing.{stands_counted, same_counted, books_counted}
use Rattle.class_disk.proofs.table.Table.send_again.Goals as goal

pub take_open-transfer-requires : goal.take_open-transfer-requires
take_open-transfer-requires c = let (o, part, open', there, few, fewer) = c.requires.part in stands_counted c.args.self.now c.take_number-number.new.self c.args.id.slot c.take_number-number.ensures.after o open'

pub send_again-packet-requires-clause-part : goal.send_again-packet-requires-clause-part
send_again-packet-requires-clause-part c =
    let (o, part, open', there, few, fewer) = c.requires.part in
    let same = same_counted c.args.self.now c.take_number-number.new.self c.args.id.slot c.take_number-number.ensures.after c.take_open-transfer.result o c.take_open-transfer.ensures.was open' in
    (part, (ap (λ (x : Opened). slice_get x.parts c.args.id.part) same ∙ there, few))

pub send_again-packet-requires-clause-few : goal.send_again-packet-requires-clause-few
send_again-packet-requires-clause-few c =
    let (o, part, open', there, few, fewer) = c.requires.part in
    let same = same_counted c.args.self.now c.take_number-number.new.self c.args.id.slot c.take_number-number.ensures.after c.take_open-transfer.result o c.take_open-transfer.ensures.was open' in
    subst (λ (x : Opened). x.restarts < 255) (sym same) fewer

pub returns : goal.returns
returns c = λ o part open' there.
    let same = same_counted c.args.self.now c.take_number-number.new.self c.args.id.slot c.take_number-number.ensures.after c.take_open-transfer.result o c.take_open-transfer.ensures.was open' in
    let s = c.send_again-packet.ensures part (ap (λ (x : Opened). slice_get x.parts c.args.id.part) same ∙ there) in
    record {
      o' = opened_of c.send_again-packet.new.self;
      sends = subst (λ n. SendsAgain o c.args.id.part n c.args.packet part c.send_again-packet.result (opened_of c.send_again-packet.new.self)) c.take_number-number.ensures.number
          (subst (λ (x : Opened). SendsAgain x c.args.id.part c.take_number-number.result c.args.packet part c.send_again-packet.result (opened_of c.send_again-packet.new.self)) same s);
      after = books_counted c.args.self.now c.take_number-number.new.self c.args.id.slot c.take_number-number.ensures.after c.take_open-transfer.new.self c.put_open.new.self c.take_open-transfer.result c.send_again-packet.new.self
          c.take_open-transfer.ensures.was c.take_open-transfer.ensures.gone c.put_open.ensures;
    }
