use Rattle.class_disk.proofs.Common.{◌≡◌, ◌-◌, ◌==◌, true, false, sym, ◌∙◌, ap, subst, slice_get_within, Opened, opened_of, books_of, ended_at}
use Rattle.std.specs.Prelude.{◌<◌, slice_get}
use Rattle.class_disk.proofs.Replacing.{stands_there, stands_as, replaces, books_replaced, ends_more, ends_last}
use Rattle.class_disk.proofs.table.Table.end.Goals as goal

pub take_open-transfer-requires : goal.take_open-transfer-requires
take_open-transfer-requires c = let (o, part, open', there, few) = c.requires.part in stands_there c.args.self.now c.args.id.slot o open'

pub end-last-requires-clause-part : goal.end-last-requires-clause-part
end-last-requires-clause-part c =
    let (o, part, open', there, few) = c.requires.part in
    let same : opened_of c.take_open-transfer.result ≡ o = stands_as c.args.self.now c.args.id.slot c.take_open-transfer.result o c.take_open-transfer.ensures.was open' in
    slice_get_within c.take_open-transfer.result.parts.items c.args.id.part part (ap (λ (x : Opened). slice_get x.parts c.args.id.part) same ∙ there)

pub end-last-requires-clause-unfinished : goal.end-last-requires-clause-unfinished
end-last-requires-clause-unfinished c =
    let (o, part, open', there, few) = c.requires.part in
    let same : opened_of c.take_open-transfer.result ≡ o = stands_as c.args.self.now c.args.id.slot c.take_open-transfer.result o c.take_open-transfer.ensures.was open' in
    subst (λ (x : Opened). 0 < x.unfinished) (sym same) few

pub returns-then-last : goal.returns-then-last
returns-then-last c = λ o part open' there.
    let same : opened_of c.take_open-transfer.result ≡ o = stands_as c.args.self.now c.args.id.slot c.take_open-transfer.result o c.take_open-transfer.ensures.was open' in
    let ends : opened_of c.end-last.new.self ≡ ended_at c.args.id.part c.args.ended part o =
    c.end-last.ensures.ends part (ap (λ (x : Opened). slice_get x.parts c.args.id.part) same ∙ there) ∙ ap (ended_at c.args.id.part c.args.ended part) same in
    let last : (o.unfinished - 1 == 0) ≡ true = ap (λ (x : Opened). x.unfinished - 1 == 0) (sym same) ∙ sym c.end-last.ensures.last ∙ c.if-last.true in
    ends_last (books_of c.args.self.now) (books_of c.put_open.new.self) c.args.id.slot (ended_at c.args.id.part c.args.ended part o) _ _ last
    (books_replaced c.args.self.now c.put_open.new.self c.args.id.slot c.end-last.new.self (ended_at c.args.id.part c.args.ended part o) ends
    (replaces c.args.self.now c.take_open-transfer.new.self c.put_open.new.self c.args.id.slot c.take_open-transfer.result c.end-last.new.self c.take_open-transfer.ensures.was c.take_open-transfer.ensures.gone c.put_open.ensures))
    c.push_back_reserved.ensures.items c.push_back_reserved.ensures.capacity

pub returns-else-last : goal.returns-else-last
returns-else-last c = λ o part open' there.
    let same : opened_of c.take_open-transfer.result ≡ o = stands_as c.args.self.now c.args.id.slot c.take_open-transfer.result o c.take_open-transfer.ensures.was open' in
    let ends : opened_of c.end-last.new.self ≡ ended_at c.args.id.part c.args.ended part o =
    c.end-last.ensures.ends part (ap (λ (x : Opened). slice_get x.parts c.args.id.part) same ∙ there) ∙ ap (ended_at c.args.id.part c.args.ended part) same in
    let last : (o.unfinished - 1 == 0) ≡ false = ap (λ (x : Opened). x.unfinished - 1 == 0) (sym same) ∙ sym c.end-last.ensures.last ∙ c.if-last.false in
    ends_more (books_of c.args.self.now) (books_of c.put_open.new.self) c.args.id.slot (ended_at c.args.id.part c.args.ended part o) last
    (books_replaced c.args.self.now c.put_open.new.self c.args.id.slot c.end-last.new.self (ended_at c.args.id.part c.args.ended part o) ends
    (replaces c.args.self.now c.take_open-transfer.new.self c.put_open.new.self c.args.id.slot c.take_open-transfer.result c.end-last.new.self c.take_open-transfer.ensures.was c.take_open-transfer.ensures.gone c.put_open.ensures))
