-- The part's packet goes down with the payload that came back, under the next number.
use Rattle.class_disk.specs.inside.TableView.{books_of}
use Rattle.class_disk.proofs.PartSending.{is_ready, number_high, few_locations, asks_there, carries_there, own_again, carries_again, sends_again_there}
use Rattle.class_disk.proofs.Extension.send_again.Goals as goal

pub submit-requires-clause-ready : goal.submit-requires-clause-ready
submit-requires-clause-ready g c =
    let (others, o, part, p) = c.requires.can in
    let s = c.send_again-irp.ensures o part p.is_open p.is_there in
    is_ready _ _ c.requires.takes _ (books_of c.args.self.now.table) c.args.packet others part.request p.submit c.send_again-irp.result s.sends.room (own_again _ _ _ _ o part _ _ s)

pub submit-requires-clause-number : goal.submit-requires-clause-number
submit-requires-clause-number g c =
    let (others, o, part, p) = c.requires.can in
    let s = c.send_again-irp.ensures o part p.is_open p.is_there in
    number_high _ _ c.requires.takes _ (books_of c.args.self.now.table) c.args.packet others part.request p.submit c.send_again-irp.result s.sends.room (own_again _ _ _ _ o part _ _ s)

pub submit-requires-clause-own_location : goal.submit-requires-clause-own_location
submit-requires-clause-own_location g c =
    let (others, o, part, p) = c.requires.can in
    let s = c.send_again-irp.ensures o part p.is_open p.is_there in
    asks_there _ _ c.requires.takes _ (books_of c.args.self.now.table) c.args.packet others part.request p.submit c.send_again-irp.result s.sends.room (own_again _ _ _ _ o part _ _ s) s.sends.asks

pub submit-requires-clause-locations : goal.submit-requires-clause-locations
submit-requires-clause-locations g c =
    let (others, o, part, p) = c.requires.can in
    let s = c.send_again-irp.ensures o part p.is_open p.is_there in
    few_locations _ _ c.requires.takes _ (books_of c.args.self.now.table) c.args.packet others part.request p.submit c.send_again-irp.result s.sends.room (own_again _ _ _ _ o part _ _ s)

pub submit-requires-clause-not_cancelled : goal.submit-requires-clause-not_cancelled
submit-requires-clause-not_cancelled g c =
    let (others, o, part, p) = c.requires.can in
    (c.send_again-irp.ensures o part p.is_open p.is_there).sends.own.not_cancelled

pub submit-requires-clause-carries : goal.submit-requires-clause-carries
submit-requires-clause-carries g c =
    let (others, o, part, p) = c.requires.can in
    let s = c.send_again-irp.ensures o part p.is_open p.is_there in
    carries_there _ _ c.requires.takes _ (books_of c.args.self.now.table) c.args.packet others part.request p.submit c.send_again-irp.result s.sends.room (own_again _ _ _ _ o part _ _ s)
    (carries_again _ (books_of c.args.self.now.table) _ _ c.args.packet others o part p c.send_again-irp.result _ s)

pub returns : goal.returns
returns g c = λ o part is_open is_there.
    let (others, o1, part1, p) = c.requires.can in
    sends_again_there _ _ c.requires.takes _ (books_of c.args.self.now.table) c.args.id.slot c.args.id.part c.args.packet others o1 part1 p c.send_again-irp.result _
    (c.send_again-irp.ensures o1 part1 p.is_open p.is_there) o part is_open is_there
    (c.send_again-irp.ensures o part is_open is_there) _ c.submit.ensures.submits c.shows_order.ensures.order
