-- The layer below is asked for what the part can be sent with.
use Rattle.class_disk.specs.inside.TableView.{books_of}
use Rattle.class_disk.proofs.PartSending.{is_ready, number_high, few_locations, asks_there, carries_there, own_sent, carries_sent, sends_there}
use Rattle.class_disk.proofs.Extension.send_part.Goals as goal

pub submit-requires-clause-ready : goal.submit-requires-clause-ready
submit-requires-clause-ready g c =
    let (others, o, part, place, p) = c.requires.can in
    let s = c.send-irp.ensures o part place p.is_open p.is_there p.is_ready in
    is_ready _ _ c.requires.takes _ (books_of c.args.self.now.table) place.packet others part.request p.submit c.send-irp.result s.sends.room (own_sent _ _ _ o part place _ _ s)

pub submit-requires-clause-number : goal.submit-requires-clause-number
submit-requires-clause-number g c =
    let (others, o, part, place, p) = c.requires.can in
    let s = c.send-irp.ensures o part place p.is_open p.is_there p.is_ready in
    number_high _ _ c.requires.takes _ (books_of c.args.self.now.table) place.packet others part.request p.submit c.send-irp.result s.sends.room (own_sent _ _ _ o part place _ _ s)

pub submit-requires-clause-own_location : goal.submit-requires-clause-own_location
submit-requires-clause-own_location g c =
    let (others, o, part, place, p) = c.requires.can in
    let s = c.send-irp.ensures o part place p.is_open p.is_there p.is_ready in
    asks_there _ _ c.requires.takes _ (books_of c.args.self.now.table) place.packet others part.request p.submit c.send-irp.result s.sends.room (own_sent _ _ _ o part place _ _ s) s.sends.asks

pub submit-requires-clause-locations : goal.submit-requires-clause-locations
submit-requires-clause-locations g c =
    let (others, o, part, place, p) = c.requires.can in
    let s = c.send-irp.ensures o part place p.is_open p.is_there p.is_ready in
    few_locations _ _ c.requires.takes _ (books_of c.args.self.now.table) place.packet others part.request p.submit c.send-irp.result s.sends.room (own_sent _ _ _ o part place _ _ s)

pub submit-requires-clause-not_cancelled : goal.submit-requires-clause-not_cancelled
submit-requires-clause-not_cancelled g c =
    let (others, o, part, place, p) = c.requires.can in
    (c.send-irp.ensures o part place p.is_open p.is_there p.is_ready).sends.own.not_cancelled

pub submit-requires-clause-carries : goal.submit-requires-clause-carries
submit-requires-clause-carries g c =
    let (others, o, part, place, p) = c.requires.can in
    let s = c.send-irp.ensures o part place p.is_open p.is_there p.is_ready in
    carries_there _ _ c.requires.takes _ (books_of c.args.self.now.table) place.packet others part.request p.submit c.send-irp.result s.sends.room (own_sent _ _ _ o part place _ _ s)
    (carries_sent _ (books_of c.args.self.now.table) _ _ others o part place p c.send-irp.result _ s)

pub returns : goal.returns
returns g c = λ o part place is_open is_there is_ready.
    let (others, o1, part1, place1, p) = c.requires.can in
    sends_there _ _ c.requires.takes _ (books_of c.args.self.now.table) c.args.id.slot c.args.id.part others o1 part1 place1 p c.send-irp.result _
    (c.send-irp.ensures o1 part1 place1 p.is_open p.is_there p.is_ready) o part place is_open is_there
    (c.send-irp.ensures o part place is_open is_there is_ready) _ c.submit.ensures.submits c.shows_order.ensures.order
