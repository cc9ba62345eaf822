use Rattle.std.proofs.Common.{inl, refl}
use Rattle.journaled.proofs.Rooming.{none_gained, on_err, on_ok, room_made}
use Rattle.journaled.proofs.reserving.make_room.Goals as goal

pub returns-in-Some-clause-made : goal.returns-in-Some-clause-made
returns-in-Some-clause-made g c =
    on_ok c.reserve.result
    (room_made c.args.stack.now c.args.event.now c.args.number (record { request = c.args.number; kind = c.in-Some.asked.kind; extent = c.in-Some.asked.extent; max_transfer = c.args.max_transfer })
    c.args.journal.now c.reserve.new.self refl c.in-Some.ensures.opens c.requires.longest) c.reserve.ensures.admits

pub returns-in-Some-clause-same : goal.returns-in-Some-clause-same
returns-in-Some-clause-same g c = on_err c.reserve.result (none_gained c.args.journal.now c.reserve.new.self) c.reserve.ensures.refused

pub returns-in-None-clause-made : goal.returns-in-None-clause-made
returns-in-None-clause-made g c = inl (c.in-None.ensures.opens, refl)
