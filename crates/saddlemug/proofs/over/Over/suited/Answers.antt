use Rattle.saddlemug.proofs.Booked.{not_told, suited_at, unsuited_at}
use Rattle.saddlemug.proofs.over.Over.suited.Goals as goal

pub returns-in_default-clause-why : goal.returns-in_default-clause-why
returns-in_default-clause-why c = not_told c.self.inside.stack c.self.inside.places.items c.args.self.now c.self.view_is c.args.booking.now c.piece.result c.piece.ensures c.in_default.ensures

pub returns-in-Some-asked_of-clause-suited : goal.returns-in-Some-asked_of-clause-suited
returns-in-Some-asked_of-clause-suited c = suited_at c.self.inside.stack c.self.inside.places.items c.args.self.now c.self.view_is c.args.booking.now c.piece.result c.piece.ensures
    c.in-Some.srb.now c.in-Some.place.now c.in-Some.ensures c.self.inside.disk c.self.invariant c.shows_whole.ensures.whole c.in-Some-asked_of.asked c.in-Some-asked_of.ensures

pub returns-in-None-clause-why : goal.returns-in-None-clause-why
returns-in-None-clause-why c = unsuited_at c.self.inside.stack c.self.inside.places.items c.args.self.now c.self.view_is c.args.booking.now c.piece.result c.piece.ensures
    c.in-Some.srb.now c.in-Some.place.now c.in-Some.ensures c.self.inside.disk c.self.invariant c.shows_whole.ensures.whole c.requires.moved c.in-None.ensures
