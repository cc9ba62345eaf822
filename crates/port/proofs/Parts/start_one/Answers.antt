use Rattle.port.specs.inside.TableView.{books_of}
use Rattle.port.proofs.Starting.{started_one, releases_none, releases_same, in_use_lower, packed, accepts_front, label_room}
use Rattle.port.proofs.Parts.start_one.Goals as goal

pub returns-then-in_use-clause-releases : goal.returns-then-in_use-clause-releases
returns-then-in_use-clause-releases g c = releases_none _ _

pub returns-then-in_use-clause-lower : goal.returns-then-in_use-clause-lower
returns-then-in_use-clause-lower g c = in_use_lower (books_of c.args.self.now.queues) (g.A.Adapter.view c.args.self.now.adapter) _ c.requires.lower c.if-in_use.ensures.exact

pub start-requires-clause-packed : goal.start-requires-clause-packed
start-requires-clause-packed g c = packed _ _ _ c.requires.kept.1

pub accept-requires-clause-writable : goal.accept-requires-clause-writable
accept-requires-clause-writable g c = (accepts_front _ _ _ _ _ _ _ c.requires.kept.1 c.in-Some.ensures).0

pub accept-requires-clause-buffers : goal.accept-requires-clause-buffers
accept-requires-clause-buffers g c = (accepts_front _ _ _ _ _ _ _ c.requires.kept.1 c.in-Some.ensures).1

pub accept-requires-clause-place : goal.accept-requires-clause-place
accept-requires-clause-place g c = label_room _ _ _ _ c.requires.kept.1 c.if-in_use.ensures.exact c.requires.tag

pub returns-in-Some-clause-rooms : goal.returns-in-Some-clause-rooms
returns-in-Some-clause-rooms g c = (started_one _ _ _ _ _ _ _ _ c.requires.kept.1 c.requires.lower c.in-Some.ensures c.accept.ensures.accepts c.accept.ensures.order).kept

pub returns-in-Some-clause-releases : goal.returns-in-Some-clause-releases
returns-in-Some-clause-releases g c = (started_one _ _ _ _ _ _ _ _ c.requires.kept.1 c.requires.lower c.in-Some.ensures c.accept.ensures.accepts c.accept.ensures.order).releases

pub returns-in-Some-clause-lower : goal.returns-in-Some-clause-lower
returns-in-Some-clause-lower g c = (started_one _ _ _ _ _ _ _ _ c.requires.kept.1 c.requires.lower c.in-Some.ensures c.accept.ensures.accepts c.accept.ensures.order).lower

pub returns-in_default-clause-releases : goal.returns-in_default-clause-releases
returns-in_default-clause-releases g c = releases_same _ _ _ c.in_default.ensures
