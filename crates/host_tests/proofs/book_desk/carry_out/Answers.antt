use Rattle.std.proofs.Common.{◌<◌, length, refl, arith}
use Rattle.std.proofs.lemmas.Option.{slice_get_read}
use Rattle.host_tests.proofs.book_desk.carry_out.Goals as goal

pub new-first-requires-clause-handle : goal.new-first-requires-clause-handle
new-first-requires-clause-handle g c =
    let count = c.requires.handles.count in
    let within : 0 < length c.args.ready.handles.items = omega arith in
    c.requires.handles.number 0 c.index.result.now (slice_get_read c.args.ready.handles.items (length c.args.ready.handles.items) 0 c.index.result.now refl within c.index.ensures)

pub new-second-requires-clause-handle : goal.new-second-requires-clause-handle
new-second-requires-clause-handle g c =
    let count = c.requires.handles.count in
    let within : 1 < length c.args.ready.handles.items = omega arith in
    c.requires.handles.number 1 c.index-2.result.now (slice_get_read c.args.ready.handles.items (length c.args.ready.handles.items) 1 c.index-2.result.now refl within c.index-2.ensures)
