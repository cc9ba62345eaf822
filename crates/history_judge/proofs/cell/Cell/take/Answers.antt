use Rattle.std.proofs.Common.{[], refl, subst}
use Rattle.register.specs.Values.{code}
use Rattle.history.specs.Waits.{step}
use Rattle.history_fitting.specs.Services.{rules_of}
use Rattle.history_judge.specs.inside.Cells.{IsCell}
use Rattle.history_judge.proofs.Celling.{cell_noted}
use Rattle.history_judge.proofs.Filling.{label_step}
use Rattle.history_judge.proofs.cell.Cell.take.Goals as goal

pub returns-then-may_begin : goal.returns-then-may_begin
returns-then-may_begin c = λ waits h told.
    let rules = rules_of c.args.basis.now.service in
    let any = c.args.basis.now.start.any in
    let start = c.args.basis.now.start.bytes in
    let place = c.args.place in
    let label = c.args.told.label.now in
    let after : IsCell any start (step code rules place.partition place.sector waits label) c.take_label.new.self =
    subst (λ ws. IsCell any start ws c.take_label.new.self) (label_step rules place.partition place.sector [] waits waits refl c.args.told.kind label told) (c.in_ok-take_label.ensures any start waits (cell_noted any start waits c.args.self.now c.note.new.self h)) in
    c.begin.ensures (step code rules place.partition place.sector waits label) after

pub returns : goal.returns
returns c = λ waits h told.
    let rules = rules_of c.args.basis.now.service in
    subst (λ ws. IsCell c.args.basis.now.start.any c.args.basis.now.start.bytes ws c.take_label.new.self) (label_step rules c.args.place.partition c.args.place.sector [] waits waits refl c.args.told.kind c.args.told.label.now told)
    (c.in_ok-take_label.ensures c.args.basis.now.start.any c.args.basis.now.start.bytes waits
    (cell_noted c.args.basis.now.start.any c.args.basis.now.start.bytes waits c.args.self.now c.note.new.self h))
