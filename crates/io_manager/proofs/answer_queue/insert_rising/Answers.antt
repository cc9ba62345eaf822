-- An answer goes in behind all, or the place is within the queue, and an answer that goes in at the front between two
-- turns stands there.
use Rattle.std.proofs.Common.{◌≡◌, ◌≤◌, ◌+◌, ◌∙◌, ap, arith, length}
use Rattle.io_manager.proofs.Common.{deque_len, lower_first}
use Rattle.io_manager.proofs.Inserting.{lower_first_within, put_last, turned_in}
use Rattle.io_manager.proofs.answer_queue.insert_rising.Goals as goal

pub returns-then-place-len-clause-items : goal.returns-then-place-len-clause-items
returns-then-place-len-clause-items c =
    let counted : c.args.answers.now.len ≡ length c.args.answers.now.items = c.args.answers.now.ok.0 in
    put_last c.args.answer c.args.answers.now.items c.place_of-place.result c.push_back_reserved.new.self.items
    c.place_of-place.ensures (omega (arith, c.if-place-len.true, c.len.ensures, counted)) c.push_back_reserved.ensures.items

pub rotate_left-requires : goal.rotate_left-requires
rotate_left-requires c =
    let within : lower_first c.args.answer.number c.args.answers.now.items ≤ length c.args.answers.now.items = lower_first_within c.args.answer.number c.args.answers.now.items in
    let counted : c.args.answers.now.len ≡ length c.args.answers.now.items = c.args.answers.now.ok.0 in
    omega (arith, c.place_of-place.ensures)

pub rotate_right-requires : goal.rotate_right-requires
rotate_right-requires c =
    let within : lower_first c.args.answer.number c.args.answers.now.items ≤ length c.args.answers.now.items = lower_first_within c.args.answer.number c.args.answers.now.items in
    let counted : c.args.answers.now.len ≡ length c.args.answers.now.items = c.args.answers.now.ok.0 in
    omega (arith, c.place_of-place.ensures, c.rotate_left.ensures.len, c.push_front_reserved.ensures.len)

pub returns-clause-items : goal.returns-clause-items
returns-clause-items c =
    turned_in c.args.answer c.args.answers.now.items c.place_of-place.result c.rotate_left.new.self.items c.push_front_reserved.new.self.items c.rotate_right.new.self.items (deque_len c.push_front_reserved.new.self)
    c.place_of-place.ensures (c.push_front_reserved.ensures.len ∙ ap (λ n. n + 1) (c.rotate_left.ensures.len ∙ c.args.answers.now.ok.0))
    c.rotate_left.ensures.items c.push_front_reserved.ensures.items c.rotate_right.ensures.items
