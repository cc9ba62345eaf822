use Rattle.journaled.proofs.Common.{◌≡◌, ℕ, List, true, false, sym, ap, subst, ◌∙◌, All, is_err, Label, Reply, Reservation, HoldsRoom, MakesRoom, IsBelow, next_behind, over}
use Rattle.journaled.proofs.Numbering.{step_counts}
use Rattle.journaled.proofs.Rooming.{room_below, room_held, where_err, where_ok}
use Rattle.journaled.proofs.Telling.{keeps_on, others_follow, others_served}
use Rattle.journaled.proofs.reserving.carry.Goals as goal

pub returns-clause-right : goal.returns-clause-right
returns-clause-right g c =
    others_served c.args.stack.now c.step-reply.new.self c.args.journal.now c.give_back.new.journal c.step-reply.result
    (keeps_on c.args.journal.now c.make_room.new.journal c.give_back.new.journal c.make_room.ensures.keeps c.give_back.ensures.keeps) c.args.event c.requires.no_act c.step-reply.ensures.right

pub returns-clause-told : goal.returns-clause-told
returns-clause-told g c =
    (others_follow c.laws_of_entries.ensures.kept c.laws_of_entries.ensures.apart c.args.stack.now c.step-reply.new.self c.args.journal.now c.give_back.new.journal c.args.event c.step-reply.result
    c.requires.no_act (keeps_on c.args.journal.now c.make_room.new.journal c.give_back.new.journal c.make_room.ensures.keeps c.give_back.ensures.keeps) c.requires.stands c.step-reply.ensures.right).told

pub returns-clause-stands : goal.returns-clause-stands
returns-clause-stands g c =
    (others_follow c.laws_of_entries.ensures.kept c.laws_of_entries.ensures.apart c.args.stack.now c.step-reply.new.self c.args.journal.now c.give_back.new.journal c.args.event c.step-reply.result
    c.requires.no_act (keeps_on c.args.journal.now c.make_room.new.journal c.give_back.new.journal c.make_room.ensures.keeps c.give_back.ensures.keeps) c.requires.stands c.step-reply.ensures.right).stands

pub returns-clause-room : goal.returns-clause-room
returns-clause-room g c =
    let passed : is_err c.make_room.result ≡ false = sym c.is_err.ensures.value ∙ c.if-is_err.false in
    room_held c.laws_of_numbers.ensures.told c.laws_of_numbers.ensures.count c.laws_of_numbers.ensures.once c.args.stack.now c.step-reply.new.self c.args.journal.now c.make_room.new.journal c.give_back.new.journal
    c.args.event c.args.number c.requires.next c.requires.before
    (where_ok c.make_room.result (MakesRoom c.args.stack.now c.args.event c.args.number c.args.journal.now c.make_room.new.journal) passed c.make_room.ensures.made)
    c.step-reply.result c.step-reply.ensures.right c.give_back.ensures.room

pub returns-clause-counts : goal.returns-clause-counts
returns-clause-counts g c =
    ap (λ (n : ℕ). next_behind n c.step-reply.new.self.labels) c.requires.next
    ∙ step_counts c.laws_of_numbers.ensures.rise c.laws_of_numbers.ensures.count c.laws_of_numbers.ensures.once c.args.stack.now c.args.event c.step-reply.result c.step-reply.new.self c.step-reply.ensures.right

pub returns-clause-before : goal.returns-clause-before
returns-clause-before g c =
    room_below c.laws_of_numbers.ensures.count c.laws_of_numbers.ensures.once c.args.stack.now c.step-reply.new.self c.args.journal.now c.give_back.new.journal c.args.event
    (subst (λ (n : ℕ). All (IsBelow n) c.args.journal.now.reservations) c.requires.next c.requires.before) c.step-reply.result c.step-reply.ensures.right (returns-clause-room g c)

-- REFUSED FOR WANT OF MEMORY

pub returns-then-is_err-clause-room : goal.returns-then-is_err-clause-room
returns-then-is_err-clause-room g c =
    let failed : is_err c.make_room.result ≡ true = sym c.is_err.ensures.value ∙ c.if-is_err.true in
    subst (λ (reply : Reply). HoldsRoom (over c.args.stack.now c.args.journal.now) c.args.event reply (over c.args.stack.now c.make_room.new.journal)) (sym c.refused.ensures)
    (where_err c.make_room.result (c.make_room.new.journal.reservations ≡ c.args.journal.now.reservations) failed c.make_room.ensures.same)

pub returns-then-is_err-clause-counts : goal.returns-then-is_err-clause-counts
returns-then-is_err-clause-counts g c = ap (λ (ls : List Label). next_behind c.args.number ls) c.requires.taken ∙ c.requires.next

pub returns-then-is_err-clause-before : goal.returns-then-is_err-clause-before
returns-then-is_err-clause-before g c =
    let failed : is_err c.make_room.result ≡ true = sym c.is_err.ensures.value ∙ c.if-is_err.true in
    subst (λ (rs : List Reservation). All (IsBelow c.args.stack.now.state.next_request) rs) (sym (where_err c.make_room.result (c.make_room.new.journal.reservations ≡ c.args.journal.now.reservations) failed c.make_room.ensures.same))
    (subst (λ (n : ℕ). All (IsBelow n) c.args.journal.now.reservations) c.requires.next c.requires.before)
