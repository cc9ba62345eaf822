use Rattle.journaled.proofs.Common.{ℕ, sym, ap, ◌∙◌, next_behind, Act}
use Rattle.journaled.proofs.Numbering.{step_counts}
use Rattle.journaled.proofs.Rooming.{act_below, act_room, booked_next}
use Rattle.journaled.proofs.Telling.{act_right, act_stands, act_told}
use Rattle.journaled.proofs.acting.act.Goals as goal

pub returns-clause-right : goal.returns-clause-right
returns-clause-right g c =
    act_right c.laws_of_entries.ensures.idle c.laws_of_entries.ensures.booked c.laws_of_entries.ensures.armed c.laws_of_entries.ensures.apart c.args.stack.now c.book_armed.new.stack c.step.new.self
    c.args.journal.now c.book_armed.new.journal c.args.tag c.step.result c.requires.stands c.shows_whole.ensures.whole c.shows_whole-2.ensures.in_order c.shows_whole-2.ensures.whole
    c.shows_whole-2.ensures.reached c.step.ensures.right c.book_armed.ensures

pub returns-clause-stands : goal.returns-clause-stands
returns-clause-stands g c =
    act_stands c.laws_of_entries.ensures.idle c.laws_of_entries.ensures.booked c.laws_of_entries.ensures.armed c.laws_of_entries.ensures.apart c.args.stack.now c.book_armed.new.stack c.step.new.self
    c.args.journal.now c.book_armed.new.journal c.args.tag c.step.result c.requires.stands c.shows_whole.ensures.whole c.shows_whole-2.ensures.in_order c.shows_whole-2.ensures.whole
    c.shows_whole-2.ensures.reached c.step.ensures.right c.book_armed.ensures

pub returns-clause-told : goal.returns-clause-told
returns-clause-told g c =
    act_told c.laws_of_entries.ensures.idle c.laws_of_entries.ensures.booked c.laws_of_entries.ensures.armed c.laws_of_entries.ensures.apart c.args.stack.now c.book_armed.new.stack c.step.new.self
    c.args.journal.now c.book_armed.new.journal c.args.tag c.step.result c.requires.stands c.shows_whole.ensures.whole c.shows_whole-2.ensures.in_order c.shows_whole-2.ensures.whole
    c.shows_whole-2.ensures.reached c.step.ensures.right c.book_armed.ensures

pub returns-clause-room : goal.returns-clause-room
returns-clause-room g c =
    act_room c.args.stack.now c.book_armed.new.stack c.step.new.self c.args.journal.now c.book_armed.new.journal c.args.tag c.book_armed.ensures c.step.result c.step.ensures.right

pub returns-clause-before : goal.returns-clause-before
returns-clause-before g c =
    act_below c.args.stack.now c.book_armed.new.stack c.step.new.self c.args.journal.now c.book_armed.new.journal c.args.tag c.book_armed.ensures c.laws_of_numbers.ensures.count c.step.result c.step.ensures.right
    c.requires.before

pub returns-clause-counts : goal.returns-clause-counts
returns-clause-counts g c =
    ap (λ (n : ℕ). next_behind n c.step.new.self.labels) (sym (booked_next c.args.stack.now c.args.journal.now c.args.tag c.book_armed.new.stack c.book_armed.new.journal c.book_armed.ensures))
    ∙ step_counts c.laws_of_numbers.ensures.rise c.laws_of_numbers.ensures.count c.laws_of_numbers.ensures.once c.book_armed.new.stack (Act c.args.tag) c.step.result c.step.new.self c.step.ensures.right
