use Rattle.traced.proofs.Common.{◌≤◌, ◌∙◌, length, sym, subst, IsFalse, IsTrue, Rules, LogView}
use Rattle.traced.proofs.Arming.{nowhere_joined}
use Rattle.traced.proofs.Booking.{may_note, open_given, sound_after, is_carried, no_call_noted, owners_more}
use Rattle.traced.proofs.Telling.{Laws}
use Rattle.traced.proofs.traced.carry.Goals as goal

pub serve_right-reply-requires-clause-on_grid : goal.serve_right-reply-requires-clause-on_grid
serve_right-reply-requires-clause-on_grid g c = subst (λ (r : Rules). IsFalse r.any_cut) (sym c.requires.sound.same_rules) c.requires.sound.on_grid

pub serve_right-reply-requires-clause-given : goal.serve_right-reply-requires-clause-given
serve_right-reply-requires-clause-given g c = open_given _ _ _ _ _ _ _ c.requires.sound c.shows_armed.ensures

pub note_all-requires-clause-may : goal.note_all-requires-clause-may
note_all-requires-clause-may g c =
    let l = c.laws_of_numbers.ensures in
    let laws : Laws = record { rise = l.rise; count = l.count; await = l.waiting } in
    may_note laws _ _ _ _ _ _ _ _ _ _ _ _ c.requires.sound c.requires.client c.serve_right-reply.ensures.serves

pub note_all-requires-clause-bytes : goal.note_all-requires-clause-bytes
note_all-requires-clause-bytes g c =
    subst (λ (r : Rules). IsTrue r.keeps_bytes) (sym (c.serve_right-reply.ensures.serves.same_rules ∙ c.requires.sound.same_rules)) c.requires.sound.keeps_bytes

pub returns-clause-sound : goal.returns-clause-sound
returns-clause-sound g c =
    let l = c.laws_of_numbers.ensures in
    let laws : Laws = record { rise = l.rise; count = l.count; await = l.waiting } in
    let a = c.arm_if_opened.ensures in
    let n = c.note_all.ensures in
    sound_after laws _ _ _ _ _ _ _ _ _ _ _ _ c.requires.sound c.requires.client c.serve_right-reply.ensures.serves _ _ c.arm_if_opened.new.slots c.note_all.new.slots n.stack n.log a.numbers n.numbers a.below n.below
    c.requires.no_handle c.requires.room

pub returns-clause-carried : goal.returns-clause-carried
returns-clause-carried g c =
    let l = c.laws_of_numbers.ensures in
    let laws : Laws = record { rise = l.rise; count = l.count; await = l.waiting } in
    let a = c.arm_if_opened.ensures in
    let n = c.note_all.ensures in
    is_carried laws _ _ _ _ _ _ _ _ _ _ _ _ c.requires.sound c.requires.client c.serve_right-reply.ensures.serves _ _ c.arm_if_opened.new.slots c.note_all.new.slots n.stack n.log a.numbers n.numbers a.below n.below
    c.serve_right-reply.ensures.right (nowhere_joined _ _ _ a.looks n.looks)

pub returns-clause-no_call : goal.returns-clause-no_call
returns-clause-no_call g c = no_call_noted _ _ _ _ _ c.serve_right-reply.ensures.serves.calls c.note_all.ensures.log

pub returns-clause-more : goal.returns-clause-more
returns-clause-more g c =
    subst (λ (p : LogView). length c.args.log.now.owners ≤ length p.owners) (sym c.note_all.ensures.log) (owners_more c.args.asked.client c.args.log.now c.serve_right-reply.new.stack.labels)
