use Rattle.serving.proofs.Common.{Ok, sym, ap, ◌∙◌, Moved, entry_moved}
use Rattle.serving.proofs.Carrying.{has_booked, sent_given}
use Rattle.serving.proofs.moving.book_armed.Goals as goal

pub returns-in-Ok-Sent : goal.returns-in-Ok-Sent
returns-in-Ok-Sent g c =
    has_booked c.args.stack.now c.book-in-Ok-Sent.new.self c.args.disk.now c.transfer.new.self c.args.tag c.in-Some.piece c.in-Some.srb.now
    (entry_moved c.args.tag c.in-Some.piece c.in-Some.srb.now (Ok c.in-Ok-Sent.field-0)) _
    (sent_given c.args.stack.now.adapter c.args.tag c.in-Some.piece c.in-Some.srb.now c.shows_whole.ensures.in_order c.in-Some.ensures
    ∙ ap (λ (m : Moved). entry_moved c.args.tag c.in-Some.piece c.in-Some.srb.now (Ok m)) (sym c.in-Ok-Sent.field-0-is))
    c.in-Some.ensures c.in-Ok-Sent.ensures.transfers c.in-Ok-Sent.ensures.suits c.in-Ok-Sent.ensures.of_piece c.book-in-Ok-Sent.ensures
