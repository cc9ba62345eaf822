use Rattle.serving.proofs.Common.{Ok, Err, true, false, refl, sym, ap, ◌∙◌, Moved, entry_moved}
use Rattle.serving.proofs.Carrying.{sent_given}
use Rattle.serving.proofs.Booking.{books_so}
use Rattle.serving.proofs.elsewhere.book_here.Goals as goal

pub returns-in-Ok-Sent : goal.returns-in-Ok-Sent
returns-in-Ok-Sent g c =
    books_so c.args.stack.now c.book-in-Ok-Sent.new.self c.args.disk.now c.transfer.new.self c.args.tag c.in-Some.piece c.in-Some.srb.now
    (entry_moved c.args.tag c.in-Some.piece c.in-Some.srb.now (Ok c.in-Ok-Sent.field-0)) _ false
    (sent_given c.args.stack.now.adapter c.args.tag c.in-Some.piece c.in-Some.srb.now c.shows_whole.ensures.in_order c.in-Some.ensures
    ∙ ap (λ (m : Moved). entry_moved c.args.tag c.in-Some.piece c.in-Some.srb.now (Ok m)) (sym c.in-Ok-Sent.field-0-is))
    c.in-Some.ensures c.in-Ok-Sent.ensures.transfers c.in-Ok-Sent.ensures.suits c.in-Ok-Sent.ensures.of_piece c.book-in-Ok-Sent.ensures (λ h. absurd (cc (h)))

pub returns-in-Err : goal.returns-in-Err
returns-in-Err g c =
    books_so c.args.stack.now c.book-in-Err.new.self c.args.disk.now c.transfer.new.self c.args.tag c.in-Some.piece c.in-Some.srb.now
    (Err c.in-Err.completion) (Err c.in-Err.completion) true refl
    c.in-Some.ensures c.in-Err.ensures.transfers c.in-Err.ensures.suits c.in-Err.ensures.of_piece c.book-in-Err.ensures (λ h. (c.in-Err.completion, refl))
