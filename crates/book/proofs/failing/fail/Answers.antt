use Rattle.book.proofs.Failures.{failed_keeps, holds_failure}
use Rattle.book.proofs.failing.fail.Goals as goal

pub returns-clause-serves : goal.returns-clause-serves
returns-clause-serves g c = (c.book_failure.new.traced, holds_failure c.args.traced.now c.book_failure.new.traced c.args.tag c.args.completion c.book_failure.ensures, c.serve.ensures.served)

pub returns-clause-kept : goal.returns-clause-kept
returns-clause-kept g c =
    let l = c.laws_of_entries.ensures in
    let s = c.shows_stack-2.ensures in
    failed_keeps l.armed l.booked l.idle l.apart l.stays _ _ _ _ c.args.traced.now c.book_failure.new.traced c.serve.new.traced c.args.tags.now c.serve.new.tags c.args.tag c.args.completion c.serve.result
    c.shows_whole.ensures c.shows_stack.ensures.in_order c.requires.bad s.in_order s.whole s.reached c.serve.ensures.served c.serve.ensures.noted c.book_failure.ensures
