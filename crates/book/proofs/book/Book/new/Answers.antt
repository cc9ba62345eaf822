use Rattle.book.proofs.Beginning.{kept_first}
use Rattle.book.proofs.book.Book.new.Goals as goal

pub invariant_of-result : goal.invariant_of-result
invariant_of-result g c =
    kept_first c.keeps_lengths.ensures _ _ _ _ c.args.traced c.shows_whole.ensures c.shows_stack.ensures.whole c.shows_stack.ensures.reached c.requires.blank c.new-taken.result c.in_ok-tags.tags c.depth.result
    c.new-taken.ensures.none c.in_ok-tags.ensures
