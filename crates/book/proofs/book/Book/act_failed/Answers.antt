use Rattle.book.proofs.Common.{◌≡◌, List, Some, ap, subst, Entered, BookView, ServesAfter, book_of}
use Rattle.compose.specs.declared.Event.TheVariants.{Act}
use Rattle.book.proofs.book.Book.act_failed.Goals as goal

pub returns : goal.returns
returns g c =
    let looked : BookView = c.look.new.self in
    let same : looked ≡ book_of looked.traced c.args.self.now.taken = ap (λ (t : List Entered). book_of looked.traced t) c.look.ensures.taken in
    (looked.traced, c.look.ensures.looked, subst (λ (b : BookView). ServesAfter (Some c.args.completion) b (Act c.args.tag) c.act_or_fail.result c.act_or_fail.new.self) same c.act_or_fail.ensures)
