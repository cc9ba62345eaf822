use Rattle.book.proofs.Common.{◌≡◌, List, None, ap, subst, Entered, served_wants, BookView, CallsAfter, ServesAfter, book_of}
use Rattle.book.proofs.Stepping.{after_wants}
use Rattle.book.proofs.book.Book.step.Goals as goal

pub returns-in-Some-clause-stepped : goal.returns-in-Some-clause-stepped
returns-in-Some-clause-stepped g c =
    let looked : BookView = c.look.new.self in
    let same : looked ≡ book_of looked.traced c.args.self.now.taken = ap (λ (t : List Entered). book_of looked.traced t) c.look.ensures.taken in
    rw c.in-Some.is record {
      marked = looked.traced;
      looks = c.look.ensures.looked;
      serves = subst (λ (b : BookView). CallsAfter c.in-Some.share.now c.call.new.share b c.args.event c.call.result c.call.new.self) same c.call.ensures;
    }

pub returns-in-Some-clause-memory : goal.returns-in-Some-clause-memory
returns-in-Some-clause-memory g c bytes = served_wants c.steps_take_no_memory.ensures _ _ _ _ _ bytes c.call.ensures.served

pub returns-in-None-clause-stepped : goal.returns-in-None-clause-stepped
returns-in-None-clause-stepped g c =
    let looked : BookView = c.look.new.self in
    let same : looked ≡ book_of looked.traced c.args.self.now.taken = ap (λ (t : List Entered). book_of looked.traced t) c.look.ensures.taken in
    rw c.in-None.is record {
      marked = looked.traced;
      looks = c.look.ensures.looked;
      serves = subst (λ (b : BookView). ServesAfter None b c.args.event c.serve.result c.serve.new.self) same c.serve.ensures;
    }

pub returns-in-None-clause-memory : goal.returns-in-None-clause-memory
returns-in-None-clause-memory g c bytes = after_wants c.steps_take_no_memory.ensures _ _ _ _ bytes c.serve.ensures
