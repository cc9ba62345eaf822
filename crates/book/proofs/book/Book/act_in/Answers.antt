use Rattle.book.proofs.Common.{Some, subst, BookView, ServesAfter}
use Rattle.compose.specs.declared.Event.TheVariants.{Act}
use Rattle.book.proofs.book.Book.act_in.Goals as goal

pub returns : goal.returns
returns g c =
    let serves = subst (λ (b : BookView). ServesAfter (Some c.failure_of-completion.result) b (Act c.args.tag) c.act_or_fail.result c.act_or_fail.new.self) c.failure_of-completion.ensures.same c.act_or_fail.ensures in
    (c.failure_of-completion.result, c.failure_of-completion.new.journal, c.failure_of-completion.ensures.why, serves)
