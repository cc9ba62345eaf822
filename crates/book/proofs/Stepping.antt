-- A step of a book is refused for want of memory where its event may be.
use Rattle.std.proofs.Common.{◌≡◌, ◌⊎◌, inl, inr, ℕ, List, None, Some, sym, ◌∙◌, true}
use Rattle.book.proofs.Common.{InsufficientResources, Reply, Event, StepsTakeNoMemory, Completion, TracedView, may_want, served_wants, BookView, HoldsFailure, IsLastAct, ServesAfter, ServesEvent}
use Rattle.io_manager.specs.declared.Reply.TheVariants.{Ok as OkReply, Refused}

pub after_wants : StepsTakeNoMemory → (old : BookView) (event : Event) (reply : Reply) (new : BookView) (bytes : List ℕ) → ServesAfter None old event reply new → reply ≡ Refused InsufficientResources bytes → may_want event ≡ true
after_wants law old event reply new bytes after is = go after.serves
  where
    differ : OkReply ≡ Refused InsufficientResources bytes → ⊥
    differ e = absurd (cc (e))

    go : ServesEvent None after.booked event reply new ⊎ IsLastAct after.count old after.booked event reply new → may_want event ≡ true
    go (inl serves) = served_wants law 0 serves.held event reply new.traced bytes serves.served is
    go (inr last) = absurd (differ (sym last.replies ∙ is))

-- a failure as it happened elsewhere is one like any other
any_why : (completion : Completion) (old : TracedView) (event : Event) (held : TracedView) → HoldsFailure (Some completion) old event held → HoldsFailure None old event held
any_why completion old event held (inl same) = inl same
any_why completion old event held (inr (tag, piece, failed, why, is, holds)) = inr (tag, piece, failed, tt, is, holds)

pub after_any : (completion : Completion) (old : BookView) (event : Event) (reply : Reply) (new : BookView) → ServesAfter (Some completion) old event reply new → ServesAfter None old event reply new
after_any completion old event reply new after = record { count = after.count; booked = after.booked; books = after.books; serves = go after.serves }
  where
    go : ServesEvent (Some completion) after.booked event reply new ⊎ IsLastAct after.count old after.booked event reply new → ServesEvent None after.booked event reply new ⊎ IsLastAct after.count old after.booked event reply new
    go (inl serves) = inl (record { held = serves.held; holds = any_why completion after.booked.traced event serves.held serves.holds; served = serves.served; taken = serves.taken })
    go (inr last) = inr last
