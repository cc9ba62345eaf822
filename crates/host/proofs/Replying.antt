-- What a step that is no client's replies.
use Rattle.std.proofs.Common.{◌≡◌, ◌⊎◌, ℕ, true, List, [], Option, Some, None, refl, inl, inr, sym, subst}
use Rattle.host.proofs.Common.{MutBor, InsufficientResources, InvalidDeviceRequest, Reply, ManagerView, Told, PnpReplies, RecallReplies, ActReplies, FinishReplies, RefusesAlone, Event, ShareView, bytes_of, TracedView, IsServed, may_want, BookView, IsLastAct, IsStepped, ServesAfter, ServesEvent, IsPnpReply, IsReplyTo, IsTagReply}
use Rattle.io_manager.specs.declared.Refusal.{Refusal}
use Rattle.io_manager.specs.declared.Reply.TheVariants.{Handle as HandleReply, Ok as OkReply, Request as Requested, Answered, Refused, Ignored}
use Rattle.compose.specs.declared.Event.TheVariants.{Open, Close, Read, Write, Flush, CancelIoEx, Mark, QueryRemove, CancelRemove, Remove, SurpriseRemove, Act, Finish, Reset}
use Rattle.compose.specs.Right.{IsRight}

invalid : (old : ManagerView) (reason : Refusal) (bytes : List ℕ) (new : ManagerView) (told : Told) → RefusesAlone old reason InvalidDeviceRequest bytes new told → IsPnpReply (Refused reason bytes)
invalid old reason bytes new told r =
    let why = r.is_reason in
    let none = r.no_bytes in
    let same : Refused reason bytes ≡ Refused InvalidDeviceRequest [] = cc in
    inr same

-- a query, a removal or a surprise removal
pnp_reply : (old : ManagerView) (event : _) (after : _) (label : _) (reply : Reply) (new : ManagerView) (told : Told) → PnpReplies old event after label reply new told → IsPnpReply reply
pnp_reply old event after label OkReply new told r = inl refl
pnp_reply old event after label (Refused reason bytes) new told r = invalid old reason bytes new told r.refuses
pnp_reply old event after label _ new told r = absurd r

recall_reply : (old : ManagerView) (reply : Reply) (new : ManagerView) (told : Told) → RecallReplies old reply new told → IsPnpReply reply
recall_reply old OkReply new told r = inl refl
recall_reply old (Refused reason bytes) new told r = invalid old reason bytes new told r.refuses
recall_reply old _ new told r = absurd r

act_reply : (old : ManagerView) (tag : ℕ) (reply : Reply) (new : ManagerView) (told : Told) → ActReplies old tag reply new told → IsTagReply reply
act_reply old tag OkReply new told r = inl refl
act_reply old tag Ignored new told r = inr refl
act_reply old tag _ new told r = absurd r

finish_reply : (old : ManagerView) (tag : ℕ) (reply : Reply) (new : ManagerView) (told : Told) → FinishReplies old tag reply new told → IsTagReply reply
finish_reply old tag OkReply new told r = inl refl
finish_reply old tag Ignored new told r = inr refl
finish_reply old tag _ new told r = absurd r

-- a right step
right_reply : (event : Event) (reply : Reply) (old new : ManagerView) → IsRight old event reply new → IsReplyTo event reply
right_reply QueryRemove reply old new r = inl (pnp_reply old _ _ _ reply new r.told r.replies)
right_reply CancelRemove reply old new r = recall_reply old reply new r.told r.replies
right_reply Remove reply old new r = pnp_reply old _ _ _ reply new r.told r.replies
right_reply SurpriseRemove reply old new r = pnp_reply old _ _ _ reply new r.told r.replies
right_reply (Act tag) reply old new r = act_reply old tag reply new r.told r.replies
right_reply (Finish tag) reply old new r = finish_reply old tag reply new r.told r.replies
right_reply Reset reply old new r = r.0
right_reply _ reply old new r = tt

-- want of memory for the trace
wanting_reply : (event : Event) (reply : Reply) → may_want event ≡ true → reply ≡ Refused InsufficientResources (bytes_of event) → IsReplyTo event reply
wanting_reply QueryRemove reply may is = inr is
wanting_reply CancelRemove reply may is = absurd (cc)
wanting_reply Remove reply may is = absurd (cc)
wanting_reply SurpriseRemove reply may is = absurd (cc)
wanting_reply (Act tag) reply may is = absurd (cc)
wanting_reply (Finish tag) reply may is = absurd (cc)
wanting_reply Reset reply may is = absurd (cc)
wanting_reply _ reply may is = tt

served_reply : (event : Event) (reply : Reply) (old new : TracedView) → IsServed 0 old event reply new → IsReplyTo event reply
served_reply event reply old new (inl c) = right_reply event reply old.stack c.stepped c.right
served_reply event reply old new (inr w) = wanting_reply event reply w.wants w.replies

last_reply : (many : ℕ) (before booked : BookView) (event : Event) (reply : Reply) (new : BookView) → IsLastAct many before booked event reply new → IsReplyTo event reply
last_reply many before booked event reply new last = subst (λ (e : Event). IsReplyTo e reply) (sym last.is_act) (inl last.replies)

after_reply : (old : BookView) (event : Event) (reply : Reply) (new : BookView) → ServesAfter None old event reply new → IsReplyTo event reply
after_reply old event reply new after = go after.serves
  where
    go : ServesEvent None after.booked event reply new ⊎ IsLastAct after.count old after.booked event reply new → IsReplyTo event reply
    go (inl serves) = served_reply event reply serves.held new.traced serves.served
    go (inr last) = last_reply after.count old after.booked event reply new last

-- the step of a book without a share
pub stepped_reply : (slots : ℕ) (share : Option (MutBor ShareView)) (left : Unit {0} ⊎ ((MutBor ShareView × Unit {0}) ⊎ ⊥)) (old : BookView) (event : Event) (reply : Reply) (new : BookView)
    → share ≡ None → IsStepped slots share left old event reply new → IsReplyTo event reply
stepped_reply slots None left old event reply new none stepped = after_reply (record old { traced = stepped.marked }) event reply new stepped.serves
stepped_reply slots (Some share) left old event reply new none stepped = absurd (cc (none))
