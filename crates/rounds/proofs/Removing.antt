-- Where the device is behind a query and a removal, by the PnP table.
use Rattle.std.proofs.Common.{◌≡◌, true, false, refl, ◌∙◌, ap, inl, inr}
use Rattle.io_manager.specs.declared.Reply.{Reply}
use Rattle.io_manager.specs.declared.Reply.TheVariants.{Ok as OkReply}
use Rattle.pnp.specs.declared.State.{State}
use Rattle.pnp.specs.declared.State.TheVariants.{Started, RemovePending, Removing, Removed}
use Rattle.pnp.specs.declared.Request.{Request}
use Rattle.pnp.specs.declared.Request.TheVariants.{QueryRemove, Remove, SurpriseRemove}
use Rattle.pnp.specs.Laws.{is_going}
use Rattle.host.specs.Replies.{IsPnpReply}
use Rattle.host.specs.Standing.{GoesBy, is_taken}

-- a call that the table takes is accepted
accepted : (request : Request) (old new : State) (reply : Reply) → is_taken request old ≡ true → IsPnpReply reply → GoesBy request old reply new → reply ≡ OkReply
accepted request old new reply taken (inl ok) goes = ok
accepted request old new reply taken (inr invalid) goes = absurd (cc (taken, goes.invalid invalid))

module _ (old mid new : State) (asked reply : Reply) (ok : asked ≡ OkReply) (queried : GoesBy QueryRemove old asked mid) (replies : IsPnpReply reply) (goes : GoesBy Remove mid reply new) where
  pub removed_asked : reply ≡ OkReply
  removed_asked = accepted Remove mid new reply (ap (is_taken Remove) (queried.moved ok)) replies goes

  pub gone_asked : is_going new ≡ true
  gone_asked = ap is_going (goes.moved removed_asked)

pub gone_pulled : (mid new : State) (reply : Reply) → IsPnpReply reply → GoesBy SurpriseRemove mid reply new → is_going new ≡ true
gone_pulled mid new reply (inl ok) goes = ap is_going (goes.moved ok)
gone_pulled mid new reply (inr invalid) goes = ap is_going (goes.stays not_ok) ∙ by mid (goes.invalid invalid)
  where
    not_ok : reply ≡ OkReply → ⊥
    not_ok ok = cc (ok, invalid)

    by : (was : State) → is_taken SurpriseRemove was ≡ false → is_going was ≡ true
    by Started none = absurd (cc (none))
    by RemovePending none = absurd (cc (none))
    by Removing none = refl
    by Removed none = refl
