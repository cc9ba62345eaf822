-- What the adapter's steps and a keeper's calls reply.
use Rattle.std.specs.Prelude.{◌≡◌, ◌⊎◌, []}
use Rattle.io_manager.specs.declared.Refusal.TheVariants.{InsufficientResources, InvalidDeviceRequest}
use Rattle.io_manager.specs.declared.Reply.{Reply}
use Rattle.io_manager.specs.declared.Reply.TheVariants.{Ok as OkReply, Refused, Ignored}
use Rattle.compose.specs.declared.Event.{Event}
use Rattle.compose.specs.declared.Event.TheVariants.{QueryRemove, CancelRemove, Remove, SurpriseRemove, Act, Finish, Reset}

-- the step was carried out, or there was no piece for it
abbrev pub IsTagReply : Reply → Type 0
IsTagReply reply = (reply ≡ OkReply) ⊎ (reply ≡ Ignored)

-- the call is accepted, or is invalid in the state that the device is in
abbrev pub IsPnpReply : Reply → Type 0
IsPnpReply reply = (reply ≡ OkReply) ⊎ (reply ≡ Refused InvalidDeviceRequest [])

-- the replies that there are to a step that is no client's; only a query takes memory, for its label
abbrev pub IsReplyTo : Event → Reply → Type 0
IsReplyTo QueryRemove reply = IsPnpReply reply ⊎ (reply ≡ Refused InsufficientResources [])
IsReplyTo CancelRemove reply = IsPnpReply reply
IsReplyTo Remove reply = IsPnpReply reply
IsReplyTo SurpriseRemove reply = IsPnpReply reply
IsReplyTo (Act tag) reply = IsTagReply reply
IsReplyTo (Finish tag) reply = IsTagReply reply
IsReplyTo Reset reply = reply ≡ OkReply
IsReplyTo _ reply = Unit {0}
