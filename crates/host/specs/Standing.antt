-- Where a keeper's calls leave the device, by the PnP table.
use Rattle.std.specs.Prelude.{◌≡◌, ◌≢◌, ℕ, Bool, true, false, [], is_some}
use Rattle.pnp.specs.declared.State.{State as PnpState}
use Rattle.pnp.specs.declared.State.TheVariants.{Started, RemovePending, Removing, Removed}
use Rattle.pnp.specs.declared.Request.{Request}
use Rattle.pnp.specs.declared.Request.TheVariants.{QueryRemove, CancelRemove, Remove, SurpriseRemove}
use Rattle.pnp.specs.Table.{event_of, next}
use Rattle.io_manager.specs.declared.Refusal.TheVariants.{InvalidDeviceRequest}
use Rattle.io_manager.specs.declared.Reply.{Reply}
use Rattle.io_manager.specs.declared.Reply.TheVariants.{Ok as OkReply, Refused}
use Rattle.compose.specs.declared.Event.{Event}
use Rattle.compose.specs.declared.Event.TheVariants.{QueryRemove as QueryEvent, CancelRemove as RecallEvent}
use Rattle.compose.specs.declared.Event.TheVariants.{Remove as RemoveEvent, SurpriseRemove as SurpriseEvent}
use Rattle.compose.specs.declared.Event.TheVariants.{Read, Write, Flush, Act, Finish, Reset}

-- how many steps a PnP state is from the first; a device that goes is as far as one that is gone
abbrev pub steps_of : PnpState → ℕ
steps_of Started = 0
steps_of RemovePending = 1
steps_of Removing = 2
steps_of Removed = 2

-- a keeper's call as an event
abbrev pub call_of : Request → Event
call_of QueryRemove = QueryEvent
call_of CancelRemove = RecallEvent
call_of Remove = RemoveEvent
call_of SurpriseRemove = SurpriseEvent

-- where an accepted call leaves the device once it has returned
abbrev pub left_by : Request → PnpState
left_by QueryRemove = RemovePending
left_by CancelRemove = Started
left_by Remove = Removed
left_by SurpriseRemove = Removed

-- where a call leaves the device, by its reply: an accepted one where it says, any other where it was
abbrev pub left_behind : Reply → Request → PnpState → PnpState
left_behind OkReply request before = left_by request
left_behind _ request before = before

-- whether the PnP table takes the call in a state
abbrev pub is_taken : Request → PnpState → Bool
is_taken request state = is_some (next (event_of request) state)

-- a call is accepted only where the PnP table takes it, and refused as invalid only where it doesn't; an accepted call
-- moves the device on, and no other
pub record GoesBy (request : Request) (old : PnpState) (reply : Reply) (new : PnpState) : Type 0 where
  pub accepted : reply ≡ OkReply → is_taken request old ≡ true
  pub invalid : reply ≡ Refused InvalidDeviceRequest [] → is_taken request old ≡ false
  pub moved : reply ≡ OkReply → new ≡ left_by request
  pub stays : reply ≢ OkReply → new ≡ old

-- a client's call, or a step of the adapter
abbrev pub is_others : Event → Bool
is_others (Read handle offset buffer) = true
is_others (Write handle offset bytes through) = true
is_others (Flush handle) = true
is_others (Act tag) = true
is_others (Finish tag) = true
is_others Reset = true
is_others _ = false
