-- The PnP states of a device object, and what moves it from one to another.
use Rattle.std.specs.Prelude.{Option, Some, None}
use Rattle.pnp.specs.declared.State.{State}
use Rattle.pnp.specs.declared.State.TheVariants.{Started, RemovePending, Removing, Removed}
use Rattle.pnp.specs.declared.Request.{Request}
use Rattle.pnp.specs.declared.Request.TheVariants.{QueryRemove as QueryRequest, CancelRemove as CancelRequest}
use Rattle.pnp.specs.declared.Request.TheVariants.{Remove as RemoveRequest, SurpriseRemove as SurpriseRequest}

-- what moves it: four requests of the PnP manager (WDK: minor functions of IRP_MJ_PNP), and the end of its last open
-- request
pub data Event : Type 0 where
  QueryRemove : Event
  CancelRemove : Event
  Remove : Event
  SurpriseRemove : Event
  Drained : Event

-- the event that a request of the PnP manager is
abbrev pub event_of : Request → Event
event_of QueryRequest = QueryRemove
event_of CancelRequest = CancelRemove
event_of RemoveRequest = Remove
event_of SurpriseRequest = SurpriseRemove

-- the state after it, or none where it is invalid (after the WDK's PnP states; what is invalid is own)
abbrev pub next : Event → State → Option State
next QueryRemove Started = Some RemovePending
next QueryRemove _ = None
next CancelRemove Started = Some Started
next CancelRemove RemovePending = Some Started
next CancelRemove _ = None
next Remove RemovePending = Some Removing
next Remove _ = None
next SurpriseRemove Started = Some Removing
next SurpriseRemove RemovePending = Some Removing
next SurpriseRemove _ = None
next Drained Removing = Some Removed
next Drained _ = None
