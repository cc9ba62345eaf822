-- A request of the PnP manager: what it asks of the device below, and what is told of it.
use Rattle.std.specs.Prelude.{Option, Some, None, All, IsTrue, IsFalse}
use Rattle.machine.specs.declared.Label.{Label}
use Rattle.machine.specs.declared.Label.TheVariants.{Pause, Resume, Remove, Surprise}
use Rattle.machine.specs.State.{State}
use Rattle.machine.specs.Settled.{WaitsIfCancelled}
use Rattle.device.specs.View.{DeviceView}
use Rattle.device.specs.Served.{PausesAll, ResumesAll, DrainsAll}
use Rattle.pnp.specs.declared.State.{State as PnpState}
use Rattle.pnp.specs.declared.State.TheVariants.{Started}
use Rattle.pnp.specs.declared.Request.{Request}
use Rattle.pnp.specs.declared.Request.TheVariants.{QueryRemove, CancelRemove, Remove as RemoveDevice, SurpriseRemove}
use Rattle.io_manager.specs.declared.Reply.{Reply}
use Rattle.io_manager.specs.Shown.{ManagerView}
use Rattle.io_manager.specs.Right.{Told, QueryReplies, RecallReplies, RemoveReplies, SurpriseReplies}

-- the row of the request
abbrev pub RequestReplies : Request → ManagerView → Reply → ManagerView → Told → Type 0
RequestReplies QueryRemove old reply new told = QueryReplies old reply new told
RequestReplies CancelRemove old reply new told = RecallReplies old reply new told
RequestReplies RemoveDevice old reply new told = RemoveReplies old reply new told
RequestReplies SurpriseRemove old reply new told = SurpriseReplies old reply new told

-- the label of a request that is valid in this state; none where a query is taken back that is not pending
abbrev pub label_of : Request → PnpState → Option Label
label_of QueryRemove state = Some Pause
label_of CancelRemove Started = None
label_of CancelRemove _ = Some Resume
label_of RemoveDevice state = Some Remove
label_of SurpriseRemove state = Some Surprise

-- the device below may do its part
abbrev pub MayDo : Request → State → Type 0
MayDo QueryRemove s = IsFalse s.paused × IsFalse s.removing
MayDo CancelRemove s = IsTrue s.paused × All WaitsIfCancelled s.requests
MayDo RemoveDevice s = Unit {0}
MayDo SurpriseRemove s = Unit {0}

-- the device below has done its part
abbrev pub Does : Request → DeviceView → DeviceView → Type 0
Does QueryRemove old new = PausesAll old new
Does CancelRemove old new = ResumesAll old new
Does RemoveDevice old new = DrainsAll old new
Does SurpriseRemove old new = DrainsAll old new
