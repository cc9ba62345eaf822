-- A keeper, and its receipts: of each pause, of a removal, and of its end.
use Rattle.std.specs.Prelude.{◌≡◌, ◌≢◌, ◌<◌, ◌≤◌, ℕ, Bool, true, false, List, [], ◌∷◌, ◌++◌, Option, Some, None, slice_get}
use Rattle.machine.specs.declared.Label.{Label}
use Rattle.machine.specs.declared.Label.TheVariants.{Pause as PauseLabel, Remove as RemoveLabel, Surprise as SurpriseLabel, Removed as RemovedLabel}
use Rattle.remove_lock.specs.declared.rule.View.{View as PassView}
use Rattle.io_manager.specs.declared.Reply.{Reply}
use Rattle.io_manager.specs.declared.Reply.TheVariants.{Ok as OkReply}
use Rattle.pnp.specs.declared.State.{State as PnpState}
use Rattle.pnp.specs.declared.Request.{Request}
use Rattle.pnp.specs.declared.Request.TheVariants.{QueryRemove as QueryRequest, Remove as RemoveRequest, SurpriseRemove as SurpriseRequest}
use Rattle.compose.specs.declared.Event.{Event}
use Rattle.traced.specs.declared.TraceEntry.{TraceEntry}
use Rattle.traced.specs.Entries.{entry}
use Rattle.host.specs.declared.notice.Notice.{Notice}
use Rattle.host.specs.declared.notice.Notice.TheVariants.{Pause, Remove, Surprise, Removed}
use Rattle.host.specs.declared.notice.Minor.{Minor}
use Rattle.host.specs.declared.notice.Minor.TheVariants.{QueryRemove, Remove as RemoveDevice, SurpriseRemove}
use Rattle.host.specs.Receipts.{Receipt, AreBelow}
use Rattle.host.specs.Standing.{call_of}

-- what a keeper knows of the gate, its receipts, and where its calls have left the device
pub record KeeperView : Type 0 where
  pub pass : PassView
  pub told : List Receipt
  pub standing : PnpState

abbrev pub label_of : Notice → Label
label_of Pause = PauseLabel
label_of Remove = RemoveLabel
label_of Surprise = SurpriseLabel
label_of Removed = RemovedLabel

abbrev pub is_pause : Label → Bool
is_pause PauseLabel = true
is_pause _ = false

abbrev pub is_removed : Label → Bool
is_removed RemovedLabel = true
is_removed _ = false

abbrev pub is_remove : Label → Bool
is_remove RemoveLabel = true
is_remove _ = false

abbrev pub is_surprise : Label → Bool
is_surprise SurpriseLabel = true
is_surprise _ = false

-- the label is this notice's
abbrev pub is_notice : Notice → Label → Bool
is_notice Pause label = is_pause label
is_notice Remove label = is_remove label
is_notice Surprise label = is_surprise label
is_notice Removed label = is_removed label

-- a keeper's call as a request of the PnP manager and as an event, and the label that it tells first where it is
-- accepted
abbrev pub request_by : Minor → Request
request_by QueryRemove = QueryRequest
request_by RemoveDevice = RemoveRequest
request_by SurpriseRemove = SurpriseRequest

abbrev pub event_of : Minor → Event
event_of minor = call_of (request_by minor)

abbrev pub notice_of : Minor → Notice
notice_of QueryRemove = Pause
notice_of RemoveDevice = Remove
notice_of SurpriseRemove = Surprise

-- no such label stands at a place from this one on
abbrev pub HasNone : Notice → ℕ → List TraceEntry → Type 0
HasNone notice from entries = (place : ℕ) (e : TraceEntry) → from ≤ place → slice_get entries place ≡ Some e → is_notice notice e.label ≡ false

-- this is the place of the first such label from a place on, or there is none
abbrev pub FindsNotice : Notice → ℕ → List TraceEntry → Option ℕ → Type 0
FindsNotice notice from entries (Some place) = (from ≤ place) × ((e : TraceEntry) × (slice_get entries place ≡ Some e) × (is_notice notice e.label ≡ true))
FindsNotice notice from entries None = HasNone notice from entries

-- there is one receipt, of this label, which stands in no client's row, at a place from this one on
pub record IsNoticed (from : ℕ) (label : Label) (claim : List Receipt) : Type 0 where
  pub place : ℕ
  pub late : from ≤ place
  pub claim_is : claim ≡ (place, entry label None) ∷ []

-- there is one more receipt, of this label, at a place above all before
pub record HasNoted (label : Label) (old new : List Receipt) : Type 0 where
  pub place : ℕ
  pub above : AreBelow place old
  pub adds : new ≡ old ++ (place, entry label None) ∷ []

-- there is one more receipt where a keeper's call was accepted, else none
pub record HasNotedIfOk (label : Label) (reply : Reply) (old new : List Receipt) : Type 0 where
  pub accepted : reply ≡ OkReply → HasNoted label old new
  pub otherwise : reply ≢ OkReply → new ≡ old

-- there are two more receipts: of the label of a removal, at a place above all before, and of its end behind that
pub record HasRemoved (label : Label) (old new : List Receipt) : Type 0 where
  pub begun : ℕ
  pub ended : ℕ
  pub above : AreBelow begun old
  pub behind : begun < ended
  pub adds : new ≡ old ++ (begun, entry label None) ∷ (ended, entry RemovedLabel None) ∷ []

-- there are two more receipts where a removal was accepted, else none
pub record HasRemovedIfOk (label : Label) (reply : Reply) (old new : List Receipt) : Type 0 where
  pub accepted : reply ≡ OkReply → HasRemoved label old new
  pub otherwise : reply ≢ OkReply → new ≡ old

-- a query was granted, and the removal behind it was accepted
pub record IsQueriedFirst (old new : List Receipt) : Type 0 where
  pub paused : List Receipt
  pub granted : HasNoted PauseLabel old paused
  pub removed : HasRemoved RemoveLabel paused new

-- the device was pulled out behind a query
pub record IsPulledOut (old new : List Receipt) : Type 0 where
  pub asked : Reply
  pub queried : List Receipt
  pub reply : Reply
  pub told : HasNotedIfOk PauseLabel asked old queried
  pub removed : HasRemovedIfOk SurpriseLabel reply queried new
