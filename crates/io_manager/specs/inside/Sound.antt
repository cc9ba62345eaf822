-- What the manager's tables and the device below say of each other between two calls.
use Rattle.std.specs.Prelude.{◌≡◌, ◌≢◌, ◌<◌, ◌≤◌, ℕ, ◌+◌, ◌^◌, ◌⊎◌, Bool, true, false, List, [], ◌++◌, Option, Some}
use Rattle.std.specs.Prelude.{None, option_map, is_some, map, length, IsTrue, IsFalse, All, Contains}
use Rattle.std.specs.Prelude.{IsPermutation}
use Rattle.std.specs.VecDeque.{deque_len, deque_capacity}
use Rattle.slab.specs.Slab.{Slab, get, slab_len}
use Rattle.sector.specs.declared.Extent.{Extent}
use Rattle.srb.specs.declared.DeviceLabel.{DeviceLabel}
use Rattle.srb.specs.declared.Kind.TheVariants.{Read}
use Rattle.machine.specs.Rules.{Rules}
use Rattle.machine.specs.State.{OpenRequest as OpenBelow, State}
use Rattle.machine.specs.Numbers.{request_number}
use Rattle.machine.specs.Settled.{Settled, IsAtWork, IsFull, started_count}
use Rattle.machine.specs.Step.{Run, as_label}
use Rattle.machine.specs.Sending.{IsStart, is_started}
use Rattle.device.specs.View.{DeviceView, IsTopmost, Packet}
use Rattle.device.specs.Served.{SameRooms}
use Rattle.machine_laws.specs.Reached.{IsReached}
use Rattle.pnp.specs.declared.State.{State as PnpState}
use Rattle.pnp.specs.declared.State.TheVariants.{Started, RemovePending, Removing, Removed}
use Rattle.io_manager.specs.declared.Answer.{Answer}
use Rattle.io_manager.specs.declared.OpenHandle.{OpenHandle}
use Rattle.io_manager.specs.declared.Limits.{Limits}
use Rattle.io_manager.specs.declared.tables.OpenRequest.{OpenRequest}
use Rattle.io_manager.specs.declared.tables.Tables.{Tables}
use Rattle.io_manager.specs.Shown.{ManagerView, Holder}
use Rattle.io_manager.specs.Calls.{number_limit, handle_limit}
use Rattle.io_manager.specs.Opening.{AreFirsts, rules_of}
use Rattle.io_manager.specs.inside.Chains.{AreChained, AreNumbered, AreCounted}
use Rattle.io_manager.specs.inside.Ordering.{HasOtherNumber}
use Rattle.io_manager.specs.inside.Queue.{SameQueue}
use Rattle.io_manager.specs.inside.Inside.{AllWriteInside}
use Rattle.io_manager.specs.Right.{AreRising, answer_number, as_answer, unless_answered, AdapterMoves, end_labels}

-- the state below, with a next number of the manager's own, and with the end of a removal, which no layer tells
abbrev pub shown_state : ℕ → Bool → State → State
shown_state next removed s = record s { next_request = next; removed = removed }

-- the removal has ended
abbrev pub is_gone : PnpState → Bool
is_gone Started = false
is_gone RemovePending = false
is_gone Removing = false
is_gone Removed = true

-- what is shown of an open request
abbrev pub holder_of : OpenRequest → Holder
holder_of request = record { number = request.number; handle = request.handle }

-- what is shown of all open requests, by slot
abbrev pub holders_of : Slab OpenRequest → List (Option Holder)
holders_of requests = map (option_map holder_of) requests.slots

-- how many items the manager's own tables have room for
abbrev pub own_places : Tables → ℕ
own_places t =
    t.labels.places + t.answered.places + deque_capacity t.untaken + t.handles.capacity + t.requests.capacity

-- what the manager shows
abbrev pub view_of : Limits → DeviceView → Tables → ManagerView
view_of limits below tables = record {
  rules = rules_of limits below.rules;
  state = shown_state tables.next_request (is_gone tables.state) below.state;
  adapter = below.adapter;
  handles = tables.handles.slots;
  next_handle = tables.next_handle;
  holders = holders_of tables.requests;
  labels = tables.labels.items;
  answers = tables.untaken.items;
  keeps = tables.labels.keeps;
  places = below.places + own_places tables;
}

-- the extent ends below 2^64, so that its sum fits a word
abbrev pub EndsInRange : Extent → Type 0
EndsInRange extent = extent.first + extent.count < 2 ^ 64

-- the sizes that the manager keeps are those of the device below
pub record FitsBelow (limits : Limits) (below : DeviceView) : Type 0 where
  pub sector_size : limits.sector_size ≡ below.rules.sector_size
  pub some_bytes : 0 < limits.sector_size
  pub max_transfer : limits.max_transfer ≡ below.rules.max_transfer
  pub some_transfer : 0 < limits.max_transfer
  pub depth : limits.depth ≡ below.rules.depth
  pub keeps_bytes : limits.keeps_bytes ≡ below.rules.keeps_bytes
  pub firsts : AreFirsts limits.first_sectors below.rules.partitions
  pub ends : All EndsInRange below.rules.partitions
  pub some_open : (1 ≤ limits.open_requests) × (limits.open_requests ≤ 64)
  pub many : number_limit ≤ below.most

-- the next numbers are above all that were given, here and below
pub record HasNumbers (below : DeviceView) (tables : Tables) : Type 0 where
  pub requests : tables.next_request ≤ number_limit
  pub handles : tables.next_handle ≤ number_limit
  pub rising : below.state.next_request ≤ tables.next_request
  pub submitted : below.submitted ≤ tables.next_request

-- the slot of a request that is open below
pub record IsHeldAt (keeps_bytes : Bool) (requests : Slab OpenRequest) (o : OpenBelow) : Type 0 where
  pub slot : ℕ
  pub request : OpenRequest
  pub there : get requests slot ≡ Some request
  pub same_number : request.number ≡ o.number
  pub same_kind : request.kind ≡ o.request.kind
  pub same_cancelled : request.cancelled ≡ o.cancelled
  pub has_partition : is_some o.request.partition ≡ true
  pub label_bytes : IsTrue keeps_bytes → o.request.kind ≡ Read → o.request.length ≤ request.label_bytes

-- the requests that are open below are those in the table
pub record AreHeld (keeps_bytes : Bool) (requests : Slab OpenRequest) (below : List OpenBelow) : Type 0 where
  pub held : All (IsHeldAt keeps_bytes requests) below
  pub is_open : (slot : ℕ) (request : OpenRequest) → get requests slot ≡ Some request
      → Contains (map request_number below) request.number
  pub one_slot : (slot other : ℕ) (request same : OpenRequest) → get requests slot ≡ Some request
      → get requests other ≡ Some same
      → request.number ≡ same.number → slot ≡ other
  pub counted : slab_len requests ≡ length below

-- places for what a step may add, so that it takes no memory, and memory keeps all that is told or none of it; and as
-- many slots as requests may be open
pub record HasPlaces (limits : Limits) (tables : Tables) : Type 0 where
  pub labels : tables.labels.places ≡ 256
  pub answered : 64 ≤ tables.answered.places
  pub alike : tables.answered.keeps ≡ tables.labels.keeps
  pub label_bytes : tables.labels.keeps_bytes ≡ limits.keeps_bytes
  pub answer_bytes : tables.answered.keeps_bytes ≡ limits.keeps_bytes
  pub untaken : deque_len tables.untaken + slab_len tables.requests ≤ deque_capacity tables.untaken
  pub handles : tables.handles.capacity ≡ handle_limit
  pub requests : tables.requests.capacity ≡ limits.open_requests

-- a packet below has a number that was given, and the spot that the entry of its number keeps
pub record IsSpotted (next : ℕ) (requests : Slab OpenRequest) (packet : Packet) : Type 0 where
  pub given : packet.number < next
  pub spot : (slot : ℕ) (request : OpenRequest) → get requests slot ≡ Some request → request.number ≡ packet.number
      → packet.spot ≡ request.spot

-- an open handle is on a partition that is there
abbrev pub IsOnMap : Rules → Slab OpenHandle → Type 0
IsOnMap rules handles = (slot : ℕ) (handle : OpenHandle) → get handles slot ≡ Some handle
    → handle.partition < length rules.partitions

-- an answer of a number that was given
abbrev pub WasGiven : ℕ → Answer → Type 0
WasGiven next answer = answer.number < next

-- no answer that waits to be taken is one of an open request
abbrev pub AreApart : Slab OpenRequest → List Answer → Type 0
AreApart requests answers = (slot : ℕ) (request : OpenRequest) → get requests slot ≡ Some request
    → All (HasOtherNumber request.number) answers

-- the plug and play state is that of the machine's flags
abbrev pub IsInState : PnpState → State → Type 0
IsInState Started s = IsFalse s.paused × IsFalse s.removing
IsInState RemovePending s = IsTrue s.paused × IsFalse s.removing
IsInState Removing s = IsFalse s.paused × IsTrue s.removing
IsInState Removed s = IsFalse s.paused × IsTrue s.removing × (s.requests ≡ [])

-- what holds within a step, while the labels of these answers are deferred
pub record IsSoundWith (put_by : List Answer) (limits : Limits) (below : DeviceView) (tables : Tables) : Type 0 where
  pub fits : FitsBelow limits below
  pub numbers : HasNumbers below tables
  pub held : AreHeld limits.keeps_bytes tables.requests below.state.requests
  pub few : slab_len tables.requests ≤ limits.open_requests
  pub places : HasPlaces limits tables
  pub on_map : IsOnMap below.rules tables.handles
  pub topmost : All IsTopmost below.packets
  pub spots : All (IsSpotted tables.next_request tables.requests) below.packets
  pub in_state : IsInState tables.state below.state
  pub none_put_by : tables.answered.items ≡ put_by
  pub rising : AreRising (map answer_number tables.untaken.items)
  pub given : All (WasGiven tables.next_request) tables.untaken.items
  pub apart : AreApart tables.requests tables.untaken.items
  pub chained : AreChained tables.handles tables.requests tables.next_handle tables.chains
  pub numbered : AreNumbered tables.requests tables.by_number
  pub counted : AreCounted tables.handles tables.requests tables.open_counts

-- between two calls no answer's label is deferred
abbrev pub IsSound : Limits → DeviceView → Tables → Type 0
IsSound limits below tables = IsSoundWith [] limits below tables

-- all that the adapter is asked to write lies in a partition
abbrev pub AsksInside : DeviceView → Type 0
AsksInside below = AllWriteInside below.rules.partitions below.adapter

-- the tables have as many places as before, so nothing took memory
pub record SamePlaces (old new : Tables) : Type 0 where
  pub labels : SameQueue old.labels new.labels
  pub answered : SameQueue old.answered new.answered
  pub untaken : deque_capacity new.untaken ≡ deque_capacity old.untaken
  pub handles : new.handles.capacity ≡ old.handles.capacity
  pub requests : new.requests.capacity ≡ old.requests.capacity

-- a removal ends, or does not, and the state is the one after it
pub record EndsIf (ends : Bool) (old : PnpState) (s : State) (new : PnpState) : Type 0 where
  pub ended : IsTrue ends → (old ≡ Removing) × (s.requests ≡ []) × (new ≡ Removed)
  pub not_ended : IsFalse ends → (new ≡ old) × (old ≡ Removing → s.requests ≢ [])

-- what the device did is told, and nothing is answered
pub record TakesLabels (below : DeviceView) (tables : Tables) (below' : DeviceView) (tables' : Tables) : Type 0 where
  pub taken : below' ≡ record below { adapter = record below.adapter { labels = [] } }
  pub tells : tables'.labels.items ≡ tables.labels.items ++ map as_label below.adapter.labels
  pub label_places : SameQueue tables.labels tables'.labels
  pub after : tables' ≡ record tables { labels = tables'.labels }

-- where the request is neither started nor cancelled, the pause holds it back, or the window is full
abbrev pub IsKeptBack : Rules → State → OpenBelow → Type 0
IsKeptBack rules s o = IsFalse o.cancelled → IsFalse (is_started o)
    → (IsTrue s.paused × IsTrue o.late) ⊎ IsFull rules.window (started_count s)

-- with a tag free, each started request has a place out, and all others are kept back: so the end of one lets none
-- start
pub record HasNoneToStart (rules : Rules) (s : State) : Type 0 where
  pub at_work : length s.pieces < rules.depth → All IsAtWork s.requests
  pub kept_back : length s.pieces < rules.depth → IsFalse s.removing → All (IsKeptBack rules s) s.requests

-- all that has ended is taken: the device's labels and the answers are told, then the end of a removal, and the device
-- is settled
pub record Collects (below : DeviceView) (tables : Tables) (below' : DeviceView) (tables' : Tables) : Type 0 where
  pub starts : List DeviceLabel
  pub answers : List Answer
  pub ends : Bool
  pub only_starts : All IsStart starts
  pub rising : AreRising (map answer_number answers)
  pub same_rules : below'.rules ≡ below.rules
  pub same_rooms : SameRooms below.rooms below'.rooms
  pub run : Run below.rules below.state (map as_label starts ++ map as_answer answers) below'.state
  pub adapter : AdapterMoves false None below.adapter starts below'.adapter
  pub labels : tables'.labels.items ≡ ((tables.labels.items ++ map as_label (below.adapter.labels ++ starts))
      ++ map as_answer answers) ++ end_labels ends
  pub untaken : IsPermutation tables'.untaken.items (answers ++ tables.untaken.items)
  pub holders : (slot : ℕ) → option_map holder_of (get tables'.requests slot)
      ≡ unless_answered answers (option_map holder_of (get tables.requests slot))
  pub same_handles : tables'.handles ≡ tables.handles
  pub same_next_handle : tables'.next_handle ≡ tables.next_handle
  pub same_next_request : tables'.next_request ≡ tables.next_request
  pub places : SamePlaces tables tables'
  pub places_below : below'.places ≡ below.places
  pub removal : EndsIf ends tables.state below'.state tables'.state
  pub settled : Settled below'.rules below'.state
  pub quiet : HasNoneToStart below.rules below.state → starts ≡ []

-- what holds between two steps, beside the order of the device: all is sound and settled, a removal with nothing open
-- has ended, the adapter's labels are taken, and a run leads from an opening state to the state that is shown
pub record ManagerKept (limits : Limits) (below : DeviceView) (tables : Tables) : Type 0 where
  pub sound : IsSound limits below tables
  pub inside : AsksInside below
  pub settled : Settled below.rules below.state
  pub going : tables.state ≡ Removing → below.state.requests ≢ []
  pub none_recorded : below.adapter.labels ≡ []
  pub reached : IsReached (rules_of limits below.rules) (view_of limits below tables).state
