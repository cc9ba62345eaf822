-- The events that a script asks for.
use Rattle.std.specs.Prelude.{◌≡◌, ◌≢◌, ◌≤◌, ◌<◌, ℕ, nat_lt, List, [], Option, Some, None, replicate, slice_get, if◌then◌else◌, vec_capacity}
use Rattle.std.specs.BTreeMap.{BTreeMap, get}
use Rattle.std.specs.Ordering.{nat_cmp}
use Rattle.io_manager.specs.declared.Handle.{Handle}
use Rattle.io_manager.specs.declared.Id.{Id}
use Rattle.io_manager.specs.declared.Refusal.TheVariants.{InsufficientResources}
use Rattle.io_manager.specs.declared.Reply.{Reply}
use Rattle.io_manager.specs.declared.Reply.TheVariants.{Handle as HandleReply, Request as Requested, Refused, Ignored}
use Rattle.compose.specs.declared.Event.{Event}
use Rattle.compose.specs.declared.Event.TheVariants.{Open as OpenEvent, Close as CloseEvent, Read as ReadEvent, Write as WriteEvent, Flush as FlushEvent, CancelIoEx, Mark as MarkEvent, QueryRemove as QueryEvent, CancelRemove as RecallEvent, Remove as RemoveEvent, SurpriseRemove as SurpriseEvent, Act as ActEvent, Finish as FinishEvent, Reset as ResetEvent}
use Rattle.script.specs.declared.Order.{Order}
use Rattle.script.specs.declared.Order.TheVariants.{Open, Close, Read, Write, Flush, Cancel, Mark, QueryRemove, CancelRemove, Remove, SurpriseRemove, Act, Finish, Reset}
use Rattle.script.specs.declared.given.Given.{Given}

-- handles by their numbers
abbrev pub Handles : Type 0
Handles = BTreeMap ℕ Handle

-- requests, each at the place of its number
abbrev pub Requests : Type 0
Requests = List (Option Id)

-- each handle stands under its own number
abbrev pub HandlesAreNamed : Handles → Type 0
HandlesAreNamed handles = (number : ℕ) (handle : Handle) → get nat_cmp handles number ≡ Some handle → handle.number ≡ number

-- the request that was given under a number, if one was
abbrev pub given_as : Requests → ℕ → Option Id
given_as requests number = elim (slice_get requests number) [ Some place ↦ place | None ↦ None ]

-- each request stands under its own number
abbrev pub RequestsAreNamed : Requests → Type 0
RequestsAreNamed requests = (number : ℕ) (id : Id) → given_as requests number ≡ Some id → id.number ≡ number

-- each handle and each request stands under its own number
pub record AreNamed (given : Given) : Type 0 where
  pub handles : HandlesAreNamed given.handles
  pub requests : RequestsAreNamed given.requests.items

-- the handle of a number; where the number was not given out, a handle that isn't open
abbrev pub handle_of : Handles → ℕ → Handle
handle_of handles number = elim (get nat_cmp handles number) [ Some handle ↦ handle | None ↦ record { slot = 0; number = number } ]

-- the request of a number; where the number was not given out, a request that isn't open
abbrev pub id_of : Requests → ℕ → Id
id_of requests number = elim (given_as requests number) [ Some id ↦ id | None ↦ record { slot = 0; number = number } ]

-- the request that a cancel names, if any
abbrev pub target_of : Requests → Option ℕ → Option Id
target_of requests None = None
target_of requests (Some number) = Some (id_of requests number)

-- a handle is kept under its number, beside the others
pub record KeepsHandle (handle : Handle) (old new : Handles) : Type 0 where
  pub kept : handle_of new handle.number ≡ handle
  pub others : (number : ℕ) → number ≢ handle.number → handle_of new number ≡ handle_of old number

-- a request is kept under its number, beside the others
pub record KeepsRequest (id : Id) (old new : Requests) : Type 0 where
  pub kept : id_of new id.number ≡ id
  pub others : (number : ℕ) → number ≢ id.number → id_of new number ≡ id_of old number

-- what becomes of the handles and the requests by a reply
abbrev pub Keeps : Reply → Given → Given → Type 0
Keeps (HandleReply handle) old new = KeepsHandle handle old.handles new.handles × (new.requests ≡ old.requests)
Keeps (Requested id) old new = KeepsRequest id old.requests.items new.requests.items × (new.handles ≡ old.handles)
Keeps _ old new = new ≡ old

-- what a reply gives is kept in new memory: a handle of a new number, or a request whose number has no place
abbrev pub TakesMemory : Reply → Given → Type 0
TakesMemory (HandleReply handle) given = get nat_cmp given.handles handle.number ≡ None
TakesMemory (Requested id) given = vec_capacity given.requests ≤ id.number
TakesMemory _ given = ⊥

-- an adapter may have this tag: tags count from 0, and there are at most 32
abbrev pub IsTag : ℕ → Type 0
IsTag tag = tag < 32

-- an order moves bytes: it is a read or a write
abbrev pub MovesBytes : Order → Type 0
MovesBytes (Read handle offset length) = Unit {0}
MovesBytes (Write handle offset length byte through) = Unit {0}
MovesBytes _ = ⊥

-- the event that an order asks for; a partition past 255 is asked for as partition 255, which is as little there
abbrev pub IsEventOf : Given → Order → Event → Type 0
IsEventOf given (Open partition) event = event ≡ OpenEvent (if nat_lt partition 256 then partition else 255)
IsEventOf given (Close handle) event = event ≡ CloseEvent (handle_of given.handles handle)
IsEventOf given (Read handle offset length) event = event ≡ ReadEvent (handle_of given.handles handle) offset (replicate length 0)
IsEventOf given (Write handle offset length byte through) event = event ≡ WriteEvent (handle_of given.handles handle) offset (replicate length byte) through
IsEventOf given (Flush handle) event = event ≡ FlushEvent (handle_of given.handles handle)
IsEventOf given (Cancel handle request) event = event ≡ CancelIoEx (handle_of given.handles handle) (target_of given.requests.items request)
IsEventOf given (Mark request) event = event ≡ MarkEvent request
IsEventOf given QueryRemove event = event ≡ QueryEvent
IsEventOf given CancelRemove event = event ≡ RecallEvent
IsEventOf given Remove event = event ≡ RemoveEvent
IsEventOf given SurpriseRemove event = event ≡ SurpriseEvent
IsEventOf given (Act tag) event = IsTag tag × (event ≡ ActEvent tag)
IsEventOf given (Finish tag) event = IsTag tag × (event ≡ FinishEvent tag)
IsEventOf given Reset event = event ≡ ResetEvent

-- the reply to an order that is no event: memory for its bytes was refused, or there is no such tag
abbrev pub IsReplyTo : Order → Reply → Type 0
IsReplyTo (Read handle offset length) reply = reply ≡ Refused InsufficientResources []
IsReplyTo (Write handle offset length byte through) reply = reply ≡ Refused InsufficientResources []
IsReplyTo (Act tag) reply = (¬ (IsTag tag)) × (reply ≡ Ignored)
IsReplyTo (Finish tag) reply = (¬ (IsTag tag)) × (reply ≡ Ignored)
IsReplyTo _ reply = ⊥
