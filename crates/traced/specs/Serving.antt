-- The open request in a slot, and the kinds of events.
use Rattle.std.specs.Prelude.{ℕ, Bool, true, false, Option, None, option_map, slice_index_or}
use Rattle.io_manager.specs.Shown.{ManagerView}
use Rattle.compose.specs.declared.Event.{Event}
use Rattle.compose.specs.declared.Event.TheVariants.{Open, Close, Read, Write, Flush}

-- the number of the open request in a slot
abbrev pub open_at : ManagerView → ℕ → Option ℕ
open_at v k = option_map (λ h. h.number) (slice_index_or v.holders k None)

-- a read, a write or a flush
abbrev pub is_call_event : Event → Bool
is_call_event (Read handle offset buffer) = true
is_call_event (Write handle offset bytes through) = true
is_call_event (Flush handle) = true
is_call_event _ = false

-- an event that opens or closes a handle
abbrev pub is_handle_event : Event → Bool
is_handle_event (Open partition) = true
is_handle_event (Close handle) = true
is_handle_event _ = false
