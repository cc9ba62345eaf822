-- What the filter shows: the machine of the device below, with the requests that it holds.
use Rattle.std.specs.Prelude.{ℕ, ◌+◌, ◌-◌, ◌||◌, Bool, List, [], ◌∷◌, ◌++◌, map, length, take, replicate}
use Rattle.std.specs.Prelude.{Option, Some, None, slice_set}
use Rattle.irp.specs.declared.StackLocation.{StackLocation}
use Rattle.irp.specs.Climb.{above as locations_above}
use Rattle.machine.specs.Rules.{Rules, place_count, as_client}
use Rattle.machine.specs.State.{Untouched, OpenRequest, State}
use Rattle.machine.specs.Frame.{Frame, framed, with_window}
use Rattle.device.specs.View.{DeviceView, Packet, Reserved, sent_bytes}
use Rattle.hold_filter.specs.declared.table.Held.{Held}
use Rattle.hold_filter.specs.declared.table.Table.{Table}
use Rattle.hold_filter.specs.Shown.{Queued, FilterView}
use Rattle.hold_filter.specs.inside.TableView.{TableView, books_of, here, in_all}
use Rattle.hold_filter.specs.inside.Packets.{request_in}

-- PACKETS

-- all but the last location
abbrev pub but_last : List StackLocation → List StackLocation
but_last locations = take (length locations - 1) locations

-- a packet below as the layer above the filter sees it: without the filter's own location
abbrev pub packet_below : Packet → Packet
packet_below p = record p { above = but_last p.above }

-- a packet here as the layer above sees it
abbrev pub packet_here : Held → Packet
packet_here held = record {
  number = held.irp.value.number;
  spot = held.room.spot;
  above = locations_above held.irp.value;
  cancel_routine = held.routine;
}

-- all packets
abbrev pub packets_of : DeviceView → TableView → List Packet
packets_of v b = map packet_below v.packets ++ map packet_here (here b)

-- what is reserved below, without the rooms of these packets
abbrev pub without : List (Option Reserved) → List Held → List (Option Reserved)
without rooms [] = rooms
without rooms (held ∷ rest) = slice_set (without rooms rest) held.room.spot None

-- OPEN REQUESTS

-- the open request of a packet here, of which nothing was sent
abbrev pub open_here : Rules → Bool → Held → OpenRequest
open_here rules late held = record {
  number = held.irp.value.number;
  request = as_client rules (request_in held.irp.value)
      (sent_bytes (request_in held.irp.value).kind held.irp.value.payload);
  cancelled = held.irp.value.cancelled;
  late = late;
  busy_returns = 0;
  marks = replicate (place_count rules (as_client rules (request_in held.irp.value) [])) Untouched;
}

-- during a pause, and once the device is removed, all requests in the filter are late
abbrev pub are_late : TableView → Bool
are_late b = b.paused || b.removing

-- the requests in the filter
abbrev pub requests_here : Rules → TableView → List OpenRequest
requests_here rules b = map (open_here rules (are_late b)) (here b)

-- what the filter adds to the machine below
abbrev pub frame_of : Rules → TableView → Frame
frame_of rules b = record { held = requests_here rules b; next_request = b.last_number + 1; paused = b.paused }

-- the machine
abbrev pub state_of : DeviceView → TableView → State
state_of v b = framed (frame_of v.rules b) v.state

-- the device that the filter is
abbrev pub view_of : DeviceView → TableView → DeviceView
view_of v b = record {
  rules = with_window (Some b.window) v.rules;
  state = state_of v b;
  packets = packets_of v b;
  rooms = without v.rooms (here b);
  submitted = b.submitted;
  most = v.most;
  places = v.places + in_all b.places;
  adapter = v.adapter;
}

-- the spot and the number of an entry
abbrev pub queued : ℕ × Held → Queued
queued e = record { spot = e.0; number = e.1.irp.value.number }

-- all that the filter shows
abbrev pub shown_of : DeviceView → Table → FilterView
shown_of v t = record {
  shown = view_of v (books_of t);
  queue = map queued t.held.entries;
  queue_visits = t.held.visits;
  ended_visits = t.ended.visits;
}
