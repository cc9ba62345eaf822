-- The rooms of the layer below, as they are reserved, spent and given back.
use Rattle.std.proofs.Common.{ℕ, Option, Some, None, List, ◌∷◌, sym, subst}
use Rattle.class_disk.proofs.Common.{IsPermutation, IsPermutation-sym, IsPermutation-trans, IsPermutation-cons, IsPermutation-uncons, SameRooms, SetsRoom, AllOut}
use Rattle.device.specs.View.{DeviceView, Reserved, IsOrderly}
use Rattle.device.specs.inside.Out.{Ticket, AreOut, IsGood, tickets_of}
use Rattle.device.proofs.Out.{out_any_order as any_order_of, out_same as same_of, out_more as more_of, out_less as less_of, out_first as first_of, same_tickets, tickets_more, tickets_less}

are_out : (v : DeviceView) (tickets : List Ticket) → AllOut v tickets → AreOut v tickets
are_out v tickets h = record { orderly = h.orderly; good = h.good; apart = h.apart }

all_out : (v : DeviceView) (tickets : List Ticket) → AreOut v tickets → IsPermutation (tickets_of v.rooms) tickets → AllOut v tickets
all_out v tickets h all = record { orderly = h.orderly; good = h.good; apart = h.apart; all = all }

-- the order of a list of rooms says nothing
pub out_any_order : (v : DeviceView) (some others : List Ticket) → IsPermutation some others → AllOut v some → AllOut v others
out_any_order v some others p h = all_out v others (any_order_of v some others p (are_out v some h)) (IsPermutation-trans _ _ _ h.all p)

-- a call that leaves the rooms as they were
pub out_same : (old new : DeviceView) (tickets : List Ticket) → IsOrderly new → SameRooms old.rooms new.rooms → AllOut old tickets → AllOut new tickets
out_same old new tickets o same h =
    all_out new tickets (same_of old new tickets o same (are_out old tickets h))
    (subst (λ ts. IsPermutation ts tickets) (sym (same_tickets 0 old.rooms new.rooms same)) h.all)

-- a room is reserved, or a packet leaves its own
pub out_more : (old new : DeviceView) (spot : ℕ) (reserved : Reserved) (tickets : List Ticket) → IsOrderly new → SetsRoom old.rooms spot None (Some reserved) new.rooms → AllOut old tickets
    → AllOut new (record { spot = spot; reserved = reserved } ∷ tickets)
out_more old new spot reserved tickets o sets h =
    all_out new (record { spot = spot; reserved = reserved } ∷ tickets) (more_of old new spot reserved tickets o sets (are_out old tickets h))
    (IsPermutation-trans _ _ _ (tickets_more spot reserved old.rooms new.rooms sets) (IsPermutation-cons (record { spot = spot; reserved = reserved }) _ _ h.all))

-- what the holder of a room may do with it
pub out_first : (v : DeviceView) (ticket : Ticket) (tickets : List Ticket) → AllOut v (ticket ∷ tickets) → IsGood v ticket
out_first v ticket tickets h = first_of v ticket tickets (are_out v (ticket ∷ tickets) h)

-- a room is spent or given back
pub out_less : (old new : DeviceView) (ticket : Ticket) (before : Option Reserved) (tickets : List Ticket) → IsOrderly new → SetsRoom old.rooms ticket.spot before None new.rooms → AllOut old (ticket ∷ tickets)
    → AllOut new tickets
out_less old new ticket before tickets o sets h =
    let own : SetsRoom old.rooms ticket.spot (Some ticket.reserved) None new.rooms = record { was = out_first old ticket tickets h; is = sets.is; others = sets.others } in
    all_out new tickets (less_of old new ticket before tickets o sets (are_out old (ticket ∷ tickets) h))
    (IsPermutation-uncons ticket _ _ (IsPermutation-trans _ _ _ (IsPermutation-sym _ _ (tickets_less ticket.spot ticket.reserved old.rooms new.rooms own)) h.all))
