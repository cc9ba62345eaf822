-- Places made, and given back.
use Rattle.std.proofs.Common.{◌≡◌, ℕ, ◌+◌, ◌-◌, List, ◌∷◌, Option, Some, None, refl, sym, subst, arith, length}
use Rattle.std.specs.Prelude.{All}
use Rattle.std.proofs.lemmas.List.Elements.{All-cons, All-tail, All-weaker}
use Rattle.std.specs.Prelude.{Result, Ok, Err, OnErr}
use Rattle.sector.specs.declared.Extent.{Extent}
use Rattle.adapter.specs.View.{AdapterView, IsInOrder, IsReserved, ReservesMore}
use Rattle.srb.specs.declared.Kind.TheVariants.{Write}
use Rattle.machine.specs.declared.Request.{Request}
use Rattle.machine.specs.Rules.{Rules}
use Rattle.device.specs.View.{IsBounded}
use Rattle.port.specs.inside.TableView.{TableView, Capacity, spot_in}
use Rattle.port.specs.Shown.{rules_of, of_packets}
use Rattle.port.specs.inside.Invariant.{asked, PortKept, IsInHand, IsRoom, IsWaiting, IsTaken}
use Rattle.port.proofs.Places.{taken_stays}
use Rattle.port.specs.inside.TableCalls.{AddsNone, AddsPlace, RemovesPlace}
use Rattle.port.proofs.Starting.{room_moves, waiting_moves}
use Rattle.port.proofs.Orderly.{in_hand}

abbrev with_places : TableView → ℕ → List (Option (Option Request)) → Capacity → TableView
with_places b places slots capacity = record b { places = places; rooms = slots; capacity = capacity }

abbrev with_reserved : AdapterView → List Extent → AdapterView
with_reserved v reserved = record v { reserved = reserved }

-- another number of places for other rooms
kept_places : (b : TableView) (v : AdapterView) (places : ℕ) (slots : List (Option (Option Request))) (capacity : Capacity) (rooms others : List Request) → length others + b.places ≡ length rooms + places
    → All (IsRoom (rules_of b.sizes) v) others → All (IsTaken slots) (of_packets spot_in b v) → PortKept b v rooms → PortKept (with_places b places slots capacity) v others
kept_places b v places slots capacity rooms others counts are taken k = record {
  adapter = k.adapter;
  sizes = k.sizes;
  started = k.started;
  waiting = k.waiting;
  in_turn = k.in_turn;
  at_work = k.at_work;
  ended = k.ended;
  reserved = k.reserved;
  rooms_out = are;
  spots = k.spots;
  taken = taken;
  removing = k.removing;
  distinct = k.distinct;
  places = let c = k.places in omega arith;
  submitted = k.submitted;
  accepted = k.accepted;
  numbered = k.numbered;
  labels = k.labels;
}

kept_reserved : (b : TableView) (v : AdapterView) (reserved : List Extent) (rooms : List Request) → IsInOrder (with_reserved v reserved) → ((extent : Extent) → IsReserved v extent → IsReserved (with_reserved v reserved) extent)
    → PortKept b v rooms → PortKept b (with_reserved v reserved) rooms
kept_reserved b v reserved rooms order lasts k =
    let rules : Rules = rules_of b.sizes in
    record {
      adapter = order;
      sizes = record { sector_size = k.sizes.sector_size; sectors = k.sizes.sectors; max_transfer = k.sizes.max_transfer; depth = k.sizes.depth; faithful = k.sizes.faithful; keeps_bytes = k.sizes.keeps_bytes };
      started = k.started;
      waiting = All-weaker (IsWaiting rules v) (IsWaiting rules (with_reserved v reserved)) (waiting_moves rules v (with_reserved v reserved) lasts) b.waiting k.waiting;
      in_turn = k.in_turn;
      at_work = k.at_work;
      ended = k.ended;
      reserved = All-weaker (IsRoom rules v) (IsRoom rules (with_reserved v reserved)) (room_moves rules v (with_reserved v reserved) lasts) (of_packets asked b v) k.reserved;
      spots = k.spots;
      taken = k.taken;
      rooms_out = All-weaker (IsRoom rules v) (IsRoom rules (with_reserved v reserved)) (room_moves rules v (with_reserved v reserved) lasts) rooms k.rooms_out;
      removing = k.removing;
      distinct = k.distinct;
      places = k.places;
      submitted = k.submitted;
      accepted = k.accepted;
      numbered = k.numbered;
      labels = k.labels;
    }

-- what the adapter reserves beside stays
pub hand_reserved : (b : TableView) (v v' : AdapterView) (rooms : List Request) → ReservesMore v v' → IsInOrder v' → IsInHand b v rooms → IsInHand b v' rooms
hand_reserved b v v' rooms h order k =
    subst (λ x. IsInHand b x rooms) (sym h.after) (in_hand b (with_reserved v h.reserved) rooms
    (kept_reserved b v h.reserved rooms (subst IsInOrder h.after order) (λ extent r. subst (λ x. IsReserved x extent) h.after (h.lasts extent r)) k.kept) k.busy)

-- one place more, for a request that is bounded and reserved
pub hand_added : (b b' : TableView) (v : AdapterView) (r : Request) (spot : ℕ) (rooms : List Request) → AddsPlace b spot r b' → IsRoom (rules_of b.sizes) v r → IsInHand b v rooms → IsInHand b' v (r ∷ rooms)
hand_added b b' v r spot rooms e room k =
    subst (λ x. IsInHand x v (r ∷ rooms)) (sym e.after) (in_hand (with_places b (b.places + 1) b'.rooms b'.capacity) v (r ∷ rooms)
    (kept_places b v (b.places + 1) b'.rooms b'.capacity rooms (r ∷ rooms) (omega arith) (All-cons (IsRoom (rules_of b.sizes) v) r rooms room k.kept.rooms_out)
    (taken_stays b.rooms spot None (Some (Some r)) b'.rooms e.slot (λ bad. cc (bad)) (of_packets spot_in b v) k.kept.taken) k.kept) k.busy)

pub hand_freed : (b b' : TableView) (v : AdapterView) (spot : ℕ) (rooms : List Request) (e : RemovesPlace b spot b') → IsInHand b v (e.request ∷ rooms) → IsInHand b' v rooms
hand_freed b b' v spot rooms e k =
    subst (λ x. IsInHand x v rooms) (sym e.after) (in_hand (with_places b (b.places - 1) b'.rooms b.capacity) v rooms
    (kept_places b v (b.places - 1) b'.rooms b.capacity (e.request ∷ rooms) rooms (let c = k.kept.places in omega arith) (All-tail (IsRoom (rules_of b.sizes) v) e.request rooms k.kept.rooms_out)
    (taken_stays b.rooms spot (Some (Some e.request)) None b'.rooms e.slot (λ bad. cc (bad)) (of_packets spot_in b v) k.kept.taken) k.kept) k.busy)

-- no place more, though tables may have grown
pub hand_grown : (b b' : TableView) (v : AdapterView) (rooms : List Request) → AddsNone b b' → IsInHand b v rooms → IsInHand b' v rooms
hand_grown b b' v rooms e k =
    subst (λ x. IsInHand x v rooms) (sym e) (in_hand (with_places b b.places b.rooms b'.capacity) v rooms
    (kept_places b v b.places b.rooms b'.capacity rooms rooms refl k.kept.rooms_out k.kept.taken k.kept) k.busy)

-- who shows the same grew by nothing
pub none_added : (b c : TableView) → c ≡ b → AddsNone b c
none_added b c e = subst (AddsNone b) (sym e) refl

pub on_err : {T E P : Type 0} (r : Result T E) → P → OnErr r P
on_err (Ok x) p = tt
on_err (Err x) p = p

pub hand_after : (b b' : TableView) (v v' : AdapterView) (rooms : List Request) → AddsNone b b' → ReservesMore v v' → IsInOrder v' → IsInHand b v rooms → IsInHand b' v' rooms
hand_after b b' v v' rooms e h order k = hand_grown b b' v' rooms e (hand_reserved b v v' rooms h order k)

pub hand_made : (b c d : TableView) (v v' : AdapterView) (r : Request) (spot : ℕ) (rooms : List Request) → c ≡ b → AddsPlace c spot r d → ReservesMore v v' → IsInOrder v'
    → IsBounded (rules_of b.sizes) r → (r.kind ≡ Write → IsReserved v' r.extent) → IsInHand b v rooms → IsInHand d v' (r ∷ rooms)
hand_made b c d v v' r spot rooms e f h order bounded reserved k =
    let room : IsRoom (rules_of c.sizes) v' r = record { bounded = subst (λ (x : TableView). IsBounded (rules_of x.sizes) r) (sym e) bounded; reserved = reserved } in
    hand_added c d v' r spot rooms f room (hand_after b c v v' rooms (none_added b c e) h order k)
