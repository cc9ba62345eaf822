-- The device below moves, and the filter's own table stays.
use Rattle.hold_filter.proofs.Common.{◌≡◌, ◌≤◌, ◌⊎◌, inl, inr, ℕ, ◌+◌, List, [], ◌∷◌, Option, Some, refl, sym, subst, ap, ◌∙◌, arith, map, length, All, IsPermutation, IsFalse, length-map, All-permutation, IsPermutation-refl, IsPermutation-sym, IsPermutation-map, IsPermutation-append_left, length_permutation, DeviceLabel, Start, Act, Fault, Return, AdapterView, ClientRequest, Rules, OpenRequest, State, DeviceStep, Run, as_label, AreDistinct, request_number, framed, with_window, Holds, DeviceView, Packet, Reserved, packet_number, IsOrderly, Moves, SameRooms, All-changed, AreDistinct-Run, Run-framed, Holds-Run, AllMayPass-above, TableView, here, frame_of, state_of, view_of, packet_below, packet_here, IsFrom, IsPassed, IsAdmitted, AsksAdmitted, FilterKept, IsInHand}
use Rattle.hold_filter.proofs.Orderly.{orderly_of}
use Rattle.hold_filter.proofs.Rooms.{same_without, rooms_refl}
use Rattle.hold_filter.proofs.Spots.{kept_same}

-- what is shown but for machine, packets, rooms and adapter
abbrev pub moved_to : DeviceView → State → List Packet → List (Option Reserved) → AdapterView → DeviceView
moved_to v s packets rooms adapter = record v { state = s; packets = packets; rooms = rooms; adapter = adapter }

pub moved_is : (v v' : DeviceView) → v'.rules ≡ v.rules → v'.submitted ≡ v.submitted → v'.most ≡ v.most → v'.places ≡ v.places
    → v' ≡ moved_to v v'.state v'.packets v'.rooms v'.adapter
moved_is v v' r s m p =
    ap (λ (x : Rules). record v' { rules = x }) r
    ∙ ap (λ (n : ℕ). record v' { rules = v.rules; submitted = n }) s
    ∙ ap (λ (n : ℕ). record v' { rules = v.rules; submitted = v.submitted; most = n }) m
    ∙ ap (λ (n : ℕ). record v' { rules = v.rules; submitted = v.submitted; most = v.most; places = n }) p

-- as many requests below as packets
pub counted : (v : DeviceView) → IsOrderly v → length v.state.requests ≡ length v.packets
counted v o =
    let a : length (map request_number v.state.requests) ≡ length (map packet_number v.packets) =
    length_permutation _ _ o.packets in
    let b : length (map request_number v.state.requests) ≡ length v.state.requests =
    length-map v.state.requests request_number in
    let c : length (map packet_number v.packets) ≡ length v.packets = length-map v.packets packet_number in
    omega arith

-- a step of the device gives no number, removes nothing, and pauses nothing
pub record Keeps (s s' : State) : Type 0 where
  pub next_request : s'.next_request ≡ s.next_request
  pub removing : s'.removing ≡ s.removing
  pub paused : s'.paused ≡ s.paused

step_keeps : (rules : Rules) (s : State) (label : DeviceLabel) (s' : State) → DeviceStep rules s label s'
    → Keeps s s'
step_keeps rules s (Start number tag block) s' h =
    record { next_request = h.after.next_request; removing = h.after.removing; paused = h.after.paused }
step_keeps rules s (Act number bytes) s' h =
    record { next_request = h.after.next_request; removing = h.after.removing; paused = h.after.paused }
step_keeps rules s (Fault number) s' h =
    record { next_request = h.after.next_request; removing = h.after.removing; paused = h.after.paused }
step_keeps rules s (Return number class) s' h =
    record { next_request = h.after.next_request; removing = h.after.removing; paused = h.after.paused }

pub run_keeps : (rules : Rules) (labels : List DeviceLabel) (s s' : State) → Run rules s (map as_label labels) s'
    → Keeps s s'
run_keeps rules [] s s' same =
    record { next_request = sym same.next_request; removing = sym same.removing; paused = sym same.paused }
run_keeps rules (label ∷ labels) s s' (mid, inl (free, step), rest) =
    let a : Keeps s mid = step_keeps rules s label mid step in
    let b : Keeps mid s' = run_keeps rules labels mid s' rest in
    record {
      next_request = b.next_request ∙ a.next_request;
      removing = b.removing ∙ a.removing;
      paused = b.paused
          ∙ a.paused;
    }
run_keeps rules (label ∷ labels) s s' (mid, inr none, rest) = absurd none

-- nor does it change what a request asks for
module _ (P : ClientRequest → Type 0) where
  abbrev pub Asks : OpenRequest → Type 0
  Asks o = P o.request

  step_asks : (rules : Rules) (s : State) (label : DeviceLabel) (s' : State) → All Asks s.requests
      → DeviceStep rules s label s' → All Asks s'.requests
  step_asks rules s (Start number tag block) s' all h =
      All-permutation Asks _ _ (IsPermutation-sym _ _ h.after.requests)
      (All-changed Asks s.requests h.owner _ h.others h.is_open all (λ mine. mine))
  step_asks rules s (Act number bytes) s' all h =
      All-permutation Asks _ _ (IsPermutation-sym _ _ h.after.requests) all
  step_asks rules s (Fault number) s' all h = All-permutation Asks _ _ (IsPermutation-sym _ _ h.after.requests) all
  step_asks rules s (Return number class) s' all h =
      All-permutation Asks _ _ (IsPermutation-sym _ _ h.after.requests)
      (All-changed Asks s.requests h.owner _ h.others h.is_open all (λ mine. mine))

  pub run_asks : (rules : Rules) (labels : List DeviceLabel) (s s' : State) → All Asks s.requests
      → Run rules s (map as_label labels) s' → All Asks s'.requests
  run_asks rules [] s s' all same = All-permutation Asks _ _ same.requests all
  run_asks rules (label ∷ labels) s s' all (mid, inl (free, step), rest) =
      run_asks rules labels mid s' (step_asks rules s label mid all step) rest
  run_asks rules (label ∷ labels) s s' all (mid, inr none, rest) = absurd none

module _ (stack_size : ℕ) where
  pub in_hand : (v : DeviceView) (b : TableView) → FilterKept stack_size v b
      → (IsFalse b.paused → IsFalse b.removing → (b.held ≡ []) ⊎ (b.window ≤ length v.state.requests))
      → IsInHand stack_size v b
  in_hand v b k released = record { kept = k; released = released; orderly = orderly_of stack_size v b k released }

  -- what the filter needs of a move below
  pub record StaysBelow (v : DeviceView) (b : TableView) (s : State) (packets' : List Packet)
      (rooms' : List (Option Reserved)) (adapter : AdapterView) : Type 0 where
    pub ordered : IsOrderly (moved_to v s packets' rooms' adapter)
    pub packets : IsPermutation packets' v.packets
    pub same_rooms : SameRooms v.rooms rooms'
    pub next_request : s.next_request ≡ v.state.next_request
    pub removing : s.removing ≡ v.state.removing
    pub holds : Holds b.window (frame_of v.rules b) s
    pub distinct : AreDistinct (framed (frame_of v.rules b) s)
    pub asked_below : All (AsksAdmitted v.rules) s.requests

  module _ (v : DeviceView) (b : TableView) where
    pub kept_below : (s : State) (packets : List Packet) (rooms : List (Option Reserved)) (adapter : AdapterView)
        → StaysBelow v b s packets rooms adapter
        → FilterKept stack_size v b → FilterKept stack_size (moved_to v s packets rooms adapter) b
    kept_below s packets rooms adapter h k =
        let same_count : length s.requests ≡ length v.state.requests =
        counted (moved_to v s packets rooms adapter) h.ordered ∙ sym (length_permutation _ _ h.packets)
        ∙ sym (counted v k.ordered) in
        record {
          below = record {
            own_location = k.below.own_location;
            no_window = k.below.no_window;
            most =
                k.below.most;
          };
          ordered = h.ordered;
          rooms = kept_same v.rules v.rooms v.packets b.held b.ended b.places k.rooms rooms packets h.same_rooms
              h.packets;
          asked = k.asked;
          asked_below = h.asked_below;
          can_go = k.can_go;
          cancelled = k.cancelled;
          whole = k.whole;
          in_turn = k.in_turn;
          holds = h.holds;
          distinct = h.distinct;
          counted = k.counted ∙ length_permutation _ _ h.packets;
          passed = All-permutation IsPassed _ _ (IsPermutation-sym _ _ h.packets) k.passed;
          next_below = subst (λ n. n ≤ b.last_number + 1) (sym h.next_request) k.next_below;
          later = subst (λ n. All (IsFrom n) b.held) (sym h.next_request) k.later;
          some_window = k.some_window;
          removing = k.removing ∙ sym h.removing;
          going = k.going;
          full = λ going staying. subst (λ n. (b.ended ≡ []) ⊎ (b.window ≤ n)) (sym same_count)
              (k.full going staying);
          submitted = k.submitted;
          few = k.few;
        }

    -- and in hand, since as many requests are below
    pub hand_below : (s : State) (packets : List Packet) (rooms : List (Option Reserved)) (adapter : AdapterView)
        → StaysBelow v b s packets rooms adapter
        → IsInHand stack_size v b → IsInHand stack_size (moved_to v s packets rooms adapter) b
    hand_below s packets rooms adapter h k =
        let kept : FilterKept stack_size (moved_to v s packets rooms adapter) b =
        kept_below s packets rooms adapter h k.kept in
        let same_count : length s.requests ≡ length v.state.requests =
        counted (moved_to v s packets rooms adapter) h.ordered ∙ sym (length_permutation _ _ h.packets)
        ∙ sym (counted v k.kept.ordered) in
        in_hand (moved_to v s packets rooms adapter) b kept
        (λ going staying. subst (λ n. (b.held ≡ []) ⊎ (b.window ≤ n)) (sym same_count) (k.released going staying))

    -- the filter's machine and the adapter move by the labels by which those below do
    pub shown_moves : (labels : List DeviceLabel) (v' : DeviceView) → FilterKept stack_size v b → Moves v labels v'
        → Moves (view_of v b) labels (view_of v' b)
    shown_moves labels v' k m =
        let e : v' ≡ moved_to v v'.state v'.packets v'.rooms v'.adapter =
        moved_is v v' m.same_rules m.same_submitted m.same_most m.same_places in
        subst (λ (x : DeviceView). Moves (view_of v b) labels (view_of x b)) (sym e) (record {
          same_rules = refl;
          same_packets = IsPermutation-append_left (map packet_here (here b)) _ _
              (IsPermutation-map packet_below _ _ m.same_packets);
          same_rooms = same_without v.rooms v'.rooms (here b) m.same_rooms;
          same_submitted = refl;
          same_most = refl;
          same_places = refl;
          run = Run-framed (frame_of v.rules b) (Some b.window) v.rules v.state labels v'.state
              (AllMayPass-above b.window (frame_of v.rules b) v.state k.holds) m.run;
          adapter = m.adapter;
        })

    -- what the filter needs of the move it has, with whatever becomes of the adapter
    pub stays_moved : (labels : List DeviceLabel) (s : State) (packets : List Packet)
        (rooms : List (Option Reserved))
        (moved adapter : AdapterView)
        → FilterKept stack_size v b → IsOrderly (moved_to v s packets rooms adapter)
        → Moves v labels (moved_to v s packets rooms moved) → StaysBelow v b s packets rooms adapter
    stays_moved labels s packets rooms moved adapter k ordered m =
        let same : Keeps v.state s = run_keeps v.rules labels v.state s m.run in
        record {
          ordered = ordered;
          packets = m.same_packets;
          same_rooms = m.same_rooms;
          next_request = same.next_request;
          removing = same.removing;
          holds = Holds-Run b.window (frame_of v.rules b) v.rules v.state labels s k.holds m.run;
          distinct = AreDistinct-Run (with_window (Some b.window) v.rules) (state_of v b)
              (map as_label labels) _ k.distinct
              (shown_moves labels (moved_to v s packets rooms moved) k m).run;
          asked_below = run_asks (IsAdmitted v.rules) v.rules labels v.state s k.asked_below m.run;
        }

    -- the device below moved, and the filter is in order
    abbrev pub Passes : DeviceView → Type 0
    Passes v' = IsInHand stack_size v b → IsInHand stack_size v' b

    pub passes_stays : (v' : DeviceView) → v' ≡ moved_to v v'.state v'.packets v'.rooms v'.adapter
        → StaysBelow v b v'.state v'.packets v'.rooms v'.adapter → Passes v'
    passes_stays v' e stays k = subst (λ (x : DeviceView). IsInHand stack_size x b) (sym e)
        (hand_below v'.state v'.packets v'.rooms v'.adapter stays k)

    pub passes : (labels : List DeviceLabel) (v' : DeviceView) (moved : AdapterView) → IsOrderly v'
        → Moves v labels (record v' { adapter = moved }) → Passes v'
    passes labels v' moved ordered m k =
        let e : v' ≡ moved_to v v'.state v'.packets v'.rooms v'.adapter =
        moved_is v v' m.same_rules m.same_submitted m.same_most m.same_places in
        let e' : record v' { adapter = moved } ≡ moved_to v v'.state v'.packets v'.rooms moved =
        moved_is v (record v' { adapter = moved }) m.same_rules m.same_submitted m.same_most m.same_places in
        passes_stays v' e
        (stays_moved labels v'.state v'.packets v'.rooms moved v'.adapter k.kept (subst IsOrderly e ordered)
        (subst (λ (x : DeviceView). Moves v labels x) e' m)) k

    -- nothing moved but the adapter, or nothing at all
    pub passes_same : (v' : DeviceView) → IsOrderly v' → v' ≡ record v { adapter = v'.adapter } → Passes v'
    passes_same v' ordered e k =
        subst (λ (x : DeviceView). IsInHand stack_size x b) (sym e)
        (hand_below v.state v.packets v.rooms v'.adapter (record {
          ordered = subst IsOrderly e ordered;
          packets = IsPermutation-refl _;
          same_rooms = rooms_refl v.rooms;
          next_request = refl;
          removing = refl;
          holds = k.kept.holds;
          distinct = k.kept.distinct;
          asked_below = k.kept.asked_below;
        }) k)
