-- The piece of a tag acts or faults, and stays on its tag.
use Rattle.std.proofs.Common.{◌≡◌, ◌≤◌, ◌⊎◌, inl, inr, ℕ, ◌==◌, zero, suc, ◌+◌, ◌-◌, Bool, true, false, List, [], ◌∷◌, ◌++◌, Some, refl, sym, subst, ap, ◌∙◌, arith, map, length}
use Rattle.std.specs.Prelude.{All, Contains, IsPermutation, MatchBool}
use Rattle.std.proofs.lemmas.List.{length-append, length-map}
use Rattle.std.proofs.lemmas.List.Elements.{All-cons, All-weaker, All-tail}
use Rattle.std.proofs.lemmas.List.Sorted.{IsPermutation-refl, IsPermutation-sym, IsPermutation-trans, IsPermutation-cons, IsPermutation-middle, IsPermutation-append_left, IsPermutation-append_right, All-permutation, Contains-permutation, length_permutation}
use Rattle.sector.specs.Extents.{IsSector}
use Rattle.srb.specs.declared.DeviceLabel.{DeviceLabel}
use Rattle.srb.specs.declared.DeviceLabel.TheVariants.{Act, Fault}
use Rattle.adapter.specs.Performing.{CarriesOut}
use Rattle.srb.specs.Fate.{Fresh}
use Rattle.adapter.specs.View.{AdapterView, TagInUse, IsInOrder, IsOn, ActsOn as AdapterActsOn, FaultsOn as AdapterFaultsOn, MovesOn, acted, faulted}
use Rattle.adapter.specs.Calls.{IsBooked, ActsOrFaults as AdapterActsOrFaults, ActsNot as AdapterActsNot}
use Rattle.irp.specs.declared.Payload.TheVariants.{Srb as Packed}
use Rattle.machine.specs.declared.Request.{Request}
use Rattle.machine.specs.Rules.{Rules, as_client}
use Rattle.machine.specs.State.{OpenRequest, Piece}
use Rattle.machine.specs.Sending.{Acts, Faults}
use Rattle.device.specs.View.{AsksFor, label_places, sent_bytes}
use Rattle.device.specs.Served.{IsAct, IsActOrFault, ActsOrFaults, ActsNot}
use Rattle.machine.specs.Step.{DeviceStep}
use Rattle.machine.proofs.Same.{IsSame-refl}
use Rattle.machine.proofs.Numbers.{AreDistinct-DeviceStep}
use Rattle.port.specs.declared.queues.PortPacket.{PortPacket}
use Rattle.port.specs.inside.TableView.{PacketEntry, TableView, entry_of, spot_in}
use Rattle.port.specs.inside.TableCalls.{held_on}
use Rattle.port.specs.Shown.{rules_of, waiting_open, done_open, out_open, out_piece, open_on, piece_on, packet as packet_as, of_packets, of_waiting, of_done, state_of, view_of, requests_of}
use Rattle.port.specs.inside.Invariant.{asked, PortKept, IsInHand, IsRoom, IsWaiting, IsEmptyIfFlush, IsAtWork, IsDoing, IsTaken}
use Rattle.port.proofs.Places.{distinct_same}
use Rattle.port.proofs.Lists.{second_front}
use Rattle.adapter.proofs.Joining.{moves_one}
use Rattle.port.proofs.Starting.{room_moves, waiting_moves, kept_sector_some}
use Rattle.port.proofs.Returning.{tags_on, on_tag_work, on_tag_some}
use Rattle.port.proofs.Orderly.{in_hand}
use Rattle.port.proofs.Spoiling.{spoiled_same, none_as_many}
use Rattle.port.proofs.Acting.{IsCarried, carried, the_arrays}

-- the view with other sectors, tags and failures, and one label more
abbrev pub view_turned : AdapterView → List (List ℕ) → List TagInUse → ℕ → DeviceLabel → AdapterView
view_turned v sectors tags failures label = record v { sectors = sectors; tags = tags; failures = failures; labels = v.labels ++ label ∷ [] }

record Turned (b : TableView) (v : AdapterView) (tag : ℕ) (use' use'' : TagInUse) (others tags' : List TagInUse) (sectors : List (List ℕ)) (held : PortPacket) : Type 0 where
  on : IsOn v tag use' others
  in_use : IsPermutation tags' (use'' ∷ others)
  same_tag : use''.tag ≡ use'.tag
  held_is : held_on b.started tag ≡ Some held
  same_open : out_open (rules_of b.sizes) (entry_of held) use'' ≡ out_open (rules_of b.sizes) (entry_of held) use'
  doing : IsDoing (rules_of b.sizes) held.request use''.fate use''.srb
  empty : IsEmptyIfFlush held.request use''.srb.data
  long : length sectors ≡ length v.sectors

-- all of it, of an act or a fault
pub record IsTurned (b : TableView) (v : AdapterView) (tag : ℕ) (v' : AdapterView) : Type 0 where
  pub rooms : (rooms : List Request) → IsInHand b v rooms → IsInHand b v' rooms
  pub acts : ActsOrFaults (view_of b v) tag (view_of b v')

module _ (b : TableView) (v : AdapterView) (tag : ℕ) (use' use'' : TagInUse) (others tags' : List TagInUse) (sectors : List (List ℕ)) (held : PortPacket) (failures : ℕ) (label : DeviceLabel) where
  -- before and after, the tag's and the others'
  on_before : Turned b v tag use' use'' others tags' sectors held → held_on b.started use'.tag ≡ Some held
  on_before h = subst (λ t. held_on b.started t ≡ Some held) (sym h.on.has_tag) h.held_is

  on_after : Turned b v tag use' use'' others tags' sectors held → held_on b.started use''.tag ≡ Some held
  on_after h = subst (λ t. held_on b.started t ≡ Some held) (sym h.same_tag) (on_before h)

  requests_turned : Turned b v tag use' use'' others tags' sectors held → IsPermutation (requests_of b (view_turned v sectors tags' failures label)) (requests_of b v)
  requests_turned h =
      let rules : Rules = rules_of b.sizes in
      let after = tags_on (out_open rules) b.started tags' use'' others held h.in_use (on_after h) in
      let before = tags_on (out_open rules) b.started v.tags use' others held h.on.in_use (on_before h) in
      let both : IsPermutation (map (open_on rules b.started) tags') (map (open_on rules b.started) v.tags) =
      IsPermutation-trans _ _ _ (subst (λ (x : OpenRequest). IsPermutation (map (open_on rules b.started) tags') (x ∷ map (open_on rules b.started) others)) h.same_open after) (IsPermutation-sym _ _ before) in
      IsPermutation-append_right (map (waiting_open rules) b.waiting) _ _ (IsPermutation-append_left (map (done_open rules) b.done) _ _ both)

  packets_turned : {Y : Type 0} (f : PacketEntry → Y) → Turned b v tag use' use'' others tags' sectors held → IsPermutation (of_packets f b (view_turned v sectors tags' failures label)) (of_packets f b v)
  packets_turned f h =
      let after = tags_on (λ e u. f e) b.started tags' use'' others held h.in_use (on_after h) in
      let before = tags_on (λ e u. f e) b.started v.tags use' others held h.on.in_use (on_before h) in
      IsPermutation-append_right (map (of_waiting f) b.waiting) _ _ (IsPermutation-append_left (map (of_done f) b.done) _ _ (IsPermutation-trans _ _ _ after (IsPermutation-sym _ _ before)))

  is_out : Turned b v tag use' use'' others tags' sectors held → IsPermutation (map (piece_on (rules_of b.sizes) b.started) v.tags) (out_piece (rules_of b.sizes) (entry_of held) use' ∷ map (piece_on (rules_of b.sizes) b.started) others)
  is_out h = tags_on (out_piece (rules_of b.sizes)) b.started v.tags use' others held h.on.in_use (on_before h)

  pieces_turned : Turned b v tag use' use'' others tags' sectors held → IsPermutation (map (piece_on (rules_of b.sizes) b.started) tags') (out_piece (rules_of b.sizes) (entry_of held) use'' ∷ map (piece_on (rules_of b.sizes) b.started) others)
  pieces_turned h = tags_on (out_piece (rules_of b.sizes)) b.started tags' use'' others held h.in_use (on_after h)

  kept_turned : (rooms : List Request) → PortKept b v rooms → Turned b v tag use' use'' others tags' sectors held → length v.labels + (v.depth - length v.tags) + 1 ≤ 64
      → IsInOrder (view_turned v sectors tags' failures label) → DeviceStep (rules_of b.sizes) (state_of b v) label (state_of b (view_turned v sectors tags' failures label))
      → PortKept b (view_turned v sectors tags' failures label) rooms
  kept_turned rooms k h space order step =
      let rules : Rules = rules_of b.sizes in
      let v' : AdapterView = view_turned v sectors tags' failures label in
      let work = on_tag_work rules b.started v.tags use' others tag held k.at_work h.on.in_use h.on.has_tag h.held_is in
      let rest : All (IsAtWork rules b.started) others = All-tail (IsAtWork rules b.started) use' others (All-permutation (IsAtWork rules b.started) _ _ h.on.in_use k.at_work) in
      let t = length_permutation _ _ h.on.in_use in
      let t' = length_permutation _ _ h.in_use in
      record {
        adapter = order;
        sizes = record { sector_size = k.sizes.sector_size; sectors = k.sizes.sectors ∙ sym h.long; max_transfer = k.sizes.max_transfer; depth = k.sizes.depth; faithful = k.sizes.faithful; keeps_bytes = k.sizes.keeps_bytes };
        started = k.started;
        waiting = All-weaker (IsWaiting rules v) (IsWaiting rules v') (waiting_moves rules v v' (λ extent r. r)) b.waiting k.waiting;
        in_turn = k.in_turn;
        at_work = All-permutation (IsAtWork rules b.started) _ _ (IsPermutation-sym _ _ h.in_use) (All-cons (IsAtWork rules b.started) use'' others
            (record { held = held; on_tag = on_after h; bounded = work.0; doing = h.doing; empty = h.empty }) rest);
        ended = k.ended;
        reserved = All-permutation (IsRoom rules v') _ _ (IsPermutation-sym _ _ (packets_turned asked h)) (All-weaker (IsRoom rules v) (IsRoom rules v') (room_moves rules v v' (λ extent r. r)) (of_packets asked b v) k.reserved);
        spots = distinct_same _ _ (IsPermutation-sym _ _ (packets_turned spot_in h)) k.spots;
        taken = All-permutation (IsTaken b.rooms) _ _ (IsPermutation-sym _ _ (packets_turned spot_in h)) k.taken;
        rooms_out = All-weaker (IsRoom rules v) (IsRoom rules v') (room_moves rules v v' (λ extent r. r)) rooms k.rooms_out;
        removing = k.removing;
        distinct = AreDistinct-DeviceStep rules (state_of b v) label _ k.distinct step;
        places = let c = k.places in omega arith;
        submitted = k.submitted;
        accepted = k.accepted;
        numbered = k.numbered;
        labels = omega (arith, length-append v.labels (label ∷ []));
      }

  hand_turned : (rooms : List Request) → IsInHand b v rooms → Turned b v tag use' use'' others tags' sectors held → length v.labels + (v.depth - length v.tags) + 1 ≤ 64
      → IsInOrder (view_turned v sectors tags' failures label) → DeviceStep (rules_of b.sizes) (state_of b v) label (state_of b (view_turned v sectors tags' failures label))
      → IsInHand b (view_turned v sectors tags' failures label) rooms
  hand_turned rooms k h space order step =
      let t = length_permutation _ _ h.on.in_use in
      let t' = length_permutation _ _ h.in_use in
      in_hand b (view_turned v sectors tags' failures label) rooms (kept_turned rooms k.kept h space order step) (λ free. k.busy (omega arith))

  -- all of it, by the machine's step and the adapter's move of the label
  shown_turned : Turned b v tag use' use'' others tags' sectors held → use'.fate ≡ Fresh → IsActOrFault use'.piece label → (IsBooked v tag → IsAct label) → length v.labels + (v.depth - length v.tags) + 1 ≤ 64
      → IsInOrder (view_turned v sectors tags' failures label) → DeviceStep (rules_of b.sizes) (state_of b v) label (state_of b (view_turned v sectors tags' failures label))
      → MovesOn v tag label (view_turned v sectors tags' failures label) → IsTurned b v tag (view_turned v sectors tags' failures label)
  shown_turned h fresh told booked space order step moved = record {
    rooms = λ rs i. hand_turned rs i h space order step;
    acts = record {
      piece = out_piece (rules_of b.sizes) (entry_of held) use';
      label = label;
      fresh = record { is_out = Contains-permutation _ _ _ (IsPermutation-sym _ _ (is_out h)) (0, omega arith, refl); is_tag = h.on.has_tag; is_fresh = fresh };
      told = told;
      if_booked = booked;
      moves = record {
        same_rules = refl;
        same_packets = packets_turned packet_as h;
        same_rooms = λ _. refl;
        same_submitted = refl;
        same_most = refl;
        same_places = refl;
        run = (state_of b (view_turned v sectors tags' failures label), inl (refl, step), IsSame-refl _);
        adapter = moves_one v (view_turned v sectors tags' failures label) tag label moved;
      };
    };
  }

-- AN ACT

turned_act : (b : TableView) (v v' : AdapterView) (rooms : List Request) (tag piece : ℕ) (bytes : List ℕ) (a : AdapterActsOn v tag piece bytes v') (held : PortPacket) → PortKept b v rooms → held_on b.started tag ≡ Some held
    → IsCarried (rules_of b.sizes) (state_of b v) held.request held.request.kind a.use'.srb v.sectors a.moved a.sectors a.left
turned_act b v v' rooms tag piece bytes a held k on =
    let rules : Rules = rules_of b.sizes in
    let work = on_tag_work rules b.started v.tags a.use' a.others tag held k.at_work a.is_on.in_use a.is_on.has_tag on in
    let asks : AsksFor rules held.request a.use'.srb = subst (λ f. IsDoing rules held.request f a.use'.srb) a.is_fresh work.1 in
    let size = k.sizes.sector_size in
    carried b.sizes v.faithful (piece == 0) k.sizes.faithful (state_of b v) held.request a.use'.srb v.sectors a.moved a.sectors a.left a.command (kept_sector_some b v rooms k) work.0 k.sizes.sectors
    (subst (λ n. All (IsSector n) v.sectors) (sym size) k.adapter.whole_sectors) refl held.request.kind refl asks a.means
    (subst (λ n. CarriesOut v.faithful (piece == 0) n v.sectors a.use'.srb.data a.command a.moved a.sectors) (sym size) a.performs)

acted_all : (b : TableView) (v v' : AdapterView) (rooms : List Request) (tag piece : ℕ) (bytes : List ℕ) → PortKept b v rooms → length v.labels + (v.depth - length v.tags) + 1 ≤ 64
    → AdapterActsOn v tag piece bytes v' → IsInOrder v' → IsTurned b v tag v'
acted_all b v v' rooms tag piece bytes k space a order =
    let rules : Rules = rules_of b.sizes in
    let w = on_tag_some rules b.started v.tags a.use' a.others tag k.at_work a.is_on.in_use a.is_on.has_tag in
    let held : PortPacket = w.0 in
    let e : PacketEntry = entry_of held in
    let c : IsCarried rules (state_of b v) held.request held.request.kind a.use'.srb v.sectors a.moved a.sectors a.left = turned_act b v v' rooms tag piece bytes a held k w.1 in
    let label : DeviceLabel = Act piece bytes in
    let u : TagInUse = acted a.moved a.left a.use' in
    let x : AdapterView = view_turned v a.sectors a.tags v.failures label in
    let h : Turned b v tag a.use' u a.others a.tags a.sectors held = record {
      on = a.is_on;
      in_use = a.in_use;
      same_tag = refl;
      held_is = w.1;
      same_open = ap (λ (bytes : List ℕ). record (out_open rules e a.use') { request = as_client rules held.request bytes }) c.sent;
      doing = (refl, c.parts, c.filled);
      empty = c.empty;
      long = c.long;
    } in
    let step : Acts rules (state_of b v) piece bytes (state_of b x) = record {
      piece = out_piece rules e a.use';
      other_pieces = map (piece_on rules b.started) a.others;
      owner = out_open rules e a.use';
      sectors = a.moved;
      arrays' = the_arrays rules a.sectors;
      fresh = record { is_out = is_out b v tag a.use' u a.others a.tags a.sectors held v.failures label h; is_number = a.is_piece; is_fresh = a.is_fresh };
      is_open = Contains-permutation _ _ _ (IsPermutation-sym _ _ (second_front (map (waiting_open rules) b.waiting) (map (open_on rules b.started) v.tags) (map (open_on rules b.started) a.others) (map (done_open rules) b.done) (out_open rules e a.use')
          (tags_on (out_open rules) b.started v.tags a.use' a.others held a.is_on.in_use (on_before b v tag a.use' u a.others a.tags a.sectors held v.failures label h)))) (0, omega arith, refl);
      is_owner = refl;
      covers = c.covers;
      moves = c.moves;
      hands_over = a.hands_over;
      after = record {
        arrays = refl;
        next_request = refl;
        next_piece = refl;
        requests = requests_turned b v tag a.use' u a.others a.tags a.sectors held v.failures label h;
        pieces = pieces_turned b v tag a.use' u a.others a.tags a.sectors held v.failures label h;
        owed = refl;
        paused = refl;
        removing = refl;
        removed = refl;
      };
    } in
    subst (λ y. IsTurned b v tag y) (sym a.after) (shown_turned b v tag a.use' u a.others a.tags a.sectors held v.failures label h a.is_fresh (sym a.is_piece) (λ booked. tt) space
    (subst IsInOrder a.after order) step (subst (AdapterActsOn v tag piece bytes) a.after a))

-- A FAULT

faulted_all : (b : TableView) (v v' : AdapterView) (rooms : List Request) (tag piece : ℕ) → PortKept b v rooms → length v.labels + (v.depth - length v.tags) + 1 ≤ 64
    → AdapterFaultsOn v tag piece v' → ¬ IsBooked v tag → IsInOrder v' → IsTurned b v tag v'
faulted_all b v v' rooms tag piece k space a not_booked order =
    let rules : Rules = rules_of b.sizes in
    let w = on_tag_some rules b.started v.tags a.use' a.others tag k.at_work a.is_on.in_use a.is_on.has_tag in
    let held : PortPacket = w.0 in
    let e : PacketEntry = entry_of held in
    let work = on_tag_work rules b.started v.tags a.use' a.others tag held k.at_work a.is_on.in_use a.is_on.has_tag w.1 in
    let label : DeviceLabel = Fault piece in
    let asks : AsksFor rules held.request a.use'.srb = subst (λ f. IsDoing rules held.request f a.use'.srb) a.is_fresh work.1 in
    let sent : sent_bytes held.request.kind (Packed a.left) ≡ sent_bytes held.request.kind (Packed a.use'.srb) =
    spoiled_same rules held.request held.request.kind a.use'.srb a.left refl asks.asks a.spoiled in
    let u : TagInUse = faulted a.left a.use' in
    let x : AdapterView = view_turned v v.sectors a.tags a.failures label in
    let h : Turned b v tag a.use' u a.others a.tags v.sectors held = record {
      on = a.is_on;
      in_use = a.in_use;
      same_tag = refl;
      held_is = w.1;
      same_open = ap (λ (bytes : List ℕ). record (out_open rules e a.use') { request = as_client rules held.request bytes }) sent;
      doing = tt;
      empty = λ flush. none_as_many a.use'.srb.data a.left.data a.spoiled.as_many (work.2 flush);
      long = refl;
    } in
    let step : Faults (state_of b v) piece (state_of b x) = record {
      piece = out_piece rules e a.use';
      other_pieces = map (piece_on rules b.started) a.others;
      fresh = record { is_out = is_out b v tag a.use' u a.others a.tags v.sectors held a.failures label h; is_number = a.is_piece; is_fresh = a.is_fresh };
      after = record {
        arrays = refl;
        next_request = refl;
        next_piece = refl;
        requests = requests_turned b v tag a.use' u a.others a.tags v.sectors held a.failures label h;
        pieces = pieces_turned b v tag a.use' u a.others a.tags v.sectors held a.failures label h;
        owed = refl;
        paused = refl;
        removing = refl;
        removed = refl;
      };
    } in
    subst (λ y. IsTurned b v tag y) (sym a.after) (shown_turned b v tag a.use' u a.others a.tags v.sectors held a.failures label h a.is_fresh (sym a.is_piece) (λ booked. absurd (not_booked booked)) space
    (subst IsInOrder a.after order) step (subst (AdapterFaultsOn v tag piece) a.after a))

label_space : (b : TableView) (v : AdapterView) (rooms : List Request) → PortKept b v rooms → label_places (view_of b v) + 1 ≤ 64 → length v.labels + (v.depth - length v.tags) + 1 ≤ 64
label_space b v rooms k space =
    let l = length-map v.tags (piece_on (rules_of b.sizes) b.started) in
    let d = k.sizes.depth in
    omega arith

pub turned : (b : TableView) (v v' : AdapterView) (rooms : List Request) (tag : ℕ) → PortKept b v rooms → label_places (view_of b v) + 1 ≤ 64 → AdapterActsOrFaults v tag v' → IsInOrder v' → IsTurned b v tag v'
turned b v v' rooms tag k space a order = by_label a.one_of
  where
    by_label : ((bytes : List ℕ) × AdapterActsOn v tag a.piece bytes v') ⊎ (AdapterFaultsOn v tag a.piece v' × ¬ IsBooked v tag) → IsTurned b v tag v'
    by_label (inl (bytes, h)) = acted_all b v v' rooms tag a.piece bytes k (label_space b v rooms k space) h order
    by_label (inr (h, not_booked)) = faulted_all b v v' rooms tag a.piece k (label_space b v rooms k space) h not_booked order

-- WHERE NO PIECE CAN ACT

-- with some others it is a list in another order
abbrev pub IsPermutationOf : {X : Type 0} → List X → X → Type 0
IsPermutationOf {X} xs x = (others : List X) × IsPermutation xs (x ∷ others)

pub from_map : {X Y : Type 0} (f : X → Y) (xs : List X) (y : Y) → Contains (map f xs) y → (x : X) × IsPermutationOf xs x × (f x ≡ y)
from_map f [] y (k, low, is) = absurd (omega arith)
from_map f (x ∷ xs) y (zero, low, is) = (x, (xs, IsPermutation-refl _), is)
from_map f (x ∷ xs) y (suc k, low, is) =
    let h = from_map f xs y (k, omega arith, is) in
    (h.0, (x ∷ h.1.0, IsPermutation-trans _ _ _ (IsPermutation-cons x _ _ h.1.1) (IsPermutation-middle (x ∷ []) h.0 h.1.0)), h.2)

turned_not : (b : TableView) (v v' : AdapterView) (tag : ℕ) → AdapterActsNot v tag v' → ActsNot (view_of b v) tag (view_of b v')
turned_not b v v' tag h = record {
  none = λ piece fresh.
      let u = from_map (piece_on (rules_of b.sizes) b.started) v.tags piece fresh.is_out in
      h.none_fresh u.0 u.1.0 (record { in_use = u.1.1; has_tag = ap (λ (p : Piece). p.tag) u.2 ∙ fresh.is_tag }) (ap (λ (p : Piece). p.fate) u.2 ∙ fresh.is_fresh);
  same = ap (λ (x : AdapterView). view_of b x) h.same;
}

pub turned_either : (b : TableView) (v v' : AdapterView) (rooms : List Request) (tag : ℕ) (result : Bool) → IsInHand b v rooms → label_places (view_of b v) + 1 ≤ 64
    → MatchBool result (AdapterActsOrFaults v tag v') (AdapterActsNot v tag v') → IsInOrder v'
    → ((rooms : List Request) → IsInHand b v rooms → IsInHand b v' rooms) × MatchBool result (ActsOrFaults (view_of b v) tag (view_of b v')) (ActsNot (view_of b v) tag (view_of b v'))
turned_either b v v' rooms tag true k space h order = let t = turned b v v' rooms tag k.kept space h order in (t.rooms, t.acts)
turned_either b v v' rooms tag false k space h order = (λ rs i. subst (λ x. IsInHand b x rs) (sym h.same) i, turned_not b v v' tag h)
