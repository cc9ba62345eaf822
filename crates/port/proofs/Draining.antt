-- Packets that are cancelled, or that wait at a removal: the machine.
use Rattle.std.proofs.Common.{◌≡◌, ◌≢◌, inl, ℕ, ◌==◌, ◌&&◌, Bool, true, false, not, List, [], ◌∷◌, ◌++◌, refl, sym, subst, ap, ◌∙◌, arith, map, length}
use Rattle.std.specs.Prelude.{All, IsPermutation}
use Rattle.std.proofs.lemmas.Bool.Decides.{nat_tests}
use Rattle.std.proofs.lemmas.List.{length-append, length-map, map-append, append_assoc}
use Rattle.std.proofs.lemmas.List.Elements.{All-nil, All-append, All-push, All-map, All-weaker, All-head, All-tail}
use Rattle.std.proofs.lemmas.List.Sorted.{IsPermutation-refl, IsPermutation-sym, IsPermutation-trans, IsPermutation-map, IsPermutation-append_left, IsPermutation-middle, IsPermutation-append_comm, All-permutation, length_permutation}
use Rattle.srb.specs.declared.Class.TheVariants.{Good, Busy, Bad}
use Rattle.adapter.specs.View.{AdapterView}
use Rattle.machine.specs.declared.Request.{Request}
use Rattle.machine.specs.declared.Label.TheVariants.{Cancel}
use Rattle.machine.specs.Rules.{Rules}
use Rattle.machine.specs.State.{OpenRequest, State, IsSame}
use Rattle.machine.specs.Holding.{Cancels, Drains, as_cancelled}
use Rattle.irp.specs.declared.Payload.{Payload}
use Rattle.device.specs.View.{IsBounded, payload_bytes}
use Rattle.device.specs.Served.{CancelsIfOpen, DrainsAll}
use Rattle.machine.proofs.Numbers.{AreDistinct-same, AreDistinct-Step}
use Rattle.port.specs.declared.queues.PortPacket.{PortPacket}
use Rattle.port.specs.declared.queues.Ended.{Ended}
use Rattle.port.specs.declared.queues.Outcome.{Outcome}
use Rattle.port.specs.declared.queues.Outcome.TheVariants.{Returned, Withdrawn, Gone}
use Rattle.port.specs.inside.TableView.{PacketEntry, TableView, entry_of, ended_entry, spot_in}
use Rattle.port.specs.inside.TableCalls.{gone, drained, cancelled, is_cancellable, Withdraws}
use Rattle.port.specs.Shown.{rules_of, waiting_open, done_open, open_on, packet as packet_as, of_packets, of_waiting, of_tag, of_done, state_of, view_of, requests_of}
use Rattle.port.specs.inside.Invariant.{asked, PortKept, IsInHand, IsRoom, IsWaiting, IsEmptyIfFlush, IsBefore, AreInTurn, HasEnded, HasOutcome, IsTaken}
use Rattle.port.proofs.Places.{distinct_same}
use Rattle.port.proofs.Lists.{last_front}
use Rattle.device.proofs.Bounded.{carries_none}
use Rattle.port.proofs.Returning.{done_is}
use Rattle.port.proofs.Orderly.{in_hand, maps_are}

-- A REMOVAL

pub to_end : {X : Type 0} (first second third : List X) → IsPermutation (second ++ (third ++ first)) (first ++ (second ++ third))
to_end first second third = IsPermutation-sym _ _ (subst (λ xs. IsPermutation (first ++ (second ++ third)) xs) (append_assoc second third first) (IsPermutation-append_comm first (second ++ third)))

requests_drained : (b : TableView) (v : AdapterView) → IsPermutation (requests_of (drained b) v) (requests_of b v)
requests_drained b v =
    let rules : Rules = rules_of b.sizes in
    let e : map (done_open rules) (b.done ++ map gone b.waiting) ≡ map (done_open rules) b.done ++ map (waiting_open rules) b.waiting =
    map-append (done_open rules) b.done (map gone b.waiting) ∙ ap (λ xs. map (done_open rules) b.done ++ xs) (maps_are gone (done_open rules) (waiting_open rules) (λ h. refl) b.waiting) in
    rw e (to_end (map (waiting_open rules) b.waiting) (map (open_on rules b.started) v.tags) (map (done_open rules) b.done))

packets_drained : {Y : Type 0} (f : PacketEntry → Y) (b : TableView) (v : AdapterView) → IsPermutation (of_packets f (drained b) v) (of_packets f b v)
packets_drained f b v =
    let e : map (of_done f) (b.done ++ map gone b.waiting) ≡ map (of_done f) b.done ++ map (of_waiting f) b.waiting =
    map-append (of_done f) b.done (map gone b.waiting) ∙ ap (λ xs. map (of_done f) b.done ++ xs) (maps_are gone (of_done f) (of_waiting f) (λ h. refl) b.waiting) in
    rw e (to_end (map (of_waiting f) b.waiting) (map (of_tag f b.started) v.tags) (map (of_done f) b.done))

drains : (b : TableView) (v : AdapterView) → Drains (rules_of b.sizes) (state_of b v) (state_of (drained b) v)
drains b v = record {
  arrays = refl;
  next_request = refl;
  next_piece = refl;
  requests = requests_drained b v;
  pieces = IsPermutation-refl _;
  owed = refl;
  paused = refl;
  removing = refl;
  removed = refl;
}

ended_at_removal : (rules : Rules) (removing : Bool) (d : Ended) → HasEnded rules removing d → HasEnded rules true d
ended_at_removal rules removing d h = record { bounded = h.bounded; why = by_outcome d.outcome h.why; empty = h.empty }
  where
    by_outcome : (outcome : Outcome) → HasOutcome rules removing d outcome → HasOutcome rules true d outcome
    by_outcome (Returned Good) h = h
    by_outcome (Returned Busy) h = h
    by_outcome (Returned (Bad completion)) h = h
    by_outcome Withdrawn h = h
    by_outcome Gone h = refl

gone_ended : (rules : Rules) (v : AdapterView) (held : PortPacket) → IsWaiting rules v held → HasEnded rules true (gone held)
gone_ended rules v held w = record { bounded = w.room.bounded; why = refl; empty = carries_none true rules held.request held.irp.value.payload w.carries }

kept_drained : (b : TableView) (v : AdapterView) (rooms : List Request) → PortKept b v rooms → PortKept (drained b) v rooms
kept_drained b v rooms k =
    let rules : Rules = rules_of b.sizes in
    let s : State = record (state_of b v) { removing = true } in
    let same : IsSame (state_of (drained b) v) s = drains b v in
    let l = length-append b.done (map gone b.waiting) in
    let m = length-map b.waiting gone in
    record {
      adapter = k.adapter;
      sizes = k.sizes;
      started = k.started;
      waiting = All-nil (IsWaiting rules v);
      in_turn = tt;
      at_work = k.at_work;
      ended = All-append (HasEnded rules true) b.done (map gone b.waiting)
          (All-weaker (HasEnded rules b.removing) (HasEnded rules true) (ended_at_removal rules b.removing) b.done k.ended)
          (All-map (HasEnded rules true) gone b.waiting (All-weaker (IsWaiting rules v) (λ h. HasEnded rules true (gone h)) (gone_ended rules v) b.waiting k.waiting));
      reserved = All-permutation (IsRoom rules v) _ _ (IsPermutation-sym _ _ (packets_drained asked b v)) k.reserved;
      spots = distinct_same _ _ (IsPermutation-sym _ _ (packets_drained spot_in b v)) k.spots;
      taken = All-permutation (IsTaken b.rooms) _ _ (IsPermutation-sym _ _ (packets_drained spot_in b v)) k.taken;
      rooms_out = k.rooms_out;
      removing = λ _. refl;
      distinct = AreDistinct-same _ _ same (record { requests = k.distinct.requests; given = k.distinct.given; pieces = k.distinct.pieces; sent = k.distinct.sent });
      places = let c = k.places in omega arith;
      submitted = k.submitted;
      accepted = let c = k.accepted in omega arith;
      numbered = let c = k.numbered in omega arith;
      labels = k.labels;
    }

pub hand_drained : (b b' : TableView) (v : AdapterView) (rooms : List Request) → b' ≡ drained b → IsInHand b v rooms → IsInHand b' v rooms
hand_drained b b' v rooms e i = subst (λ x. IsInHand x v rooms) (sym e) (in_hand (drained b) v rooms (kept_drained b v rooms i.kept) (λ free. refl))

pub drains_all : (b b' : TableView) (v : AdapterView) → b' ≡ drained b → DrainsAll (view_of b v) (view_of b' v)
drains_all b b' v e = subst (λ x. DrainsAll (view_of b v) (view_of x v)) (sym e) (record {
  drains = drains b v;
  beside = record { same_rules = refl; same_packets = packets_drained packet_as b v; same_rooms = λ _. refl; same_submitted = refl; same_most = refl; same_places = refl; same_adapter = refl };
})

-- WHO CAN BE CANCELLED

pub can_facts : (number : ℕ) (e : PacketEntry) → is_cancellable number e ≡ true → (e.number ≡ number) × (e.cancelled ≡ false)
can_facts number e h = both (e.number == number) e.cancelled refl refl h
  where
    both : (same was : Bool) → (e.number == number) ≡ same → e.cancelled ≡ was → (same && not was) ≡ true → (e.number ≡ number) × (e.cancelled ≡ false)
    both true false a b h = (grind (arith, nat_tests), b)
    both true true a b h = absurd (cc (h))
    both false was a b h = absurd (cc (h))

pub cannot_facts : (number : ℕ) (e : PacketEntry) → is_cancellable number e ≡ false → e.number ≡ number → e.cancelled ≡ false → ⊥
cannot_facts number e h same timely = both (e.number == number) e.cancelled refl refl h
  where
    both : (equal was : Bool) → (e.number == number) ≡ equal → e.cancelled ≡ was → (equal && not was) ≡ false → ⊥
    both true false a b h = absurd (cc (h))
    both true true a b h = absurd (cc (b, timely))
    both false was a b h = let differ : e.number ≢ number = grind (arith, nat_tests) in differ same

pub record IsCancelled (b : TableView) (v : AdapterView) (number : ℕ) (b' : TableView) : Type 0 where
  pub rooms : (rooms : List Request) → IsInHand b v rooms → IsInHand b' v rooms
  pub cancels : CancelsIfOpen (view_of b v) number (view_of b' v)

-- IN THE QUEUE

turn_without : (before : List PortPacket) (held : PortPacket) (behind : List PortPacket) → AreInTurn (before ++ held ∷ behind) → AreInTurn (before ++ behind)
turn_without [] held behind h = h.1
turn_without (x ∷ xs) held behind h =
    (All-tail (IsBefore x) held (xs ++ behind) (All-permutation (IsBefore x) _ _ (IsPermutation-middle xs held behind) h.0), turn_without xs held behind h.1)

abbrev books_withdrawn : TableView → List PortPacket → Ended → TableView
books_withdrawn b waiting withdrawn = record b { waiting = waiting; done = b.done ++ withdrawn ∷ [] }

module _ (b : TableView) (v : AdapterView) (number : ℕ) (before : List PortPacket) (held : PortPacket) (behind : List PortPacket) (withdrawn : Ended)
    (waits : b.waiting ≡ before ++ held ∷ behind) (can : is_cancellable number (entry_of held) ≡ true) (same_entry : ended_entry withdrawn ≡ cancelled (entry_of held))
    (carries : withdrawn.irp.value.payload ≡ held.irp.value.payload) (ends : withdrawn.outcome ≡ Withdrawn) where
  front : IsPermutation b.waiting (held ∷ (before ++ behind))
  front = subst (λ hs. IsPermutation hs (held ∷ (before ++ behind))) (sym waits) (IsPermutation-middle before held behind)

  withdraw_cancels : Cancels (state_of b v) number (state_of (books_withdrawn b (before ++ behind) withdrawn) v)
  withdraw_cancels =
      let rules : Rules = rules_of b.sizes in
      let is : done_open rules withdrawn ≡ as_cancelled (waiting_open rules held) = done_is rules withdrawn (cancelled (entry_of held)) held.irp.value.payload Withdrawn same_entry carries ends in
      let more : map (done_open rules) (b.done ++ withdrawn ∷ []) ≡ map (done_open rules) b.done ++ done_open rules withdrawn ∷ [] = map-append (done_open rules) b.done (withdrawn ∷ []) in
      record {
        request = waiting_open rules held;
        others = map (waiting_open rules) (before ++ behind) ++ (map (open_on rules b.started) v.tags ++ map (done_open rules) b.done);
        is_open = IsPermutation-append_left (map (open_on rules b.started) v.tags ++ map (done_open rules) b.done) _ _ (IsPermutation-map (waiting_open rules) _ _ front);
        is_number = (can_facts number (entry_of held) can).0;
        not_yet = (can_facts number (entry_of held) can).1;
        after = record {
          arrays = refl;
          next_request = refl;
          next_piece = refl;
          requests = subst (λ (x : OpenRequest). IsPermutation (requests_of (books_withdrawn b (before ++ behind) withdrawn) v) (x ∷ (map (waiting_open rules) (before ++ behind) ++ (map (open_on rules b.started) v.tags ++ map (done_open rules) b.done)))) is
              (rw more (last_front (map (waiting_open rules) (before ++ behind)) (map (open_on rules b.started) v.tags) (map (done_open rules) b.done) (done_open rules withdrawn)));
          pieces = IsPermutation-refl _;
          owed = refl;
          paused = refl;
          removing = refl;
          removed = refl;
        };
      }

  packets_withdrawn : {Y : Type 0} (f : PacketEntry → Y) → ((e : PacketEntry) → f (cancelled e) ≡ f e) → IsPermutation (of_packets f (books_withdrawn b (before ++ behind) withdrawn) v) (of_packets f b v)
  packets_withdrawn {Y} f keeps =
      let more : map (of_done f) (b.done ++ withdrawn ∷ []) ≡ map (of_done f) b.done ++ of_done f withdrawn ∷ [] = map-append (of_done f) b.done (withdrawn ∷ []) in
      let is : of_done f withdrawn ≡ of_waiting f held = ap f same_entry ∙ keeps (entry_of held) in
      let rest : List Y = map (of_waiting f) (before ++ behind) ++ (map (of_tag f b.started) v.tags ++ map (of_done f) b.done) in
      let after : IsPermutation (of_packets f (books_withdrawn b (before ++ behind) withdrawn) v) (of_done f withdrawn ∷ rest) =
      rw more (last_front (map (of_waiting f) (before ++ behind)) (map (of_tag f b.started) v.tags) (map (of_done f) b.done) (of_done f withdrawn)) in
      let old : IsPermutation (of_packets f b v) (of_waiting f held ∷ rest) = IsPermutation-append_left (map (of_tag f b.started) v.tags ++ map (of_done f) b.done) _ _ (IsPermutation-map (of_waiting f) _ _ front) in
      IsPermutation-trans _ _ _ (subst (λ y. IsPermutation (of_packets f (books_withdrawn b (before ++ behind) withdrawn) v) (y ∷ rest)) is after) (IsPermutation-sym _ _ old)

  not_empty : b.waiting ≡ [] → ⊥
  not_empty e = let l = length_permutation _ _ front in let z = ap (λ (hs : List PortPacket). length hs) e in absurd (omega arith)

  kept_withdrawn : (rooms : List Request) → PortKept b v rooms → PortKept (books_withdrawn b (before ++ behind) withdrawn) v rooms
  kept_withdrawn rooms k =
      let rules : Rules = rules_of b.sizes in
      let all : All (IsWaiting rules v) (held ∷ (before ++ behind)) = All-permutation (IsWaiting rules v) _ _ front k.waiting in
      let w : IsWaiting rules v held = All-head (IsWaiting rules v) held (before ++ behind) all in
      let l = length_permutation _ _ front in
      let m = length-append b.done (withdrawn ∷ []) in
      record {
        adapter = k.adapter;
        sizes = k.sizes;
        started = k.started;
        waiting = All-tail (IsWaiting rules v) held (before ++ behind) all;
        in_turn = turn_without before held behind (subst AreInTurn waits k.in_turn);
        at_work = k.at_work;
        ended = All-push (HasEnded rules b.removing) b.done withdrawn k.ended (record {
          bounded = subst (λ (e : PacketEntry). IsBounded rules e.request) (sym same_entry) w.room.bounded;
          why = subst (HasOutcome rules b.removing withdrawn) (sym ends) (ap (λ (e : PacketEntry). e.cancelled) same_entry);
          empty = subst (λ (p : Payload). IsEmptyIfFlush withdrawn.request (payload_bytes p)) (sym carries)
              (subst (λ (e : PacketEntry). IsEmptyIfFlush e.request (payload_bytes held.irp.value.payload)) (sym same_entry) (carries_none true rules held.request held.irp.value.payload w.carries));
        });
        reserved = All-permutation (IsRoom rules v) _ _ (IsPermutation-sym _ _ (packets_withdrawn asked (λ e. refl))) k.reserved;
        spots = distinct_same _ _ (IsPermutation-sym _ _ (packets_withdrawn spot_in (λ e. refl))) k.spots;
        taken = All-permutation (IsTaken b.rooms) _ _ (IsPermutation-sym _ _ (packets_withdrawn spot_in (λ e. refl))) k.taken;
        rooms_out = k.rooms_out;
        removing = λ r. absurd (not_empty (k.removing r));
        distinct = AreDistinct-Step rules (state_of b v) (Cancel number) _ k.distinct (inl (refl, withdraw_cancels));
        places = let c = k.places in omega arith;
        submitted = k.submitted;
        accepted = let c = k.accepted in omega arith;
        numbered = let c = k.numbered in omega arith;
        labels = k.labels;
      }

  withdrawn_fields : IsCancelled b v number (books_withdrawn b (before ++ behind) withdrawn)
  withdrawn_fields = record {
    rooms = λ rooms i. in_hand (books_withdrawn b (before ++ behind) withdrawn) v rooms (kept_withdrawn rooms i.kept) (λ free. absurd (not_empty (i.busy free)));
    cancels = record { one_of = inl (withdraw_cancels, record { same_rules = refl; same_packets = packets_withdrawn packet_as (λ e. refl); same_rooms = λ _. refl; same_submitted = refl; same_most = refl; same_places = refl; same_adapter = refl }) };
  }

pub cancelled_waiting : (b b' : TableView) (v : AdapterView) (number : ℕ) → Withdraws b number b' → IsCancelled b v number b'
cancelled_waiting b b' v number h = subst (λ x. IsCancelled b v number x) (sym h.after) (withdrawn_fields b v number h.before h.held h.behind h.withdrawn h.waits h.can h.same_entry h.carries h.ends)
