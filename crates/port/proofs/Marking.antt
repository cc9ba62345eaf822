-- A packet that is cancelled at the adapter, or after it ended.
use Rattle.std.proofs.Common.{◌≡◌, ◌<◌, ◌≤◌, ◌⊎◌, inl, inr, ℕ, ◌+◌, Bool, true, false, List, ◌∷◌, ◌++◌, Some, None, refl, sym, subst, ap, ◌∙◌, arith, map, length, get_or}
use Rattle.std.specs.Prelude.{All, Any, IsPermutation, MatchBool, slice_set, remove}
use Rattle.std.specs.List.{concat}
use Rattle.std.proofs.lemmas.List.{length-set, get_or-set_same, get_or_default}
use Rattle.std.proofs.lemmas.Bool.{cases_lt}
use Rattle.std.proofs.lemmas.List.Elements.{All-cons, All-head, All-tail}
use Rattle.std.proofs.lemmas.List.Sorted.{IsPermutation-refl, IsPermutation-sym, IsPermutation-trans, IsPermutation-map, IsPermutation-append_left, IsPermutation-append_right, IsPermutation-middle, IsPermutation-remove, All-permutation, length_permutation}
use Rattle.srb.specs.declared.Class.TheVariants.{Good, Busy, Bad}
use Rattle.adapter.specs.View.{AdapterView, TagInUse, IsOn, HasTag, HasNotTag}
use Rattle.irp.specs.declared.Payload.{Payload}
use Rattle.machine.specs.declared.Request.{Request}
use Rattle.machine.specs.declared.Label.TheVariants.{Cancel}
use Rattle.machine.specs.Rules.{Rules}
use Rattle.machine.specs.State.{OpenRequest}
use Rattle.machine.specs.Holding.{Cancels, as_cancelled}
use Rattle.srb.specs.declared.Kind.TheVariants.{Read}
use Rattle.device.specs.View.{Carries, IsBounded, payload_bytes, transfer_length}
use Rattle.device.specs.Served.{CancelsIfOpen, sectors_moved}
use Rattle.machine.proofs.Numbers.{AreDistinct-Step}
use Rattle.port.specs.declared.queues.PortPacket.{PortPacket}
use Rattle.port.specs.declared.queues.Ended.{Ended}
use Rattle.port.specs.declared.queues.Outcome.{Outcome}
use Rattle.port.specs.declared.queues.Outcome.TheVariants.{Returned, Withdrawn, Gone}
use Rattle.port.specs.inside.TableView.{PacketEntry, TableView, entry_of, ended_entry, spot_in}
use Rattle.port.specs.inside.TableCalls.{held_on, cancelled, is_cancellable, CannotCancelHeld, CannotCancelOn, WithdrawsNot, CancelsOn, CancelsEnded, CancelsNoEnded}
use Rattle.port.specs.inside.Cancelling.{CancelsAt, CancelsNotAt, CancelsNoStarted}
use Rattle.port.specs.Shown.{rules_of, waiting_open, done_open, out_open, out_piece, open_on, entry_on, entry_or_nobody, packet as packet_as, of_packets, of_waiting, of_tag, of_done, state_of, view_of, requests_of}
use Rattle.port.specs.inside.Invariant.{asked, PortKept, IsInHand, IsRoom, IsEmptyIfFlush, IsAtWork, IsDoing, HasEnded, HasOutcome, IsTaken}
use Rattle.port.proofs.Places.{distinct_same}
use Rattle.port.proofs.Lists.{second_front}
use Rattle.port.proofs.Tags.{others_same, others_apart}
use Rattle.port.proofs.Starting.{work_beside}
use Rattle.port.proofs.Returning.{tags_on, on_tag_work, done_is}
use Rattle.port.proofs.Handing.{third_front}
use Rattle.port.proofs.Orderly.{in_hand, all_three}
use Rattle.port.proofs.Draining.{IsCancelled, can_facts, cannot_facts}

pub record IsCancelledTo (b : TableView) (v : AdapterView) (number : ℕ) (b' : TableView) (v' : AdapterView) : Type 0 where
  pub rooms : (rooms : List Request) → IsInHand b v rooms → IsInHand b' v' rooms
  pub cancels : CancelsIfOpen (view_of b v) number (view_of b' v')

-- AT THE ADAPTER

abbrev books_marked : TableView → ℕ → PortPacket → TableView
books_marked b tag marked = record b { started = slice_set b.started tag (Some marked) }

module _ (b : TableView) (v : AdapterView) (number tag : ℕ) (use' : TagInUse) (others : List TagInUse) (held marked : PortPacket)
    (k : (rooms : List Request) × IsInHand b v rooms) (on : IsOn v tag use' others) (there : held_on b.started tag ≡ Some held) (can : is_cancellable number (entry_of held) ≡ true)
    (same_entry : entry_of marked ≡ cancelled (entry_of held)) where
  low : tag < length b.started
  low =
      let all = All-permutation (λ u. u.tag < v.depth) _ _ on.in_use k.1.kept.adapter.tags_below in
      let t : use'.tag < v.depth = All-head (λ u. u.tag < v.depth) use' others all in
      let same = on.has_tag in
      let d = k.1.kept.sizes.depth in
      let s = k.1.kept.started in
      omega arith

  apart : All (HasNotTag tag) others
  apart = others_apart v tag use' others k.1.kept.adapter on

  before_mark : {Y : Type 0} (f : PacketEntry → TagInUse → Y) → IsPermutation (map (λ u. f (entry_on b.started u.tag) u) v.tags) (f (entry_of held) use' ∷ map (λ u. f (entry_on b.started u.tag) u) others)
  before_mark f = tags_on f b.started v.tags use' others held on.in_use (subst (λ t. held_on b.started t ≡ Some held) (sym on.has_tag) there)

  after_mark : {Y : Type 0} (f : PacketEntry → TagInUse → Y) → IsPermutation (map (λ u. f (entry_on (slice_set b.started tag (Some marked)) u.tag) u) v.tags) (f (cancelled (entry_of held)) use' ∷ map (λ u. f (entry_on b.started u.tag) u) others)
  after_mark f =
      let set_there : held_on (slice_set b.started tag (Some marked)) use'.tag ≡ Some marked = rw on.has_tag (get_or-set_same b.started tag (Some marked) None low) in
      let p = tags_on f (slice_set b.started tag (Some marked)) v.tags use' others marked on.in_use set_there in
      let q = rw (others_same f b.started tag (Some marked) others apart) at p in
      subst (λ (e : PacketEntry). IsPermutation (map (λ u. f (entry_on (slice_set b.started tag (Some marked)) u.tag) u) v.tags) (f e use' ∷ map (λ u. f (entry_on b.started u.tag) u) others)) same_entry q

  mark_cancels : Cancels (state_of b v) number (state_of (books_marked b tag marked) v)
  mark_cancels =
      let rules : Rules = rules_of b.sizes in
      record {
        request = out_open rules (entry_of held) use';
        others = map (waiting_open rules) b.waiting ++ (map (open_on rules b.started) others ++ map (done_open rules) b.done);
        is_open = second_front (map (waiting_open rules) b.waiting) (map (open_on rules b.started) v.tags) (map (open_on rules b.started) others) (map (done_open rules) b.done) (out_open rules (entry_of held) use') (before_mark (out_open rules));
        is_number = (can_facts number (entry_of held) can).0;
        not_yet = (can_facts number (entry_of held) can).1;
        after = record {
          arrays = refl;
          next_request = refl;
          next_piece = refl;
          requests = second_front (map (waiting_open rules) b.waiting) (map (open_on rules (slice_set b.started tag (Some marked))) v.tags) (map (open_on rules b.started) others) (map (done_open rules) b.done) (as_cancelled (out_open rules (entry_of held) use')) (after_mark (out_open rules));
          pieces = IsPermutation-trans _ _ _ (after_mark (out_piece rules)) (IsPermutation-sym _ _ (before_mark (out_piece rules)));
          owed = refl;
          paused = refl;
          removing = refl;
          removed = refl;
        };
      }

  packets_marked : {Y : Type 0} (f : PacketEntry → Y) → ((e : PacketEntry) → f (cancelled e) ≡ f e) → IsPermutation (of_packets f (books_marked b tag marked) v) (of_packets f b v)
  packets_marked f keeps =
      let after = subst (λ y. IsPermutation (map (of_tag f (slice_set b.started tag (Some marked))) v.tags) (y ∷ map (of_tag f b.started) others)) (keeps (entry_of held)) (after_mark (λ e u. f e)) in
      IsPermutation-append_right (map (of_waiting f) b.waiting) _ _ (IsPermutation-append_left (map (of_done f) b.done) _ _ (IsPermutation-trans _ _ _ after (IsPermutation-sym _ _ (before_mark (λ e u. f e)))))

  kept_marked : (rooms : List Request) → PortKept b v rooms → PortKept (books_marked b tag marked) v rooms
  kept_marked rooms h =
      let rules : Rules = rules_of b.sizes in
      let work = on_tag_work rules b.started v.tags use' others tag held h.at_work on.in_use on.has_tag there in
      let rest : All (IsAtWork rules b.started) others = All-tail (IsAtWork rules b.started) use' others (All-permutation (IsAtWork rules b.started) _ _ on.in_use h.at_work) in
      let request_is : marked.request ≡ held.request = ap (λ (e : PacketEntry). e.request) same_entry in
      record {
        adapter = h.adapter;
        sizes = h.sizes;
        started = length-set b.started tag (Some marked) ∙ h.started;
        waiting = h.waiting;
        in_turn = h.in_turn;
        at_work = All-permutation (IsAtWork rules (slice_set b.started tag (Some marked))) _ _ (IsPermutation-sym _ _ on.in_use)
            (All-cons (IsAtWork rules (slice_set b.started tag (Some marked))) use' others
            (record {
              held = marked;
              on_tag = rw on.has_tag (get_or-set_same b.started tag (Some marked) None low);
              bounded = subst (λ r. IsBounded rules r) (sym request_is) work.0;
              doing = subst (λ r. IsDoing rules r use'.fate use'.srb) (sym request_is) work.1;
              empty = subst (λ r. IsEmptyIfFlush r use'.srb.data) (sym request_is) work.2;
            })
            (λ i d below. work_beside rules b.started tag (Some marked) _ (apart i d below) (rest i d below)));
        ended = h.ended;
        reserved = All-permutation (IsRoom rules v) _ _ (IsPermutation-sym _ _ (packets_marked asked (λ e. refl))) h.reserved;
        spots = distinct_same _ _ (IsPermutation-sym _ _ (packets_marked spot_in (λ e. refl))) h.spots;
        taken = All-permutation (IsTaken b.rooms) _ _ (IsPermutation-sym _ _ (packets_marked spot_in (λ e. refl))) h.taken;
        rooms_out = h.rooms_out;
        removing = h.removing;
        distinct = AreDistinct-Step rules (state_of b v) (Cancel number) _ h.distinct (inl (refl, mark_cancels));
        places = h.places;
        submitted = h.submitted;
        accepted = h.accepted;
        numbered = h.numbered;
        labels = h.labels;
      }

  marked_fields : IsCancelled b v number (books_marked b tag marked)
  marked_fields = record {
    rooms = λ rooms i. in_hand (books_marked b tag marked) v rooms (kept_marked rooms i.kept) i.busy;
    cancels = record { one_of = inl (mark_cancels, record { same_rules = refl; same_packets = packets_marked packet_as (λ e. refl); same_rooms = λ _. refl; same_submitted = refl; same_most = refl; same_places = refl; same_adapter = refl }) };
  }

pub cancelled_out : (b b' : TableView) (v : AdapterView) (rooms : List Request) (number tag : ℕ) → IsInHand b v rooms → Any (HasTag tag) v.tags → CancelsOn b tag number b' → IsCancelled b v number b'
cancelled_out b b' v rooms number tag k here h =
    subst (λ x. IsCancelled b v number x) (sym h.after) (marked_fields b v number tag here.1 (remove v.tags here.0) h.held h.marked (rooms, k)
    (record { in_use = IsPermutation-remove v.tags here.0 here.1 here.2 (sym here.3); has_tag = here.4 }) h.on_tag h.can h.same_entry)

-- AFTER IT ENDED

abbrev books_ended : TableView → List Ended → TableView
books_ended b done = record b { done = done }

module _ (b : TableView) (v : AdapterView) (number : ℕ) (before : List Ended) (ended : Ended) (behind : List Ended) (marked : Ended)
    (is_done : b.done ≡ before ++ ended ∷ behind) (can : is_cancellable number (ended_entry ended) ≡ true) (same_entry : ended_entry marked ≡ cancelled (ended_entry ended))
    (carries : marked.irp.value.payload ≡ ended.irp.value.payload) (ends : marked.outcome ≡ ended.outcome) where
  front : IsPermutation b.done (ended ∷ (before ++ behind))
  front = subst (λ ds. IsPermutation ds (ended ∷ (before ++ behind))) (sym is_done) (IsPermutation-middle before ended behind)

  back : IsPermutation (before ++ marked ∷ behind) (marked ∷ (before ++ behind))
  back = IsPermutation-middle before marked behind

  shown : {Y : Type 0} (first second : List Y) (f : Ended → Y) (all : List Ended) (e : Ended) → IsPermutation all (e ∷ (before ++ behind))
      → IsPermutation (first ++ (second ++ map f all)) (f e ∷ (first ++ (second ++ map f (before ++ behind))))
  shown first second f all e p = IsPermutation-trans _ _ _ (IsPermutation-append_right first _ _ (IsPermutation-append_right second _ _ (IsPermutation-map f _ _ p))) (third_front first second (map f (before ++ behind)) (f e))

  shown_front : {Y : Type 0} (first second : List Y) (f : Ended → Y) → IsPermutation (first ++ (second ++ map f b.done)) (f ended ∷ (first ++ (second ++ map f (before ++ behind))))
  shown_front first second f = shown first second f b.done ended front

  shown_last : {Y : Type 0} (first second : List Y) (f : Ended → Y) → IsPermutation (first ++ (second ++ map f (before ++ marked ∷ behind))) (f marked ∷ (first ++ (second ++ map f (before ++ behind))))
  shown_last first second f = shown first second f (before ++ marked ∷ behind) marked back

  end_cancels : Cancels (state_of b v) number (state_of (books_ended b (before ++ marked ∷ behind)) v)
  end_cancels =
      let rules : Rules = rules_of b.sizes in
      let is : done_open rules marked ≡ as_cancelled (done_open rules ended) = done_is rules marked (cancelled (ended_entry ended)) ended.irp.value.payload ended.outcome same_entry carries ends in
      let rest : List OpenRequest = map (waiting_open rules) b.waiting ++ (map (open_on rules b.started) v.tags ++ map (done_open rules) (before ++ behind)) in
      record {
        request = done_open rules ended;
        others = rest;
        is_open = shown_front (map (waiting_open rules) b.waiting) (map (open_on rules b.started) v.tags) (done_open rules);
        is_number = (can_facts number (ended_entry ended) can).0;
        not_yet = (can_facts number (ended_entry ended) can).1;
        after = record {
          arrays = refl;
          next_request = refl;
          next_piece = refl;
          requests = subst (λ (x : OpenRequest). IsPermutation (requests_of (books_ended b (before ++ marked ∷ behind)) v) (x ∷ rest)) is (shown_last (map (waiting_open rules) b.waiting) (map (open_on rules b.started) v.tags) (done_open rules));
          pieces = IsPermutation-refl _;
          owed = refl;
          paused = refl;
          removing = refl;
          removed = refl;
        };
      }

  packets_ended : {Y : Type 0} (f : PacketEntry → Y) → ((e : PacketEntry) → f (cancelled e) ≡ f e) → IsPermutation (of_packets f (books_ended b (before ++ marked ∷ behind)) v) (of_packets f b v)
  packets_ended {Y} f keeps =
      let is : of_done f marked ≡ of_done f ended = ap f same_entry ∙ keeps (ended_entry ended) in
      let rest : List Y = map (of_waiting f) b.waiting ++ (map (of_tag f b.started) v.tags ++ map (of_done f) (before ++ behind)) in
      IsPermutation-trans _ _ _ (subst (λ y. IsPermutation (of_packets f (books_ended b (before ++ marked ∷ behind)) v) (y ∷ rest)) is (shown_last (map (of_waiting f) b.waiting) (map (of_tag f b.started) v.tags) (of_done f)))
      (IsPermutation-sym _ _ (shown_front (map (of_waiting f) b.waiting) (map (of_tag f b.started) v.tags) (of_done f)))

  why_marked : (rules : Rules) (removing : Bool) (outcome : Outcome) → HasOutcome rules removing ended outcome → HasOutcome rules removing marked outcome
  why_marked rules removing outcome h = by_outcome outcome h
    where
      request_is : marked.request ≡ ended.request
      request_is = ap (λ (e : PacketEntry). e.request) same_entry

      by_outcome : (outcome : Outcome) → HasOutcome rules removing ended outcome → HasOutcome rules removing marked outcome
      by_outcome (Returned Good) h =
          let P : Request → Payload → Type 0 =
          λ r p. (concat (sectors_moved rules r p) ≡ payload_bytes p) × (r.kind ≡ Read → length (payload_bytes p) ≡ transfer_length rules r) in
          subst (λ p. P marked.request p) (sym carries) (subst (λ r. P r ended.irp.value.payload) (sym request_is) h)
      by_outcome (Returned Busy) h = subst (λ p. Carries true rules marked.request p) (sym carries) (subst (λ r. Carries true rules r ended.irp.value.payload) (sym request_is) h)
      by_outcome (Returned (Bad completion)) h = h
      by_outcome Withdrawn h = ap (λ (e : PacketEntry). e.cancelled) same_entry
      by_outcome Gone h = h

  kept_ended : (rooms : List Request) → PortKept b v rooms → PortKept (books_ended b (before ++ marked ∷ behind)) v rooms
  kept_ended rooms k =
      let rules : Rules = rules_of b.sizes in
      let all : All (HasEnded rules b.removing) (ended ∷ (before ++ behind)) = All-permutation (HasEnded rules b.removing) _ _ front k.ended in
      let e : HasEnded rules b.removing ended = All-head (HasEnded rules b.removing) ended (before ++ behind) all in
      let l = length_permutation _ _ front in
      let m = length_permutation _ _ back in
      record {
        adapter = k.adapter;
        sizes = k.sizes;
        started = k.started;
        waiting = k.waiting;
        in_turn = k.in_turn;
        at_work = k.at_work;
        ended = All-permutation (HasEnded rules b.removing) _ _ (IsPermutation-sym _ _ back) (All-cons (HasEnded rules b.removing) marked (before ++ behind) (record {
          bounded = subst (λ (x : PacketEntry). IsBounded rules x.request) (sym same_entry) e.bounded;
          why = subst (HasOutcome rules b.removing marked) (sym ends) (why_marked rules b.removing ended.outcome e.why);
          empty = subst (λ (p : Payload). IsEmptyIfFlush marked.request (payload_bytes p)) (sym carries)
              (subst (λ (x : PacketEntry). IsEmptyIfFlush x.request (payload_bytes ended.irp.value.payload)) (sym same_entry) e.empty);
        }) (All-tail (HasEnded rules b.removing) ended (before ++ behind) all));
        reserved = All-permutation (IsRoom rules v) _ _ (IsPermutation-sym _ _ (packets_ended asked (λ e. refl))) k.reserved;
        spots = distinct_same _ _ (IsPermutation-sym _ _ (packets_ended spot_in (λ e. refl))) k.spots;
        taken = All-permutation (IsTaken b.rooms) _ _ (IsPermutation-sym _ _ (packets_ended spot_in (λ e. refl))) k.taken;
        rooms_out = k.rooms_out;
        removing = k.removing;
        distinct = AreDistinct-Step rules (state_of b v) (Cancel number) _ k.distinct (inl (refl, end_cancels));
        places = let c = k.places in omega arith;
        submitted = k.submitted;
        accepted = k.accepted;
        numbered = k.numbered;
        labels = k.labels;
      }

  ended_fields : IsCancelled b v number (books_ended b (before ++ marked ∷ behind))
  ended_fields = record {
    rooms = λ rooms i. in_hand (books_ended b (before ++ marked ∷ behind)) v rooms (kept_ended rooms i.kept) i.busy;
    cancels = record { one_of = inl (end_cancels, record { same_rules = refl; same_packets = packets_ended packet_as (λ e. refl); same_rooms = λ _. refl; same_submitted = refl; same_most = refl; same_places = refl; same_adapter = refl }) };
  }

pub cancelled_ended : (b b' : TableView) (v : AdapterView) (number : ℕ) → CancelsEnded b number b' → IsCancelled b v number b'
cancelled_ended b b' v number h = subst (λ x. IsCancelled b v number x) (sym h.after) (ended_fields b v number h.before h.ended h.behind h.marked h.is_done h.can h.same_entry h.carries h.ends)

-- NOBODY

abbrev IsSafe : ℕ → OpenRequest → Type 0
IsSafe number o = o.number ≡ number → o.cancelled ≡ false → ⊥

pub cancelled_none : (b b' : TableView) (v : AdapterView) (rooms : List Request) (number : ℕ) → IsInHand b v rooms → All (CannotCancelHeld number) b.waiting → All (λ u. CannotCancelOn b.started number u.tag) v.tags → CancelsNoEnded b number b'
    → IsCancelled b v number b'
cancelled_none b b' v rooms number k waiting out h = subst (λ x. IsCancelled b v number x) (sym h.same) (record {
  rooms = λ rooms i. i;
  cancels = record { one_of = inr (λ s' c. All-head (IsSafe number) c.request c.others (All-permutation (IsSafe number) _ _ c.is_open all) c.is_number c.not_yet, refl) };
})
  where
    all : All (IsSafe number) (requests_of b v)
    all = all_three b v (IsSafe number)
        (λ i d low. cannot_facts number (entry_of (get_or b.waiting i d)) (waiting i d low))
        (λ i d low. let w : IsAtWork (rules_of b.sizes) b.started (get_or v.tags i d) = k.kept.at_work i d low in
        subst (λ (e : PacketEntry). e.number ≡ number → e.cancelled ≡ false → ⊥) (sym (ap entry_or_nobody w.on_tag)) (cannot_facts number (entry_of w.held) (out i d low w.held w.on_tag)))
        (λ i d low. cannot_facts number (ended_entry (get_or b.done i d)) (h.none i d low))

-- each tag in use is below the depth
pub none_started : (b c : TableView) (v : AdapterView) (rooms : List Request) (number tag : ℕ) → IsInHand b v rooms → b.sizes.depth ≤ tag → ((lower : ℕ) → lower < tag → Any (HasTag lower) v.tags → CannotCancelOn b.started number lower) → c ≡ b
    → CancelsNoStarted b v number c
none_started b c v rooms number tag k past none same = record {
  none = λ i d low.
      let below : (get_or v.tags i d).tag < v.depth = k.kept.adapter.tags_below i d low in
      let depth = k.kept.sizes.depth in
      none (get_or v.tags i d).tag (omega arith) (i, get_or v.tags i d, low, get_or_default v.tags i (get_or v.tags i d) d low, refl);
  same = same;
}

pub cancels_first : (b c b' : TableView) (v w : AdapterView) (number tag : ℕ) → c ≡ b → w ≡ v → CancelsAt c w tag number b' → CancelsAt b v tag number b'
cancels_first b c b' v w number tag e f h = subst (λ x. CancelsAt x v tag number b') e (subst (λ y. CancelsAt c y tag number b') f h)

pub none_to_here : (b c b' : TableView) (v w : AdapterView) (number tag : ℕ) → c ≡ b → w ≡ v → CancelsNotAt c w tag number b' → ((lower : ℕ) → lower < tag → Any (HasTag lower) v.tags → CannotCancelOn b.started number lower)
    → (lower : ℕ) → lower < tag + 1 → Any (HasTag lower) v.tags → CannotCancelOn b.started number lower
none_to_here b c b' v w number tag e f h none lower below = by_case (cases_lt lower tag)
  where
    here : Any (HasTag tag) v.tags → CannotCancelOn b.started number tag
    here = (subst (λ x. CancelsNotAt x v tag number b') e (subst (λ y. CancelsNotAt c y tag number b') f h)).cannot

    by_case : (lower < tag) ⊎ (tag ≤ lower) → Any (HasTag lower) v.tags → CannotCancelOn b.started number lower
    by_case (inl under) = none lower under
    by_case (inr over) = let same : tag ≡ lower = omega arith in subst (λ t. Any (HasTag t) v.tags → CannotCancelOn b.started number t) same here

-- THE THREE IN TURN

pub hand_cancelled_out : (b c b' : TableView) (v v' : AdapterView) (rooms : List Request) (number : ℕ) → IsInHand b v rooms → WithdrawsNot b number c → v' ≡ v → ((tag : ℕ) × CancelsAt c v tag number b') → IsCancelledTo b v number b' v'
hand_cancelled_out b c b' v v' rooms number k f e h =
    let h' : CancelsAt b v h.0 number b' = cancels_first b c b' v v number h.0 f.same refl h.1 in
    let x = cancelled_out b b' v rooms number h.0 k h'.in_use h'.cancels in
    subst (λ y. IsCancelledTo b v number b' y) (sym e) (record { rooms = x.rooms; cancels = x.cancels })

-- after two that found nobody
pub hand_cancelled_last : (b c d b' : TableView) (v v' : AdapterView) (rooms : List Request) (number : ℕ) (result : Bool) → IsInHand b v rooms → WithdrawsNot b number c → v' ≡ v → CancelsNoStarted c v number d
    → MatchBool result (CancelsEnded d number b') (CancelsNoEnded d number b') → IsCancelledTo b v number b' v'
hand_cancelled_last b c d b' v v' rooms number true k f e s h =
    let x = cancelled_ended d b' v number h in
    let same : d ≡ b = s.same ∙ f.same in
    subst (λ y. IsCancelledTo b v number b' y) (sym e) (subst (λ y. IsCancelledTo y v number b' v) same (record { rooms = x.rooms; cancels = x.cancels }))
hand_cancelled_last b c d b' v v' rooms number false k f e s h =
    let same : d ≡ b = s.same ∙ f.same in
    let none : All (λ u. CannotCancelOn b.started number u.tag) v.tags = subst (λ x. All (λ u. CannotCancelOn x.started number u.tag) v.tags) f.same s.none in
    let h' : CancelsNoEnded b number b' = subst (λ y. CancelsNoEnded y number b') same h in
    let x = cancelled_none b b' v rooms number k f.none none h' in
    subst (λ y. IsCancelledTo b v number b' y) (sym e) (record { rooms = x.rooms; cancels = x.cancels })
