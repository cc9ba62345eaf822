-- A packet that has ended is handed up; where there is none, the port is settled.
use Rattle.std.proofs.Common.{◌≡◌, ◌≢◌, ◌<◌, ◌≤◌, inl, inr, ℕ, zero, suc, ◌*◌, ◌^◌, Bool, true, false, List, [], ◌∷◌, ◌++◌, refl, sym, subst, ap, ◌∙◌, arith, map, length, get_or, replicate, Option, Some, None}
use Rattle.std.specs.Prelude.{◌↔◌, if◌then◌else◌, All, IsTrue, IsPermutation}
use Rattle.std.specs.List.{list_all}
use Rattle.std.proofs.lemmas.List.{length-map, nil_from_length}
use Rattle.std.proofs.lemmas.List.Elements.{All-nil, All-cons, All-map, All-replicate, All-head, All-tail, All-contains_itself}
use Rattle.std.proofs.lemmas.List.Sorted.{IsPermutation-refl, IsPermutation-trans, IsPermutation-append_right, IsPermutation-middle, All-permutation}
use Rattle.ntstatus.specs.declared.NtStatus.{NtStatus}
use Rattle.ntstatus.specs.declared.NtStatus.TheVariants.{Success, DeviceBusy, Cancelled, NoSuchDevice, DeletePending}
use Rattle.srb.specs.declared.Class.TheVariants.{Good, Busy, Bad}
use Rattle.adapter.specs.View.{AdapterView, TagInUse}
use Rattle.device.specs.declared.climbing.Climb.{Climb}
use Rattle.device.specs.Climbing.{Climbs, BringsRoutine}
use Rattle.irp.specs.declared.Payload.{Payload}
use Rattle.srb.specs.declared.Kind.TheVariants.{Read}
use Rattle.machine.specs.declared.Request.{Request}
use Rattle.machine.specs.Rules.{Rules, as_client}
use Rattle.machine.specs.State.{Mark, Untouched, Out, Done, Failed, Back, OpenRequest, Piece, State}
use Rattle.machine.specs.Sending.{is_started, status_of_completion, IsStart}
use Rattle.machine.specs.Answering.{HasEnded, HasCause, Cause, Answers, is_done, answer_bytes, information}
use Rattle.machine.specs.Settled.{Settled, IsHeld, WaitsIfCancelled, Waits, IsHeldBack, HasMore, IsAtWork, has_out}
use Rattle.device.specs.View.{Carries, payload_bytes, transfer_length}
use Rattle.port.proofs.Lists.{length-cut}
use Rattle.device.specs.Served.{HandsUp, HandsUpNone, AwaitsRestartIfEnded, sectors_moved, IsBack}
use Rattle.machine.proofs.Same.{IsSame-refl}
use Rattle.machine.specs.declared.Label.TheVariants.{Answer}
use Rattle.machine.proofs.Numbers.{AreDistinct-Step}
use Rattle.machine.proofs.Earned.{bad_status}
use Rattle.machine.proofs.Commuting.{out_ends_not, untouched_ends_not}
use Rattle.port.specs.declared.queues.PortPacket.{PortPacket}
use Rattle.port.specs.declared.queues.Ended.{Ended}
use Rattle.port.specs.declared.queues.Outcome.{Outcome}
use Rattle.port.specs.declared.queues.Outcome.TheVariants.{Returned, Withdrawn, Gone}
use Rattle.port.specs.inside.TableView.{PacketEntry, TableView, entry, ended_entry, spot_in}
use Rattle.port.specs.inside.TableCalls.{TakesDone, TakesNone, SetsSlot}
use Rattle.port.specs.Shown.{rules_of, places_of, marks_left, busy_left, status_left, waiting_open, done_open, open_on, piece_on, entry_or_nobody, packet as packet_as, of_packets, of_waiting, of_tag, of_done, state_of, view_of, requests_of}
use Rattle.port.specs.inside.Invariant.{asked, PortKept, IsInHand, IsRoom, IsWaiting, HasOutcome, HasEnded as HasEndedBy, IsAtWork as IsOnTag, IsTaken}
use Rattle.port.proofs.Places.{distinct_same, distinct_left, taken_left, sets_room}
use Rattle.port.proofs.Lists.{all_done, bytes_done}
use Rattle.adapter.proofs.Joining.{moves_none}
use Rattle.port.proofs.Sizing.{places_some, bytes_short}
use Rattle.port.proofs.Opening.{untouched_all, started_by, out_by, true_false}
use Rattle.port.proofs.Starting.{kept_sector_some}
use Rattle.port.proofs.Orderly.{all_three, in_hand}

-- NOTHING HAS ENDED

-- the first of alike marks that have not ended
unended : (rules : Rules) (s : State) (o : OpenRequest) (mark : Mark) (n : ℕ) → 0 < n → (HasEnded rules s o mark → ⊥) → All (HasEnded rules s o) (replicate n mark) → ⊥
unended rules s o mark zero some h all = absurd (omega arith)
unended rules s o mark (suc n) some h all = h (All-head (HasEnded rules s o) mark (replicate n mark) all)

-- while something waits the device stays
stays_by : (removing : Bool) (waiting : List PortPacket) (i : ℕ) → i < length waiting → (IsTrue removing → waiting ≡ []) → removing ≡ false
stays_by false waiting i low h = refl
stays_by true waiting i low h = let l = ap (λ (hs : List PortPacket). length hs) (h refl) in absurd (omega arith)

module _ (b : TableView) (v : AdapterView) (rooms : List Request) (k : IsInHand b v rooms) (none : b.done ≡ []) where
  no_done : (P : Ended → Type 0) → All P b.done
  no_done P = subst (All P) (sym none) (All-nil P)

  out_has : (i : ℕ) (d : TagInUse) → i < length v.tags → IsTrue (has_out (open_on (rules_of b.sizes) b.started (get_or v.tags i d)))
  out_has i d low =
      let w : IsOnTag (rules_of b.sizes) b.started (get_or v.tags i d) = k.kept.at_work i d low in
      rw w.on_tag (out_by _ (places_some b.sizes w.held.request (kept_sector_some b v rooms k.kept) w.bounded))

  out_started : (i : ℕ) (d : TagInUse) → i < length v.tags → is_started (open_on (rules_of b.sizes) b.started (get_or v.tags i d)) ≡ true
  out_started i d low =
      let w : IsOnTag (rules_of b.sizes) b.started (get_or v.tags i d) = k.kept.at_work i d low in
      rw w.on_tag (started_by _ Out _ (places_some b.sizes w.held.request (kept_sector_some b v rooms k.kept) w.bounded) refl refl)

  unfinished : All (AwaitsRestartIfEnded (rules_of b.sizes) (state_of b v)) (requests_of b v)
  unfinished =
      let rules : Rules = rules_of b.sizes in
      let s : State = state_of b v in
      let some : 0 < b.sizes.sector_size = kept_sector_some b v rooms k.kept in
      all_three b v (AwaitsRestartIfEnded rules s)
      (λ i d low all. let w : IsWaiting rules v (get_or b.waiting i d) = k.kept.waiting i d low in
      absurd (unended rules s (waiting_open rules (get_or b.waiting i d)) Untouched _ (places_some b.sizes (get_or b.waiting i d).request some w.room.bounded)
      (untouched_ends_not rules s (waiting_open rules (get_or b.waiting i d)) w.not_cancelled (stays_by b.removing b.waiting i low k.kept.removing)) all))
      (λ i d low all. let w : IsOnTag rules b.started (get_or v.tags i d) = k.kept.at_work i d low in
      absurd (unended rules s (open_on rules b.started (get_or v.tags i d)) Out _ (subst (λ (e : PacketEntry). 0 < places_of rules e.request) (sym (ap entry_or_nobody w.on_tag)) (places_some b.sizes w.held.request some w.bounded))
      (out_ends_not rules s (open_on rules b.started (get_or v.tags i d))) all))
      (no_done (λ d. AwaitsRestartIfEnded rules s (done_open rules d)))

  no_pieces : map (piece_on (rules_of b.sizes) b.started) v.tags ≡ [] → (v.tags ≡ []) × (b.waiting ≡ [])
  no_pieces e =
      let l = length-map v.tags (piece_on (rules_of b.sizes) b.started) in
      let z = ap (λ (ps : List Piece). length ps) e in
      let depth = k.kept.adapter.depth.0 in
      (nil_from_length v.tags (omega arith), k.busy (omega arith))

  no_requests : map (piece_on (rules_of b.sizes) b.started) v.tags ≡ [] → requests_of b v ≡ []
  no_requests e = let n = no_pieces e in rw (n.1, n.0, none) refl

  settled : Settled (rules_of b.sizes) (state_of b v)
  settled =
      let rules : Rules = rules_of b.sizes in
      let s : State = state_of b v in
      record {
        none_owed = refl;
        idle = λ e. subst (All IsHeld) (sym (no_requests e)) (All-nil IsHeld);
        idle_unpaused = λ e _. no_requests e;
        cancelled = all_three b v WaitsIfCancelled
            (λ i d low is. true_false (get_or b.waiting i d).irp.value.cancelled is (k.kept.waiting i d low).not_cancelled)
            (λ i d low is. out_has i d low) (no_done (λ d. WaitsIfCancelled (done_open rules d)));
        removing = λ removes. all_three b v Waits
            (λ i d low. true_false b.removing removes (stays_by b.removing b.waiting i low k.kept.removing))
            (λ i d low. out_has i d low) (no_done (λ d. Waits (done_open rules d)));
        sent = k.orderly.sending.sent;
        released = λ free stays. all_three b v (IsHeldBack rules s)
            (subst (All (λ h. IsHeldBack rules s (waiting_open rules h))) (sym (k.busy (let l = length-map v.tags (piece_on rules b.started) in let e = k.kept.sizes.depth in omega arith))) (All-nil (λ h. IsHeldBack rules s (waiting_open rules h))))
            (λ i d low still. true_false _ (out_started i d low) still) (no_done (λ d. IsHeldBack rules s (done_open rules d)));
        alive = all_three b v HasMore
            (λ i d low started. true_false _ started (rw untouched_all refl)) (λ i d low started. inl (out_has i d low)) (no_done (λ d. HasMore (done_open rules d)));
        at_work = λ free. all_three b v IsAtWork
            (λ i d low started. true_false _ started (rw untouched_all refl)) (λ i d low started. out_has i d low) (no_done (λ d. IsAtWork (done_open rules d)));
        within_window = tt;
      }

pub hands_up_none : (b b' : TableView) (v : AdapterView) (rooms : List Request) → IsInHand b v rooms → TakesNone b b' → HandsUpNone (view_of b v) (view_of b' v)
hands_up_none b b' v rooms k h = record {
  unfinished = unfinished b v rooms k h.none_ended;
  settled = settled b v rooms k h.none_ended;
  same = ap (λ (x : TableView). view_of x v) h.same;
}

-- WHAT HAS ENDED

-- what is promised of a packet as it is handed up, in its outcome's terms
record IsHanded (rules : Rules) (s : State) (o : OpenRequest) (r : Request) (payload : Payload) (status : NtStatus) : Type 0 where
  ended : All (HasEnded rules s o) o.marks
  success : (status ≡ Success) ↔ IsTrue (list_all is_done o.marks)
  cause : HasCause rules s o o.marks status
  carries : status ≡ DeviceBusy → Carries true rules r payload
  brings : r.kind ≡ Read → status ≡ Success → payload_bytes payload ≡ answer_bytes r.kind o.marks
  filled : r.kind ≡ Read → status ≡ Success → length (payload_bytes payload) ≡ transfer_length rules r
  moved : status ≡ Success → o.marks ≡ map Done (sectors_moved rules r payload)
  busy : All IsBack o.marks → status ≡ DeviceBusy

-- places all alike that are all back
back_first : (mark : Mark) (n : ℕ) → 0 < n → All IsBack (replicate n mark) → mark ≡ Back
back_first mark zero some all = absurd (omega arith)
back_first mark (suc n) some all = All-head IsBack mark (replicate n mark) all

none_back : (sectors : List (List ℕ)) → 0 < length sectors → All IsBack (map Done sectors) → ⊥
none_back [] some all = omega arith
none_back (x ∷ xs) some all = let e : Done x ≡ Back = All-head IsBack (Done x) (map Done xs) all in cc (e)

cause_done : (rules : Rules) (s : State) (o : OpenRequest) (sectors : List (List ℕ)) (status : NtStatus) → HasCause rules s o (map Done sectors) status
cause_done rules s o [] status = tt
cause_done rules s o (x ∷ xs) status = cause_done rules s o xs status

cause_first : (rules : Rules) (s : State) (o : OpenRequest) (mark : Mark) (n : ℕ) (status : NtStatus) → is_done mark ≡ false → Cause rules s o mark status → HasCause rules s o (replicate n mark) status
cause_first rules s o mark zero status waits h = tt
cause_first rules s o Untouched (suc n) status waits h = h
cause_first rules s o Out (suc n) status waits h = h
cause_first rules s o (Failed failure) (suc n) status waits h = h
cause_first rules s o Back (suc n) status waits h = h
cause_first rules s o (Done sector) (suc n) status waits h = absurd (cc (waits))

none_done : (mark : Mark) (n : ℕ) → 0 < n → is_done mark ≡ false → list_all is_done (replicate n mark) ≡ false
none_done mark zero some waits = absurd (omega arith)
none_done mark (suc n) some waits = rw waits refl

-- a packet of which no place is done
handed_alike : (rules : Rules) (s : State) (o : OpenRequest) (r : Request) (payload : Payload) (status : NtStatus) (mark : Mark) → o.marks ≡ replicate (places_of rules r) mark → 0 < places_of rules r
    → is_done mark ≡ false → Cause rules s o mark status → status ≢ Success → (status ≡ DeviceBusy → Carries true rules r payload) → (mark ≡ Back → status ≡ DeviceBusy) → IsHanded rules s o r payload status
handed_alike rules s o r payload status mark are some waits cause fails carries told = record {
  ended = subst (All (HasEnded rules s o)) (sym are) (All-replicate (HasEnded rules s o) (places_of rules r) mark (inr (status, cause)));
  success = (λ e. absurd (fails e), λ all. true_false (list_all is_done o.marks) all (subst (λ ms. list_all is_done ms ≡ false) (sym are) (none_done mark (places_of rules r) some waits)));
  cause = subst (λ ms. HasCause rules s o ms status) (sym are) (cause_first rules s o mark (places_of rules r) status waits cause);
  carries = carries;
  brings = λ _ e. absurd (fails e);
  filled = λ _ e. absurd (fails e);
  moved = λ e. absurd (fails e);
  busy = λ all. told (back_first mark (places_of rules r) some (subst (All IsBack) are all));
}

handed : (rules : Rules) (s : State) (o : OpenRequest) (d : Ended) (outcome : Outcome) → rules.busy_limit ≤ 1 → 0 < places_of rules d.request → o.late ≡ false → o.cancelled ≡ d.irp.value.cancelled
    → o.marks ≡ marks_left rules d.request d.irp.value.payload outcome → o.busy_returns ≡ busy_left outcome → HasOutcome rules s.removing d outcome → IsHanded rules s o d.request d.irp.value.payload (status_left outcome)
handed rules s o d (Returned Good) limit some timely same are busy why = record {
  ended = subst (All (HasEnded rules s o)) (sym are) (All-map (HasEnded rules s o) Done (sectors_moved rules d.request d.irp.value.payload) (λ k x low. inl refl));
  success = (λ _. subst (λ ms. list_all is_done ms ≡ true) (sym are) (all_done (sectors_moved rules d.request d.irp.value.payload)), λ _. refl);
  cause = subst (λ ms. HasCause rules s o ms Success) (sym are) (cause_done rules s o (sectors_moved rules d.request d.irp.value.payload) Success);
  carries = λ e. absurd (cc (e));
  brings = λ is _. sym (rw (is, are, all_done, bytes_done) why.0);
  filled = λ is _. why.1 is;
  moved = λ _. are;
  busy = λ all. absurd (none_back (sectors_moved rules d.request d.irp.value.payload) (subst (λ n. 0 < n) (sym (length-cut (places_of rules d.request) rules.sector_size (payload_bytes d.irp.value.payload))) some) (subst (All IsBack) are all));
}
handed rules s o d (Returned Busy) limit some timely same are busy why =
    handed_alike rules s o d.request d.irp.value.payload DeviceBusy Back are some refl (inr (omega arith, refl)) (λ e. absurd (cc (e))) (λ _. why) (λ _. refl)
handed rules s o d (Returned (Bad completion)) limit some timely same are busy why =
    let b = bad_status completion why in
    handed_alike rules s o d.request d.irp.value.payload (status_of_completion completion) (Failed (status_of_completion completion)) are some refl refl b.0 (λ e. absurd (b.1 e)) (λ e. absurd (cc (e)))
handed rules s o d Withdrawn limit some timely same are busy why =
    handed_alike rules s o d.request d.irp.value.payload Cancelled Untouched are some refl (inl (same ∙ why, refl)) (λ e. absurd (cc (e))) (λ e. absurd (cc (e))) (λ e. absurd (cc (e)))
handed rules s o d Gone limit some timely same are busy why =
    handed_alike rules s o d.request d.irp.value.payload NoSuchDevice Untouched are some refl (inr (why, late_is o.late timely)) (λ e. absurd (cc (e))) (λ e. absurd (cc (e))) (λ e. absurd (cc (e)))
  where
    late_is : (late : Bool) → late ≡ false → NoSuchDevice ≡ (if late then DeletePending else NoSuchDevice)
    late_is true e = absurd (cc (e))
    late_is false e = refl

-- from the third part of three
pub third_front : {X : Type 0} (first second third : List X) (x : X) → IsPermutation (first ++ (second ++ x ∷ third)) (x ∷ (first ++ (second ++ third)))
third_front first second third x = IsPermutation-trans _ _ _ (IsPermutation-append_right first _ _ (IsPermutation-middle second x third)) (IsPermutation-middle first x (second ++ third))

abbrev books_left : TableView → List Ended → List (Option (Option Request)) → TableView
books_left b rest slots = record b { done = rest; rooms = slots }

open_left : (b : TableView) (v : AdapterView) (d : Ended) (rest : List Ended) (slots : List (Option (Option Request))) → b.done ≡ d ∷ rest → IsPermutation (requests_of b v) (done_open (rules_of b.sizes) d ∷ requests_of (books_left b rest slots) v)
open_left b v d rest slots is =
    let rules : Rules = rules_of b.sizes in
    subst (λ (ds : List Ended). IsPermutation (map (waiting_open rules) b.waiting ++ (map (open_on rules b.started) v.tags ++ map (done_open rules) ds)) (done_open rules d ∷ requests_of (books_left b rest slots) v)) (sym is)
    (third_front (map (waiting_open rules) b.waiting) (map (open_on rules b.started) v.tags) (map (done_open rules) rest) (done_open rules d))

packets_left : {Y : Type 0} (f : PacketEntry → Y) (b : TableView) (v : AdapterView) (d : Ended) (rest : List Ended) (slots : List (Option (Option Request))) → b.done ≡ d ∷ rest → IsPermutation (of_packets f b v) (f (ended_entry d) ∷ of_packets f (books_left b rest slots) v)
packets_left f b v d rest slots is =
    subst (λ (ds : List Ended). IsPermutation (map (of_waiting f) b.waiting ++ (map (of_tag f b.started) v.tags ++ map (of_done f) ds)) (f (ended_entry d) ∷ of_packets f (books_left b rest slots) v)) (sym is)
    (third_front (map (of_waiting f) b.waiting) (map (of_tag f b.started) v.tags) (map (of_done f) rest) (f (ended_entry d)))

answers_left : (b : TableView) (v : AdapterView) (rooms : List Request) (d : Ended) (rest : List Ended) (slots : List (Option (Option Request))) → PortKept b v rooms → b.done ≡ d ∷ rest
    → IsHanded (rules_of b.sizes) (state_of b v) (done_open (rules_of b.sizes) d) d.request d.irp.value.payload (status_left d.outcome)
    → Answers (rules_of b.sizes) (state_of b v) d.irp.value.number (status_left d.outcome) (answer_bytes d.request.kind (marks_left (rules_of b.sizes) d.request d.irp.value.payload d.outcome)) (state_of (books_left b rest slots) v)
answers_left b v rooms d rest slots k is h = record {
  request = done_open (rules_of b.sizes) d;
  others = requests_of (books_left b rest slots) v;
  is_open = open_left b v d rest slots is;
  is_number = refl;
  ended = h.ended;
  success = h.success;
  cause = h.cause;
  hands_back = refl;
  after = IsSame-refl _;
}

is_handed : (b : TableView) (v : AdapterView) (rooms : List Request) (d : Ended) (rest : List Ended) (slots : List (Option (Option Request))) → PortKept b v rooms → b.done ≡ d ∷ rest
    → IsHanded (rules_of b.sizes) (state_of b v) (done_open (rules_of b.sizes) d) d.request d.irp.value.payload (status_left d.outcome)
is_handed b v rooms d rest slots k is =
    let rules : Rules = rules_of b.sizes in
    let e : HasEndedBy rules b.removing d = All-head (HasEndedBy rules b.removing) d rest (subst (All (HasEndedBy rules b.removing)) is k.ended) in
    handed rules (state_of b v) (done_open rules d) d d.outcome (omega arith) (places_some b.sizes d.request (kept_sector_some b v rooms k) e.bounded) refl refl refl refl e.why

kept_left : (b : TableView) (v : AdapterView) (rooms : List Request) (d : Ended) (rest : List Ended) (slots : List (Option (Option Request))) → PortKept b v rooms → b.done ≡ d ∷ rest → SetsSlot b.rooms d.spot (Some None) (Some (Some d.request)) slots → PortKept (books_left b rest slots) v (d.request ∷ rooms)
unfolding answers_left
kept_left b v rooms d rest slots k is slot =
    let rules : Rules = rules_of b.sizes in
    let all : All (IsRoom rules v) (d.request ∷ of_packets asked (books_left b rest slots) v) = All-permutation (IsRoom rules v) _ _ (packets_left asked b v d rest slots is) k.reserved in
    let l = ap (λ (ds : List Ended). length ds) is in
    record {
      adapter = k.adapter;
      sizes = k.sizes;
      started = k.started;
      waiting = k.waiting;
      in_turn = k.in_turn;
      at_work = k.at_work;
      ended = All-tail (HasEndedBy rules b.removing) d rest (subst (All (HasEndedBy rules b.removing)) is k.ended);
      reserved = All-tail (IsRoom rules v) d.request _ all;
      rooms_out = All-cons (IsRoom rules v) d.request rooms (All-head (IsRoom rules v) d.request _ all) k.rooms_out;
      spots = distinct_left d.spot (of_packets spot_in (books_left b rest slots) v) (distinct_same _ _ (packets_left spot_in b v d rest slots is) k.spots);
      taken = taken_left b.rooms d.spot (Some (Some d.request)) slots slot (of_packets spot_in (books_left b rest slots) v)
          (distinct_same _ _ (packets_left spot_in b v d rest slots is) k.spots) (All-permutation (IsTaken b.rooms) _ _ (packets_left spot_in b v d rest slots is) k.taken);
      removing = k.removing;
      distinct = AreDistinct-Step rules (state_of b v) (Answer d.irp.value.number (status_left d.outcome) (information (done_open rules d).request (status_left d.outcome)) (answer_bytes d.request.kind (marks_left rules d.request d.irp.value.payload d.outcome))) _ k.distinct
          (inl (refl, record { answers = answers_left b v rooms d rest slots k is (is_handed b v rooms d rest slots k is); informs = refl }));
      places = let c = k.places in omega arith;
      submitted = k.submitted;
      accepted = k.accepted;
      numbered = k.numbered;
      labels = k.labels;
    }

pub hand_left : (b b' : TableView) (v : AdapterView) (d : Ended) → TakesDone b d b' → (rooms : List Request) → IsInHand b v rooms → IsInHand b' v (d.request ∷ rooms)
hand_left b b' v d h rooms k = subst (λ x. IsInHand x v (d.request ∷ rooms)) (sym h.after) (in_hand (books_left b h.rest b'.rooms) v (d.request ∷ rooms) (kept_left b v rooms d h.rest b'.rooms k.kept h.is_front h.slot) k.busy)

-- the status and the information are as they were computed
pub hands_up : (b b' : TableView) (v : AdapterView) (rooms : List Request) (d : Ended) (status : NtStatus) (bytes_moved : ℕ) (climb : Climb) → IsInHand b v rooms → TakesDone b d b'
    → status ≡ status_left d.outcome → ((rules : Rules) → rules.sector_size ≡ b'.sizes.sector_size → bytes_moved ≡ information (as_client rules d.request []) status)
    → Climbs (entry d.irp.value d.request d.spot).above d.irp.value.number d.irp.value.cancelled status bytes_moved d.irp.value.payload climb → BringsRoutine (entry d.irp.value d.request d.spot).cancel_routine climb → HandsUp true (view_of b v) climb d.spot (view_of b' v)
unfolding answers_left
hands_up b b' v rooms d status bytes_moved climb k h status_is moved_is climbs brings =
    let rules : Rules = rules_of b.sizes in
    let x = is_handed b v rooms d h.rest b'.rooms k.kept h.is_front in
    subst (λ (y : TableView). HandsUp true (view_of b v) climb d.spot (view_of y v)) (sym h.after) (record {
      answer = record {
        packet = packet_as (ended_entry d);
        is_spot = refl;
        request = d.request;
        payload = d.irp.value.payload;
        status = status_left d.outcome;
        bytes = answer_bytes d.request.kind (marks_left rules d.request d.irp.value.payload d.outcome);
        answered = state_of (books_left b h.rest b'.rooms) v;
        answers = answers_left b v rooms d h.rest b'.rooms k.kept h.is_front x;
        is_request = refl;
      };
      brought = record {
        moved = x.moved;
        busy = λ _. x.busy;
        carries = x.carries;
        brings = x.brings;
        filled = λ is succeeds.
            let long : length (payload_bytes d.irp.value.payload) ≡ transfer_length rules d.request = x.filled is succeeds in
            let whole : transfer_length rules d.request ≡ d.request.extent.count * rules.sector_size = rw is refl in
            ap (λ (bytes : List ℕ). length bytes) (sym (x.brings is succeeds)) ∙ long ∙ whole;
        empty = (All-head (HasEndedBy rules b.removing) d h.rest (subst (All (HasEndedBy rules b.removing)) h.is_front k.kept.ended)).empty;
      };
      left = record {
        whole = true;
        is_whole = λ _. refl;
        room = sets_room b.rooms d.spot (Some None) (Some (Some d.request)) b'.rooms h.slot;
        others = of_packets packet_as (books_left b h.rest b'.rooms) v;
        is_in = packets_left packet_as b v d h.rest b'.rooms h.is_front;
        starts = [];
        only_starts = All-nil IsStart;
        moves = record { same_rules = refl; same_packets = IsPermutation-refl _; same_rooms = λ _. refl; same_submitted = refl; same_most = refl; same_places = refl; run = IsSame-refl _; adapter = moves_none v };
        started_stay = λ i o low started. All-contains_itself (requests_of (books_left b h.rest b'.rooms) v) i o low;
        still = λ window. (refl, refl);
      };
      climbs = subst (λ (st : NtStatus). Climbs (entry d.irp.value d.request d.spot).above d.irp.value.number d.irp.value.cancelled st (information (as_client rules d.request []) st) d.irp.value.payload climb) status_is
          (subst (λ (n : ℕ). Climbs (entry d.irp.value d.request d.spot).above d.irp.value.number d.irp.value.cancelled status n d.irp.value.payload climb) (subst (λ (y : TableView). bytes_moved ≡ information (as_client (rules_of y.sizes) d.request []) status) h.after (moved_is (rules_of b'.sizes) refl)) climbs);
      brings_routine = brings;
    })

pub moved_few : (b b' : TableView) (v : AdapterView) (rooms : List Request) (d : Ended) → IsInHand b v rooms → TakesDone b d b' → d.request.extent.count * b'.sizes.sector_size < 2 ^ 64
moved_few b b' v rooms d k h =
    let rules : Rules = rules_of b.sizes in
    let e : HasEndedBy rules b.removing d = All-head (HasEndedBy rules b.removing) d h.rest (subst (All (HasEndedBy rules b.removing)) h.is_front k.kept.ended) in
    let m = k.kept.adapter.max_transfer.1 in
    let m' = k.kept.sizes.max_transfer in
    let s' = k.kept.sizes.sector_size in
    let small : v.sector_size ≤ 4096 = elim k.kept.adapter.sector_size [ inl e ↦ omega arith | inr e ↦ omega arith ] in
    subst (λ (x : TableView). d.request.extent.count * x.sizes.sector_size < 2 ^ 64) (sym h.after) (bytes_short b.sizes d.request (omega arith) (omega arith) e.bounded)
