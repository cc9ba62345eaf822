-- What the port keeps, in the terms of its layer.
use Rattle.std.proofs.Common.{◌≡◌, ◌<◌, ◌≤◌, inl, inr, ℕ, true, false, List, [], ◌∷◌, ◌++◌, refl, sym, subst, ap, ◌∙◌, arith, map, length, get_or, eqb}
use Rattle.std.specs.Prelude.{All, IsPermutation}
use Rattle.std.proofs.lemmas.List.{length-replicate, length-map, map-append}
use Rattle.std.proofs.lemmas.List.Elements.{All-nil, All-append, All-map, All-weaker, All-replicate}
use Rattle.std.proofs.lemmas.List.Sorted.{IsPermutation-refl}
use Rattle.srb.specs.declared.Class.TheVariants.{Good, Busy, Bad}
use Rattle.irp.specs.declared.Payload.{Payload}
use Rattle.adapter.specs.View.{AdapterView, TagInUse}
use Rattle.machine.specs.declared.Request.{Request}
use Rattle.machine.specs.Rules.{Rules}
use Rattle.machine.specs.State.{Out, Done, Failed, Back, OpenRequest}
use Rattle.machine.specs.Sending.{is_started, status_of_completion}
use Rattle.machine.specs.Settled.{HasGone, IsAllSent}
use Rattle.machine.specs.Numbers.{HasPlaces, HavePlaces, request_number}
use Rattle.device.specs.View.{packet_number, packet_spot, IsSending, WaitsForTag, piece_on_tag, use_on_tag}
use Rattle.port.specs.declared.queues.PortPacket.{PortPacket}
use Rattle.port.specs.declared.queues.Ended.{Ended}
use Rattle.port.specs.declared.queues.Outcome.{Outcome}
use Rattle.port.specs.declared.queues.Outcome.TheVariants.{Returned, Withdrawn, Gone}
use Rattle.port.specs.inside.TableView.{TableView, spot_in}
use Rattle.port.specs.Shown.{entry_on, rules_of, places_of, marks_left, busy_left, waiting_open, open_on, piece_on, done_open, packet, of_waiting, of_tag, of_done, state_of, requests_of, packets_of, of_packets}
use Rattle.device.specs.Served.{sectors_moved}
use Rattle.port.specs.inside.Invariant.{PortKept, IsBusy, IsInHand, IsWaiting, IsAtWork, HasEnded, HasOutcome, IsTaken}
use Rattle.port.proofs.Places.{off_rooms}
use Rattle.std.specs.List.{IsDistinct}
use Rattle.port.specs.inside.Releases.{AreLowerInUse}
use Rattle.port.proofs.Lists.{length-cut}
use Rattle.port.proofs.Tags.{all_in_use}
use Rattle.port.proofs.Sizing.{places_some}
use Rattle.port.proofs.Opening.{untouched_all, started_by, ended_started, true_false}
use Rattle.port.proofs.Starting.{kept_sector_some}
use Rattle.port.proofs.MayAct.{all_may_act}

-- a fact of each open request, by where its packet is
pub all_three : (b : TableView) (v : AdapterView) (P : OpenRequest → Type 0) → All (λ h. P (waiting_open (rules_of b.sizes) h)) b.waiting → All (λ u. P (open_on (rules_of b.sizes) b.started u)) v.tags
    → All (λ d. P (done_open (rules_of b.sizes) d)) b.done → All P (requests_of b v)
all_three b v P waiting out ended =
    All-append P _ _ (All-map P (waiting_open (rules_of b.sizes)) b.waiting waiting)
    (All-append P _ _ (All-map P (open_on (rules_of b.sizes) b.started) v.tags out) (All-map P (done_open (rules_of b.sizes)) b.done ended))

pub maps_are : {X Y Z : Type 0} (f : X → Y) (g : Y → Z) (h : X → Z) → ((x : X) → g (f x) ≡ h x) → (xs : List X) → map g (map f xs) ≡ map h xs
maps_are f g h same [] = refl
maps_are f g h same (x ∷ xs) = rw (same x, maps_are f g h same xs) refl

pub marks_some : (rules : Rules) (r : Request) (payload : Payload) (outcome : Outcome) → 0 < places_of rules r → 0 < length (marks_left rules r payload outcome)
marks_some rules r payload (Returned Good) some = rw (length-map, length-cut) some
marks_some rules r payload (Returned Busy) some = rw length-replicate some
marks_some rules r payload (Returned (Bad completion)) some = rw length-replicate some
marks_some rules r payload Withdrawn some = rw length-replicate some
marks_some rules r payload Gone some = rw length-replicate some

have_places : (b : TableView) (v : AdapterView) (rooms : List Request) → PortKept b v rooms → HavePlaces (state_of b v)
have_places b v rooms k =
    let rules : Rules = rules_of b.sizes in
    let some : 0 < b.sizes.sector_size = kept_sector_some b v rooms k in
    all_three b v HasPlaces
    (All-weaker (IsWaiting rules v) (λ h. HasPlaces (waiting_open rules h)) (λ h w. rw length-replicate (places_some b.sizes h.request some w.room.bounded)) b.waiting k.waiting)
    (All-weaker (IsAtWork rules b.started) (λ u. HasPlaces (open_on rules b.started u)) (λ u w. rw (w.on_tag, length-replicate) (places_some b.sizes w.held.request some w.bounded)) v.tags k.at_work)
    (All-weaker (HasEnded rules b.removing) (λ d. HasPlaces (done_open rules d)) (λ d e. marks_some rules d.request d.irp.value.payload d.outcome (places_some b.sizes d.request some e.bounded)) b.done k.ended)

pub numbers_are : (b : TableView) (v : AdapterView) → map packet_number (packets_of b v) ≡ map request_number (requests_of b v)
numbers_are b v =
    let rules : Rules = rules_of b.sizes in
    let w : map packet_number (map (of_waiting packet) b.waiting) ≡ map request_number (map (waiting_open rules) b.waiting) =
    maps_are (of_waiting packet) packet_number (λ (h : PortPacket). h.irp.value.number) (λ h. refl) b.waiting ∙ sym (maps_are (waiting_open rules) request_number (λ (h : PortPacket). h.irp.value.number) (λ h. refl) b.waiting) in
    let d : map packet_number (map (of_done packet) b.done) ≡ map request_number (map (done_open rules) b.done) =
    maps_are (of_done packet) packet_number (λ (h : Ended). h.irp.value.number) (λ h. refl) b.done ∙ sym (maps_are (done_open rules) request_number (λ (h : Ended). h.irp.value.number) (λ h. refl) b.done) in
    let t : map packet_number (map (of_tag packet b.started) v.tags) ≡ map request_number (map (open_on rules b.started) v.tags) =
    maps_are (of_tag packet b.started) packet_number (λ (u : TagInUse). (of_tag packet b.started u).number) (λ u. refl) v.tags ∙ sym (maps_are (open_on rules b.started) request_number (λ (u : TagInUse). (of_tag packet b.started u).number) (λ u. refl) v.tags) in
    map-append packet_number (map (of_waiting packet) b.waiting) _
    ∙ ap (λ ns. map packet_number (map (of_waiting packet) b.waiting) ++ ns) (map-append packet_number (map (of_tag packet b.started) v.tags) (map (of_done packet) b.done))
    ∙ ap (λ ns. ns ++ (map packet_number (map (of_tag packet b.started) v.tags) ++ map packet_number (map (of_done packet) b.done))) w
    ∙ ap (λ ns. map request_number (map (waiting_open rules) b.waiting) ++ (ns ++ map packet_number (map (of_done packet) b.done))) t
    ∙ ap (λ ns. map request_number (map (waiting_open rules) b.waiting) ++ (map request_number (map (open_on rules b.started) v.tags) ++ ns)) d
    ∙ ap (λ ns. map request_number (map (waiting_open rules) b.waiting) ++ ns) (sym (map-append request_number (map (open_on rules b.started) v.tags) (map (done_open rules) b.done)))
    ∙ sym (map-append request_number (map (waiting_open rules) b.waiting) _)

-- the spots that the packets show
pub spots_are : (b : TableView) (v : AdapterView) → map packet_spot (packets_of b v) ≡ of_packets spot_in b v
spots_are b v =
    map-append packet_spot (map (of_waiting packet) b.waiting) _
    ∙ ap (λ ns. map packet_spot (map (of_waiting packet) b.waiting) ++ ns) (map-append packet_spot (map (of_tag packet b.started) v.tags) (map (of_done packet) b.done))
    ∙ ap (λ ns. ns ++ (map packet_spot (map (of_tag packet b.started) v.tags) ++ map packet_spot (map (of_done packet) b.done))) (maps_are (of_waiting packet) packet_spot (of_waiting spot_in) (λ h. refl) b.waiting)
    ∙ ap (λ ns. map (of_waiting spot_in) b.waiting ++ (ns ++ map packet_spot (map (of_done packet) b.done))) (maps_are (of_tag packet b.started) packet_spot (of_tag spot_in b.started) (λ u. refl) v.tags)
    ∙ ap (λ ns. map (of_waiting spot_in) b.waiting ++ (map (of_tag spot_in b.started) v.tags ++ ns)) (maps_are (of_done packet) packet_spot (of_done spot_in) (λ d. refl) b.done)

-- what ended will not be sent
ended_sent : (rules : Rules) (o : OpenRequest) (r : Request) (payload : Payload) (outcome : Outcome) → o.marks ≡ marks_left rules r payload outcome → o.busy_returns ≡ busy_left outcome
    → rules.busy_limit ≤ 1 → is_started o ≡ true → All (HasGone rules o) o.marks
ended_sent rules o r payload (Returned Good) e busy limit started = subst (All (HasGone rules o)) (sym e) (All-map (HasGone rules o) Done (sectors_moved rules r payload) (λ k x low. tt))
ended_sent rules o r payload (Returned Busy) e busy limit started = subst (All (HasGone rules o)) (sym e) (All-replicate (HasGone rules o) (places_of rules r) Back (omega arith))
ended_sent rules o r payload (Returned (Bad completion)) e busy limit started = subst (All (HasGone rules o)) (sym e) (All-replicate (HasGone rules o) (places_of rules r) (Failed (status_of_completion completion)) tt)
ended_sent rules o r payload Withdrawn e busy limit started = true_false _ started (rw (e, untouched_all) refl)
ended_sent rules o r payload Gone e busy limit started = true_false _ started (rw (e, untouched_all) refl)

pub ended_is_started : (b : TableView) (d : Ended) → 0 < b.sizes.sector_size → HasEnded (rules_of b.sizes) b.removing d → b.removing ≡ false → d.irp.value.cancelled ≡ false → is_started (done_open (rules_of b.sizes) d) ≡ true
ended_is_started b d some e stays timely =
    ended_started (rules_of b.sizes) d (places_some b.sizes d.request some e.bounded)
    (λ o. subst (HasOutcome (rules_of b.sizes) b.removing d) o e.why) (λ o. true_false b.removing (subst (HasOutcome (rules_of b.sizes) b.removing d) o e.why) stays) timely

sending : (b : TableView) (v : AdapterView) (rooms : List Request) → PortKept b v rooms → IsBusy b v → IsSending (rules_of b.sizes) (state_of b v)
sending b v rooms k busy =
    let rules : Rules = rules_of b.sizes in
    let some : 0 < b.sizes.sector_size = kept_sector_some b v rooms k in
    record {
      sent = λ free stays. all_three b v (IsAllSent rules)
          (λ i d low timely started. true_false _ started (rw untouched_all refl))
          (λ i d low timely started. All-replicate (HasGone rules (open_on rules b.started (get_or v.tags i d))) (places_of rules (entry_on b.started (get_or v.tags i d).tag).request) Out tt)
          (λ i d low timely started. ended_sent rules (done_open rules (get_or b.done i d)) (get_or b.done i d).request (get_or b.done i d).irp.value.payload (get_or b.done i d).outcome refl refl (omega arith) started);
      released = λ free stays. all_three b v (WaitsForTag rules (state_of b v))
          (subst (All (λ h. WaitsForTag rules (state_of b v) (waiting_open rules h))) (sym (none_waits free)) (All-nil (λ h. WaitsForTag rules (state_of b v) (waiting_open rules h))))
          (All-weaker (IsAtWork rules b.started) (λ u. WaitsForTag rules (state_of b v) (open_on rules b.started u)) (λ u w timely still. true_false (is_started (open_on rules b.started u)) (rw w.on_tag (started_by _ Out _ (places_some b.sizes w.held.request some w.bounded) refl refl)) still) v.tags k.at_work)
          (All-weaker (HasEnded rules b.removing) (λ d. WaitsForTag rules (state_of b v) (done_open rules d)) (λ d e timely still. true_false (is_started (done_open rules d)) (ended_is_started b d some e stays timely) still) b.done k.ended);
      within_window = tt;
    }
  where
    none_waits : length (map (piece_on (rules_of b.sizes) b.started) v.tags) < b.sizes.depth → b.waiting ≡ []
    none_waits free = busy (let l = length-map v.tags (piece_on (rules_of b.sizes) b.started) in let e = k.sizes.depth in omega arith)

-- after a loop over all tags none is free, or nothing waits
pub busy_after : (b : TableView) (v : AdapterView) (tag : ℕ) → v.depth ≤ tag → AreLowerInUse b v tag → IsBusy b v
busy_after b v tag all (inl none) = λ free. none
busy_after b v tag all (inr h) = λ free. let few = all_in_use tag v.tags h in absurd (omega arith)

pub in_hand : (b : TableView) (v : AdapterView) (rooms : List Request) → PortKept b v rooms → IsBusy b v → IsInHand b v rooms
in_hand b v rooms k busy = record {
  kept = k;
  busy = busy;
  orderly = record {
    adapter = k.adapter;
    read = record {
      same_size = k.sizes.sector_size;
      same_sectors = k.sizes.sectors;
      same_depth = k.sizes.depth;
      arrays = refl;
      pieces = subst (λ xs. IsPermutation (map piece_on_tag (map (piece_on (rules_of b.sizes) b.started) v.tags)) xs) (maps_are (piece_on (rules_of b.sizes) b.started) piece_on_tag use_on_tag (λ u. refl) v.tags) (IsPermutation-refl _);
      may_act = all_may_act b v rooms k;
    };
    distinct = k.distinct;
    places = have_places b v rooms k;
    packets = subst (λ xs. IsPermutation (map packet_number (packets_of b v)) xs) (numbers_are b v) (IsPermutation-refl _);
    spots = subst (λ ns. IsDistinct eqb ns) (sym (spots_are b v)) k.spots;
    vacant = off_rooms b.rooms (packets_of b v) (subst (λ ns. All (IsTaken b.rooms) ns) (sym (spots_are b v)) k.taken);
    sending = sending b v rooms k busy;
    labels = let l = length-map v.tags (piece_on (rules_of b.sizes) b.started) in let e = k.sizes.depth in let c = k.labels in omega arith;
    uncounted = refl;
    none_owed = refl;
    not_removed = refl;
  };
}
