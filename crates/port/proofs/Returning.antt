-- The piece of a tag comes back, and its packet ends.
use Rattle.std.proofs.Common.{◌≡◌, ◌<◌, ◌≤◌, inl, ℕ, ◌+◌, ◌-◌, Bool, true, List, [], ◌∷◌, ◌++◌, Option, Some, None, refl, sym, subst, ap, ◌∙◌, arith, map, length, replicate}
use Rattle.std.specs.Prelude.{All, IsPermutation, slice_set, IsSome}
use Rattle.std.specs.List.{concat}
use Rattle.ntstatus.specs.declared.Sense.{Sense}
use Rattle.std.proofs.lemmas.List.{length-replicate, length-set, length-append, length-map, map-append}
use Rattle.std.proofs.lemmas.List.Elements.{All-map, All-push, All-weaker, All-head, All-tail}
use Rattle.std.proofs.lemmas.List.Sorted.{IsPermutation-sym, IsPermutation-trans, IsPermutation-map, IsPermutation-append_left, IsPermutation-append_right, All-permutation, Contains-permutation, length_permutation}
use Rattle.sector.specs.Splice.{splice}
use Rattle.srb.specs.declared.Srb.{Srb}
use Rattle.srb.specs.declared.Completion.{Completion}
use Rattle.srb.specs.declared.Class.{Class}
use Rattle.srb.specs.declared.Class.TheVariants.{Good, Busy, Bad}
use Rattle.srb.specs.declared.DeviceLabel.TheVariants.{Return}
use Rattle.srb.specs.Fate.{Acted, class_of}
use Rattle.adapter.specs.View.{AdapterView, TagInUse, IsInOrder, IsOn, HasNotTag, MayReturn}
use Rattle.adapter.specs.Calls.{Finishes as AdapterFinishes, FinishesNot as AdapterFinishesNot}
use Rattle.irp.specs.declared.Payload.{Payload}
use Rattle.irp.specs.declared.Payload.TheVariants.{Srb as Packed}
use Rattle.srb.specs.declared.Kind.{Kind}
use Rattle.srb.specs.declared.Kind.TheVariants.{Read, Write, Flush}
use Rattle.machine.specs.declared.Request.{Request}
use Rattle.machine.specs.Rules.{Rules, as_client}
use Rattle.machine.specs.State.{Mark, Done, Out, OpenRequest}
use Rattle.machine.specs.Sending.{LeavesMarks, Returns, given_back, one_if_busy, HasOtherTag}
use Rattle.device.specs.View.{AsksFor, Carries, IsBounded, payload_bytes, sent_bytes, label_places, transfer_length}
use Rattle.device.specs.Served.{Finishes, FinishesNot, Moves, sectors_moved}
use Rattle.machine.proofs.Same.{IsSame-refl}
use Rattle.machine.proofs.Numbers.{AreDistinct-DeviceStep}
use Rattle.port.specs.declared.queues.PortPacket.{PortPacket}
use Rattle.port.specs.declared.queues.Ended.{Ended}
use Rattle.port.specs.declared.queues.Outcome.{Outcome}
use Rattle.port.specs.declared.queues.Outcome.TheVariants.{Returned, Withdrawn, Gone}
use Rattle.port.specs.inside.TableView.{PacketEntry, TableView, entry_of, ended_entry, spot_in}
use Rattle.port.specs.inside.TableCalls.{held_on, EndsAs, Ends, as_returned, sense_left}
use Rattle.port.specs.Shown.{rules_of, places_of, marks_left, busy_left, open_as, waiting_open, done_open, out_open, out_piece, open_on, piece_on, entry_on, packet as packet_as, of_packets, of_waiting, of_tag, of_done, state_of, view_of, requests_of}
use Rattle.port.specs.inside.Invariant.{asked, PortKept, IsRoom, IsWaiting, IsEmptyIfFlush, IsAtWork, IsDoing, HasEnded, HasOutcome, IsTaken}
use Rattle.port.proofs.Places.{distinct_same}
use Rattle.port.specs.inside.Releases.{Releases}
use Rattle.port.proofs.Lists.{splice_whole, second_front, last_front, length-cut}
use Rattle.port.proofs.Tags.{others_same, others_apart}
use Rattle.adapter.proofs.Joining.{moves_one}
use Rattle.port.proofs.Starting.{work_beside, room_moves, waiting_moves, moves_then}

abbrev pub books_returned : TableView → ℕ → Ended → TableView
books_returned b tag ended = record b { started = slice_set b.started tag None; done = b.done ++ ended ∷ [] }

abbrev pub view_returned : AdapterView → List TagInUse → ℕ → ℕ → Class → AdapterView
view_returned v tags failures piece class = record v { tags = tags; failures = failures; labels = v.labels ++ Return piece class ∷ [] }

-- what is shown of the tags: that of the packet on the tag, and the others'
pub tags_on : {Y : Type 0} (F : PacketEntry → TagInUse → Y) (started : List (Option PortPacket)) (tags : List TagInUse) (use' : TagInUse) (others : List TagInUse) (held : PortPacket)
    → IsPermutation tags (use' ∷ others) → held_on started use'.tag ≡ Some held
    → IsPermutation (map (λ u. F (entry_on started u.tag) u) tags) (F (entry_of held) use' ∷ map (λ u. F (entry_on started u.tag) u) others)
tags_on F started tags use' others held p on =
    let more = IsPermutation-map (λ u. F (entry_on started u.tag) u) tags (use' ∷ others) p in
    rw on at more

-- and of the others where the tag's packet left
pub tags_left : {Y : Type 0} (F : PacketEntry → TagInUse → Y) (started : List (Option PortPacket)) (tag : ℕ) (x : Option PortPacket) (tags' others : List TagInUse)
    → All (HasNotTag tag) others → IsPermutation tags' others
    → IsPermutation (map (λ u. F (entry_on (slice_set started tag x) u.tag) u) tags') (map (λ u. F (entry_on started u.tag) u) others)
tags_left F started tag x tags' others apart p =
    let more = IsPermutation-map (λ u. F (entry_on (slice_set started tag x) u.tag) u) tags' others p in
    rw (others_same F started tag x others apart) at more

-- what the packet on a tag is doing
pub on_tag_work : (rules : Rules) (started : List (Option PortPacket)) (tags : List TagInUse) (use' : TagInUse) (others : List TagInUse) (tag : ℕ) (held : PortPacket)
    → All (IsAtWork rules started) tags → IsPermutation tags (use' ∷ others) → use'.tag ≡ tag → held_on started tag ≡ Some held
    → IsBounded rules held.request × IsDoing rules held.request use'.fate use'.srb × IsEmptyIfFlush held.request use'.srb.data
on_tag_work rules started tags use' others tag held all p is on =
    let w : IsAtWork rules started use' = All-head (IsAtWork rules started) use' others (All-permutation (IsAtWork rules started) _ _ p all) in
    let same : w.held ≡ held = cc (w.on_tag, is, on) in
    let bounded : IsBounded rules held.request = subst (λ (h : PortPacket). IsBounded rules h.request) same w.bounded in
    let doing : IsDoing rules held.request use'.fate use'.srb = subst (λ (h : PortPacket). IsDoing rules h.request use'.fate use'.srb) same w.doing in
    let empty : IsEmptyIfFlush held.request use'.srb.data = subst (λ (h : PortPacket). IsEmptyIfFlush h.request use'.srb.data) same w.empty in
    (bounded, doing, empty)

pub on_tag_some : (rules : Rules) (started : List (Option PortPacket)) (tags : List TagInUse) (use' : TagInUse) (others : List TagInUse) (tag : ℕ)
    → All (IsAtWork rules started) tags → IsPermutation tags (use' ∷ others) → use'.tag ≡ tag → (held : PortPacket) × (held_on started tag ≡ Some held)
on_tag_some rules started tags use' others tag all p is =
    let w : IsAtWork rules started use' = All-head (IsAtWork rules started) use' others (All-permutation (IsAtWork rules started) _ _ p all) in
    (w.held, subst (λ t. held_on started t ≡ Some w.held) is w.on_tag)

pub length_marks : (rules : Rules) (r : Request) (payload : Payload) (outcome : Outcome) → length (marks_left rules r payload outcome) ≡ places_of rules r
length_marks rules r payload (Returned Good) = rw (length-map, length-cut) refl
length_marks rules r payload (Returned Busy) = length-replicate _ _
length_marks rules r payload (Returned (Bad completion)) = length-replicate _ _
length_marks rules r payload Withdrawn = length-replicate _ _
length_marks rules r payload Gone = length-replicate _ _

abbrev pub with_sense : Srb → Option Sense → Srb
with_sense srb sense = record srb { sense = sense }

abbrev pub done_as : Rules → PacketEntry → Payload → Outcome → OpenRequest
done_as rules e payload outcome = open_as rules e payload (busy_left outcome) (marks_left rules e.request payload outcome)

pub done_is : (rules : Rules) (d : Ended) (e : PacketEntry) (payload : Payload) (outcome : Outcome) → ended_entry d ≡ e → d.irp.value.payload ≡ payload → d.outcome ≡ outcome → done_open rules d ≡ done_as rules e payload outcome
done_is rules d e payload outcome same carries ends =
    ap (λ (x : PacketEntry). done_as rules x d.irp.value.payload d.outcome) same ∙ ap (λ (p : Payload). done_as rules e p d.outcome) carries ∙ ap (λ (o : Outcome). done_as rules e payload o) ends

same_sent : (kind : Kind) (srb : Srb) (sense : Option Sense) → sent_bytes kind (Packed (with_sense srb sense)) ≡ sent_bytes kind (Packed srb)
same_sent Read srb sense = refl
same_sent Write srb sense = refl
same_sent Flush srb sense = refl

busy_is : (class : Class) → busy_left (Returned class) ≡ 0 + one_if_busy class
busy_is Good = refl
busy_is Busy = refl
busy_is (Bad completion) = refl

-- the marks are those that the class leaves
leaves_marks : (rules : Rules) (failures : ℕ) (held : PortPacket) (use' : TagInUse) (sense : Option Sense) (class : Class) → MayReturn failures use' class → IsDoing rules held.request use'.fate use'.srb
    → LeavesMarks (out_piece rules (entry_of held) use') class (marks_left rules held.request (Packed (with_sense use'.srb sense)) (Returned class))
leaves_marks rules failures held use' sense Good may doing =
    let moved : List (List ℕ) = may.0.0 in
    let d : IsDoing rules held.request (Acted moved) use'.srb = subst (λ f. IsDoing rules held.request f use'.srb) may.0.1 doing in
    (moved, may.0.1, ap (λ sectors. map Done sectors) d.1)
leaves_marks rules failures held use' sense Busy may doing = (may.0, refl)
leaves_marks rules failures held use' sense (Bad completion) may doing = (may.1, refl)

-- what came back busy has no sense
abbrev pub IsQuiet : Class → Option Sense → Type 0
IsQuiet Good sense = Unit {0}
IsQuiet Busy sense = sense ≡ None
IsQuiet (Bad completion) sense = Unit {0}

quiet_left : (class : Class) (sense : Option Sense) → IsQuiet class (sense_left class sense)
quiet_left Good sense = tt
quiet_left Busy sense = refl
quiet_left (Bad completion) sense = tt

-- and the packet has ended for that reason
outcome_is : (rules : Rules) (removing : Bool) (failures : ℕ) (held : PortPacket) (use' : TagInUse) (sense : Option Sense) (class : Class) (ended : Ended) → IsQuiet class sense → MayReturn failures use' class → IsDoing rules held.request use'.fate use'.srb
    → EndsAs held (Packed (with_sense use'.srb sense)) (Returned class) ended → HasOutcome rules removing ended ended.outcome
outcome_is rules removing failures held use' sense class ended quiet may doing h =
    subst (HasOutcome rules removing ended) (sym h.ends) (by_class class quiet may)
  where
    request_is : ended.request ≡ held.request
    request_is = ap (λ (e : PacketEntry). e.request) h.same_entry

    by_class : (class : Class) → IsQuiet class sense → MayReturn failures use' class → HasOutcome rules removing ended (Returned class)
    by_class Good quiet may =
        let moved : List (List ℕ) = may.0.0 in
        let d : IsDoing rules held.request (Acted moved) use'.srb = subst (λ f. IsDoing rules held.request f use'.srb) may.0.1 doing in
        let P : Request → Payload → Type 0 =
        λ r p. (concat (sectors_moved rules r p) ≡ payload_bytes p) × (r.kind ≡ Read → length (payload_bytes p) ≡ transfer_length rules r) in
        subst (λ p. P ended.request p) (sym h.carries) (subst (λ r. P r (Packed (with_sense use'.srb sense))) (sym request_is) (ap concat d.1 ∙ sym d.0, d.2))
    by_class Busy quiet may =
        let d : AsksFor rules held.request use'.srb = subst (λ f. IsDoing rules held.request f use'.srb) may.0 doing in
        subst (λ p. Carries true rules ended.request p) (sym h.carries) (subst (λ r. Carries true rules r (Packed (with_sense use'.srb sense))) (sym request_is)
        (record { function = d.function; flags = d.flags; asks = d.asks; plain = d.plain; data_length = d.data_length; label_length = d.label_length; sense = quiet }))
    by_class (Bad completion) quiet may = may.1

pub record Back (b : TableView) (v : AdapterView) (tag : ℕ) (use' : TagInUse) (others tags' : List TagInUse) (failures : ℕ) (class : Class) (sense : Option Sense) (held : PortPacket) (ended : Ended) : Type 0 where
  pub on : IsOn v tag use' others
  pub counted : v.failures ≤ failures
  pub may : MayReturn failures use' class
  pub left : IsPermutation tags' others
  pub held_is : held_on b.started tag ≡ Some held
  pub ends_as : EndsAs held (Packed (with_sense use'.srb sense)) (Returned class) ended
  pub quiet : IsQuiet class sense

module _ (b : TableView) (v : AdapterView) (tag : ℕ) (use' : TagInUse) (others tags' : List TagInUse) (failures : ℕ) (class : Class) (sense : Option Sense) (held : PortPacket) (ended : Ended) where
  machine_returns : (rooms : List Request) → PortKept b v rooms → Back b v tag use' others tags' failures class sense held ended
      → Returns (state_of b v) use'.piece class (state_of (books_returned b tag ended) (view_returned v tags' failures use'.piece class))
  machine_returns rooms k h =
      let rules : Rules = rules_of b.sizes in
      let e : PacketEntry = entry_of held in
      let on : held_on b.started use'.tag ≡ Some held = subst (λ t. held_on b.started t ≡ Some held) (sym h.on.has_tag) h.held_is in
      let apart : All (HasNotTag tag) others = others_apart v tag use' others k.adapter h.on in
      let work = on_tag_work rules b.started v.tags use' others tag held k.at_work h.on.in_use h.on.has_tag h.held_is in
      let marks : List Mark = marks_left rules held.request (Packed (with_sense use'.srb sense)) (Returned class) in
      let whole : splice (replicate (places_of rules held.request) Out) 0 marks ≡ marks =
      splice_whole _ _ (let a = length-replicate (places_of rules held.request) Out in let c = length_marks rules held.request (Packed (with_sense use'.srb sense)) (Returned class) in omega arith) in
      let x : OpenRequest = given_back (out_piece rules e use') class marks (out_open rules e use') in
      let is : done_open rules ended ≡ x =
      done_is rules ended e (Packed (with_sense use'.srb sense)) (Returned class) h.ends_as.same_entry h.ends_as.carries h.ends_as.ends
      ∙ ap (λ (n : ℕ). open_as rules e (Packed (with_sense use'.srb sense)) n marks) (busy_is class)
      ∙ ap (λ (ms : List Mark). open_as rules e (Packed (with_sense use'.srb sense)) (0 + one_if_busy class) ms) (sym whole)
      ∙ ap (λ (bytes : List ℕ). record x { request = as_client rules held.request bytes }) (same_sent held.request.kind use'.srb sense) in
      record {
        piece = out_piece rules e use';
        other_pieces = map (piece_on rules b.started) others;
        owner = out_open rules e use';
        others = map (waiting_open rules) b.waiting ++ (map (open_on rules b.started) others ++ map (done_open rules) b.done);
        marks = marks;
        is_out = tags_on (out_piece rules) b.started v.tags use' others held h.on.in_use on;
        is_number = refl;
        is_open = second_front (map (waiting_open rules) b.waiting) (map (open_on rules b.started) v.tags) (map (open_on rules b.started) others) (map (done_open rules) b.done) (out_open rules e use')
            (tags_on (out_open rules) b.started v.tags use' others held h.on.in_use on);
        is_owner = refl;
        leaves = leaves_marks rules failures held use' sense class h.may work.1;
        after = record {
          arrays = refl;
          next_request = refl;
          next_piece = refl;
          requests = subst (λ (y : OpenRequest). IsPermutation (requests_of (books_returned b tag ended) (view_returned v tags' failures use'.piece class)) (y ∷ (map (waiting_open rules) b.waiting ++ (map (open_on rules b.started) others ++ map (done_open rules) b.done)))) is
              (put_last rules apart);
          pieces = tags_left (out_piece rules) b.started tag None tags' others apart h.left;
          owed = refl;
          paused = refl;
          removing = refl;
          removed = refl;
        };
      }
    where
      put_last : (rules : Rules) → All (HasNotTag tag) others → IsPermutation (map (waiting_open rules) b.waiting ++ (map (open_on rules (slice_set b.started tag None)) tags' ++ map (done_open rules) (b.done ++ ended ∷ [])))
          (done_open rules ended ∷ (map (waiting_open rules) b.waiting ++ (map (open_on rules b.started) others ++ map (done_open rules) b.done)))
      put_last rules apart =
          let more : map (done_open rules) (b.done ++ ended ∷ []) ≡ map (done_open rules) b.done ++ done_open rules ended ∷ [] = map-append (done_open rules) b.done (ended ∷ []) in
          rw more (IsPermutation-trans _ _ _ (IsPermutation-append_right (map (waiting_open rules) b.waiting) _ _ (IsPermutation-append_left (map (done_open rules) b.done ++ done_open rules ended ∷ []) _ _ (tags_left (out_open rules) b.started tag None tags' others apart h.left)))
          (last_front (map (waiting_open rules) b.waiting) (map (open_on rules b.started) others) (map (done_open rules) b.done) (done_open rules ended)))

  packets_returned : {Y : Type 0} (f : PacketEntry → Y) (rooms : List Request) → PortKept b v rooms → Back b v tag use' others tags' failures class sense held ended
      → IsPermutation (of_packets f (books_returned b tag ended) (view_returned v tags' failures use'.piece class)) (of_packets f b v)
  packets_returned {Y} f rooms k h =
      let on : held_on b.started use'.tag ≡ Some held = subst (λ t. held_on b.started t ≡ Some held) (sym h.on.has_tag) h.held_is in
      let apart : All (HasNotTag tag) others = others_apart v tag use' others k.adapter h.on in
      let more : map (of_done f) (b.done ++ ended ∷ []) ≡ map (of_done f) b.done ++ of_done f ended ∷ [] = map-append (of_done f) b.done (ended ∷ []) in
      let shown : List Y = map (of_waiting f) b.waiting ++ (map (of_tag f (slice_set b.started tag None)) tags' ++ (map (of_done f) b.done ++ of_done f ended ∷ [])) in
      let first : IsPermutation shown (f (ended_entry ended) ∷ (map (of_waiting f) b.waiting ++ (map (of_tag f b.started) others ++ map (of_done f) b.done))) =
      IsPermutation-trans _ _ _ (IsPermutation-append_right (map (of_waiting f) b.waiting) _ _ (IsPermutation-append_left (map (of_done f) b.done ++ of_done f ended ∷ []) _ _ (tags_left (λ e u. f e) b.started tag None tags' others apart h.left)))
      (last_front (map (of_waiting f) b.waiting) (map (of_tag f b.started) others) (map (of_done f) b.done) (of_done f ended)) in
      let second : IsPermutation (of_packets f b v) (f (entry_of held) ∷ (map (of_waiting f) b.waiting ++ (map (of_tag f b.started) others ++ map (of_done f) b.done))) =
      second_front (map (of_waiting f) b.waiting) (map (of_tag f b.started) v.tags) (map (of_tag f b.started) others) (map (of_done f) b.done) (f (entry_of held)) (tags_on (λ e u. f e) b.started v.tags use' others held h.on.in_use on) in
      rw more (IsPermutation-trans _ _ _ (subst (λ (e : PacketEntry). IsPermutation shown (f e ∷ (map (of_waiting f) b.waiting ++ (map (of_tag f b.started) others ++ map (of_done f) b.done)))) h.ends_as.same_entry first) (IsPermutation-sym _ _ second))

  kept_returned : (rooms : List Request) → PortKept b v rooms → Back b v tag use' others tags' failures class sense held ended → length v.labels + (v.depth - length v.tags) + 2 ≤ 64 → IsInOrder (view_returned v tags' failures use'.piece class)
      → PortKept (books_returned b tag ended) (view_returned v tags' failures use'.piece class) rooms
  kept_returned rooms k h space order =
      let rules : Rules = rules_of b.sizes in
      let v' : AdapterView = view_returned v tags' failures use'.piece class in
      let apart : All (HasNotTag tag) others = others_apart v tag use' others k.adapter h.on in
      let work = on_tag_work rules b.started v.tags use' others tag held k.at_work h.on.in_use h.on.has_tag h.held_is in
      let rest : All (IsAtWork rules b.started) others = All-tail (IsAtWork rules b.started) use' others (All-permutation (IsAtWork rules b.started) _ _ h.on.in_use k.at_work) in
      let t = length_permutation _ _ h.on.in_use in
      let t' = length_permutation _ _ h.left in
      let l = length-append b.done (ended ∷ []) in
      record {
        adapter = order;
        sizes = record { sector_size = k.sizes.sector_size; sectors = k.sizes.sectors; max_transfer = k.sizes.max_transfer; depth = k.sizes.depth; faithful = k.sizes.faithful; keeps_bytes = k.sizes.keeps_bytes };
        started = length-set b.started tag None ∙ k.started;
        waiting = All-weaker (IsWaiting rules v) (IsWaiting rules v') (waiting_moves rules v v' (λ extent r. r)) b.waiting k.waiting;
        in_turn = k.in_turn;
        at_work = All-permutation (IsAtWork rules (slice_set b.started tag None)) _ _ (IsPermutation-sym _ _ h.left) (λ i d below. work_beside rules b.started tag None _ (apart i d below) (rest i d below));
        ended = All-push (HasEnded rules b.removing) b.done ended k.ended (record {
          bounded = subst (λ (e : PacketEntry). IsBounded rules e.request) (sym h.ends_as.same_entry) work.0;
          why = outcome_is rules b.removing failures held use' sense class ended h.quiet h.may work.1 h.ends_as;
          empty = subst (λ (p : Payload). IsEmptyIfFlush ended.request (payload_bytes p)) (sym h.ends_as.carries)
              (subst (λ (e : PacketEntry). IsEmptyIfFlush e.request use'.srb.data) (sym h.ends_as.same_entry) work.2);
        });
        reserved = All-permutation (IsRoom rules v') _ _ (IsPermutation-sym _ _ (packets_returned asked rooms k h))
            (All-weaker (IsRoom rules v) (IsRoom rules v') (room_moves rules v v' (λ extent r. r)) (of_packets asked b v) k.reserved);
        spots = distinct_same _ _ (IsPermutation-sym _ _ (packets_returned spot_in rooms k h)) k.spots;
        taken = All-permutation (IsTaken b.rooms) _ _ (IsPermutation-sym _ _ (packets_returned spot_in rooms k h)) k.taken;
        rooms_out = All-weaker (IsRoom rules v) (IsRoom rules v') (room_moves rules v v' (λ extent r. r)) rooms k.rooms_out;
        removing = k.removing;
        distinct = AreDistinct-DeviceStep rules (state_of b v) (Return use'.piece class) _ k.distinct (machine_returns rooms k h);
        places = let c = k.places in omega arith;
        submitted = k.submitted;
        accepted = k.accepted;
        numbered = k.numbered;
        labels = omega (arith, length-append v.labels (Return use'.piece class ∷ []));
      }

  return_moves : (rooms : List Request) → PortKept b v rooms → Back b v tag use' others tags' failures class sense held ended
      → Moves (view_of b v) (Return use'.piece class ∷ []) (view_of (books_returned b tag ended) (view_returned v tags' failures use'.piece class))
  return_moves rooms k h = record {
    same_rules = refl;
    same_packets = packets_returned packet_as rooms k h;
    same_rooms = λ _. refl;
    same_submitted = refl;
    same_most = refl;
    same_places = refl;
    run = (state_of (books_returned b tag ended) (view_returned v tags' failures use'.piece class), inl (refl, machine_returns rooms k h), IsSame-refl _);
    adapter = moves_one v (view_returned v tags' failures use'.piece class) tag (Return use'.piece class)
        (record { use' = use'; others = others; tags = tags'; failures = failures; is_on = h.on; is_piece = refl; counted = h.counted; may = h.may; in_use = h.left; after = refl });
  }

  finishes_returned : (rooms : List Request) (c : TableView) (w : AdapterView) → PortKept b v rooms → Back b v tag use' others tags' failures class sense held ended
      → Releases (books_returned b tag ended) (view_returned v tags' failures use'.piece class) c w → Finishes (view_of b v) tag (view_of c w)
  finishes_returned rooms c w k h r =
      let rules : Rules = rules_of b.sizes in
      let on : held_on b.started use'.tag ≡ Some held = subst (λ t. held_on b.started t ≡ Some held) (sym h.on.has_tag) h.held_is in
      let out = tags_on (out_piece rules) b.started v.tags use' others held h.on.in_use on in
      record {
        piece = out_piece rules (entry_of held) use';
        class = class;
        starts = r.starts;
        is_out = Contains-permutation _ _ _ (IsPermutation-sym _ _ out) (0, omega arith, refl);
        is_tag = h.on.has_tag;
        only_starts = r.only_starts;
        moves = moves_then _ _ _ (Return use'.piece class ∷ []) r.starts (return_moves rooms k h) r.moves;
      }

-- ALL OF IT

pub record Finished (b : TableView) (v : AdapterView) (tag : ℕ) (b' : TableView) (v' : AdapterView) : Type 0 where
  pub kept : (rooms : List Request) → PortKept b v rooms → PortKept b' v' rooms
  pub finishes : (c : TableView) (w : AdapterView) → Releases b' v' c w → Finishes (view_of b v) tag (view_of c w)

pub finished : (b b' : TableView) (v v' : AdapterView) (rooms : List Request) (tag : ℕ) (srb : Srb) (completion : Completion) (class : Class)
    → PortKept b v rooms → label_places (view_of b v) + 2 ≤ 64 → class ≡ class_of completion → AdapterFinishes v tag srb completion v' → Ends b tag srb class b' → IsInOrder v' → Finished b v tag b' v'
finished b b' v v' rooms tag srb completion class k space class_is f e order =
    let r = f.returns in
    let u : TagInUse = r.use' in
    let v'' : AdapterView = view_returned v r.tags r.failures u.piece class in
    let v_is : v' ≡ v'' = r.after ∙ ap (λ (n : ℕ). view_returned v r.tags r.failures n (class_of completion)) (sym r.is_piece) ∙ ap (λ (x : Class). view_returned v r.tags r.failures u.piece x) (sym class_is) in
    let back : Back b v tag u r.others r.tags r.failures class (sense_left class completion.sense) e.held e.ended = record {
      on = r.is_on;
      counted = r.counted;
      may = subst (λ x. MayReturn r.failures u x) (sym class_is) r.may;
      left = r.in_use;
      held_is = e.on_tag;
      ends_as = subst (λ (s : Srb). EndsAs e.held (Packed (as_returned class s)) (Returned class) e.ended) f.comes_back e.ends_as;
      quiet = quiet_left class completion.sense;
    } in
    let l = length-map v.tags (piece_on (rules_of b.sizes) b.started) in
    let d = k.sizes.depth in
    let room : length v.labels + (v.depth - length v.tags) + 2 ≤ 64 = omega arith in
    subst (λ (x : TableView). Finished b v tag x v') (sym e.after) (subst (λ (x : AdapterView). Finished b v tag (books_returned b tag e.ended) x) (sym v_is) (record {
      kept = λ rs h. kept_returned b v tag u r.others r.tags r.failures class (sense_left class completion.sense) e.held e.ended rs h back room (subst IsInOrder v_is order);
      finishes = λ c w releases. finishes_returned b v tag u r.others r.tags r.failures class (sense_left class completion.sense) e.held e.ended rooms c w k back releases;
    }))

pub finishes_not : (b : TableView) (v v' : AdapterView) (tag : ℕ) → AdapterFinishesNot v tag v' → FinishesNot (view_of b v) tag (view_of b v')
finishes_not b v v' tag h = record {
  free = All-map (HasOtherTag tag) (piece_on (rules_of b.sizes) b.started) v.tags h.is_free;
  same = ap (λ (x : AdapterView). view_of b x) h.same;
}

pub can_end : (b : TableView) (v v' : AdapterView) (rooms : List Request) (tag : ℕ) (srb : Srb) (completion : Completion) → PortKept b v rooms → AdapterFinishes v tag srb completion v'
    → IsSome (held_on b.started tag) × (length b.done < b.places)
can_end b v v' rooms tag srb completion k f =
    let on = f.returns.is_on in
    let w = on_tag_some (rules_of b.sizes) b.started v.tags f.returns.use' f.returns.others tag k.at_work on.in_use on.has_tag in
    let t = length_permutation _ _ on.in_use in
    let c = k.places in
    (subst IsSome (sym w.1) refl, omega arith)
