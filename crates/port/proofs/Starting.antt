-- The packet that waited longest goes to a free tag.
use Rattle.std.proofs.Common.{◌≡◌, ◌≢◌, ◌<◌, ◌≤◌, ◌⊎◌, inl, inr, ℕ, ◌+◌, Bool, IsTrue, true, false, List, [], ◌∷◌, ◌++◌, Option, Some, None, refl, sym, subst, ap, ◌∙◌, arith, add-one, map, length, get_or, replicate}
use Rattle.std.proofs.lemmas.Bool.{cases_lt}
use Rattle.port.specs.inside.TableCalls as Calls
use Rattle.std.specs.Prelude.{All, Any, IsTrue, IsPermutation, slice_set, slice_index}
use Rattle.std.proofs.lemmas.List.{length-replicate, get_or-replicate, length-set, get_or-set_same, get_or-set_other, length-append, map-append}
use Rattle.std.proofs.lemmas.List.Elements.{All-nil, All-cons, All-append, All-map, All-weaker, All-head, All-tail, All-contains_itself}
use Rattle.std.proofs.lemmas.List.Sorted.{IsPermutation-refl, IsPermutation-sym, IsPermutation-trans, IsPermutation-map, IsPermutation-append_left, All-permutation, length_permutation}
use Rattle.srb.specs.declared.Srb.{Srb}
use Rattle.srb.specs.declared.DeviceLabel.{DeviceLabel}
use Rattle.srb.specs.declared.DeviceLabel.TheVariants.{Start}
use Rattle.adapter.specs.View.{AdapterView, TagInUse, IsInOrder, IsFree, HasTag as UseHasTag, HasNotTag, in_use_from, Accepts, IsReserved, IsWritable}
use Rattle.cdb.specs.declared.Cdb.TheVariants.{Sync10, Sync16}
use Rattle.cdb.specs.Meaning.{IsPlain, Means, AsksToRead, AsksToWrite}
use Rattle.sector.specs.declared.Extent.{Extent}
use Rattle.sector.specs.Splice.{splice}
use Rattle.irp.specs.declared.Payload.{Payload}
use Rattle.irp.specs.declared.Payload.TheVariants.{Srb as Packed, Buffer, Sent as AtAdapter}
use Rattle.srb.specs.declared.Kind.{Kind}
use Rattle.srb.specs.declared.Kind.TheVariants.{Read, Write, Flush}
use Rattle.machine.specs.declared.ClientRequest.{ClientRequest}
use Rattle.machine.specs.declared.Request.{Request}
use Rattle.machine.specs.Rules.{Rules, as_client, home, first_sector}
use Rattle.machine.specs.State.{Mark, Untouched, Out, OpenRequest}
use Rattle.machine.specs.Cutting.{is_back}
use Rattle.machine.specs.Sending.{command_for, write_command, HasOtherTag, HasTag, IsInTurn, Starts, is_started, sent, IsStart}
use Rattle.device.specs.View.{AsksFor, Carries, IsBounded, DeviceView, sent_bytes}
use Rattle.device.specs.Served.{Moves}
use Rattle.machine.specs.Step.{Run, as_label}
use Rattle.machine.specs.Solo.{all_places as all_places_of}
use Rattle.machine.proofs.Same.{IsSame-refl, Run-append, Any-permutation}
use Rattle.machine.proofs.Forms.{read_forms, write_forms, flush_forms, one_write}
use Rattle.machine.proofs.Numbers.{AreDistinct-DeviceStep}
use Rattle.port.specs.declared.queues.PortPacket.{PortPacket}
use Rattle.port.specs.declared.queues.Ended.{Ended}
use Rattle.port.specs.declared.queues.Outcome.TheVariants.{Withdrawn, Gone}
use Rattle.port.specs.inside.TableView.{PacketEntry, TableView, entry_of, spot_in}
use Rattle.port.specs.inside.TableCalls.{held_on, IsPacked}
use Rattle.port.specs.declared.queues.Sizes.{Sizes}
use Rattle.port.specs.Shown.{rules_of, places_of, open_as, waiting_open, done_open, out_open, out_piece, open_on, piece_on, entry_on, state_of, requests_of, of_packets, of_waiting, of_tag, of_done, packet as packet_as}
use Rattle.port.specs.inside.Invariant.{asked, PortKept, IsRoom, IsWaiting, IsEmptyIfFlush, HasEnded, HasOutcome, IsAtWork, IsBefore, AreInTurn, IsTaken}
use Rattle.port.proofs.Places.{distinct_same}
use Rattle.port.specs.inside.Releases.{begun_of, Releases, AreLowerInUse}
use Rattle.port.proofs.Lists.{splice_whole, second_front, contains_behind, contains_through}
use Rattle.port.proofs.Tags.{others_same, free_leaves}
use Rattle.adapter.proofs.Joining.{moves_none, moves_one, moves_joined}
use Rattle.port.proofs.Sizing.{whole_write, places_some, places_short, same_command, asks_empty}
use Rattle.port.proofs.Codes.{write_code, clash}
use Rattle.port.proofs.Opening.{Any-map, untouched_all, all_unsent, started_by, ended_started, true_false}

-- the queues and the view after the start
abbrev pub books_started : TableView → List PortPacket → ℕ → PortPacket → TableView
books_started b rest tag packet = record b { waiting = rest; started = slice_set b.started tag (Some packet); next_piece = b.next_piece + 1 }

abbrev pub view_started : AdapterView → List TagInUse → ℕ → ℕ → Srb → AdapterView
view_started v tags tag piece srb = record v { tags = tags; accepted = v.accepted + 1; labels = v.labels ++ Start piece tag srb.block ∷ [] }

-- what is shown of the tags: the new one's, and the others'
pub tags_started : {Y : Type 0} (F : PacketEntry → TagInUse → Y) (started : List (Option PortPacket)) (tag : ℕ) (packet : PortPacket) (use' : TagInUse) (tags tags' : List TagInUse)
    → tag < length started → use'.tag ≡ tag → All (HasNotTag tag) tags → IsPermutation tags' (use' ∷ tags)
    → IsPermutation (map (λ u. F (entry_on (slice_set started tag (Some packet)) u.tag) u) tags') (F (entry_of packet) use' ∷ map (λ u. F (entry_on started u.tag) u) tags)
tags_started F started tag packet use' tags tags' low is free p =
    let first : held_on (slice_set started tag (Some packet)) use'.tag ≡ Some packet = rw is (get_or-set_same started tag (Some packet) None low) in
    let more = IsPermutation-map (λ u. F (entry_on (slice_set started tag (Some packet)) u.tag) u) tags' (use' ∷ tags) p in
    rw (first, others_same F started tag (Some packet) tags free) at more

-- nothing may start before the front packet
front_in_turn : (b : TableView) (v : AdapterView) (rooms : List Request) (front : PortPacket) (rest : List PortPacket) → PortKept b v rooms → b.waiting ≡ front ∷ rest → b.removing ≡ false → 0 < b.sizes.sector_size
    → All (IsInTurn (waiting_open (rules_of b.sizes) front)) (requests_of b v)
front_in_turn b v rooms front rest k is stays some =
    let owner : OpenRequest = waiting_open (rules_of b.sizes) front in
    All-append (IsInTurn owner) _ _
    (subst (λ w. All (IsInTurn owner) (map (waiting_open (rules_of b.sizes)) w)) (sym is) (All-map (IsInTurn owner) (waiting_open (rules_of b.sizes)) (front ∷ rest)
    (All-cons (λ h. IsInTurn owner (waiting_open (rules_of b.sizes) h)) front rest (λ lower _. absurd (omega arith))
    (All-weaker (IsBefore front) (λ h. IsInTurn owner (waiting_open (rules_of b.sizes) h)) (λ h before lower _. absurd (omega arith)) rest (subst AreInTurn is k.in_turn).0))))
    (All-append (IsInTurn owner) _ _
    (All-map (IsInTurn owner) (open_on (rules_of b.sizes) b.started) v.tags
    (All-weaker (IsAtWork (rules_of b.sizes) b.started) (λ u. IsInTurn owner (open_on (rules_of b.sizes) b.started u)) (λ u w lower timely. rw w.on_tag (started_by _ Out _ (places_some b.sizes w.held.request some w.bounded) refl refl)) v.tags k.at_work))
    (All-map (IsInTurn owner) (done_open (rules_of b.sizes)) b.done
    (All-weaker (HasEnded (rules_of b.sizes) b.removing) (λ d. IsInTurn owner (done_open (rules_of b.sizes) d)) (λ d e lower timely. ended d e timely) b.done k.ended)))
  where
    ended : (d : Ended) → HasEnded (rules_of b.sizes) b.removing d → d.irp.value.cancelled ≡ false → is_started (done_open (rules_of b.sizes) d) ≡ true
    ended d e timely = ended_started (rules_of b.sizes) d (places_some b.sizes d.request some e.bounded)
        (λ o. withdrawn d o e.why) (λ o. true_false b.removing (gone d o e.why) stays) timely
      where
        withdrawn : (d : Ended) → d.outcome ≡ Withdrawn → HasOutcome (rules_of b.sizes) b.removing d d.outcome → IsTrue d.irp.value.cancelled
        withdrawn d o h = subst (HasOutcome (rules_of b.sizes) b.removing d) o h

        gone : (d : Ended) → d.outcome ≡ Gone → HasOutcome (rules_of b.sizes) b.removing d d.outcome → IsTrue b.removing
        gone d o h = subst (HasOutcome (rules_of b.sizes) b.removing d) o h

not_removing : (removing : Bool) (waiting : List PortPacket) (front : PortPacket) (rest : List PortPacket) → (IsTrue removing → waiting ≡ []) → waiting ≡ front ∷ rest → removing ≡ false
not_removing true waiting front rest h is = let e : [] ≡ front ∷ rest = sym (h refl) ∙ is in absurd (cc (e))
not_removing false waiting front rest h is = refl

pub sector_some : (v : AdapterView) → IsInOrder v → 0 < v.sector_size
sector_some v h = elim h.sector_size [ inl e ↦ omega arith | inr e ↦ omega arith ]

pub kept_sector_some : (b : TableView) (v : AdapterView) (rooms : List Request) → PortKept b v rooms → 0 < b.sizes.sector_size
kept_sector_some b v rooms k = let a = sector_some v k.adapter in let e = k.sizes.sector_size in omega arith

-- what the adapter asks for before it takes a piece
pub front_waits : (b : TableView) (v : AdapterView) (rooms : List Request) (front : PortPacket) (rest : List PortPacket) (srb : Srb) → PortKept b v rooms → b.waiting ≡ front ∷ rest → front.irp.value.payload ≡ Packed srb
    → IsRoom (rules_of b.sizes) v front.request × AsksFor (rules_of b.sizes) front.request srb
front_waits b v rooms front rest srb k is packs =
    let rules : Rules = rules_of b.sizes in
    let w : IsWaiting rules v front = All-head (IsWaiting rules v) front rest (subst (All (IsWaiting rules v)) is k.waiting) in
    (w.room, subst (Carries true rules front.request) packs w.carries)

pub packed : (b : TableView) (v : AdapterView) (rooms : List Request) → PortKept b v rooms → All IsPacked b.waiting
packed b v rooms k = All-weaker (IsWaiting (rules_of b.sizes) v) IsPacked (λ h w. has_srb h.irp.value.payload (rules_of b.sizes) h.request w.carries) b.waiting k.waiting
  where
    has_srb : (payload : Payload) (rules : Rules) (r : Request) → Carries true rules r payload → (srb : Srb) × (payload ≡ Packed srb)
    has_srb (Packed srb) rules r c = (srb, refl)
    has_srb (Buffer bytes) rules r c = absurd c
    has_srb AtAdapter rules r c = absurd c

-- a block that asks for a write asks for no read and no flush
no_read : (block : List ℕ) (first count : ℕ) (through : Bool) (lba blocks : ℕ) (fua : Bool) → AsksToRead block first count through → AsksToWrite block lba blocks fua → ⊥
no_read block first count through lba blocks fua (inl m) w = clash (slice_index block 0) 42 138 40 (write_code block lba blocks fua w) m.0.operation refl refl
no_read block first count through lba blocks fua (inr m) w = clash (slice_index block 0) 42 138 136 (write_code block lba blocks fua w) m.0.operation refl refl

no_flush : (block : List ℕ) (lba blocks : ℕ) (fua : Bool) → Means block (Sync10 0 0) ⊎ Means block (Sync16 0 0) → AsksToWrite block lba blocks fua → ⊥
no_flush block lba blocks fua (inl m) w = clash (slice_index block 0) 42 138 53 (write_code block lba blocks fua w) m.0.operation refl refl
no_flush block lba blocks fua (inr m) w = clash (slice_index block 0) 42 138 145 (write_code block lba blocks fua w) m.0.operation refl refl

no_write : (rules : Rules) (q : ClientRequest) (places : Extent) (kind : Kind) (block : List ℕ) (lba blocks : ℕ) (fua : Bool)
    → Means block (command_for rules q places kind) → AsksToWrite block lba blocks fua → kind ≡ Write
no_write rules q places Read block lba blocks fua m w =
    let x : ℕ = home rules q.partition (first_sector rules q + places.first) in
    absurd (no_read block x places.count q.through lba blocks fua (read_forms block x places.count q.through m) w)
no_write rules q places Write block lba blocks fua m w = refl
no_write rules q places Flush block lba blocks fua m w = absurd (no_flush block lba blocks fua (flush_forms block rules.disk_sectors m) w)

pub is_writable : (sizes : Sizes) (v : AdapterView) (r : Request) (srb : Srb) → 0 < sizes.sector_size → IsRoom (rules_of sizes) v r → AsksFor (rules_of sizes) r srb → IsWritable v srb
is_writable sizes v r srb some room asks lba count fua w inside =
    let is : r.kind ≡ Write = no_write (rules_of sizes) (as_client (rules_of sizes) r []) (all_places_of (rules_of sizes) (as_client (rules_of sizes) r [])) r.kind srb.block lba count fua asks.asks w in
    let m : Means srb.block (write_command r.extent.first r.extent.count r.through) = subst (Means srb.block) (whole_write sizes r some room.bounded is) asks.asks in
    let one = one_write srb.block r.extent.first r.extent.count lba count r.through fua (write_forms srb.block r.extent.first r.extent.count r.through m) w in
    subst (λ (c : ℕ). IsReserved v (record { first = lba; count = c })) one.1 (subst (λ (f : ℕ). IsReserved v (record { first = f; count = r.extent.count })) one.0 (room.reserved is))

-- the machine's start
pub machine_starts : (b : TableView) (v : AdapterView) (rooms : List Request) (front : PortPacket) (rest : List PortPacket) (tag : ℕ) (srb : Srb) (packet : PortPacket) (tags' : List TagInUse)
    → PortKept b v rooms → b.waiting ≡ front ∷ rest → front.irp.value.payload ≡ Packed srb → entry_of packet ≡ entry_of front
    → tag < v.depth → IsFree v tag → ((lower : ℕ) → lower < tag → Any (UseHasTag lower) v.tags) → IsPermutation tags' (in_use_from v tag b.next_piece srb ∷ v.tags)
    → Starts (rules_of b.sizes) (state_of b v) b.next_piece tag srb.block (state_of (books_started b rest tag packet) (view_started v tags' tag b.next_piece srb))
machine_starts b v rooms front rest tag srb packet tags' k is packs same low free lower p =
    let rules : Rules = rules_of b.sizes in
    let stays : b.removing ≡ false = not_removing b.removing b.waiting front rest k.removing is in
    let some : 0 < b.sizes.sector_size = kept_sector_some b v rooms k in
    let w : IsWaiting rules v front = All-head (IsWaiting rules v) front rest (subst (All (IsWaiting rules v)) is k.waiting) in
    let asks : AsksFor rules front.request srb = subst (Carries true rules front.request) packs w.carries in
    let depth = k.sizes.depth in
    let long = k.started in
    let inside : tag < length b.started = omega arith in
    let n : ℕ = places_of rules front.request in
    let count = length-replicate n Untouched in
    let sized : 0 < n = places_some b.sizes front.request some w.room.bounded in
    record {
      owner = waiting_open rules front;
      others = map (waiting_open rules) rest ++ (map (open_on rules b.started) v.tags ++ map (done_open rules) b.done);
      places = record { first = 0; count = n };
      next_number = refl;
      on_tag = record {
        within = omega arith;
        free = All-map (HasOtherTag tag) (piece_on rules b.started) v.tags free;
        lowest = λ l below. Any-map (piece_on rules b.started) (HasTag l) v.tags (lower l below);
      };
      is_open = subst (λ hs. IsPermutation (map (waiting_open rules) hs ++ (map (open_on rules b.started) v.tags ++ map (done_open rules) b.done)) (waiting_open rules front ∷ (map (waiting_open rules) rest ++ (map (open_on rules b.started) v.tags ++ map (done_open rules) b.done)))) (sym is) (IsPermutation-refl _);
      may_start = record {
        not_cancelled = w.not_cancelled;
        not_removing = stays;
        not_held = λ _. refl;
        in_turn = front_in_turn b v rooms front rest k is stays some;
      };
      sendable = record {
        some = sized;
        short = places_short b.sizes front.request some (let m = k.adapter.max_transfer.0 in let e = k.sizes.max_transfer in omega arith) w.room.bounded;
        inside = omega arith;
        unsent = all_unsent n;
        begins = λ grid. omega arith;
        spare = λ grid back. cc (back, ap is_back (get_or-replicate n 0 Untouched Untouched sized));
        whole = λ _. record { all_places = sym count; not_before = rw untouched_all refl };
      };
      asks = subst (Means srb.block) (sym (same_command rules front.request (sent_bytes front.request.kind front.irp.value.payload) front.request.kind refl)) asks.asks;
      plain = subst (IsPlain srb.block) (sym (same_command rules front.request (sent_bytes front.request.kind front.irp.value.payload) front.request.kind refl)) asks.plain;
      after = record {
        arrays = refl;
        next_request = refl;
        next_piece = refl;
        requests = requests_after rules inside count;
        pieces = subst (λ e. IsPermutation (map (piece_on rules (slice_set b.started tag (Some packet))) tags') (out_piece rules e (in_use_from v tag b.next_piece srb) ∷ map (piece_on rules b.started) v.tags)) same
            (tags_started (out_piece rules) b.started tag packet (in_use_from v tag b.next_piece srb) v.tags tags' inside refl free p);
        owed = refl;
        paused = refl;
        removing = refl;
        removed = refl;
      };
    }
  where
    requests_after : (rules : Rules) → tag < length b.started → length (replicate (places_of rules front.request) Untouched) ≡ places_of rules front.request
        → IsPermutation (map (waiting_open rules) rest ++ (map (open_on rules (slice_set b.started tag (Some packet))) tags' ++ map (done_open rules) b.done))
        (sent (record { first = 0; count = places_of rules front.request }) (waiting_open rules front) ∷ (map (waiting_open rules) rest ++ (map (open_on rules b.started) v.tags ++ map (done_open rules) b.done)))
    requests_after rules inside count =
        let n : ℕ = places_of rules front.request in
        let x : OpenRequest = out_open rules (entry_of packet) (in_use_from v tag b.next_piece srb) in
        let marks : splice (replicate n Untouched) 0 (replicate n Out) ≡ replicate n Out = splice_whole _ _ (let a = length-replicate n Untouched in let c = length-replicate n Out in omega arith) in
        let e : x ≡ sent (record { first = 0; count = n }) (waiting_open rules front) =
        ap (λ (e : PacketEntry). out_open rules e (in_use_from v tag b.next_piece srb)) same
        ∙ ap (λ (q : Payload). open_as rules (entry_of front) q 0 (replicate n Out)) (sym packs)
        ∙ ap (λ (ms : List Mark). open_as rules (entry_of front) front.irp.value.payload 0 ms) (sym marks) in
        subst (λ y. IsPermutation (map (waiting_open rules) rest ++ (map (open_on rules (slice_set b.started tag (Some packet))) tags' ++ map (done_open rules) b.done)) (y ∷ (map (waiting_open rules) rest ++ (map (open_on rules b.started) v.tags ++ map (done_open rules) b.done)))) e
        (second_front (map (waiting_open rules) rest) _ _ (map (done_open rules) b.done) x (tags_started (out_open rules) b.started tag packet (in_use_from v tag b.next_piece srb) v.tags tags' inside refl free p))

-- WHAT IS KEPT

pub room_moves : (rules : Rules) (v v' : AdapterView) → ((extent : Extent) → IsReserved v extent → IsReserved v' extent) → (r : Request) → IsRoom rules v r → IsRoom rules v' r
room_moves rules v v' lasts r h = record { bounded = h.bounded; reserved = λ is. lasts r.extent (h.reserved is) }

pub waiting_moves : (rules : Rules) (v v' : AdapterView) → ((extent : Extent) → IsReserved v extent → IsReserved v' extent) → (held : PortPacket) → IsWaiting rules v held → IsWaiting rules v' held
waiting_moves rules v v' lasts held h = record { room = room_moves rules v v' lasts held.request h.room; carries = h.carries; not_cancelled = h.not_cancelled }

-- a tag's packet is as it was where another tag's changed
pub work_beside : (rules : Rules) (started : List (Option PortPacket)) (tag : ℕ) (x : Option PortPacket) (u : TagInUse) → u.tag ≢ tag → IsAtWork rules started u → IsAtWork rules (slice_set started tag x) u
work_beside rules started tag x u differs h = record {
  held = h.held;
  on_tag = get_or-set_other started tag u.tag x None differs ∙ h.on_tag;
  bounded = h.bounded;
  doing = h.doing;
  empty = h.empty;
}

packets_started : {Y : Type 0} (f : PacketEntry → Y) (b : TableView) (v : AdapterView) (front : PortPacket) (rest : List PortPacket) (tag : ℕ) (srb : Srb) (packet : PortPacket) (tags' : List TagInUse)
    → b.waiting ≡ front ∷ rest → entry_of packet ≡ entry_of front → tag < length b.started → IsFree v tag
    → IsPermutation tags' (in_use_from v tag b.next_piece srb ∷ v.tags)
    → IsPermutation (of_packets f (books_started b rest tag packet) (view_started v tags' tag b.next_piece srb)) (of_packets f b v)
packets_started f b v front rest tag srb packet tags' is same inside free p =
    subst (λ (hs : List PortPacket). IsPermutation (of_packets f (books_started b rest tag packet) (view_started v tags' tag b.next_piece srb)) (map (of_waiting f) hs ++ (map (of_tag f b.started) v.tags ++ map (of_done f) b.done))) (sym is)
    (subst (λ (e : PacketEntry). IsPermutation (of_packets f (books_started b rest tag packet) (view_started v tags' tag b.next_piece srb)) (f e ∷ (map (of_waiting f) rest ++ (map (of_tag f b.started) v.tags ++ map (of_done f) b.done)))) same
    (second_front (map (of_waiting f) rest) (map (of_tag f (slice_set b.started tag (Some packet))) tags') (map (of_tag f b.started) v.tags) (map (of_done f) b.done) (f (entry_of packet)) (tags_started (λ e u. f e) b.started tag packet (in_use_from v tag b.next_piece srb) v.tags tags' inside refl free p)))

pub kept_started : (b : TableView) (v : AdapterView) (rooms : List Request) (front : PortPacket) (rest : List PortPacket) (tag : ℕ) (srb : Srb) (packet : PortPacket) (tags' : List TagInUse)
    → PortKept b v rooms → b.waiting ≡ front ∷ rest → front.irp.value.payload ≡ Packed srb → entry_of packet ≡ entry_of front
    → tag < v.depth → IsFree v tag → IsPermutation tags' (in_use_from v tag b.next_piece srb ∷ v.tags)
    → IsInOrder (view_started v tags' tag b.next_piece srb)
    → Starts (rules_of b.sizes) (state_of b v) b.next_piece tag srb.block (state_of (books_started b rest tag packet) (view_started v tags' tag b.next_piece srb))
    → PortKept (books_started b rest tag packet) (view_started v tags' tag b.next_piece srb) rooms
kept_started b v rooms front rest tag srb packet tags' k is packs same low free p order starts =
    let rules : Rules = rules_of b.sizes in
    let v' : AdapterView = view_started v tags' tag b.next_piece srb in
    let waits : All (IsWaiting rules v) (front ∷ rest) = subst (All (IsWaiting rules v)) is k.waiting in
    let w : IsWaiting rules v front = All-head (IsWaiting rules v) front rest waits in
    let asks : AsksFor rules front.request srb = subst (Carries true rules front.request) packs w.carries in
    let l = ap (λ (hs : List PortPacket). length hs) is in
    let t = length_permutation _ _ p in
    let depth = k.sizes.depth in
    let long = k.started in
    let inside : tag < length b.started = omega arith in
    record {
      adapter = order;
      sizes = record { sector_size = k.sizes.sector_size; sectors = k.sizes.sectors; max_transfer = k.sizes.max_transfer; depth = k.sizes.depth; faithful = k.sizes.faithful; keeps_bytes = k.sizes.keeps_bytes };
      started = length-set b.started tag (Some packet) ∙ k.started;
      waiting = All-weaker (IsWaiting rules v) (IsWaiting rules v') (waiting_moves rules v v' (λ extent h. h)) rest (All-tail (IsWaiting rules v) front rest waits);
      in_turn = (subst AreInTurn is k.in_turn).1;
      at_work = All-permutation (IsAtWork rules (slice_set b.started tag (Some packet))) _ _ (IsPermutation-sym _ _ p)
          (All-cons (IsAtWork rules (slice_set b.started tag (Some packet))) (in_use_from v tag b.next_piece srb) v.tags
          (record {
            held = packet;
            on_tag = get_or-set_same b.started tag (Some packet) None inside;
            bounded = subst (λ (e : PacketEntry). IsBounded rules e.request) (sym same) w.room.bounded;
            doing = subst (λ (e : PacketEntry). AsksFor rules e.request srb) (sym same) asks;
            empty = subst (λ (e : PacketEntry). IsEmptyIfFlush e.request srb.data) (sym same) (asks_empty rules front.request srb asks);
          })
          (λ i d below. work_beside rules b.started tag (Some packet) _ (free i d below) (k.at_work i d below)));
      ended = k.ended;
      reserved = All-permutation (IsRoom rules v') _ _ (IsPermutation-sym _ _ (packets_started asked b v front rest tag srb packet tags' is same inside free p))
          (All-weaker (IsRoom rules v) (IsRoom rules v') (room_moves rules v v' (λ extent h. h)) (of_packets asked b v) k.reserved);
      spots = distinct_same _ _ (IsPermutation-sym _ _ (packets_started spot_in b v front rest tag srb packet tags' is same inside free p)) k.spots;
      taken = All-permutation (IsTaken b.rooms) _ _ (IsPermutation-sym _ _ (packets_started spot_in b v front rest tag srb packet tags' is same inside free p)) k.taken;
      rooms_out = All-weaker (IsRoom rules v) (IsRoom rules v') (room_moves rules v v' (λ extent h. h)) rooms k.rooms_out;
      removing = λ r. absurd (cc (k.removing r, is));
      distinct = AreDistinct-DeviceStep rules (state_of b v) (Start b.next_piece tag srb.block) _ k.distinct starts;
      places = let c = k.places in omega arith;
      submitted = k.submitted;
      accepted = let c = k.accepted in omega arith;
      numbered = let c = k.numbered in omega arith;
      labels = let c = k.labels in let few = free_leaves v tag k.adapter free low in omega (arith, length-append v.labels (Start b.next_piece tag srb.block ∷ []));
    }

-- the label of a start, as the port shows it
pub start_moves : (b : TableView) (v : AdapterView) (front : PortPacket) (rest : List PortPacket) (tag : ℕ) (srb : Srb) (packet : PortPacket) (tags' : List TagInUse)
    → b.waiting ≡ front ∷ rest → entry_of packet ≡ entry_of front → tag < length b.started → tag < v.depth → IsFree v tag → length v.tags < v.depth
    → IsPermutation tags' (in_use_from v tag b.next_piece srb ∷ v.tags)
    → Starts (rules_of b.sizes) (state_of b v) b.next_piece tag srb.block (state_of (books_started b rest tag packet) (view_started v tags' tag b.next_piece srb))
    → Releases b v (books_started b rest tag packet) (view_started v tags' tag b.next_piece srb)
start_moves b v front rest tag srb packet tags' is same inside low free few p starts = record {
  starts = Start b.next_piece tag srb.block ∷ [];
  only_starts = All-cons IsStart _ [] tt (All-nil IsStart);
  moves = record {
    same_rules = refl;
    same_packets = packets_started packet_as b v front rest tag srb packet tags' is same inside free p;
    same_rooms = λ _. refl;
    same_submitted = refl;
    same_most = refl;
    same_places = refl;
    run = (state_of (books_started b rest tag packet) (view_started v tags' tag b.next_piece srb), inl (refl, starts), IsSame-refl _);
    adapter = moves_one v (view_started v tags' tag b.next_piece srb) tag (Start b.next_piece tag srb.block)
        (refl, record { srb = srb; has_block = refl; accepts = record { tags = tags'; is_free = free; below = low; in_use = p; after = refl } });
  };
  stay =
      let rules : Rules = rules_of b.sizes in
      let use' : TagInUse = in_use_from v tag b.next_piece srb in
      contains_behind (begun_of b v) (begun_of (books_started b rest tag packet) (view_started v tags' tag b.next_piece srb)) (out_open rules (entry_of packet) use')
      (IsPermutation-append_left (map (done_open rules) b.done) _ _ (tags_started (out_open rules) b.started tag packet use' v.tags tags' inside refl free p));
  full = λ all. absurd (omega arith);
}

-- ALL OF ONE START

pub record Started (b : TableView) (v : AdapterView) (tag : ℕ) (b' : TableView) (v' : AdapterView) : Type 0 where
  pub kept : (rooms : List Request) → PortKept b v rooms → PortKept b' v' rooms
  pub releases : Releases b v b' v'
  pub lower : AreLowerInUse b' v' (tag + 1)

started_fields : (b : TableView) (v : AdapterView) (rooms : List Request) (front : PortPacket) (rest : List PortPacket) (tag : ℕ) (srb : Srb) (packet : PortPacket) (tags' : List TagInUse)
    → PortKept b v rooms → b.waiting ≡ front ∷ rest → front.irp.value.payload ≡ Packed srb → entry_of packet ≡ entry_of front
    → tag < v.depth → IsFree v tag → ((lower : ℕ) → lower < tag → Any (UseHasTag lower) v.tags) → IsPermutation tags' (in_use_from v tag b.next_piece srb ∷ v.tags)
    → IsInOrder (view_started v tags' tag b.next_piece srb)
    → Started b v tag (books_started b rest tag packet) (view_started v tags' tag b.next_piece srb)
started_fields b v rooms front rest tag srb packet tags' k is packs same low free lower p order =
    let depth = k.sizes.depth in
    let long = k.started in
    let back : IsPermutation (in_use_from v tag b.next_piece srb ∷ v.tags) tags' = IsPermutation-sym _ _ p in
    record {
      kept = λ rs h. kept_started b v rs front rest tag srb packet tags' h is packs same low free p order (machine_starts b v rooms front rest tag srb packet tags' k is packs same low free lower p);
      releases = start_moves b v front rest tag srb packet tags' is same (omega arith) low free (free_leaves v tag k.adapter free low) p (machine_starts b v rooms front rest tag srb packet tags' k is packs same low free lower p);
      lower = inr (λ l below. Any-permutation (UseHasTag l) _ _ back (at_or_below l (cases_lt l tag) below));
    }
  where
    at_or_below : (l : ℕ) → (l < tag) ⊎ (tag ≤ l) → l < tag + 1 → Any (UseHasTag l) (in_use_from v tag b.next_piece srb ∷ v.tags)
    at_or_below l (inl under) below = let h : Any (UseHasTag l) v.tags = lower l under in (h.0 + 1, h.1, omega (arith, h.2), further h, h.4)
      where
        further : (h : Any (UseHasTag l) v.tags) → get_or (in_use_from v tag b.next_piece srb ∷ v.tags) (h.0 + 1) h.1 ≡ h.1
        further h = rw add-one h.3
    at_or_below l (inr over) below = (0, in_use_from v tag b.next_piece srb, omega arith, refl, omega arith)

pub started_one : (b b' : TableView) (v v' : AdapterView) (rooms : List Request) (tag piece : ℕ) (srb : Srb)
    → PortKept b v rooms → AreLowerInUse b v tag → Calls.Starts b tag piece srb b' → Accepts v tag piece srb v' → IsInOrder v' → Started b v tag b' v'
started_one b b' v v' rooms tag piece srb k lower s a order =
    let tags_in : IsPermutation a.tags (in_use_from v tag b.next_piece srb ∷ v.tags) = subst (λ (n : ℕ). IsPermutation a.tags (in_use_from v tag n srb ∷ v.tags)) s.is_piece a.in_use in
    let view_is : v' ≡ view_started v a.tags tag b.next_piece srb = a.after ∙ ap (λ (n : ℕ). view_started v a.tags tag n srb) s.is_piece in
    subst (λ x. Started b v tag x v') (sym s.after) (subst (λ x. Started b v tag (books_started b s.rest tag s.sent) x) (sym view_is)
    (started_fields b v rooms s.front s.rest tag srb s.sent a.tags k s.is_front s.is_srb s.same_entry a.below a.is_free (lowers lower) tags_in (subst IsInOrder view_is order)))
  where
    lowers : AreLowerInUse b v tag → (l : ℕ) → l < tag → Any (UseHasTag l) v.tags
    lowers (inl none) l below = let e : [] ≡ s.front ∷ s.rest = sym none ∙ s.is_front in absurd (cc (e))
    lowers (inr h) l below = h l below

pub releases_none : (b : TableView) (v : AdapterView) → Releases b v b v
releases_none b v = record {
  starts = [];
  only_starts = All-nil IsStart;
  moves = record { same_rules = refl; same_packets = IsPermutation-refl _; same_rooms = λ _. refl; same_submitted = refl; same_most = refl; same_places = refl; run = IsSame-refl _; adapter = moves_none v };
  stay = All-contains_itself (begun_of b v);
  full = λ all. (refl, refl);
}

pub moves_then : (o m n : DeviceView) (xs ys : List DeviceLabel) → Moves o xs m → Moves m ys n → Moves o (xs ++ ys) n
moves_then o m n xs ys h k = record {
  same_rules = k.same_rules ∙ h.same_rules;
  same_packets = IsPermutation-trans _ _ _ k.same_packets h.same_packets;
  same_rooms = λ spot. k.same_rooms spot ∙ h.same_rooms spot;
  same_submitted = k.same_submitted ∙ h.same_submitted;
  same_most = k.same_most ∙ h.same_most;
  same_places = k.same_places ∙ h.same_places;
  run = subst (λ ls. Run o.rules o.state ls n.state) (sym (map-append as_label xs ys)) (Run-append o.rules o.state (map as_label xs) m.state (map as_label ys) n.state h.run (subst (λ r. Run r m.state (map as_label ys) n.state) h.same_rules k.run));
  adapter = moves_joined o.adapter xs m.adapter ys n.adapter h.adapter k.adapter;
}

pub releases_then : (b c d : TableView) (u v w : AdapterView) → Releases b u c v → Releases c v d w → Releases b u d w
releases_then b c d u v w h k = record {
  starts = h.starts ++ k.starts;
  only_starts = All-append IsStart h.starts k.starts h.only_starts k.only_starts;
  moves = moves_then _ _ _ h.starts k.starts h.moves k.moves;
  stay = contains_through (begun_of b u) (begun_of c v) (begun_of d w) h.stay k.stay;
  full = λ all.
      let first = h.full all in
      let second = k.full (subst (λ (x : AdapterView). x.depth ≤ length x.tags) (sym first.1) all) in
      (second.0 ∙ first.0, second.1 ∙ first.1);
}

pub in_use_lower : (b : TableView) (v : AdapterView) (tag : ℕ) → AreLowerInUse b v tag → Any (UseHasTag tag) v.tags → AreLowerInUse b v (tag + 1)
in_use_lower b v tag (inl none) here = inl none
in_use_lower b v tag (inr h) here = inr (λ l below. at_or_below l (cases_lt l tag) below)
  where
    at_or_below : (l : ℕ) → (l < tag) ⊎ (tag ≤ l) → l < tag + 1 → Any (UseHasTag l) v.tags
    at_or_below l (inl under) below = h l under
    at_or_below l (inr over) below = let e : tag ≡ l = omega arith in subst (λ t. Any (UseHasTag t) v.tags) e here

-- where nothing waits nothing changed
pub releases_same : (b b' : TableView) (v : AdapterView) → Calls.StartsNot b b' → Releases b v b' v
releases_same b b' v h = subst (λ x. Releases b v x v) (sym h.same) (releases_none b v)

pub label_room : (b : TableView) (v : AdapterView) (rooms : List Request) (tag : ℕ) → PortKept b v rooms → IsFree v tag → tag < v.depth → length v.labels < 64
label_room b v rooms tag k free low = let few = free_leaves v tag k.adapter free low in let l = k.labels in omega arith

pub accepts_front : (b : TableView) (v : AdapterView) (rooms : List Request) (tag piece : ℕ) (srb : Srb) (b' : TableView) → PortKept b v rooms → Calls.Starts b tag piece srb b' → IsWritable v srb × (IsTrue v.keeps_bytes → length srb.data ≤ srb.for_label)
accepts_front b v rooms tag piece srb b' k s =
    let h = front_waits b v rooms s.front s.rest srb k s.is_front s.is_srb in
    (is_writable b.sizes v s.front.request srb (kept_sector_some b v rooms k) h.0 h.1, λ kept. subst (λ n. n ≤ srb.for_label) (sym h.1.data_length) (h.1.label_length (k.sizes.keeps_bytes ∙ kept)))
