-- What is booked of a piece stays the adapter's.
use Rattle.std.proofs.Common.{◌≡◌, ℕ, eqb, ◌==◌, Bool, true, false, List, [], ◌∷◌, ◌++◌, length, map, Option, Result, Ok, Err, refl, sym, ap, subst, ◌∙◌, arith, if◌then◌else◌}
use Rattle.std.specs.Prelude.{All}
use Rattle.std.specs.List.{IsDistinct}
use Rattle.std.proofs.lemmas.List.{length-map}
use Rattle.std.proofs.lemmas.List.Elements.{All-head, All-tail, All-map, All-weaker}
use Rattle.std.proofs.lemmas.Bool.Decides.{Decides-eqb}
use Rattle.srb.specs.declared.Srb.{Srb}
use Rattle.srb.specs.declared.Entry.{Entry as Booked}
use Rattle.srb.specs.declared.Completion.{Completion}
use Rattle.srb.specs.Fate.{Fate, Fresh, Acted, Faulted}
use Rattle.adapter.specs.View.{AdapterView, TagInUse, IsInOrder, IsSpoiled}
use Rattle.adapter.specs.Booking.{Books, IsBookable, with_booked, booked_on, with_booking}
use Rattle.adapter.proofs.Booked.{all_on_tag, suits_spoils, booked_same}
use Rattle.irp.specs.declared.Payload.TheVariants.{Srb as Packed}
use Rattle.machine.specs.declared.Request.{Request}
use Rattle.machine.specs.Rules.{Rules, as_client}
use Rattle.machine.specs.State.{OpenRequest, Piece, State}
use Rattle.machine.specs.Numbers.{AreDistinct}
use Rattle.device.specs.View.{AsksFor, sent_bytes}
use Rattle.device.specs.Served.{BooksPiece}
use Rattle.port.specs.declared.queues.PortPacket.{PortPacket}
use Rattle.port.specs.inside.TableView.{PacketEntry, TableView, entry_of, spot_in}
use Rattle.port.specs.Shown.{rules_of, entry_on, entry_or_nobody, waiting_open, done_open, out_open, open_on, piece_on, packet, of_packets, of_waiting, of_tag, of_done, requests_of, state_of, view_of}
use Rattle.port.specs.inside.Invariant.{asked, PortKept, IsInHand, IsRoom, IsWaiting, IsAtWork, IsDoing, IsTaken}
use Rattle.port.proofs.Starting.{room_moves, waiting_moves}
use Rattle.port.proofs.Orderly.{in_hand, maps_are}
use Rattle.port.proofs.Spoiling.{spoiled_same, none_as_many}

abbrev pub What : Type 0
What = Result Booked Completion

-- ONE TAG

-- the tag's piece did nothing yet, and its SRB is left as it was, but for the bytes that a read brings
abbrev pub IsLeftSo : What → TagInUse → Type 0
IsLeftSo what u = (u.fate ≡ Fresh) × IsSpoiled u.srb (with_booked what u).srb

pub all_left_so : (v : AdapterView) (tag piece : ℕ) (what : What) → IsInOrder v → IsBookable v tag piece what → All (λ w. w.tag ≡ tag → IsLeftSo what w) v.tags
all_left_so v tag piece what order h =
    all_on_tag (IsLeftSo what) v tag h.use' h.others order.tags_differ h.is_on (h.is_fresh, suits_spoils v.sector_size (length v.sectors) h.use' what h.suits)

open_same : (rules : Rules) (started : List (Option PortPacket)) (what : What) (u : TagInUse) → IsLeftSo what u → IsAtWork rules started u
    → open_on rules started (with_booked what u) ≡ open_on rules started u
open_same rules started (Ok entry) u left w =
    let is : entry_on started u.tag ≡ entry_of w.held = ap entry_or_nobody w.on_tag in
    let request : Request = w.held.request in
    let after : Srb = record u.srb { «data» = entry.bytes } in
    let asks : AsksFor rules request u.srb = subst (λ f. IsDoing rules request f u.srb) left.0 w.doing in
    let sent : sent_bytes request.kind (Packed after) ≡ sent_bytes request.kind (Packed u.srb) = spoiled_same rules request request.kind u.srb after refl asks.asks left.1 in
    ap (λ (e : PacketEntry). out_open rules e (record u { booked = true; srb = after })) is
    ∙ ap (λ (bytes : List ℕ). record (out_open rules (entry_of w.held) u) { request = as_client rules request bytes }) sent
    ∙ sym (ap (λ (e : PacketEntry). out_open rules e u) is)
open_same rules started (Err completion) u left w = refl

open_by : (rules : Rules) (started : List (Option PortPacket)) (tag : ℕ) (what : What) (u : TagInUse) → (u.tag ≡ tag → IsLeftSo what u) → IsAtWork rules started u
    → (b : Bool) → (u.tag == tag) ≡ b → open_on rules started (booked_on tag what u) ≡ open_on rules started u
open_by rules started tag what u left w true is = rw is (open_same rules started what u (left ((Decides-eqb u.tag tag).0 is)) w)
open_by rules started tag what u left w false is = rw is refl

opens_same : (rules : Rules) (started : List (Option PortPacket)) (tag : ℕ) (what : What) (tags : List TagInUse) → All (λ u. u.tag ≡ tag → IsLeftSo what u) tags → All (IsAtWork rules started) tags
    → map (open_on rules started) (map (booked_on tag what) tags) ≡ map (open_on rules started) tags
opens_same rules started tag what [] left w = refl
opens_same rules started tag what (u ∷ us) left w =
    let first : open_on rules started (booked_on tag what u) ≡ open_on rules started u =
    open_by rules started tag what u (All-head (λ x. x.tag ≡ tag → IsLeftSo what x) u us left) (All-head (IsAtWork rules started) u us w) _ refl in
    let rest : map (open_on rules started) (map (booked_on tag what) us) ≡ map (open_on rules started) us =
    opens_same rules started tag what us (All-tail (λ x. x.tag ≡ tag → IsLeftSo what x) u us left) (All-tail (IsAtWork rules started) u us w) in
    cc

piece_same : (rules : Rules) (started : List (Option PortPacket)) (what : What) (u : TagInUse) → piece_on rules started (with_booked what u) ≡ piece_on rules started u
piece_same rules started (Ok entry) u = refl
piece_same rules started (Err completion) u = refl

entry_same : {Y : Type 0} (f : PacketEntry → Y) (started : List (Option PortPacket)) (what : What) (u : TagInUse) → of_tag f started (with_booked what u) ≡ of_tag f started u
entry_same f started (Ok entry) u = refl
entry_same f started (Err completion) u = refl

doing_same : (rules : Rules) (r : Request) (fate : Fate) (srb : Srb) (bytes : List ℕ) → fate ≡ Fresh → length bytes ≡ length srb.data → IsDoing rules r fate srb → IsDoing rules r fate (record srb { «data» = bytes })
doing_same rules r Fresh srb bytes fresh long h = record { function = h.function; flags = h.flags; asks = h.asks; plain = h.plain; data_length = long ∙ h.data_length; label_length = h.label_length; sense = h.sense }
doing_same rules r (Acted moved) srb bytes fresh long h = absurd (cc (fresh))
doing_same rules r Faulted srb bytes fresh long h = absurd (cc (fresh))

work_with : (rules : Rules) (started : List (Option PortPacket)) (what : What) (u : TagInUse) → IsLeftSo what u → IsAtWork rules started u → IsAtWork rules started (with_booked what u)
work_with rules started (Ok entry) u left h = record {
  held = h.held;
  on_tag = h.on_tag;
  bounded = h.bounded;
  doing = doing_same rules h.held.request u.fate u.srb entry.bytes left.0 left.1.as_many h.doing;
  empty = λ flush. none_as_many u.srb.data entry.bytes left.1.as_many (h.empty flush);
}
work_with rules started (Err completion) u left h = record { held = h.held; on_tag = h.on_tag; bounded = h.bounded; doing = h.doing; empty = h.empty }

work_by : (rules : Rules) (started : List (Option PortPacket)) (tag : ℕ) (what : What) (u : TagInUse) → (u.tag ≡ tag → IsLeftSo what u) → IsAtWork rules started u
    → (b : Bool) → (u.tag == tag) ≡ b → IsAtWork rules started (booked_on tag what u)
work_by rules started tag what u left h true is = rw is (work_with rules started what u (left ((Decides-eqb u.tag tag).0 is)) h)
work_by rules started tag what u left h false is = rw is h

-- ALL OF IT

module _ (b : TableView) (v : AdapterView) (tag : ℕ) (what : What) where
  abbrev v' : AdapterView
  v' = with_booking tag what v

  -- of each piece on the tag this is left
  abbrev AreLeftSo : Type 0
  AreLeftSo = All (λ u. u.tag ≡ tag → IsLeftSo what u) v.tags

  abbrev AreAtWork : Type 0
  AreAtWork = All (IsAtWork (rules_of b.sizes) b.started) v.tags

  requests_same : AreLeftSo → AreAtWork → requests_of b v' ≡ requests_of b v
  requests_same left work = ap (λ (os : List OpenRequest). map (waiting_open (rules_of b.sizes)) b.waiting ++ (os ++ map (done_open (rules_of b.sizes)) b.done))
      (opens_same (rules_of b.sizes) b.started tag what v.tags left work)

  packets_same : {Y : Type 0} (f : PacketEntry → Y) → of_packets f b v' ≡ of_packets f b v
  packets_same {Y} f = ap (λ (ys : List Y). map (of_waiting f) b.waiting ++ (ys ++ map (of_done f) b.done))
      (maps_are (booked_on tag what) (of_tag f b.started) (of_tag f b.started) (booked_same (of_tag f b.started) tag what (entry_same f b.started what)) v.tags)

  pieces_same : map (piece_on (rules_of b.sizes) b.started) v'.tags ≡ map (piece_on (rules_of b.sizes) b.started) v.tags
  pieces_same = maps_are (booked_on tag what) (piece_on (rules_of b.sizes) b.started) (piece_on (rules_of b.sizes) b.started)
      (booked_same (piece_on (rules_of b.sizes) b.started) tag what (piece_same (rules_of b.sizes) b.started what)) v.tags

  state_same : AreLeftSo → AreAtWork → state_of b v' ≡ state_of b v
  state_same left work =
      ap (λ (os : List OpenRequest). record (state_of b v') { requests = os }) (requests_same left work)
      ∙ ap (λ (ps : List Piece). record (state_of b v) { pieces = ps }) pieces_same

  pub view_same : AreLeftSo → AreAtWork → view_of b v' ≡ record (view_of b v) { adapter = v' }
  view_same left work =
      ap (λ (s : State). record (view_of b v') { state = s }) (state_same left work)
      ∙ ap (λ ps. record (view_of b v) { packets = ps; adapter = v' }) (packets_same packet)

  kept_booked : (rooms : List Request) → IsInOrder v' → AreLeftSo → PortKept b v rooms → PortKept b v' rooms
  kept_booked rooms order left k =
      let rules : Rules = rules_of b.sizes in
      let n = length-map v.tags (booked_on tag what) in
      record {
        adapter = order;
        sizes = record { sector_size = k.sizes.sector_size; sectors = k.sizes.sectors; max_transfer = k.sizes.max_transfer; depth = k.sizes.depth; faithful = k.sizes.faithful; keeps_bytes = k.sizes.keeps_bytes };
        started = k.started;
        waiting = All-weaker (IsWaiting rules v) (IsWaiting rules v') (waiting_moves rules v v' (λ extent r. r)) b.waiting k.waiting;
        in_turn = k.in_turn;
        at_work = All-map (IsAtWork rules b.started) (booked_on tag what) v.tags (λ i d low. work_by rules b.started tag what _ (left i d low) (k.at_work i d low) _ refl);
        ended = k.ended;
        reserved = subst (All (IsRoom rules v')) (sym (packets_same asked)) (All-weaker (IsRoom rules v) (IsRoom rules v') (room_moves rules v v' (λ extent r. r)) (of_packets asked b v) k.reserved);
        rooms_out = All-weaker (IsRoom rules v) (IsRoom rules v') (room_moves rules v v' (λ extent r. r)) rooms k.rooms_out;
        spots = subst (IsDistinct eqb) (sym (packets_same spot_in)) k.spots;
        taken = subst (All (IsTaken b.rooms)) (sym (packets_same spot_in)) k.taken;
        removing = k.removing;
        distinct = subst AreDistinct (sym (state_same left k.at_work)) k.distinct;
        places = let c = k.places in omega arith;
        submitted = k.submitted;
        accepted = k.accepted;
        numbered = k.numbered;
        labels = let c = k.labels in omega arith;
      }

  hand_booked : (rooms : List Request) → IsInOrder v' → AreLeftSo → IsInHand b v rooms → IsInHand b v' rooms
  hand_booked rooms order left k = let n = length-map v.tags (booked_on tag what) in in_hand b v' rooms (kept_booked rooms order left k.kept) (λ free. k.busy (omega arith))

-- what a booking leaves
pub record IsLeft (b : TableView) (v : AdapterView) (tag piece : ℕ) (what : What) (v' : AdapterView) : Type 0 where
  pub rooms : (rooms : List Request) → IsInHand b v rooms → IsInHand b v' rooms
  pub books : BooksPiece (view_of b v) tag piece what (view_of b v')

by_booked : (b : TableView) (v v' : AdapterView) (tag piece : ℕ) (what : What) (rooms : List Request) → IsInHand b v rooms → (h : Books v tag piece what v') → IsInOrder v' → (done : Bool) → h.booked ≡ done → IsLeft b v tag piece what v'
by_booked b v v' tag piece what rooms i h order true is =
    let after : v' ≡ with_booking tag what v = h.after ∙ ap (λ (d : Bool). if d then with_booking tag what v else v) is in
    let left = all_left_so v tag piece what i.kept.adapter (h.decides.0 is) in
    record {
      rooms = λ rs k. subst (λ x. IsInHand b x rs) (sym after) (hand_booked b v tag what rs (subst IsInOrder after order) left k);
      books = record { adapter = h; same = subst (λ x. view_of b x ≡ record (view_of b v) { adapter = x }) (sym after) (view_same b v tag what left i.kept.at_work) };
    }
by_booked b v v' tag piece what rooms i h order false is =
    let after : v' ≡ v = h.after ∙ ap (λ (d : Bool). if d then with_booking tag what v else v) is in
    record {
      rooms = λ rs k. subst (λ x. IsInHand b x rs) (sym after) k;
      books = record { adapter = h; same = subst (λ x. view_of b x ≡ record (view_of b v) { adapter = x }) (sym after) refl };
    }

pub booked_all : (b : TableView) (v v' : AdapterView) (tag piece : ℕ) (what : What) (rooms : List Request) → IsInHand b v rooms → Books v tag piece what v' → IsInOrder v' → IsLeft b v tag piece what v'
booked_all b v v' tag piece what rooms k h order = by_booked b v v' tag piece what rooms k h order h.booked refl
