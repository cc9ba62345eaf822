-- The next part of a request that is being opened can be sent.
use Rattle.std.proofs.Common.{◌≡◌, ◌<◌, ◌≤◌, ℕ, suc, ◌+◌, ◌*◌, ◌^◌, ◌==◌, Bool, true, false, List, ◌∷◌, ◌++◌, Some, refl, sym, ◌∙◌, ap, subst, arith, length, map, drop}
use Rattle.std.specs.Prelude.{IsPermutation, All, slice_get, if◌then◌else◌}
use Rattle.class_disk.proofs.Common.{map-append, IsPermutation-trans, IsPermutation-middle, IsPermutation-append_left, IsPermutation-append_right, All-head, All-tail, Write, Request, Rules, is_transfer, piece_of, DeviceView, IsBounded, IsOrderly, payload_bytes, Place, Progress, FitsBlock, data_length, part_count_of, part_request_of, goes_whole, IsReadyBy, IsReadyPart, IsBuffered, IsBufferedBy, tickets, tickets_held, tickets_open, Ticket, AllOut, CanCut, CanSendPart, IsOpening, class_rules, CanSend, bytes_from}
use Rattle.class_disk.specs.declared.parts.Part.{Part}
use Rattle.class_disk.specs.declared.parts.Progress.TheVariants.{Ready, Below, Ended as HasEnded}
use Rattle.class_disk.specs.inside.TableView.{Opened, TableView, opened, all_open, restarts_left}
use Rattle.class_disk.proofs.Rooms.{out_any_order}
use Rattle.class_disk.specs.inside.Parts.{HasBuffers, ticket_for, tickets_of, ticket_by}
use Rattle.class_disk.proofs.Cutting.{can_cut}
use Rattle.class_disk.proofs.NewParts.{part_kind}
use Rattle.class_disk.proofs.Noting.{tickets_of-append, tickets_open-append}
use Rattle.class_disk.proofs.OnlyPart.{only_part, not_lent}
use Rattle.class_disk.proofs.Parting.{at_place}
use Rattle.class_disk.proofs.PiecePlaces.{asked_at, as_many, carried, fits_block, begins_behind, lies_inside}
use Rattle.class_disk.proofs.Resending.{few_enough, sizes_below}
use Rattle.class_disk.proofs.Standing.{StandsIn, AreRising, stands_by, split_at, All-at}

-- a part that is here, with its place
pub record IsReadyWith (part : Part) : Type 0 where
  pub place : Place
  pub is_ready : part.progress ≡ Ready place
  pub first : part.restarts ≡ 0

pub ready_with : (part : Part) → IsReadyPart part
    → IsReadyWith part
ready_with part h = by part.progress refl h.1
  where
    by : (p : Progress) → part.progress ≡ p → IsReadyBy p → IsReadyWith part
    by (Ready place) is w = record { place = place; is_ready = is; first = h.0 }
    by (Below number spot) is w = absurd w
    by (HasEnded ended) is w = absurd w

-- a part is of the volume of its request
part_volume : (limit : ℕ) (r : Request) (k : ℕ) → (part_request_of limit r k).volume ≡ r.volume
part_volume limit r k = by (is_transfer r.kind)
  where
    by : (t : Bool) → (if t then record r { extent = piece_of r.extent limit k } else r).volume ≡ r.volume
    by true = refl
    by false = refl

-- the room in the midst of all comes first
room_first : {X : Type 0} (room : X) (zs xs front back ys : List X)
    → IsPermutation (zs ++ (xs ++ ((front ++ (room ∷ back)) ++ ys))) (room ∷ (zs ++ (xs ++ ((front ++ back) ++ ys))))
room_first room zs xs front back ys =
    let a : IsPermutation ((front ++ (room ∷ back)) ++ ys) (room ∷ ((front ++ back) ++ ys)) =
    IsPermutation-append_left ys _ _ (IsPermutation-middle front room back) in
    let b : IsPermutation (xs ++ ((front ++ (room ∷ back)) ++ ys)) (room ∷ (xs ++ ((front ++ back) ++ ys))) =
    IsPermutation-trans _ _ _ (IsPermutation-append_right xs _ _ a) (IsPermutation-middle xs room ((front ++ back) ++ ys)) in
    IsPermutation-trans _ _ _ (IsPermutation-append_right zs _ _ b) (IsPermutation-middle zs room (xs ++ ((front ++ back) ++ ys)))

module _ {v : DeviceView}
    {b : TableView} {slot k : ℕ}
    (h : IsOpening v b slot k) (ordered : IsOrderly v) (rise : AreRising 0 b.opens) (low : k < length h.o.parts) where
  abbrev pub rules : Rules
  rules = class_rules v.rules

  abbrev pub o : Opened
  o = h.o

  -- THE PART

  abbrev pub there : (x : Part) × (slice_get h.o.parts k ≡ Some x) × (drop k h.o.parts ≡ x ∷ drop (k + 1) h.o.parts)
  there = at_place h.o.parts k low

  abbrev pub part : Part
  part = there.0

  pub is_there : slice_get h.o.parts k ≡ Some part
  is_there = there.1

  pub readies : All IsReadyPart (part ∷ drop (k + 1) h.o.parts)
  readies = subst (All IsReadyPart) there.2 h.ready_from

  abbrev pub with_place : IsReadyWith part
  with_place = ready_with part (All-head IsReadyPart part (drop (k + 1) h.o.parts) readies)

  abbrev pub place : Place
  place = with_place.place

  pub behind_ready : All IsReadyPart (drop (k + 1) h.o.parts)
  behind_ready = All-tail IsReadyPart part (drop (k + 1) h.o.parts) readies

  -- where it stands, and its request
  abbrev pub halves : (front : List Part) × (back : List Part) × (h.o.parts ≡ front ++ (part ∷ back)) × (length front ≡ k)
  halves = split_at h.o.parts k part is_there

  abbrev pub stands : StandsIn b.opens slot h.o
  stands = stands_by 0 slot b.opens h.o rise h.is_open

  -- WHAT IT ASKS FOR

  abbrev pub limit : ℕ
  limit = v.rules.max_transfer

  pub asks : (part.request ≡ part_request_of limit h.o.request k) × (k < part_count_of limit h.o.request)
  asks =
      let a = asked_at (part_request_of limit h.o.request) 0 (part_count_of limit h.o.request) h.o.parts k part h.cut.parts_are is_there in
      (a.0 ∙ ap (part_request_of limit h.o.request) (omega arith), a.1)

  pub long : length h.o.parts ≡ part_count_of limit h.o.request
  long = as_many (part_request_of limit h.o.request) 0 (part_count_of limit h.o.request) h.o.parts h.cut.parts_are

  cuts : CanCut b.sizes v.rules h.o.request
  cuts = can_cut v b.sizes h.o.request h.port ordered h.sizes h.cut.bounded

  same_limit : b.sizes.max_transfer ≡ limit
  same_limit = h.sizes.max_transfer

  pub part_bounded : IsBounded v.rules (part_request_of limit h.o.request k)
  part_bounded = subst (λ n. IsBounded v.rules (part_request_of n h.o.request k)) same_limit
      (cuts.bounded k (subst (λ n. k < part_count_of n h.o.request) (sym same_limit) asks.1))

  pub few_parts : part_count_of limit h.o.request ≤ 2 ^ 16
  few_parts = subst (λ n. part_count_of n h.o.request ≤ 2 ^ 16) same_limit cuts.count

  fits : h.o.request.extent.first + h.o.request.extent.count < 2 ^ 64
  fits = cuts.cuttable.fits

  some_limit : 0 < limit
  some_limit = h.port.some_transfer

  pub volume_is : h.o.request.volume ≡ 0
  volume_is = let known = h.cut.bounded.known in let one = ap length h.port.one_disk in omega (arith, known, one)

  can_send : CanSend b.sizes h.o part place
  can_send =
      let r : Request = h.o.request in
      let short : r.extent.count ≤ 2 ^ 16 = h.cut.bounded.short in
      let low' : k < part_count_of limit r = asks.1 in
      let own : part.request ≡ part_request_of limit r k = asks.0 in
      let size : b.sizes.sector_size ≡ v.rules.sector_size = h.sizes.sector_size in
      let only : Bool = goes_whole limit r in
      let buffered : IsBufferedBy rules only part.request (Ready place) =
      subst (IsBufferedBy rules only part.request) with_place.is_ready
      (All-at (IsBuffered rules only) halves.0 part halves.1 (subst (All (IsBuffered rules only)) halves.2 h.buffered)) in
      let c = carried rules r h.o.irp.payload h.carries in
      let bytes : length (payload_bytes h.o.irp.payload) ≡ data_length b.sizes.sector_size r =
      ap (λ p. length (payload_bytes p)) c.1 ∙ c.2 ∙ ap (λ n. data_length n r) (sym size) in
      record {
        ready = with_place.is_ready;
        fits = subst FitsBlock (sym own) (fits_block limit r.volume r.extent r.through k some_limit short fits r.kind low');
        volume = subst (λ (q : Request). q.volume ≡ 0) (sym own) (part_volume limit r k ∙ volume_is);
        small = subst (λ (q : Request). q.extent.count * b.sizes.sector_size < 2 ^ 64) (sym own)
            (subst (λ n. (part_request_of n r k).extent.count * b.sizes.sector_size < 2 ^ 64) same_limit
            (cuts.small k (subst (λ n. k < part_count_of n r) (sym same_limit) low')));
        behind = subst (λ (q : Request). r.extent.first ≤ q.extent.first) (sym own)
            (begins_behind limit r.volume r.extent r.through k some_limit short fits r.kind);
        inside = subst (λ (q : Request). q.kind ≡ Write → bytes_from b.sizes.sector_size r q + data_length b.sizes.sector_size q ≤ length (payload_bytes h.o.irp.payload))
            (sym own)
            (λ is. subst (λ n. bytes_from b.sizes.sector_size r (part_request_of limit r k) + data_length b.sizes.sector_size (part_request_of limit r k) ≤ n)
            (sym bytes)
            (lies_inside limit r.volume r.extent r.through k some_limit short fits r.kind b.sizes.sector_size low' (sym (part_kind limit r k) ∙ is)));
        buffers = subst (λ t. HasBuffers b.sizes.keeps_bytes t b.sizes.sector_size part.request place) (ap (λ n. n == 1) (sym long))
            (subst (λ w. HasBuffers w only b.sizes.sector_size part.request place) (sym h.sizes.keeps_bytes)
            (subst (λ n. HasBuffers v.rules.keeps_bytes only n part.request place) (sym size) buffered));
        whole = λ one. own ∙ only_part limit r k some_limit (sym long ∙ one) low';
        long = bytes;
      }

  -- ROOMS

  -- all rooms in hand but that of the part
  abbrev pub rooms_left : List Ticket
  rooms_left = tickets_held b.held ++
      (tickets_open (map opened stands.before) ++ ((tickets_of halves.0 ++ tickets_of halves.1) ++ tickets_open (map opened stands.after)))

  abbrev pub ticket : Ticket
  ticket = ticket_for part.request place.packet

  pub rooms_here : IsPermutation (tickets b) (ticket ∷ rooms_left)
  rooms_here =
      let xs : List Opened = map opened stands.before in
      let ys : List Opened = map opened stands.after in
      let all : tickets_open (all_open b) ≡ tickets_open xs ++ (tickets_of h.o.parts ++ tickets_open ys) =
      ap (λ os. tickets_open (map opened os)) stands.opens_are ∙ ap tickets_open
      (map-append opened stands.before ((slot, h.o) ∷ stands.after)) ∙ tickets_open-append xs (h.o ∷ ys) in
      let own : tickets_of h.o.parts ≡ tickets_of halves.0 ++ (ticket ∷ tickets_of halves.1) =
      ap tickets_of halves.2 ∙ tickets_of-append halves.0 (part ∷ halves.1)
      ∙ ap (λ p. tickets_of halves.0 ++ (ticket_by part.request p ++ tickets_of halves.1)) with_place.is_ready in
      subst (λ zs. IsPermutation (tickets_held b.held ++ zs) (ticket ∷ rooms_left)) (sym (all ∙ ap (λ zs. tickets_open xs ++ (zs ++ tickets_open ys)) own))
      (room_first ticket (tickets_held b.held) (tickets_open xs) (tickets_of halves.0) (tickets_of halves.1) (tickets_open ys))

  -- THE PART CAN BE SENT

  pub room_out : AllOut v (ticket ∷ rooms_left)
  room_out = out_any_order v _ _ rooms_here h.rooms_out

  pub can_send_part : CanSendPart v b slot k rooms_left h.o part place
  can_send_part =
      let left : length (drop k h.o.parts) ≡ suc (length (drop (k + 1) h.o.parts)) = ap length there.2 in
      let enough = few_enough v.submitted b.next_packet (length (drop k h.o.parts) + restarts_left b.opens) b.submitted v.most h.few
      (omega (arith, left)) (let p = h.budget in omega arith) h.submitted in
      let c = carried rules h.o.request h.o.irp.payload h.carries in
      record {
        submit = record {
          rooms_out = room_out;
          not_removing = sym h.removing ∙ h.staying;
          number = h.next_number_is;
          few = enough.0;
          can_number = record { count = enough.1 };
          sizes = sizes_below b.sizes v.rules h.sizes;
        };
        is_open = h.is_open;
        is_there = is_there;
        is_ready = with_place.is_ready;
        ready_at = record { part = part; place = place; is_there = is_there; can = can_send; carries = (c.0, c.1); here = h.lent ∙ not_lent limit h.o.request k asks.1 };
      }
