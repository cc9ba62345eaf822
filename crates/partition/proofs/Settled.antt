-- A settled disk is settled partitions, and both are read from the adapter.
use Rattle.partition.proofs.Common.{◌≡◌, ◌<◌, inl, inr, ℕ, ◌+◌, ◌-◌, cond, List, [], ◌∷◌, refl, sym, ◌∙◌, ap, subst, arith, map, length, take, drop, eqb, IsDistinct, take-length, sum_by-cons, IsPermutation-sym, IsDistinct-IsPermutation, All-map, All-weaker, Extent, AdapterView, Rules, Mark, Untouched, Out, Done, Failed, Back, OpenRequest, State, is_started, array_at, Settled, IsHeld, HasGone, WaitsIfCancelled, Waits, IsAllSent, IsHeldBack, HasMore, IsAtWork, IsFull, is_lower, AreDistinct, IsGiven, HasPlaces, request_number, sectors_in, flips, DeviceView, Packet, IsRead, IsSending, WaitsForTag, IsOrderly, IsOffRooms, packet_number, packet_spot, rules_over, as_called, on_partitions, packet_above, view_of, IsWholeDisk, IsOnDisk}
use Rattle.std.specs.Prelude.{◌⊎◌, All, IsPermutation, count_by}
use Rattle.partition.proofs.Noted.{maps_are}
use Rattle.srb.specs.declared.DeviceLabel.TheVariants.{Act}
use Rattle.adapter.specs.View.{TagInUse}
use Rattle.machine.specs.Step.{Run, as_label}
use Rattle.device.specs.View.{MayAct}
use Rattle.partition.proofs.Steps.{Run-over, Stands}

-- all of a list
whole_list : {X : Type 0} (xs : List X) → take (0 + length xs - 0) (drop 0 xs) ≡ xs
whole_list xs = let e : 0 + length xs - 0 ≡ length xs = omega arith in ap (λ n. take n xs) e ∙ take-length xs

-- the one array of the disk is all of the adapter's sectors
pub disk_is : (rules : Rules) (s : State) (adapter : AdapterView) → IsWholeDisk rules → IsRead rules s adapter
    → s.arrays ≡ adapter.sectors ∷ []
disk_is rules s adapter whole h =
    h.arrays ∙ ap (λ ps. map (sectors_in adapter.sectors) ps) whole
    ∙ ap (λ n. sectors_in adapter.sectors (record { first = 0; count = n }) ∷ []) h.same_sectors
    ∙ ap (λ xs. xs ∷ []) (whole_list adapter.sectors)

-- the disk in order is one that the lemmas on steps take
pub stands : (table : List Extent) (v : DeviceView) → IsOnDisk table v → IsOrderly v → Stands v.rules table v.packets v.state
stands table v k o = record {
  whole = k.whole;
  partitions = k.partitions;
  some_bytes = rw o.read.same_size (some o.adapter.sector_size);
  disk = v.adapter.sectors;
  arrays = disk_is v.rules v.state v.adapter k.whole o.read;
  covers = sym o.read.same_sectors;
  requests = k.requests;
  distinct = o.distinct;
  placed = k.placed;
  none_owed = o.none_owed;
}
  where
    some : (v.adapter.sector_size ≡ 512) ⊎ (v.adapter.sector_size ≡ 4096) → 0 < v.adapter.sector_size
    some (inl e) = omega arith
    some (inr e) = omega arith

-- packets have numbers of their own, those of the open requests
pub packets_distinct : (v : DeviceView) → IsOrderly v → IsDistinct eqb (map packet_number v.packets)
packets_distinct v o = IsDistinct-IsPermutation eqb flips _ _ (IsPermutation-sym _ _ o.packets) o.distinct.requests

module _ (below : Rules) (table : List Extent) (packets : List Packet) where
  abbrev over : Rules
  over = rules_over table below

  abbrev up : State → State
  up s = on_partitions over packets s

  abbrev as_up : OpenRequest → OpenRequest
  as_up o = as_called over packets o

  gone_is : (o : OpenRequest) (mark : Mark) → HasGone below o mark → HasGone over (as_up o) mark
  gone_is o Untouched h = h
  gone_is o Out h = h
  gone_is o (Done sector) h = h
  gone_is o (Failed status) h = h
  gone_is o Back h = h

  held_is : (o : OpenRequest) → IsHeld o → IsHeld (as_up o)
  held_is o h = record { not_started = h.not_started; late = h.late }

  sent_is : (o : OpenRequest) → IsAllSent below o → IsAllSent over (as_up o)
  sent_is o h timely started = All-weaker (HasGone below o) (HasGone over (as_up o)) (gone_is o) o.marks (h timely started)

  started_up : (requests : List OpenRequest) → count_by is_started (map as_up requests) ≡ count_by is_started requests
  started_up [] = refl
  started_up (o ∷ requests) =
      sum_by-cons (λ x. cond (is_started x) 1 0) (as_up o) (map as_up requests)
      ∙ ap (λ n. cond (is_started o) 1 0 + n) (started_up requests)
      ∙ sym (sum_by-cons (λ x. cond (is_started x) 1 0) o requests)

  lower_up : (number : ℕ) (requests : List OpenRequest) → count_by (is_lower number) (map as_up requests) ≡ count_by (is_lower number) requests
  lower_up number [] = refl
  lower_up number (o ∷ requests) =
      sum_by-cons (λ x. cond (is_lower number x) 1 0) (as_up o) (map as_up requests)
      ∙ ap (λ n. cond (is_lower number o) 1 0 + n) (lower_up number requests)
      ∙ sym (sum_by-cons (λ x. cond (is_lower number x) 1 0) o requests)

  -- what waits for a tag below waits for one above
  waits_is : (s : State) (o : OpenRequest) → WaitsForTag below s o → WaitsForTag over (up s) (as_up o)
  waits_is s o h timely unstarted = elim (h timely unstarted) [
    | inl late ↦ inl late
    | inr behind ↦ inr (subst (λ n. IsFull below.window n) (sym (lower_up o.number s.requests)) behind)
  ]

  held_back_is : (s : State) (o : OpenRequest) → IsHeldBack below s o → IsHeldBack over (up s) (as_up o)
  held_back_is s o h waits = elim (h waits) [
    | inl late ↦ inl late
    | inr full ↦ inr (subst (λ n. IsFull below.window n) (sym (started_up s.requests)) full)
  ]

  pub each : (P Q : OpenRequest → Type 0) → ((o : OpenRequest) → P o → Q (as_up o)) → (xs : List OpenRequest) → All P xs
      → All Q (map as_up xs)
  each P Q turns xs h = All-map Q as_up xs (All-weaker P (λ o. Q (as_up o)) turns xs h)

  pub Settled-over : (s : State) → Settled below s → Settled over (up s)
  Settled-over s h = record {
    none_owed = h.none_owed;
    idle = λ idle. each IsHeld IsHeld held_is s.requests (h.idle idle);
    idle_unpaused = λ idle unpaused. ap (λ xs. map as_up xs) (h.idle_unpaused idle unpaused);
    cancelled = each WaitsIfCancelled WaitsIfCancelled (λ o waits. waits) s.requests h.cancelled;
    removing = λ removing. each Waits Waits (λ o waits. waits) s.requests (h.removing removing);
    sent = λ free staying. each (IsAllSent below) (IsAllSent over) sent_is s.requests (h.sent free staying);
    released = λ free staying. each (IsHeldBack below s) (IsHeldBack over (up s)) (held_back_is s) s.requests (h.released free staying);
    alive = each HasMore HasMore (λ o more. more) s.requests h.alive;
    at_work = λ free. each IsAtWork IsAtWork (λ o work. work) s.requests (h.at_work free);
    within_window = rw (started_up s.requests) h.within_window;
  }

  IsSending-over : (s : State) → IsSending below s → IsSending over (up s)
  IsSending-over s h = record {
    sent = λ free staying. each (IsAllSent below) (IsAllSent over) sent_is s.requests (h.sent free staying);
    released =
        λ free staying. each (WaitsForTag below s) (WaitsForTag over (up s)) (waits_is s) s.requests
        (h.released free staying);
    within_window = rw (started_up s.requests) h.within_window;
  }

  -- the partitions' sectors are read from the adapter's as the disk's are
  IsRead-over : (s : State) (adapter : AdapterView) → IsWholeDisk below → Stands below table packets s → IsRead below s adapter → IsRead over (up s) adapter
  IsRead-over s adapter whole k h = record {
    same_size = h.same_size;
    same_sectors = h.same_sectors;
    same_depth = h.same_depth;
    arrays = ap (λ arrays. map (sectors_in (array_at arrays 0)) table) (disk_is below s adapter whole h);
    pieces = h.pieces;
    may_act = All-weaker (MayAct below s) (MayAct over (up s)) act_over adapter.tags h.may_act;
  }
    where
      act_over : (u : TagInUse) → MayAct below s u → MayAct over (up s) u
      act_over u may apart fresh =
          let b : (acted : State) × Run below s (as_label (Act u.piece u.srb.data) ∷ []) acted = may apart fresh in
          (up b.0, (Run-over below table packets (Act u.piece u.srb.data ∷ []) s b.0 k b.1).0)

  numbers_are : (requests : List OpenRequest) → map request_number (map as_up requests) ≡ map request_number requests
  numbers_are requests = maps_are as_up request_number request_number (λ o. refl) requests

  AreDistinct-over : (s : State) → AreDistinct s → AreDistinct (up s)
  AreDistinct-over s h = record {
    requests = rw (numbers_are s.requests) h.requests;
    given = each (IsGiven s.next_request) (IsGiven s.next_request) (λ o given. given) s.requests h.given;
    pieces = h.pieces;
    sent = h.sent;
  }

-- a disk in order is partitions in order
pub IsOrderly-over : (table : List Extent) (v : DeviceView) → IsOnDisk table v → IsOrderly v → IsOrderly (view_of table v)
IsOrderly-over table v k o = record {
  adapter = o.adapter;
  read = IsRead-over v.rules table v.packets v.state v.adapter k.whole (stands table v k o) o.read;
  distinct = AreDistinct-over v.rules table v.packets v.state o.distinct;
  places = each v.rules table v.packets HasPlaces HasPlaces (λ o some. some) v.state.requests o.places;
  packets =
      subst (λ ns. IsPermutation ns (map request_number (view_of table v).state.requests))
      (sym (maps_are packet_above packet_number packet_number (λ p. refl) v.packets))
      (subst (λ ns. IsPermutation (map packet_number v.packets) ns) (sym (numbers_are v.rules table v.packets v.state.requests)) o.packets);
  spots = subst (IsDistinct eqb) (sym (maps_are packet_above packet_spot packet_spot (λ p. refl) v.packets)) o.spots;
  vacant = All-map (IsOffRooms v.rooms) packet_above v.packets (λ i d low. o.vacant i d low);
  sending = IsSending-over v.rules table v.packets v.state o.sending;
  labels = o.labels;
  uncounted = o.uncounted;
  none_owed = o.none_owed;
  not_removed = o.not_removed;
}
