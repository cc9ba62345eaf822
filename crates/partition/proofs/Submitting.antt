-- A packet is passed on to the layer below.
use Rattle.partition.proofs.Common.{Wanted, ◌≡◌, ◌<◌, ◌≤◌, ℕ, zero, suc, Option, None, map, ◌+◌, ◌-◌, ◌*◌, ◌/◌, ◌^◌, Bool, true, false, List, [], ◌∷◌, ◌++◌, Some, refl, sym, ◌∙◌, ap, subst, arith, add-zero, length, take, ◌==◌, bit_and, All, Contains, if◌then◌else◌, IsPermutation-sym, All-permutation, mul-div_cancel, All-cons, All-head, All-tail, Extent, IsPlain, Means, Irp, Payload, StackLocation, above, HasOwn, KeepsAllButLocations, above_is, always_asks, Kind, Read, Write, Flush, Request, Rules, home, as_client, sectors_of, Opens, command_for, read_command, write_command, all_places, OpenRequest, IsGiven, IsPartition, DeviceView, Packet, IsOrderly, IsBounded, AsksInLocation, Carries, major_of, Reserved, packet_of, request_at, request_of, sent_bytes, whole_command, whole_for, Moves, SetsRoom, StaysOpen, Submits, noting, passed_on, kind_in, noted_in, noted_last, asked, rules_over, on_disk, called, as_called, on_partitions, packet_above, view_of, shown_of, IsWholeDisk, for_wanted, rooms_with, ComesBack, IsOnDisk, IsKept, IsNotedAt, count_at, home_at}
use Rattle.irp.specs.declared.Payload.TheVariants.{Buffer, Srb as Packed, Sent as AtAdapter}
use Rattle.partition.proofs.Noted.{asked_first, asked_behind, noted_at, front_is}
use Rattle.partition.proofs.Steps.{Stands}
use Rattle.partition.proofs.Calls.{Opens-over}
use Rattle.partition.proofs.Settled.{stands, each}
use Rattle.partition.proofs.Rooms.{rooms_set}
use Rattle.partition.proofs.Hand.{IsUnder, kept_with, rooms_less}
use Rattle.partition.proofs.Moving.{GoesOn, MovesOn, moves_on, numbered, open_still}

-- WHERE A REQUEST BEGINS

-- at a sector of the disk, or right behind the last
pub home_within : (table : List Extent) (p i size : ℕ) → p < length table → i ≤ count_at table p → All (IsPartition size) table
    → home_at table p i ≤ size
home_within [] p i size known low all = absurd (omega arith)
home_within (e ∷ es) zero i size known low all = inside (All-head (IsPartition size) e es all).inside
  where
    inside : e.first + e.count ≤ size → e.first + i ≤ size
    inside h = omega arith
home_within (e ∷ es) (suc p) i size known low all = home_within es p i size (omega arith) low (All-tail (IsPartition size) e es all)

pub begins_within : (table : List Extent) (v : DeviceView) (r : Request) → IsOnDisk table v → IsOrderly v
    → IsBounded (rules_over table v.rules) r → home (rules_over table v.rules) (Some r.volume) r.extent.first < 2 ^ 64
begins_within table v r k o b =
    let low : r.extent.first ≤ count_at table r.volume =
    let i : r.extent.first + r.extent.count ≤ count_at table r.volume = b.inside in omega arith in
    let within : home_at table r.volume r.extent.first ≤ v.rules.disk_sectors =
    home_within table r.volume r.extent.first v.rules.disk_sectors b.known low k.partitions.each in
    let few : length v.adapter.sectors ≤ 2 ^ 40 = o.adapter.sectors.1 in
    let same : v.rules.disk_sectors ≡ length v.adapter.sectors = o.read.same_sectors in
    omega arith

-- it ends in the disk
home_ends : (table : List Extent) (p i n size : ℕ) → p < length table → i + n ≤ count_at table p → All (IsPartition size) table
    → home_at table p i + n ≤ size
home_ends [] p i n size known low all = absurd (omega arith)
home_ends (e ∷ es) zero i n size known low all = inside (All-head (IsPartition size) e es all).inside
  where
    inside : e.first + e.count ≤ size → e.first + i + n ≤ size
    inside h = omega arith
home_ends (e ∷ es) (suc p) i n size known low all = home_ends es p i n size (omega arith) low (All-tail (IsPartition size) e es all)

-- so it is bounded as a request of the disk
pub bounded_down : (table : List Extent) (v : DeviceView) (r : Request) → IsOnDisk table v → IsBounded (rules_over table v.rules) r
    → IsBounded v.rules (on_disk (rules_over table v.rules) r)
bounded_down table v r k b =
    let within : home_at table r.volume r.extent.first + r.extent.count ≤ v.rules.disk_sectors =
    home_ends table r.volume r.extent.first r.extent.count v.rules.disk_sectors b.known b.inside k.partitions.each in
    let whole : sectors_of v.rules (Some 0) ≡ v.rules.disk_sectors = rw k.whole refl in
    let one : length v.rules.partitions ≡ 1 = rw k.whole refl in
    record {
      known = omega (arith, one);
      some = b.some;
      none = b.none;
      inside = subst (λ (n : ℕ). home (rules_over table v.rules) (Some r.volume) r.extent.first + r.extent.count ≤ n) (sym whole) within;
      short = b.short;
    }

-- WHAT A PACKET CARRIES

module _ (below : Rules) (table : List Extent) (some : 0 < below.sector_size) (whole : IsWholeDisk below) where
  abbrev over_disk : Rules
  over_disk = rules_over table below

  same_home : (r : Request)
      → home below (Some 0) (home over_disk (Some r.volume) r.extent.first * below.sector_size / below.sector_size + 0)
      ≡ home over_disk (Some r.volume) (r.extent.first * below.sector_size / below.sector_size + 0)
  same_home r =
      let first : ℕ = r.extent.first in
      let begins : ℕ = home over_disk (Some r.volume) first in
      let a : begins * below.sector_size / below.sector_size ≡ begins = mul-div_cancel begins some in
      let b : first * below.sector_size / below.sector_size ≡ first = mul-div_cancel first some in
      let c : first ≡ first * below.sector_size / below.sector_size + 0 = omega arith in
      ap (λ i. home below (Some 0) (i + 0)) a ∙ home_of_disk (begins + 0) ∙ add-zero begins ∙ ap (λ i. home over_disk (Some r.volume) i) c
    where
      home_of_disk : (i : ℕ) → home below (Some 0) i ≡ i
      home_of_disk i = rw whole (omega arith)

  -- the whole command is the same
  pub same_command : (r : Request) → whole_command below (on_disk over_disk r) ≡ whole_command over_disk r
  same_command r = by r.kind
    where
      by : (kind : Kind)
          → command_for below (as_client below (on_disk over_disk r) []) (all_places below (as_client below (on_disk over_disk r) [])) kind
          ≡ command_for over_disk (as_client over_disk r []) (all_places over_disk (as_client over_disk r [])) kind
      by Read = ap (λ lba. read_command lba (all_places over_disk (as_client over_disk r [])).count r.through) (same_home r)
      by Write = ap (λ lba. write_command lba (all_places over_disk (as_client over_disk r [])).count r.through) (same_home r)
      by Flush = refl

  pub carries_down : (takes_srb : Bool) (r : Request) (payload : Payload) → Carries takes_srb over_disk r payload
      → Carries takes_srb below (on_disk over_disk r) payload
  carries_down true r (Packed srb) h = record {
    function = h.function;
    flags = h.flags;
    asks = subst (λ command. Means srb.block command) (sym (same_command r)) h.asks;
    plain = subst (λ command. IsPlain srb.block command) (sym (same_command r)) h.plain;
    data_length = h.data_length;
    label_length = h.label_length;
    sense = h.sense;
  }
  carries_down true r (Buffer bytes) h = h
  carries_down true r AtAdapter h = h
  carries_down false r (Packed srb) h = h
  carries_down false r (Buffer bytes) h = h
  carries_down false r AtAdapter h = h

  pub carries_up : (takes_srb : Bool) (r : Request) (payload : Payload) → Carries takes_srb below (on_disk over_disk r) payload
      → Carries takes_srb over_disk r payload
  carries_up true r (Packed srb) h = record {
    function = h.function;
    flags = h.flags;
    asks = subst (λ command. Means srb.block command) (same_command r) h.asks;
    plain = subst (λ command. IsPlain srb.block command) (same_command r) h.plain;
    data_length = h.data_length;
    label_length = h.label_length;
    sense = h.sense;
  }
  carries_up true r (Buffer bytes) h = h
  carries_up true r AtAdapter h = h
  carries_up false r (Packed srb) h = h
  carries_up false r (Buffer bytes) h = h
  carries_up false r AtAdapter h = h

-- THE PACKET

-- as `pass_on` leaves it
pub record IsPassedOn (kind : Kind) (extent : Extent) (irp irp' : Irp) : Type 0 where
  pub locations : (higher : List StackLocation) (own : StackLocation) → HasOwn irp higher own
      → HasOwn irp' (higher ++ noting kind own ∷ []) (passed_on extent own)
  pub kept : KeepsAllButLocations irp irp'

-- its own location for the layer below
pub asks_below : (takes_srb : Bool) (rules : Rules) (r : Request) (irp irp' : Irp) → AsksInLocation takes_srb r irp
    → IsPassedOn r.kind (on_disk rules r).extent irp irp' → AsksInLocation takes_srb (on_disk rules r) irp'
asks_below takes_srb rules r irp irp' h p = record {
  higher = h.higher ++ noting r.kind h.own ∷ [];
  own = passed_on (on_disk rules r).extent h.own;
  is_own = p.locations h.higher h.own h.is_own;
  major = h.major;
  flags = h.flags;
  volume = refl;
  extent = refl;
}

kind_noted : (kind : Kind) → kind_in (major_of false kind) ≡ kind
kind_noted Read = refl
kind_noted Write = refl
kind_noted Flush = refl

through_noted : (through : Bool) (flags : ℕ) → flags ≡ (if through then 0x04 else 0) → (bit_and flags 0x04 == 0x04) ≡ through
through_noted true flags e = ap (λ n. bit_and n 0x04 == 0x04) e
through_noted false flags e = ap (λ n. bit_and n 0x04 == 0x04) e

-- the partition driver notes what it was asked for
pub noted_is : (takes_srb : Bool) (r : Request) (irp : Irp) → (h : AsksInLocation takes_srb r irp) → noted_in (noting r.kind h.own) ≡ r
noted_is takes_srb r irp h =
    ap (λ n. record (noted_in (noting r.kind h.own)) { volume = n }) h.volume
    ∙ ap (λ k. record (noted_in (noting r.kind h.own)) { volume = r.volume; kind = k }) (kind_noted r.kind)
    ∙ ap (λ e. record r { extent = e; through = bit_and h.own.flags.0 0x04 == 0x04 }) h.extent
    ∙ ap (λ b. record r { through = b }) (through_noted r.through h.own.flags.0 h.flags)

module _ (takes_srb : Bool) (rules : Rules) (r : Request) (irp irp' : Irp) (h : AsksInLocation takes_srb r irp)
    (p : IsPassedOn r.kind (on_disk rules r).extent irp irp') where
  above_below : above irp' ≡ h.higher ++ noting r.kind h.own ∷ []
  above_below =
      above_is irp' (h.higher ++ noting r.kind h.own ∷ []) (passed_on (on_disk rules r).extent h.own) (p.locations h.higher h.own h.is_own)

  -- it comes back
  pub comes_back : (spot : ℕ) → ComesBack (packet_of irp' spot)
  comes_back spot = record {
    higher = h.higher;
    own = noting r.kind h.own;
    is_last = above_below;
    always = λ success cancelled. always_asks success cancelled false (record h.own { major = major_of false r.kind });
  }

  pub noted_of : (spot : ℕ) → noted_last (packet_of irp' spot).above ≡ r
  noted_of spot = noted_at (above irp') h.higher (noting r.kind h.own) above_below ∙ noted_is takes_srb r irp h

  pub asked_of : (spot : ℕ) (packets : List Packet) → asked (packet_of irp' spot ∷ packets) irp'.number ≡ r
  asked_of spot packets =
      asked_first (packet_of irp' spot) packets ∙ noted_at (above irp') h.higher (noting r.kind h.own) above_below
      ∙ noted_is takes_srb r irp h

  -- for the layer above it is the packet that came
  pub packet_is : (spot : ℕ) → packet_above (packet_of irp' spot) ≡ packet_of irp spot
  packet_is spot =
      let same : take (length (above irp') - 1) (above irp') ≡ above irp =
      ap (λ (xs : List StackLocation). take (length xs - 1) xs) above_below ∙ front_is h.higher (noting r.kind h.own)
      ∙ sym (above_is irp h.higher h.own h.is_own) in
      ap (λ xs. record (packet_above (packet_of irp' spot)) { above = xs }) same
      ∙ ap (λ n. record (packet_above (packet_of irp' spot)) { number = n; above = above irp }) p.kept.number
      ∙ ap (λ c. record (packet_of irp spot) { cancel_routine = c }) p.kept.cancel_routine

-- IT IS TAKEN IN

-- the request of the disk
abbrev pub on_disk_of : List Extent → DeviceView → Request → Request
on_disk_of table v r = on_disk (rules_over table v.rules) r

-- a packet of a room's request, as it is handed to the layer below with the room below
pub record IsHandedDown (table : List Extent) (v : DeviceView) (takes_srb : Bool) (r below : Request) (extent : Extent)
    (irp irp' : Irp) : Type 0 where
  pub on_disk : IsOnDisk table v
  pub orderly : IsOrderly v
  pub bounded : IsBounded (rules_over table v.rules) r
  pub is_below : below ≡ on_disk_of table v r
  pub extent_is : extent ≡ (on_disk_of table v r).extent
  pub asks : AsksInLocation takes_srb r irp
  pub carries : Carries takes_srb (rules_over table v.rules) r irp.payload
  pub passed : IsPassedOn r.kind extent irp irp'

pub handed_down : (locations_below : ℕ) (table : List Extent) (wanted : Wanted) (v : DeviceView) (takes_srb : Bool) (spot : ℕ)
    (reserved : Reserved) (extent : Extent) (irp irp' : Irp)
    → IsKept locations_below table wanted v → IsUnder table wanted v spot reserved
    → extent ≡ (on_disk_of table v reserved.request).extent → AsksInLocation takes_srb reserved.request irp
    → Carries takes_srb (rules_over table v.rules) reserved.request irp.payload → IsPassedOn reserved.request.kind extent irp irp'
    → IsHandedDown table v takes_srb reserved.request (request_at v.rooms spot) extent irp irp'
handed_down locations_below table wanted v takes_srb spot reserved extent irp irp' h u extent_is asks carries passed = record {
  on_disk = h.on_disk;
  orderly = h.below;
  bounded = u.bounded;
  is_below = ap request_of u.is_room;
  extent_is = extent_is;
  asks = asks;
  carries = carries;
  passed = passed;
}

module _ (table : List Extent) (v : DeviceView) (takes_srb : Bool) (r below : Request) (extent : Extent) (irp irp' : Irp)
    (h : IsHandedDown table v takes_srb r below extent irp irp') where
  abbrev over : Rules
  over = rules_over table v.rules

  passed : IsPassedOn r.kind (on_disk over r).extent irp irp'
  passed = subst (λ e. IsPassedOn r.kind e irp irp') h.extent_is h.passed

  pub asks_in_location : AsksInLocation takes_srb below irp'
  asks_in_location = subst (λ q. AsksInLocation takes_srb q irp') (sym h.is_below) (asks_below takes_srb over r irp irp' h.asks passed)

  pub carries_all : Carries takes_srb v.rules below irp'.payload
  carries_all =
      let k : Stands v.rules table v.packets v.state = stands table v h.on_disk h.orderly in
      subst (λ q. Carries takes_srb v.rules q irp'.payload) (sym h.is_below)
      (subst (λ p. Carries takes_srb v.rules (on_disk over r) p) (sym h.passed.kept.payload)
      (carries_down v.rules table k.some_bytes k.whole takes_srb r irp.payload h.carries))

  -- the new packet has a number of its own, so the others note what they did
  others_stay_over : (v' : DeviceView) (spot : ℕ) → IsOrderly v' → (s : Submits v (packet_of irp' spot) (on_disk over r) irp'.payload v')
      → All (StaysOpen (view_of table v').state) (view_of table v).state.requests
  others_stay_over v' spot o' s =
      each v.rules table v.packets (λ o. IsGiven v.state.next_request o × StaysOpen v'.state o) (StaysOpen (view_of table v').state) one
      v.state.requests (λ i d low. (h.orderly.distinct.given i d low, s.others_stay i d low))
    where
      one : (o : OpenRequest) → IsGiven v.state.next_request o × StaysOpen v'.state o
          → StaysOpen (view_of table v').state (as_called over v.packets o)
      one o (given, is_open) =
          let packet : Packet = packet_of irp' spot in
          let from : DeviceView = record v { state = s.opened; packets = packet ∷ v.packets; rooms = v'.rooms; submitted = v.submitted + 1 } in
          let same : asked (packet ∷ v.packets) o.number ≡ asked v.packets o.number =
          asked_behind packet v.packets o.number (λ e. not_given o given e) in
          subst (λ q. Contains (view_of table v').state.requests (record o { request = called over q o.request })) same
          (open_still table from v' s.moves.same_rules s.moves.same_packets (numbered v' o') o is_open)
        where
          not_given : (o : OpenRequest) → IsGiven v.state.next_request o → irp'.number ≡ o.number → ⊥
          not_given o given e = let n : v.state.next_request ≤ irp'.number = s.opens.new_number in absurd (omega arith)

  pub submits_over : (locations_below : ℕ) (wanted : Wanted) (v' : DeviceView) (spot : ℕ) → IsKept locations_below table wanted v
      → IsUnder table wanted v spot (whole_for r) → IsOrderly v' → Submits v (packet_of irp' spot) below irp'.payload v'
      → Submits (shown_of table wanted v) (packet_of irp spot) r irp.payload (shown_of table wanted v') × IsKept locations_below table wanted v'
  submits_over locations_below wanted v' spot kept u o' submits =
      let s : Submits v (packet_of irp' spot) (on_disk over r) irp'.payload v' =
      subst (λ q. Submits v (packet_of irp' spot) q irp'.payload v') h.is_below submits in
      let packet : Packet = packet_of irp' spot in
      let opened : Opens over (on_partitions over v.packets v.state) packet.number (as_client over r (sent_bytes r.kind irp'.payload))
      (on_partitions over (packet ∷ v.packets) s.opened)
      × Stands v.rules table (packet ∷ v.packets) s.opened =
      Opens-over v.rules table v.packets v.state packet r (sent_bytes r.kind irp'.payload) s.opened
      (stands table v h.on_disk h.orderly) s.opens h.bounded h.orderly.uncounted
      (asked_of takes_srb over r irp irp' h.asks passed spot v.packets) in
      let from : DeviceView = record v { state = s.opened; packets = packet ∷ v.packets; rooms = v'.rooms; submitted = v.submitted + 1 } in
      let m : MovesOn table from v' s.starts =
      moves_on table from v' s.starts opened.1
      (All-cons ComesBack packet v.packets (comes_back takes_srb over r irp irp' h.asks passed spot) h.on_disk.packets) s.moves
      (numbered v' o') in
      let room : SetsRoom (rooms_with wanted v.rooms) spot (Some (whole_for r)) None (rooms_with wanted v'.rooms) =
      subst (λ (x : Option Reserved). SetsRoom (rooms_with wanted v.rooms) spot x None (rooms_with wanted v'.rooms))
      (ap (λ (w : Option Request). for_wanted (Some (whole_for (on_disk over r))) w) u.is_wanted)
      (rooms_set wanted v.rooms v'.rooms spot (Some (whole_for (on_disk over r))) None s.room) in
      let moves : Moves (record (shown_of table wanted v) {
        state = on_partitions over (packet ∷ v.packets) s.opened;
        packets = packet_above packet ∷ map packet_above v.packets;
        rooms = rooms_with wanted v'.rooms;
        submitted = v.submitted + 1;
      }) s.starts (shown_of table wanted v') = record {
        same_rules = m.moves.same_rules;
        same_packets = m.moves.same_packets;
        same_rooms = λ k. refl;
        same_submitted = m.moves.same_submitted;
        same_most = m.moves.same_most;
        same_places = ap (λ n. n + wanted.places) m.moves.same_places;
        run = m.moves.run;
        adapter = m.moves.adapter;
      } in
      let shown : Submits (shown_of table wanted v) (packet_above packet) r irp'.payload (shown_of table wanted v') = record {
        room = room;
        opened = on_partitions over (packet ∷ v.packets) s.opened;
        starts = s.starts;
        opens = opened.0;
        only_starts = s.only_starts;
        moves = moves;
        others_stay = others_stay_over v' spot o' s;
      } in
      let goes : GoesOn table v v' = record { on_disk = m.goes.on_disk; same_rules = m.goes.same_rules } in
      let noted : All (IsNotedAt wanted) (packet ∷ v.packets) =
      All-cons (IsNotedAt wanted) packet v.packets
      (u.is_wanted ∙ ap (λ (q : Request). Some q) (sym (noted_of takes_srb over r irp irp' h.asks passed spot))) kept.noted in (
        subst (λ payload. Submits (shown_of table wanted v) (packet_of irp spot) r payload (shown_of table wanted v')) h.passed.kept.payload
            (subst (λ q. Submits (shown_of table wanted v) q r irp'.payload (shown_of table wanted v'))
            (packet_is takes_srb over r irp irp' h.asks passed spot) shown),
        kept_with locations_below table wanted wanted v v' kept goes o'
            (rooms_less over wanted v.rooms v'.rooms spot (Some (whole_for (on_disk over r))) s.room kept.rooms)
            (All-permutation (IsNotedAt wanted) _ _ (IsPermutation-sym _ _ s.moves.same_packets) noted),
      )
