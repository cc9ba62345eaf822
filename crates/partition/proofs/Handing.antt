-- A packet comes back from the layer below, and is handed up.
use Rattle.partition.proofs.Common.{◌+◌, Wanted, ◌≡◌, ◌≢◌, ◌<◌, ℕ, suc, ◌-◌, ◌*◌, ◌/◌, Bool, List, [], ◌∷◌, Option, Some, None, refl, sym, ◌∙◌, ap, subst, arith, map, length, take, eqb, get_or, All, Contains, IsPermutation, IsDistinct, mul-div_cancel, IsDistinct-IsPermutation, IsPermutation-sym, IsPermutation-map, All-permutation, Contains-permutation, All-head, All-tail, All-contains, Contains-get_or, NtStatus, Success, Extent, CancelRoutine, Climb, Routine, Finished, Climbs, BringsRoutine, Box, Driver, Irp, Payload, StackLocation, above, succeeds, HasOwn, cancel_routine_of, Request, ClientRequest, Rules, as_client, Done, OpenRequest, information, request_number, flips, differ_first, Read, Flush, DeviceView, Packet, Reserved, Carries, IsOrderly, IsBounded, sent_bytes, payload_bytes, packet_number, HandsUp, Moves, SetsRoom, StaysIfStarted, IsBack, sectors_moved, noted_in, asked, rules_over, on_disk, called, as_called, on_partitions, packet_above, view_of, shown_of, for_wanted, rooms_with, wanted_at, ComesBack, LiesInside, IsOnDisk, IsKept, IsNotedAt}
use Rattle.device.proofs.Returning.{ComesBack as CameBack, comes_back, above_is}
use Rattle.partition.proofs.Noted.{Contains-map, asked_behind, asked_same, asked_at, noted_at, front_is}
use Rattle.partition.proofs.Steps.{Stands}
use Rattle.partition.proofs.Alike.{AreNotedAlike}
use Rattle.partition.proofs.Calls.{Answers-over}
use Rattle.partition.proofs.Settled.{stands, packets_distinct, each}
use Rattle.partition.proofs.Moving.{GoesOn, MovesOn, moves_on, numbered, open_still}
use Rattle.partition.proofs.Rooms.{rooms_set}
use Rattle.partition.proofs.Hand.{kept_with, rooms_more}
use Rattle.partition.proofs.Submitting.{carries_up}

-- two requests that a client would make alike are the same
same_client : (rules : Rules) (a b : Request) (bytes bytes' : List ℕ) → 0 < rules.sector_size
    → as_client rules a bytes ≡ as_client rules b bytes' → a ≡ b
same_client rules a b bytes bytes' some e =
    let size : ℕ = rules.sector_size in
    let volume : Some a.volume ≡ Some b.volume = ap (λ (q : ClientRequest). q.partition) e in
    let first : a.extent.first ≡ b.extent.first =
    sym (mul-div_cancel a.extent.first some) ∙ ap (λ (q : ClientRequest). q.offset / size) e ∙ mul-div_cancel b.extent.first some in
    let count : a.extent.count ≡ b.extent.count =
    sym (mul-div_cancel a.extent.count some) ∙ ap (λ (q : ClientRequest). q.length / size) e ∙ mul-div_cancel b.extent.count some in
    alike a b (unsome volume) (ap (λ (q : ClientRequest). q.kind) e) first count (ap (λ (q : ClientRequest). q.through) e)
  where
    unsome : {m n : ℕ} → Some m ≡ Some n → m ≡ n
    unsome h = cc (h)

    alike : (a b : Request) → a.volume ≡ b.volume → a.kind ≡ b.kind → a.extent.first ≡ b.extent.first → a.extent.count ≡ b.extent.count
        → a.through ≡ b.through → a ≡ b
    alike a b volume kind first count through =
        ap (λ n. record a { volume = n }) volume
        ∙ ap (λ k. record a { volume = b.volume; kind = k }) kind
        ∙ ap (λ n. record a { volume = b.volume; kind = b.kind; extent = record { first = n; count = a.extent.count } }) first
        ∙ ap (λ n. record a { volume = b.volume; kind = b.kind; extent = record { first = b.extent.first; count = n } }) count
        ∙ ap (λ t. record b { through = t }) through

-- where a request begins doesn't change what it moved
informed_is : (rules : Rules) (noted : Request) (q : ClientRequest) (status : NtStatus)
    → information q status ≡ information (called rules noted q) status
informed_is rules noted q Success = refl
informed_is rules noted q status = refl

-- so it climbs as the partition's request
climbs_too : (rules : Rules) (packets : List Packet) (o up : OpenRequest) (higher : List StackLocation) (number : ℕ) (status : NtStatus)
    (payload : Payload) (climb : Climb) → up ≡ as_called rules packets o
    → Climbs higher number o.cancelled status (information o.request status) payload climb
    → Climbs higher number up.cancelled status (information up.request status) payload climb
climbs_too rules packets o up higher number status payload climb e h =
    subst (λ (x : OpenRequest). Climbs higher number x.cancelled status (information x.request status) payload climb) (sym e)
    (subst (λ n. Climbs higher number o.cancelled status n payload climb) (informed_is rules (asked packets o.number) o.request status) h)

-- a climb, told of as another packet's
climbs_as : (irp : Irp) (higher higher' : List StackLocation) (number : ℕ) (cancelled : Bool) (status : NtStatus) (informed : ℕ)
    (payload : Payload) (climb : Climb)
    → above irp ≡ higher → higher' ≡ higher → irp.number ≡ number → irp.cancelled ≡ cancelled → irp.io_status.status ≡ status
    → irp.io_status.information ≡ informed → irp.payload ≡ payload
    → Climbs (above irp) irp.number irp.cancelled irp.io_status.status irp.io_status.information irp.payload climb
    → Climbs higher' number cancelled status informed payload climb
climbs_as irp higher higher' number cancelled status informed payload climb a b n c s i p h =
    subst (λ x. Climbs higher' number cancelled status informed x climb) p
    (subst (λ x. Climbs higher' number cancelled status x irp.payload climb) i
    (subst (λ x. Climbs higher' number cancelled x irp.io_status.information irp.payload climb) s
    (subst (λ x. Climbs higher' number x irp.io_status.status irp.io_status.information irp.payload climb) c
    (subst (λ x. Climbs higher' x irp.cancelled irp.io_status.status irp.io_status.information irp.payload climb) n
    (subst (λ x. Climbs x irp.number irp.cancelled irp.io_status.status irp.io_status.information irp.payload climb) (a ∙ sym b) h)))))

module _ (table : List Extent) (old new : DeviceView) (takes_srb : Bool) (k : IsOnDisk table old) (o : IsOrderly old) where
  abbrev over : Rules
  over = rules_over table old.rules

  -- the packet that ended is the partition driver's
  packet_back : (packet : Packet) (others : List Packet) → IsPermutation old.packets (packet ∷ others) → ComesBack packet
  packet_back packet others p = All-head ComesBack packet others (All-permutation ComesBack _ _ p k.packets)

  module _ (climb : Climb) (spot : ℕ) (h : HandsUp takes_srb old climb spot new) where
    -- what the request has moved
    abbrev informed : ℕ
    informed = information h.answer.answers.request.request h.answer.status

    -- it climbs from the layer below, and where it goes from the partition driver on
    abbrev ClimbsFrom : List StackLocation → Climb → Type 0
    ClimbsFrom above climb' = Climbs above h.answer.packet.number h.answer.answers.request.cancelled h.answer.status informed h.answer.payload climb'

    abbrev ClimbsUp : Climb → Type 0
    ClimbsUp climb' = ClimbsFrom (packet_above h.answer.packet).above climb'

    abbrev CameBackFrom : ComesBack h.answer.packet → Type 0
    CameBackFrom b = CameBack b.higher b.own h.answer.packet.number h.answer.answers.request.cancelled h.answer.status informed h.answer.payload climb

    came_back : (b : ComesBack h.answer.packet) × CameBackFrom b
    came_back =
        let b : ComesBack h.answer.packet = packet_back h.answer.packet h.left.others h.left.is_in in (
          b,
          comes_back b.higher b.own _ _ _ _ _ climb (b.always (succeeds h.answer.status) h.answer.answers.request.cancelled)
              (subst (λ above. ClimbsFrom above climb) b.is_last h.climbs),
        )

  -- so it is not finished below
  pub not_finished : (climb : Climb) (spot : ℕ) (irp : Box Irp) → climb ≡ Finished irp → HandsUp takes_srb old climb spot new → ⊥
  not_finished climb spot irp is h = no_routine is (came_back climb spot h).1.climb_is
    where
      no_routine : {driver : Driver} {other : Box Irp} → climb ≡ Finished irp → climb ≡ Routine driver other → ⊥
      no_routine e f = cc (e, f)

  -- what it notes is what it asks for, and what the layer below knows of it
  noted_request : (climb : Climb) (spot : ℕ) → (h : HandsUp takes_srb old climb spot new) → (b : ComesBack h.answer.packet)
      → LiesInside over old.packets h.answer.answers.request × (asked old.packets h.answer.answers.request.number ≡ noted_in b.own)
  noted_request climb spot h b =
      let all : All (LiesInside over old.packets) (h.answer.answers.request ∷ h.answer.answers.others) =
      All-permutation (LiesInside over old.packets) _ _ h.answer.answers.is_open k.requests in
      let there : Contains old.packets h.answer.packet =
      Contains-permutation _ _ h.answer.packet (IsPermutation-sym _ _ h.left.is_in) (0, omega arith, refl) in (
        All-head (LiesInside over old.packets) h.answer.answers.request h.answer.answers.others all,
        ap (λ n. asked old.packets n) h.answer.answers.is_number
            ∙ asked_at old.packets h.answer.packet (packets_distinct old o) there
            ∙ noted_at h.answer.packet.above b.higher b.own b.is_last,
      )

  -- the other packets note what they did
  others_alike : (packet : Packet) (others : List Packet) (request : OpenRequest) (requests : List OpenRequest)
      → IsPermutation old.packets (packet ∷ others) → request.number ≡ packet.number
      → IsPermutation old.state.requests (request ∷ requests) → AreNotedAlike old.packets others requests
  others_alike packet others request requests p e q = λ i d low. one (get_or requests i d) (Contains-get_or requests i d low)
    where
      one : (x : OpenRequest) → Contains requests x → asked old.packets x.number ≡ asked others x.number
      one x is_open =
          let before : IsDistinct eqb (map packet_number old.packets) = packets_distinct old o in
          let after : IsDistinct eqb (map packet_number (packet ∷ others)) =
          IsDistinct-IsPermutation eqb flips _ _ (IsPermutation-map packet_number _ _ p) before in
          let among : Contains old.state.requests x = Contains-permutation _ _ x (IsPermutation-sym _ _ q) (behind x is_open) in
          let there : Contains (map packet_number old.packets) x.number =
          Contains-permutation _ _ x.number (IsPermutation-sym _ _ o.packets) (Contains-map request_number old.state.requests x among) in
          let other : x.number ≢ request.number =
          All-contains (λ y. y.number ≢ request.number) requests x (differ_first old.state request requests o.distinct q) is_open in
          asked_same old.packets (packet ∷ others) x.number before after p there
          ∙ asked_behind packet others x.number (λ same. other (sym same ∙ sym e))
        where
          behind : (x : OpenRequest) → Contains requests x → Contains (request ∷ requests) x
          behind x (j, low, is) = (suc j, omega arith, is)

  -- where the layer below knows it as its request of the disk
  hands : (locations_below : ℕ) (wanted : Wanted) (r : Request) (climb climb' : Climb) (spot : ℕ)
      → IsKept locations_below table wanted old → IsOrderly new → (h : HandsUp takes_srb old climb spot new)
      → h.answer.request ≡ on_disk over r → IsBounded over r → wanted_at wanted spot ≡ Some r
      → asked old.packets h.answer.answers.request.number ≡ r → ClimbsUp climb spot h climb'
      → BringsRoutine h.answer.packet.cancel_routine climb'
      → HandsUp takes_srb (shown_of table wanted old) climb' spot (shown_of table wanted new) × IsKept locations_below table wanted new
  hands locations_below wanted r climb climb' spot kept o' h e bounded is_wanted notes climbs brings =
      let s : Stands old.rules table old.packets old.state = stands table old k o in
      let alike : AreNotedAlike old.packets h.left.others h.answer.answers.others =
      others_alike h.answer.packet h.left.others h.answer.answers.request h.answer.answers.others h.left.is_in h.answer.answers.is_number h.answer.answers.is_open in
      let a : _ × _ × Stands old.rules table h.left.others h.answer.answered =
      Answers-over old.rules table old.packets old.state h.answer.packet.number h.answer.status h.answer.bytes h.answer.answered h.left.others s h.answer.answers alike in
      let others_back : All ComesBack h.left.others = All-tail ComesBack h.answer.packet h.left.others (All-permutation ComesBack _ _ h.left.is_in k.packets) in
      let from : DeviceView = record old { state = h.answer.answered; packets = h.left.others; rooms = new.rooms } in
      let m : MovesOn table from new h.left.starts = moves_on table from new h.left.starts a.2 others_back h.left.moves (numbered new o') in
      let below : Reserved = record { request = h.answer.request; whole = h.left.whole } in
      let room : SetsRoom (rooms_with wanted old.rooms) spot None (Some (record { request = r; whole = h.left.whole })) (rooms_with wanted new.rooms) =
      subst (λ (x : Option Reserved). SetsRoom (rooms_with wanted old.rooms) spot None x (rooms_with wanted new.rooms))
      (ap (λ (w : Option Request). for_wanted (Some below) w) is_wanted)
      (rooms_set wanted old.rooms new.rooms spot None (Some below) h.left.room) in
      let moves : Moves (record (shown_of table wanted old) {
        state = on_partitions over h.left.others h.answer.answered;
        packets = map packet_above h.left.others;
        rooms = rooms_with wanted new.rooms;
      }) h.left.starts (shown_of table wanted new) = record {
        same_rules = m.moves.same_rules;
        same_packets = m.moves.same_packets;
        same_rooms = λ k. refl;
        same_submitted = m.moves.same_submitted;
        same_most = m.moves.same_most;
        same_places = ap (λ n. n + wanted.places) m.moves.same_places;
        run = m.moves.run;
        adapter = m.moves.adapter;
      } in
      let goes : GoesOn table old new = record { on_disk = m.goes.on_disk; same_rules = m.goes.same_rules } in
      let noted : All (IsNotedAt wanted) h.left.others =
      All-tail (IsNotedAt wanted) h.answer.packet h.left.others (All-permutation (IsNotedAt wanted) _ _ h.left.is_in kept.noted) in (
        record {
          answer = record {
            packet = packet_above h.answer.packet;
            is_spot = h.answer.is_spot;
            request = r;
            payload = h.answer.payload;
            status = h.answer.status;
            bytes = h.answer.bytes;
            answered = on_partitions over h.left.others h.answer.answered;
            answers = a.0;
            is_request = ap (λ (x : OpenRequest). x.request) a.1
                ∙ ap (λ q. called over (asked old.packets h.answer.answers.request.number) q)
                (h.answer.is_request ∙ ap (λ (q : Request). as_client old.rules q (sent_bytes q.kind h.answer.payload)) e)
                ∙ ap (λ q. called over q (as_client over r (sent_bytes r.kind h.answer.payload))) notes;
          };
          brought = record {
            moved = λ success.
                ap (λ (x : OpenRequest). x.marks) a.1 ∙ h.brought.moved success ∙ ap (λ (q : Request). map Done (sectors_moved old.rules q h.answer.payload)) e;
            busy = λ one back. h.brought.busy one (subst (λ (x : OpenRequest). All IsBack x.marks) a.1 back);
            carries = λ busy.
                carries_up old.rules table s.some_bytes s.whole takes_srb r h.answer.payload
                (subst (λ (q : Request). Carries takes_srb old.rules q h.answer.payload) e (h.brought.carries busy));
            brings = subst (λ (q : Request). q.kind ≡ Read → h.answer.status ≡ Success → payload_bytes h.answer.payload ≡ h.answer.bytes) e h.brought.brings;
            filled = subst (λ (q : Request). q.kind ≡ Read → h.answer.status ≡ Success → length h.answer.bytes ≡ q.extent.count * old.rules.sector_size) e h.brought.filled;
            empty = subst (λ (q : Request). q.kind ≡ Flush → payload_bytes h.answer.payload ≡ []) e h.brought.empty;
          };
          left = record {
            whole = h.left.whole;
            is_whole = h.left.is_whole;
            room = room;
            others = map packet_above h.left.others;
            is_in = IsPermutation-map packet_above _ _ h.left.is_in;
            starts = h.left.starts;
            only_starts = h.left.only_starts;
            moves = moves;
            started_stay =
                each old.rules table h.left.others (StaysIfStarted new.state) (StaysIfStarted (view_of table new).state)
                (λ x stays started. open_still table from new h.left.moves.same_rules h.left.moves.same_packets (numbered new o') x (stays started))
                h.answer.answered.requests h.left.started_stay;
            still = h.left.still;
          };
          climbs =
              climbs_too over old.packets h.answer.answers.request a.0.request (packet_above h.answer.packet).above h.answer.packet.number h.answer.status h.answer.payload
              climb' a.1 climbs;
          brings_routine = brings;
        },
        kept_with locations_below table wanted wanted old new kept goes o'
            (rooms_more over wanted wanted old.rooms new.rooms spot below h.left.room (λ other away. refl) r is_wanted bounded e kept.rooms)
            (All-permutation (IsNotedAt wanted) _ _ (IsPermutation-sym _ _ h.left.moves.same_packets) noted),
      )

  pub handed_up : (locations_below : ℕ) (wanted : Wanted) (climb : Climb) (driver : Driver) (irp : Box Irp) (climb' : Climb)
      (spot : ℕ) → IsKept locations_below table wanted old → climb ≡ Routine driver irp
      → IsOrderly new → HandsUp takes_srb old climb spot new
      → Climbs (above irp.value) irp.value.number irp.value.cancelled irp.value.io_status.status irp.value.io_status.information irp.value.payload climb'
      → BringsRoutine (cancel_routine_of irp.value) climb'
      → HandsUp takes_srb (shown_of table wanted old) climb' spot (shown_of table wanted new) × IsKept locations_below table wanted new
  handed_up locations_below wanted climb driver irp climb' spot kept is o' h climbs brings =
      let s : Stands old.rules table old.packets old.state = stands table old k o in
      let c : (b : ComesBack h.answer.packet) × CameBackFrom climb spot h b = came_back climb spot h in
      let r : Request = noted_in c.0.own in
      let same : c.1.irp ≡ irp = same_irp driver c.0.own.driver irp c.1.irp (sym is ∙ c.1.climb_is) in
      let has : HasOwn irp.value c.0.higher c.0.own = subst (λ (p : Box Irp). HasOwn p.value c.0.higher c.0.own) same c.1.has_own in
      let n : LiesInside over old.packets h.answer.answers.request × (asked old.packets h.answer.answers.request.number ≡ r) =
      noted_request climb spot h c.0 in
      let is_below : h.answer.request ≡ on_disk over r =
      same_client old.rules h.answer.request (on_disk over r) _ _ s.some_bytes
      (sym h.answer.is_request ∙ n.0.is_asked ∙ ap (λ q. as_client over (on_disk over q) h.answer.answers.request.request.bytes) n.1) in
      let first : IsNotedAt wanted h.answer.packet = All-head (IsNotedAt wanted) h.answer.packet h.left.others (All-permutation (IsNotedAt wanted) _ _ h.left.is_in kept.noted) in
      let is_wanted : wanted_at wanted spot ≡ Some r =
      ap (wanted_at wanted) (sym h.answer.is_spot) ∙ first ∙ ap (λ (q : Request). Some q) (noted_at h.answer.packet.above c.0.higher c.0.own c.0.is_last) in
      let up_climbs : ClimbsUp climb spot h climb' =
      climbs_as irp.value c.0.higher (packet_above h.answer.packet).above h.answer.packet.number h.answer.answers.request.cancelled h.answer.status (informed climb spot h)
      h.answer.payload climb'
      (above_is irp.value c.0.higher c.0.own has)
      (ap (λ (xs : List StackLocation). take (length xs - 1) xs) c.0.is_last ∙ front_is c.0.higher c.0.own)
      (ap (λ (p : Box Irp). p.value.number) (sym same) ∙ c.1.number_is)
      (ap (λ (p : Box Irp). p.value.cancelled) (sym same) ∙ c.1.cancelled_is)
      (ap (λ (p : Box Irp). p.value.io_status.status) (sym same) ∙ c.1.status_is)
      (ap (λ (p : Box Irp). p.value.io_status.information) (sym same) ∙ c.1.information_is)
      (ap (λ (p : Box Irp). p.value.payload) (sym same) ∙ c.1.payload_is) climbs in
      let up_brings : BringsRoutine h.answer.packet.cancel_routine climb' =
      subst (λ q. BringsRoutine q climb') (brings_of climb driver irp h.answer.packet.cancel_routine is h.brings_routine) brings in
      hands locations_below wanted r climb climb' spot kept o' h is_below (subst (λ q. IsBounded over q) n.1 n.0.bounded) is_wanted n.1 up_climbs up_brings
    where
      same_irp : (d d' : Driver) (p p' : Box Irp) → Routine d p ≡ Routine d' p' → p' ≡ p
      same_irp d d' p p' e = cc (e)

      brings_of : (climb : Climb) (driver : Driver) (irp : Box Irp) (routine : Option CancelRoutine) → climb ≡ Routine driver irp
          → BringsRoutine routine climb → cancel_routine_of irp.value ≡ routine
      brings_of climb driver irp routine is h = subst (λ x. BringsRoutine routine x) is h
