-- A packet comes back from below, and climbs past the filter.
use Rattle.hold_filter.proofs.Common.{◌≡◌, ◌<◌, ◌≤◌, inl, ℕ, ◌+◌, ◌-◌, Bool, false, List, [], ◌∷◌, ◌++◌, Some, None, refl, sym, subst, ap, ◌∙◌, arith, map, length, Option, All, IsPermutation, IsFalse, map-append, All-head, All-tail, All-weaker, All-append, All-contains, Contains-append_left, IsPermutation-sym, IsPermutation-trans, IsPermutation-map, IsPermutation-append_left, All-permutation, length_permutation, AdapterView, moves_joined, StackLocation, ClientRequest, Answer, as_client, OpenRequest, State, IsStart, Answers, information, Run, as_label, AreDistinct, Frame, framed, with_window, Holds, Run-append, AreDistinct-Step, AreDistinct-Run, Run-framed, Answers-framed, Holds-Run, Holds-Answers, AllMayPass-above, Climb, Climbs, DeviceView, Packet, Reserved, sent_bytes, IsOrderly, HandsUp, IsBack, StaysOpen, StaysIfStarted, SetsRoom, TableView, here, IsCovered, HandsNone, silent, but_last, packets_of, packet_below, packet_here, without, requests_here, frame_of, state_of, view_of, Releases, Spares, IsFrom, IsPassed, IsAdmitted, AsksAdmitted, HasPlace, RoomsKept, FilterKept}
use Rattle.hold_filter.proofs.Locations.{but_pushed, climbs_past}
use Rattle.hold_filter.proofs.Sizing.{carries_window}
use Rattle.hold_filter.proofs.Moving.{moved_to, moved_is, run_keeps, run_asks}
use Rattle.hold_filter.proofs.Ending.{answered_is}
use Rattle.hold_filter.proofs.Rooms.{sets_beside, sets_same, rooms_refl}
use Rattle.hold_filter.proofs.Spots.{kept_more, off_all}
use Rattle.hold_filter.proofs.Staying.{here_not_started}

module _ (stack_size : ℕ) (v : DeviceView) (b : TableView) (spot : ℕ) (climb : Climb) (s : State)
    (packets : List Packet)
    (rooms : List (Option Reserved)) (adapter : AdapterView)
    (h : HandsUp false v climb spot (moved_to v s packets rooms adapter))
    (ordered : IsOrderly (moved_to v s packets rooms adapter)) (none_ended : b.ended ≡ [])
    (k : FilterKept stack_size v b) where
  -- the books after it
  abbrev pub books_returned : TableView
  books_returned = record b { below = b.below - 1 }

  abbrev frame : Frame
  frame = frame_of v.rules b

  -- THE MACHINE

  holds_answered : Holds b.window frame h.answer.answered
  holds_answered = Holds-Answers b.window frame v.rules v.state h.answer.packet.number h.answer.status h.answer.bytes h.answer.answered k.holds
      h.answer.answers

  pub answers_shown : Answers (with_window (Some b.window) v.rules) (state_of v b) h.answer.packet.number h.answer.status h.answer.bytes
      (framed frame h.answer.answered)
  answers_shown = Answers-framed frame (Some b.window) v.rules v.state h.answer.packet.number h.answer.status h.answer.bytes h.answer.answered
      h.answer.answers

  -- it answers the request that was answered below
  pub same_request : answers_shown.request ≡ h.answer.answers.request
  same_request =
      answered_is (with_window (Some b.window) v.rules) (state_of v b) h.answer.packet.number h.answer.status h.answer.bytes
      (framed frame h.answer.answered) answers_shown h.answer.answers.request (h.answer.answers.others ++ frame.held) k.distinct
      (IsPermutation-append_left frame.held _ _ h.answer.answers.is_open) h.answer.answers.is_number

  distinct_answered : AreDistinct (framed frame h.answer.answered)
  distinct_answered =
      AreDistinct-Step (with_window (Some b.window) v.rules) (state_of v b)
      (Answer h.answer.packet.number h.answer.status (information answers_shown.request.request h.answer.status) h.answer.bytes)
      (framed frame h.answer.answered) k.distinct
      (inl (k.ordered.none_owed, record { answers = answers_shown; informs = refl }))

  pub run_shown : Run (with_window (Some b.window) v.rules) (framed frame h.answer.answered) (map as_label h.left.starts)
      (framed frame s)
  run_shown = Run-framed frame (Some b.window) v.rules h.answer.answered h.left.starts s
      (AllMayPass-above b.window frame h.answer.answered holds_answered) h.left.moves.run

  asked_answered : All (AsksAdmitted v.rules) (h.answer.answers.request ∷ h.answer.answers.others)
  asked_answered = All-permutation (AsksAdmitted v.rules) _ _ h.answer.answers.is_open k.asked_below

  is_admitted : IsAdmitted v.rules (as_client v.rules h.answer.request [])
  is_admitted =
      let asked : IsAdmitted v.rules h.answer.answers.request.request =
      All-head (AsksAdmitted v.rules) h.answer.answers.request h.answer.answers.others asked_answered in
      let same : IsAdmitted v.rules (as_client v.rules h.answer.request (sent_bytes h.answer.request.kind h.answer.payload)) =
      subst (λ (q : ClientRequest). IsAdmitted v.rules q) h.answer.is_request asked in
      record { known = same.known; inside = same.inside; some = same.some; places = same.places }

  -- ROOMS

  abbrev came_back : Reserved
  came_back = record { request = h.answer.request; whole = h.left.whole }

  taken_below : All (HasPlace b.places) (h.answer.packet ∷ h.left.others)
  taken_below = All-permutation (HasPlace b.places) _ _ h.left.is_in k.rooms.taken

  rooms_now : RoomsKept v.rules rooms packets b.held b.ended b.places
  rooms_now =
      let place : IsCovered b.places h.answer.packet.spot = All-head (HasPlace b.places) h.answer.packet h.left.others taken_below in
      let taken : All (HasPlace b.places) packets =
      All-permutation (HasPlace b.places) _ _ (IsPermutation-sym _ _ h.left.moves.same_packets)
      (All-tail (HasPlace b.places) h.answer.packet h.left.others taken_below) in
      kept_more v.rules v.rooms v.packets b.held b.ended b.places k.rooms rooms packets spot came_back h.left.room taken
      is_admitted (subst (IsCovered b.places) h.answer.is_spot place)

  room_shown : SetsRoom (without v.rooms (here b)) spot None (Some came_back) (without rooms (here b))
  room_shown = sets_beside v.rooms rooms (here b) spot None (Some came_back)
      (off_all v.rooms spot (here b) k.rooms.reserved h.left.room.was) h.left.room

  -- KEPT

  pub kept_returned : FilterKept stack_size (moved_to v s packets rooms adapter) books_returned
  kept_returned =
      let keeps = run_keeps v.rules h.left.starts h.answer.answered s h.left.moves.run in
      let next : s.next_request ≡ v.state.next_request = keeps.next_request ∙ h.answer.answers.after.next_request in
      let m : length h.left.others ≡ length packets = length_permutation _ _ h.left.moves.same_packets in
      let n : length (h.answer.packet ∷ h.left.others) ≡ length v.packets = length_permutation _ _ h.left.is_in in
      record {
        below = record { own_location = k.below.own_location; no_window = k.below.no_window; most = k.below.most };
        ordered = ordered;
        rooms = rooms_now;
        asked = k.asked;
        asked_below = run_asks (IsAdmitted v.rules) v.rules h.left.starts h.answer.answered s
            (All-permutation (AsksAdmitted v.rules) _ _ (IsPermutation-sym _ _ h.answer.answers.after.requests)
            (All-tail (AsksAdmitted v.rules) h.answer.answers.request h.answer.answers.others asked_answered)) h.left.moves.run;
        can_go = k.can_go;
        cancelled = k.cancelled;
        whole = k.whole;
        in_turn = k.in_turn;
        holds = Holds-Run b.window frame v.rules h.answer.answered h.left.starts s holds_answered h.left.moves.run;
        distinct = AreDistinct-Run (with_window (Some b.window) v.rules) (framed frame h.answer.answered)
            (map as_label h.left.starts) (framed frame s) distinct_answered run_shown;
        counted = let c = k.counted in omega arith;
        passed = All-permutation IsPassed _ _ (IsPermutation-sym _ _ h.left.moves.same_packets)
            (All-tail IsPassed h.answer.packet h.left.others (All-permutation IsPassed _ _ h.left.is_in k.passed));
        next_below = subst (λ n. n ≤ b.last_number + 1) (sym next) k.next_below;
        later = subst (λ n. All (IsFrom n) b.held) (sym next) k.later;
        some_window = k.some_window;
        removing = k.removing ∙ sym h.answer.answers.after.removing ∙ sym keeps.removing;
        going = k.going;
        full = λ going staying. inl none_ended;
        submitted = k.submitted;
        few = k.few;
      }

  -- THE PACKET ON ITS WAY

  abbrev others_shown : List Packet
  others_shown = map packet_below h.left.others ++ map packet_here (here b)

  packets_shown : IsPermutation (packets_of (moved_to v s packets rooms adapter) books_returned) others_shown
  packets_shown = IsPermutation-append_left (map packet_here (here b)) _ _
      (IsPermutation-map packet_below _ _ h.left.moves.same_packets)

  climbs_on : Climbs (but_last h.answer.packet.above) h.answer.packet.number h.answer.answers.request.cancelled h.answer.status
      (information h.answer.answers.request.request h.answer.status) h.answer.payload climb
  climbs_on =
      let passed : IsPassed h.answer.packet =
      All-head IsPassed h.answer.packet h.left.others (All-permutation IsPassed _ _ h.left.is_in k.passed) in
      let past : Climbs passed.0 h.answer.packet.number h.answer.answers.request.cancelled h.answer.status
      (information h.answer.answers.request.request h.answer.status) h.answer.payload climb =
      climbs_past passed.0 passed.1 h.answer.packet.number h.answer.answers.request.cancelled h.answer.status
      (information h.answer.answers.request.request h.answer.status) h.answer.payload climb
      (subst (λ (ls : List StackLocation). Climbs ls h.answer.packet.number h.answer.answers.request.cancelled h.answer.status
      (information h.answer.answers.request.request h.answer.status) h.answer.payload climb) passed.2 h.climbs) in
      subst (λ (ls : List StackLocation). Climbs ls h.answer.packet.number h.answer.answers.request.cancelled h.answer.status
      (information h.answer.answers.request.request h.answer.status) h.answer.payload climb)
      (sym (ap but_last passed.2 ∙ but_pushed passed.0 (silent passed.1))) past

  -- what was started stays
  stay : (v' : DeviceView) (b' : TableView) → Spares (moved_to v s packets rooms adapter) books_returned v' b'
      → All (StaysIfStarted (state_of v' b')) (h.answer.answered.requests ++ requests_here v.rules b)
  stay v' b' spares =
      All-append (StaysIfStarted (state_of v' b')) h.answer.answered.requests (requests_here v.rules b)
      (All-weaker (StaysIfStarted s) (StaysIfStarted (state_of v' b'))
      (λ o stays started. Contains-append_left v'.state.requests (requests_here v'.rules b') o
      (All-contains (StaysOpen v'.state) s.requests o spares.below (stays started))) h.answer.answered.requests
      h.left.started_stay)
      (here_not_started v.rules b (state_of v' b'))

  pub hands_up : (v' : DeviceView) (b' : TableView) → Spares (moved_to v s packets rooms adapter) books_returned v' b'
      → Releases (view_of (moved_to v s packets rooms adapter) books_returned) (view_of v' b')
      → HandsUp false (view_of v b) climb spot (view_of v' b')
  hands_up v' b' spares r =
      let e : answers_shown.request ≡ h.answer.answers.request = same_request in
      record {
        answer = record {
          packet = packet_below h.answer.packet;
          is_spot = h.answer.is_spot;
          request = h.answer.request;
          payload = h.answer.payload;
          status = h.answer.status;
          bytes = h.answer.bytes;
          answered = framed frame h.answer.answered;
          answers = answers_shown;
          is_request = ap (λ (o : OpenRequest). o.request) e ∙ h.answer.is_request;
        };
        brought = record {
          moved = λ is. ap (λ (o : OpenRequest). o.marks) e ∙ h.brought.moved is;
          busy = λ one all. h.brought.busy one (subst (λ (o : OpenRequest). All IsBack o.marks) e all);
          carries = λ is. carries_window v.rules (Some b.window) h.answer.request h.answer.payload (h.brought.carries is);
          brings = h.brought.brings;
          filled = h.brought.filled;
          empty = h.brought.empty;
        };
        left = record {
          whole = h.left.whole;
          is_whole = h.left.is_whole;
          room = sets_same _ _ _ _ spot None _ (rooms_refl (without v.rooms (here b))) r.moves.same_rooms room_shown;
          others = others_shown;
          is_in = IsPermutation-append_left (map packet_here (here b)) _ _
              (IsPermutation-map packet_below _ _ h.left.is_in);
          starts = h.left.starts ++ r.starts;
          only_starts = All-append IsStart h.left.starts r.starts h.left.only_starts r.only_starts;
          moves = record {
            same_rules = r.moves.same_rules;
            same_packets = IsPermutation-trans _ _ _ r.moves.same_packets packets_shown;
            same_rooms = rooms_refl (without v'.rooms (here b'));
            same_submitted = r.moves.same_submitted;
            same_most = r.moves.same_most;
            same_places = r.moves.same_places;
            run = subst (λ ls. Run (with_window (Some b.window) v.rules) (framed frame h.answer.answered) ls
                (state_of v' b'))
                (sym (map-append as_label h.left.starts r.starts))
                (Run-append (with_window (Some b.window) v.rules) (framed frame h.answer.answered) (map as_label h.left.starts)
                (framed frame s) (map as_label r.starts) _ run_shown r.moves.run);
            adapter = moves_joined v.adapter h.left.starts adapter r.starts v'.adapter h.left.moves.adapter r.moves.adapter;
          };
          started_stay = stay v' b' spares;
          still = λ window. absurd (cc (window));
        };
        climbs = subst (λ (o : OpenRequest). Climbs (but_last h.answer.packet.above) h.answer.packet.number o.cancelled h.answer.status
            (information o.request h.answer.status) h.answer.payload climb) (sym e) climbs_on;
        brings_routine = h.brings_routine;
      }

-- AS THE CALLS SAY IT

module _ (takes_srb : Bool) (buffers : IsFalse takes_srb) (stack_size : ℕ) (v : DeviceView) (b : TableView) (spot : ℕ)
    (climb : Climb) (v1 : DeviceView)
    (h : HandsUp takes_srb v climb spot v1) (b0 : TableView) (none : HandsNone b b0) (k : FilterKept stack_size v b)
  where
    -- the packet was below
    pub some_below : 0 < b0.below
    some_below =
        let n : length v.packets ≡ length h.left.others + 1 = length_permutation _ _ (IsPermutation-sym _ _ h.left.is_in)
        ∙ (omega arith) in
        let c = k.counted in
        subst (λ (x : TableView). 0 < x.below) (sym none.same) (omega arith)

    module _ (ordered : IsOrderly v1) (b1 : TableView) (notes : b1 ≡ record b0 { below = b0.below - 1 }) where
      -- the books and the view after it
      noted : b1 ≡ record b { below = b.below - 1 }
      noted = notes ∙ ap (λ (x : TableView). record x { below = x.below - 1 }) none.same

      view_now : v1 ≡ moved_to v v1.state v1.packets v1.rooms v1.adapter
      view_now = moved_is v v1 h.left.moves.same_rules h.left.moves.same_submitted h.left.moves.same_most
          h.left.moves.same_places

      up_now : HandsUp false v climb spot (moved_to v v1.state v1.packets v1.rooms v1.adapter)
      up_now = subst (λ (x : DeviceView). HandsUp false v climb spot x) view_now
          (subst (λ t. HandsUp t v climb spot v1) buffers h)

      ordered_now : IsOrderly (moved_to v v1.state v1.packets v1.rooms v1.adapter)
      ordered_now = subst IsOrderly view_now ordered

      pub kept_back : FilterKept stack_size v1 b1
      kept_back =
          subst (λ (x : DeviceView). FilterKept stack_size x b1) (sym view_now)
          (subst (λ (y : TableView). FilterKept stack_size (moved_to v v1.state v1.packets v1.rooms v1.adapter) y)
          (sym noted)
          (kept_returned stack_size v b spot climb v1.state v1.packets v1.rooms v1.adapter up_now ordered_now
          none.none_ended k))

      pub hands_back : (v' : DeviceView) (b' : TableView) → Spares v1 b1 v' b'
          → Releases (view_of v1 b1) (view_of v' b')
          → HandsUp false (view_of v b) climb spot (view_of v' b')
      hands_back v' b' spares r =
          let s1 : Spares (moved_to v v1.state v1.packets v1.rooms v1.adapter) b1 v' b' =
          subst (λ (x : DeviceView). Spares x b1 v' b') view_now spares in
          let s2 : Spares (moved_to v v1.state v1.packets v1.rooms v1.adapter) (record b { below = b.below - 1 }) v'
          b' =
          subst (λ (y : TableView). Spares (moved_to v v1.state v1.packets v1.rooms v1.adapter) y v' b') noted s1 in
          let r1 : Releases (view_of (moved_to v v1.state v1.packets v1.rooms v1.adapter) b1) (view_of v' b') =
          subst (λ (x : DeviceView). Releases (view_of x b1) (view_of v' b')) view_now r in
          let r2 : Releases (view_of (moved_to v v1.state v1.packets v1.rooms v1.adapter)
          (record b { below = b.below - 1 })) (view_of v' b') =
          subst (λ (y : TableView). Releases (view_of (moved_to v v1.state v1.packets v1.rooms v1.adapter) y)
          (view_of v' b'))
          noted r1 in
          hands_up stack_size v b spot climb v1.state v1.packets v1.rooms v1.adapter up_now ordered_now
          none.none_ended k
          v' b' s2 r2
