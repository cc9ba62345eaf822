-- A removal: the class driver's own flag, and the removal of the layer below.
use Rattle.class_disk.proofs.Common.{◌+◌, room_in_all, ◌≡◌, ◌≤◌, true, false, [], refl, sym, ◌∙◌, ap, subst, arith, map, IsPermutation-refl, IsPermutation-sym, All-permutation, All-weaker, Rules, State, IsSame, AreCounted, IsCounted, held_back, IsSame-refl, IsSame-sym, IsSame-trans, AreDistinct-same, DeviceView, IsOrderly, IsTopmost, room_at, DrainsAll, Unsent, Joint, above, below, IsSound, Keeps, NeverSent, EndedAre, IsOver, noted_busy, class_rules, TableView, all_open, knowns, view_of, packet_above, AreAsked, AreSpotted, AreBelow, IsInHand, HaveCauses, note, tickets, most_over, AllOut, IsTaking, IsMidway, TakesAll}
use Rattle.std.specs.Prelude.{IsPermutation, if◌then◌else◌}
use Rattle.class_disk.proofs.Rooms.{out_same}
use Rattle.class_disk.proofs.Standing.{IsApart}
use Rattle.class_disk.proofs.CoupledRun.{sound_same}
use Rattle.class_disk.proofs.Acting.{asked_still, spotted_still, shows}
use Rattle.class_disk.proofs.Ending.{ends_unsent, unsent_drains, never_sent}
use Rattle.class_disk.proofs.Causes.{causes_more}
use Rattle.class_disk.proofs.Withdrawn.{StandsAgain, stands_again, same_adapter, over_more}
use Rattle.class_disk.proofs.PortRules.{port_rules}

-- a removal leaves no turns
keeps_removed : (rules : Rules) (j : Joint) → Keeps rules j → Keeps rules (record j { removing = true })
keeps_removed rules j k = record {
  made_up = k.made_up;
  agree = k.agree;
  in_turn = λ i e low. λ n number low'. λ m x low''. λ staying lower timely. absurd (cc (staying));
  in_pieces = k.in_pieces;
}

-- a state but for its flags
abbrev removed_state : State → State
removed_state s = record s { paused = false; removing = true }

sound_removed : (s : State) → IsSound s → IsSound (removed_state s)
sound_removed s h = record {
  distinct = record { requests = h.distinct.requests; given = h.distinct.given; pieces = h.distinct.pieces; sent = h.distinct.sent };
  placed = record { pieces = h.placed.pieces; places = h.placed.places };
  earned = h.earned;
  whole = record { alike = h.whole.alike; whole = h.whole.whole };
}

module _ (v : DeviceView) (b : TableView) (h : IsInHand v b) (v1 : DeviceView) (d : DrainsAll v v1) (ordered1 : IsOrderly v1) where
  abbrev pub books_drained : TableView
  books_drained = record b { removing = true }

  abbrev pub joint_drained : Joint
  joint_drained = record h.coupled.j { removing = true }

  abbrev rules : Rules
  rules = class_rules v.rules

  same_requests : (if v.state.paused then v.state.requests else held_back v.rules.window v.state.requests) ≡ v.state.requests
  same_requests = subst (λ p. (if p then v.state.requests else held_back v.rules.window v.state.requests) ≡ v.state.requests) h.coupled.same.paused (ap (λ w. held_back w v.state.requests) h.port.no_window)

  same_state : IsSame (removed_state v.state) v1.state
  same_state = IsSame-sym _ _ (subst (λ os. IsSame v1.state (record v.state { paused = false; removing = true; requests = os })) same_requests d.drains)

  same_drained : IsSame (below joint_drained) v1.state
  same_drained =
      let s = h.coupled.same in
      IsSame-trans _ _ _ (record {
        arrays = s.arrays;
        next_request = s.next_request;
        next_piece = s.next_piece;
        requests = s.requests;
        pieces = s.pieces;
        owed = s.owed;
        paused = refl;
        removing = refl;
        removed = s.removed;
      }) same_state

  counted_drained : AreCounted v.rules v1.state
  counted_drained = All-permutation (IsCounted v.rules) _ _ same_state.requests h.counted

  taking : IsTaking rules (above joint_drained) [] v1.state (knowns rules books_drained)
  taking = record {
    j = joint_drained;
    same = same_drained;
    knows = h.coupled.knows;
    keeps = keeps_removed rules h.coupled.j h.coupled.keeps;
    sound = sound_same (removed_state v.state) v1.state same_state (sound_removed v.state h.sound);
    counted = subst (λ r. AreCounted r v1.state) (port_rules h.port) counted_drained;
    next_above = refl;
    run = IsSame-refl _;
  }

  unsent : EndedAre NeverSent v.rules v1.state
  unsent =
      let before = ends_unsent v.rules (h.port.first_busy) (h.port.one_piece) in
      never_sent v.rules v1.state (unsent_drains v v1 h.port.no_window (before v.state h.sound h.rooms_out.orderly.places h.unfinished) d)

  below_drained : AreBelow (record v1 { rules = v.rules }) books_drained
  below_drained =
      let next : v.state.next_request ≡ v1.state.next_request = same_state.next_request in
      let sent = d.beside.same_submitted in
      record {
        removing = same_state.removing;
        next_number = let a = h.below.next_number in omega arith;
        sent = let a = h.below.sent in omega arith;
        submitted = subst (λ n. b.submitted ≤ most_over n) (sym d.beside.same_most) h.below.submitted;
        asked = All-weaker (AreAsked rules v.state.requests) (AreAsked rules v1.state.requests) (asked_still rules v.state.requests v1.state.requests same_state.requests) (all_open b) h.below.asked;
        spotted = All-weaker (AreSpotted v.packets) (AreSpotted v1.packets) (spotted_still v.packets v1.packets (IsPermutation-sym _ _ d.beside.same_packets)) (all_open b) h.below.spotted;
        topmost = All-permutation IsTopmost _ _ (IsPermutation-sym _ _ d.beside.same_packets) h.below.topmost;
        some = h.below.some;
        over = All-weaker (IsOver 17 v.state.removing) (IsOver 17 v1.state.removing) (λ k was. over_more 17 v.state.removing v1.state.removing k k.cancelled (λ is. is) (λ is. sym same_state.removing) was) (knowns rules b) h.below.over;
      }

  pub midway_drained : IsMidway NeverSent (above joint_drained) [] v1 books_drained
  midway_drained =
      subst (λ (r : Rules). IsMidway NeverSent (above joint_drained) [] (record v1 { rules = r }) books_drained) (sym d.beside.same_rules) (record {
        port = h.port;
        taking = taking;
        rooms_out = subst (λ (r : Rules). AllOut (record v1 { rules = r }) (tickets books_drained)) d.beside.same_rules (out_same v v1 (tickets b) ordered1 d.beside.same_rooms h.rooms_out);
        kept = record {
          sizes = h.kept.sizes;
          in_hand = h.kept.in_hand;
          opens = h.kept.opens;
          ended = h.kept.ended;
          places = h.kept.places;
          causes = All-weaker (HaveCauses rules b.removing) (HaveCauses rules true)
              (λ e. causes_more e.1.irp.cancelled e.1.irp.cancelled b.removing true (noted_busy (map (note rules) e.1.parts)) (noted_busy (map (note rules) e.1.parts)) (λ is. is) (λ is. refl) (omega arith) e.1.parts) b.opens h.kept.causes;
          budget = h.kept.budget;
        };
        below = below_drained;
        ended = unsent;
      })

  -- ALL IS TAKEN
  module _ (v2 : DeviceView) (b2 : TableView) (w : TakesAll Unsent v1 books_drained v2 b2) (apart : IsApart b2) where
    stands : StandsAgain (above joint_drained) v2 b2
    stands =
        stands_again (above joint_drained) v1 books_drained v2 b2 midway_drained w apart
        (let k = AreDistinct-same (above h.coupled.j) (view_of v b).state (shows v b h) h.orderly.distinct in record { requests = k.requests; given = k.given; pieces = k.pieces; sent = k.sent })
        h.coupled.next_above

    pub hand_drained : IsInHand v2 b2
    hand_drained = stands.in_hand

    pub drains_above : DrainsAll (view_of v b) (view_of v2 b2)
    drains_above =
        let s = shows v b h in
        let drained : IsSame (above joint_drained) (record (view_of v b).state { paused = false; removing = true; requests = (view_of v b).state.requests }) =
        record { arrays = s.arrays; next_request = s.next_request; next_piece = s.next_piece; requests = s.requests; pieces = s.pieces; owed = s.owed; paused = refl; removing = refl; removed = s.removed } in
        let none : (if (view_of v b).state.paused then (view_of v b).state.requests else held_back v.rules.window (view_of v b).state.requests) ≡ (view_of v b).state.requests =
        ap (λ w. held_back w (view_of v b).state.requests) h.port.no_window in
        record {
          drains = IsSame-trans _ _ _ (IsSame-sym _ _ stands.shows)
              (subst (λ os. IsSame (above joint_drained) (record (view_of v b).state { paused = false; removing = true; requests = os })) (sym none) drained);
          beside = record {
            same_rules = ap class_rules (w.goes_on.same_rules ∙ d.beside.same_rules);
            same_packets = subst (λ ps. IsPermutation ps (map packet_above b.opens)) (sym w.goes_on.same_packets) (IsPermutation-refl _);
            same_rooms = λ spot. ap (λ rooms. room_at rooms spot) w.goes_on.same_rooms;
            same_submitted = w.goes_on.same_submitted;
            same_most = ap most_over (w.goes_on.same_most ∙ d.beside.same_most);
            same_places = w.goes_on.same_places ∙ ap (λ n. n + room_in_all b) d.beside.same_places;
            same_adapter = same_adapter v1 books_drained v2 b2 w ∙ d.beside.same_adapter;
          };
        }
