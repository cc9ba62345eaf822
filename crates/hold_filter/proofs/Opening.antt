-- A filter to which nothing was submitted yet is in order.
use Rattle.hold_filter.proofs.Common.{◌+◌, ◌≡◌, ◌<◌, ◌≤◌, ◌^◌, inl, ℕ, false, List, [], ◌++◌, refl, sym, subst, ap, ◌∙◌, arith, map, length, All, All-nil, State, opening, AreDistinct, framed, Holds, AreDistinct-opening, Holds-opening, DeviceView, Packet, IsOrderly, IsFreshBelow, opening_over, TableView, empty, frame_of, packet_below, view_of, IsFrom, IsPassed, IsCancelled, IsWhole, IsAsked, IsAtOwn, HasRoom, HasPlace, AsksAdmitted, EntryCanGo, IsInHand}
use Rattle.hold_filter.proofs.Moving.{in_hand}
use Rattle.hold_filter.proofs.Rooms.{none_some}

module _ (stack_size : ℕ) (v : DeviceView) (window : ℕ) (location : 0 < stack_size) (some : 0 < window)
    (h : IsFreshBelow v) (ordered : IsOrderly v) (fits : v.most < 2 ^ 128) where
  abbrev b : TableView
  b = empty window

  -- what holds at the machine's opening
  at_opening : (P : State → Type 0) → P (opening v.state.arrays) → P v.state
  at_opening P p = subst P (sym h.state) p

  pub hand_opening : IsInHand stack_size v (empty window)
  hand_opening =
      in_hand stack_size v b (record {
        below = record { own_location = location; no_window = h.no_window; most = fits };
        ordered = ordered;
        rooms = record {
          bounded = λ spot r is. absurd (none_some r (sym (h.rooms spot) ∙ is));
          covered = λ spot r is. absurd (none_some r (sym (h.rooms spot) ∙ is));
          taken = subst (All (HasPlace b.places)) (sym h.packets) (All-nil (HasPlace b.places));
          reserved = All-nil (HasRoom v.rooms);
          apart = (AreDistinct-opening []).requests;
          held_own = All-nil IsAtOwn;
          ended_own = All-nil IsAtOwn;
        };
        asked = All-nil (IsAsked v.rules);
        asked_below = at_opening (λ s. All (AsksAdmitted v.rules) s.requests) (All-nil (AsksAdmitted v.rules));
        can_go = All-nil (EntryCanGo stack_size v.rules);
        cancelled = All-nil IsCancelled;
        whole = All-nil (IsWhole v.rules);
        in_turn = tt;
        holds = at_opening (λ s. Holds window (frame_of v.rules b) s)
            (Holds-opening window (frame_of v.rules b) v.state.arrays);
        distinct = at_opening (λ s. AreDistinct (framed (frame_of v.rules b) s))
            (AreDistinct-opening v.state.arrays);
        counted = sym (ap (λ (ps : List Packet). length ps) h.packets);
        passed = subst (All IsPassed) (sym h.packets) (All-nil IsPassed);
        next_below = at_opening (λ s. s.next_request ≤ 1) (omega arith);
        later = All-nil (IsFrom v.state.next_request);
        some_window = some;
        removing = at_opening (λ s. false ≡ s.removing) refl;
        going = λ removing. cc (removing);
        full = λ going staying. inl refl;
        submitted = let n = h.submitted in omega arith;
        few = omega arith;
      }) (λ going staying. inl refl)

  state_is : framed (frame_of v.rules b) v.state ≡ v.state
  state_is = at_opening (λ s. framed (frame_of v.rules b) s ≡ s) refl

  packets_is : map packet_below v.packets ++ [] ≡ v.packets
  packets_is = subst (λ (ps : List Packet). map packet_below ps ++ [] ≡ ps) (sym h.packets) refl

  -- what is shown
  pub opening_is : view_of v (empty window) ≡ opening_over window v
  opening_is =
      ap (λ (s : State). record (view_of v b) { state = s }) state_is
      ∙ ap (λ (ps : List Packet). record (view_of v b) { state = v.state; packets = ps }) packets_is
      ∙ ap (λ (n : ℕ). record (view_of v b) { state = v.state; packets = v.packets; submitted = n })
      (sym h.submitted)
      ∙ ap (λ (n : ℕ). record (opening_over window v) { places = n })
      (let none : v.places + (0 + 0) ≡ v.places = omega arith in none)
