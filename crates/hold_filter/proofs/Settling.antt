-- Nothing has ended: the filter is settled.
use Rattle.hold_filter.proofs.Common.{◌≡◌, ◌<◌, ◌≤◌, ◌⊎◌, inl, inr, ℕ, zero, suc, Bool, true, false, [], ◌++◌, Some, refl, sym, subst, ap, ◌∙◌, arith, map, length, replicate, get_or, All, IsTrue, IsFalse, All-nil, All-head, All-map, All-append, All-same, All-weaker, Rules, Untouched, OpenRequest, State, HasEnded, with_window, IsLate, IsWaiting, HasReleased, DeviceView, HandsUpNone, AwaitsRestartIfEnded, AwaitsRestart, untouched_ends_not, Settled-framed, Held, TableView, packet_in, here, HandsNone, open_here, are_late, requests_here, frame_of, state_of, view_of, EntryCanGo, IsInHand}
use Rattle.hold_filter.proofs.Here.{waits, has_places}

-- what was never sent, is not cancelled and finds no removal has not ended
untouched_not_ended : (rules : Rules) (s : State) (o : OpenRequest) (n : ℕ) → IsFalse o.cancelled
    → IsFalse s.removing
    → 0 < length (replicate n Untouched) → All (HasEnded rules s o) (replicate n Untouched) → ⊥
untouched_not_ended rules s o zero timely staying some all = absurd (omega arith)
untouched_not_ended rules s o (suc n) timely staying some all =
    untouched_ends_not rules s o timely staying
    (All-head (HasEnded rules s o) Untouched (replicate n Untouched) all)

module _ (stack_size : ℕ) (v : DeviceView) (b : TableView) (k : IsInHand stack_size v b) (b0 : TableView)
    (none : HandsNone b b0) where
  abbrev open_as : Held → OpenRequest
  open_as x = open_here v.rules (are_late b) x

  -- all that are here are held
  here_held : (P : Held → Type 0) → All (λ e. P (packet_in e)) b.held → All P (here b)
  here_held P held = All-append P (map packet_in b.held) (map packet_in b.ended) (All-map P packet_in b.held held)
      (All-same P (map packet_in b.ended) [] (ap (λ es. map packet_in es) none.none_ended) (All-nil P))

  none_here : b.held ≡ [] → requests_here v.rules b ≡ []
  none_here is = ap (λ es. map open_as (map packet_in es ++ map packet_in b.ended)) is
      ∙ ap (λ es. map open_as (map packet_in es)) none.none_ended

  all_waiting : All IsWaiting (requests_here v.rules b)
  all_waiting = All-map IsWaiting open_as (here b)
      (here_held (λ x. IsWaiting (open_as x))
      (All-weaker (EntryCanGo stack_size v.rules) (λ e. IsWaiting (open_as (packet_in e)))
      (λ e goes. waits v.rules (are_late b) e.1 goes.not_cancelled) b.held k.kept.can_go))

  all_late : IsTrue b.paused → All IsLate (requests_here v.rules b)
  all_late paused = All-map IsLate open_as (here b) (λ i d low. rw paused refl)

  -- removing, none is held
  none_removing : IsTrue v.state.removing → requests_here v.rules b ≡ []
  none_removing removing = none_here (none.none_held (k.kept.removing ∙ removing))

  is_full : IsFalse b.paused → (requests_here v.rules b ≡ []) ⊎ (b.window ≤ length v.state.requests)
  is_full going = by b.removing refl
    where
      by : (removing : Bool) → b.removing ≡ removing
          → (requests_here v.rules b ≡ []) ⊎ (b.window ≤ length v.state.requests)
      by true is = inl (none_here (none.none_held is))
      by false is = elim (k.released going is) [ inl nothing ↦ inl (none_here nothing) | inr full ↦ inr full ]

  released : HasReleased b.window (frame_of v.rules b) v.state
  released = record { waiting = all_waiting; late = all_late; full = is_full; none_removing = none_removing }

  -- none of those here is cancelled
  timely : All (λ (x : Held). IsFalse x.irp.value.cancelled) (here b)
  timely = here_held (λ (x : Held). IsFalse x.irp.value.cancelled)
      (All-weaker (EntryCanGo stack_size v.rules) (λ (e : ℕ × Held). IsFalse e.1.irp.value.cancelled)
      (λ e goes. goes.not_cancelled) b.held k.kept.can_go)

  -- nor has ended
  unfinished_here : All (AwaitsRestartIfEnded (with_window (Some b.window) v.rules) (state_of v b))
      (requests_here v.rules b)
  unfinished_here = by b.removing refl
    where
      by : (removing : Bool) → b.removing ≡ removing
          → All (AwaitsRestartIfEnded (with_window (Some b.window) v.rules) (state_of v b)) (requests_here v.rules b)
      by true is =
          All-same (AwaitsRestartIfEnded (with_window (Some b.window) v.rules) (state_of v b)) (requests_here v.rules b) []
          (none_here (none.none_held is))
          (All-nil (AwaitsRestartIfEnded (with_window (Some b.window) v.rules) (state_of v b)))
      by false is =
          All-map (AwaitsRestartIfEnded (with_window (Some b.window) v.rules) (state_of v b)) open_as (here b)
          (λ i d low ended. absurd
          (untouched_not_ended (with_window (Some b.window) v.rules) (state_of v b) (open_as (get_or (here b) i d))
          _
          (timely i d low) (sym k.kept.removing ∙ is)
          (has_places v.rules (are_late b) (get_or (here b) i d) (k.kept.asked i d low)) ended))

  unfinished_below : All (AwaitsRestartIfEnded v.rules v.state) v.state.requests
      → All (AwaitsRestartIfEnded (with_window (Some b.window) v.rules) (state_of v b)) v.state.requests
  unfinished_below all =
      All-weaker (AwaitsRestartIfEnded v.rules v.state) (AwaitsRestartIfEnded (with_window (Some b.window) v.rules) (state_of v b))
      (λ o unfinished ended. let a : AwaitsRestart v.rules v.state o = unfinished ended in
      record {
        in_pieces = a.in_pieces;
        not_cancelled = a.not_cancelled;
        not_removing = a.not_removing;
        back =
            a.back;
      })
      v.state.requests all

  pub none_up : (v' : DeviceView) → HandsUpNone v v' → HandsUpNone (view_of v b) (view_of v' b0)
  none_up v' h =
      let up : HandsUpNone (view_of v b) (view_of v b) = record {
        unfinished = All-append (AwaitsRestartIfEnded (with_window (Some b.window) v.rules) (state_of v b)) v.state.requests
            (requests_here v.rules b) (unfinished_below h.unfinished) unfinished_here;
        settled = Settled-framed v.rules b.window (frame_of v.rules b) v.state k.kept.some_window
            k.kept.below.no_window
            k.kept.holds released h.settled;
        same = refl;
      } in
      subst (λ (x : DeviceView). HandsUpNone (view_of v b) (view_of x b0)) (sym h.same)
      (subst (λ (y : TableView). HandsUpNone (view_of v b) (view_of v y)) (sym none.same) up)

  -- and as it was
  pub hand_same : (v' : DeviceView) → HandsUpNone v v' → IsInHand stack_size v' b0
  hand_same v' h = subst (λ (x : DeviceView). IsInHand stack_size x b0) (sym h.same)
      (subst (IsInHand stack_size v) (sym none.same) k)
