-- Calls that the filter passes on.
use Rattle.hold_filter.proofs.Common.{◌≡◌, inl, inr, ℕ, Bool, true, false, List, [], ◌∷◌, Option, Some, None, Result, sym, subst, ap, ◌∙◌, MatchBool, IsPermutation-sym, All-permutation, Completion, DeviceLabel, Entry, Cancel, Cancels, framed, with_window, DeviceView, IsOrderly, BooksPiece, Moves, ActsOrFaults, ActsNot, Finishes, FinishesNot, Resets, TakesLabel, ForgetsLabels, IsBeside, CancelsIfOpen, All-changed, AreDistinct-Step, Cancels-framed, Holds-Cancels, TableView, frame_of, state_of, view_of, AsksAdmitted, IsInHand}
use Rattle.hold_filter.proofs.Moving.{moved_to, moved_is, passes, passes_same, passes_stays, shown_moves}

module _ (stack_size : ℕ) (v : DeviceView) (b : TableView) (v' : DeviceView) (k : IsInHand stack_size v b)
    (ordered : IsOrderly v') where
  abbrev Shown : DeviceView → DeviceView
  Shown w = view_of w b

  -- what is shown moves as the device below, and the filter is in order
  abbrev Over : (DeviceView → DeviceView → Type 0) → Type 0
  Over P = IsInHand stack_size v' b × P (view_of v b) (view_of v' b)

  moved : (labels : List DeviceLabel) → Moves v labels v' → IsInHand stack_size v' b
  moved labels m = passes stack_size v b labels v' v'.adapter ordered m k

  shown : (labels : List DeviceLabel) (w : DeviceView) → Moves v labels w → Moves (Shown v) labels (Shown w)
  shown labels w m = shown_moves stack_size v b labels w k.kept m

  same : v' ≡ record v { adapter = v'.adapter } → IsInHand stack_size v' b
  same e = passes_same stack_size v b v' ordered e k

  pub same_hand : v' ≡ v → IsInHand stack_size v' b
  same_hand e = subst (λ (x : DeviceView). IsInHand stack_size x b) (sym e) k

  -- an act
  pub acts : (tag : ℕ) (result : Bool) → MatchBool result (ActsOrFaults v tag v') (ActsNot v tag v')
      → IsInHand stack_size v' b × MatchBool result (ActsOrFaults (Shown v) tag (Shown v'))
      (ActsNot (Shown v) tag (Shown v'))
  acts tag true h = (
    moved (h.label ∷ []) h.moves,
    record {
      piece = h.piece;
      label = h.label;
      fresh = record { is_out = h.fresh.is_out; is_tag = h.fresh.is_tag; is_fresh = h.fresh.is_fresh };
      told = h.told;
      if_booked = h.if_booked;
      moves = shown (h.label ∷ []) v' h.moves;
    },
  )
  acts tag false h = (
    same_hand h.same,
    record {
      none = λ piece fresh. h.none piece
          (record { is_out = fresh.is_out; is_tag = fresh.is_tag; is_fresh = fresh.is_fresh });
      same = ap Shown h.same;
    },
  )

  -- a return
  pub finishes : (tag : ℕ) (result : Bool) → MatchBool result (Finishes v tag v') (FinishesNot v tag v')
      → IsInHand stack_size v' b × MatchBool result (Finishes (Shown v) tag (Shown v'))
      (FinishesNot (Shown v) tag (Shown v'))
  finishes tag true h = (
    moved _ h.moves,
    record {
      piece = h.piece;
      class = h.class;
      starts = h.starts;
      is_out = h.is_out;
      is_tag = h.is_tag;
      only_starts = h.only_starts;
      moves = shown _ v' h.moves;
    },
  )
  finishes tag false h = (same_hand h.same, record { free = h.free; same = ap Shown h.same })

  -- a reset
  pub resets : Resets v v' → IsInHand stack_size v' b × Resets (Shown v) (Shown v')
  resets h = (
    passes stack_size v b _ v' h.all_faulted ordered h.moves k,
    record {
      fresh = h.fresh;
      all_faulted = h.all_faulted;
      all_fresh = h.all_fresh;
      rising = h.rising;
      moves = shown _ (record v' { adapter = h.all_faulted }) h.moves;
      noted = h.noted;
    },
  )

  -- a label is taken
  pub takes : (label : Option DeviceLabel) → TakesLabel v label v'
      → IsInHand stack_size v' b × TakesLabel (Shown v) label (Shown v')
  takes None h = (same_hand h.1, (h.0, ap Shown h.1))
  takes (Some label) h =
      (same (h.2 ∙ ap (λ (x : DeviceView). record v { adapter = x.adapter }) (sym h.2)), (h.0, h.1, ap Shown h.2))

  -- no label is left
  pub forgets : ForgetsLabels v v' → IsInHand stack_size v' b × ForgetsLabels (Shown v) (Shown v')
  forgets h = (same (h ∙ ap (λ (x : DeviceView). record v { adapter = x.adapter }) (sym h)), ap Shown h)

  -- what an act did is booked
  pub books : (tag piece : ℕ) (what : Result Entry Completion) → BooksPiece v tag piece what v'
      → IsInHand stack_size v' b × BooksPiece (Shown v) tag piece what (Shown v')
  books tag piece what h = (same h.same, record { adapter = h.adapter; same = ap Shown h.same })

  -- a packet below is cancelled
  pub cancelled : (number : ℕ) → Cancels v.state number v'.state → IsBeside v v' → IsInHand stack_size v' b
  cancelled number c beside =
      let e : v' ≡ moved_to v v'.state v'.packets v'.rooms v'.adapter =
      moved_is v v' beside.same_rules beside.same_submitted beside.same_most beside.same_places in
      passes_stays stack_size v b v' e (record {
        ordered = subst IsOrderly e ordered;
        packets = beside.same_packets;
        same_rooms = beside.same_rooms;
        next_request = c.after.next_request;
        removing = c.after.removing;
        holds = Holds-Cancels b.window (frame_of v.rules b) v.state number v'.state k.kept.holds c;
        distinct = AreDistinct-Step (with_window (Some b.window) v.rules) (state_of v b) (Cancel number)
            (framed (frame_of v.rules b) v'.state) k.kept.distinct
            (inl (
              k.kept.ordered.none_owed,
              Cancels-framed (frame_of v.rules b) (Some b.window) v.rules v.state number
                  v'.state c,
            ));
        asked_below = All-permutation (AsksAdmitted v.rules) _ _ (IsPermutation-sym _ _ c.after.requests)
            (All-changed (AsksAdmitted v.rules) v.state.requests c.request _ c.others c.is_open k.kept.asked_below
            (λ mine. mine));
      }) k

  -- or none
  pub cancels : (number : ℕ) → CancelsIfOpen v number v' → IsInHand stack_size v' b
  cancels number h = elim h.one_of
      [ inl (c, beside) ↦ cancelled number c beside | inr (none, gone) ↦ same_hand gone ]
