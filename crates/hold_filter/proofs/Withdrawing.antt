-- A packet is cancelled while it is held.
use Rattle.hold_filter.proofs.Common.{◌≡◌, ◌≤◌, inl, inr, ℕ, List, [], ◌∷◌, ◌++◌, Some, refl, sym, subst, ap, ◌∙◌, arith, map, length, length-append, All, IsPermutation, IsFalse, map-append, All-cons, All-head, All-tail, All-push, IsPermutation-refl, IsPermutation-sym, IsPermutation-trans, IsPermutation-map, IsPermutation-append_right, All-permutation, Cancel, OpenRequest, IsSame, Cancels, framed, with_window, IsAbove, IsSame-reordered, IsSame-trans, AreDistinct-Step, Cancels-held, DeviceView, IsBeside, SameRooms, Held, TableView, packet_in, here, marked, packet_below, packet_here, without, open_here, are_late, frame_of, state_of, view_of, IsBefore, AreInTurn, IsCancelled, IsFrom, IsAsked, IsWhole, CanGo, EntryCanGo, FilterKept, IsInHand}
use Rattle.hold_filter.proofs.Lists.{here_of, others_of}
use Rattle.hold_filter.proofs.Here.{held_first, ended_first}
use Rattle.hold_filter.proofs.Moving.{in_hand}
use Rattle.hold_filter.proofs.Rooms.{reordered, rooms_trans}
use Rattle.hold_filter.proofs.Spots.{kept_cancelled}

-- the others stay in turn
turn_others : (before : List (ℕ × Held)) (e : ℕ × Held) (behind : List (ℕ × Held))
    → AreInTurn (before ++ e ∷ behind)
    → AreInTurn (before ++ behind)
turn_others [] e behind h = h.1
turn_others (x ∷ before) e behind h =
    (others_of (IsBefore x) (before ++ e ∷ behind) before e behind refl h.0, turn_others before e behind h.1)

module _ (stack_size : ℕ) (v : DeviceView) (b : TableView) (at number : ℕ) (before : List (ℕ × Held)) (x : Held)
    (behind : List (ℕ × Held)) (was_held : b.held ≡ before ++ (at, x) ∷ behind)
    (is_number : x.irp.value.number ≡ number) where
  abbrev pub books_withdrawn : TableView
  books_withdrawn = record b { held = before ++ behind; ended = b.ended ++ (at, marked x) ∷ [] }

  abbrev pub open_as : Held → OpenRequest
  open_as p = open_here v.rules (are_late b) p

  abbrev others : List Held
  others = map packet_in (before ++ behind) ++ map packet_in b.ended

  here_before : IsPermutation (here b) (x ∷ others)
  here_before = held_first b.held before at x behind (map packet_in b.ended) was_held

  here_now : IsPermutation (here books_withdrawn) (marked x ∷ others)
  here_now = ended_first (before ++ behind) b.ended at (marked x)

  -- packets in the same places, but for what is marked
  same_there : {Y : Type 0} (f : Held → Y) → f (marked x) ≡ f x
      → IsPermutation (map f (here books_withdrawn)) (map f (here b))
  same_there f same =
      IsPermutation-trans _ _ _
      (subst (λ y. IsPermutation (map f (here books_withdrawn)) (y ∷ map f others)) same
      (IsPermutation-map f _ _ here_now)) (IsPermutation-sym _ _ (IsPermutation-map f _ _ here_before))

  -- rooms by spots alone
  same_rooms : SameRooms (without v.rooms (here b)) (without v.rooms (here books_withdrawn))
  same_rooms =
      rooms_trans (without v.rooms (here b)) (without v.rooms (x ∷ others)) (without v.rooms (here books_withdrawn))
      (reordered v.rooms (here b) (x ∷ others) here_before)
      (reordered v.rooms (marked x ∷ others) (here books_withdrawn) (IsPermutation-sym _ _ here_now))

  module _ (k : IsInHand stack_size v b) where
    goes : CanGo stack_size v.rules x
    goes = here_of (EntryCanGo stack_size v.rules) b.held before (at, x) behind was_held k.kept.can_go

    timely : IsFalse x.irp.value.cancelled
    timely = goes.not_cancelled

    pub cancels : Cancels (state_of v b) number (state_of v books_withdrawn)
    cancels =
        let h : Cancels (state_of v b) x.irp.value.number _ =
        Cancels-held (frame_of v.rules b) (with_window (Some b.window) v.rules) v.state (open_as x)
        (map open_as others)
        (IsPermutation-map open_as _ _ here_before) timely in
        let same : IsSame (state_of v books_withdrawn)
        (framed (record (frame_of v.rules b) { held = open_as (marked x) ∷ map open_as others }) v.state) =
        IsSame-reordered (state_of v books_withdrawn) _ _ _ _
        (IsPermutation-append_right v.state.requests _ _ (IsPermutation-map open_as _ _ here_now))
        (IsPermutation-refl _) in
        record {
          request = h.request;
          others = h.others;
          is_open = h.is_open;
          is_number = h.is_number
              ∙ is_number;
          not_yet = h.not_yet;
          after = IsSame-trans _ _ _ same h.after;
        }

    pub beside : IsBeside (view_of v b) (view_of v books_withdrawn)
    beside = record {
      same_rules = refl;
      same_packets = IsPermutation-append_right (map packet_below v.packets) _ _ (same_there packet_here refl);
      same_rooms = same_rooms;
      same_submitted = refl;
      same_most = refl;
      same_places = refl;
      same_adapter = refl;
    }

    -- the window is full, since this one was held
    is_full : IsFalse b.paused → IsFalse b.removing → b.window ≤ length v.state.requests
    is_full going staying =
        elim (k.released going staying) [
          | inl none ↦ let n = ap length (sym none ∙ was_held) in
              let l = length-append before ((at, x) ∷ behind) in absurd (omega arith)
          | inr full ↦ full
        ]

    kept_withdrawn : FilterKept stack_size v books_withdrawn
    kept_withdrawn =
        let l = length-append before ((at, x) ∷ behind) in
        let n = length-append before behind in
        let w = ap length was_held in
        let now : map packet_in books_withdrawn.ended ≡ map packet_in b.ended ++ marked x ∷ [] =
        map-append packet_in b.ended ((at, marked x) ∷ []) in
        let asked : All (IsAsked v.rules) (x ∷ others) =
        All-permutation (IsAsked v.rules) _ _ here_before k.kept.asked in
        record {
          below = k.kept.below;
          ordered = k.kept.ordered;
          rooms = kept_cancelled v.rules v.rooms v.packets b.held b.ended b.places k.kept.rooms before at x behind
              was_held;
          asked = All-permutation (IsAsked v.rules) _ _ (IsPermutation-sym _ _ here_now)
              (All-cons (IsAsked v.rules) (marked x) others (All-head (IsAsked v.rules) x others asked)
              (All-tail (IsAsked v.rules) x others asked));
          asked_below = k.kept.asked_below;
          can_go = others_of (EntryCanGo stack_size v.rules) b.held before (at, x) behind was_held k.kept.can_go;
          cancelled = subst (All IsCancelled) (sym now)
              (All-push IsCancelled (map packet_in b.ended) (marked x) k.kept.cancelled refl);
          whole = subst (All (IsWhole v.rules)) (sym now)
              (All-push (IsWhole v.rules) (map packet_in b.ended) (marked x) k.kept.whole goes.carries);
          in_turn = turn_others before (at, x) behind (subst AreInTurn was_held k.kept.in_turn);
          holds = record {
            above = All-permutation (IsAbove v.state.requests) _ _
                (IsPermutation-sym _ _ (IsPermutation-map open_as _ _ here_now))
                (above_all (All-permutation (IsAbove v.state.requests) _ _
                (IsPermutation-map open_as _ _ here_before)
                k.kept.holds.above));
            timely = k.kept.holds.timely;
            not_paused = k.kept.holds.not_paused;
            within = k.kept.holds.within;
          };
          distinct = AreDistinct-Step (with_window (Some b.window) v.rules) (state_of v b) (Cancel number)
              (state_of v books_withdrawn) k.kept.distinct (inl (k.kept.ordered.none_owed, cancels));
          counted = k.kept.counted;
          passed = k.kept.passed;
          next_below = k.kept.next_below;
          later = others_of (IsFrom v.state.next_request) b.held before (at, x) behind was_held k.kept.later;
          some_window = k.kept.some_window;
          removing = k.kept.removing;
          going = k.kept.going;
          full = λ going staying. inr (is_full going staying);
          submitted = let c = k.kept.submitted in omega arith;
          few = k.kept.few;
        }
      where
        above_all : All (IsAbove v.state.requests) (open_as x ∷ map open_as others)
            → All (IsAbove v.state.requests) (open_as (marked x) ∷ map open_as others)
        above_all h = All-cons (IsAbove v.state.requests) (open_as (marked x)) (map open_as others)
            (All-head (IsAbove v.state.requests) (open_as x) (map open_as others) h)
            (All-tail (IsAbove v.state.requests) (open_as x) (map open_as others) h)

    pub hand_withdrawn : IsInHand stack_size v books_withdrawn
    hand_withdrawn = in_hand stack_size v books_withdrawn kept_withdrawn
        (λ going staying. inr (is_full going staying))
