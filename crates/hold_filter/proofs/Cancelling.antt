-- Packets are cancelled: by number, and by spot.
use Rattle.hold_filter.proofs.Common.{in_all, ◌+◌, ◌≡◌, ◌≢◌, ◌<◌, inl, inr, ℕ, Bool, true, false, List, [], ◌∷◌, ◌++◌, Some, refl, sym, All, Any, Contains, IsTrue, MatchBool, IsDistinct, map-append, All-nil, All-cons, All-map, All-append, All-weaker, All-contains, Contains-append_right, Contains-append_cases, Contains-get_or, IsPermutation-sym, IsPermutation-map, IsPermutation-append_left, All-permutation, Contains-permutation, OpenRequest, Cancels, as_cancelled, request_number, IsAbove, Rules, framed, with_window, IsSame-refl, first_unique, Cancels-framed, IsVacant, DeviceView, Packet, packet_number, IsOrderly, IsAt, HasOtherNumber, CancelsIfOpen, CancelsAt, IsBeside, NoneToCancel, Held, Table, Queued, FilterView, CancelsHeld, HoldsNone, TableView, books_of, packet_in, here, MayEnd, Withdraws, WithdrawsNot, LacksNumber, HoldsAt, packets_of, packet_below, packet_here, open_here, are_late, requests_here, frame_of, state_of, view_of, queued, shown_of, IsAtOwn, IsCancelled, HasRoom, FilterKept, IsInHand, spot_in}
use Rattle.std.proofs.Common.{subst, ap, ◌∙◌, arith, map, get_or, eqb}
use Rattle.hold_filter.proofs.Lists.{All-from_map, All-first, All-second, contains_image}
use Rattle.hold_filter.proofs.Lists.{contains_map, contained_first, any_is, any_of}
use Rattle.hold_filter.proofs.Passing.{cancelled, cancels as cancels_passes, same_hand}
use Rattle.hold_filter.proofs.Rooms.{IsOff, same_without, first_off, rest_apart}
use Rattle.hold_filter.proofs.Submitting.{vacant_of}
use Rattle.hold_filter.proofs.Withdrawing.{cancels, beside, hand_withdrawn}

-- which packet is cancelled below, is cancelled
module _ (v : DeviceView) (b : TableView) where
  -- an open request of this number that is here cannot be cancelled
  abbrev pub CannotBeHere : ℕ → OpenRequest → Type 0
  CannotBeHere number o = o.number ≡ number → IsTrue o.cancelled

  none_framed : (number : ℕ) → NoneToCancel v.state number → All (CannotBeHere number) (requests_here v.rules b)
      → NoneToCancel (state_of v b) number
  none_framed number none here_not s' c =
      let there : Contains (v.state.requests ++ requests_here v.rules b) c.request =
      Contains-permutation _ _ c.request (IsPermutation-sym _ _ c.is_open) (0, omega arith, refl) in
      elim (Contains-append_cases v.state.requests (requests_here v.rules b) c.request there) [
        | inl below ↦
            let front = contained_first v.state.requests c.request below in
            none (record v.state { requests = as_cancelled c.request ∷ front.0 })
            (record {
              request = c.request;
              others = front.0;
              is_open = front.1;
              is_number = c.is_number;
              not_yet =
                  c.not_yet;
              after = IsSame-refl _;
            })
        | inr here' ↦ let cancelled : IsTrue c.request.cancelled =
            All-contains (CannotBeHere number) (requests_here v.rules b) c.request here_not here' c.is_number in
            cc (cancelled, c.not_yet)
      ]

  -- what a cancellation below shows
  shown_cancels : (number : ℕ) (v' : DeviceView) → Cancels v.state number v'.state → IsBeside v v'
      → Cancels (state_of v b) number (state_of v' b)
  shown_cancels number v' c beside' =
      subst (λ (r : Rules). Cancels (state_of v b) number (framed (frame_of r b) v'.state)) (sym beside'.same_rules)
      (Cancels-framed (frame_of v.rules b) (Some b.window) v.rules v.state number v'.state c)

  shown_beside : (v' : DeviceView) → IsBeside v v' → IsBeside (view_of v b) (view_of v' b)
  shown_beside v' beside' = record {
    same_rules = ap (λ r. with_window (Some b.window) r) beside'.same_rules;
    same_packets = IsPermutation-append_left (map packet_here (here b)) _ _
        (IsPermutation-map packet_below _ _ beside'.same_packets);
    same_rooms = same_without v.rooms v'.rooms (here b) beside'.same_rooms;
    same_submitted = refl;
    same_most = beside'.same_most;
    same_places = ap (λ (n : ℕ). n + in_all b.places) beside'.same_places;
    same_adapter = beside'.same_adapter;
  }

  pub cancels_below : (number : ℕ) (v' : DeviceView) → CancelsIfOpen v number v'
      → All (CannotBeHere number) (requests_here v.rules b) → CancelsIfOpen (view_of v b) number (view_of v' b)
  cancels_below number v' h here_not = elim h.one_of [
    | inl (c, beside') ↦ record { one_of = inl (shown_cancels number v' c beside', shown_beside v' beside') }
    | inr (none, same) ↦ record
        { one_of = inr (none_framed number none here_not, ap (λ (x : DeviceView). view_of x b) same) }
  ]

pub if_true : (A B : Type 0) (r : Bool) → r ≡ true → MatchBool r A B → A
if_true A B r e h = subst (λ x. MatchBool x A B) e h

pub if_false : (A B : Type 0) (r : Bool) → r ≡ false → MatchBool r A B → B
if_false A B r e h = subst (λ x. MatchBool x A B) e h

-- WHAT IS ASKED OF THE TABLE

-- those here have spots apart
each_off : (xs ys : List Held) → IsDistinct eqb (map spot_in (xs ++ ys))
    → All (λ (x : Held). All (IsOff (spot_in x)) ys) xs
each_off [] ys d = All-nil (λ (x : Held). All (IsOff (spot_in x)) ys)
each_off (x ∷ xs) ys d =
    All-cons (λ (z : Held). All (IsOff (spot_in z)) ys) x xs
    (All-second (IsOff (spot_in x)) xs ys (first_off x (xs ++ ys) d)) (each_off xs ys (rest_apart x (xs ++ ys) d))

-- a packet that is held may go to those that have ended
pub may_end_all : (stack_size : ℕ) (v : DeviceView) (b : TableView) → IsInHand stack_size v b → All (MayEnd b) b.held
may_end_all stack_size v b k i d low =
    let e : ℕ × Held = get_or b.held i d in
    let own : e.0 ≡ e.1.room.spot = k.kept.rooms.held_own i d low in
    let room : All (λ (x : ℕ × Held). HasRoom v.rooms x.1) b.held =
    All-from_map (HasRoom v.rooms) packet_in b.held
    (All-first (HasRoom v.rooms) (map packet_in b.held) (map packet_in b.ended) k.kept.rooms.reserved) in
    let off : All (λ (x : ℕ × Held). All (IsOff (spot_in x.1)) (map packet_in b.ended)) b.held =
    All-from_map (λ (x : Held). All (IsOff (spot_in x)) (map packet_in b.ended)) packet_in b.held
    (each_off (map packet_in b.held) (map packet_in b.ended) k.kept.rooms.apart) in
    record {
      covered = subst (λ n. n < b.places.ended) (sym own)
          (k.kept.rooms.covered e.1.room.spot _ (room i d low)).in_ended;
      vacant = subst (λ n. IsVacant n b.ended) (sym own)
          (vacant_of e.1.room.spot b.ended k.kept.rooms.ended_own (off i d low));
    }

module _ (stack_size : ℕ) (v : DeviceView) (b : TableView) (k : FilterKept stack_size v b) where
  abbrev open_as : Held → OpenRequest
  open_as x = open_here v.rules (are_late b) x

  -- where no packet of the number is held, none here can be cancelled
  pub lacks_here : (number : ℕ) → LacksNumber number b.held
      → All (CannotBeHere v b number) (requests_here v.rules b)
  lacks_here number lacks =
      All-map (CannotBeHere v b number) open_as (here b)
      (All-append (λ (x : Held). x.irp.value.number ≡ number → IsTrue x.irp.value.cancelled) (map packet_in b.held)
      (map packet_in b.ended)
      (All-map (λ (x : Held). x.irp.value.number ≡ number → IsTrue x.irp.value.cancelled) packet_in b.held
      (All-weaker (λ (e : ℕ × Held). e.1.irp.value.number ≢ number) (λ (e : ℕ × Held). e.1.irp.value.number ≡ number
      → IsTrue e.1.irp.value.cancelled) (λ e not' is. absurd (not' is)) b.held lacks))
      (All-weaker IsCancelled (λ (x : Held). x.irp.value.number ≡ number → IsTrue x.irp.value.cancelled)
      (λ x cancelled' is. cancelled') (map packet_in b.ended) k.cancelled))

  -- packets below have lower numbers than those here
  lower_below : (x : Held) → Contains (here b) x
      → All (λ (p : Packet). packet_number p < x.irp.value.number) v.packets
  lower_below x there =
      let above : IsAbove v.state.requests (open_as x) =
      All-contains (IsAbove v.state.requests) (requests_here v.rules b) (open_as x) k.holds.above
      (contains_map open_as (here b) x there) in
      All-from_map (λ n. n < x.irp.value.number) packet_number v.packets
      (All-permutation (λ n. n < x.irp.value.number) _ _ (IsPermutation-sym _ _ k.ordered.packets)
      (All-map (λ n. n < x.irp.value.number) request_number v.state.requests above))

  -- so none here can be cancelled where a packet of the number is below
  pub below_here : (number : ℕ) → Any (λ p. packet_number p ≡ number) v.packets
      → All (CannotBeHere v b number) (requests_here v.rules b)
  below_here number there =
      let p = any_is (λ p. packet_number p ≡ number) v.packets there in
      All-map (CannotBeHere v b number) open_as (here b) (all_there (λ x at is.
      let low : packet_number p.0 < x.irp.value.number =
      All-contains (λ (q : Packet). packet_number q < x.irp.value.number) v.packets p.0 (lower_below x at) p.1 in
      let same = p.2 in
      absurd (omega (arith, low, same, is))))
    where
      all_there : ((x : Held) → Contains (here b) x → x.irp.value.number ≡ number → IsTrue x.irp.value.cancelled)
          → All (λ (x : Held). x.irp.value.number ≡ number → IsTrue x.irp.value.cancelled) (here b)
      all_there f i d low = f (get_or (here b) i d) (Contains-get_or (here b) i d low)

-- A PACKET THAT IS HELD

module _ (stack_size : ℕ) (v : DeviceView) (b : TableView) (k : IsInHand stack_size v b) (spot number : ℕ) (b' : TableView)
    (w : Withdraws b spot number b') where
  pub withdrawn_hand : IsInHand stack_size v b'
  withdrawn_hand = subst (IsInHand stack_size v) (sym w.after)
      (hand_withdrawn stack_size v b spot number w.before w.held w.behind w.was_held w.is_number k)

  pub withdrawn_cancels : Cancels (state_of v b) number (state_of v b') × IsBeside (view_of v b) (view_of v b')
  withdrawn_cancels =
      subst (λ (y : TableView). Cancels (state_of v b) number (state_of v y) × IsBeside (view_of v b) (view_of v y))
      (sym w.after) (
        cancels stack_size v b spot number w.before w.held w.behind w.was_held w.is_number k,
        beside stack_size v b spot number w.before w.held w.behind w.was_held w.is_number k,
      )

  was_there : Contains b.held (spot, w.held)
  was_there = subst (λ es. Contains es (spot, w.held)) (sym w.was_held)
      (Contains-append_right w.before ((spot, w.held) ∷ w.behind) (spot, w.held) (0, omega arith, refl))

  -- it stood in the queue that is shown, and left it
  pub was_queued : map queued b.held ≡ map queued w.before ++ record { spot = spot; number = number } ∷ map queued
      w.behind
  was_queued =
      ap (λ es. map queued es) w.was_held
      ∙ map-append queued w.before ((spot, w.held) ∷ w.behind)
      ∙ ap (λ n. map queued w.before ++ record { spot = spot; number = n } ∷ map queued w.behind) w.is_number

  pub has_left : map queued b'.held ≡ map queued w.before ++ map queued w.behind
  has_left = ap (λ (y : TableView). map queued y.held) w.after ∙ map-append queued w.before w.behind

  -- some packet has that number
  pub not_gone : All (HasOtherNumber number) (packets_of v b) → ⊥
  not_gone none =
      let here_all : All (HasOtherNumber number) (map packet_here (here b)) =
      All-second (HasOtherNumber number) (map packet_below v.packets) (map packet_here (here b)) none in
      let held_all : All (λ (x : Held). x.irp.value.number ≢ number) (map packet_in b.held) =
      All-first (λ (x : Held). x.irp.value.number ≢ number) (map packet_in b.held) (map packet_in b.ended)
      (All-from_map (HasOtherNumber number) packet_here (here b) here_all) in
      All-contains (λ (e : ℕ × Held). e.1.irp.value.number ≢ number) b.held (spot, w.held)
      (All-from_map (λ (x : Held). x.irp.value.number ≢ number) packet_in b.held held_all) was_there w.is_number

-- no packet stands in the queue that is shown
pub none_queued : (b b' : TableView) (spot number : ℕ) → WithdrawsNot b spot number b'
    → Contains (map queued b.held) (record { spot = spot; number = number }) → ⊥
none_queued b b' spot number w there =
    let e = any_is (λ (e : ℕ × Held). queued e ≡ record { spot = spot; number = number }) b.held
    (contains_image queued b.held (record { spot = spot; number = number }) there) in
    All-contains (λ (e : ℕ × Held). e.0 ≡ spot → e.1.irp.value.number ≢ number) b.held e.0 w.none e.1
    (ap (λ (q : Queued). q.spot) e.2) (ap (λ (q : Queued). q.number) e.2)

-- BY NUMBER

module _ (stack_size : ℕ) (v : DeviceView) (b : TableView) (k : IsInHand stack_size v b) (number : ℕ) where
  -- the packet was held
  pub cancelled_held : (spot : ℕ) (b0 b' : TableView) → b0 ≡ b → HoldsAt number spot b.held → (result : Bool)
      → MatchBool result (Withdraws b0 spot number b') (WithdrawsNot b0 spot number b')
      → IsInHand stack_size v b' × CancelsIfOpen (view_of v b) number (view_of v b')
  cancelled_held spot b0 b' same held true w' =
      let w : Withdraws b spot number b' = subst (λ (y : TableView). Withdraws y spot number b') same w' in (
        withdrawn_hand stack_size v b k spot number b' w,
        record
            { one_of = inl (withdrawn_cancels stack_size v b k spot number b' w) },
      )
  cancelled_held spot b0 b' same held false w' =
      let w : WithdrawsNot b spot number b' = subst (λ (y : TableView). WithdrawsNot y spot number b') same w' in
      let there = any_is (λ (e : ℕ × Held). (e.0 ≡ spot) × (e.1.irp.value.number ≡ number)) b.held held in
      absurd (All-contains (λ (e : ℕ × Held). e.0 ≡ spot → e.1.irp.value.number ≢ number) b.held there.0 w.none
      there.1
      there.2.0 there.2.1)

  -- it was not
  pub cancelled_below : (v' : DeviceView) (b' : TableView) → b' ≡ b → LacksNumber number b.held → IsOrderly v'
      → CancelsIfOpen v number v' → IsInHand stack_size v' b' × CancelsIfOpen (view_of v b) number (view_of v' b')
  cancelled_below v' b' same lacks ordered h =
      subst (λ (y : TableView). IsInHand stack_size v' y × CancelsIfOpen (view_of v b) number (view_of v' y)) (sym same) (
        cancels_passes stack_size v b v' k ordered number h,
        cancels_below v b number v' h
            (lacks_here stack_size v b k.kept number lacks),
      )

-- BY SPOT

module _ (stack_size : ℕ) (v : DeviceView) (b : TableView) (k : IsInHand stack_size v b) (spot number : ℕ) where
  -- a packet that was held
  pub at_held : (b' : TableView) → Withdraws b spot number b'
      → IsInHand stack_size v b' × CancelsAt (view_of v b) spot number (view_of v b')
  at_held b' w =
      let c = withdrawn_cancels stack_size v b k spot number b' w in (
        withdrawn_hand stack_size v b k spot number b' w,
        record {
          there = λ at. record { one_of = inl c };
          gone = λ none. absurd (not_gone stack_size v b k spot number b' w none);
          either = inl c;
        },
      )

  -- one that was cancelled while it was held
  cancelled_before : (x : Held) → Contains (map packet_in b.ended) x → x.irp.value.number ≡ number
      → NoneToCancel (state_of v b) number
  cancelled_before x there is s' c =
      let open_as : Held → OpenRequest = open_here v.rules (are_late b) in
      let at : Contains (state_of v b).requests (open_as x) = Contains-append_right v.state.requests _ (open_as x)
      (contains_map open_as (here b) x
      (Contains-append_right (map packet_in b.held) (map packet_in b.ended) x there)) in
      let front = contained_first (state_of v b).requests (open_as x) at in
      let same : open_as x ≡ c.request =
      (first_unique request_number (state_of v b).requests (open_as x) c.request front.0 c.others
      k.kept.distinct.requests front.1 c.is_open (c.is_number ∙ sym is)).0 in
      let cancelled' : IsTrue x.irp.value.cancelled =
      All-contains IsCancelled (map packet_in b.ended) x k.kept.cancelled there in
      cc (ap (λ (o : OpenRequest). o.cancelled) same, cancelled', c.not_yet)

  module _ (v' : DeviceView) (ordered : IsOrderly v') (h : CancelsAt v spot number v')
      (none : All (λ (e : ℕ × Held). e.0 ≡ spot → e.1.irp.value.number ≢ number) b.held) where
    -- where one here has the number, none below has
    same_view : (x : Held) → Contains (here b) x → x.irp.value.number ≡ number → v' ≡ v
    same_view x there is =
        h.gone (All-weaker (λ (p : Packet). packet_number p < x.irp.value.number) (HasOtherNumber number)
        (λ p low same. absurd (omega (arith, low, same, is))) v.packets (lower_below stack_size v b k.kept x there))

    among_here : (x : Held) → Contains (here b) x → IsAt spot number (packet_here x)
        → CancelsIfOpen (view_of v b) number (view_of v' b)
    among_here x there at = elim (Contains-append_cases (map packet_in b.held) (map packet_in b.ended) x there) [
      | inl held ↦
          let e = any_is (λ (e : ℕ × Held). packet_in e ≡ x) b.held (contains_image packet_in b.held x held) in
          let own : e.0.0 ≡ e.0.1.room.spot = All-contains IsAtOwn b.held e.0 k.kept.rooms.held_own e.1 in
          absurd (All-contains (λ (e : ℕ × Held). e.0 ≡ spot → e.1.irp.value.number ≢ number) b.held e.0 none e.1
          (own ∙ ap (λ (y : Held). y.room.spot) e.2 ∙ at.is_spot)
          (ap (λ (y : Held). y.irp.value.number) e.2 ∙ at.is_number))
      | inr ended ↦ record {
        one_of = inr (
          cancelled_before x ended at.is_number,
          ap (λ (y : DeviceView). view_of y b)
              (same_view x there at.is_number),
        );
      }
    ]

    among_all : (p : Packet) → Contains (packets_of v b) p → IsAt spot number p
        → CancelsIfOpen (view_of v b) number (view_of v' b)
    among_all p there at =
        elim (Contains-append_cases (map packet_below v.packets) (map packet_here (here b)) p there) [
          | inl below ↦
              let q = any_is (λ (q : Packet). packet_below q ≡ p) v.packets
              (contains_image packet_below v.packets p below)
              in
              let same_number : q.0.number ≡ number = ap (λ (x : Packet). x.number) q.2 ∙ at.is_number in
              let same_spot : q.0.spot ≡ spot = ap (λ (x : Packet). x.spot) q.2 ∙ at.is_spot in
              let there' : Any (IsAt spot number) v.packets =
              any_of (IsAt spot number) v.packets q.0 q.1 (record { is_spot = same_spot; is_number = same_number })
              in
              cancels_below v b number v' (h.there there')
              (below_here stack_size v b k.kept number
              (any_of (λ (r : Packet). packet_number r ≡ number) v.packets q.0 q.1 same_number))
          | inr above ↦
              let x = any_is (λ (x : Held). packet_here x ≡ p) (here b)
              (contains_image packet_here (here b) p above) in
              among_here x.0 x.1 (record {
                is_spot = ap (λ (q : Packet). q.spot) x.2 ∙ at.is_spot;
                is_number =
                    ap (λ (q : Packet). q.number) x.2 ∙ at.is_number;
              })
        ]

    pub at_below : IsInHand stack_size v' b × CancelsAt (view_of v b) spot number (view_of v' b)
    at_below = (
      elim h.either [
        | inl (c, beside') ↦ cancelled stack_size v b v' k ordered number c beside'
        | inr same ↦ same_hand
            stack_size v b v' k ordered same
      ],
      record {
        there = λ some. let p = any_is (IsAt spot number) (packets_of v b) some in among_all p.0 p.1 p.2;
        gone = λ all. ap (λ (x : DeviceView). view_of x b)
            (h.gone (All-from_map (HasOtherNumber number) packet_below v.packets
            (All-first (HasOtherNumber number) (map packet_below v.packets) (map packet_here (here b)) all)));
        either = elim h.either [
          | inl (c, beside') ↦ inl (shown_cancels v b number v' c beside', shown_beside v b v' beside')
          | inr same ↦ inr (ap (λ (x : DeviceView). view_of x b) same)
        ];
      },
    )

  -- as the calls say it
  pub at_any : (b1 : TableView) → WithdrawsNot b spot number b1 → (v' : DeviceView) → IsOrderly v'
      → CancelsAt v spot number v' → IsInHand stack_size v' b1 × CancelsAt (view_of v b) spot number (view_of v' b1)
  at_any b1 w v' ordered h =
      subst (λ (y : TableView). IsInHand stack_size v' y × CancelsAt (view_of v b) spot number (view_of v' y))
      (sym w.same)
      (at_below v' ordered h w.none)

-- WHAT THE FILTER SHOWS

-- one that is held leaves the queue
pub leaves_held : (stack_size : ℕ) (v : DeviceView) (t t' : Table) → IsInHand stack_size v (books_of t)
    → (spot number : ℕ)
    → Withdraws (books_of t) spot number (books_of t') → CancelsHeld (shown_of v t) spot number (shown_of v t')
leaves_held stack_size v t t' k spot number w =
    let c = withdrawn_cancels stack_size v (books_of t) k spot number (books_of t') w in
    record {
      before = map queued w.before;
      behind = map queued w.behind;
      held = was_queued stack_size v (books_of t) k spot number (books_of t') w;
      leaves = has_left stack_size v (books_of t) k spot number (books_of t') w;
      cancels = c.0;
      beside = c.1;
    }

-- none that is held is meant, whatever happens below
pub holds_none : (old new : FilterView) (b b' : TableView) (spot number : ℕ) → old.queue ≡ map queued b.held
    → new.queue ≡ map queued b'.held → WithdrawsNot b spot number b' → HoldsNone old spot number new
holds_none old new b b' spot number was is w = record {
  none = λ there. none_queued b b' spot number w
      (subst (λ queue. Contains queue (record { spot = spot; number = number })) was there);
  same_queue = is ∙ ap (λ (y : TableView). map queued y.held) w.same ∙ sym was;
}
