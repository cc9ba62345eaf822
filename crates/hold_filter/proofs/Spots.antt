-- What each step leaves of the rooms.
use Rattle.hold_filter.proofs.Common.{◌≡◌, ◌≤◌, inl, inr, ℕ, List, [], ◌∷◌, ◌++◌, Option, Some, None, refl, sym, All, IsPermutation, IsDistinct, cases_eq, All-cons, All-head, All-tail, All-push, All-weaker, IsPermutation-sym, IsPermutation-map, All-permutation, IsDistinct-IsPermutation, Rules, as_client, flips, Packet, Reserved, room_at, whole_for, packet_spot, SameRooms, SetsRoom, Held, Limits, packet_in, request_in, IsCovered, marked, IsAdmitted, IsAtOwn, HasRoom, HasPlace, RoomsKept, spot_in}
use Rattle.std.proofs.Common.{subst, ap, ◌∙◌, arith, map, eqb}
use Rattle.hold_filter.proofs.Lists.{here_of, others_of}
use Rattle.hold_filter.proofs.Here.{held_first, ended_first, last_first}
use Rattle.hold_filter.proofs.Rooms.{IsOff, none_some, first_off, rest_apart, one_apart}

some_some : (r s : Reserved) → Some r ≡ Some s → r ≡ s
some_some r s e = cc (e)

-- packets here have spots that are reserved
pub off_all : (rooms : List (Option Reserved)) (spot : ℕ) (hs : List Held) → All (HasRoom rooms) hs
    → room_at rooms spot ≡ None → All (IsOff spot) hs
off_all rooms spot hs h none =
    All-weaker (HasRoom rooms) (IsOff spot)
    (λ x is e. none_some (whole_for (request_in x.irp.value)) (sym none ∙ ap (room_at rooms) (sym e) ∙ is)) hs h

-- those of other spots keep their rooms
pub rooms_beside : (old new : List (Option Reserved)) (spot : ℕ) (before after : Option Reserved) (hs : List Held)
    → SetsRoom old spot before after new → All (IsOff spot) hs → All (HasRoom old) hs → All (HasRoom new) hs
rooms_beside old new spot before after hs sets off h i d low = sets.others _ (off i d low) ∙ h i d low

pub covered_more : (places places' : Limits) (spot : ℕ) → places.held ≤ places'.held → places.ended ≤ places'.ended
    → IsCovered places spot → IsCovered places' spot
covered_more places places' spot a b c = let p = c.in_held in let q = c.in_ended in
    record { in_held = omega arith; in_ended = omega arith }

module _ (rules : Rules) (rooms : List (Option Reserved)) (packets : List Packet) (held ended : List (ℕ × Held))
    (places : Limits) (k : RoomsKept rules rooms packets held ended places) where
  -- a call that leaves the rooms as they were
  pub kept_same : (rooms' : List (Option Reserved)) (packets' : List Packet) → SameRooms rooms rooms'
      → IsPermutation packets' packets → RoomsKept rules rooms' packets' held ended places
  kept_same rooms' packets' same p = record {
    bounded = λ spot r is. k.bounded spot r (sym (same spot) ∙ is);
    covered = λ spot r is. k.covered spot r (sym (same spot) ∙ is);
    taken = All-permutation (HasPlace places) _ _ (IsPermutation-sym _ _ p) k.taken;
    reserved = All-weaker (HasRoom rooms) (HasRoom rooms') (λ x is. same (spot_in x) ∙ is)
        (map packet_in held ++ map packet_in ended) k.reserved;
    apart = k.apart;
    held_own = k.held_own;
    ended_own = k.ended_own;
  }

  -- a packet is queued last
  pub kept_in : (x : Held) → HasRoom rooms x → All (IsOff (spot_in x)) (map packet_in held ++ map packet_in ended)
      → RoomsKept rules rooms packets (held ++ (x.room.spot, x) ∷ []) ended places
  kept_in x is off =
      let p : IsPermutation (map packet_in (held ++ (x.room.spot, x) ∷ []) ++ map packet_in ended)
      (x ∷ (map packet_in held ++ map packet_in ended)) = last_first held x.room.spot x (map packet_in ended) in
      record {
        bounded = k.bounded;
        covered = k.covered;
        taken = k.taken;
        reserved = All-permutation (HasRoom rooms) _ _ (IsPermutation-sym _ _ p)
            (All-cons (HasRoom rooms) x (map packet_in held ++ map packet_in ended) is k.reserved);
        apart = IsDistinct-IsPermutation eqb flips _ _ (IsPermutation-sym _ _ (IsPermutation-map spot_in _ _ p))
            (one_apart x (map packet_in held ++ map packet_in ended) off k.apart);
        held_own = All-push IsAtOwn held (x.room.spot, x) k.held_own refl;
        ended_own = k.ended_own;
      }

  -- one is cancelled
  pub kept_cancelled : (before : List (ℕ × Held)) (at : ℕ) (x : Held) (behind : List (ℕ × Held))
      → held ≡ before ++ (at, x) ∷ behind
      → RoomsKept rules rooms packets (before ++ behind) (ended ++ (at, marked x) ∷ []) places
  kept_cancelled before at x behind is =
      let others : List Held = map packet_in (before ++ behind) ++ map packet_in ended in
      let was : IsPermutation (map packet_in held ++ map packet_in ended) (x ∷ others) =
      held_first held before at x behind (map packet_in ended) is in
      let now : IsPermutation (map packet_in (before ++ behind) ++ map packet_in (ended ++ (at, marked x) ∷ []))
      (marked x ∷ others) = ended_first (before ++ behind) ended at (marked x) in
      let first : All (HasRoom rooms) (x ∷ others) = All-permutation (HasRoom rooms) _ _ was k.reserved in
      let apart : IsDistinct eqb (map spot_in (marked x ∷ others)) =
      IsDistinct-IsPermutation eqb flips _ _ (IsPermutation-map spot_in _ _ was) k.apart in
      record {
        bounded = k.bounded;
        covered = k.covered;
        taken = k.taken;
        reserved = All-permutation (HasRoom rooms) _ _ (IsPermutation-sym _ _ now)
            (All-cons (HasRoom rooms) (marked x) others (All-head (HasRoom rooms) x others first)
            (All-tail (HasRoom rooms) x others first));
        apart = IsDistinct-IsPermutation eqb flips _ _ (IsPermutation-sym _ _ (IsPermutation-map spot_in _ _ now))
            apart;
        held_own = others_of IsAtOwn held before (at, x) behind is k.held_own;
        ended_own = All-push IsAtOwn ended (at, marked x) k.ended_own
            (here_of IsAtOwn held before (at, x) behind is k.held_own);
      }

  -- one leaves the packets here, and its room stays
  pub kept_out : (x : Held) (held' ended' : List (ℕ × Held))
      → IsPermutation (map packet_in held ++ map packet_in ended)
      (x ∷ (map packet_in held' ++ map packet_in ended'))
      → All IsAtOwn held' → All IsAtOwn ended'
      → RoomsKept rules rooms packets held' ended' places
  kept_out x held' ended' p held_own ended_own = record {
    bounded = k.bounded;
    covered = k.covered;
    taken = k.taken;
    reserved = All-tail (HasRoom rooms) x (map packet_in held' ++ map packet_in ended')
        (All-permutation (HasRoom rooms) _ _ p k.reserved);
    apart = rest_apart x (map packet_in held' ++ map packet_in ended')
        (IsDistinct-IsPermutation eqb flips _ _ (IsPermutation-map spot_in _ _ p) k.apart);
    held_own = held_own;
    ended_own = ended_own;
  }

  -- it has its room, which no other has
  pub has_room : (x : Held) (hs : List Held) → IsPermutation (map packet_in held ++ map packet_in ended) (x ∷ hs)
      → HasRoom rooms x
  has_room x hs p = All-head (HasRoom rooms) x hs (All-permutation (HasRoom rooms) _ _ p k.reserved)

  pub others_off : (x : Held) (hs : List Held) → IsPermutation (map packet_in held ++ map packet_in ended) (x ∷ hs)
      → All (IsOff (spot_in x)) hs
  others_off x hs p = first_off x hs
      (IsDistinct-IsPermutation eqb flips _ _ (IsPermutation-map spot_in _ _ p) k.apart)

  -- a room below is spent, or given back
  pub kept_less : (rooms' : List (Option Reserved)) (packets' : List Packet) (spot : ℕ) (before : Option Reserved)
      → SetsRoom rooms spot before None rooms' → All (IsOff spot) (map packet_in held ++ map packet_in ended)
      → All (HasPlace places) packets'
      → RoomsKept rules rooms' packets' held ended places
  kept_less rooms' packets' spot before sets off taken = record {
    bounded = λ at r is. elim (cases_eq at spot) [
      | inl e ↦ absurd (none_some r (sym sets.is ∙ ap (room_at rooms') (sym e) ∙ is))
      | inr ne ↦ k.bounded at r (sym (sets.others at ne) ∙ is)
    ];
    covered = λ at r is. elim (cases_eq at spot) [
      | inl e ↦ absurd (none_some r (sym sets.is ∙ ap (room_at rooms') (sym e) ∙ is))
      | inr ne ↦ k.covered at r (sym (sets.others at ne) ∙ is)
    ];
    taken = taken;
    reserved = rooms_beside rooms rooms' spot before None (map packet_in held ++ map packet_in ended) sets off
        k.reserved;
    apart = k.apart;
    held_own = k.held_own;
    ended_own = k.ended_own;
  }

  -- a room below is reserved, or comes back
  pub kept_more : (rooms' : List (Option Reserved)) (packets' : List Packet) (spot : ℕ) (r : Reserved)
      → SetsRoom rooms spot None (Some r) rooms' → All (HasPlace places) packets'
      → IsAdmitted rules (as_client rules r.request []) → IsCovered places spot
      → RoomsKept rules rooms' packets' held ended places
  kept_more rooms' packets' spot r sets taken admitted' covered' = record {
    bounded = λ at q is. elim (cases_eq at spot) [
      | inl e ↦ subst (λ (x : Reserved). IsAdmitted rules (as_client rules x.request []))
          (some_some r q (sym sets.is ∙ ap (room_at rooms') (sym e) ∙ is)) admitted'
      | inr ne ↦ k.bounded at q (sym (sets.others at ne) ∙ is)
    ];
    covered = λ at q is. elim (cases_eq at spot) [
      | inl e ↦ subst (IsCovered places) (sym e) covered'
      | inr ne ↦ k.covered at q (sym (sets.others at ne) ∙ is)
    ];
    taken = taken;
    reserved = rooms_beside rooms rooms' spot None (Some r) (map packet_in held ++ map packet_in ended) sets
        (off_all rooms spot (map packet_in held ++ map packet_in ended) k.reserved sets.was) k.reserved;
    apart = k.apart;
    held_own = k.held_own;
    ended_own = k.ended_own;
  }

  -- there are more places
  pub kept_wider : (places' : Limits) → places.held ≤ places'.held → places.ended ≤ places'.ended
      → RoomsKept rules rooms packets held ended places'
  kept_wider places' more_held more_ended = record {
    bounded = k.bounded;
    covered = λ spot r is. covered_more places places' spot more_held more_ended (k.covered spot r is);
    taken = All-weaker (HasPlace places) (HasPlace places')
        (λ p h. covered_more places places' (packet_spot p) more_held more_ended h) packets k.taken;
    reserved = k.reserved;
    apart = k.apart;
    held_own = k.held_own;
    ended_own = k.ended_own;
  }
