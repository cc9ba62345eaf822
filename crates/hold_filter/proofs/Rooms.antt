-- Spots: what is reserved, without the rooms of the packets here.
use Rattle.hold_filter.proofs.Common.{◌≡◌, ◌≢◌, ◌⊎◌, inl, inr, ℕ, zero, suc, false, List, [], ◌∷◌, ◌++◌, Option, Some, All, Any, IsPermutation, IsDistinct, AllByRecursion, cases_eq, eqb_tells, get_or-set_other, All-nil, All-cons, All-head, All-tail, All-permutation, IsDistinct-cons, IsDistinct-head, IsDistinct-tail, Any-permutation, Packet, Reserved, room_at, packet_spot, SameRooms, SetsRoom, Held, without, spot_in}
use Rattle.std.proofs.Common.{None, refl, sym, ap, ◌∙◌, arith, map, eqb, slice_set}
use Rattle.hold_filter.proofs.Lists.{any_first, any_behind, any_rest}

-- the packet has this spot, or another
abbrev pub IsOn : ℕ → Held → Type 0
IsOn spot h = spot_in h ≡ spot

abbrev pub IsOff : ℕ → Held → Type 0
IsOff spot h = spot_in h ≢ spot

pub none_some : (r : Reserved) → None ≡ Some r → ⊥
none_some r e = cc (e)

-- ONE SPOT

pub gone : (rooms : List (Option Reserved)) (spot : ℕ) → room_at (slice_set rooms spot None) spot ≡ None
gone [] spot = refl
gone (x ∷ rooms) zero = refl
gone (x ∷ rooms) (suc spot) = gone rooms spot

pub on_or_off : (hs : List Held) (spot : ℕ) → All (IsOff spot) hs ⊎ Any (IsOn spot) hs
on_or_off [] spot = inl (All-nil (IsOff spot))
on_or_off (h ∷ hs) spot = elim (cases_eq (spot_in h) spot) [
  | inl e ↦ inr (any_first (IsOn spot) h hs e)
  | inr ne ↦ elim (on_or_off hs spot) [
    | inl off ↦ inl (All-cons (IsOff spot) h hs ne off)
    | inr on ↦ inr (any_behind (IsOn spot) h hs on)
  ]
]

pub without_off : (rooms : List (Option Reserved)) (hs : List Held) (spot : ℕ) → All (IsOff spot) hs
    → room_at (without rooms hs) spot ≡ room_at rooms spot
without_off rooms [] spot off = refl
without_off rooms (h ∷ hs) spot off =
    get_or-set_other (without rooms hs) (spot_in h) spot None None (λ e. All-head (IsOff spot) h hs off (sym e))
    ∙ without_off rooms hs spot (All-tail (IsOff spot) h hs off)

pub without_on : (rooms : List (Option Reserved)) (hs : List Held) (spot : ℕ) → Any (IsOn spot) hs
    → room_at (without rooms hs) spot ≡ None
without_on rooms [] spot (k, y, low, is, p) = absurd (omega (arith, low))
without_on rooms (h ∷ hs) spot on = elim (cases_eq spot (spot_in h)) [
  | inl e ↦ ap (room_at (slice_set (without rooms hs) (spot_in h) None)) e ∙ gone (without rooms hs) (spot_in h)
  | inr ne ↦ get_or-set_other (without rooms hs) (spot_in h) spot None None ne
      ∙ without_on rooms hs spot (any_rest (IsOn spot) h hs (λ e. ne (sym e)) on)
]

-- what is reserved in spite of these packets is none of theirs
pub off_shown : (rooms : List (Option Reserved)) (hs : List Held) (spot : ℕ) (r : Reserved)
    → room_at (without rooms hs) spot ≡ Some r → All (IsOff spot) hs
off_shown rooms hs spot r is =
    elim (on_or_off hs spot)
    [ inl off ↦ off | inr on ↦ absurd (none_some r (sym (without_on rooms hs spot on) ∙ is)) ]

pub still_none : (rooms : List (Option Reserved)) (hs : List Held) (spot : ℕ) → room_at rooms spot ≡ None
    → room_at (without rooms hs) spot ≡ None
still_none rooms hs spot none =
    elim (on_or_off hs spot) [
      | inl off ↦ without_off rooms hs spot off
          ∙ none
      | inr on ↦ without_on rooms hs spot on
    ]

-- ALL SPOTS

pub rooms_refl : (rooms : List (Option Reserved)) → SameRooms rooms rooms
rooms_refl rooms spot = refl

pub rooms_trans : (a b c : List (Option Reserved)) → SameRooms a b → SameRooms b c → SameRooms a c
rooms_trans a b c h k spot = k spot ∙ h spot

pub rooms_sym : (a b : List (Option Reserved)) → SameRooms a b → SameRooms b a
rooms_sym a b h spot = sym (h spot)

-- a change between lists that say the same
pub sets_same : (a a' b b' : List (Option Reserved)) (spot : ℕ) (before after : Option Reserved) → SameRooms a a'
    → SameRooms b b' → SetsRoom a spot before after b → SetsRoom a' spot before after b'
sets_same a a' b b' spot before after old new h = record {
  was = old spot ∙ h.was;
  is = new spot ∙ h.is;
  others = λ other ne. new other ∙ h.others other ne ∙ sym (old other);
}

pub same_without : (old new : List (Option Reserved)) (hs : List Held) → SameRooms old new
    → SameRooms (without old hs) (without new hs)
same_without old new hs same spot = elim (on_or_off hs spot) [
  | inl off ↦ without_off new hs spot off ∙ same spot ∙ sym (without_off old hs spot off)
  | inr on ↦ without_on new hs spot on ∙ sym (without_on old hs spot on)
]

pub reordered : (rooms : List (Option Reserved)) (hs others : List Held) → IsPermutation hs others
    → SameRooms (without rooms hs) (without rooms others)
reordered rooms hs others p spot = elim (on_or_off hs spot) [
  | inl off ↦ without_off rooms others spot (All-permutation (IsOff spot) _ _ p off)
      ∙ sym (without_off rooms hs spot off)
  | inr on ↦ without_on rooms others spot (Any-permutation (IsOn spot) _ _ p on) ∙ sym (without_on rooms hs spot on)
]

-- a change below, of a spot that no packet here has
pub sets_beside : (old new : List (Option Reserved)) (hs : List Held) (spot : ℕ) (before after : Option Reserved)
    → All (IsOff spot) hs → SetsRoom old spot before after new
    → SetsRoom (without old hs) spot before after (without new hs)
sets_beside old new hs spot before after off h = record {
  was = without_off old hs spot off ∙ h.was;
  is = without_off new hs spot off ∙ h.is;
  others = λ other ne. elim (on_or_off hs other) [
    | inl away ↦ without_off new hs other away ∙ h.others other ne ∙ sym (without_off old hs other away)
    | inr on ↦ without_on new hs other on ∙ sym (without_on old hs other on)
  ];
}

-- one packet more is here, at its room
pub sets_in : (rooms : List (Option Reserved)) (x : Held) (hs : List Held) (r : Option Reserved)
    → room_at rooms (spot_in x) ≡ r → All (IsOff (spot_in x)) hs
    → SetsRoom (without rooms hs) (spot_in x) r None (without rooms (x ∷ hs))
sets_in rooms x hs r is off = record {
  was = without_off rooms hs (spot_in x) off ∙ is;
  is = gone (without rooms hs) (spot_in x);
  others = λ other ne. get_or-set_other (without rooms hs) (spot_in x) other None None ne;
}

-- and one fewer
pub sets_out : (rooms : List (Option Reserved)) (x : Held) (hs : List Held) (r : Option Reserved)
    → room_at rooms (spot_in x) ≡ r → All (IsOff (spot_in x)) hs
    → SetsRoom (without rooms (x ∷ hs)) (spot_in x) None r (without rooms hs)
sets_out rooms x hs r is off =
    let h = sets_in rooms x hs r is off in
    record { was = h.is; is = h.was; others = λ other ne. sym (h.others other ne) }

-- a packet goes below, and takes its room along
pub goes_along : (old new : List (Option Reserved)) (x : Held) (hs : List Held) (before : Option Reserved)
    → SetsRoom old (spot_in x) before None new → SameRooms (without old (x ∷ hs)) (without new hs)
goes_along old new x hs before h spot = elim (cases_eq spot (spot_in x)) [
  | inl e ↦
      ap (room_at (without new hs)) e ∙ still_none new hs (spot_in x) h.is
      ∙ sym (ap (room_at (slice_set (without old hs) (spot_in x) None)) e ∙ gone (without old hs) (spot_in x))
  | inr ne ↦ both ne ∙ sym (get_or-set_other (without old hs) (spot_in x) spot None None ne)
]
  where
    both : spot ≢ spot_in x → room_at (without new hs) spot ≡ room_at (without old hs) spot
    both ne = elim (on_or_off hs spot) [
      | inl off ↦ without_off new hs spot off ∙ h.others spot ne ∙ sym (without_off old hs spot off)
      | inr on ↦ without_on new hs spot on ∙ sym (without_on old hs spot on)
    ]

-- SPOTS APART

differ : (a b : ℕ) → b ≢ a → eqb a b ≡ false
differ a b h = elim (eqb_tells a b) [ inl (yes', same) ↦ absurd (h (sym same)) | inr (no', other) ↦ no' ]

differs : (a b : ℕ) → eqb a b ≡ false → b ≢ a
differs a b h = elim (eqb_tells a b) [ inl (yes', same) ↦ cc (h, yes') | inr (no', other) ↦ λ e. other (sym e) ]

pub away : (spot : ℕ) (hs : List Held) → All (IsOff spot) hs
    → AllByRecursion (λ y. eqb spot y ≡ false) (map spot_in hs)
away spot [] off = tt
away spot (h ∷ hs) off =
    (differ spot (spot_in h) (All-head (IsOff spot) h hs off), away spot hs (All-tail (IsOff spot) h hs off))

pub off_of : (spot : ℕ) (hs : List Held) → AllByRecursion (λ y. eqb spot y ≡ false) (map spot_in hs)
    → All (IsOff spot) hs
off_of spot [] h = All-nil (IsOff spot)
off_of spot (x ∷ hs) h = All-cons (IsOff spot) x hs (differs spot (spot_in x) h.0) (off_of spot hs h.1)

-- the first has a spot that the others lack
pub first_off : (x : Held) (hs : List Held) → IsDistinct eqb (map spot_in (x ∷ hs)) → All (IsOff (spot_in x)) hs
first_off x hs d = off_of (spot_in x) hs (IsDistinct-head eqb (spot_in x) (map spot_in hs) d)

pub rest_apart : (x : Held) (hs : List Held) → IsDistinct eqb (map spot_in (x ∷ hs))
    → IsDistinct eqb (map spot_in hs)
rest_apart x hs d = IsDistinct-tail eqb (spot_in x) (map spot_in hs) d

pub one_apart : (x : Held) (hs : List Held) → All (IsOff (spot_in x)) hs → IsDistinct eqb (map spot_in hs)
    → IsDistinct eqb (map spot_in (x ∷ hs))
one_apart x hs off d = IsDistinct-cons eqb (spot_in x) (map spot_in hs) (away (spot_in x) hs off) d

both_parts : (P : ℕ → Type 0) (xs ys : List ℕ) → AllByRecursion P xs → AllByRecursion P ys
    → AllByRecursion P (xs ++ ys)
both_parts P [] ys h k = k
both_parts P (x ∷ xs) ys h k = (h.0, both_parts P xs ys h.1 k)

-- the spots of packets below and here
pub all_apart : (ps : List Packet) (hs : List Held) → IsDistinct eqb (map packet_spot ps)
    → IsDistinct eqb (map spot_in hs) → All (λ (p : Packet). All (IsOff (packet_spot p)) hs) ps
    → IsDistinct eqb (map packet_spot ps ++ map spot_in hs)
all_apart [] hs d e off = e
all_apart (p ∷ ps) hs d e off =
    IsDistinct-cons eqb (packet_spot p) (map packet_spot ps ++ map spot_in hs)
    (both_parts (λ y. eqb (packet_spot p) y ≡ false) (map packet_spot ps) (map spot_in hs)
    (IsDistinct-head eqb (packet_spot p) (map packet_spot ps) d)
    (away (packet_spot p) hs (All-head (λ (q : Packet). All (IsOff (packet_spot q)) hs) p ps off)))
    (all_apart ps hs (IsDistinct-tail eqb (packet_spot p) (map packet_spot ps) d) e
    (All-tail (λ (q : Packet). All (IsOff (packet_spot q)) hs) p ps off))
