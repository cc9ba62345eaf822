-- What each call does to the rooms that are out.
use Rattle.std.proofs.Common.{◌≡◌, ◌≢◌, ◌+◌, ℕ, zero, suc, arith, false, List, [], ◌∷◌, Option, Some, None, refl, sym, ◌∙◌, ap, subst, map, eqb, rules, tests}
use Rattle.std.specs.Prelude.{All, IsPermutation}
use Rattle.std.specs.List.{AllByRecursion}
use Rattle.std.proofs.lemmas.List.Elements.{All-nil, All-cons, All-head, All-tail, All-weaker}
use Rattle.std.proofs.lemmas.List.Sorted.{IsPermutation-refl, IsPermutation-trans, IsPermutation-cons, IsPermutation-middle, IsPermutation-map, All-permutation}
use Rattle.std.proofs.lemmas.Map.Keys.{IsDistinct-IsPermutation, IsDistinct-cons, IsDistinct-head, IsDistinct-tail}
use Rattle.device.specs.View.{DeviceView, Reserved, IsOrderly, room_at}
use Rattle.device.specs.Served.{SameRooms, SetsRoom}
use Rattle.device.specs.inside.Out.{Ticket, ticket_spot, IsGood, AreOut, tickets_from, tickets_of}

flips : (x y : ℕ) → eqb x y ≡ eqb y x
flips x y = search (rules, tests)

none_some : (r : Reserved) → None ≡ Some r → ⊥
none_some r e = cc (e)

differ : (m n : ℕ) → n ≢ m → eqb m n ≡ false
differ m n h = search (rules, tests)

differs : (m n : ℕ) → eqb m n ≡ false → n ≢ m
differs m n h same = search (rules, tests)

-- the order of a list of rooms says nothing
pub out_any_order : (v : DeviceView) (some others : List Ticket) → IsPermutation some others → AreOut v some → AreOut v others
out_any_order v some others p h = record {
  orderly = h.orderly;
  good = All-permutation (IsGood v) _ _ p h.good;
  apart = IsDistinct-IsPermutation eqb flips _ _ (IsPermutation-map ticket_spot _ _ p) h.apart;
}

-- a call that leaves the rooms as they were
pub out_same : (old new : DeviceView) (tickets : List Ticket) → IsOrderly new → SameRooms old.rooms new.rooms → AreOut old tickets → AreOut new tickets
out_same old new tickets o same h = record {
  orderly = o;
  good = All-weaker (IsGood old) (IsGood new) (λ t is. same t.spot ∙ is) tickets h.good;
  apart = h.apart;
}

all_away : (v : DeviceView) (spot : ℕ) (tickets : List Ticket) → room_at v.rooms spot ≡ None → All (IsGood v) tickets → AllByRecursion (λ y. eqb spot y ≡ false) (map ticket_spot tickets)
all_away v spot [] vacant h = tt
all_away v spot (t ∷ ts) vacant h = (
  differ spot t.spot (λ same. none_some t.reserved (sym vacant ∙ ap (room_at v.rooms) (sym same) ∙ All-head (IsGood v) t ts h)),
  all_away v spot ts vacant (All-tail (IsGood v) t ts h),
)

good_beside : (old new : DeviceView) (spot : ℕ) (before after : Option Reserved) (tickets : List Ticket) → SetsRoom old.rooms spot before after new.rooms
    → AllByRecursion (λ y. eqb spot y ≡ false) (map ticket_spot tickets) → All (IsGood old) tickets → All (IsGood new) tickets
good_beside old new spot before after [] sets away h = All-nil (IsGood new)
good_beside old new spot before after (t ∷ ts) sets away h =
    All-cons (IsGood new) t ts (sets.others t.spot (differs spot t.spot away.0) ∙ All-head (IsGood old) t ts h)
    (good_beside old new spot before after ts sets away.1 (All-tail (IsGood old) t ts h))

-- a room is reserved, or a packet leaves its own
pub out_more : (old new : DeviceView) (spot : ℕ) (reserved : Reserved) (tickets : List Ticket) → IsOrderly new → SetsRoom old.rooms spot None (Some reserved) new.rooms → AreOut old tickets
    → AreOut new (record { spot = spot; reserved = reserved } ∷ tickets)
out_more old new spot reserved tickets o sets h =
    let away = all_away old spot tickets sets.was h.good in
    record {
      orderly = o;
      good = All-cons (IsGood new) (record { spot = spot; reserved = reserved }) tickets sets.is (good_beside old new spot None (Some reserved) tickets sets away h.good);
      apart = IsDistinct-cons eqb spot (map ticket_spot tickets) away h.apart;
    }

-- a room is spent or given back
pub out_less : (old new : DeviceView) (ticket : Ticket) (before : Option Reserved) (tickets : List Ticket) → IsOrderly new → SetsRoom old.rooms ticket.spot before None new.rooms → AreOut old (ticket ∷ tickets)
    → AreOut new tickets
out_less old new ticket before tickets o sets h = record {
  orderly = o;
  good = good_beside old new ticket.spot before None tickets sets (IsDistinct-head eqb ticket.spot (map ticket_spot tickets) h.apart) (All-tail (IsGood old) ticket tickets h.good);
  apart = IsDistinct-tail eqb ticket.spot (map ticket_spot tickets) h.apart;
}

-- what the holder of a room may do with it
pub out_first : (v : DeviceView) (ticket : Ticket) (tickets : List Ticket) → AreOut v (ticket ∷ tickets) → IsGood v ticket
out_first v ticket tickets h = All-head (IsGood v) ticket tickets h.good

-- ALL ROOMS OF A LAYER

abbrev with_head : ℕ → Option Reserved → List Ticket → List Ticket
with_head n None rest = rest
with_head n (Some r) rest = record { spot = n; reserved = r } ∷ rest

tickets_cons : (n : ℕ) (x : Option Reserved) (xs : List (Option Reserved)) → tickets_from n (x ∷ xs) ≡ with_head n x (tickets_from (suc n) xs)
tickets_cons n None xs = refl
tickets_cons n (Some r) xs = refl

abbrev rest_of : List (Option Reserved) → List (Option Reserved)
rest_of [] = []
rest_of (x ∷ xs) = xs

by_head : (n : ℕ) (xs : List (Option Reserved)) → tickets_from n xs ≡ with_head n (room_at xs 0) (tickets_from (suc n) (rest_of xs))
by_head n [] = refl
by_head n (x ∷ xs) = tickets_cons n x xs

rest_at : (xs : List (Option Reserved)) (k : ℕ) → room_at (rest_of xs) k ≡ room_at xs (suc k)
rest_at [] k = refl
rest_at (x ∷ xs) k = refl

none_from : (n : ℕ) (ys : List (Option Reserved)) → ((k : ℕ) → room_at ys k ≡ None) → tickets_from n ys ≡ []
none_from n [] h = refl
none_from n (y ∷ ys) h =
    let here : y ≡ None = h 0 in
    tickets_cons n y ys ∙ ap (λ x. with_head n x (tickets_from (suc n) ys)) here ∙ none_from (suc n) ys (λ k. h (suc k))

-- who shows the same rooms has the same list
pub same_tickets : (n : ℕ) (xs ys : List (Option Reserved)) → SameRooms xs ys → tickets_from n ys ≡ tickets_from n xs
same_tickets n [] ys h = none_from n ys h
same_tickets n (x ∷ xs) [] h = sym (none_from n (x ∷ xs) (λ k. sym (h k)))
same_tickets n (x ∷ xs) (y ∷ ys) h =
    let here : y ≡ x = h 0 in
    tickets_cons n y ys ∙ ap (λ z. with_head n z (tickets_from (suc n) ys)) here ∙ ap (with_head n x) (same_tickets (suc n) xs ys (λ k. h (suc k))) ∙ sym (tickets_cons n x xs)

under_head : (n : ℕ) (x : Option Reserved) (ps qs : List Ticket) (t : Ticket) → IsPermutation ps (t ∷ qs) → IsPermutation (with_head n x ps) (t ∷ with_head n x qs)
under_head n None ps qs t p = p
under_head n (Some r) ps qs t p = IsPermutation-trans _ _ _ (IsPermutation-cons _ _ _ p) (IsPermutation-middle (record { spot = n; reserved = r } ∷ []) t qs)

-- one room more is one ticket more, in any order
pub one_more : (spot n at : ℕ) (r : Reserved) (old new : List (Option Reserved)) → at ≡ spot + n → SetsRoom old spot None (Some r) new
    → IsPermutation (tickets_from n new) (record { spot = at; reserved = r } ∷ tickets_from n old)
one_more zero n at r old new e h =
    let here : n ≡ at = omega (arith, e) in
    let news : tickets_from n new ≡ record { spot = n; reserved = r } ∷ tickets_from (suc n) (rest_of new) = by_head n new ∙ ap (λ x. with_head n x (tickets_from (suc n) (rest_of new))) h.is in
    let olds : tickets_from n old ≡ tickets_from (suc n) (rest_of old) = by_head n old ∙ ap (λ x. with_head n x (tickets_from (suc n) (rest_of old))) h.was in
    let rests : tickets_from (suc n) (rest_of new) ≡ tickets_from (suc n) (rest_of old) = same_tickets (suc n) (rest_of old) (rest_of new) (λ k. rest_at new k ∙ h.others (suc k) (away k) ∙ sym (rest_at old k)) in
    let all : tickets_from n new ≡ record { spot = at; reserved = r } ∷ tickets_from n old =
    news ∙ ap (λ (ts : List Ticket). record { spot = n; reserved = r } ∷ ts) (rests ∙ sym olds) ∙ ap (λ (m : ℕ). record { spot = m; reserved = r } ∷ tickets_from n old) here in
    subst (λ ts. IsPermutation ts (record { spot = at; reserved = r } ∷ tickets_from n old)) (sym all) (IsPermutation-refl _)
  where
    away : (k : ℕ) → suc k ≢ 0
    away k = search (rules, tests)
one_more (suc spot) n at r old new e h =
    let rest : IsPermutation (tickets_from (suc n) (rest_of new)) (record { spot = at; reserved = r } ∷ tickets_from (suc n) (rest_of old)) =
    one_more spot (suc n) at r (rest_of old) (rest_of new) (omega (arith, e)) (record {
      was = rest_at old spot ∙ h.was;
      is = rest_at new spot ∙ h.is;
      others = λ k away. rest_at new k ∙ h.others (suc k) (λ same. away (less k spot same)) ∙ sym (rest_at old k);
    }) in
    let heads : room_at new 0 ≡ room_at old 0 = h.others 0 (first spot) in
    subst (λ ts. IsPermutation ts (record { spot = at; reserved = r } ∷ tickets_from n old)) (sym (by_head n new ∙ ap (λ x. with_head n x (tickets_from (suc n) (rest_of new))) heads))
    (subst (λ ts. IsPermutation (with_head n (room_at old 0) (tickets_from (suc n) (rest_of new))) (record { spot = at; reserved = r } ∷ ts)) (sym (by_head n old)) (under_head n (room_at old 0) _ _ (record { spot = at; reserved = r }) rest))
  where
    less : (m k : ℕ) → suc m ≡ suc k → m ≡ k
    less m k same = cc (same)

    first : (m : ℕ) → 0 ≢ suc m
    first m = search (rules, tests)

pub tickets_more : (spot : ℕ) (r : Reserved) (old new : List (Option Reserved)) → SetsRoom old spot None (Some r) new → IsPermutation (tickets_of new) (record { spot = spot; reserved = r } ∷ tickets_of old)
tickets_more spot r old new h = one_more spot 0 spot r old new (omega arith) h

pub tickets_less : (spot : ℕ) (r : Reserved) (old new : List (Option Reserved)) → SetsRoom old spot (Some r) None new → IsPermutation (tickets_of old) (record { spot = spot; reserved = r } ∷ tickets_of new)
tickets_less spot r old new h = tickets_more spot r new old (record { was = h.is; is = h.was; others = λ other away. sym (h.others other away) })
