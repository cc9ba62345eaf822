-- What a packet notes is found by its number, whatever the order of the packets.
use Rattle.partition.proofs.Common.{◌≡◌, ◌≢◌, ◌-◌, ◌+◌, ◌==◌, ℕ, zero, suc, true, false, List, [], ◌∷◌, ◌++◌, Some, refl, sym, ◌∙◌, ap, arith, map, length, take, eqb, length-append, IsPermutation, All, Contains, slice_get, IsDistinct, nat_tests, common_steps, IsDistinct-tail, get_or-map, length-map, All-head, All-tail, All-contains, IsPermutation-refl, Contains-permutation, StackLocation, distinct_first, Packet, packet_number, noted_in, noted_by, noted_last, asked}

-- LISTS

pub map_same : {X Y : Type 0} (f g : X → Y) (xs : List X) → All (λ x. f x ≡ g x) xs → map f xs ≡ map g xs
map_same f g [] h = refl
map_same f g (x ∷ xs) h = cc (All-head (λ x. f x ≡ g x) x xs h, map_same f g xs (All-tail (λ x. f x ≡ g x) x xs h))

pub maps_are : {X Y Z : Type 0} (f : X → Y) (g : Y → Z) (h : X → Z) → ((x : X) → g (f x) ≡ h x) → (xs : List X)
    → map g (map f xs) ≡ map h xs
maps_are f g h same [] = refl
maps_are f g h same (x ∷ xs) = cc (same x, maps_are f g h same xs)

pub Contains-map : {X Y : Type 0} (f : X → Y) (xs : List X) (x : X) → Contains xs x → Contains (map f xs) (f x)
Contains-map f xs x (k, low, is) = (k, simp length-map low, get_or-map f xs k x (f x) low ∙ ap f is)

pub from_map : {X Y : Type 0} (f : X → Y) (xs : List X) (y : Y) → Contains (map f xs) y → (x : X) × Contains xs x × (f x ≡ y)
from_map f [] y (k, low, is) = absurd (omega arith)
from_map f (x ∷ xs) y (zero, low, is) = (x, (0, omega arith, refl), is)
from_map {X} f (x ∷ xs) y (suc k, low, is) = further (from_map f xs y (k, omega arith, is))
  where
    further : (z : X) × Contains xs z × (f z ≡ y) → (z : X) × Contains (x ∷ xs) z × (f z ≡ y)
    further (z, (j, within, same), e) = (z, (suc j, omega arith, same), e)

-- FOUND BY ITS NUMBER

other_test : (m n : ℕ) → m ≢ n → (m == n) ≡ false
other_test m n h = grind (arith, nat_tests)

same_test : (m n : ℕ) → m ≡ n → (m == n) ≡ true
same_test m n h = grind (arith, nat_tests)

-- the first of the packets, and any of another number
pub asked_first : (packet : Packet) (packets : List Packet) → asked (packet ∷ packets) packet.number ≡ noted_last packet.above
asked_first packet packets = rw (same_test packet.number packet.number refl) refl

pub asked_behind : (packet : Packet) (packets : List Packet) (number : ℕ) → packet.number ≢ number
    → asked (packet ∷ packets) number ≡ asked packets number
asked_behind packet packets number other = rw (other_test packet.number number other) refl

-- wherever the packet stands
pub asked_at : (packets : List Packet) (packet : Packet) → IsDistinct eqb (map packet_number packets) → Contains packets packet
    → asked packets packet.number ≡ noted_last packet.above
asked_at [] packet distinct (k, low, is) = absurd (omega arith)
asked_at (x ∷ xs) packet distinct (zero, low, is) =
    ap (λ p. asked (x ∷ xs) p.number) (sym is) ∙ asked_first x xs ∙ ap (λ p. noted_last p.above) is
asked_at (x ∷ xs) packet distinct (suc k, low, is) =
    let others : All (λ y. y.number ≢ x.number) xs = distinct_first packet_number (x ∷ xs) x xs distinct (IsPermutation-refl _) in
    let there : Contains xs packet = (k, omega arith, is) in
    let other : packet.number ≢ x.number = All-contains (λ y. y.number ≢ x.number) xs packet others there in
    asked_behind x xs packet.number (λ e. other (sym e)) ∙ asked_at xs packet (IsDistinct-tail eqb _ _ distinct) there

-- in any order of the packets
pub asked_same : (xs ys : List Packet) (number : ℕ) → IsDistinct eqb (map packet_number xs) → IsDistinct eqb (map packet_number ys)
    → IsPermutation xs ys → Contains (map packet_number xs) number
    → asked xs number ≡ asked ys number
asked_same xs ys number distinct still p there = by (from_map packet_number xs number there)
  where
    by : (x : Packet) × Contains xs x × (x.number ≡ number) → asked xs number ≡ asked ys number
    by (x, is_in, e) =
        ap (λ n. asked xs n) (sym e) ∙ asked_at xs x distinct is_in ∙ sym (asked_at ys x still (Contains-permutation _ _ x p is_in))
        ∙ ap (λ n. asked ys n) e

-- THE LAST LOCATION

pub last_get : (higher : List StackLocation) (own : StackLocation)
    → slice_get (higher ++ own ∷ []) (length (higher ++ own ∷ []) - 1) ≡ Some own
last_get [] own = refl
last_get (x ∷ higher) own =
    let e : length (x ∷ (higher ++ own ∷ [])) - 1 ≡ suc (length (higher ++ own ∷ []) - 1) =
    let l : length (higher ++ own ∷ []) ≡ length higher + 1 = length-append higher (own ∷ []) in omega arith in
    ap (λ n. slice_get (x ∷ (higher ++ own ∷ [])) n) e ∙ last_get higher own

pub noted_at : (above higher : List StackLocation) (own : StackLocation) → above ≡ higher ++ own ∷ [] → noted_last above ≡ noted_in own
noted_at above higher own is = ap noted_last is ∙ ap noted_by (last_get higher own)

-- those above it
pub front_is : (higher : List StackLocation) (own : StackLocation) → take (length (higher ++ own ∷ []) - 1) (higher ++ own ∷ []) ≡ higher
front_is higher own = grind (arith, common_steps)
