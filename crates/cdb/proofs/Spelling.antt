-- A command has one plain block.
use Rattle.std.proofs.Common.{◌≡◌, ◌<◌, ◌+◌, ◌*◌, ◌^◌, ℕ, suc, List, length, slice_index, sym, ◌∙◌, arith, below_more, lit<}
use Rattle.std.proofs.lemmas.Grind.{same_number_lists}
use Rattle.byteorder.specs.Endian.{big_from}
use Rattle.cdb.specs.declared.Cdb.{Cdb}
use Rattle.cdb.specs.declared.Cdb.TheVariants.{Read10, Write10, Sync10, ReadCapacity10, Read16, Write16, Sync16, ReadCapacity16}
use Rattle.cdb.specs.Meaning.{Means, HasPlace, HasLongPlace, IsPlain, AreBytes, unused}
use Rattle.cdb.proofs.Once.{has_code}

-- two blocks have one byte at this place
abbrev pub AgreeAt : List ℕ → List ℕ → ℕ → Type 0
AgreeAt a b k = slice_index a k ≡ slice_index b k

-- they agree at each of the four places from this one on
record AgreeAtFour (a b : List ℕ) (i : ℕ) : Type 0 where
  at_0 : AgreeAt a b i
  at_1 : AgreeAt a b (suc i)
  at_2 : AgreeAt a b (suc (suc i))
  at_3 : AgreeAt a b (suc (suc (suc i)))

-- the bytes of a list up to this place
abbrev pub HasBytesTo : List ℕ → ℕ → Type 0
HasBytesTo a n = (k : ℕ) → k < n → slice_index a k < 256

has_bytes : (a : List ℕ) (n : ℕ) → AreBytes a → length a ≡ n → HasBytesTo a n
has_bytes a n bytes long k h = bytes k (omega (arith, long))

-- two numbers of two bytes, and of four, have the same bytes
two_bytes : (a b : List ℕ) (i n : ℕ) → HasBytesTo a n → HasBytesTo b n → suc i < n → big_from i 2 a ≡ big_from i 2 b → AgreeAt a b i × AgreeAt a b (suc i)
two_bytes a b i n p q within e =
    let a0 : slice_index a i < 256 = p i (omega arith) in
    let a1 : slice_index a (suc i) < 256 = p (suc i) within in
    let b0 : slice_index b i < 256 = q i (omega arith) in
    let b1 : slice_index b (suc i) < 256 = q (suc i) within in
    (omega arith, omega arith)

four_bytes : (a b : List ℕ) (i n : ℕ) → HasBytesTo a n → HasBytesTo b n → suc (suc (suc i)) < n → big_from i 4 a ≡ big_from i 4 b → AgreeAtFour a b i
four_bytes a b i n p q within e =
    let a0 : slice_index a i < 256 = p i (omega arith) in
    let a1 : slice_index a (suc i) < 256 = p (suc i) (omega arith) in
    let a2 : slice_index a (suc (suc i)) < 256 = p (suc (suc i)) (omega arith) in
    let a3 : slice_index a (suc (suc (suc i))) < 256 = p (suc (suc (suc i))) within in
    let b0 : slice_index b i < 256 = q i (omega arith) in
    let b1 : slice_index b (suc i) < 256 = q (suc i) (omega arith) in
    let b2 : slice_index b (suc (suc i)) < 256 = q (suc (suc i)) (omega arith) in
    let b3 : slice_index b (suc (suc (suc i))) < 256 = q (suc (suc (suc i))) within in
    record { at_0 = omega arith; at_1 = omega arith; at_2 = omega arith; at_3 = omega arith }

-- four bytes make a number below 2 ^ 32
four_below : (a : List ℕ) (i n : ℕ) → HasBytesTo a n → suc (suc (suc i)) < n → big_from i 4 a < 2 ^ 32
four_below a i n p within =
    let a0 : slice_index a i < 256 = p i (omega arith) in
    let a1 : slice_index a (suc i) < 256 = p (suc i) (omega arith) in
    let a2 : slice_index a (suc (suc i)) < 256 = p (suc (suc i)) (omega arith) in
    let a3 : slice_index a (suc (suc (suc i))) < 256 = p (suc (suc (suc i))) within in
    omega arith

-- eight bytes are four and four
halves : (a : List ℕ) → big_from 2 8 a ≡ big_from 2 4 a * 2 ^ 32 + big_from 6 4 a
halves a = omega arith

same_halves : (x y v w : ℕ) → y < 2 ^ 32 → w < 2 ^ 32 → x * 2 ^ 32 + y ≡ v * 2 ^ 32 + w → (x ≡ v) × (y ≡ w)
same_halves x y v w h k e = (omega arith, omega arith)

-- the bytes of a short block, and of a long one
same_short : (a b : List ℕ) → length a ≡ 10 → length b ≡ 10 → AgreeAt a b 0 → AgreeAt a b 1 → AgreeAtFour a b 2 → AgreeAt a b 6 → AgreeAt a b 7 → AgreeAt a b 8 → AgreeAt a b 9
    → a ≡ b
same_short a b la lb e0 e1 e e6 e7 e8 e9 =
    same_number_lists a b (la ∙ sym lb)
    (λ k h. up_to 9 (up_to 8 (up_to 7 (up_to 6 (up_to 5 (up_to 4 (up_to 3 (up_to 2 (up_to 1 (up_to 0
    (λ k h. absurd (omega (arith, h))) e0) e1) e.at_0) e.at_1) e.at_2) e.at_3) e6) e7) e8) e9 k (omega (arith, la, h)))
  where
    up_to : (n : ℕ) → ((k : ℕ) → k < n → AgreeAt a b k) → AgreeAt a b n → (k : ℕ) → k < n + 1 → AgreeAt a b k
    up_to n = below_more (AgreeAt a b) n

same_long : (a b : List ℕ) → length a ≡ 16 → length b ≡ 16 → AgreeAt a b 0 → AgreeAt a b 1 → AgreeAtFour a b 2 → AgreeAtFour a b 6 → AgreeAtFour a b 10 → AgreeAt a b 14
    → AgreeAt a b 15 → a ≡ b
same_long a b la lb e0 e1 e f g e14 e15 =
    same_number_lists a b (la ∙ sym lb)
    (λ k h. up_to 15 (up_to 14 (up_to 13 (up_to 12 (up_to 11 (up_to 10 (up_to 9 (up_to 8 (up_to 7 (up_to 6 (up_to 5 (up_to 4 (up_to 3 (up_to 2 (up_to 1 (up_to 0
    (λ k h. absurd (omega (arith, h))) e0) e1) e.at_0) e.at_1) e.at_2) e.at_3) f.at_0) f.at_1) f.at_2) f.at_3) g.at_0) g.at_1) g.at_2) g.at_3) e14) e15 k (omega (arith, la, h)))
  where
    up_to : (n : ℕ) → ((k : ℕ) → k < n → AgreeAt a b k) → AgreeAt a b n → (k : ℕ) → k < n + 1 → AgreeAt a b k
    up_to n = below_more (AgreeAt a b) n

-- two plain blocks are 0 at each unused place
zero_in_both : (a b : List ℕ) (c : Cdb) → IsPlain a c → IsPlain b c → (j : ℕ) → j < length (unused c) → AgreeAt a b (slice_index (unused c) j)
zero_in_both a b c p q j h = p.unused_bytes j 0 h ∙ sym (q.unused_bytes j 0 h)

same_code : (a b : List ℕ) (c : Cdb) → Means a c → Means b c → AgreeAt a b 0
same_code a b c h i = has_code a c h ∙ sym (has_code b c i)

same_option : (a b : List ℕ) (c : Cdb) → IsPlain a c → IsPlain b c → AgreeAt a b 1
same_option a b c p q = p.option ∙ sym q.option

-- plain blocks of ten bytes with an address and a number of blocks
with_place : (a b : List ℕ) (lba count : ℕ) → AreBytes a → AreBytes b → length a ≡ 10 → length b ≡ 10 → AgreeAt a b 0 → AgreeAt a b 1
    → HasPlace a lba count → HasPlace b lba count → AgreeAt a b 6 → AgreeAt a b 9 → a ≡ b
with_place a b lba count p q la lb e0 e1 h i e6 e9 =
    let count' : AgreeAt a b 7 × AgreeAt a b 8 = two_bytes a b 7 10 (has_bytes a 10 p la) (has_bytes b 10 q lb) (lit< tt) (h.blocks ∙ sym i.blocks) in
    same_short a b la lb e0 e1 (four_bytes a b 2 10 (has_bytes a 10 p la) (has_bytes b 10 q lb) (lit< tt) (h.address ∙ sym i.address)) e6 count'.0 count'.1 e9

-- and of sixteen
with_long_place : (a b : List ℕ) (lba count : ℕ) → AreBytes a → AreBytes b → length a ≡ 16 → length b ≡ 16 → AgreeAt a b 0 → AgreeAt a b 1
    → HasLongPlace a lba count → HasLongPlace b lba count → AgreeAt a b 14 → AgreeAt a b 15 → a ≡ b
with_long_place a b lba count p q la lb e0 e1 h i e14 e15 =
    let p' : HasBytesTo a 16 = has_bytes a 16 p la in
    let q' : HasBytesTo b 16 = has_bytes b 16 q lb in
    let parts : (big_from 2 4 a ≡ big_from 2 4 b) × (big_from 6 4 a ≡ big_from 6 4 b) =
    same_halves _ _ _ _ (four_below a 6 16 p' (lit< tt)) (four_below b 6 16 q' (lit< tt)) (sym (halves a) ∙ h.address ∙ sym i.address ∙ halves b) in
    same_long a b la lb e0 e1 (four_bytes a b 2 16 p' q' (lit< tt) parts.0) (four_bytes a b 6 16 p' q' (lit< tt) parts.1)
    (four_bytes a b 10 16 p' q' (lit< tt) (h.blocks ∙ sym i.blocks)) e14 e15

pub one_spelling : (a b : List ℕ) (c : Cdb) → Means a c → IsPlain a c → Means b c → IsPlain b c → a ≡ b
one_spelling a b (Read10 l n f) h p i q =
    let zero = zero_in_both a b (Read10 l n f) p q in
    with_place a b l n p.are_bytes q.are_bytes p.no_more q.no_more (same_code a b (Read10 l n f) h i) (same_option a b (Read10 l n f) p q) h.1 i.1 (zero 0 (lit< tt)) (zero 1 (lit< tt))
one_spelling a b (Write10 l n f) h p i q =
    let zero = zero_in_both a b (Write10 l n f) p q in
    with_place a b l n p.are_bytes q.are_bytes p.no_more q.no_more (same_code a b (Write10 l n f) h i) (same_option a b (Write10 l n f) p q) h.1 i.1 (zero 0 (lit< tt)) (zero 1 (lit< tt))
one_spelling a b (Sync10 l n) h p i q =
    let zero = zero_in_both a b (Sync10 l n) p q in
    with_place a b l n p.are_bytes q.are_bytes p.no_more q.no_more (same_code a b (Sync10 l n) h i) (same_option a b (Sync10 l n) p q) h.1 i.1 (zero 0 (lit< tt)) (zero 1 (lit< tt))
one_spelling a b ReadCapacity10 h p i q =
    let zero = zero_in_both a b ReadCapacity10 p q in
    same_short a b p.no_more q.no_more (same_code a b ReadCapacity10 h i) (same_option a b ReadCapacity10 p q)
    (record { at_0 = zero 0 (lit< tt); at_1 = zero 1 (lit< tt); at_2 = zero 2 (lit< tt); at_3 = zero 3 (lit< tt) })
    (zero 4 (lit< tt)) (zero 5 (lit< tt)) (zero 6 (lit< tt)) (zero 7 (lit< tt))
one_spelling a b (Read16 l n f) h p i q =
    let zero = zero_in_both a b (Read16 l n f) p q in
    with_long_place a b l n p.are_bytes q.are_bytes p.no_more q.no_more (same_code a b (Read16 l n f) h i) (same_option a b (Read16 l n f) p q) h.1 i.1 (zero 0 (lit< tt)) (zero 1 (lit< tt))
one_spelling a b (Write16 l n f) h p i q =
    let zero = zero_in_both a b (Write16 l n f) p q in
    with_long_place a b l n p.are_bytes q.are_bytes p.no_more q.no_more (same_code a b (Write16 l n f) h i) (same_option a b (Write16 l n f) p q) h.1 i.1 (zero 0 (lit< tt)) (zero 1 (lit< tt))
one_spelling a b (Sync16 l n) h p i q =
    let zero = zero_in_both a b (Sync16 l n) p q in
    with_long_place a b l n p.are_bytes q.are_bytes p.no_more q.no_more (same_code a b (Sync16 l n) h i) (same_option a b (Sync16 l n) p q) h.1 i.1 (zero 0 (lit< tt)) (zero 1 (lit< tt))
one_spelling a b (ReadCapacity16 n) h p i q =
    let zero = zero_in_both a b (ReadCapacity16 n) p q in
    let p' : HasBytesTo a 16 = has_bytes a 16 p.are_bytes p.no_more in
    let q' : HasBytesTo b 16 = has_bytes b 16 q.are_bytes q.no_more in
    same_long a b p.no_more q.no_more (same_code a b (ReadCapacity16 n) h i) (same_option a b (ReadCapacity16 n) p q)
    (record { at_0 = zero 0 (lit< tt); at_1 = zero 1 (lit< tt); at_2 = zero 2 (lit< tt); at_3 = zero 3 (lit< tt) })
    (record { at_0 = zero 4 (lit< tt); at_1 = zero 5 (lit< tt); at_2 = zero 6 (lit< tt); at_3 = zero 7 (lit< tt) })
    (four_bytes a b 10 16 p' q' (lit< tt) (h.1.room ∙ sym i.1.room)) (zero 8 (lit< tt)) (zero 9 (lit< tt))
