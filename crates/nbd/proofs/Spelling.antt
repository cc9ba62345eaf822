-- A request has one spelling.
use Rattle.std.proofs.Common.{◌≡◌, ◌≤◌, ◌<◌, inl, inr, ◌^◌, ◌*◌, ◌+◌, ℕ, zero, suc, List, [], ◌∷◌, ◌++◌, length, take, drop, length-drop, refl, sym, subst, ◌∙◌, ap, arith}
use Rattle.std.specs.List.{AllByRecursion}
use Rattle.std.specs.Int.{byte_at}
use Rattle.std.proofs.Math.Nat.{add-mul, mul-le-mul_right}
use Rattle.std.proofs.Math.Seq.{drop-length}
use Rattle.std.proofs.lemmas.Bool.{cases_lt}
use Rattle.std.proofs.lemmas.List.{take-append-drop, drop-drop, length-take-le, get_or-drop}
use Rattle.byteorder.specs.Endian.{big_from, big_bytes}
use Rattle.byteorder.specs.Numbers.{big_from-cons, big_from-lt, big_number-reads_back}
use Rattle.nbd.specs.declared.requests.Request.{Request}
use Rattle.nbd.specs.Requests.{IsRequest, request_in}
use Rattle.nbd.specs.Laws.{AreBytes, FitsRequest, HasOneSpelling, request_bytes}

-- a number behind others
behind : (pre xs : List ℕ) (i n k : ℕ) → length pre + i ≡ k → big_from k n (pre ++ xs) ≡ big_from i n xs
behind [] xs i n k e = let f : k ≡ i = omega (arith, e) in ap (λ (m : ℕ). big_from m n xs) f
behind (a ∷ pre) xs i n k e =
    let f : k ≡ suc (length pre + i) = omega (arith, e) in
    ap (λ (m : ℕ). big_from m n (a ∷ (pre ++ xs))) f ∙ big_from-cons (length pre + i) n a (pre ++ xs) ∙ behind pre xs i n (length pre + i) refl

at_drop : (k n : ℕ) (xs : List ℕ) → k ≤ length xs → big_from k n xs ≡ big_from 0 n (drop k xs)
at_drop k n xs h =
    let e : length (take k xs) ≡ k = length-take-le k xs h in
    ap (big_from k n) (sym (take-append-drop k xs)) ∙ behind (take k xs) (drop k xs) 0 n k (omega (arith, e))

-- the digits of a number
digits : (a b p r s : ℕ) → r < p → s < p → a * p + r ≡ b * p + s → (a ≡ b) × (r ≡ s)
digits a b p r s hr hs e = elim (cases_lt a b) [
  | inl lt ↦
      let m : (a + 1) * p ≤ b * p = mul-le-mul_right p (omega arith) in
      let x : (a + 1) * p ≡ a * p + 1 * p = add-mul a 1 p in
      absurd (omega arith)
  | inr ge ↦ elim (cases_lt b a) [
    | inl lt ↦
        let m : (b + 1) * p ≤ a * p = mul-le-mul_right p (omega arith) in
        let x : (b + 1) * p ≡ b * p + 1 * p = add-mul b 1 p in
        absurd (omega arith)
    | inr le ↦
        let q : a ≡ b = omega arith in
        let m : a * p ≡ b * p = ap (λ (n : ℕ). n * p) q in
        (q, omega arith)
  ]
]

-- numbers in as many bytes have the same bytes
same_number : (n : ℕ) (xs ys : List ℕ) → n ≤ length xs → n ≤ length ys → AreBytes xs → AreBytes ys → big_from 0 n xs ≡ big_from 0 n ys → take n xs ≡ take n ys
same_number zero xs ys h k p q e = refl
same_number (suc n) [] ys h k p q e = absurd (omega (arith, h))
same_number (suc n) (a ∷ xs) [] h k p q e = absurd (omega (arith, k))
same_number (suc n) (a ∷ xs) (b ∷ ys) h k p q e =
    let p' : AreBytes xs = λ i. p (suc i) in
    let q' : AreBytes ys = λ i. q (suc i) in
    let mx : big_from 1 n (a ∷ xs) ≡ big_from 0 n xs = big_from-cons 0 n a xs in
    let my : big_from 1 n (b ∷ ys) ≡ big_from 0 n ys = big_from-cons 0 n b ys in
    let e' : a * 256 ^ n + big_from 0 n xs ≡ b * 256 ^ n + big_from 0 n ys =
    ap (λ (r : ℕ). a * 256 ^ n + r) (sym mx) ∙ e ∙ ap (λ (r : ℕ). b * 256 ^ n + r) my in
    let s = digits a b (256 ^ n) (big_from 0 n xs) (big_from 0 n ys) (big_from-lt 0 n xs p') (big_from-lt 0 n ys q') e' in
    ap (λ (x : ℕ). x ∷ take n xs) s.0 ∙ ap (λ (l : List ℕ). b ∷ l) (same_number n xs ys (omega (arith, h)) (omega (arith, k)) p' q' s.1)

bytes_behind : (k : ℕ) (xs : List ℕ) → AreBytes xs → AreBytes (drop k xs)
bytes_behind k xs p i = subst (λ (b : ℕ). b < 256) (sym (get_or-drop k xs i 0)) (p (k + i))

-- one field, in front of what is the same
field : (k n m : ℕ) (xs ys : List ℕ) → k + n ≡ m → m ≤ length xs → m ≤ length ys → AreBytes xs → AreBytes ys → big_from k n xs ≡ big_from k n ys → drop m xs ≡ drop m ys
    → drop k xs ≡ drop k ys
field k n m xs ys e hx hy p q same rest =
    let lx : n ≤ length (drop k xs) = simp length-drop (omega arith) in
    let ly : n ≤ length (drop k ys) = simp length-drop (omega arith) in
    let front = same_number n (drop k xs) (drop k ys) lx ly (bytes_behind k xs p) (bytes_behind k ys q)
    (sym (at_drop k n xs (omega arith)) ∙ same ∙ at_drop k n ys (omega arith)) in
    let back : drop n (drop k xs) ≡ drop n (drop k ys) =
    drop-drop n k xs ∙ ap (λ (j : ℕ). drop j xs) e ∙ rest ∙ sym (drop-drop n k ys ∙ ap (λ (j : ℕ). drop j ys) e) in
    sym (take-append-drop n (drop k xs)) ∙ ap (λ (l : List ℕ). l ++ drop n (drop k xs)) front ∙ ap (λ (l : List ℕ). take n (drop k ys) ++ l) back ∙ take-append-drop n (drop k ys)

-- THE BYTES OF A REQUEST

byte_small : (n x : ℕ) → byte_at n x < 256
byte_small zero x = omega arith
byte_small (suc k) x = omega arith

read_at : (xs : List ℕ) → AllByRecursion (λ b. b < 256) xs → AreBytes xs
read_at [] h zero = omega arith
read_at [] h (suc k) = omega arith
read_at (x ∷ xs) h zero = h.0
read_at (x ∷ xs) h (suc k) = read_at xs h.1 k

high : (n x : ℕ) → AllByRecursion (λ b. b < 256) (big_bytes n x)
high zero x = tt
high (suc n) x = (byte_small n x, high n x)

both : (xs ys : List ℕ) → AllByRecursion (λ b. b < 256) xs → AllByRecursion (λ b. b < 256) ys → AllByRecursion (λ b. b < 256) (xs ++ ys)
both [] ys h k = k
both (x ∷ xs) ys h k = (h.0, both xs ys h.1 k)

bytes_of_request : (r : Request) → AreBytes (request_bytes r)
bytes_of_request r =
    let m = big_bytes 4 0x25609513 in
    let f = big_bytes 2 r.flags in
    let k = big_bytes 2 r.kind in
    let c = big_bytes 8 r.cookie in
    let o = big_bytes 8 r.offset in
    let n = big_bytes 4 r.count in
    read_at (request_bytes r)
    (both m (f ++ (k ++ (c ++ (o ++ n)))) (high 4 0x25609513)
    (both f (k ++ (c ++ (o ++ n))) (high 2 r.flags)
    (both k (c ++ (o ++ n)) (high 2 r.kind)
    (both c (o ++ n) (high 8 r.cookie)
    (both o n (high 8 r.offset) (high 4 r.count))))))

abbrev make : ℕ → ℕ → ℕ → ℕ → ℕ → Request
make f k c o n = record { flags = f; kind = k; cookie = c; offset = o; count = n }

same_request : (r : Request) (f k c o n : ℕ) → f ≡ r.flags → k ≡ r.kind → c ≡ r.cookie → o ≡ r.offset → n ≡ r.count → r ≡ make f k c o n
same_request r f k c o n ef ek ec eo en =
    sym (ap (λ (x : ℕ). make x k c o n) ef ∙ ap (λ (x : ℕ). make r.flags x c o n) ek ∙ ap (λ (x : ℕ). make r.flags r.kind x o n) ec
    ∙ ap (λ (x : ℕ). make r.flags r.kind r.cookie x n) eo ∙ ap (λ (x : ℕ). make r.flags r.kind r.cookie r.offset x) en)

spelled : (r : Request) → FitsRequest r → IsRequest (request_bytes r) r
spelled r h =
    let m = big_bytes 4 0x25609513 in
    let f = big_bytes 2 r.flags in
    let k = big_bytes 2 r.kind in
    let c = big_bytes 8 r.cookie in
    let o = big_bytes 8 r.offset in
    let n = big_bytes 4 r.count in
    let flags : big_from 4 2 (request_bytes r) ≡ r.flags =
    behind m (f ++ (k ++ (c ++ (o ++ n)))) 0 2 4 refl ∙ big_number-reads_back 2 r.flags (k ++ (c ++ (o ++ n))) h.flags in
    let kind : big_from 6 2 (request_bytes r) ≡ r.kind =
    behind (m ++ f) (k ++ (c ++ (o ++ n))) 0 2 6 refl ∙ big_number-reads_back 2 r.kind (c ++ (o ++ n)) h.kind in
    let cookie : big_from 8 8 (request_bytes r) ≡ r.cookie =
    behind (m ++ (f ++ k)) (c ++ (o ++ n)) 0 8 8 refl ∙ big_number-reads_back 8 r.cookie (o ++ n) h.cookie in
    let offset : big_from 16 8 (request_bytes r) ≡ r.offset =
    behind (m ++ (f ++ (k ++ c))) (o ++ n) 0 8 16 refl ∙ big_number-reads_back 8 r.offset n h.offset in
    let count : big_from 24 4 (request_bytes r) ≡ r.count =
    behind (m ++ (f ++ (k ++ (c ++ o)))) (n ++ []) 0 4 24 refl ∙ big_number-reads_back 4 r.count [] h.count in
    record { long = refl; magic = refl; fields = same_request r _ _ _ _ _ flags kind cookie offset count }

same_fields : (r : Request) (xs ys : List ℕ) → AreBytes xs → AreBytes ys → IsRequest xs r → IsRequest ys r → xs ≡ ys
same_fields r xs ys p q h k =
    let e : request_in xs ≡ request_in ys = sym h.fields ∙ k.fields in
    let end : drop 28 xs ≡ drop 28 ys =
    ap (λ (n : ℕ). drop n xs) (sym h.long) ∙ drop-length xs ∙ sym (ap (λ (n : ℕ). drop n ys) (sym k.long) ∙ drop-length ys) in
    let lx : length xs ≡ 28 = h.long in
    let ly : length ys ≡ 28 = k.long in
    let d24 = field 24 4 28 xs ys refl (omega arith) (omega arith) p q (ap (λ (r : Request). r.count) e) end in
    let d16 = field 16 8 24 xs ys refl (omega arith) (omega arith) p q (ap (λ (r : Request). r.offset) e) d24 in
    let d8 = field 8 8 16 xs ys refl (omega arith) (omega arith) p q (ap (λ (r : Request). r.cookie) e) d16 in
    let d6 = field 6 2 8 xs ys refl (omega arith) (omega arith) p q (ap (λ (r : Request). r.kind) e) d8 in
    let d4 = field 4 2 6 xs ys refl (omega arith) (omega arith) p q (ap (λ (r : Request). r.flags) e) d6 in
    field 0 4 4 xs ys refl (omega arith) (omega arith) p q (h.magic ∙ sym k.magic) d4

pub one_spelling : HasOneSpelling
one_spelling r bytes fits are =
    (λ h. same_fields r bytes (request_bytes r) are (bytes_of_request r) h (spelled r fits), λ e. subst (λ (b : List ℕ). IsRequest b r) (sym e) (spelled r fits))
