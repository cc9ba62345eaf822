-- Bytes written in pieces, one behind the other.
use Rattle.std.proofs.Common.{◌≡◌, ◌≤◌, ◌<◌, inl, inr, ℕ, ◌+◌, ◌-◌, ◌%◌, min, List, ◌++◌, length, take, drop, slice_range, replicate, Bool, true, false, length-append, length-take, length-drop, append_assoc, refl, sym, subst, ◌∙◌, ap, arith}
use Rattle.std.specs.Bool.{OnTrue}
use Rattle.std.proofs.Math.Seq.{take-append-add, take-append_seam, drop-append-add}
use Rattle.std.proofs.lemmas.List.{take-take, drop-drop, take-append-drop, length-take-le, length-replicate, replicate-append-replicate}
use Rattle.nbd.specs.Content.{Content, AreInBounds, IsBlockSize, IsSameOutside, splice, written}
use Rattle.nbd.specs.declared.requests.ReplyError.{ReplyError}
use Rattle.nbd.specs.Replies.{failure}
use Rattle.nbd.specs.Carrying.{Clears, Faulting, IsFailure}

-- what stands in front, at its length
pub front_add : (T rest : List ℕ) (o k : ℕ) → length T ≡ o → take (o + k) (T ++ rest) ≡ T ++ take k rest
front_add T rest o k e = ap (λ (m : ℕ). take (m + k) (T ++ rest)) (sym e) ∙ take-append-add T rest k

drop_add : (T rest : List ℕ) (o k : ℕ) → length T ≡ o → drop (o + k) (T ++ rest) ≡ drop k rest
drop_add T rest o k e = ap (λ (m : ℕ). drop (m + k) (T ++ rest)) (sym e) ∙ drop-append-add T rest k

pub length-spliced : (xs : List ℕ) (o : ℕ) (more : List ℕ) → o + length more ≤ length xs → length (splice xs o more) ≡ length xs
length-spliced xs o more fits = simp (length-append, length-take, length-drop) (omega arith)

-- what stands in front of the part, and behind it
pub front_of : (xs : List ℕ) (o : ℕ) (more : List ℕ) → o ≤ length xs → take o (splice xs o more) ≡ take o xs
front_of xs o more fits =
    let e : length (take o xs) ≡ o = length-take-le o xs fits in
    ap (λ (m : ℕ). take m (splice xs o more)) (sym e) ∙ take-append_seam (take o xs) _

pub behind_of : (xs : List ℕ) (o k : ℕ) (more : List ℕ) → o ≤ length xs → length more ≤ k → drop (o + k) (splice xs o more) ≡ drop (o + k) xs
behind_of xs o k more fits past =
    let a : length more + (k - length more) ≡ k = omega arith in
    let b : o + length more + (k - length more) ≡ o + k = omega arith in
    drop_add (take o xs) _ o k (length-take-le o xs fits)
    ∙ ap (λ (m : ℕ). drop m (more ++ drop (o + length more) xs)) (sym a)
    ∙ drop-append-add more _ (k - length more)
    ∙ drop-drop (k - length more) (o + length more) xs
    ∙ ap (λ (m : ℕ). drop m xs) b

-- two parts, one behind the other, are one
pub two_parts : (xs : List ℕ) (o : ℕ) (ys zs : List ℕ) → o ≤ length xs → splice (splice xs o ys) (o + length ys) zs ≡ splice xs o (ys ++ zs)
two_parts xs o ys zs fits =
    let T = take o xs in
    let D = drop (o + length ys) xs in
    let e : length (take o xs) ≡ o = length-take-le o xs fits in
    let a : take (o + length ys) (splice xs o ys) ≡ T ++ ys = front_add T (ys ++ D) o (length ys) e ∙ ap (λ (l : List ℕ). T ++ l) (take-append_seam ys D) in
    let n : o + length ys + length zs ≡ o + (length ys + length zs) = omega arith in
    let b : drop (o + length ys + length zs) (splice xs o ys) ≡ drop (o + (length ys + length zs)) xs =
    ap (λ (m : ℕ). drop m (splice xs o ys)) n ∙ behind_of xs o (length ys + length zs) ys fits (omega arith) in
    let c : length (ys ++ zs) ≡ length ys + length zs = length-append ys zs in
    ap (λ (l : List ℕ). l ++ (zs ++ drop (o + length ys + length zs) (splice xs o ys))) a
    ∙ ap (λ (l : List ℕ). (T ++ ys) ++ (zs ++ l)) b
    ∙ append_assoc T ys _
    ∙ ap (λ (l : List ℕ). T ++ l) (sym (append_assoc ys zs _))
    ∙ ap (λ (m : ℕ). T ++ ((ys ++ zs) ++ drop (o + m) xs)) (sym c)

-- zeros so far, and more
pub continued : (c mid new : Content) (o a b : ℕ) → o ≤ length c.bytes → mid ≡ written c o (replicate a 0) → new ≡ written mid (o + a) (replicate b 0)
    → new ≡ written c o (replicate (a + b) 0)
continued c mid new o a b fits e f =
    let la : length (replicate {A = ℕ} a 0) ≡ a = length-replicate a 0 in
    let both : splice (splice c.bytes o (replicate a 0)) (o + a) (replicate b 0) ≡ splice c.bytes o (replicate (a + b) 0) =
    ap (λ (m : ℕ). splice (splice c.bytes o (replicate a 0)) (o + m) (replicate b 0)) (sym la)
    ∙ two_parts c.bytes o (replicate a 0) (replicate b 0) fits
    ∙ ap (λ (l : List ℕ). splice c.bytes o l) (replicate-append-replicate a b 0) in
    f ∙ ap (λ (m : Content). written m (o + a) (replicate b 0)) e ∙ ap (λ (l : List ℕ). record c { bytes = l }) both

-- zeros so far, and then a piece that failed
pub broken_off : (c mid new : Content) (o a b n : ℕ) → o + n ≤ length c.bytes → a + b ≤ n → mid ≡ written c o (replicate a 0)
    → IsSameOutside mid (o + a) b new → IsSameOutside c o n new
broken_off c mid new o a b n fits within e h =
    let la : length (replicate {A = ℕ} a 0) ≡ a = length-replicate a 0 in
    let bytes : mid.bytes ≡ splice c.bytes o (replicate a 0) = ap (λ (m : Content). m.bytes) e in
    let k : o + a + b + (n - (a + b)) ≡ o + n = omega arith in
    record {
      block = h.block ∙ ap (λ (m : Content). m.block) e;
      long = h.long ∙ ap (length {A = ℕ}) bytes ∙ length-spliced c.bytes o (replicate a 0) (omega (arith, la));
      before =
          sym (take-take o (o + a) new.bytes (omega arith))
          ∙ ap (take o) (h.before ∙ ap (take (o + a)) bytes)
          ∙ take-take o (o + a) (splice c.bytes o (replicate a 0)) (omega arith)
          ∙ front_of c.bytes o (replicate a 0) (omega arith);
      behind =
          ap (λ (m : ℕ). drop m new.bytes) (sym k)
          ∙ sym (drop-drop (n - (a + b)) (o + a + b) new.bytes)
          ∙ ap (drop (n - (a + b))) (h.behind ∙ ap (drop (o + a + b)) bytes)
          ∙ drop-drop (n - (a + b)) (o + a + b) (splice c.bytes o (replicate a 0))
          ∙ ap (λ (m : ℕ). drop m (splice c.bytes o (replicate a 0))) k
          ∙ behind_of c.bytes o n (replicate a 0) (omega arith) (omega (arith, la));
      told = h.told ∙ ap (λ (m : Content). m.read_only) e;
    }

abbrev Pieces : ℕ → ℕ → ℕ → ℕ → ℕ → Type 0
Pieces o a b n block = o % block ≡ 0 → n % block ≡ 0 → a % block ≡ 0 → ((o + a) % block ≡ 0) × (b % block ≡ 0) × ((a + b) % block ≡ 0)

-- the bounds of the next piece
pub piece_within : (c mid : Content) (o a b n : ℕ) → AreInBounds c.block (length c.bytes) o n → IsBlockSize c.block → a % c.block ≡ 0 → a < n → b ≡ min (n - a) 1048576
    → mid ≡ written c o (replicate a 0) → AreInBounds mid.block (length mid.bytes) (o + a) b × ((a + b) % c.block ≡ 0)
piece_within c mid o a b n h size whole more piece e =
    let block : mid.block ≡ c.block = ap (λ (m : Content). m.block) e in
    let la : length (replicate {A = ℕ} a 0) ≡ a = length-replicate a 0 in
    let bytes : length mid.bytes ≡ length c.bytes = ap (λ (m : Content). length {A = ℕ} m.bytes) e ∙ length-spliced c.bytes o (replicate a 0) (omega (arith, la, h.inside)) in
    let p = pieces c.block o a b n size h.begins h.ends whole more piece in
    (rw (block, bytes) (record { begins = p.0; ends = p.1; some = omega (arith, more, piece); inside = omega (arith, h.inside, more, piece) }), p.2)
  where
    pieces : (block o a b n : ℕ) → IsBlockSize block → o % block ≡ 0 → n % block ≡ 0 → a % block ≡ 0 → a < n → b ≡ min (n - a) 1048576
        → ((o + a) % block ≡ 0) × (b % block ≡ 0) × ((a + b) % block ≡ 0)
    pieces block o a b n (inl s) ho hn ha more piece =
        subst (Pieces o a b n) (sym s) (λ ho hn ha. (omega arith, omega arith, omega arith)) ho hn ha
    pieces block o a b n (inr s) ho hn ha more piece =
        subst (Pieces o a b n) (sym s) (λ ho hn ha. (omega arith, omega arith, omega arith)) ho hn ha

-- a piece of zeros that failed
pub failed_piece : (F : Faulting) (c mid new : Content) (o a b n : ℕ) (error : ReplyError) → IsFailure F mid error new → o + n ≤ length c.bytes → a < n → a + b ≤ n
    → mid ≡ written c o (replicate a 0) → IsSameOutside mid (o + a) b new → Clears F c o n (failure error) new
failed_piece F c mid new o a b n error failed fits fewer within e h =
    inr (record {
      done = a;
      fewer = fewer;
      fails = record { error = error; why = subst (λ (x : Content). IsFailure F x error new) e failed; is = refl };
      outside = broken_off c mid new o a b n fits within e h;
    })

-- what was written changes nothing outside
pub written_inside : (c : Content) (o : ℕ) (more : List ℕ) → o + length more ≤ length c.bytes → IsSameOutside c o (length more) (written c o more)
written_inside c o more fits = record {
  block = refl;
  long = length-spliced c.bytes o more fits;
  before = front_of c.bytes o more (omega arith);
  behind = behind_of c.bytes o (length more) more (omega arith) (omega arith);
  told = refl;
}

-- bytes that stand there already change nothing
pub standing : (c : Content) (o : ℕ) (bytes : List ℕ) → o + length bytes ≤ length c.bytes → slice_range c.bytes o (o + length bytes) ≡ bytes → c ≡ written c o bytes
standing c o bytes fits there =
    let n : ℕ = length bytes in
    let count : o + n - o ≡ n = omega arith in
    let part : take n (drop o c.bytes) ≡ bytes = ap (λ (m : ℕ). take m (drop o c.bytes)) (sym count) ∙ there in
    let rest : take n (drop o c.bytes) ++ drop (o + n) c.bytes ≡ drop o c.bytes =
    ap (λ (l : List ℕ). take n (drop o c.bytes) ++ l) (sym (drop-drop n o c.bytes)) ∙ take-append-drop n (drop o c.bytes) in
    let all : c.bytes ≡ splice c.bytes o bytes =
    sym (take-append-drop o c.bytes) ∙ ap (λ (l : List ℕ). take o c.bytes ++ l) (sym rest)
    ∙ ap (λ (l : List ℕ). take o c.bytes ++ (l ++ drop (o + n) c.bytes)) part in
    ap (λ (l : List ℕ). record c { bytes = l }) all

-- bytes that were read, and are these
pub found_there : (all : List ℕ) (o : ℕ) (bytes buffer found shown : List ℕ) (same : Bool) → length buffer ≡ length bytes
    → found ≡ slice_range all o (o + length buffer) → shown ≡ found → OnTrue same (shown ≡ bytes) → OnTrue same (slice_range all o (o + length bytes) ≡ bytes)
found_there all o bytes buffer found shown true long reads is told =
    ap (λ (n : ℕ). slice_range all o (o + n)) (sym long) ∙ sym reads ∙ sym is ∙ told
found_there all o bytes buffer found shown false long reads is told = told

pub standing_if : (c : Content) (o : ℕ) (bytes : List ℕ) (there : Bool) → o + length bytes ≤ length c.bytes
    → OnTrue there (slice_range c.bytes o (o + length bytes) ≡ bytes) → OnTrue there (c ≡ written c o bytes)
standing_if c o bytes true fits is = standing c o bytes fits is
standing_if c o bytes false fits is = is
