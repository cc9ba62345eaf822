-- Different bytes have different numbers.
use Rattle.std.proofs.Common.{◌≡◌, inl, inr, ℕ, zero, suc, ◌==◌, Bool, true, false, List, [], ◌∷◌, refl, sym, ◌∙◌, ap, arith, eq-eqb, length}
use Rattle.std.specs.Str.{bytes_eq}
use Rattle.std.proofs.lemmas.Bool.{cases_Bool, eqb-true, ne_eqb}
use Rattle.std.proofs.lemmas.Slice.Eq.{bytes_eq-Decides}
use Rattle.register.specs.Values.{doubled, code, CodesTell}

same_doubled : (x y a b : ℕ) → doubled x a ≡ doubled y b → (x ≡ y) × (a ≡ b)
same_doubled zero zero a b e = (refl, omega (arith, e))
same_doubled zero (suc y) a b e = absurd (omega (arith, e))
same_doubled (suc x) zero a b e = absurd (omega (arith, e))
same_doubled (suc x) (suc y) a b e =
    let h : (x ≡ y) × (a ≡ b) = same_doubled x y a b (omega (arith, e)) in
    (ap suc h.0, h.1)

some_doubled : (x a : ℕ) → doubled x a ≡ 0 → ⊥
some_doubled zero a e = absurd (omega (arith, e))
some_doubled (suc x) a e = some_doubled x a (omega (arith, e))

pub codes_tell : CodesTell
unfolding code
codes_tell [] [] e = refl
codes_tell [] (y ∷ ys) e = absurd (some_doubled y (code ys) (sym e))
codes_tell (x ∷ xs) [] e = absurd (some_doubled x (code xs) e)
codes_tell (x ∷ xs) (y ∷ ys) e =
    let h : (x ≡ y) × (code xs ≡ code ys) = same_doubled x y (code xs) (code ys) e in
    ap (λ z. z ∷ xs) h.0 ∙ ap (λ zs. y ∷ zs) (codes_tell xs ys h.1)

-- no bytes have the number 0
pub none_is : code [] ≡ 0
unfolding code
none_is = refl

-- bytes are the same where their numbers are
pub is_same : (a b : List ℕ) (same : Bool) → same ≡ bytes_eq a b → same ≡ (code a == code b)
is_same a b true e = sym (eq-eqb (code a) (code b) (ap code ((bytes_eq-Decides a b).0 (sym e))))
is_same a b false e = elim (cases_Bool (code a == code b)) [
  | inl same ↦ absurd (cc (sym ((bytes_eq-Decides a b).1 (codes_tell a b (eqb-true (code a) (code b) same))) ∙ sym e))
  | inr other ↦ sym other
]

pub same_by : (a b : List ℕ) (x y : ℕ) (same : Bool) → same ≡ bytes_eq a b → x ≡ code a → y ≡ code b → same ≡ (x == y)
same_by a b x y same is e f = rw e (rw f (is_same a b same is))

-- only no bytes have it
pub is_none_by : (bytes : List ℕ) (none : Bool) (n : ℕ) → n ≡ code bytes → none ≡ (length bytes == 0) → none ≡ (n == 0)
unfolding code
is_none_by [] none n is h = h ∙ sym (eq-eqb n 0 is)
is_none_by (byte ∷ bytes) none n is h = h ∙ ne_eqb (length (byte ∷ bytes)) 0 (λ e. absurd (omega (arith, e))) ∙ sym (ne_eqb n 0 (λ e. some_doubled byte (code bytes) (sym is ∙ e)))
