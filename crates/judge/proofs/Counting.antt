-- Pieces counted from the first place on, a piece's length at a time.
use Rattle.std.proofs.Common.{◌≡◌, ◌<◌, ◌≤◌, inl, inr, ℕ, suc, ◌+◌, ◌-◌, ◌*◌, ◌/◌, ◌%◌, ◌==◌, Bool, true, false, refl, sym, ap, ◌∙◌, subst, arith, length, get_or}
use Rattle.std.specs.Prelude.{List, if◌then◌else◌}
use Rattle.std.proofs.lemmas.Bool.{cases_lt}
use Rattle.std.proofs.lemmas.Bool.Decides.{nat_tests}
use Rattle.machine.specs.State.{Mark, Untouched}
use Rattle.machine.specs.Rules.{Rules}
use Rattle.machine.specs.Cutting.{is_back, count_below, piece_count}

-- the mark at place k times the longest
abbrev back_at : ℕ → List Mark → ℕ → Bool
back_at longest marks k = is_back (get_or marks (k * longest) Untouched)

-- so many pieces were looked at, up to this place, and so many of them begin with a place that came back
pub record AreCounted (rules : Rules) (marks : List Mark) (place back : ℕ) : Type 0 where
  pub pieces : ℕ
  pub reached : place ≡ pieces * rules.max_transfer
  pub counted : back ≡ count_below (back_at rules.max_transfer marks) pieces
  pub few : back ≤ place
  pub near : place < length marks + rules.max_transfer
  pub within : pieces ≤ piece_count rules (length marks)

multiples : (a b m : ℕ) → a ≤ b → a * m ≤ b * m
multiples a b m low =
    let is : b ≡ a + (b - a) = omega arith in
    rw is (omega arith)

next_multiple : (a b m : ℕ) → a < b → a * m + m ≤ b * m
next_multiple a b m low =
    let is : b ≡ a + 1 + (b - a - 1) = omega arith in
    rw is (omega arith)

-- a piece that begins among the places is one of theirs
begins_there : (rules : Rules) (places k : ℕ) → 0 < rules.max_transfer → k * rules.max_transfer < places → k < piece_count rules places
begins_there rules places k some low = among (places % rules.max_transfer == 0) refl
  where
    among : (whole : Bool) → (places % rules.max_transfer == 0) ≡ whole → k < places / rules.max_transfer + (if whole then 0 else 1)
    among true e =
        let r : places % rules.max_transfer ≡ 0 = grind (arith, nat_tests) in
        elim (cases_lt k (places / rules.max_transfer)) [
          | inl below ↦ omega arith
          | inr past ↦
              let more : places / rules.max_transfer * rules.max_transfer ≤ k * rules.max_transfer = multiples _ k rules.max_transfer past in
              absurd (omega arith)
        ]
    among false e =
        elim (cases_lt (places / rules.max_transfer) k) [
          | inl past ↦
              let more : places / rules.max_transfer * rules.max_transfer + rules.max_transfer ≤ k * rules.max_transfer =
              next_multiple _ k rules.max_transfer past in
              absurd (omega arith)
          | inr below ↦ omega arith
        ]

-- and one that begins behind them all is none
ends_there : (rules : Rules) (places k : ℕ) → 0 < rules.max_transfer → places ≤ k * rules.max_transfer → piece_count rules places ≤ k
ends_there rules places k some past = among (places % rules.max_transfer == 0) refl
  where
    among : (whole : Bool) → (places % rules.max_transfer == 0) ≡ whole → places / rules.max_transfer + (if whole then 0 else 1) ≤ k
    among true e =
        elim (cases_lt k (places / rules.max_transfer)) [
          | inl below ↦
              let more : k * rules.max_transfer + rules.max_transfer ≤ places / rules.max_transfer * rules.max_transfer =
              next_multiple k _ rules.max_transfer below in
              absurd (omega arith)
          | inr high ↦ omega arith
        ]
    among false e =
        let r : 0 < places % rules.max_transfer = grind (arith, nat_tests) in
        elim (cases_lt (places / rules.max_transfer) k) [
          | inl high ↦ omega arith
          | inr low ↦
              let more : k * rules.max_transfer ≤ places / rules.max_transfer * rules.max_transfer = multiples k _ rules.max_transfer low in
              absurd (omega arith)
        ]

pub none_counted : (rules : Rules) (marks : List Mark) → 0 < rules.max_transfer → AreCounted rules marks 0 0
none_counted rules marks some =
    record { pieces = 0; reached = omega arith; counted = refl; few = omega arith; near = omega arith; within = omega arith }

pub one_counted : (rules : Rules) (marks : List Mark) (place back back' : ℕ) → 0 < rules.max_transfer → AreCounted rules marks place back → place < length marks
    → back' ≡ back + (if is_back (get_or marks place Untouched) then 1 else 0) → AreCounted rules marks (place + rules.max_transfer) back'
one_counted rules marks place back back' some h low is = record {
  pieces = suc h.pieces;
  reached = let e = h.reached in omega arith;
  counted = counted;
  few = few (is_back (get_or marks place Untouched)) is;
  near = omega arith;
  within =
      let at : h.pieces * rules.max_transfer < length marks = let e = h.reached in omega arith in
      let one : h.pieces < piece_count rules (length marks) = begins_there rules (length marks) h.pieces some at in
      omega arith;
}
  where
    few : (b : Bool) → back' ≡ back + (if b then 1 else 0) → back' ≤ place + rules.max_transfer
    few true e = let f = h.few in omega arith
    few false e = let f = h.few in omega arith

    counted : back' ≡ count_below (back_at rules.max_transfer marks) h.pieces + (if back_at rules.max_transfer marks h.pieces then 1 else 0)
    counted =
        subst (λ p. back' ≡ count_below (back_at rules.max_transfer marks) h.pieces + (if is_back (get_or marks p Untouched) then 1 else 0)) h.reached
        (subst (λ n. back' ≡ n + (if is_back (get_or marks place Untouched) then 1 else 0)) h.counted is)

pub all_counted : (rules : Rules) (marks : List Mark) (place back : ℕ) → 0 < rules.max_transfer → AreCounted rules marks place back → length marks ≤ place
    → back ≡ count_below (back_at rules.max_transfer marks) (piece_count rules (length marks))
all_counted rules marks place back some h past =
    let high : piece_count rules (length marks) ≤ h.pieces = ends_there rules (length marks) h.pieces some (let e = h.reached in omega arith) in
    let is : h.pieces ≡ piece_count rules (length marks) = let w = h.within in omega arith in
    subst (λ n. back ≡ count_below (back_at rules.max_transfer marks) n) is h.counted

-- one more where the mark is back, and none where it isn't
pub one_more : (back back' : ℕ) (m m' : Mark) (result : Bool) → m ≡ m' → result ≡ is_back m → result ≡ true → back' ≡ back + 1
    → back' ≡ back + (if is_back m' then 1 else 0)
one_more back back' m m' result same told holds is =
    let b : is_back m' ≡ true = ap is_back (sym same) ∙ sym told ∙ holds in
    subst (λ x. back' ≡ back + (if x then 1 else 0)) (sym b) is

pub no_more : (back back' : ℕ) (m m' : Mark) (result : Bool) → m ≡ m' → result ≡ is_back m → result ≡ false → back' ≡ back
    → back' ≡ back + (if is_back m' then 1 else 0)
no_more back back' m m' result same told fails is =
    let b : is_back m' ≡ false = ap is_back (sym same) ∙ sym told ∙ fails in
    subst (λ x. back' ≡ back + (if x then 1 else 0)) (sym b) (is ∙ omega arith)
