-- The first byte that differs, found part by part.
use Rattle.std.proofs.Common.{◌≡◌, ◌<◌, ◌≤◌, ℕ, suc, ◌+◌, ◌-◌, Bool, true, false, List, [], ◌∷◌, ◌++◌, Option, Some, None, refl, sym, ◌∙◌, ap, subst, arith, length, get_or, take, drop, length-drop}
use Rattle.std.specs.Prelude.{◌==◌, is_some, if◌then◌else◌}
use Rattle.std.specs.List.{concat}
use Rattle.std.proofs.lemmas.List.{drop_more}
use Rattle.machine.specs.State.{Mark}
use Rattle.machine.specs.Answering.{bytes_of_mark}
use Rattle.judge.specs.Views.{joined_marks}
use Rattle.judge.specs.declared.label_rules.Difference.{Difference}
use Rattle.judge.specs.Ruling.{difference}

-- PART BY PART

-- what differs in a part is what differs in all
pub found_in : (first : ℕ) (part more told : List ℕ) (d : Difference) → difference first part (take (length part) told) ≡ Some d → difference first (part ++ more) told ≡ Some d
found_in first [] more told d e = cc (e)
found_in first (p ∷ part) more [] d e = e
found_in first (p ∷ part) more (t ∷ told) d e = by (p == t) e (λ f. found_in (first + 1) part more told d f)
  where
    by : (b : Bool) → (if b then difference (first + 1) part (take (length part) told) else Some (record { at = first; due = Some p; told = Some t })) ≡ Some d
        → (difference (first + 1) part (take (length part) told) ≡ Some d → difference (first + 1) (part ++ more) told ≡ Some d)
        → (if b then difference (first + 1) (part ++ more) told else Some (record { at = first; due = Some p; told = Some t })) ≡ Some d
    by true e again = again e
    by false e again = e

-- where none does it is in the rest
pub none_in : (first : ℕ) (part more told : List ℕ) → difference first part (take (length part) told) ≡ None → difference first (part ++ more) told ≡ difference (first + length part) more (drop (length part) told)
none_in first [] more told e = let n : first + 0 ≡ first = omega arith in ap (λ k. difference k more told) (sym n)
none_in first (p ∷ part) more [] e = cc (e)
none_in first (p ∷ part) more (t ∷ told) e = by (p == t) e (λ f. none_in (first + 1) part more told f)
  where
    by : (b : Bool) → (if b then difference (first + 1) part (take (length part) told) else Some (record { at = first; due = Some p; told = Some t })) ≡ None
        → (difference (first + 1) part (take (length part) told) ≡ None → difference (first + 1) (part ++ more) told ≡ difference (first + 1 + length part) more (drop (length part) told))
        → (if b then difference (first + 1) (part ++ more) told else Some (record { at = first; due = Some p; told = Some t })) ≡ difference (first + suc (length part)) more (drop (length part) told)
    by true e again = let n : first + 1 + length part ≡ first + suc (length part) = omega arith in again e ∙ ap (λ k. difference k more (drop (length part) told)) n
    by false e again = cc (e)

-- a part with no difference is no longer than what is told
pub none_longer : (first : ℕ) (part told : List ℕ) → difference first part (take (length part) told) ≡ None → length part ≤ length told
none_longer first [] told e = omega arith
none_longer first (p ∷ part) [] e = cc (e)
none_longer first (p ∷ part) (t ∷ told) e = by (p == t) e (λ f. none_longer (first + 1) part told f)
  where
    by : (b : Bool) → (if b then difference (first + 1) part (take (length part) told) else Some (record { at = first; due = Some p; told = Some t })) ≡ None
        → (difference (first + 1) part (take (length part) told) ≡ None → length part ≤ length told) → suc (length part) ≤ suc (length told)
    by true e again = omega (arith, again e)
    by false e again = cc (e)

-- with a part of what is due in front of the rest of what is told
module _ (told rest part more : List ℕ) (whole found : Option Difference) (fits : length rest ≤ length told) (all : whole ≡ difference (length told - length rest) (part ++ more) rest)
    (is : found ≡ difference (length told - length rest) part (take (length part) rest)) where
  pub found_all : is_some found ≡ true → found ≡ whole
  found_all = by found refl
    where
      by : (x : Option Difference) → found ≡ x → is_some x ≡ true → found ≡ whole
      by None e t = cc (t)
      by (Some d) e t = e ∙ sym (all ∙ found_in (length told - length rest) part more rest d (sym is ∙ e))

  -- what is behind the part goes on
  pub record GoesPast (behind : List ℕ) : Type 0 where
    pub within : length behind ≤ length told
    pub same : whole ≡ difference (length told - length behind) more behind

  pub goes_past : (behind : List ℕ) → is_some found ≡ false → behind ≡ drop (length part) rest → GoesPast behind
  goes_past behind none e = subst GoesPast (sym e) (by found refl none)
    where
      by : (x : Option Difference) → found ≡ x → is_some x ≡ false → GoesPast (drop (length part) rest)
      by (Some d) f t = cc (t)
      by None f t =
          let e : difference (length told - length rest) part (take (length part) rest) ≡ None = sym is ∙ f in
          let long : length part ≤ length rest = none_longer (length told - length rest) part rest e in
          let left : length (drop (length part) rest) ≡ length rest - length part = length-drop (length part) rest in
          let n : length told - length rest + length part ≡ length told - length (drop (length part) rest) = omega arith in
          record {
            within = omega arith;
            same = all ∙ none_in (length told - length rest) part more rest e ∙ ap (λ k. difference k more (drop (length part) rest)) n;
          }

-- the part that is at hand stands in front of the parts behind it
pub sector_in_front : (sectors : List (List ℕ)) (i : ℕ) (item part : List ℕ) → i < length sectors → item ≡ get_or sectors i item → part ≡ item → concat (drop i sectors) ≡ part ++ concat (drop (i + 1) sectors)
sector_in_front sectors i item part low is same =
    ap concat (drop_more sectors i item low) ∙ ap (λ x. x ++ concat (drop (i + 1) sectors)) (sym is ∙ sym same)

pub place_in_front : (marks : List Mark) (i : ℕ) (item : Mark) (part : List ℕ) → i < length marks → item ≡ get_or marks i item → part ≡ bytes_of_mark item → joined_marks (drop i marks) ≡ part ++ joined_marks (drop (i + 1) marks)
place_in_front marks i item part low is same =
    ap joined_marks (drop_more marks i item low) ∙ ap (λ x. bytes_of_mark x ++ joined_marks (drop (i + 1) marks)) (sym is) ∙ ap (λ x. x ++ joined_marks (drop (i + 1) marks)) (sym same)
