-- Whether a tag is free.
use Rattle.std.proofs.Common.{◌≡◌, ◌<◌, ◌∙◌, ℕ, zero, suc, Bool, true, false, List, [], ◌∷◌, Option, Some, None, ap, arith, cond, refl, sym}
use Rattle.std.specs.Prelude.{Contains, MatchOption, not, nat_lt, if◌then◌else◌}
use Rattle.std.specs.List.{find}
use Rattle.std.proofs.lemmas.Bool.{both_ways, eqb-true, eq-eqb, ltb-true, ltb-false}
use Rattle.trace_tags.specs.Tags.{IsFree, IsInUse, TagsView, has_tag, tag_rule, used_rule}
use Rattle.trace_tags.specs.declared.OnTag.{OnTag}
use Rattle.trace_tags.specs.declared.TagRule.TheVariants.{Depth}

module _ {X : Type 0} (test : X → Bool) where
  found_pass : (xs : List X) (x : X) → find test xs ≡ Some x → Contains xs x × (test x ≡ true)
  found_pass [] x e = cc (e)
  found_pass (y ∷ ys) x e = by (test y) refl e (found_pass ys x)
    where
      by : (b : Bool) → test y ≡ b → cond b (Some y) (find test ys) ≡ Some x → (find test ys ≡ Some x → Contains ys x × (test x ≡ true)) → Contains (y ∷ ys) x × (test x ≡ true)
      by true t e again = let same : y ≡ x = cc (e) in ((0, omega arith, same), ap test (sym same) ∙ t)
      by false t e again = let more : Contains ys x × (test x ≡ true) = again e in ((suc more.0.0, omega (arith, more.0.1), more.0.2), more.1)

  found_fail : (xs : List X) → find test xs ≡ None → (x : X) → Contains xs x → test x ≡ false
  found_fail [] e x (k, low, is) = absurd (omega arith)
  found_fail (y ∷ ys) e x c = by (test y) refl e c (λ f. found_fail ys f x)
    where
      by : (b : Bool) → test y ≡ b → cond b (Some y) (find test ys) ≡ None → Contains (y ∷ ys) x → (find test ys ≡ None → Contains ys x → test x ≡ false) → test x ≡ false
      by true t e c again = cc (e)
      by false t e (zero, low, is) again = ap test (sym is) ∙ t
      by false t e (suc k, low, is) again = again e (k, omega arith, is)

pub decided : (tags : TagsView) (tag : ℕ) → MatchOption (tag_rule tags tag) (IsFree tags tag) (IsInUse tags tag)
decided tags tag = by (nat_lt tag tags.depth) refl
  where
    used : tag < tags.depth → (found : Option OnTag) → find (has_tag tag) tags.out ≡ found → MatchOption (used_rule tag found) (IsFree tags tag) (IsInUse tags tag)
    used low None e = record { within = low; free = λ piece there same. both_ways _ (found_fail (has_tag tag) tags.out e piece there) (eq-eqb _ _ same) }
    used low (Some piece) e = let h : Contains tags.out piece × (has_tag tag piece ≡ true) = found_pass (has_tag tag) tags.out piece e in (refl, piece, h.0, eqb-true _ _ h.1, refl)

    by : (b : Bool) → nat_lt tag tags.depth ≡ b → MatchOption (if not b then Some (Depth tag tags.depth) else used_rule tag (find (has_tag tag) tags.out)) (IsFree tags tag) (IsInUse tags tag)
    by false e = (refl, refl, ltb-false _ _ e)
    by true e = used (ltb-true _ _ e) (find (has_tag tag) tags.out) refl
