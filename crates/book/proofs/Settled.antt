-- What was armed in the journal is claimed on its tag.
use Rattle.book.proofs.Common.{◌≡◌, ◌≢◌, ℕ, ◌<◌, List, [], ◌∷◌, length, Some, None, sym, ap, subst, ◌∙◌, get_or-set_same, get_or-set_other, slice_set, Srb, AdapterView, IsArmed, Armed, JournalView, MayArm, Arms, armed_at, Claimed, IsClaimed, IsOnTag, AreOnTags}
use mathlib.Core.Logic.{dite}
use native.Mathlib.Decide.{ℕ_discrete}

some_same : {A : Type 0} {x y : A} → Some x ≡ Some y → x ≡ y
some_same {A} {x} {y} e = cc

abbrev armed_in : Armed → List (ℕ × Armed) → Armed
armed_in otherwise [] = otherwise
armed_in otherwise (claim ∷ claims) = claim.1

module _ (view : AdapterView) (tags : Claimed) (tag piece : ℕ) (srb : Srb) (old new : JournalView) (claims : List (ℕ × Armed)) (on : AreOnTags view tags) (inside : tag < length tags)
    (is_armed : IsArmed view tag piece srb) (may : MayArm old tag srb) (arms : Arms old tag piece srb new)
    (armed : Armed) (there : armed_at new.slots tag ≡ Some armed) (is : claims ≡ (armed.number, armed) ∷ []) where
  own : armed ≡ arms.armed
  own = some_same (sym there ∙ ap (λ (j : JournalView). armed_at j.slots tag) arms.after ∙ get_or-set_same old.slots tag (Some arms.armed) None may.free.0)

  on_own : IsOnTag view tag armed
  on_own = subst (λ (a : Armed). IsOnTag view tag a) (sym own) (record {
    srb = srb;
    is_armed = subst (λ (k : ℕ). IsArmed view tag k srb) (sym arms.is_piece) is_armed;
    same = arms.same;
  })

  at_own : (number : ℕ) (x : Armed) → IsClaimed (slice_set tags tag (Some claims)) tag number x → IsOnTag view tag x
  at_own number x claimed =
      let same : (armed.number, armed) ∷ [] ≡ (number, x) ∷ [] = sym is ∙ some_same (sym (get_or-set_same tags tag (Some claims) None inside) ∙ claimed) in
      subst (λ (a : Armed). IsOnTag view tag a) (ap (armed_in x) same) on_own

  at_other : (t number : ℕ) (x : Armed) → t ≢ tag → IsClaimed (slice_set tags tag (Some claims)) t number x → IsOnTag view t x
  at_other t number x apart claimed = on t number x (sym (get_or-set_other tags tag t (Some claims) None apart) ∙ claimed)

  pub on_put : (tags' : Claimed) → tags' ≡ slice_set tags tag (Some claims) → AreOnTags view tags'
  on_put tags' after = subst (λ (ts : Claimed). AreOnTags view ts) (sym after) (λ t number x claimed.
      dite (ℕ_discrete t tag)
      (λ (e : t ≡ tag). subst (λ (k : ℕ). IsOnTag view k x) (sym e) (at_own number x (subst (λ (k : ℕ). IsClaimed (slice_set tags tag (Some claims)) k number x) e claimed)))
      (λ (ne : t ≢ tag). at_other t number x ne claimed))
