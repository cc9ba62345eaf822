-- No slot is looked at from one on that none behind it has an open request.
use Rattle.std.proofs.Common.{◌≡◌, ◌⊎◌, ℕ, zero, suc, ◌<◌, ◌≤◌, None, refl, sym, subst, arith, inl, inr}
use Rattle.traced.proofs.Common.{eq-or-lt_of_le, View, open_at, LooksAt, TracedView, IsLooked, AreLooked}

module _ (old new : TracedView) where
  still : (slot : ℕ) → open_at new.stack slot ≡ None → IsLooked slot new new
  still slot none = record {
    seen = None;
    looked = new.marks;
    looks = subst (λ n. LooksAt n slot new.marks None new.marks) (sym none) (refl, refl);
    carries = refl;
  }

  looked_more : (slots slot : ℕ) → ((k : ℕ) → slot ≤ k → open_at new.stack k ≡ None) → AreLooked slot old new → (slot ≤ slots → AreLooked slots old new) → (slot ≡ suc slots) ⊎ (slot < suc slots) → AreLooked (suc slots) old new
  looked_more slots slot none looked below (inl e) = subst (λ n. AreLooked n old new) e looked
  looked_more slots slot none looked below (inr more) =
      let few : slot ≤ slots = omega arith in
      (new, below few, still slots (none slots few))

  pub looked_on : (slots slot : ℕ) → slot ≤ slots → ((k : ℕ) → slot ≤ k → open_at new.stack k ≡ None) → AreLooked slot old new → AreLooked slots old new
  looked_on zero slot few none looked =
      let e : slot ≡ zero = omega arith in
      subst (λ n. AreLooked n old new) e looked
  looked_on (suc slots) slot few none looked = looked_more slots slot none looked (λ fewer. looked_on slots slot fewer none looked) (eq-or-lt_of_le few)
