-- What holds more goes on doing so.
use Rattle.std.proofs.Common.{◌≡◌, ◌<◌, ◌≤◌, ◌⊎◌, inl, inr, ℕ, suc, true, false, [], ◌∷◌, refl, sym, ◌∙◌, subst, arith, map, nat_lt}
use Rattle.std.proofs.lemmas.Bool.Decides.{leb_tells}
use Rattle.loss.specs.Held.{ChangeOf, Puts, Secures, Tries, Syncs, Doubts, HeldOf, IsOneOf, OlderOf, changed, left, outlives, overwritten, surely, value_of}
use Rattle.register_loss_search.specs.Covering.{Stays, Wider}
use Rattle.register_loss_search.proofs.Listing.{of_filter, of_map, one_either, one_left, one_map, one_right, in_filter}

-- WHAT HOLDS MORE

stays_to_left : (moment v : ℕ) (h : HeldOf ℕ) → Stays moment v h → IsOneOf v (left h)
stays_to_left moment v h (inl p) = one_left v h.now (map value_of h.older) p
stays_to_left moment v h (inr (o, p, is, late)) = one_right v h.now (map value_of h.older) (subst (λ x. IsOneOf x (map value_of h.older)) is (one_map value_of o h.older p))

pub wider_left : (h h' : HeldOf ℕ) → Wider h h' → (v : ℕ) → IsOneOf v (left h) → IsOneOf v (left h')
wider_left h h' w v p = elim (one_either v h.now (map value_of h.older) p) [
  | inl q ↦ one_left v h'.now (map value_of h'.older) (w.now v q)
  | inr q ↦ let o : (x : OlderOf ℕ) × IsOneOf x h.older × (v ≡ value_of x) = of_map value_of v h.older q in
      subst (λ x. IsOneOf x (left h')) (sym o.2) (stays_to_left o.0.behind o.0.value h' (w.older o.0 o.1))
]

pub wider_self : (h : HeldOf ℕ) → Wider h h
wider_self h = record { now = λ v p. p; older = λ o p. inr (o, p, refl, omega arith) }

stays_then : (moment m' v v' : ℕ) (h : HeldOf ℕ) → v' ≡ v → moment ≤ m' → Stays m' v' h → Stays moment v h
stays_then moment m' v v' h is low (inl p) = inl (subst (λ x. IsOneOf x h.now) is p)
stays_then moment m' v v' h is low (inr (o, p, same, late)) = inr (o, p, same ∙ is, omega (arith, low, late))

pub wider_then : (a b c : HeldOf ℕ) → Wider a b → Wider b c → Wider a c
wider_then a b c f g = record {
  now = λ v p. g.now v (f.now v p);
  older = λ o p. elim (f.older o p) [ inl q ↦ inl (g.now o.value q) | inr (o', q, is, late) ↦ stays_then o.behind o'.behind o.value o'.value c is late (g.older o' q) ];
}

module _ (n : ℕ) (h h' : HeldOf ℕ) (w : Wider h h') (dated : (o : OlderOf ℕ) → IsOneOf o h.older → o.behind ≤ n) where
  abbrev behind_put : ℕ → HeldOf ℕ
  behind_put x = changed n (Puts x) h'

  put_new : (x v : ℕ) → IsOneOf v h'.now → (moment : ℕ) → moment ≤ n → Stays moment v (behind_put x)
  put_new x v p moment low = inr (overwritten n v, one_right (overwritten n v) h'.older (map (overwritten n) h'.now) (one_map (overwritten n) v h'.now p), refl, low)

  put_old : (x : ℕ) (o : OlderOf ℕ) → o.behind ≤ n → Stays o.behind o.value h' → Stays o.behind o.value (behind_put x)
  put_old x o low (inl p) = put_new x o.value p o.behind low
  put_old x o low (inr (o', p, is, late)) = inr (o', one_left o' h'.older (map (overwritten n) h'.now) p, is, late)

  put_older : (x : ℕ) (o : OlderOf ℕ) → IsOneOf o (changed n (Puts x) h).older → Stays o.behind o.value (behind_put x)
  put_older x o p = elim (one_either o h.older (map (overwritten n) h.now) p) [
    | inl q ↦ put_old x o (dated o q) (w.older o q)
    | inr q ↦ let v : (x : ℕ) × IsOneOf x h.now × (o ≡ overwritten n x) = of_map (overwritten n) o h.now q in
        subst (λ (y : OlderOf ℕ). Stays y.behind y.value (behind_put x)) (sym v.2) (put_new x v.0 (w.now v.0 v.1) n (omega arith))
  ]

  tried_older : (x : ℕ) (o : OlderOf ℕ) → Stays o.behind o.value h' → Stays o.behind o.value (changed n (Tries x) h')
  tried_older x o (inl p) = inl (one_left o.value h'.now (x ∷ []) p)
  tried_older x o (inr q) = inr q

  later_too : (k m m' : ℕ) → m ≤ m' → nat_lt k m ≡ true → nat_lt k m' ≡ true
  later_too k m m' low e = by_order (leb_tells (suc k) m) (leb_tells (suc k) m')
    where
      by_order : ((nat_lt k m ≡ true) × (suc k ≤ m)) ⊎ ((nat_lt k m ≡ false) × (m < suc k)) → ((nat_lt k m' ≡ true) × (suc k ≤ m')) ⊎ ((nat_lt k m' ≡ false) × (m' < suc k)) → nat_lt k m' ≡ true
      by_order a (inl late) = late.0
      by_order (inl late) (inr early) = absurd (omega (arith, late.1, early.1, low))
      by_order (inr none) (inr early) = absurd (cc (none.0, e))

  synced_older : (k : ℕ) (o : OlderOf ℕ) → outlives k o ≡ true → Stays o.behind o.value h' → Stays o.behind o.value (changed n (Syncs k) h')
  synced_older k o e (inl p) = inl p
  synced_older k o e (inr (o', p, is, late)) = inr (o', in_filter (outlives k) o' h'.older p (later_too k o.behind o'.behind late e), is, late)

  pub wider_by : (change : ChangeOf ℕ) → Wider (changed n change h) (changed n change h')
  wider_by (Puts x) = record { now = λ v p. p; older = put_older x }
  wider_by (Secures x) = wider_self (surely x)
  wider_by (Tries x) = record {
    now = λ v p. elim (one_either v h.now (x ∷ []) p) [ inl q ↦ one_left v h'.now (x ∷ []) (w.now v q) | inr q ↦ one_right v h'.now (x ∷ []) q ];
    older = λ o p. tried_older x o (w.older o p);
  }
  wider_by (Syncs k) = record {
    now = w.now;
    older = λ o p. let q : IsOneOf o h.older × (outlives k o ≡ true) = of_filter (outlives k) o h.older p in synced_older k o q.1 (w.older o q.0);
  }
  wider_by Doubts = record { now = wider_left h h' w; older = λ o p. absurd p }

-- dates stay below the next call's number
pub dated_by : (n : ℕ) (h : HeldOf ℕ) (change : ChangeOf ℕ) → ((o : OlderOf ℕ) → IsOneOf o h.older → o.behind ≤ n) → (o : OlderOf ℕ) → IsOneOf o (changed n change h).older → o.behind ≤ n
dated_by n h (Puts x) dated o p = elim (one_either o h.older (map (overwritten n) h.now) p) [
  | inl q ↦ dated o q
  | inr q ↦ let v : (x : ℕ) × IsOneOf x h.now × (o ≡ overwritten n x) = of_map (overwritten n) o h.now q in subst (λ (y : OlderOf ℕ). y.behind ≤ n) (sym v.2) (omega arith)
]
dated_by n h (Secures x) dated o p = absurd p
dated_by n h (Tries x) dated o p = dated o p
dated_by n h (Syncs k) dated o p = let q : IsOneOf o h.older × (outlives k o ≡ true) = of_filter (outlives k) o h.older p in dated o q.0
dated_by n h Doubts dated o p = absurd p
