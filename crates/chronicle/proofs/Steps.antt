-- Each step keeps the rule.
use Rattle.std.proofs.Common.{◌≡◌, ◌≢◌, ℕ, zero, suc, List, [], ◌∷◌, ◌++◌, set, Some, true, false, true≢false, refl, sym, ap, ◌∙◌, subst, ⊎_elim}
use Rattle.std.specs.Prelude.{slice_get}
use mathlib.Core.Option.{some, none, some-ne-none, some-injective}
use lib.ListN.{get_elem?}
use Rattle.atomic_table.specs.Table.{Me, step, keeps, Allows, Splits, Joins}
use Rattle.atomic_table.proofs.Lists.{at_set, at_snoc}
use Rattle.chronicle.specs.declared.rule.View.{View}
use Rattle.chronicle.specs.Claims.{AllStand}
use Rattle.chronicle.specs.History.{keeper, bearer, nobody, without_claims, with_claims_of, IsBorneOut, HistoryKept, Kept, Adds, Checks}
use Rattle.chronicle.specs.Laws.{ClaimsStayStanding}

abbrev pub M : Type 0 → Type 0
M E = Me (Unit {0}) (View E)

module _ {E : Type 0} where
  get_front : (xs ys : List E) (k : ℕ) (x : E) → slice_get xs k ≡ Some x → slice_get (xs ++ ys) k ≡ Some x
  get_front [] ys k x e = absurd (cc)
  get_front (y ∷ xs) ys zero x e = e
  get_front (y ∷ xs) ys (suc k) x e = get_front xs ys k x e

  -- claims stand in a longer history too
  pub stand_front : (history more : List E) (claims : List (ℕ × E)) → AllStand history claims → AllStand (history ++ more) claims
  stand_front history more [] all = tt
  stand_front history more (c ∷ cs) all = (get_front history more c.0 c.1 all.0, stand_front history more cs all.1)

  both_stand : (history : List E) (xs ys : List (ℕ × E)) → AllStand history xs → AllStand history ys → AllStand history (xs ++ ys)
  both_stand history [] ys one two = two
  both_stand history (x ∷ xs) ys one two = (one.0, both_stand history xs ys one.1 two)

  -- who keeps nothing and claims what stands is right
  bears : (keeper : ℕ) (history : List E) (seat : ℕ) (v : View E) → v.keeps ≡ false → AllStand history v.claims → IsBorneOut keeper history seat v
  bears keeper history seat v idle stand = record { whole = λ k. absurd (true≢false (sym k ∙ idle)); stand = stand }

  -- a change of one view
  borne_set : (keeper : ℕ) (history : List E) (views : List (View E)) (by : ℕ) (w : View E)
      → ((j : ℕ) (u : View E) → j ≢ by → get_elem? views j ≡ some u → IsBorneOut keeper history j u) → IsBorneOut keeper history by w
      → (j : ℕ) (u : View E) → get_elem? (set views by w) j ≡ some u → IsBorneOut keeper history j u
  borne_set keeper history views by w others mine j u e =
      ⊎_elim
      (λ (x : (j ≡ by) × (w ≡ u)). subst (λ (y : ℕ × View E). IsBorneOut keeper history y.0 y.1) (λ i. (sym x.0 i, x.1 i)) mine)
      (λ (x : (j ≢ by) × (get_elem? views j ≡ some u)). others j u x.0 x.1)
      (at_set views by j w u e)

  pub begins : HistoryKept {E = E} (keeper [] ∷ [])
  begins = record { keeper = 0; history = []; borne = one }
    where
      one : (seat : ℕ) (v : View E) → get_elem? (keeper [] ∷ []) seat ≡ some v → IsBorneOut 0 [] seat v
      one zero v e = subst (IsBorneOut 0 [] 0) (some-injective _ _ e) record { whole = λ _. (refl, refl); stand = tt }
      one (suc seat) v e = absurd (some-ne-none v (sym e))

  pub adds : (slots id : ℕ) (me : M E) (entries more : List E) → me ≡ (keeper entries, []) → Allows Kept slots id me 0 (λ n. n) (Adds more (step slots 0 0 0 none) me)
  adds slots id me entries more is = subst (λ (m : M E). Allows Kept slots id m 0 (λ n. n) (Adds more (step slots 0 0 0 none) m)) (sym is) here
    where
      here : Allows Kept slots id (keeper entries, []) 0 (λ n. n) (Adds more (step slots 0 0 0 none) (keeper entries, []))
      here s h homes at small =
          let mine = (h.borne id (keeper entries) at).whole refl in (
            keeper (entries ++ more),
            keeps,
            tt,
            record {
              keeper = h.keeper;
              history = h.history ++ more;
              borne = borne_set h.keeper (h.history ++ more) s.views id (keeper (entries ++ more))
                  (λ j u other there. record {
                    whole = λ k. absurd (other (((h.borne j u there).whole k).0 ∙ sym mine.0));
                    stand = stand_front h.history more u.claims (h.borne j u there).stand;
                  })
                  record { whole = λ _. (mine.0, ap (λ l. l ++ more) mine.1); stand = tt };
            },
            refl,
          )

  pub checks : (slots id : ℕ) (me : M E) → me.0.keeps ≡ true → Allows Kept slots id me 0 (λ n. n) (Checks (step slots 0 0 0 none) me)
  checks slots id me k s h homes at small =
      let mine = h.borne id me.0 at in (
        me.0,
        keeps,
        tt,
        record { keeper = h.keeper; history = h.history; borne = borne_set h.keeper h.history s.views id me.0 (λ j u other there. h.borne j u there) mine },
        (refl, subst (λ (l : List E). AllStand l me.0.claims) (sym (mine.whole k).1) mine.stand),
      )

  -- a new seat, whose claims stand
  splits : (id : ℕ) (v left right : View E)
      → ((keeper : ℕ) (history : List E) → IsBorneOut keeper history id v → IsBorneOut keeper history id left × AllStand history right.claims)
      → right.keeps ≡ false → Splits Kept id v left right
  splits id v left right goes idle s h at =
      let g = goes h.keeper h.history (h.borne id v at) in record {
        keeper = h.keeper;
        history = h.history;
        borne = λ j u e. ⊎_elim
            (λ was. borne_set h.keeper h.history s.views id left (λ i w _ there. h.borne i w there) g.0 j u was)
            (λ (same : right ≡ u). subst (IsBorneOut h.keeper h.history j) same (bears h.keeper h.history j right idle g.1))
            (at_snoc (set s.views id left) right u j e);
      }

  pub claims_one : (id : ℕ) (me : M E) (entries : List E) (place : ℕ) (e : E) → me ≡ (keeper entries, []) → slice_get me.0.entries place ≡ Some e
      → Splits Kept id me.0 me.0 (bearer ((place, e) ∷ []))
  claims_one id me entries place e is stands =
      splits id me.0 me.0 (bearer ((place, e) ∷ []))
      (λ k history r. (r, (subst (λ (l : List E). slice_get l place ≡ Some e) (r.whole (ap (λ (m : M E). m.0.keeps) is)).1 stands, tt)))
      refl

  pub claims_none : (id : ℕ) (v : View E) → Splits Kept id v v nobody
  claims_none id v = splits id v v nobody (λ k history r. (r, tt)) refl

  pub parts : (id : ℕ) (v : View E) → Splits Kept id v (without_claims v) (bearer v.claims)
  parts id v = splits id v (without_claims v) (bearer v.claims) (λ k history r. (record { whole = r.whole; stand = tt }, r.stand)) refl

  pub copies : (id : ℕ) (v : View E) → Splits Kept id v v (bearer v.claims)
  copies id v = splits id v v (bearer v.claims) (λ k history r. (r, r.stand)) refl

  pub gathers : (id : ℕ) (v : View E) (other : ℕ) (u : View E) → Joins Kept id v other u (with_claims_of v u) nobody
  gathers id v other u s h at apart there =
      let w = with_claims_of v u in
      let mine = h.borne id v at in
      let theirs = ⊎_elim
      (λ (t : (other ≡ id) × (w ≡ u)). absurd (apart t.0))
      (λ (t : (other ≢ id) × (get_elem? s.views other ≡ some u)). h.borne other u t.1)
      (at_set s.views id other w u there) in
      let joined : IsBorneOut h.keeper h.history id w = record { whole = mine.whole; stand = both_stand h.history v.claims u.claims mine.stand theirs.stand } in record {
        keeper = h.keeper;
        history = h.history;
        borne = borne_set h.keeper h.history (set s.views id w) other nobody
            (λ j x _ e. borne_set h.keeper h.history s.views id w (λ i y _ e'. h.borne i y e') joined j x e)
            (bears h.keeper h.history other nobody refl tt);
      }

pub stay_standing : {E : Type 0} → ClaimsStayStanding E
stay_standing = stand_front
