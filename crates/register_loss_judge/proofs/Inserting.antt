-- States that are added unless they are needless.
use Rattle.std.proofs.Common.{◌≡◌, ◌⊎◌, inl, inr, ℕ, List, [], ◌∷◌, ◌++◌, Option, None, refl, sym, ◌∙◌, ap, subst, arith, length}
use Rattle.std.specs.Prelude.{MatchOption}
use Rattle.loss.specs.Held.{IsOneOf}
use Rattle.register_loss.specs.Schedules.{Register}
use Rattle.register_loss_judge.specs.declared.states.State.{State}
use Rattle.register_loss_judge.specs.inside.States.{form, forms}
use Rattle.register_loss_judge.specs.inside.Covering.{Inserts, InsertsAll}
use Rattle.register_loss_search.specs.Covering.{IsKept, Prunes}
use Rattle.register_loss_judge.proofs.Listing.{forms_more}
use Rattle.register_loss_search.proofs.Listing.{one_either, one_left, one_right}
use Rattle.register_loss_search.proofs.Serving.{covers_self}

pub nothing_more : {X : Type 0} (xs : List X) → xs ≡ xs ++ []
nothing_more [] = refl
nothing_more (x ∷ xs) = ap (λ ys. x ∷ ys) (nothing_more xs)

pub joined : {X : Type 0} (xs ys zs : List X) → (xs ++ ys) ++ zs ≡ xs ++ (ys ++ zs)
joined [] ys zs = refl
joined (x ∷ xs) ys zs = ap (λ ws. x ∷ ws) (joined xs ys zs)

-- each of the others is among those that are looked at later, or is covered
pub record InsertsSoFar (old others rest now : List Register) : Type 0 where
  pub more : List Register
  pub is : now ≡ old ++ more
  pub among : (f : Register) → IsOneOf f more → IsOneOf f others
  pub later : (g : Register) → IsOneOf g rest → IsOneOf g others
  pub kept : (g : Register) → IsOneOf g others → IsOneOf g rest ⊎ IsKept now g

pub inserts_first : (old others : List Register) → InsertsSoFar old others others old
inserts_first old others = record { more = []; is = nothing_more old; among = λ f h. absurd h; later = λ g h. h; kept = λ g h. inl h }

pub kept_more : (all more : List Register) (g : Register) → IsKept all g → IsKept (all ++ more) g
kept_more all more g (f, has, covers) = (f, one_left f all more has, covers)

module _ (old others now new : List Register) (states rest : List State) (state : State) (is : states ≡ rest ++ state ∷ []) (h : InsertsSoFar old others (forms states) now) where
  forms_are : forms states ≡ forms rest ++ form state ∷ []
  forms_are = ap forms is ∙ forms_more rest state

  waits_too : (g : Register) → IsOneOf g (forms rest) → IsOneOf g (forms states)
  waits_too g there = subst (λ fs. IsOneOf g fs) (sym forms_are) (one_left g (forms rest) (form state ∷ []) there)

  here : IsOneOf (form state) others
  here = h.later (form state) (subst (λ fs. IsOneOf (form state) fs) (sym forms_are) (one_right (form state) (forms rest) (form state ∷ []) (inl refl)))

  kept_by : IsKept new (form state) → ((g : Register) → IsKept now g → IsKept new g) → (g : Register) → IsOneOf g others → IsOneOf g (forms rest) ⊎ IsKept new g
  kept_by mine more g there = elim (h.kept g there) [
    | inl waits ↦ elim (one_either g (forms rest) (form state ∷ []) (subst (λ fs. IsOneOf g fs) forms_are waits)) [
      | inl sooner ↦ inl sooner
      | inr (inl same) ↦ inr (subst (λ x. IsKept new x) (sym same) mine)
      | inr (inr none) ↦ absurd none
    ]
    | inr before ↦ inr (more g before)
  ]

  pub inserts_next : Inserts now (form state) new → InsertsSoFar old others (forms rest) new
  inserts_next (inl (e, kept)) = record {
    more = h.more;
    is = e ∙ h.is;
    among = h.among;
    later = λ g there. h.later g (waits_too g there);
    kept = kept_by (subst (λ xs. IsKept xs (form state)) (sym e) kept) (λ g k. subst (λ xs. IsKept xs g) (sym e) k);
  }
  inserts_next (inr e) = record {
    more = h.more ++ form state ∷ [];
    is = e ∙ ap (λ xs. xs ++ form state ∷ []) h.is ∙ joined old h.more (form state ∷ []);
    among = λ f there. elim (one_either f h.more (form state ∷ []) there) [
      | inl before ↦ h.among f before
      | inr (inl same) ↦ subst (λ x. IsOneOf x others) (sym same) here
      | inr (inr none) ↦ absurd none
    ];
    later = λ g there. h.later g (waits_too g there);
    kept = kept_by (subst (λ xs. IsKept xs (form state)) (sym e) (form state, one_right (form state) now (form state ∷ []) (inl refl), covers_self (form state)))
        (λ g k. subst (λ xs. IsKept xs g) (sym e) (kept_more now (form state ∷ []) g k));
  }

pub none_left : (states : List State) (count : ℕ) → count ≡ length states → count ≡ 0 → states ≡ []
none_left [] count is none = refl
none_left (s ∷ states) count is none = absurd (omega arith)

pub zero_of : (popped : Option State) (a b : ℕ) (Q : State → Type 0) → popped ≡ None → MatchOption popped ((a ≡ 0) × (b ≡ 0)) Q → a ≡ 0
zero_of popped a b Q is h = (subst (λ o. MatchOption o ((a ≡ 0) × (b ≡ 0)) Q) is h).0

pub inserts_all : (old others now : List Register) (states : List State) → states ≡ [] → InsertsSoFar old others (forms states) now → InsertsAll old others now
inserts_all old others now states none h = record {
  more = h.more;
  is = h.is;
  among = h.among;
  kept = λ g there. elim (h.kept g there) [ inl waits ↦ absurd (subst (λ xs. IsOneOf g (forms xs)) none waits) | inr kept ↦ kept ];
}

-- what is added to nothing
pub prunes : (old new : List Register) → InsertsAll [] old new → Prunes old new
prunes old new h = record { among = λ f there. h.among f (subst (λ xs. IsOneOf f xs) h.is there); kept = h.kept }
