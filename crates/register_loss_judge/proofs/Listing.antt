-- Loops over lists.
use Rattle.std.proofs.Common.{◌≡◌, ◌<◌, ◌≤◌, inl, inr, ℕ, zero, suc, ◌+◌, List, [], ◌∷◌, ◌++◌, refl, sym, ap, subst, arith, length, get_or, take}
use Rattle.std.specs.Prelude.{All}
use Rattle.std.proofs.lemmas.List.{take_more, take_all}
use Rattle.std.proofs.lemmas.List.Elements.{All-nil, All-head, All-tail, All-append, All-cons}
use Rattle.loss.specs.Held.{IsOneOf}
use Rattle.register_loss.specs.Schedules.{Register}
use Rattle.register_loss_search.proofs.Listing.{one_map}
use Rattle.register_loss_judge.specs.declared.states.State.{State}
use Rattle.register_loss_judge.specs.inside.States.{form, forms}

pub item_there : {X : Type 0} (xs : List X) (i : ℕ) (x : X) → i < length xs → x ≡ get_or xs i x → IsOneOf x xs
item_there [] i x low is = absurd (omega arith)
item_there (y ∷ xs) zero x low is = inl is
item_there (y ∷ xs) (suc i) x low is = inr (item_there xs i x (omega arith) is)

pub form_there : (states : List State) (i : ℕ) (s : State) → i < length states → s ≡ get_or states i s → IsOneOf (form s) (forms states)
form_there states i s low is = one_map form s states (item_there states i s low is)

pub all_more : {X : Type 0} (P : X → Type 0) (xs : List X) (i : ℕ) (d : X) → i < length xs → All P (take i xs) → P (get_or xs i d) → All P (take (i + 1) xs)
all_more P xs i d low all h = subst (All P) (sym (take_more xs i d low)) (All-append P (take i xs) (get_or xs i d ∷ []) all (All-cons P (get_or xs i d) [] h (All-nil P)))

pub all_taken : {X : Type 0} (P : X → Type 0) (xs : List X) (i : ℕ) → length xs ≤ i → All P (take i xs) → All P xs
all_taken P xs i end h = subst (All P) (take_all i xs end) h

pub all_one : {X : Type 0} (P : X → Type 0) (x : X) (xs : List X) → All P xs → IsOneOf x xs → P x
all_one P x [] all h = absurd h
all_one P x (y ∷ xs) all (inl e) = subst P (sym e) (All-head P y xs all)
all_one P x (y ∷ xs) all (inr h) = all_one P x xs (All-tail P y xs all) h

pub forms_more : (states : List State) (s : State) → forms (states ++ s ∷ []) ≡ forms states ++ form s ∷ []
forms_more [] s = refl
forms_more (x ∷ states) s = ap (λ (fs : List Register). form x ∷ fs) (forms_more states s)
