-- From the start of a register to a verdict.
use Rattle.std.proofs.Common.{◌≡◌, ◌<◌, ◌≤◌, inl, ℕ, ◌+◌, ◌==◌, Bool, true, false, List, [], ◌∷◌, ◌++◌, refl, sym, ◌∙◌, ap, subst, arith, length, get_or, take, eq-eqb}
use Rattle.std.proofs.lemmas.Bool.{eqb-true}
use Rattle.std.proofs.lemmas.List.{take_more, take_all}
use Rattle.loss.specs.Held.{IsOneOf}
use Rattle.register_loss.specs.declared.Sight.{Sight}
use Rattle.register_loss.specs.Schedules.{HasSchedule, Register, opening}
use Rattle.register_loss_search.specs.Searching.{Sees}
use Rattle.register_loss_search.proofs.Searching.{IsComplete, IsExact, IsReal, Reached, complete_more, exact_first, exact_more}
use Rattle.register_loss_judge.specs.declared.states.State.{State}
use Rattle.register_loss_judge.specs.Verdicts.{IsRefusal}
use Rattle.register_loss_judge.specs.inside.States.{form, forms}
use Rattle.register_loss_judge.proofs.Inserting.{none_left}

pub complete_next : (start : ℕ) (old new : List Register) (sights : List Sight) (index : ℕ) (d : Sight) → index < length sights → IsExact start (take index sights) old → Sees old (get_or sights index d) new
    → IsComplete start (take (index + 1) sights) new
complete_next start old new sights index d within x h =
    subst (λ xs. IsComplete start xs new) (sym (take_more sights index d within)) (complete_more start (take index sights) old new (get_or sights index d) x h)

pub exact_next : (start : ℕ) (old new : List Register) (sights : List Sight) (index : ℕ) (d : Sight) → index < length sights → IsExact start (take index sights) old → Sees old (get_or sights index d) new
    → IsExact start (take (index + 1) sights) new
exact_next start old new sights index d within x h =
    subst (λ xs. IsExact start xs new) (sym (take_more sights index d within)) (exact_more start (take index sights) old new (get_or sights index d) x h)

-- one state, that of the start
pub one_formed : (start : ℕ) (states before : List State) (first : State) → states ≡ before ++ first ∷ [] → before ≡ [] → form first ≡ opening start → forms states ≡ opening start ∷ []
one_formed start states before first is none opens = ap forms (is ∙ ap (λ xs. xs ++ first ∷ []) none) ∙ ap (λ (f : Register). f ∷ []) opens

pub begins : (start : ℕ) (states before : List State) (first : State) → states ≡ before ++ first ∷ [] → before ≡ [] → form first ≡ opening start → IsExact start [] (forms states) × (forms states ≡ [] → ⊥)
begins start states before first is none opens =
    let one : forms states ≡ opening start ∷ [] = one_formed start states before first is none opens in
    (exact_first start (forms states) one, λ empty. let e : opening start ∷ [] ≡ [] = sym one ∙ empty in cc (e))

pub none_formed : (states : List State) → forms states ≡ [] → states ≡ []
none_formed [] e = refl
none_formed (s ∷ states) e = absurd (cc (e))

pub empty_of : (states : List State) (len : ℕ) (b : Bool) → len ≡ length states → b ≡ (len == 0) → b ≡ true → forms states ≡ []
empty_of states len b is test e = ap forms (none_left states len is (eqb-true len 0 (sym test ∙ e)))

pub some_of : (states : List State) (len : ℕ) (b : Bool) → len ≡ length states → b ≡ (len == 0) → b ≡ false → forms states ≡ [] → ⊥
some_of states len b is test e none =
    let count : len ≡ 0 = is ∙ ap length (none_formed states none) in
    let yes : b ≡ true = test ∙ eq-eqb len 0 count in
    cc (yes, e)

-- A PASS

pub passes : (start : ℕ) (states : List Register) (sights : List Sight) (index : ℕ) → length sights ≤ index → IsExact start (take index sights) states → (states ≡ [] → ⊥) → HasSchedule start sights
passes start states sights index past x some = by_states states refl
  where
    by_states : (rs : List Register) → states ≡ rs → HasSchedule start sights
    by_states [] e = absurd (some e)
    by_states (r ∷ rs) e =
        let real : IsReal start (take index sights) r = x.reals r (subst (λ xs. IsOneOf r xs) (sym e) (inl refl)) in
        record { events = real.events; register = r; in_turn = real.leads; seen = real.seen ∙ take_all index sights past }

-- A REFUSAL

pub refuses : (start : ℕ) (states : List Register) (sights : List Sight) (index : ℕ) → index < length sights → IsComplete start (take (index + 1) sights) states → states ≡ [] → IsRefusal start sights (index + 1)
refuses start states sights index within c empty = record { within = omega arith; none = λ h. none_left (c h.events h.register h.in_turn h.seen) }
  where
    none_left : {r : Register} → Reached states r → ⊥
    none_left reached = subst (λ xs. IsOneOf reached.form xs) empty reached.has
