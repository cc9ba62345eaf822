-- What a call makes of forms, and of the values that they mean.
use Rattle.std.proofs.Common.{◌≡◌, ◌<◌, ◌⊎◌, inl, inr, ℕ, zero, suc, ◌==◌, ◌&&◌, ◌||◌, Bool, true, false, not, List, [], ◌∷◌, ◌++◌, Some, None, refl, sym, ◌∙◌, ap, subst, arith, length, get_or, eq-eqb}
use Rattle.std.specs.Prelude.{if◌then◌else◌}
use Rattle.std.proofs.lemmas.Bool.{cases_Bool, and_parts, eqb-true}
use Rattle.register.specs.Schedules.{unrecorded}
use Rattle.register_judge.specs.declared.states.Waiting.{Waiting}
use Rattle.register_judge.specs.declared.states.State.{State}
use Rattle.register_judge.specs.inside.States.{Form, form_of, forms_of, is_met_by, called, is_bound, bound, bound_of, bounds_of}
use Rattle.register_judge.specs.inside.Registers.{EachCalled, AllCalled}
use Rattle.register_judge.proofs.Listing.{Has, has_left, has_right, has_either, gather_there, gather_from, or_false, differ_false}

-- at once
pub record IsMet (f : Form) (o : Waiting) : Type 0 where
  pub reads : o.writes ≡ false
  pub why : (o.value ≡ unrecorded) ⊎ ((f.any ≡ false) × (o.value ≡ f.value))

-- it waits
pub record Waits (f : Form) (o : Waiting) : Type 0 where
  pub recorded : o.writes ≡ false → o.value ≡ unrecorded → ⊥
  pub other : o.writes ≡ false → (f.any ≡ true) ⊎ (o.value ≡ f.value → ⊥)

either : (a b : Bool) → a || b ≡ true → (a ≡ true) ⊎ (b ≡ true)
either true b h = inl refl
either false b h = inr h

not_true : (a : Bool) → not a ≡ true → a ≡ false
not_true true h = absurd (cc (h))
not_true false h = refl

pub met_or_waits : (f : Form) (o : Waiting) → ((is_met_by f o ≡ true) × IsMet f o) ⊎ ((is_met_by f o ≡ false) × Waits f o)
met_or_waits f o = elim (cases_Bool (is_met_by f o)) [
  | inl met ↦
      let parts : (not o.writes ≡ true) × (((o.value == unrecorded) || (not f.any && (o.value == f.value))) ≡ true) = and_parts (not o.writes) ((o.value == unrecorded) || (not f.any && (o.value == f.value))) met in
      inl (met, record { reads = not_true o.writes parts.0; why = why' (either (o.value == unrecorded) (not f.any && (o.value == f.value)) parts.1) })
  | inr waits ↦ inr (waits, record { recorded = λ r. (by_read waits r).0; other = λ r. (by_read waits r).1 })
]
  where
    why' : ((o.value == unrecorded) ≡ true) ⊎ ((not f.any && (o.value == f.value)) ≡ true) → (o.value ≡ unrecorded) ⊎ ((f.any ≡ false) × (o.value ≡ f.value))
    why' (inl none) = inl (eqb-true o.value unrecorded none)
    why' (inr same) = let parts : (not f.any ≡ true) × ((o.value == f.value) ≡ true) = and_parts (not f.any) (o.value == f.value) same in inr (not_true f.any parts.0, eqb-true o.value f.value parts.1)

    differ : (b : Bool) → (o.value ≡ f.value → b ≡ true) → b ≡ false → o.value ≡ f.value → ⊥
    differ b yes' no' e = let y = yes' e in cc (y, no')

    any_or : (a b : Bool) → f.any ≡ a → (o.value == f.value) ≡ b → (not a && b) ≡ false → (f.any ≡ true) ⊎ (o.value ≡ f.value → ⊥)
    any_or true b is e h = inl is
    any_or false b is e h = inr (λ same. let yes' : (o.value == f.value) ≡ true = eq-eqb o.value f.value same in cc (yes', e, h))

    by_read : is_met_by f o ≡ false → o.writes ≡ false → (o.value ≡ unrecorded → ⊥) × ((f.any ≡ true) ⊎ (o.value ≡ f.value → ⊥))
    by_read waits r =
        let rest : ((o.value == unrecorded) || (not f.any && (o.value == f.value))) ≡ false = rw r at waits in
        let parts = or_false (o.value == unrecorded) (not f.any && (o.value == f.value)) rest in
        (differ_from parts.0, any_or f.any (o.value == f.value) refl refl parts.1)
      where
        differ_from : (o.value == unrecorded) ≡ false → o.value ≡ unrecorded → ⊥
        differ_from no' e = let yes' : (o.value == unrecorded) ≡ true = eq-eqb o.value unrecorded e in cc (yes', no')

pub called_met : (f : Form) (o : Waiting) → is_met_by f o ≡ true → called o f ≡ f
called_met f o e = rw e refl

pub called_waits : (f : Form) (o : Waiting) → is_met_by f o ≡ false → called o f ≡ record f { waits = f.waits ++ o ∷ [] }
called_waits f o e = rw e refl

-- a read of any value binds
pub bound_there : (f : Form) (o : Waiting) → f.any ≡ true → o.writes ≡ false → (o.value ≡ unrecorded → ⊥) → bound_of o f ≡ Some (bound o.value f)
bound_there f o any r recorded = rw (any, r, differ_false o.value unrecorded recorded) refl

pub record Binds (f : Form) (o : Waiting) (g : Form) : Type 0 where
  pub any : f.any ≡ true
  pub reads : o.writes ≡ false
  pub is : bound o.value f ≡ g

pub bound_from : (f : Form) (o : Waiting) (g : Form) → bound_of o f ≡ Some g → Binds f o g
bound_from f o g e = by (is_bound o f) refl e
  where
    by : (b : Bool) → is_bound o f ≡ b → (if b then Some (bound o.value f) else None) ≡ Some g → Binds f o g
    by true is e =
        let outer : ((f.any && not o.writes) ≡ true) × (not (o.value == unrecorded) ≡ true) = and_parts (f.any && not o.writes) (not (o.value == unrecorded)) is in
        let inner : (f.any ≡ true) × (not o.writes ≡ true) = and_parts f.any (not o.writes) outer.0 in
        record { any = inner.0; reads = not_true o.writes inner.1; is = cc (e) }
    by false is e = absurd (cc (e))

-- LISTS

forms_at : (states : List State) (g : Form) → Has (forms_of states) g → (k : ℕ) × (k < length states) × ((d : State) → form_of (get_or states k d) ≡ g)
forms_at [] g h = absurd h
forms_at (s ∷ states) g (inl e) = (0, omega arith, λ d. e)
forms_at (s ∷ states) g (inr h) = let at : (k : ℕ) × (k < length states) × ((d : State) → form_of (get_or states k d) ≡ g) = forms_at states g h in (suc at.0, more at.1, at.2)
  where
    more : {k n : ℕ} → k < n → suc k < suc n
    more h = omega arith

forms_has : (states : List State) (k : ℕ) (d : State) → k < length states → Has (forms_of states) (form_of (get_or states k d))
forms_has [] k d low = absurd (omega arith)
forms_has (s ∷ states) zero d low = inl refl
forms_has (s ∷ states) (suc k) d low = inr (forms_has states k d (fewer' low))
  where
    fewer' : suc k < length (s ∷ states) → k < length states
    fewer' h = omega arith

each_there : (o : Waiting) (old new : List State) (f : Form) → EachCalled o old new → Has (forms_of old) f → Has (forms_of new) (called o f)
each_there o old new f c h =
    let at : (k : ℕ) × (k < length old) × ((d : State) → form_of (get_or old k d) ≡ f) = forms_at old f h in
    by old new c at.0 at.1 at.2
  where
    by : (old new : List State) → EachCalled o old new → (k : ℕ) → k < length old → ((d : State) → form_of (get_or old k d) ≡ f) → Has (forms_of new) (called o f)
    by [] new c k low e = absurd (omega arith)
    by (d ∷ old) new c k low e =
        let n = c.same_length in
        let e' : form_of (get_or new k d) ≡ called o f = c.calls k d low ∙ ap (called o) (e d) in
        subst (Has (forms_of new)) e' (forms_has new k d (omega arith))

each_only : (o : Waiting) (old new : List State) (g : Form) → EachCalled o old new → Has (forms_of new) g → (f : Form) × Has (forms_of old) f × (called o f ≡ g)
each_only o old new g c h =
    let at : (k : ℕ) × (k < length new) × ((d : State) → form_of (get_or new k d) ≡ g) = forms_at new g h in
    by old new c at.0 at.1 at.2
  where
    by : (old new : List State) → EachCalled o old new → (k : ℕ) → k < length new → ((d : State) → form_of (get_or new k d) ≡ g) → (f : Form) × Has (forms_of old) f × (called o f ≡ g)
    by [] new c k low e = let n = c.same_length in absurd (omega arith)
    by (d ∷ old) new c k low e =
        let n = c.same_length in
        let low' : k < length (d ∷ old) = omega arith in
        (form_of (get_or (d ∷ old) k d), forms_has (d ∷ old) k d low', sym (c.calls k d low') ∙ e d)

-- each form behind a call, and each of which it tells
pub called_there : (o : Waiting) (old new : List State) (f g : Form) → AllCalled o old new → Has (forms_of old) f → (called o f ≡ g) ⊎ (bound_of o f ≡ Some g) → Has (forms_of new) g
called_there o old new f g c h (inl is) =
    subst (λ fs. Has fs g) (sym c.all) (has_left (forms_of c.each) (bounds_of o (forms_of old)) g (subst (Has (forms_of c.each)) is (each_there o old c.each f c.called h)))
called_there o old new f g c h (inr is) = subst (λ fs. Has fs g) (sym c.all) (has_right (forms_of c.each) (bounds_of o (forms_of old)) g (gather_there (bound_of o) [] (forms_of old) f g h is))

pub called_only : (o : Waiting) (old new : List State) (g : Form) → AllCalled o old new → Has (forms_of new) g → (f : Form) × Has (forms_of old) f × ((called o f ≡ g) ⊎ (bound_of o f ≡ Some g))
called_only o old new g c h = elim (has_either (forms_of c.each) (bounds_of o (forms_of old)) g (subst (λ fs. Has fs g) c.all h)) [
  | inl each ↦ let came = each_only o old c.each g c.called each in (came.0, came.1, inl came.2)
  | inr bounds ↦ elim (gather_from (bound_of o) [] (forms_of old) g bounds) [ inl none ↦ absurd none | inr (f, has, is) ↦ (f, has, inr is) ]
]
