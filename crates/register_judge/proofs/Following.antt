-- What is known of a register that is watched.
use Rattle.std.proofs.Common.{◌≡◌, inl, inr, ℕ, Bool, true, false, List, [], ◌∷◌, ◌++◌, refl, sym, ◌∙◌, ap, subst, arith, length, take}
use Rattle.std.proofs.lemmas.List.{take-append-le, take_all}
use Rattle.register.specs.declared.Sight.{Sight}
use Rattle.register.specs.declared.Sight.TheVariants.{Write, Read, Done, Failed}
use Rattle.register.specs.Schedules.{HasSchedule, PrefixesAreScheduled}
use Rattle.register_judge.specs.declared.states.State.{State}
use Rattle.register_judge.specs.declared.keeping.Register.{Register}
use Rattle.register_judge.specs.declared.observed.SoFar.{SoFar}
use Rattle.register_judge.specs.declared.observed.SoFar.TheVariants.{Passed, Refused, Undecided}
use Rattle.register_judge.specs.Observed.{IsSoFar}
use Rattle.register_judge.specs.inside.States.{forms_of, form_of, bound}
use Rattle.register_judge.specs.inside.Registers.{Begins, IsAlike, Calls, Left, EndsAt, Sees}
use Rattle.register_judge.specs.inside.Following.{in_order, Follows, IsGoing, Keeps, GoesOn}
use Rattle.register_judge.proofs.Listing.{Has}
use Rattle.register_judge.proofs.Reaching.{IsReal}
use Rattle.register_judge.proofs.Judging.{IsExact, Covered, exact_first, covers_more, exact_more}

-- a register that took some sights, and has a state, has those after their schedules
exact_after : (start : ℕ) (past : List Sight) (register : Register) → Follows start past register → (register.states.items ≡ [] → ⊥) → IsExact start register (in_order past)
exact_after start [] register begins some = exact_first start register begins
exact_after start (sight ∷ past) register (old, follows, before, sees) some = exact_more start old register (in_order past) sight (exact_after start past old follows before) sees some

exact_going : (start : ℕ) (register : Register) (sights : List Sight) → IsGoing start register sights → IsExact start register sights
exact_going start register sights g = subst (IsExact start register) g.is (exact_after start g.past register g.follows g.some)

pub going_first : (start : ℕ) (register : Register) → Begins start register → IsGoing start register []
going_first start register begins = record { past = []; is = refl; follows = begins; some = (exact_first start register begins).some }

going_passes : (start : ℕ) (register : Register) (sights : List Sight) → IsGoing start register sights → HasSchedule start sights
going_passes start register sights g = by_states register.states.items refl
  where
    x : IsExact start register sights
    x = exact_going start register sights g

    by_states : (states : List State) → register.states.items ≡ states → HasSchedule start sights
    by_states [] e = absurd (g.some e)
    by_states (s ∷ states) e =
        let r : IsReal start register.last register.numbers.items sights (bound s.value (form_of s)) = x.reals (form_of s) (subst (λ xs. Has (forms_of xs) (form_of s)) (sym e) (inl refl)) s.value (inr refl) in
        record { events = r.events; in_turn = r.stands.in_turn; seen = r.seen }

pub keeps_right : (start : ℕ) (register : Register) (sights : List Sight) (so_far : SoFar) → Keeps start register sights so_far → IsSoFar start sights so_far
keeps_right start register sights Passed h = going_passes start register sights h
keeps_right start register sights Refused h = h
keeps_right start register sights Undecided h = tt

-- ONE MORE SIGHT

module _ (start : ℕ) (old new : Register) (sights : List Sight) (sight : Sight) where
  none_left : IsGoing start old sights → Sees old sight new → new.states.items ≡ [] → HasSchedule start (sights ++ sight ∷ []) → ⊥
  none_left g sees none h =
      let c : Covered start new.last (forms_of new.states.items) h.events = covers_more start old new sights sight (exact_going start old sights g) sees h.events h.in_turn h.seen in
      subst (λ xs. Has (forms_of xs) c.form) none c.has

  more_going : IsGoing start old sights → Sees old sight new → (new.states.items ≡ [] → ⊥) → IsGoing start new (sights ++ sight ∷ [])
  more_going g sees some = record {
    past = sight ∷ g.past;
    is = ap (λ xs. xs ++ sight ∷ []) g.is;
    follows = (old, g.follows, g.some, sees);
    some = some;
  }

  front : take (length sights) (sights ++ sight ∷ []) ≡ sights
  front = take-append-le (length sights) sights (sight ∷ []) (omega arith) ∙ take_all (length sights) sights (omega arith)

  refused_more : PrefixesAreScheduled → (HasSchedule start sights → ⊥) → HasSchedule start (sights ++ sight ∷ []) → ⊥
  refused_more prefixes none h = none (subst (HasSchedule start) front (prefixes start (sights ++ sight ∷ []) (length sights) h))

  pub keeps_more : PrefixesAreScheduled → (before after : SoFar) → Keeps start old sights before → GoesOn before old sight new after → Keeps start new (sights ++ sight ∷ []) after
  keeps_more prefixes Passed Passed g h = more_going g h.0 h.1
  keeps_more prefixes Passed Refused g h = none_left g h.0 h.1
  keeps_more prefixes Passed Undecided g h = tt
  keeps_more prefixes Refused after none e = subst (Keeps start new (sights ++ sight ∷ [])) (sym e) (refused_more prefixes none)
  keeps_more prefixes Undecided after h e = subst (Keeps start new (sights ++ sight ∷ [])) (sym e) tt

-- ONCE MORE

module _ (old r s : Register) (a : IsAlike r s) where
  calls_alike : (n : ℕ) (writes : Bool) (v : ℕ) → Calls old n writes v r → Calls old n writes v s
  calls_alike n writes v h = record {
    newer = h.newer;
    last = a.last ∙ h.last;
    numbers = a.numbers ∙ h.numbers;
    states = record { each = h.states.each; called = h.states.called; all = a.states ∙ h.states.all };
  }

  ends_alike : (n : ℕ) (must : Bool) → EndsAt old n must r → EndsAt old n must s
  ends_alike n must h = record {
    was_open = h.was_open;
    last = a.last ∙ h.last;
    numbers = a.numbers ∙ h.numbers;
    states = subst (Left must n (forms_of old.states.items)) (sym a.states) h.states;
  }

  sees_alike : (sight : Sight) → Sees old sight r → Sees old sight s
  sees_alike (Write n v) h = calls_alike n true v h
  sees_alike (Read n v) h = calls_alike n false v h
  sees_alike (Done n) h = ends_alike n true h
  sees_alike (Failed n) h = ends_alike n false h

begins_alike : (start : ℕ) (r s : Register) → IsAlike r s → Begins start r → Begins start s
begins_alike start r s a h = record { numbers = a.numbers ∙ h.numbers; last = a.last ∙ h.last; states = a.states ∙ h.states }

follows_alike : (start : ℕ) (past : List Sight) (r s : Register) → IsAlike r s → Follows start past r → Follows start past s
follows_alike start [] r s a h = begins_alike start r s a h
follows_alike start (sight ∷ past) r s a (old, follows, some, sees) = (old, follows, some, sees_alike old r s a sight sees)

none_alike : (xs ys : List State) → forms_of ys ≡ forms_of xs → ys ≡ [] → xs ≡ []
none_alike [] ys e none = refl
none_alike (x ∷ xs) [] e none = absurd (cc (e))
none_alike (x ∷ xs) (y ∷ ys) e none = absurd (cc (none))

pub keeps_alike : (start : ℕ) (r s : Register) (sights : List Sight) (so_far : SoFar) → IsAlike r s → Keeps start r sights so_far → Keeps start s sights so_far
keeps_alike start r s sights Passed a g = record {
  past = g.past;
  is = g.is;
  follows = follows_alike start g.past r s a g.follows;
  some = λ none. g.some (none_alike r.states.items s.states.items a.states none);
}
keeps_alike start r s sights Refused a h = h
keeps_alike start r s sights Undecided a h = tt
