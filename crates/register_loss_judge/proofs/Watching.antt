-- What is known of a register that is watched.
use Rattle.std.proofs.Common.{◌≡◌, inl, ℕ, List, [], ◌∷◌, ◌++◌, refl, sym, ◌∙◌, ap, subst, arith, length, take}
use Rattle.std.proofs.lemmas.List.{take-append-le, take_all}
use Rattle.loss.specs.Held.{IsOneOf}
use Rattle.register_loss.specs.declared.Sight.{Sight}
use Rattle.register_loss.specs.Schedules.{HasSchedule, PrefixesAreScheduled, Register, opening}
use Rattle.register_loss_judge.specs.declared.observed.SoFar.{SoFar}
use Rattle.register_loss_judge.specs.declared.observed.SoFar.TheVariants.{Passed, Refused, Undecided}
use Rattle.register_loss_judge.specs.Observed.{IsSoFar}
use Rattle.register_loss_judge.specs.inside.Following.{IsGoing, Keeps, GoesOn}
use Rattle.register_loss_search.specs.Searching.{Sees}
use Rattle.register_loss_search.proofs.Searching.{IsExact, IsReal, Reached, complete_more, exact_after}

exact_going : (start : ℕ) (states : List Register) (sights : List Sight) → IsGoing start states sights → IsExact start sights states
exact_going start states sights g = subst (λ xs. IsExact start xs states) g.is (exact_after start g.past states g.searched)

pub going_first : (start : ℕ) (states : List Register) → states ≡ opening start ∷ [] → IsGoing start states []
going_first start states begins = record { past = []; is = refl; searched = begins; some = λ none. let e : opening start ∷ [] ≡ [] = sym begins ∙ none in cc (e) }

going_passes : (start : ℕ) (states : List Register) (sights : List Sight) → IsGoing start states sights → HasSchedule start sights
going_passes start states sights g = by_states states refl
  where
    x : IsExact start sights states
    x = exact_going start states sights g

    by_states : (rs : List Register) → states ≡ rs → HasSchedule start sights
    by_states [] e = absurd (g.some e)
    by_states (r ∷ rs) e =
        let real : IsReal start sights r = x.reals r (subst (λ xs. IsOneOf r xs) (sym e) (inl refl)) in
        record { events = real.events; register = r; in_turn = real.leads; seen = real.seen }

pub keeps_right : (start : ℕ) (states : List Register) (sights : List Sight) (so_far : SoFar) → Keeps start states sights so_far → IsSoFar start sights so_far
keeps_right start states sights Passed h = going_passes start states sights h
keeps_right start states sights Refused h = h
keeps_right start states sights Undecided h = tt

-- ONE MORE SIGHT

module _ (start : ℕ) (old new : List Register) (sights : List Sight) (sight : Sight) where
  none_left : IsGoing start old sights → Sees old sight new → new ≡ [] → HasSchedule start (sights ++ sight ∷ []) → ⊥
  none_left g sees none h =
      let c : Reached new h.register = complete_more start sights old new sight (exact_going start old sights g) sees h.events h.register h.in_turn h.seen in
      subst (λ xs. IsOneOf c.form xs) none c.has

  more_going : IsGoing start old sights → Sees old sight new → (new ≡ [] → ⊥) → IsGoing start new (sights ++ sight ∷ [])
  more_going g sees some = record {
    past = sight ∷ g.past;
    is = ap (λ xs. xs ++ sight ∷ []) g.is;
    searched = (old, g.searched, sees);
    some = some;
  }

  front : take (length sights) (sights ++ sight ∷ []) ≡ sights
  front = take-append-le (length sights) sights (sight ∷ []) (omega arith) ∙ take_all (length sights) sights (omega arith)

  refused_more : PrefixesAreScheduled → (HasSchedule start sights → ⊥) → HasSchedule start (sights ++ sight ∷ []) → ⊥
  refused_more prefixes none h = none (subst (HasSchedule start) front (prefixes start (sights ++ sight ∷ []) (length sights) h))

  pub keeps_more : PrefixesAreScheduled → (before after : SoFar) → Keeps start old sights before → GoesOn before old sight new after → Keeps start new (sights ++ sight ∷ []) after
  keeps_more prefixes Passed Passed g h = more_going g h.0 h.1
  keeps_more prefixes Passed Refused g h = none_left g h.0 h.1
  keeps_more prefixes Passed Undecided g h = tt
  keeps_more prefixes Refused after none e = subst (Keeps start new (sights ++ sight ∷ [])) (sym e) (refused_more prefixes none)
  keeps_more prefixes Undecided after h e = subst (Keeps start new (sights ++ sight ∷ [])) (sym e) tt

-- ONCE MORE

pub keeps_alike : (start : ℕ) (old new : List Register) (sights : List Sight) (so_far : SoFar) → new ≡ old → Keeps start old sights so_far → Keeps start new sights so_far
keeps_alike start old new sights so_far same h = subst (λ states. Keeps start states sights so_far) (sym same) h
