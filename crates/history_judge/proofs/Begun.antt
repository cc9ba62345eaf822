-- What a register may have had at the start.
use Rattle.std.proofs.Common.{◌≡◌, ◌<◌, ◌≤◌, ◌⊎◌, inl, inr, ℕ, zero, suc, ◌+◌, Bool, true, false, List, [], ◌∷◌, ◌++◌, refl, sym, ◌∙◌, ap, subst, arith, append-nil, get_or, length, take, drop}
use Rattle.std.specs.Prelude.{Contains}
use Rattle.std.proofs.lemmas.List.{take_more, take_all}
use Rattle.std.proofs.lemmas.List.Elements.{All-nil, All-append, All-cons, All-head, All-contains, Contains-append_left, Contains-push}
use Rattle.register.specs.declared.Sight.{Sight}
use Rattle.register.specs.declared.Sight.TheVariants.{Write, Read, Done, Failed}
use Rattle.register.specs.Schedules.{HasSchedule}
use Rattle.register_judge.specs.declared.observed.SoFar.{SoFar}
use Rattle.register_judge.specs.declared.observed.SoFar.TheVariants.{Passed, Refused, Undecided}
use Rattle.register_judge.specs.Observed.{IsSoFar}
use Rattle.std.specs.Bool.{OnTrue}
use Rattle.history_judge.specs.declared.trying.Starts.{Starts}
use Rattle.history_judge.specs.declared.trying.Try.{Try}
use Rattle.history_judge.specs.inside.Cells.{starts_in, IsTry, AreBegun}
use Rattle.history_judge.proofs.Started.{started}
use Rattle.history_judge.specs.inside.Starting.{IsEarly, Keeps, TakesStart, HasStarts, StartsOf, Counts, so_far_if, IsTriedOf, IsTriedAll, IsTriedAny, IsTriedBy, IsBetter}

-- VALUES

drop_sight : (sights : List Sight) (i : ℕ) (d : Sight) → i < length sights → drop i sights ≡ get_or sights i d ∷ drop (i + 1) sights
drop_sight [] i d low = absurd (omega arith)
drop_sight (x ∷ xs) zero d low = refl
drop_sight (x ∷ xs) (suc i) d low =
    let e : suc (i + 1) ≡ suc i + 1 = omega arith in
    drop_sight xs i d (omega arith) ∙ ap (λ n. get_or xs i d ∷ drop n (x ∷ xs)) e

drop_out : (sights : List Sight) (i : ℕ) → length sights ≤ i → drop i sights ≡ []
drop_out [] zero end = refl
drop_out [] (suc i) end = refl
drop_out (x ∷ xs) zero end = absurd (omega arith)
drop_out (x ∷ xs) (suc i) end = drop_out xs i (omega arith)

-- those of the sights so far are there, whatever comes behind them
pub record HasStartsTo (first : ℕ) (sights : List Sight) (index : ℕ) (blanks values : List ℕ) : Type 0 where
  pub has_first : Contains values first
  pub early : (more : List Sight) (value : ℕ) → IsEarly [] value (sights ++ more) → Contains values value ⊎ IsEarly blanks value (drop index sights ++ more)

taken : (sight : Sight) (later : List Sight) (blanks old more new : List ℕ) (goes : Bool) → TakesStart blanks old sight more new goes → (value : ℕ) → IsEarly blanks value (sight ∷ later) → Contains new value ⊎ ((goes ≡ true) × IsEarly more value later)
taken (Read number other) later blanks old more new goes takes value (inl both) = inl (subst (Contains new) both.0 (takes.3 both.1))
taken (Read number other) later blanks old more new goes takes value (inr h) = inr (takes.0, subst (λ bs. IsEarly bs value later) (sym takes.1) h)
taken (Done number) later blanks old more new goes takes value h = inr (takes.0 ∙ h.0, subst (λ bs. IsEarly bs value later) (sym takes.1) h.1)
taken (Write number other) later blanks old more new goes takes value h = inr (takes.0, subst (λ bs. IsEarly bs value later) (sym takes.1) h)
taken (Failed number) later blanks old more new goes takes value h = inr (takes.0, subst (λ bs. IsEarly bs value later) (sym takes.1) h)

kept : (sight : Sight) (blanks old more new : List ℕ) (goes : Bool) → TakesStart blanks old sight more new goes → Keeps old new
kept (Read number other) blanks old more new goes takes = takes.2
kept (Done number) blanks old more new goes takes = takes.2
kept (Write number other) blanks old more new goes takes = takes.2
kept (Failed number) blanks old more new goes takes = takes.2

starts_step : (first : ℕ) (sights : List Sight) (i : ℕ) (d : Sight) (blanks old more new : List ℕ) (goes : Bool) → i < length sights → HasStartsTo first sights i blanks old
    → TakesStart blanks old (get_or sights i d) more new goes → (later : List Sight) (value : ℕ) → IsEarly [] value (sights ++ later) → Contains new value ⊎ ((goes ≡ true) × IsEarly more value (drop (i + 1) sights ++ later))
starts_step first sights i d blanks old more new goes low h takes later value early = elim (h.early later value early) [
  | inl there ↦ inl (kept (get_or sights i d) blanks old more new goes takes value there)
  | inr left ↦ taken (get_or sights i d) (drop (i + 1) sights ++ later) blanks old more new goes takes value (subst (λ xs. IsEarly blanks value (xs ++ later)) (drop_sight sights i d low) left)
]

pub starts_none : (first : ℕ) (sights : List Sight) (blanks values : List ℕ) → blanks ≡ [] → values ≡ first ∷ [] → HasStartsTo first sights 0 blanks values
starts_none first sights blanks values none is = record {
  has_first = subst (λ xs. Contains xs first) (sym is) (zero, omega arith, refl);
  early = λ more value early. inr (subst (λ bs. IsEarly bs value (sights ++ more)) (sym none) early);
}

pub starts_more : (first : ℕ) (sights : List Sight) (i : ℕ) (d : Sight) (blanks old more new : List ℕ) (goes : Bool) → i < length sights → HasStartsTo first sights i blanks old
    → TakesStart blanks old (get_or sights i d) more new goes → HasStartsTo first sights (i + 1) more new
starts_more first sights i d blanks old more new goes low h takes = record {
  has_first = kept (get_or sights i d) blanks old more new goes takes first h.has_first;
  early = λ later value early. elim (starts_step first sights i d blanks old more new goes low h takes later value early) [ inl there ↦ inl there | inr left ↦ inr left.1 ];
}

over_all : (first : ℕ) (sights : List Sight) (i : ℕ) (d : Sight) (blanks old more new : List ℕ) (goes : Bool) → i < length sights → HasStartsTo first sights i blanks old
    → TakesStart blanks old (get_or sights i d) more new goes → goes ≡ false → (later : List Sight) → HasStarts first (sights ++ later) new
over_all first sights i d blanks old more new goes low h takes over later = record {
  has_first = kept (get_or sights i d) blanks old more new goes takes first h.has_first;
  early = λ value early. elim (starts_step first sights i d blanks old more new goes low h takes later value early) [
    | inl there ↦ there
    | inr left ↦ let on : goes ≡ true = left.0 in absurd (cc (on, over))
  ];
}

pub starts_over : (first : ℕ) (sights : List Sight) (i : ℕ) (d : Sight) (blanks old more : List ℕ) (starts : Starts) (goes : Bool) → i < length sights → HasStartsTo first sights i blanks old
    → TakesStart blanks old (get_or sights i d) more starts.values.items goes → goes ≡ false → StartsOf first sights starts
starts_over first sights i d blanks old more starts goes low h takes over = record {
  here = subst (λ xs. HasStarts first xs starts.values.items) (append-nil sights) (over_all first sights i d blanks old more starts.values.items goes low h takes over []);
  later = λ is later. over_all first sights i d blanks old more starts.values.items goes low h takes over later;
}

pub starts_all : (first : ℕ) (sights : List Sight) (i : ℕ) (blanks : List ℕ) (starts : Starts) → length sights ≤ i → starts.over ≡ false → HasStartsTo first sights i blanks starts.values.items → StartsOf first sights starts
starts_all first sights i blanks starts end going h = record {
  here = record {
    has_first = h.has_first;
    early = λ value early. elim (h.early [] value (subst (IsEarly [] value) (sym (append-nil sights)) early)) [
      | inl there ↦ there
      | inr left ↦ absurd (subst (IsEarly blanks value) (ap (λ xs. xs ++ []) (drop_out sights i end)) left)
    ];
  };
  later = λ is later. absurd (cc (sym going ∙ is));
}

-- VERDICTS

module _ (any : Bool) (size : ℕ) (sights : List Sight) where
  by_all : (values : List ℕ) (value : ℕ) (a b best : SoFar) → IsTriedAll any size values sights a → IsTriedOf any size value sights b → IsBetter a b best → IsTriedAll any size (values ++ value ∷ []) sights best
  by_all values value a b Passed all one better = elim (better.passes refl) [
    | inl e ↦
        let h : IsTriedAll any size values sights Passed = subst (IsTriedAll any size values sights) e all in
        (h.0, Contains-append_left values (value ∷ []) h.0 h.1, h.2)
    | inr e ↦ (value, Contains-push values value, subst (IsTriedOf any size value sights) e one)
  ]
  by_all values value a b Refused all one better =
      let both = better.refused refl in
      All-append (λ start. HasSchedule start sights → ⊥) values (value ∷ []) (subst (IsTriedAll any size values sights) both.0 all)
      (All-cons (λ start. HasSchedule start sights → ⊥) value [] (subst (IsTriedOf any size value sights) both.1 one) (All-nil (λ start. HasSchedule start sights → ⊥)))
  by_all values value a b Undecided all one better = tt

  starts_push : (tries : List Try) (t : Try) → starts_in (tries ++ t ∷ []) ≡ starts_in tries ++ t.start ∷ []
  starts_push [] t = refl
  starts_push (x ∷ tries) t = ap (λ xs. x.start ∷ xs) (starts_push tries t)

  pub tried_more : (tries : List Try) (i : ℕ) (d : Try) (a b best : SoFar) → i < length tries → IsTriedAll any size (starts_in (take i tries)) sights a
      → IsTriedOf any size (get_or tries i d).start sights b → IsBetter a b best → IsTriedAll any size (starts_in (take (i + 1) tries)) sights best
  tried_more tries i d a b best low all one better =
      subst (λ xs. IsTriedAll any size (starts_in xs) sights best) (sym (take_more tries i d low))
      (subst (λ xs. IsTriedAll any size xs sights best) (sym (starts_push (take i tries) (get_or tries i d)))
      (by_all (starts_in (take i tries)) (get_or tries i d).start a b best all one better))

  pub tried_all : (tries : List Try) (i : ℕ) (best : SoFar) → length tries ≤ i → IsTriedAll any size (starts_in (take i tries)) sights best → IsTriedAll any size (starts_in tries) sights best
  tried_all tries i best end h = subst (λ xs. IsTriedAll any size (starts_in xs) sights best) (take_all i tries end) h

-- where no start that is tried serves, none does
pub tried_any : (size first : ℕ) (sights : List Sight) (values : List ℕ) (best : SoFar) → HasStarts first sights values → IsTriedAll true size values sights best → IsTriedAny size sights best
tried_any size first sights values Passed starts h = record { start = h.0; sized = h.2.counts; schedule = h.2.schedule }
tried_any size first sights values Undecided starts h = tt
tried_any size first sights values Refused starts h = λ start schedule.
    elim (started start first sights schedule) [
      | inl early ↦ All-contains (λ v. HasSchedule v sights → ⊥) values start h (starts.early start early) schedule
      | inr from_first ↦ All-contains (λ v. HasSchedule v sights → ⊥) values first h starts.has_first from_first
    ]

tried_one : (size start : ℕ) (sights : List Sight) (best : SoFar) → IsTriedAll false size (start ∷ []) sights best → IsSoFar start sights best
tried_one size start sights Passed h = subst (λ v. HasSchedule v sights) (sym (only start h.0 h.1)) h.2.schedule
  where
    only : (x y : ℕ) → Contains (x ∷ []) y → x ≡ y
    only x y (zero, low, is) = is
    only x y (suc k, low, is) = absurd (omega (arith, low))
tried_one size start sights Refused h = All-head (λ v. HasSchedule v sights → ⊥) start [] h
tried_one size start sights Undecided h = tt

-- what is known by tries that are begun
pub tried_by : (any : Bool) (size start : ℕ) (seen given : List Sight) (values : List ℕ) (best : SoFar) → AreBegun any start seen values → (values ≡ [] → ⊥) → IsTriedAll any size values (seen ++ given) best
    → IsTriedBy any size start (seen ++ given) best
tried_by false size start seen given values best begun some h = tried_one size start (seen ++ given) best (subst (λ xs. IsTriedAll false size xs (seen ++ given) best) begun h)
tried_by true size start seen given values best begun some h = elim (begun given) [
  | inl none ↦ absurd (some none.0)
  | inr starts ↦ tried_any size start (seen ++ given) values best starts h
]

-- what is known of one try
pub so_far_of : (any : Bool) (size : ℕ) (t : Try) (sights : List Sight) (counts : Bool) (so_far : SoFar) → OnTrue counts (Counts any size t.start) → IsTry sights t → IsSoFar t.seen.start t.seen.sights so_far
    → IsTriedOf any size t.start sights (so_far_if counts so_far)
so_far_of any size t sights counts so_far counted is h = by_counts counts so_far counted (subst (λ xs. IsSoFar t.start xs so_far) is.sights (subst (λ s. IsSoFar s t.seen.sights so_far) is.start h))
  where
    by_counts : (counts : Bool) (so_far : SoFar) → OnTrue counts (Counts any size t.start) → IsSoFar t.start sights so_far → IsTriedOf any size t.start sights (so_far_if counts so_far)
    by_counts true Passed counted h = record { counts = counted; schedule = h }
    by_counts false Passed counted h = tt
    by_counts true Refused counted h = h
    by_counts false Refused counted h = h
    by_counts true Undecided counted h = tt
    by_counts false Undecided counted h = tt
