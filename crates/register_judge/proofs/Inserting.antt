-- Effects just before the last effect of a write, where nobody sees them.
use Rattle.std.proofs.Common.{◌≡◌, inl, inr, ℕ, List, [], ◌∷◌, ◌++◌, refl, sym, ◌∙◌, ap, subst}
use Rattle.std.specs.Prelude.{All, Contains}
use Rattle.std.proofs.lemmas.List.Elements.{All-head, All-tail, All-cons}
use Rattle.register.specs.declared.Sight.TheVariants.{Write, Read, Done, Failed}
use Rattle.register.specs.Schedules.{Event, Seen, Effect, seen_of, value_after, IsNoEnd, IsNoEffect, IsWritten, TakesEffect, May, IsSchedule}
use Rattle.register_judge.proofs.Events.{further, newest, first_or_behind, written_more, read_more}

-- LISTS

pub contains_insert : (late : List Event) (a e : Event) (early : List Event) (y : Event) → Contains (late ++ a ∷ early) y → Contains (late ++ a ∷ e ∷ early) y
contains_insert [] a e early y c = elim (first_or_behind a early y c) [
  | inl is ↦ subst (Contains (a ∷ e ∷ early)) is (newest a (e ∷ early))
  | inr there ↦ further a (e ∷ early) y (further e early y there)
]
contains_insert (x ∷ late) a e early y c = elim (first_or_behind x (late ++ a ∷ early) y c) [
  | inl is ↦ subst (Contains (x ∷ (late ++ a ∷ e ∷ early))) is (newest x (late ++ a ∷ e ∷ early))
  | inr there ↦ further x (late ++ a ∷ e ∷ early) y (contains_insert late a e early y there)
]

pub inserted : (late : List Event) (a e : Event) (early : List Event) → Contains (late ++ a ∷ e ∷ early) e
inserted [] a e early = further a (e ∷ early) e (newest e early)
inserted (x ∷ late) a e early = further x (late ++ a ∷ e ∷ early) e (inserted late a e early)

pub all_insert : (P : Event → Type 0) (late : List Event) (a e : Event) (early : List Event) → P e → All P (late ++ a ∷ early) → All P (late ++ a ∷ e ∷ early)
all_insert P [] a e early h all = All-cons P a (e ∷ early) (All-head P a early all) (All-cons P e early h (All-tail P a early all))
all_insert P (x ∷ late) a e early h all = All-cons P x (late ++ a ∷ e ∷ early) (All-head P x (late ++ a ∷ early) all) (all_insert P late a e early h (All-tail P x (late ++ a ∷ early) all))

-- what holds of all holds behind
pub all_late : (P : Event → Type 0) (late : List Event) (a : Event) (early : List Event) → All P (late ++ a ∷ early) → P a × All P early
all_late P [] a early all = (All-head P a early all, All-tail P a early all)
all_late P (x ∷ late) a early all = all_late P late a early (All-tail P x (late ++ a ∷ early) all)

pub seen_insert : (late : List Event) (n v k u : ℕ) (early : List Event) → seen_of (late ++ Effect n v ∷ Effect k u ∷ early) ≡ seen_of (late ++ Effect n v ∷ early)
seen_insert [] n v k u early = refl
seen_insert (Seen x ∷ late) n v k u early = ap (λ xs. xs ++ x ∷ []) (seen_insert late n v k u early)
seen_insert (Effect m w ∷ late) n v k u early = seen_insert late n v k u early

pub value_insert : (start : ℕ) (late : List Event) (n v : ℕ) (e : Event) (early : List Event) → value_after start (late ++ Effect n v ∷ e ∷ early) ≡ value_after start (late ++ Effect n v ∷ early)
value_insert start [] n v e early = refl
value_insert start (Seen x ∷ late) n v e early = value_insert start late n v e early
value_insert start (Effect m w ∷ late) n v e early = refl

-- A SCHEDULE

module _ (start n v k u : ℕ) (early : List Event) (written : IsWritten early n v) (may : May start early (Effect k u)) where
  abbrev old : List Event → List Event
  old late = late ++ Effect n v ∷ early

  abbrev new : List Event → List Event
  new late = late ++ Effect n v ∷ Effect k u ∷ early

  effect_still : (late : List Event) (m w : ℕ) → (m ≡ k → ⊥) → TakesEffect start (old late) m w → TakesEffect start (new late) m w
  effect_still late m w other h = record {
    called = elim h.called [
      | inl wrote ↦ inl (written_more (old late) (new late) (contains_insert late (Effect n v) (Effect k u) early) m w wrote)
      | inr read ↦ inr (read_more (old late) (new late) (contains_insert late (Effect n v) (Effect k u) early) m w read.0, read.1 ∙ sym (value_insert start late n v (Effect k u) early))
    ];
    awaits = all_insert (IsNoEnd m) late (Effect n v) (Effect k u) early tt h.awaits;
    once = all_insert (IsNoEffect m) late (Effect n v) (Effect k u) early (λ e. other (sym e)) h.once;
  }

  may_still : (late : List Event) (x : Event) → IsNoEffect k x → May start (old late) x → May start (new late) x
  may_still late (Effect m w) fresh h = effect_still late m w fresh h
  may_still late (Seen (Done m)) fresh h = (h.0, contains_insert late (Effect n v) (Effect k u) early (Effect m h.0) h.1)
  may_still late (Seen (Failed m)) fresh h = tt
  may_still late (Seen (Write m w)) fresh h = tt
  may_still late (Seen (Read m w)) fresh h = tt

  pub schedule_insert : (late : List Event) → All (IsNoEffect k) (old late) → IsSchedule start (old late) → IsSchedule start (new late)
  schedule_insert [] fresh s = (
    record {
      called = inl (written_more early (Effect k u ∷ early) (further (Effect k u) early) n v written);
      awaits = All-cons (IsNoEnd n) (Effect k u) early tt s.0.awaits;
      once = All-cons (IsNoEffect n) (Effect k u) early (λ e. All-head (IsNoEffect k) (Effect n v) early fresh (sym e)) s.0.once;
    },
    (may, s.1),
  )
  schedule_insert (x ∷ late) fresh s = (may_still late x (All-head (IsNoEffect k) x (old late) fresh) s.0, schedule_insert late (All-tail (IsNoEffect k) x (old late) fresh) s.1)
