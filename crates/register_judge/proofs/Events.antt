-- Events of a schedule, and what is known of its effects.
use Rattle.std.proofs.Common.{◌≡◌, ◌≤◌, ◌⊎◌, inl, inr, ℕ, zero, suc, Bool, true, false, List, [], ◌∷◌, refl, sym, subst, arith}
use Rattle.std.specs.Prelude.{All, Contains}
use Rattle.std.proofs.lemmas.Bool.{cases_eq}
use Rattle.std.proofs.lemmas.List.Elements.{All-nil, All-cons, All-contains}
use Rattle.register.specs.declared.Sight.{Sight}
use Rattle.register.specs.declared.Sight.TheVariants.{Write, Read, Done, Failed}
use Rattle.register.specs.Schedules.{Event, Seen, Effect, value_after, IsNoEffect, unrecorded, IsWritten, IsRead, TakesEffect}

abbrev pub IsAtMost : ℕ → Event → Type 0
IsAtMost last (Seen (Write number value)) = number ≤ last
IsAtMost last (Seen (Read number value)) = number ≤ last
IsAtMost last (Seen (Done number)) = number ≤ last
IsAtMost last (Seen (Failed number)) = number ≤ last
IsAtMost last (Effect number value) = number ≤ last

abbrev pub HasEffect : ℕ → List Event → Type 0
HasEffect n past = (v : ℕ) × Contains past (Effect n v)

abbrev pub call_of : Bool → ℕ → ℕ → Sight
call_of true n v = Write n v
call_of false n v = Read n v

pub further : {X : Type 0} (y : X) (xs : List X) (x : X) → Contains xs x → Contains (y ∷ xs) x
further y xs x (k, low, is) = (suc k, omega arith, is)

pub newest : {X : Type 0} (x : X) (xs : List X) → Contains (x ∷ xs) x
newest x xs = (0, omega arith, refl)

pub first_or_behind : {X : Type 0} (y : X) (xs : List X) (x : X) → Contains (y ∷ xs) x → (y ≡ x) ⊎ Contains xs x
first_or_behind y xs x (zero, low, is) = inl is
first_or_behind y xs x (suc k, low, is) = inr (k, omega arith, is)

pub behind : {X : Type 0} (y : X) (xs : List X) (x : X) → (y ≡ x → ⊥) → Contains (y ∷ xs) x → Contains xs x
behind y xs x other h = elim (first_or_behind y xs x h) [ inl e ↦ absurd (other e) | inr there ↦ there ]

pub effect_or_not : (n : ℕ) (past : List Event) → HasEffect n past ⊎ All (IsNoEffect n) past
effect_or_not n [] = inr (All-nil (IsNoEffect n))
effect_or_not n (Seen x ∷ past) = elim (effect_or_not n past) [
  | inl h ↦ inl (h.0, further (Seen x) past (Effect n h.0) h.1)
  | inr none ↦ inr (All-cons (IsNoEffect n) (Seen x) past tt none)
]
effect_or_not n (Effect m v ∷ past) = elim (cases_eq m n) [
  | inl same ↦ inl (v, subst (λ k. Contains (Effect m v ∷ past) (Effect k v)) same (newest (Effect m v) past))
  | inr other ↦ elim (effect_or_not n past) [
    | inl h ↦ inl (h.0, further (Effect m v) past (Effect n h.0) h.1)
    | inr none ↦ inr (All-cons (IsNoEffect n) (Effect m v) past other none)
  ]
]

pub none_and_some : (n : ℕ) (past : List Event) → All (IsNoEffect n) past → HasEffect n past → ⊥
none_and_some n past none some = All-contains (IsNoEffect n) past (Effect n some.0) none some.1 refl

pub more_effect : (n : ℕ) (e : Event) (past : List Event) → HasEffect n past → HasEffect n (e ∷ past)
more_effect n e past h = (h.0, further e past (Effect n h.0) h.1)

pub behind_effect : (n : ℕ) (x : Sight) (past : List Event) → HasEffect n (Seen x ∷ past) → HasEffect n past
behind_effect n x past h = (h.0, behind (Seen x) past (Effect n h.0) (λ e. cc (e)) h.1)

pub behind_act : (x : Sight) (past : List Event) (n v : ℕ) → Contains (Seen x ∷ past) (Effect n v) → Contains past (Effect n v)
behind_act x past n v c = behind (Seen x) past (Effect n v) (λ e. cc (e)) c

pub which_effect : (n m v : ℕ) (past : List Event) → HasEffect m (Effect n v ∷ past) → (n ≡ m) ⊎ HasEffect m past
which_effect n m v past h = elim (first_or_behind (Effect n v) past (Effect m h.0) h.1) [ inl e ↦ inl (cc (e)) | inr there ↦ inr (h.0, there) ]

pub behind_call : (n v : ℕ) (past : List Event) (writes : Bool) (m u : ℕ) → Contains (Effect n v ∷ past) (Seen (call_of writes m u)) → Contains past (Seen (call_of writes m u))
behind_call n v past writes m u h = behind (Effect n v) past (Seen (call_of writes m u)) (λ e. cc (e)) h

-- of an operation's effect: it has one value, and was called for
pub record Effects (past : List Event) : Type 0 where
  pub single : (n a b : ℕ) → Contains past (Effect n a) → Contains past (Effect n b) → a ≡ b
  pub called : (n v : ℕ) → Contains past (Effect n v) → IsWritten past n v ⊎ IsRead past n v

pub written_more : (old new : List Event) → ((y : Event) → Contains old y → Contains new y) → (n v : ℕ) → IsWritten old n v → IsWritten new n v
written_more old new more n v (inl c) = inl (more (Seen (Write n v)) c)
written_more old new more n v (inr c) = inr (more (Seen (Write n unrecorded)) c)

pub read_more : (old new : List Event) → ((y : Event) → Contains old y → Contains new y) → (n v : ℕ) → IsRead old n v → IsRead new n v
read_more old new more n v (inl c) = inl (more (Seen (Read n v)) c)
read_more old new more n v (inr c) = inr (more (Seen (Read n unrecorded)) c)

either_more : (old new : List Event) → ((y : Event) → Contains old y → Contains new y) → (n v : ℕ) → IsWritten old n v ⊎ IsRead old n v → IsWritten new n v ⊎ IsRead new n v
either_more old new more n v (inl w) = inl (written_more old new more n v w)
either_more old new more n v (inr r) = inr (read_more old new more n v r)

pub effects_none : Effects []
effects_none = record { single = λ n a b c c'. let low = c.1 in absurd (omega arith); called = λ n v c. let low = c.1 in absurd (omega arith) }

pub effects_seen : (x : Sight) (past : List Event) → Effects past → Effects (Seen x ∷ past)
effects_seen x past h = record {
  single = λ n a b c c'. h.single n a b (behind_act x past n a c) (behind_act x past n b c');
  called = λ n v c. either_more past (Seen x ∷ past) (further (Seen x) past) n v (h.called n v (behind_act x past n v c));
}

pub effects_more : (start : ℕ) (past : List Event) (n v : ℕ) → TakesEffect start past n v → Effects past → Effects (Effect n v ∷ past)
effects_more start past n v t h = record {
  single = λ m a b c c'. elim (first_or_behind (Effect n v) past (Effect m a) c) [
    | inl is ↦ elim (first_or_behind (Effect n v) past (Effect m b) c') [
      | inl is' ↦ cc (is, is')
      | inr there' ↦ absurd (fresh m b (cc (is)) there')
    ]
    | inr there ↦ elim (first_or_behind (Effect n v) past (Effect m b) c') [
      | inl is' ↦ absurd (fresh m a (cc (is')) there)
      | inr there' ↦ h.single m a b there there'
    ]
  ];
  called = λ m u c. either_more past (Effect n v ∷ past) (further (Effect n v) past) m u (elim (first_or_behind (Effect n v) past (Effect m u) c) [
    | inl is ↦ own m u (cc (is)) (cc (is))
    | inr there ↦ h.called m u there
  ]);
}
  where
    fresh : (m u : ℕ) → n ≡ m → Contains past (Effect m u) → ⊥
    fresh m u is c = none_and_some n past t.once (u, subst (λ k. Contains past (Effect k u)) (sym is) c)

    by_call : IsWritten past n v ⊎ (IsRead past n v × (v ≡ value_after start past)) → IsWritten past n v ⊎ IsRead past n v
    by_call (inl w) = inl w
    by_call (inr r) = inr r.0

    own : (m u : ℕ) → n ≡ m → v ≡ u → IsWritten past m u ⊎ IsRead past m u
    own m u is is' = subst (λ k. IsWritten past k u ⊎ IsRead past k u) is (subst (λ z. IsWritten past n z ⊎ IsRead past n z) is' (by_call t.called))
