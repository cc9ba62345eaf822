-- What has a schedule from some value on that nobody read early has one from any other.
use Rattle.std.proofs.Common.{◌≡◌, ◌≢◌, ◌⊎◌, inl, inr, ℕ, zero, suc, ◌==◌, ◌||◌, Bool, true, false, List, [], ◌∷◌, ◌++◌, refl, sym, ◌∙◌, ap, subst, arith, eq-eqb}
use Rattle.std.specs.Prelude.{All, Contains, if◌then◌else◌}
use Rattle.std.proofs.lemmas.Bool.{cases_Bool, eqb-true}
use Rattle.std.proofs.lemmas.List.Elements.{All-nil, All-cons, All-head, All-tail, Contains-append_left, Contains-push}
use Rattle.history_laws.proofs.Mirroring.{further, newest}
use Rattle.register.specs.declared.Sight.{Sight}
use Rattle.register.specs.declared.Sight.TheVariants.{Write, Read, Done, Failed}
use Rattle.register.specs.Schedules.{Event, Seen, Effect, seen_of, value_after, unrecorded, IsNoEnd, IsNoEffect, IsWritten, IsRead, IsCalledFor, TakesEffect, May, IsSchedule, HasSchedule}
use Rattle.history_judge.specs.inside.Starting.{is_blank, with_blank, IsEarly}

first_or_behind : {X : Type 0} (y : X) (xs : List X) (x : X) → Contains (y ∷ xs) x → (y ≡ x) ⊎ Contains xs x
first_or_behind y xs x (zero, low, is) = inl is
first_or_behind y xs x (suc k, low, is) = inr (k, omega arith, is)

nothing : {X : Type 0} {x : X} → Contains [] x → ⊥
nothing (k, low, is) = absurd (omega arith)

seen_is : {x y : Sight} → Seen x ≡ Seen y → x ≡ y
seen_is e = cc (e)

read_is : {n m v w : ℕ} → Read n v ≡ Read m w → (n ≡ m) × (v ≡ w)
read_is e = (cc (e), cc (e))

-- SIGHTS

-- nothing succeeds but reads whose bytes were not recorded
abbrev GoesOn : List ℕ → List Sight → Type 0
GoesOn blanks [] = Unit {0}
GoesOn blanks (Read number value ∷ sights) = GoesOn (with_blank blanks number value) sights
GoesOn blanks (Done number ∷ sights) = (is_blank blanks number ≡ true) × GoesOn blanks sights
GoesOn blanks (Write number value ∷ sights) = GoesOn blanks sights
GoesOn blanks (Failed number ∷ sights) = GoesOn blanks sights

-- a sight by which it goes on
abbrev IsNoDone : Sight → Type 0
IsNoDone (Done number) = ⊥
IsNoDone (Read number value) = Unit {0}
IsNoDone (Write number value) = Unit {0}
IsNoDone (Failed number) = Unit {0}

goes_push : (blanks : List ℕ) (sights : List Sight) (x : Sight) → GoesOn blanks sights → IsNoDone x → GoesOn blanks (sights ++ x ∷ [])
goes_push blanks [] (Read number value) goes other = tt
goes_push blanks [] (Write number value) goes other = tt
goes_push blanks [] (Failed number) goes other = tt
goes_push blanks [] (Done number) goes other = absurd other
goes_push blanks (Read number value ∷ sights) x goes other = goes_push (with_blank blanks number value) sights x goes other
goes_push blanks (Done number ∷ sights) x goes other = (goes.0, goes_push blanks sights x goes.1 other)
goes_push blanks (Write number value ∷ sights) x goes other = goes_push blanks sights x goes other
goes_push blanks (Failed number ∷ sights) x goes other = goes_push blanks sights x goes other

or_right : (a b : Bool) → b ≡ true → (a || b) ≡ true
or_right true b e = refl
or_right false b e = e

blank_still : (blanks : List ℕ) (number value m : ℕ) → is_blank blanks m ≡ true → is_blank (with_blank blanks number value) m ≡ true
blank_still blanks number value m h = by_value (value == unrecorded)
  where
    by_value : (b : Bool) → is_blank (if b then number ∷ blanks else blanks) m ≡ true
    by_value true = or_right (number == m) (is_blank blanks m) h
    by_value false = h

blank_now : (blanks : List ℕ) (number value m : ℕ) → Read number value ≡ Read m unrecorded → is_blank (with_blank blanks number value) m ≡ true
blank_now blanks number value m e =
    let is : (number ≡ m) × (value ≡ unrecorded) = read_is e in
    ap (λ b. is_blank (if b then number ∷ blanks else blanks) m) (eq-eqb value unrecorded is.1) ∙ ap (λ b. b || is_blank blanks m) (eq-eqb number m is.0)

-- it goes on where such a read succeeds
goes_done : (blanks : List ℕ) (sights : List Sight) (m : ℕ) → GoesOn blanks sights → (is_blank blanks m ≡ true) ⊎ Contains sights (Read m unrecorded) → GoesOn blanks (sights ++ Done m ∷ [])
goes_done blanks [] m goes (inl blank) = (blank, tt)
goes_done blanks [] m goes (inr there) = absurd (nothing there)
goes_done blanks (Read number value ∷ sights) m goes (inl blank) = goes_done (with_blank blanks number value) sights m goes (inl (blank_still blanks number value m blank))
goes_done blanks (Read number value ∷ sights) m goes (inr there) = elim (first_or_behind (Read number value) sights (Read m unrecorded) there) [
  | inl e ↦ goes_done (with_blank blanks number value) sights m goes (inl (blank_now blanks number value m e))
  | inr behind ↦ goes_done (with_blank blanks number value) sights m goes (inr behind)
]
goes_done blanks (Done number ∷ sights) m goes (inl blank) = (goes.0, goes_done blanks sights m goes.1 (inl blank))
goes_done blanks (Done number ∷ sights) m goes (inr there) = elim (first_or_behind (Done number) sights (Read m unrecorded) there) [
  | inl e ↦ absurd (cc (e))
  | inr behind ↦ (goes.0, goes_done blanks sights m goes.1 (inr behind))
]
goes_done blanks (Write number value ∷ sights) m goes (inl blank) = goes_done blanks sights m goes (inl blank)
goes_done blanks (Write number value ∷ sights) m goes (inr there) = elim (first_or_behind (Write number value) sights (Read m unrecorded) there) [
  | inl e ↦ absurd (cc (e))
  | inr behind ↦ goes_done blanks sights m goes (inr behind)
]
goes_done blanks (Failed number ∷ sights) m goes (inl blank) = goes_done blanks sights m goes (inl blank)
goes_done blanks (Failed number ∷ sights) m goes (inr there) = elim (first_or_behind (Failed number) sights (Read m unrecorded) there) [
  | inl e ↦ absurd (cc (e))
  | inr behind ↦ goes_done blanks sights m goes (inr behind)
]

-- a read that was seen where it goes on is early
early_there : (blanks : List ℕ) (sights : List Sight) (m value : ℕ) → GoesOn blanks sights → value ≢ unrecorded → Contains sights (Read m value) → IsEarly blanks value sights
early_there blanks [] m value goes some there = absurd (nothing there)
early_there blanks (Read number other ∷ sights) m value goes some there = elim (first_or_behind (Read number other) sights (Read m value) there) [
  | inl e ↦ let is : (number ≡ m) × (other ≡ value) = read_is e in inl (is.1, λ none. some (sym is.1 ∙ none))
  | inr behind ↦ inr (early_there (with_blank blanks number other) sights m value goes some behind)
]
early_there blanks (Done number ∷ sights) m value goes some there = elim (first_or_behind (Done number) sights (Read m value) there) [
  | inl e ↦ absurd (cc (e))
  | inr behind ↦ (goes.0, early_there blanks sights m value goes.1 some behind)
]
early_there blanks (Write number other ∷ sights) m value goes some there = elim (first_or_behind (Write number other) sights (Read m value) there) [
  | inl e ↦ absurd (cc (e))
  | inr behind ↦ early_there blanks sights m value goes some behind
]
early_there blanks (Failed number ∷ sights) m value goes some there = elim (first_or_behind (Failed number) sights (Read m value) there) [
  | inl e ↦ absurd (cc (e))
  | inr behind ↦ early_there blanks sights m value goes some behind
]

early_more : (blanks : List ℕ) (sights : List Sight) (x : Sight) (value : ℕ) → IsEarly blanks value sights → IsEarly blanks value (sights ++ x ∷ [])
early_more blanks [] x value h = absurd h
early_more blanks (Read number other ∷ sights) x value (inl here) = inl here
early_more blanks (Read number other ∷ sights) x value (inr h) = inr (early_more (with_blank blanks number other) sights x value h)
early_more blanks (Done number ∷ sights) x value h = (h.0, early_more blanks sights x value h.1)
early_more blanks (Write number other ∷ sights) x value h = early_more blanks sights x value h
early_more blanks (Failed number ∷ sights) x value h = early_more blanks sights x value h

-- what was seen is among the sights
among : (past : List Event) (x : Sight) → Contains past (Seen x) → Contains (seen_of past) x
among [] x there = absurd (nothing there)
among (Effect n v ∷ past) x there = elim (first_or_behind (Effect n v) past (Seen x) there) [ inl e ↦ absurd (cc (e)) | inr behind ↦ among past x behind ]
among (Seen y ∷ past) x there = elim (first_or_behind (Seen y) past (Seen x) there) [
  | inl e ↦ subst (Contains (seen_of past ++ y ∷ [])) (seen_is e) (Contains-push (seen_of past) y)
  | inr behind ↦ Contains-append_left (seen_of past) (y ∷ []) x (among past x behind)
]

-- ANOTHER START

-- only reads whose bytes were not recorded have taken effect
record IsQuiet (start other : ℕ) (past others : List Event) : Type 0 where
  before : value_after start past ≡ start
  now : value_after other others ≡ other
  blank : (n v : ℕ) → Contains past (Effect n v) → Contains past (Seen (Read n unrecorded))
  goes : GoesOn [] (seen_of past)

-- the same is seen from another start
record Otherwise (start other : ℕ) (past others : List Event) : Type 0 where
  seen : seen_of others ≡ seen_of past
  turns : IsSchedule other others
  calls : (x : Sight) → Contains past (Seen x) → Contains others (Seen x)
  effects : (n v : ℕ) → Contains past (Effect n v) → (w : ℕ) × Contains others (Effect n w)
  awaits : (n : ℕ) → All (IsNoEnd n) past → All (IsNoEnd n) others
  once : (n : ℕ) → All (IsNoEffect n) past → All (IsNoEffect n) others
  linked : (value_after start past ≡ value_after other others) ⊎ IsQuiet start other past others

abbrev EarlyOr : ℕ → ℕ → List Event → Type 0
EarlyOr start other past = IsEarly [] start (seen_of past) ⊎ ((others : List Event) × Otherwise start other past others)

module _ (start other : ℕ) (past others : List Event) (o : Otherwise start other past others) where
  written : (n v : ℕ) → IsWritten past n v → IsWritten others n v
  written n v (inl there) = inl (o.calls (Write n v) there)
  written n v (inr there) = inr (o.calls (Write n unrecorded) there)

  read : (n v : ℕ) → IsRead past n v → IsRead others n v
  read n v (inl there) = inl (o.calls (Read n v) there)
  read n v (inr there) = inr (o.calls (Read n unrecorded) there)

  -- an effect, maybe with another value
  effect_on : (n v w : ℕ) → TakesEffect start past n v → IsCalledFor other others n w → ((v ≡ w) ⊎ IsQuiet start other (Effect n v ∷ past) (Effect n w ∷ others))
      → Otherwise start other (Effect n v ∷ past) (Effect n w ∷ others)
  effect_on n v w takes called linked = record {
    seen = o.seen;
    turns = (record { called = called; awaits = o.awaits n takes.awaits; once = o.once n takes.once }, o.turns);
    calls = λ x there. elim (first_or_behind (Effect n v) past (Seen x) there) [ inl e ↦ absurd (cc (e)) | inr behind ↦ further (Effect n w) others _ (o.calls x behind) ];
    effects = λ m u there. elim (first_or_behind (Effect n v) past (Effect m u) there) [
      | inl e ↦ let number : n ≡ m = cc (e) in (w, subst (λ k. Contains (Effect n w ∷ others) (Effect k w)) number (newest (Effect n w) others))
      | inr behind ↦ let old = o.effects m u behind in (old.0, further (Effect n w) others _ old.1)
    ];
    awaits = λ m all. All-cons (IsNoEnd m) (Effect n w) others tt (o.awaits m (All-tail (IsNoEnd m) (Effect n v) past all));
    once = λ m all. All-cons (IsNoEffect m) (Effect n w) others (All-head (IsNoEffect m) (Effect n v) past all) (o.once m (All-tail (IsNoEffect m) (Effect n v) past all));
    linked = linked;
  }

  blank_effect : (n v : ℕ) → TakesEffect start past n v → Contains past (Seen (Read n unrecorded)) → v ≡ value_after start past → IsQuiet start other past others
      → Otherwise start other (Effect n v ∷ past) (Effect n other ∷ others)
  blank_effect n v takes there met quiet = effect_on n v other takes (inr (inr (o.calls (Read n unrecorded) there), sym quiet.now)) (inr (record {
    before = met ∙ quiet.before;
    now = refl;
    blank = λ m w at. elim (first_or_behind (Effect n v) past (Effect m w) at) [
      | inl e ↦ let number : n ≡ m = cc (e) in further (Effect n v) past _ (subst (λ k. Contains past (Seen (Read k unrecorded))) number there)
      | inr behind ↦ further (Effect n v) past _ (quiet.blank m w behind)
    ];
    goes = quiet.goes;
  }))

  read_effect : (n v : ℕ) → TakesEffect start past n v → IsRead past n v → v ≡ value_after start past → IsQuiet start other past others → EarlyOr start other (Effect n v ∷ past)
  read_effect n v takes (inr none) met quiet = inr (Effect n other ∷ others, blank_effect n v takes none met quiet)
  read_effect n v takes (inl there) met quiet = elim (cases_Bool (v == unrecorded)) [
    | inl none ↦ inr (Effect n other ∷ others, blank_effect n v takes (subst (λ w. Contains past (Seen (Read n w))) (eqb-true v unrecorded none) there) met quiet)
    | inr some ↦
        let is : v ≡ start = met ∙ quiet.before in
        inl (subst (λ w. IsEarly [] w (seen_of past)) is (early_there [] (seen_of past) n v quiet.goes (λ none. absurd (cc (sym (eq-eqb v unrecorded none) ∙ some))) (among past (Read n v) there)))
  ]

  effect_or : (n v : ℕ) → TakesEffect start past n v → EarlyOr start other (Effect n v ∷ past)
  effect_or n v takes = by_call takes.called
    where
      by_call : IsCalledFor start past n v → EarlyOr start other (Effect n v ∷ past)
      by_call (inl is) = inr (Effect n v ∷ others, effect_on n v v takes (inl (written n v is)) (inl refl))
      by_call (inr both) = elim o.linked [
        | inl same ↦ inr (Effect n v ∷ others, effect_on n v v takes (inr (read n v both.0, both.1 ∙ same)) (inl refl))
        | inr quiet ↦ read_effect n v takes both.0 both.1 quiet
      ]

  may_too : (x : Sight) → May start past (Seen x) → May other others (Seen x)
  may_too (Done n) did = o.effects n did.0 did.1
  may_too (Write n v) did = tt
  may_too (Read n v) did = tt
  may_too (Failed n) did = tt

  goes_seen : (x : Sight) → May start past (Seen x) → IsQuiet start other past others → GoesOn [] (seen_of past ++ x ∷ [])
  goes_seen (Done n) did quiet = goes_done [] (seen_of past) n quiet.goes (inr (among past (Read n unrecorded) (quiet.blank n did.0 did.1)))
  goes_seen (Write n v) did quiet = goes_push [] (seen_of past) (Write n v) quiet.goes tt
  goes_seen (Read n v) did quiet = goes_push [] (seen_of past) (Read n v) quiet.goes tt
  goes_seen (Failed n) did quiet = goes_push [] (seen_of past) (Failed n) quiet.goes tt

  seen_on : (x : Sight) → May start past (Seen x) → Otherwise start other (Seen x ∷ past) (Seen x ∷ others)
  seen_on x may = record {
    seen = ap (λ xs. xs ++ x ∷ []) o.seen;
    turns = (may_too x may, o.turns);
    calls = λ y there. elim (first_or_behind (Seen x) past (Seen y) there) [
      | inl e ↦ subst (λ z. Contains (Seen x ∷ others) (Seen z)) (seen_is e) (newest (Seen x) others)
      | inr behind ↦ further (Seen x) others _ (o.calls y behind)
    ];
    effects = λ m u there. elim (first_or_behind (Seen x) past (Effect m u) there) [ inl e ↦ absurd (cc (e)) | inr behind ↦ let old = o.effects m u behind in (old.0, further (Seen x) others _ old.1) ];
    awaits = λ m all. All-cons (IsNoEnd m) (Seen x) others (All-head (IsNoEnd m) (Seen x) past all) (o.awaits m (All-tail (IsNoEnd m) (Seen x) past all));
    once = λ m all. All-cons (IsNoEffect m) (Seen x) others tt (o.once m (All-tail (IsNoEffect m) (Seen x) past all));
    linked = elim o.linked [
      | inl same ↦ inl same
      | inr quiet ↦ inr (record {
        before = quiet.before;
        now = quiet.now;
        blank = λ m w at. elim (first_or_behind (Seen x) past (Effect m w) at) [ inl e ↦ absurd (cc (e)) | inr behind ↦ further (Seen x) past _ (quiet.blank m w behind) ];
        goes = goes_seen x may quiet;
      })
    ];
  }

nothing_yet : (start other : ℕ) → Otherwise start other [] []
nothing_yet start other = record {
  seen = refl;
  turns = tt;
  calls = λ x there. absurd (nothing there);
  effects = λ n v there. absurd (nothing there);
  awaits = λ n all. All-nil (IsNoEnd n);
  once = λ n all. All-nil (IsNoEffect n);
  linked = inr (record { before = refl; now = refl; blank = λ n v there. absurd (nothing there); goes = tt });
}

otherwise : (start other : ℕ) (past : List Event) → IsSchedule start past → EarlyOr start other past
otherwise start other [] turns = inr ([], nothing_yet start other)
otherwise start other (Seen x ∷ past) turns = elim (otherwise start other past turns.1) [
  | inl early ↦ inl (early_more [] (seen_of past) x start early)
  | inr (others, o) ↦ inr (Seen x ∷ others, seen_on start other past others o x turns.0)
]
otherwise start other (Effect n v ∷ past) turns = elim (otherwise start other past turns.1) [
  | inl early ↦ inl early
  | inr (others, o) ↦ effect_or start other past others o n v turns.0
]

-- what has a schedule from some start reads it early, or has one from any other
pub started : (start other : ℕ) (sights : List Sight) → HasSchedule start sights → IsEarly [] start sights ⊎ HasSchedule other sights
started start other sights h = elim (otherwise start other h.events h.in_turn) [
  | inl early ↦ inl (subst (IsEarly [] start) h.seen early)
  | inr (others, o) ↦ inr (record { events = others; in_turn = o.turns; seen = o.seen ∙ h.seen })
]
