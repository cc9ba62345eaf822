-- A schedule of a register, with a sector's bytes for each value.
use Rattle.std.proofs.Common.{◌≡◌, ◌≢◌, ◌<◌, ◌⊎◌, inl, inr, ℕ, ◌==◌, Bool, true, false, List, [], ◌∷◌, ◌++◌, map, refl, sym, ◌∙◌, ap, subst, arith, length}
use Rattle.std.specs.Prelude.{All, Contains, if◌then◌else◌}
use Rattle.std.proofs.lemmas.Bool.{eqb-false, eq-eqb, ne_eqb}
use Rattle.std.proofs.lemmas.List.{map-append}
use Rattle.std.proofs.lemmas.List.Elements.{All-map, All-weaker, All-contains, Contains-append_left, Contains-push}
use Rattle.history_laws.proofs.Mirroring.{further, newest}
use Rattle.register.specs.declared.Sight.{Sight}
use Rattle.register.specs.declared.Sight.TheVariants.{Write, Read, Done, Failed}
use Rattle.register.specs.Schedules.{Event, Seen, Effect, seen_of, value_after, IsNoEnd, IsNoEffect, IsCalledFor, May, IsSchedule, HasSchedule}
use Rattle.register.specs.Values.{code}
use Rattle.history_shown.specs.Laws.{IsRecorded}
use Rattle.history_shown.proofs.Turning.{in_front}
use Rattle.history_filled.proofs.Decoding.{mended, mended_is, mended_has_value, sector_has_value}

-- the value that an operation had when it took effect
abbrev pub took : ℕ → List Event → ℕ
took n [] = 0
took n (Seen sight ∷ past) = took n past
took n (Effect m value ∷ past) = if m == n then value else took n past

-- a value, or where none was recorded another one
abbrev pub stand_in : (ℕ → ℕ) → ℕ → ℕ → ℕ
stand_in others n value = if value == 0 then others n else value

abbrev pub told : (ℕ → ℕ) → Sight → Sight
told others (Write n value) = Write n (stand_in others n value)
told others (Read n value) = Read n (stand_in others n value)
told others (Done n) = Done n
told others (Failed n) = Failed n

abbrev pub mended_event : ℕ → (ℕ → ℕ) → Event → Event
mended_event size others (Seen sight) = Seen (told others sight)
mended_event size others (Effect n value) = Effect n (mended size value)

-- a sector's value, or none
pub record IsValue (size value : ℕ) : Type 0 where
  pub some : 0 < size
  pub is : (value ≡ 0) ⊎ ((bytes : List ℕ) × (length bytes ≡ size) × (code bytes ≡ value))

abbrev pub IsOfSector : ℕ → Sight → Type 0
IsOfSector size (Write n value) = IsValue size value
IsOfSector size (Read n value) = IsValue size value
IsOfSector size (Done n) = Unit {0}
IsOfSector size (Failed n) = Unit {0}

-- LISTS OF EVENTS

contains_map : {X Y : Type 0} (f : X → Y) (xs : List X) (x : X) → Contains xs x → Contains (map f xs) (f x)
contains_map f [] x (k, low, is) = absurd (omega arith)
contains_map f (y ∷ xs) x there = elim (in_front y xs x there) [
  | inl e ↦ subst (λ z. Contains (map f (y ∷ xs)) (f z)) e (newest (f y) (map f xs))
  | inr before ↦ further (f y) (map f xs) (f x) (contains_map f xs x before)
]

seen_there : (past : List Event) (x : Sight) → Contains past (Seen x) → Contains (seen_of past) x
seen_there [] x (k, low, is) = absurd (omega arith)
seen_there (Seen y ∷ past) x there = elim (in_front (Seen y) past (Seen x) there) [
  | inl e ↦ let same : y ≡ x = cc (e) in subst (λ z. Contains (seen_of past ++ y ∷ []) z) same (Contains-push (seen_of past) y)
  | inr before ↦ Contains-append_left (seen_of past) (y ∷ []) x (seen_there past x before)
]
seen_there (Effect n value ∷ past) x there = elim (in_front (Effect n value) past (Seen x) there) [
  | inl e ↦ absurd (cc (e))
  | inr before ↦ seen_there past x before
]

-- an operation takes effect once
took_is : (start : ℕ) (past : List Event) → IsSchedule start past → (n value : ℕ) → Contains past (Effect n value) → took n past ≡ value
took_is start [] s n value (k, low, is) = absurd (omega arith)
took_is start (Seen x ∷ past) s n value there = elim (in_front (Seen x) past (Effect n value) there) [
  | inl e ↦ absurd (cc (e))
  | inr before ↦ took_is start past s.1 n value before
]
took_is start (Effect m other ∷ past) s n value there = elim (in_front (Effect m other) past (Effect n value) there) [
  | inl e ↦ let number : m ≡ n = cc (e) in let same : other ≡ value = cc (e) in
      ap (λ b. if b then other else took n past) (eq-eqb m n number) ∙ same
  | inr before ↦ ap (λ b. if b then other else took n past) (ne_eqb m n (λ number. All-contains (IsNoEffect m) past (Effect n value) s.0.once before (sym number))) ∙ took_is start past s.1 n value before
]

module _ (size start : ℕ) (all : List Event) (in_turn : IsSchedule start all) (values : (x : Sight) → Contains all (Seen x) → IsOfSector size x) where
  abbrev others : ℕ → ℕ
  others n = mended size (took n all)

  abbrev mend : Event → Event
  mend event = mended_event size others event

  seen_mended : (past : List Event) → seen_of (map mend past) ≡ map (told others) (seen_of past)
  seen_mended [] = refl
  seen_mended (Seen x ∷ past) = ap (λ xs. xs ++ told others x ∷ []) (seen_mended past) ∙ sym (map-append (told others) (seen_of past) (x ∷ []))
  seen_mended (Effect n value ∷ past) = seen_mended past

  value_mended : (past : List Event) → value_after (mended size start) (map mend past) ≡ mended size (value_after start past)
  value_mended [] = refl
  value_mended (Seen x ∷ past) = value_mended past
  value_mended (Effect n value ∷ past) = refl

  no_end : (n : ℕ) (event : Event) → IsNoEnd n event → IsNoEnd n (mend event)
  no_end n (Seen (Write m value)) h = tt
  no_end n (Seen (Read m value)) h = tt
  no_end n (Seen (Done m)) h = h
  no_end n (Seen (Failed m)) h = h
  no_end n (Effect m value) h = tt

  no_effect : (n : ℕ) (event : Event) → IsNoEffect n event → IsNoEffect n (mend event)
  no_effect n (Seen x) h = tt
  no_effect n (Effect m value) h = h

  -- the value of the effect stands for that of the call
  stands : (n value : ℕ) → took n all ≡ value → IsValue size value → stand_in others n value ≡ mended size value
  stands n value own h = by_value h.is
    where
      by_value : (value ≡ 0) ⊎ ((bytes : List ℕ) × (length bytes ≡ size) × (code bytes ≡ value)) → stand_in others n value ≡ mended size value
      by_value (inl none) = ap (stand_in others n) none ∙ ap (mended size) own
      by_value (inr (bytes, sized, is)) =
          ap (λ b. if b then others n else value) (ne_eqb value 0 (λ none. sector_has_value size bytes h.some sized (is ∙ none)))
          ∙ sym is ∙ sym (mended_is size bytes sized) ∙ ap (mended size) is

  called_mended : (past : List Event) → ((e : Event) → Contains past e → Contains all e) → (n value : ℕ) → took n all ≡ value → IsCalledFor start past n value
      → IsCalledFor (mended size start) (map mend past) n (mended size value)
  called_mended past inside n value own (inl (inl there)) =
      inl (inl (subst (λ v. Contains (map mend past) (Seen (Write n v))) (stands n value own (values (Write n value) (inside _ there))) (contains_map mend past (Seen (Write n value)) there)))
  called_mended past inside n value own (inl (inr there)) =
      inl (inl (subst (λ v. Contains (map mend past) (Seen (Write n (mended size v)))) own (contains_map mend past (Seen (Write n 0)) there)))
  called_mended past inside n value own (inr (inl there, met)) =
      inr (
        inl (subst (λ v. Contains (map mend past) (Seen (Read n v))) (stands n value own (values (Read n value) (inside _ there))) (contains_map mend past (Seen (Read n value)) there)),
        ap (mended size) met ∙ sym (value_mended past),
      )
  called_mended past inside n value own (inr (inr there, met)) =
      inr (
        inl (subst (λ v. Contains (map mend past) (Seen (Read n (mended size v)))) own (contains_map mend past (Seen (Read n 0)) there)),
        ap (mended size) met ∙ sym (value_mended past),
      )

  may_mended : (past : List Event) (event : Event) → ((e : Event) → Contains past e → Contains all e) → Contains all event → May start past event → May (mended size start) (map mend past) (mend event)
  may_mended past (Effect n value) inside there t = record {
    called = called_mended past inside n value (took_is start all in_turn n value there) t.called;
    awaits = All-map (IsNoEnd n) mend past (All-weaker (IsNoEnd n) (λ e. IsNoEnd n (mend e)) (no_end n) past t.awaits);
    once = All-map (IsNoEffect n) mend past (All-weaker (IsNoEffect n) (λ e. IsNoEffect n (mend e)) (no_effect n) past t.once);
  }
  may_mended past (Seen (Done n)) inside there (value, before) = (mended size value, contains_map mend past (Effect n value) before)
  may_mended past (Seen (Failed n)) inside there h = tt
  may_mended past (Seen (Write n value)) inside there h = tt
  may_mended past (Seen (Read n value)) inside there h = tt

  schedule_mended : (past : List Event) → ((e : Event) → Contains past e → Contains all e) → IsSchedule start past → IsSchedule (mended size start) (map mend past)
  schedule_mended [] inside s = tt
  schedule_mended (event ∷ past) inside s = (
    may_mended past event (λ e there. inside e (further event past e there)) (inside event (newest event past)) s.0,
    schedule_mended past (λ e there. inside e (further event past e there)) s.1,
  )

-- the value of each operation's effect, as a sector may have it
abbrev pub others_of : ℕ → {start : ℕ} {sights : List Sight} → HasSchedule start sights → ℕ → ℕ
others_of size h n = mended size (took n h.events)

pub has_mended : (size : ℕ) (start : List ℕ) (sights : List Sight) → length start ≡ size → (h : HasSchedule (code start) sights) → All (IsOfSector size) sights
    → HasSchedule (code start) (map (told (others_of size h)) sights)
has_mended size start sights sized h values = record {
  events = map (mended_event size (others_of size h)) h.events;
  in_turn = subst (λ s. IsSchedule s (map (mended_event size (others_of size h)) h.events)) (mended_is size start sized)
      (schedule_mended size (code start) h.events h.in_turn is_of h.events (λ e there. there) h.in_turn);
  seen = seen_mended size (code start) h.events h.in_turn is_of h.events ∙ ap (map (told (others_of size h))) h.seen;
}
  where
    is_of : (x : Sight) → Contains h.events (Seen x) → IsOfSector size x
    is_of x there = All-contains (IsOfSector size) sights x values (subst (λ xs. Contains xs x) h.seen (seen_there h.events x there))

-- RECORDED VALUES

stands_recorded : (others : ℕ → ℕ) (n value : ℕ) → others n ≢ 0 → (b : Bool) → (value == 0) ≡ b → (if b then others n else value) ≢ 0
stands_recorded others n value some true e = some
stands_recorded others n value some false e = eqb-false value 0 e

told_recorded : (size : ℕ) (values : ℕ → ℕ) (x : Sight) → IsOfSector size x → IsRecorded (told (λ n. mended size (values n)) x)
told_recorded size values (Write n value) h = stands_recorded (λ n. mended size (values n)) n value (mended_has_value size (values n) h.some) (value == 0) refl
told_recorded size values (Read n value) h = stands_recorded (λ n. mended size (values n)) n value (mended_has_value size (values n) h.some) (value == 0) refl
told_recorded size values (Done n) h = tt
told_recorded size values (Failed n) h = tt

pub all_recorded : (size : ℕ) (values : ℕ → ℕ) (sights : List Sight) → All (IsOfSector size) sights → All IsRecorded (map (told (λ n. mended size (values n))) sights)
all_recorded size values sights h =
    All-map IsRecorded (told (λ n. mended size (values n))) sights (All-weaker (IsOfSector size) (λ x. IsRecorded (told (λ n. mended size (values n)) x)) (told_recorded size values) sights h)
