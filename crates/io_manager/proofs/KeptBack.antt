-- Between two steps none is left to start, and none is with requests cancelled or with a pause begun.
use Rattle.std.proofs.Common.{◌≡◌, ◌<◌, inl, inr, ℕ, ◌+◌, Bool, true, false, cond, List, [], ◌∷◌, Option, Some, None, refl, sym, ◌∙◌, ap, subst, map, length, get_or}
use Rattle.std.specs.Prelude.{IsTrue, IsFalse, All, count_by, ◌||◌}
use Rattle.io_manager.proofs.Common.{All-permutation, length_permutation, All-weaker, All-map, Rules, is_started, Cancels, Pauses, as_cancelled, beyond, held_back, Settled, IsAtWork, IsFull, IsHeldBack, started_count, Run, IsSame-sym, All-changed, as_cancel, IsKeptBack, HasNoneToStart}
use Rattle.machine.specs.State.{OpenRequest, State, IsSame}
use Rattle.io_manager.proofs.Starting.{count_first, count_same}
use Rattle.io_manager.proofs.Timely.{AreTimely}

module _ (rules : Rules) where
  -- with the same pieces and flags, and as many started
  kept_as : (s s' : State) → s'.paused ≡ s.paused → started_count s ≡ started_count s' → (o : OpenRequest) → IsKeptBack rules s o → IsKeptBack rules s' o
  kept_as s s' paused count o kept timely unstarted = elim (kept timely unstarted) [
    | inl held ↦ inl (subst IsTrue (sym paused) held.0, held.1)
    | inr full ↦ inr (subst (IsFull rules.window) count full)
  ]

  none_same : (s s' : State) → IsSame s s' → HasNoneToStart rules s → HasNoneToStart rules s'
  none_same s s' same none =
      let n : length s'.pieces ≡ length s.pieces = length_permutation _ _ same.pieces in
      record {
        at_work = λ free. All-permutation IsAtWork _ _ same.requests (none.at_work (rw (← n) free));
        kept_back = λ free staying.
            All-weaker (IsKeptBack rules s) (IsKeptBack rules s') (kept_as s s' (sym same.paused) (count_same _ _ same.requests)) s'.requests
            (All-permutation (IsKeptBack rules s) _ _ same.requests (none.kept_back (rw (← n) free) (subst IsFalse (sym same.removing) staying)));
      }

  -- in a settled state
  pub settled_none : (s : State) → Settled rules s → AreTimely s → HasNoneToStart rules s
  settled_none s settled timely = record {
    at_work = settled.at_work;
    kept_back = λ free staying i d low uncancelled unstarted. elim (settled.released free staying i d low unstarted) [
      | inl late ↦ inl (if_late s.paused refl staying i d low late, late)
      | inr full ↦ inr full
    ];
  }
    where
      if_late : (b : Bool) → s.paused ≡ b → IsFalse s.removing → (i : ℕ) (d : OpenRequest) (low : i < length s.requests) → IsTrue (get_or s.requests i d).late → IsTrue s.paused
      if_late true e staying i d low late = e
      if_late false e staying i d low late = let not_late : (get_or s.requests i d).late ≡ false = timely e staying i d low in cc (not_late, late)

  -- a request is cancelled
  cancelled_none : (s : State) (number : ℕ) (s' : State) → Cancels s number s' → HasNoneToStart rules s → HasNoneToStart rules s'
  cancelled_none s number s' c none =
      none_same (record s { requests = as_cancelled c.request ∷ c.others }) s' (IsSame-sym _ _ c.after) (record {
        at_work = λ free. All-changed IsAtWork s.requests c.request (as_cancelled c.request) c.others c.is_open (none.at_work free) (λ at_work. at_work);
        kept_back = λ free staying.
            All-weaker (IsKeptBack rules s) (IsKeptBack rules (record s { requests = as_cancelled c.request ∷ c.others }))
            (kept_as s (record s { requests = as_cancelled c.request ∷ c.others }) refl same_count) (as_cancelled c.request ∷ c.others)
            (All-changed (IsKeptBack rules s) s.requests c.request (as_cancelled c.request) c.others c.is_open (none.kept_back free staying)
            (λ kept uncancelled unstarted. cc (uncancelled)));
      })
    where
      same_count : started_count s ≡ count_by is_started (as_cancelled c.request ∷ c.others)
      same_count = count_same _ _ c.is_open ∙ count_first c.request c.others ∙ sym (count_first (as_cancelled c.request) c.others)

  -- all of some numbers
  pub all_cancelled_none : (numbers : List ℕ) (s s' : State) → Run rules s (map as_cancel numbers) s' → HasNoneToStart rules s → HasNoneToStart rules s'
  all_cancelled_none [] s s' run none = none_same s s' run none
  all_cancelled_none (number ∷ numbers) s s' (mid, inl (free, step), run) none = all_cancelled_none numbers mid s' run (cancelled_none s number mid step none)
  all_cancelled_none (number ∷ numbers) s s' (mid, inr owing, run) none = absurd owing

  -- A PAUSE

  all_held : (P Q : OpenRequest → Type 0) (window : Option ℕ) (requests : List OpenRequest) → ((o : OpenRequest) → P o → Q o)
      → ((most : ℕ) (o : OpenRequest) → P o → Q (beyond most requests o)) → All P requests → All Q (held_back window requests)
  all_held P Q None requests same held h = All-weaker P Q same requests h
  all_held P Q (Some most) requests same held h = All-map Q (beyond most requests) requests (All-weaker P (λ o. Q (beyond most requests o)) (held most) requests h)

  mapped_count : (f : OpenRequest → OpenRequest) → ((o : OpenRequest) → is_started (f o) ≡ is_started o) → (requests : List OpenRequest)
      → count_by is_started (map f requests) ≡ count_by is_started requests
  mapped_count f same [] = refl
  mapped_count f same (o ∷ requests) =
      count_first (f o) (map f requests)
      ∙ ap (λ b. cond b 1 0 + count_by is_started (map f requests)) (same o)
      ∙ ap (λ n. cond (is_started o) 1 0 + n) (mapped_count f same requests)
      ∙ sym (count_first o requests)

  held_count : (window : Option ℕ) (requests : List OpenRequest) → count_by is_started (held_back window requests) ≡ count_by is_started requests
  held_count None requests = refl
  held_count (Some most) requests = mapped_count (beyond most requests) (λ o. refl) requests

  still_late : (late more : Bool) → IsTrue late → IsTrue (late || more)
  still_late true more h = refl
  still_late false more h = cc (h)

  pub paused_none : (s s' : State) → Pauses rules s s' → Settled rules s → HasNoneToStart rules s'
  paused_none s s' pauses settled =
      none_same paused s' (IsSame-sym _ _ pauses.after) (record {
        at_work = λ free. all_held IsAtWork IsAtWork rules.window s.requests (λ o h. h) (λ most o h. h) (settled.at_work free);
        kept_back = λ free staying.
            all_held (IsHeldBack rules s) (IsKeptBack rules paused) rules.window s.requests
            (λ o held uncancelled unstarted. elim (held unstarted) [ inl late ↦ inl (refl, late) | inr full ↦ inr (counted full) ])
            (λ most o held uncancelled unstarted. elim (held unstarted) [ inl late ↦ inl (refl, still_late o.late _ late) | inr full ↦ inr (counted full) ])
            (settled.released free staying);
      })
    where
      paused : State
      paused = record s { paused = true; requests = held_back rules.window s.requests }

      counted : IsFull rules.window (started_count s) → IsFull rules.window (count_by is_started (held_back rules.window s.requests))
      counted full = subst (IsFull rules.window) (sym (held_count rules.window s.requests)) full
