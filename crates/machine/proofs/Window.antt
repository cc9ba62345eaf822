-- Resume, drain and settled states of a layer that holds requests above a window of them below.
use Rattle.std.proofs.Common.{◌≡◌, ◌<◌, ◌≤◌, ◌⊎◌, inl, inr, ℕ, Bool, true, false, List, [], ◌∷◌, ◌++◌, Option, Some, None, refl, sym, ◌∙◌, ap, subst, arith, map, length, cond, get_or}
use Rattle.std.specs.Prelude.{IsPermutation, All, IsTrue, IsFalse, count_by, if◌then◌else◌}
use Rattle.std.proofs.lemmas.Bool.{cases_Bool}
use Rattle.std.proofs.lemmas.List.{map-append}
use Rattle.std.proofs.lemmas.List.Sums.{count_by-le-length, sum_by-cons, sum_by-append}
use Rattle.std.proofs.lemmas.List.Sorted.{IsPermutation-refl, IsPermutation-append_left}
use Rattle.std.proofs.lemmas.List.Elements.{All-nil, All-head, All-tail, All-weaker, All-append, All-same}
use Rattle.machine.specs.Rules.{Rules}
use Rattle.machine.specs.State.{OpenRequest, State}
use Rattle.machine.specs.Sending.{IsInTurn, is_started}
use Rattle.machine.specs.Holding.{Resumes, Drains, held_back, as_timely}
use Rattle.machine.specs.Settled.{Settled, IsHeld, WaitsIfCancelled, Waits, IsAllSent, IsHeldBack, HasMore, IsAtWork, IsFull, started_count}
use Rattle.machine.specs.Frame.{Frame, framed, with_window, AllMayPass}
use Rattle.machine.specs.Window.{HasLowerNumber, IsAbove, IsTimely, IsLate, IsWaiting, Holds, HasReleased}
use Rattle.machine.proofs.Same.{IsSame-reordered}
use Rattle.machine.proofs.Settling.{late, held_back-framed}

-- what comes earlier than all held may pass them
pub AllMayPass-above : (window : ℕ) (f : Frame) (s : State) → Holds window f s → AllMayPass f s
AllMayPass-above window f s h k d low = record {
  timely = λ paused. h.timely k d low;
  ahead = All-weaker (IsAbove s.requests) (IsInTurn (get_or s.requests k d)) (λ other above. behind (get_or s.requests k d) other (above k d low)) f.held h.above;
}
  where
    behind : (o other : OpenRequest) → HasLowerNumber other o → IsInTurn o other
    behind o other above = λ lower timely. absurd (omega arith)

-- RESUME

timely_already : (xs : List OpenRequest) → All IsTimely xs → map as_timely xs ≡ xs
timely_already [] h = refl
timely_already (x ∷ xs) h =
    let e : x.late ≡ false = All-head IsTimely x xs h in
    cc (ap (λ v. record x { late = v }) e, timely_already xs (All-tail IsTimely x xs h))

abbrev pub resumed : Frame → Frame
resumed f = record f { held = map as_timely f.held; paused = false }

-- the layer below hears nothing of it
pub Resumes-framed : (f : Frame) (s : State) → IsTrue f.paused → All IsTimely s.requests → Resumes (framed f s) (framed (resumed f) s)
Resumes-framed f s paused timely = record {
  is_paused = paused;
  after = IsSame-reordered (framed (resumed f) s) _ _ _ _ (rw (map-append as_timely s.requests f.held) (rw (timely_already s.requests timely) (IsPermutation-refl _))) (IsPermutation-refl _);
}

-- DRAIN

abbrev pub drained : Frame → Frame
drained f = record f { held = if f.paused then f.held else map late f.held; paused = false }

drained_order : (window : ℕ) (paused : Bool) (below below' held : List OpenRequest) → All IsTimely below → All (IsAbove below) held → length below ≤ window
    → (paused ≡ false → (held ≡ []) ⊎ (window ≤ length below)) → IsPermutation below' below
    → IsPermutation (below' ++ (if paused then held else map late held)) (if paused then below ++ held else held_back (Some window) (below ++ held))
drained_order window true below below' held timely above within full p = IsPermutation-append_left held _ _ p
drained_order window false below below' held timely above within full p =
    rw (held_back-framed window below held timely above within (full refl)) (IsPermutation-append_left (map late held) _ _ p)

pub same_below : (paused : Bool) (window : Option ℕ) (requests : List OpenRequest) → window ≡ None → (if paused then requests else held_back window requests) ≡ requests
same_below true window requests none = refl
same_below false window requests none = rw none

-- the layer below is drained too, and the held are late
pub Drains-framed : (rules : Rules) (window : ℕ) (f : Frame) (s s' : State) → rules.window ≡ None → Holds window f s → (IsFalse f.paused → (f.held ≡ []) ⊎ (window ≤ length s.requests))
    → Drains rules s s' → Drains (with_window (Some window) rules) (framed f s) (framed (drained f) s')
Drains-framed rules window f s s' none h full drain = record {
  arrays = drain.arrays;
  next_request = refl;
  next_piece = drain.next_piece;
  requests = drained_order window f.paused s.requests s'.requests f.held h.timely h.above h.within full
      (subst (λ xs. IsPermutation s'.requests xs) (same_below s.paused rules.window s.requests none) drain.requests);
  pieces = drain.pieces;
  owed = drain.owed;
  paused = refl;
  removing = drain.removing;
  removed = drain.removed;
}

-- SETTLED

no_window : (rules : Rules) (count : ℕ) → rules.window ≡ None → IsFull rules.window count → ⊥
no_window rules count none full = subst (λ w. IsFull w count) none full

-- how many are started of those that all wait, and of those that are all started
none_held_started : (xs : List OpenRequest) → All IsWaiting xs → count_by is_started xs ≡ 0
none_held_started [] h = refl
none_held_started (x ∷ xs) h =
    let w : IsWaiting x = All-head IsWaiting x xs h in
    let rest : count_by is_started xs ≡ 0 = none_held_started xs (All-tail IsWaiting x xs h) in
    sum_by-cons (λ o. cond (is_started o) 1 0) x xs ∙ rw (w.not_started, rest) (omega arith)

abbrev IsStarted : OpenRequest → Type 0
IsStarted o = IsTrue (is_started o)

all_started : (xs : List OpenRequest) → All IsStarted xs → count_by is_started xs ≡ length xs
all_started [] h = refl
all_started (x ∷ xs) h =
    let first : is_started x ≡ true = All-head IsStarted x xs h in
    let rest : count_by is_started xs ≡ length xs = all_started xs (All-tail IsStarted x xs h) in
    sum_by-cons (λ o. cond (is_started o) 1 0) x xs ∙ rw (first, rest) (omega arith)

module _ (rules : Rules) (window : ℕ) (f : Frame) (s : State) (some : 0 < window) (none : rules.window ≡ None)
    (holds : Holds window f s) (released : HasReleased window f s) (settled : Settled rules s) where
  below_empty : s.pieces ≡ [] → s.requests ≡ []
  below_empty idle = settled.idle_unpaused idle holds.not_paused

  full_not_idle : s.pieces ≡ [] → window ≤ length s.requests → ⊥
  full_not_idle idle full = let n : length s.requests ≡ 0 = ap length (below_empty idle) in absurd (omega arith)

  held_where : (paused : Bool) → paused ≡ f.paused → All IsLate f.held ⊎ (window ≤ length s.requests)
  held_where true e = inl (released.late (sym e))
  held_where false e = elim (released.full (sym e)) [ inl empty ↦ inl (All-same IsLate f.held [] empty (All-nil IsLate)) | inr full ↦ inr full ]

  waiting_is_held : (o : OpenRequest) → IsWaiting o → IsLate o → IsHeld o
  waiting_is_held o w late = record { not_started = w.not_started; late = late }

  -- both those below and those held
  both : (P : OpenRequest → Type 0) → All P s.requests → ((o : OpenRequest) → IsWaiting o → P o) → All P (s.requests ++ f.held)
  both P below waiting = All-append P s.requests f.held below (All-weaker IsWaiting P waiting f.held released.waiting)

  framed_count : started_count (framed f s) ≡ started_count s
  framed_count = sum_by-append (λ o. cond (is_started o) 1 0) s.requests f.held ∙ rw (none_held_started f.held released.waiting) (omega arith)

  idle_held : s.pieces ≡ [] → All IsLate f.held
  idle_held idle = elim (held_where f.paused refl) [ inl late ↦ late | inr full ↦ absurd (full_not_idle idle full) ]

  -- with a tag free each request below is started
  started_below : length s.pieces < rules.depth → IsFalse s.removing → All IsStarted s.requests
  started_below free staying k d low = by_start (get_or s.requests k d) (settled.released free staying k d low) (holds.timely k d low)
    where
      by_start : (o : OpenRequest) → IsHeldBack rules s o → IsTimely o → IsStarted o
      by_start o back timely = elim (cases_Bool (is_started o)) [
        | inl started ↦ started
        | inr not_yet ↦ elim (back not_yet) [ inl late ↦ cc (late, timely) | inr full ↦ absurd (no_window rules (started_count s) none full) ]
      ]

  full_count : length s.pieces < rules.depth → IsFalse s.removing → window ≤ length s.requests → window ≤ started_count (framed f s)
  full_count free staying full = rw framed_count (rw (all_started s.requests (started_below free staying)) full)

  released_framed : length s.pieces < rules.depth → IsFalse s.removing → All (IsHeldBack (with_window (Some window) rules) (framed f s)) (s.requests ++ f.held)
  released_framed free staying =
      All-append (IsHeldBack (with_window (Some window) rules) (framed f s)) s.requests f.held
      (All-weaker IsStarted (IsHeldBack (with_window (Some window) rules) (framed f s)) (λ o started not_yet. cc (started, not_yet)) s.requests (started_below free staying))
      (elim (held_where f.paused refl) [
        | inl late ↦ All-weaker IsLate (IsHeldBack (with_window (Some window) rules) (framed f s)) (λ o is not_yet. inl is) f.held late
        | inr full ↦ All-weaker IsWaiting (IsHeldBack (with_window (Some window) rules) (framed f s)) (λ o w not_yet. inr (full_count free staying full)) f.held released.waiting
      ])

  idle_framed : s.pieces ≡ [] → All IsHeld (s.requests ++ f.held)
  idle_framed idle =
      All-append IsHeld s.requests f.held (settled.idle idle)
      (λ k d low. waiting_is_held (get_or f.held k d) (released.waiting k d low) (idle_held idle k d low))

  nothing_open : s.pieces ≡ [] → IsFalse f.paused → s.requests ++ f.held ≡ []
  nothing_open idle unpaused = rw (below_empty idle) (elim (released.full unpaused) [ inl empty ↦ empty | inr full ↦ absurd (full_not_idle idle full) ])

  within_framed : started_count (framed f s) ≤ window
  within_framed =
      let few : started_count s ≤ length s.requests = count_by-le-length is_started s.requests in
      let inside : length s.requests ≤ window = holds.within in
      rw framed_count (omega arith)

  -- what the layer below settles, this layer has settled with what it has released
  pub Settled-framed : Settled (with_window (Some window) rules) (framed f s)
  Settled-framed = record {
    none_owed = settled.none_owed;
    idle = idle_framed;
    idle_unpaused = nothing_open;
    cancelled = both WaitsIfCancelled settled.cancelled (λ o w cancelled. cc (cancelled, w.not_cancelled));
    removing = λ removing. All-append Waits s.requests f.held (settled.removing removing) (All-same Waits f.held [] (released.none_removing removing) (All-nil Waits));
    sent = λ free staying. both (IsAllSent (with_window (Some window) rules)) (settled.sent free staying) (λ o w timely started. cc (started, w.not_started));
    released = released_framed;
    alive = both HasMore settled.alive (λ o w started. cc (started, w.not_started));
    at_work = λ free. both IsAtWork (settled.at_work free) (λ o w started. cc (started, w.not_started));
    within_window = within_framed;
  }
