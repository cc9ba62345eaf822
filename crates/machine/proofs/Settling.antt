-- Settled states and pauses, in any order of requests.
use Rattle.std.proofs.Common.{◌≡◌, ◌<◌, ◌≤◌, ◌⊎◌, inl, inr, ℕ, ◌+◌, Bool, true, false, List, [], ◌∷◌, ◌++◌, Some, refl, sym, ◌∙◌, ap, subst, arith, map, length, cond, get_or}
use Rattle.std.specs.Prelude.{All, IsTrue, IsFalse, count_by, ◌||◌, nat_le}
use Rattle.std.proofs.lemmas.Bool.Decides.{nat_tests}
use Rattle.std.proofs.lemmas.List.Sums.{count_by-le-length, sum_by-cons, sum_by-append, sum_by-remove}
use Rattle.std.proofs.lemmas.List.Sorted.{IsPermutation-refl, IsPermutation-sym, All-permutation, length_permutation, sum_by-IsPermutation}
use Rattle.std.proofs.lemmas.List.Elements.{All-head, All-tail, All-weaker, All-same, All-nil}
use Rattle.std.specs.List.{remove}
use Rattle.std.proofs.lemmas.List.Edits.{length-remove}
use Rattle.std.proofs.lemmas.List.{map-append}
use Rattle.machine.specs.Rules.{Rules}
use Rattle.machine.specs.State.{OpenRequest, State, IsSame}
use Rattle.machine.specs.Sending.{is_started}
use Rattle.machine.specs.Holding.{held_back, beyond, is_lower, Pauses}
use Rattle.machine.specs.Settled.{Settled, IsHeld, WaitsIfCancelled, Waits, IsAllSent, IsHeldBack, HasMore, IsAtWork, IsFull, IsWithin, started_count}
use Rattle.machine.specs.Frame.{Frame, framed, with_window}
use Rattle.machine.specs.Window.{IsAbove, IsTimely}
use Rattle.machine.proofs.Same.{none_there, IsSame-reordered}

-- a settled state is so in any order
pub Settled-same : (rules : Rules) (s t : State) → IsSame s t → Settled rules s → Settled rules t
Settled-same rules s t h settled =
    let count : started_count s ≡ started_count t = sym (sum_by-IsPermutation (λ o. cond (is_started o) 1 0) _ _ h.requests) in
    let pieces : length t.pieces ≡ length s.pieces = length_permutation _ _ h.pieces in
    let there : (P : OpenRequest → Type 0) → All P s.requests → All P t.requests = λ P all. All-permutation P _ _ h.requests all in
    let none_out : t.pieces ≡ [] → s.pieces ≡ [] = λ none. none_there t.pieces s.pieces none (IsPermutation-sym _ _ h.pieces) in
    let held : All (IsHeldBack rules s) s.requests → All (IsHeldBack rules t) t.requests = λ all. subst (λ n. All (λ o. IsFalse (is_started o) → IsTrue o.late ⊎ IsFull rules.window n) t.requests) count (there (IsHeldBack rules s) all) in
    record {
      none_owed = rw (← h.owed) settled.none_owed;
      idle = λ none. there IsHeld (settled.idle (none_out none));
      idle_unpaused = λ none unpaused. none_there s.requests t.requests (settled.idle_unpaused (none_out none) (rw h.paused unpaused)) h.requests;
      cancelled = there WaitsIfCancelled settled.cancelled;
      removing = λ removing. there Waits (settled.removing (rw h.removing removing));
      sent = λ free staying. there (IsAllSent rules) (settled.sent (rw (← pieces) free) (rw h.removing staying));
      released = λ free staying. held (settled.released (rw (← pieces) free) (rw h.removing staying));
      alive = there HasMore settled.alive;
      at_work = λ free. there IsAtWork (settled.at_work (rw (← pieces) free));
      within_window = subst (λ n. IsWithin rules.window n) count settled.within_window;
    }

-- PAUSE ABOVE A LAYER

abbrev pub late : OpenRequest → OpenRequest
late o = record o { late = true }

-- how many of these have lower numbers than o
abbrev pub lower : List OpenRequest → OpenRequest → ℕ
lower xs o = count_by (is_lower o.number) xs

abbrev one_if : OpenRequest → OpenRequest → ℕ
one_if o b = cond (is_lower o.number b) 1 0

all_lower : (o : OpenRequest) (below : List OpenRequest) → IsAbove below o → lower below o ≡ length below
all_lower o [] h = refl
all_lower o (b ∷ bs) h =
    let low : b.number < o.number = All-head (λ x. x.number < o.number) b bs h in
    let one : one_if o b ≡ 1 = grind (arith, nat_tests) in
    let rest : lower bs o ≡ length bs = all_lower o bs (All-tail (λ x. x.number < o.number) b bs h) in
    sum_by-cons (one_if o) b bs ∙ rw (one, rest) (omega arith)

pub none_lower : (o : OpenRequest) (held : List OpenRequest) → All (λ b. o.number < b.number) held → lower held o ≡ 0
none_lower o [] h = refl
none_lower o (b ∷ bs) h =
    let high : o.number < b.number = All-head (λ x. o.number < x.number) b bs h in
    let none : one_if o b ≡ 0 = grind (arith, nat_tests) in
    let rest : lower bs o ≡ 0 = none_lower o bs (All-tail (λ x. o.number < x.number) b bs h) in
    sum_by-cons (one_if o) b bs ∙ rw (none, rest) (omega arith)

-- one of them is not lower than itself
pub few_lower : (below : List OpenRequest) (k : ℕ) (d : OpenRequest) → k < length below → lower below (get_or below k d) < length below
few_lower below k d within =
    let o : OpenRequest = get_or below k d in
    let self : one_if o o ≡ 0 = grind (arith, nat_tests) in
    let split : lower (remove below k) o + one_if o o ≡ lower below o = sum_by-remove (one_if o) below k d within in
    let fewer : lower (remove below k) o ≤ length (remove below k) = count_by-le-length (is_lower o.number) (remove below k) in
    let n : length (remove below k) + 1 ≡ length below = length-remove below k within in
    omega arith

module _ (window : ℕ) (rs : List OpenRequest) where
  pub kept : (xs : List OpenRequest) → All IsTimely xs → All (λ o. lower rs o < window) xs → map (beyond window rs) xs ≡ xs
  kept [] timely few = refl
  kept (x ∷ xs) timely few =
      let t : x.late ≡ false = All-head IsTimely x xs timely in
      let n : lower rs x < window = All-head (λ o. lower rs o < window) x xs few in
      let e : (x.late || nat_le window (lower rs x)) ≡ x.late = rw t (grind (arith, nat_tests)) in
      cc (ap (λ v. record x { late = v }) e, kept xs (All-tail IsTimely x xs timely) (All-tail (λ o. lower rs o < window) x xs few))

  made_late : (xs : List OpenRequest) → All (λ o. window ≤ lower rs o) xs → map (beyond window rs) xs ≡ map late xs
  made_late [] many = refl
  made_late (x ∷ xs) many =
      let n : window ≤ lower rs x = All-head (λ o. window ≤ lower rs o) x xs many in
      let e : (x.late || nat_le window (lower rs x)) ≡ true = or_true x.late (nat_le window (lower rs x)) (grind (arith, nat_tests)) in
      cc (ap (λ v. record x { late = v }) e, made_late xs (All-tail (λ o. window ≤ lower rs o) x xs many))
    where
      or_true : (a b : Bool) → b ≡ true → (a || b) ≡ true
      or_true true b h = refl
      or_true false b h = h

-- a pause above a layer makes just the held late, where they are above a full window of timely ones
pub held_back-framed : (window : ℕ) (below held : List OpenRequest) → All IsTimely below → All (IsAbove below) held → length below ≤ window → (held ≡ []) ⊎ (window ≤ length below)
    → held_back (Some window) (below ++ held) ≡ below ++ map late held
held_back-framed window below held timely above within full =
    map-append (beyond window (below ++ held)) below held
    ∙ rw (kept window (below ++ held) below timely few, made_late window (below ++ held) held many)
  where
    count : (o : OpenRequest) → lower (below ++ held) o ≡ lower below o + lower held o
    count o = sum_by-append (one_if o) below held

    few : All (λ o. lower (below ++ held) o < window) below
    few k d k_within =
        let a : lower below (get_or below k d) < length below = few_lower below k d k_within in
        let apart : All (λ b. (get_or below k d).number < b.number) held = All-weaker (IsAbove below) (λ b. (get_or below k d).number < b.number) (λ b h. h k d k_within) held above in
        let b : lower held (get_or below k d) ≡ 0 = none_lower (get_or below k d) held apart in
        rw (count (get_or below k d)) (omega arith)

    many_full : window ≤ length below → All (λ o. window ≤ lower (below ++ held) o) held
    many_full enough = All-weaker (IsAbove below) (λ o. window ≤ lower (below ++ held) o) (λ o h. at_least o enough h) held above
      where
        at_least : (o : OpenRequest) → window ≤ length below → IsAbove below o → window ≤ lower (below ++ held) o
        at_least o enough h = let a : lower below o ≡ length below = all_lower o below h in rw (count o) (omega arith)

    many : All (λ o. window ≤ lower (below ++ held) o) held
    many = elim full [ inl none ↦ All-same (λ o. window ≤ lower (below ++ held) o) held [] none (All-nil (λ o. window ≤ lower (below ++ held) o)) | inr enough ↦ many_full enough ]

-- so a pause of the layer leaves those below alone, and makes the held late
pub Pauses-framed : (rules : Rules) (window : ℕ) (f : Frame) (s : State) → IsFalse f.paused → IsFalse s.removing
    → All IsTimely s.requests → All (IsAbove s.requests) f.held → length s.requests ≤ window → (f.held ≡ []) ⊎ (window ≤ length s.requests)
    → Pauses (with_window (Some window) rules) (framed f s) (framed (record f { held = map late f.held; paused = true }) s)
Pauses-framed rules window f s going staying timely above within full = record {
  not_paused = going;
  not_removing = staying;
  after = IsSame-reordered (framed (record f { held = map late f.held; paused = true }) s) _ _ _ _ (rw (held_back-framed window s.requests f.held timely above within full) (IsPermutation-refl _)) (IsPermutation-refl _);
}
