-- What is named is left undone; nothing is named exactly where the state is settled.
use Rattle.std.proofs.Common.{◌≡◌, ◌<◌, ◌≤◌, ℕ, Bool, true, false, List, [], ◌∷◌, Option, Some, None, refl, sym, ap, subst, arith, length, get_or}
use Rattle.std.specs.Prelude.{◌==◌, ◌↔◌, is_none, not, nat_lt, nat_le, IsTrue, IsFalse, IsNone, All, Any, Contains, IfSome, MatchOption, slice_get, if◌then◌else◌}
use Rattle.std.specs.Bool.{Decides}
use Rattle.std.specs.List.{find, list_any}
use Rattle.std.proofs.lemmas.List.Folds.{Any-from_list_any}
use Rattle.std.specs.Option.{option_or}
use Rattle.std.proofs.lemmas.Bool.{both_ways, eqb-true, ltb-true, ltb-false, leb-true, leb-false, not-true, not-false}
use Rattle.std.proofs.lemmas.List.{nil_from_length}
use Rattle.std.proofs.lemmas.List.Elements.{All-contains, Contains-get_or}
use Rattle.machine.specs.Rules.{Rules}
use Rattle.machine.specs.State.{OpenRequest, Owed, State}
use Rattle.machine.specs.Calling.{is_full}
use Rattle.machine.specs.Settled.{has_out, started_count, IsWithin, IsHeld, WaitsIfCancelled, Waits, IsAllSent, IsHeldBack, HasMore, IsAtWork, Settled}
use Rattle.judge.specs.Settling.{is_held, waits_if_cancelled, is_all_sent, is_held_back, has_more, is_at_work}
use Rattle.judge.specs.declared.undone_rules.Undone.{Undone}
use Rattle.judge.specs.declared.undone_rules.Undone.TheVariants as what
use Rattle.judge.specs.LeftUndone.{LeftBy, IsUndone, IsSettled, Leaves}
use Rattle.judge.specs.Undoing.{failing, named, first_failing, owed_undone, window_undone, removing_undone, waiting_undone, unpaused_undone, idle_undone, sending_undone, served_undone, undone, is_settled, undone_at_all}
use Rattle.judge.proofs.Deciding.{decides_true}
use Rattle.judge.proofs.Picking.{found_pass, found_fail, none_any}
use Rattle.judge.proofs.Named.{either}
use Rattle.judge.proofs.Settled.{held, waits, more, works, all_sent, held_back}

-- MATCHES OF ONE RULE

module _ (rules : Rules) (s : State) where
  -- none fails the test, or the first that does is left undone
  first_named : (says : ℕ → Undone) (test : OpenRequest → Bool) (P : OpenRequest → Type 0) → ((o : OpenRequest) → Decides (test o) (P o)) → ((n : ℕ) → LeftBy s P n → IsUndone rules s (says n))
      → MatchOption (first_failing says test s) (All P s.requests) (IsUndone rules s)
  first_named says test P decides is = by (find (failing test) s.requests) refl
    where
      by : (x : Option OpenRequest) → find (failing test) s.requests ≡ x → MatchOption (named says x) (All P s.requests) (IsUndone rules s)
      by None e = λ k d low. (decides (get_or s.requests k d)).0 (not-false _ (found_fail (failing test) s.requests e (get_or s.requests k d) (Contains-get_or s.requests k d low)))
      by (Some o) e =
          let h : Contains s.requests o × (failing test o ≡ true) = found_pass (failing test) s.requests o e in
          is o.number (record { request = o; is_there = h.0; is_number = refl; fails = λ p. both_ways _ (not-true _ h.1) ((decides o).1 p) })

  owed_named : MatchOption (owed_undone s.owed) (IsNone s.owed) (IsUndone rules s)
  owed_named = by s.owed refl
    where
      by : (x : Option Owed) → s.owed ≡ x → MatchOption (owed_undone x) (IsNone s.owed) (IsUndone rules s)
      by None e = rw e refl
      by (Some owed) e = e

  window_named : MatchOption (window_undone rules.window (started_count s)) (IsWithin rules.window (started_count s)) (IsUndone rules s)
  window_named = by rules.window refl
    where
      each : (window : ℕ) → rules.window ≡ Some window → (b : Bool) → nat_le (started_count s) window ≡ b
          → MatchOption (if b then None else Some (what.Window window (started_count s))) (started_count s ≤ window) (IsUndone rules s)
      each window e true f = leb-true _ _ f
      each window e false f = (e, refl, leb-false _ _ f)

      by : (w : Option ℕ) → rules.window ≡ w → MatchOption (window_undone w (started_count s)) (IsWithin w (started_count s)) (IsUndone rules s)
      by None e = tt
      by (Some window) e = each window e (nat_le (started_count s) window) refl

  removing_named : MatchOption (removing_undone s) (IsTrue s.removing → All Waits s.requests) (IsUndone rules s)
  removing_named = by s.removing refl
    where
      lift : (x : Option Undone) → MatchOption x (All Waits s.requests) (IsUndone rules s) → MatchOption x (IsTrue s.removing → All Waits s.requests) (IsUndone rules s)
      lift None h = λ t. h
      lift (Some u) h = h

      by : (b : Bool) → s.removing ≡ b → MatchOption (if not b then None else first_failing what.Removing has_out s) (IsTrue s.removing → All Waits s.requests) (IsUndone rules s)
      by false e = λ t. absurd (both_ways _ e t)
      by true e = lift (first_failing what.Removing has_out s) (first_named what.Removing has_out Waits (λ o. decides_true (has_out o)) (λ n h. (e, h)))

  -- with nothing at the adapter
  record IdlesWell : Type 0 where
    all_held : All IsHeld s.requests
    none_open : IsFalse s.paused → s.requests ≡ []

  unpaused_named : s.pieces ≡ [] → MatchOption (unpaused_undone s) (IsFalse s.paused → s.requests ≡ []) (IsUndone rules s)
  unpaused_named none = by s.paused refl s.requests refl
    where
      by : (b : Bool) → s.paused ≡ b → (xs : List OpenRequest) → s.requests ≡ xs → MatchOption (if b then None else named what.Idle (slice_get xs 0)) (IsFalse s.paused → s.requests ≡ []) (IsUndone rules s)
      by true e xs f = λ p. absurd (both_ways _ p e)
      by false e [] f = λ p. f
      by false e (x ∷ xs) f = (none, record { request = x; is_there = subst (λ ys. Contains ys x) (sym f) (0, omega arith, refl); is_number = refl; fails = λ h. both_ways _ e h.paused })

  idle_named : MatchOption (idle_undone s) (s.pieces ≡ [] → IdlesWell) (IsUndone rules s)
  idle_named = by (length s.pieces == 0) refl
    where
      lift : (x : Option Undone) → MatchOption x (All IsHeld s.requests × (IsFalse s.paused → s.requests ≡ [])) (IsUndone rules s) → MatchOption x (s.pieces ≡ [] → IdlesWell) (IsUndone rules s)
      lift None h = λ e. record { all_held = h.0; none_open = h.1 }
      lift (Some u) h = h

      not_held : s.pieces ≡ [] → (n : ℕ) → LeftBy s IsHeld n → IsUndone rules s (what.Idle n)
      not_held none n h = (none, record { request = h.request; is_there = h.is_there; is_number = h.is_number; fails = λ k. h.fails k.held })

      by : (b : Bool) → (length s.pieces == 0) ≡ b → MatchOption (if not b then None else option_or (first_failing what.Idle is_held s) (unpaused_undone s)) (s.pieces ≡ [] → IdlesWell) (IsUndone rules s)
      by false e = λ none. absurd (both_ways _ e (ap (λ (ps : List _). length ps == 0) none))
      by true e =
          let none : s.pieces ≡ [] = nil_from_length s.pieces (eqb-true _ _ e) in
          lift (option_or (first_failing what.Idle is_held s) (unpaused_undone s))
          (either (All IsHeld s.requests) (IsFalse s.paused → s.requests ≡ []) (IsUndone rules s) (first_failing what.Idle is_held s) (unpaused_undone s)
          (first_named what.Idle is_held IsHeld held (not_held none)) (λ h. unpaused_named none))

  -- with a tag free
  record IsServed : Type 0 where
    at_work : All IsAtWork s.requests
    sent : IsFalse s.removing → All (IsAllSent rules) s.requests
    released : IsFalse s.removing → All (IsHeldBack rules s) s.requests

  sending_named : length s.pieces < rules.depth
      → MatchOption (sending_undone rules s) (IsFalse s.removing → All (IsAllSent rules) s.requests × All (IsHeldBack rules s) s.requests) (IsUndone rules s)
  sending_named low = by s.removing refl
    where
      lift : (x : Option Undone) → MatchOption x (All (IsAllSent rules) s.requests × All (IsHeldBack rules s) s.requests) (IsUndone rules s)
          → MatchOption x (IsFalse s.removing → All (IsAllSent rules) s.requests × All (IsHeldBack rules s) s.requests) (IsUndone rules s)
      lift None h = λ e. h
      lift (Some u) h = h

      by : (b : Bool) → s.removing ≡ b
          → MatchOption (if b then None else option_or (first_failing what.Unsent (is_all_sent rules.busy_limit) s) (first_failing what.Unstarted (is_held_back (is_full rules.window (started_count s))) s))
          (IsFalse s.removing → All (IsAllSent rules) s.requests × All (IsHeldBack rules s) s.requests) (IsUndone rules s)
      by true e = λ f. absurd (both_ways _ f e)
      by false e = lift _ (either (All (IsAllSent rules) s.requests) (All (IsHeldBack rules s) s.requests) (IsUndone rules s)
          (first_failing what.Unsent (is_all_sent rules.busy_limit) s) (first_failing what.Unstarted (is_held_back (is_full rules.window (started_count s))) s)
          (first_named what.Unsent (is_all_sent rules.busy_limit) (IsAllSent rules) (all_sent rules s) (λ n h. (low, e, h)))
          (λ h. first_named what.Unstarted (is_held_back (is_full rules.window (started_count s))) (IsHeldBack rules s) (held_back rules s) (λ n k. (low, e, k))))

  served_named : MatchOption (served_undone rules s) (length s.pieces < rules.depth → IsServed) (IsUndone rules s)
  served_named = by (nat_lt (length s.pieces) rules.depth) refl
    where
      lift : (x : Option Undone) → MatchOption x (All IsAtWork s.requests × (IsFalse s.removing → All (IsAllSent rules) s.requests × All (IsHeldBack rules s) s.requests)) (IsUndone rules s)
          → MatchOption x (length s.pieces < rules.depth → IsServed) (IsUndone rules s)
      lift None h = λ low. record { at_work = h.0; sent = λ e. (h.1 e).0; released = λ e. (h.1 e).1 }
      lift (Some u) h = h

      by : (b : Bool) → nat_lt (length s.pieces) rules.depth ≡ b
          → MatchOption (if not b then None else option_or (first_failing what.AtRest is_at_work s) (sending_undone rules s)) (length s.pieces < rules.depth → IsServed) (IsUndone rules s)
      by false e = λ low. absurd (omega (arith, ltb-false _ _ e))
      by true e =
          let low : length s.pieces < rules.depth = ltb-true _ _ e in
          lift _ (either (All IsAtWork s.requests) (IsFalse s.removing → All (IsAllSent rules) s.requests × All (IsHeldBack rules s) s.requests) (IsUndone rules s)
          (first_failing what.AtRest is_at_work s) (sending_undone rules s) (first_named what.AtRest is_at_work IsAtWork works (λ n h. (low, h))) (λ h. sending_named low))

  -- ALL OF THEM

  abbrev Told : Type 0
  Told = IsNone s.owed × IsWithin rules.window (started_count s)

  abbrev WaitWell : Type 0
  WaitWell = All WaitsIfCancelled s.requests × ((IsTrue s.removing → All Waits s.requests) × All HasMore s.requests)

  abbrev KeptWell : Type 0
  KeptWell = (s.pieces ≡ [] → IdlesWell) × (length s.pieces < rules.depth → IsServed)

  waiting_named : MatchOption (waiting_undone s) WaitWell (IsUndone rules s)
  waiting_named = either (All WaitsIfCancelled s.requests) ((IsTrue s.removing → All Waits s.requests) × All HasMore s.requests) (IsUndone rules s)
      (first_failing what.Cancelled waits_if_cancelled s) (option_or (removing_undone s) (first_failing what.Ended has_more s))
      (first_named what.Cancelled waits_if_cancelled WaitsIfCancelled waits (λ n h. h))
      (λ w. either (IsTrue s.removing → All Waits s.requests) (All HasMore s.requests) (IsUndone rules s) (removing_undone s) (first_failing what.Ended has_more s)
      removing_named (λ r. first_named what.Ended has_more HasMore more (λ n h. h)))

  all_named : MatchOption (undone rules s) (Told × (WaitWell × KeptWell)) (IsUndone rules s)
  all_named = either Told (WaitWell × KeptWell) (IsUndone rules s) (option_or (owed_undone s.owed) (window_undone rules.window (started_count s)))
      (option_or (waiting_undone s) (option_or (idle_undone s) (served_undone rules s)))
      (either (IsNone s.owed) (IsWithin rules.window (started_count s)) (IsUndone rules s) (owed_undone s.owed) (window_undone rules.window (started_count s)) owed_named (λ n. window_named))
      (λ t. either WaitWell KeptWell (IsUndone rules s) (waiting_undone s) (option_or (idle_undone s) (served_undone rules s)) waiting_named
      (λ w. either (s.pieces ≡ [] → IdlesWell) (length s.pieces < rules.depth → IsServed) (IsUndone rules s) (idle_undone s) (served_undone rules s) idle_named (λ i. served_named)))

  settled_so : Told × (WaitWell × KeptWell) → Settled rules s
  settled_so h = record {
    none_owed = h.0.0;
    idle = λ none. (h.1.1.0 none).all_held;
    idle_unpaused = λ none. (h.1.1.0 none).none_open;
    cancelled = h.1.0.0;
    removing = h.1.0.1.0;
    sent = λ low staying. (h.1.1.1 low).sent staying;
    released = λ low staying. (h.1.1.1 low).released staying;
    alive = h.1.0.1.1;
    at_work = λ low. (h.1.1.1 low).at_work;
    within_window = h.0.1;
  }

  -- what is left undone isn't settled
  left_by : (P : OpenRequest → Type 0) (n : ℕ) → LeftBy s P n → All P s.requests → ⊥
  left_by P n h all = h.fails (All-contains P s.requests h.request all h.is_there)

  not_settled : (u : Undone) → IsUndone rules s u → Settled rules s → ⊥
  not_settled (what.Owed n status) h t = cc (h, t.none_owed)
  not_settled (what.Window window started) h t =
      let few : started_count s ≤ window = subst (λ w. IsWithin w (started_count s)) h.0 t.within_window in
      omega (arith, few, h.1, h.2)
  not_settled (what.Cancelled n) h t = left_by WaitsIfCancelled n h t.cancelled
  not_settled (what.Removing n) h t = left_by Waits n h.1 (t.removing h.0)
  not_settled (what.Ended n) h t = left_by HasMore n h t.alive
  not_settled (what.Idle n) h t = h.1.fails (record { held = All-contains IsHeld s.requests h.1.request (t.idle h.0) h.1.is_there; paused = in_pause s.paused refl })
    where
      none_there : Contains s.requests h.1.request → s.requests ≡ [] → ⊥
      none_there c e = let nowhere : Contains [] h.1.request = subst (λ xs. Contains xs h.1.request) e c in absurd (omega (arith, nowhere.1))

      in_pause : (b : Bool) → s.paused ≡ b → IsTrue s.paused
      in_pause true e = e
      in_pause false e = absurd (none_there h.1.is_there (t.idle_unpaused h.0 e))
  not_settled (what.AtRest n) h t = left_by IsAtWork n h.1 (t.at_work h.0)
  not_settled (what.Unsent n) h t = left_by (IsAllSent rules) n h.2 (t.sent h.0 h.1)
  not_settled (what.Unstarted n) h t = left_by (IsHeldBack rules s) n h.2 (t.released h.0 h.1)

  pub exactly : (undone rules s ≡ None) ↔ Settled rules s
  exactly = by (undone rules s) all_named
    where
      by : (x : Option Undone) → MatchOption x (Told × (WaitWell × KeptWell)) (IsUndone rules s) → (x ≡ None) ↔ Settled rules s
      by None h = (λ e. settled_so h, λ t. refl)
      by (Some u) h = (λ e. cc (e), λ t. absurd (not_settled u h t))

  pub left : IfSome (undone rules s) (λ u. IsUndone rules s u)
  left = by (undone rules s) all_named
    where
      by : (x : Option Undone) → MatchOption x (Told × (WaitWell × KeptWell)) (IsUndone rules s) → IfSome x (λ u. IsUndone rules s u)
      by None h = tt
      by (Some u) h = h

  pub settled_exactly : (x : Option Undone) → x ≡ undone rules s → IsTrue (is_none x) ↔ Settled rules s
  settled_exactly None e = (λ t. exactly.0 (sym e), λ h. refl)
  settled_exactly (Some u) e = (λ t. cc (t), λ h. cc (e, exactly.1 h))

  pub settled_none : None ≡ undone rules s → IsTrue true ↔ Settled rules s
  settled_none e = settled_exactly None e

  pub settled_some : (u : Undone) → Some u ≡ undone rules s → IsTrue false ↔ Settled rules s
  settled_some u e = settled_exactly (Some u) e

-- OF ALL STATES

module _ (rules : Rules) where
  none_settled : (states : List State) → list_any (is_settled rules) states ≡ false → Any (IsSettled rules) states → ⊥
  none_settled states e any = both_ways _ (none_any (is_settled rules) states e any.1 (any.0, any.2, any.3)) ((settled_exactly rules any.1 (undone rules any.1) refl).1 any.4)

  some_settled : (states : List State) → list_any (is_settled rules) states ≡ true → Any (IsSettled rules) states
  some_settled states e =
      let any : Any (λ s. is_settled rules s ≡ true) states = Any-from_list_any (is_settled rules) states e in
      (any.0, any.1, any.2, any.3, (settled_exactly rules any.1 (undone rules any.1) refl).0 any.4)

  pub exactly_all : (states : List State) → 0 < length states → (undone_at_all rules states ≡ None) ↔ Any (IsSettled rules) states
  exactly_all [] some = absurd (omega arith)
  exactly_all (s ∷ states) some = by (list_any (is_settled rules) (s ∷ states)) refl
    where
      by : (b : Bool) → list_any (is_settled rules) (s ∷ states) ≡ b → ((if b then None else undone rules s) ≡ None) ↔ Any (IsSettled rules) (s ∷ states)
      by true e = (λ h. some_settled (s ∷ states) e, λ any. refl)
      by false e = (λ h. absurd (none_settled (s ∷ states) e (0, s, omega arith, refl, (exactly rules s).0 h)), λ any. absurd (none_settled (s ∷ states) e any))

  pub left_at_all : (states : List State) → IfSome (undone_at_all rules states) (λ u. Any (Leaves rules u) states)
  left_at_all [] = tt
  left_at_all (s ∷ states) = by (list_any (is_settled rules) (s ∷ states))
    where
      there : (x : Option Undone) → IfSome x (λ u. IsUndone rules s u) → IfSome x (λ u. Any (Leaves rules u) (s ∷ states))
      there None h = tt
      there (Some u) h = (0, s, omega arith, refl, h)

      by : (b : Bool) → IfSome (if b then None else undone rules s) (λ u. Any (Leaves rules u) (s ∷ states))
      by true = tt
      by false = there (undone rules s) (left rules s)
