-- A register that sees all syncs, and one that doesn't see those that will be done.
use Rattle.std.proofs.Common.{◌≡◌, ◌⊎◌, inl, inr, ℕ, ◌+◌, ◌==◌, ◌&&◌, ◌||◌, Bool, true, false, cond, not, List, [], ◌∷◌, ◌++◌, Some, refl, sym, ◌∙◌, ap, subst, map, arith}
use Rattle.std.specs.Prelude.{if◌then◌else◌}
use Rattle.std.specs.List.{filter, list_any}
use Rattle.std.proofs.lemmas.Bool.{and_parts, eqb-true}
use Rattle.loss.specs.Held.{ChangeOf, HeldOf, IsOneOf, Syncs, changed, left}
use Rattle.register_loss.specs.declared.What.{What}
use Rattle.register_loss.specs.declared.What.TheVariants.{Read, Write, Flush, Sync}
use Rattle.register_loss.specs.declared.Open.{Open}
use Rattle.register_loss.specs.declared.Turn.{Turn}
use Rattle.register_loss.specs.declared.Turn.TheVariants.{Acts, Fails}
use Rattle.register_loss.specs.Schedules.{Register, Turns, above, behind, called, change_of, done, ended, fault_of, has_other, is_flush_of, is_other, is_same, is_sync, is_undone, is_unmet, is_write, left_by, marked, opening, settled, unmet}
use Rattle.register_loss_search.proofs.Listing.{of_filter}
use Rattle.history_loss_kept.proofs.Steps.{Alike, Turned}
use Rattle.history_loss_kept.proofs.Waits.{above_is, filter_all}
use Rattle.history_loss_kept.proofs.Marks.{end_sight, last_sight}
use Rattle.history_loss_kept.proofs.Seeing.{new, other}
use Rattle.history_loss_kept.proofs.Stuck.{HasFailedSync, fails_with, same_self, stuck_turned, stuck_unmet}

abbrev pub dropped : ℕ → Open
dropped n = record { number = n; what = Sync; failed = false }

-- the ones are the others and syncs of such numbers, which did not fail
pub data Without (P : ℕ → Type 0) : List Open → List Open → Type 0 where
  Nothing : Without P [] []
  Dropped : (n : ℕ) {rs ss : List Open} → P n → Without P rs ss → Without P (dropped n ∷ rs) ss
  Both : (o : Open) {rs ss : List Open} → Without P rs ss → Without P (o ∷ rs) (o ∷ ss)

in_full : {P : ℕ → Type 0} {rs ss : List Open} → Without P rs ss → (o : Open) → IsOneOf o ss → IsOneOf o rs
in_full Nothing o h = h
in_full (Dropped n p w) o h = inr (in_full w o h)
in_full (Both x w) o (inl e) = inl e
in_full (Both x w) o (inr h) = inr (in_full w o h)

or_dropped : {P : ℕ → Type 0} {rs ss : List Open} → Without P rs ss → (o : Open) → IsOneOf o rs → ((n : ℕ) × (o ≡ dropped n) × P n × IsOneOf (dropped n) rs) ⊎ IsOneOf o ss
or_dropped Nothing o h = absurd h
or_dropped (Dropped n p w) o (inl e) = inl (n, e, p, inl refl)
or_dropped (Dropped n p w) o (inr h) = elim (or_dropped w o h) [ inl (k, e, q, there) ↦ inl (k, e, q, inr there) | inr there ↦ inr there ]
or_dropped (Both x w) o (inl e) = inr (inl e)
or_dropped (Both x w) o (inr h) = elim (or_dropped w o h) [ inl (k, e, q, there) ↦ inl (k, e, q, inr there) | inr there ↦ inr (inr there) ]

drop_cond : {P : ℕ → Type 0} {rs ss : List Open} (n : ℕ) (b : Bool) → P n → Without P rs ss → Without P (cond b (dropped n ∷ rs) rs) ss
drop_cond n true p w = Dropped n p w
drop_cond n false p w = w

both_cond : {P : ℕ → Type 0} {rs ss : List Open} (o : Open) (b : Bool) → Without P rs ss → Without P (cond b (o ∷ rs) rs) (cond b (o ∷ ss) ss)
both_cond o true w = Both o w
both_cond o false w = w

filtered : {P : ℕ → Type 0} {rs ss : List Open} (p : Open → Bool) → Without P rs ss → Without P (filter p rs) (filter p ss)
filtered p Nothing = Nothing
filtered p (Dropped n q w) = drop_cond n (p (dropped n)) q (filtered p w)
filtered p (Both o w) = both_cond o (p o) (filtered p w)

push_both : {P : ℕ → Type 0} {rs ss : List Open} (x : Open) → Without P rs ss → Without P (rs ++ x ∷ []) (ss ++ x ∷ [])
push_both x Nothing = Both x Nothing
push_both x (Dropped n q w) = Dropped n q (push_both x w)
push_both x (Both o w) = Both o (push_both x w)

push_dropped : {P : ℕ → Type 0} {rs ss : List Open} (n : ℕ) → P n → Without P rs ss → Without P (rs ++ dropped n ∷ []) ss
push_dropped n p Nothing = Dropped n p Nothing
push_dropped n p (Dropped m q w) = Dropped m q (push_dropped n p w)
push_dropped n p (Both o w) = Both o (push_dropped n p w)

weaker : {P Q : ℕ → Type 0} {rs ss : List Open} → ((n : ℕ) → P n → Q n) → Without P rs ss → Without Q rs ss
weaker f Nothing = Nothing
weaker f (Dropped n q w) = Dropped n (f n q) (weaker f w)
weaker f (Both o w) = Both o (weaker f w)

other_cond : {P Q : ℕ → Type 0} {rs ss : List Open} (m n : ℕ) (b : Bool) → (n == m) ≡ b → ((k : ℕ) → (k == m) ≡ false → P k → Q k) → P n → Without Q rs ss → Without Q (cond (not b) (dropped n ∷ rs) rs) ss
other_cond m n true e f p w = w
other_cond m n false e f p w = Dropped n (f n e p) w

others : {P Q : ℕ → Type 0} {rs ss : List Open} (m : ℕ) → ((n : ℕ) → (n == m) ≡ false → P n → Q n) → Without P rs ss → Without Q (filter (has_other m) rs) (filter (has_other m) ss)
others m f Nothing = Nothing
others m f (Dropped n q w) = other_cond m n (n == m) refl f q (others m f w)
others m f (Both o w) = both_cond o (has_other m o) (others m f w)

same_any : {P : ℕ → Type 0} {rs ss : List Open} (p : Open → Bool) → ((n : ℕ) → p (dropped n) ≡ false) → Without P rs ss → list_any p rs ≡ list_any p ss
same_any p none Nothing = refl
same_any p none (Dropped n {rs} q w) = ap (λ b. b || list_any p rs) (none n) ∙ same_any p none w
same_any p none (Both o w) = ap (λ b. p o || b) (same_any p none w)

mark_dropped : {P : ℕ → Type 0} {rs ss : List Open} (x : Open) (n : ℕ) (b : Bool) → (b ≡ true → ⊥) → P n → Without P rs ss → Without P ((if b then record { number = n; what = Sync; failed = true } else dropped n) ∷ rs) ss
mark_dropped x n true none q w = absurd (none refl)
mark_dropped x n false none q w = Dropped n q w

all_marked : {P : ℕ → Type 0} {rs ss : List Open} (x : Open) → ((n : ℕ) → IsOneOf (dropped n) rs → P n → is_same x (dropped n) ≡ true → ⊥) → Without P rs ss → Without P (map (marked x) rs) (map (marked x) ss)
all_marked x none Nothing = Nothing
all_marked x none (Dropped n q w) = mark_dropped x n (is_same x (dropped n)) (none n (inl refl) q) q (all_marked x (λ k there. none k (inr there)) w)
all_marked x none (Both o w) = Both (marked x o) (all_marked x (λ k there. none k (inr there)) w)

-- REGISTERS

pub record Beside (next : ℕ) (P : ℕ → Type 0) (r s : Register) : Type 0 where
  pub is_next : r.next ≡ next
  pub same_next : s.next ≡ r.next
  pub held : s.held ≡ r.held
  pub waits : Without P r.waits s.waits
  pub ungiven : (o : Open) → IsOneOf o s.waits → is_unmet s.held.now o ≡ true

settle : (P : ℕ → Type 0) (next n m : ℕ) (h k : HeldOf ℕ) (rs ss : List Open) → n ≡ next → m ≡ n → k ≡ h → Without P rs ss → Beside next P (settled n h rs) (settled m k ss)
settle P next n m h k rs ss is same held w = record {
  is_next = is;
  same_next = same;
  held = held;
  waits = subst (λ now. Without P (unmet h.now rs) (unmet now ss)) (sym (ap (λ (x : HeldOf ℕ). x.now) held)) (filtered (is_unmet h.now) w);
  ungiven = λ o has. (of_filter (is_unmet k.now) o ss has).1;
}

-- a failure of one that is left out too
abbrev NoClash : (ℕ → Type 0) → Turn → Open → List Open → Type 0
NoClash P Acts of rs = Unit {0}
NoClash P Fails of rs = (n : ℕ) → IsOneOf (dropped n) rs → P n → is_same of (dropped n) ≡ true → ⊥

left_without : (P : ℕ → Type 0) (turn : Turn) (of : Open) (rs ss : List Open) → NoClash P turn of rs → Without P rs ss → Without P (left_by turn of rs) (left_by turn of ss)
left_without P Acts of rs ss none w = filtered (is_other of) w
left_without P Fails of rs ss none w = all_marked of none w

module _ (next : ℕ) (P : ℕ → Type 0) (r s : Register) (e : Beside next P r s) where
  turn_beside : (turn : Turn) (of : Open) (change : ChangeOf ℕ) → NoClash P turn of r.waits
      → Beside next P (settled r.next (changed r.next change r.held) (left_by turn of r.waits)) (settled s.next (changed s.next change s.held) (left_by turn of s.waits))
  turn_beside turn of change none =
      settle P next r.next s.next (changed r.next change r.held) (changed s.next change s.held) (left_by turn of r.waits) (left_by turn of s.waits) e.is_next e.same_next
      (ap (λ n. changed n change s.held) e.same_next ∙ ap (λ h. changed r.next change h) e.held)
      (left_without P turn of r.waits s.waits none e.waits)

  clash_here : (r' : Register) (n : ℕ) → IsOneOf (dropped n) r.waits → (t : Turns Fails r r') → is_same t.of (dropped n) ≡ true → HasFailedSync n r'.waits
  clash_here r' n there t same =
      subst (λ (x : Register). HasFailedSync n x.waits) (sym t.after)
      (stuck_unmet n (changed r.next t.change r.held).now (left_by Fails t.of r.waits) (fails_with t.of (dropped n) r.waits there same refl))

  no_clash : (turn : Turn) (r' : Register) (t : Turns turn r r') → ((n : ℕ) → P n → HasFailedSync n r'.waits → ⊥) → NoClash P turn t.of r.waits
  no_clash Acts r' t safe = tt
  no_clash Fails r' t safe = λ n there p same. safe n p (clash_here r' n there t same)

  not_dropped : (turn : Turn) (r' : Register) (t : Turns turn r r') → NoClash P turn t.of r.waits → IsOneOf t.of s.waits
  not_dropped Acts r' t none = elim (or_dropped e.waits t.of t.waits) [
    | inl (n, is, p, there) ↦ let may : change_of Acts (dropped n) ≡ Some t.change = sym (ap (change_of Acts) is) ∙ t.may in absurd (cc (may))
    | inr has ↦ has
  ]
  not_dropped Fails r' t none = elim (or_dropped e.waits t.of t.waits) [
    | inl (n, is, p, there) ↦ absurd (none n there p (ap (λ x. is_same x (dropped n)) is ∙ same_self (dropped n) refl))
    | inr has ↦ has
  ]

  turn_on : (turn : Turn) (r' : Register) → Turns turn r r' → ((n : ℕ) → P n → HasFailedSync n r'.waits → ⊥) → (s' : Register) × Turns turn s s' × Beside next P r' s'
  turn_on turn r' t safe =
      let none : NoClash P turn t.of r.waits = no_clash turn r' t safe in (
        settled s.next (changed s.next t.change s.held) (left_by turn t.of s.waits),
        record { of = t.of; waits = not_dropped turn r' t none; change = t.change; may = t.may; after = refl },
        subst (λ x. Beside next P x (settled s.next (changed s.next t.change s.held) (left_by turn t.of s.waits))) (sym t.after) (turn_beside turn t.of t.change none),
      )

  -- a turn of the one that sees less

  fault_sync : (failed : Bool) (what : What) (change : ChangeOf ℕ) → fault_of failed what ≡ Some change → (if is_write what then false else true) ≡ true → is_sync what ≡ true
  fault_sync failed (Read v) change may none = absurd (cc (may))
  fault_sync failed (Write v through) change may none = absurd (cc (none))
  fault_sync failed Flush change may none = refl
  fault_sync failed Sync change may none = refl

  no_clash_back : (turn : Turn) (s' : Register) (t : Turns turn s s') → ((n : ℕ) → P n → HasFailedSync n s'.waits → ⊥) → NoClash P turn t.of r.waits
  no_clash_back Acts s' t safe = tt
  no_clash_back Fails s' t safe = λ n there p same.
      let parts : _ × _ = and_parts (n == t.of.number) (if is_write t.of.what then false else true) same in
      let sync : is_sync t.of.what ≡ true = fault_sync t.of.failed t.of.what t.change t.may parts.1 in
      safe t.of.number (subst P (eqb-true n t.of.number parts.0) p)
      (subst (λ (x : Register). HasFailedSync t.of.number x.waits) (sym t.after)
      (stuck_unmet t.of.number (changed s.next t.change s.held).now (left_by Fails t.of s.waits) (fails_with t.of t.of s.waits t.waits (same_self t.of sync) sync)))

  turn_back : (turn : Turn) (s' : Register) → Turns turn s s' → ((n : ℕ) → P n → HasFailedSync n s'.waits → ⊥) → (r' : Register) × Turns turn r r' × Beside next P r' s'
  turn_back turn s' t safe = (
    settled r.next (changed r.next t.change r.held) (left_by turn t.of r.waits),
    record { of = t.of; waits = in_full e.waits t.of t.waits; change = t.change; may = t.may; after = refl },
    subst (λ x. Beside next P (settled r.next (changed r.next t.change r.held) (left_by turn t.of r.waits)) x) (sym t.after) (turn_beside turn t.of t.change (no_clash_back turn s' t safe)),
  )

pub turned_on : (turns : List Turn) (next : ℕ) (P : ℕ → Type 0) (r s r' : Register) → Beside next P r s → Turned turns r r' → ((n : ℕ) → P n → HasFailedSync n r'.waits → ⊥) → (s' : Register) × Turned turns s s' × Beside next P r' s'
turned_on [] next P r s r' e t safe = (s, refl, subst (λ x. Beside next P x s) (sym t) e)
turned_on (turn ∷ turns) next P r s r' e t safe =
    let one : (s' : Register) × Turns turn s s' × Beside next P t.0 s' = turn_on next P r s e turn t.0 t.1 (λ n p stuck. safe n p (stuck_turned n turns t.0 r' t.2 stuck)) in
    let rest : (s' : Register) × Turned turns one.0 s' × Beside next P r' s' = turned_on turns next P t.0 one.0 r' one.2 t.2 safe in
    (rest.0, (one.0, one.1, rest.1), rest.2)

pub turned_back : (turns : List Turn) (next : ℕ) (P : ℕ → Type 0) (r s s' : Register) → Beside next P r s → Turned turns s s' → ((n : ℕ) → P n → HasFailedSync n s'.waits → ⊥) → (r' : Register) × Turned turns r r' × Beside next P r' s'
turned_back [] next P r s s' e t safe = (r, refl, subst (λ x. Beside next P r x) (sym t) e)
turned_back (turn ∷ turns) next P r s s' e t safe =
    let one : (r' : Register) × Turns turn r r' × Beside next P r' t.0 = turn_back next P r s e turn t.0 t.1 (λ n p stuck. safe n p (stuck_turned n turns t.0 s' t.2 stuck)) in
    let rest : (r' : Register) × Turned turns one.0 r' × Beside next P r' s' = turned_back turns next P one.0 t.0 s' one.2 t.2 safe in
    (rest.0, (one.0, one.1, rest.1), rest.2)

-- SIGHTS

and_false : (b : Bool) → (b && false) ≡ false
and_false true = refl
and_false false = refl

pub beside_opening : (P : ℕ → Type 0) (v : ℕ) → Beside 1 P (opening v) (opening v)
beside_opening P v = record { is_next = refl; same_next = refl; held = refl; waits = Nothing; ungiven = λ o h. absurd h }

beside_openings : (P : ℕ → Type 0) (vs : List ℕ) → Alike (Beside 1 P) (map opening vs) (map opening vs)
beside_openings P [] = tt
beside_openings P (v ∷ vs) = (beside_opening P v, beside_openings P vs)

module _ (next : ℕ) (P Q : ℕ → Type 0) (r s : Register) (e : Beside next P r s) where
  pub call_beside : (n : ℕ) (what : What) → next ≡ n + 1 → ((k : ℕ) → P k → Q k) → Beside next Q (called n what r) (called n what s)
  call_beside n what is less =
      settle Q next (above n r.next) (above n s.next) r.held s.held (r.waits ++ new n what ∷ []) (s.waits ++ new n what ∷ [])
      (above_is n r.next (let same = e.is_next in omega (arith, same, is)) ∙ sym is) (ap (λ k. above n k) e.same_next) e.held (push_both (new n what) (weaker less e.waits))

  pub other_beside : (n : ℕ) → above n next ≡ n + 1 → ((k : ℕ) → P k → Q k) → Beside (n + 1) Q (other n r) (other n s)
  other_beside n is less = record {
    is_next = ap (λ k. above n k) e.is_next ∙ is;
    same_next = ap (λ k. above n k) e.same_next;
    held = e.held;
    waits = weaker less e.waits;
    ungiven = e.ungiven;
  }

  -- a sync that the other doesn't see
  pub sync_beside : (n : ℕ) → next ≡ n + 1 → ((k : ℕ) → P k → Q k) → Q n → Beside next Q (called n Sync r) s
  sync_beside n is less will =
      let same : above n r.next ≡ next = above_is n r.next (let at = e.is_next in omega (arith, at, is)) ∙ sym is in record {
        is_next = same;
        same_next = e.same_next ∙ e.is_next ∙ sym same;
        held = e.held;
        waits = subst (λ ss. Without Q (unmet r.held.now (r.waits ++ dropped n ∷ [])) ss)
            (ap (λ (h : HeldOf ℕ). unmet h.now s.waits) (sym e.held) ∙ filter_all (is_unmet s.held.now) s.waits e.ungiven)
            (filtered (is_unmet r.held.now) (push_dropped n will (weaker less e.waits)));
        ungiven = e.ungiven;
      }

  now_done : (n : ℕ) (b : Bool) → (if b then changed s.next (Syncs n) s.held else s.held).now ≡ s.held.now
  now_done n true = refl
  now_done n false = refl

  done_beside : (n : ℕ) → ((k : ℕ) → (k == n) ≡ false → P k → Q k) → Beside next Q (done n r) (done n s)
  done_beside n less = record {
    is_next = e.is_next;
    same_next = e.same_next;
    held = ap (λ (b : Bool). if b then changed s.next (Syncs n) s.held else s.held) (sym (same_any (is_flush_of n) (λ k. and_false (k == n)) e.waits))
        ∙ ap (λ (h : HeldOf ℕ). if list_any (is_flush_of n) r.waits then changed s.next (Syncs n) h else h) e.held
        ∙ ap (λ k. if list_any (is_flush_of n) r.waits then changed k (Syncs n) r.held else r.held) e.same_next;
    waits = others n less e.waits;
    ungiven = λ o h. subst (λ now. is_unmet now o ≡ true) (sym (now_done n (list_any (is_flush_of n) s.waits))) (e.ungiven o (of_filter (has_other n) o s.waits h).0);
  }

  ended_beside : (n : ℕ) → ((k : ℕ) → (k == n) ≡ false → P k → Q k) → Beside next Q (ended n r) (ended n s)
  ended_beside n less = record {
    is_next = e.is_next;
    same_next = e.same_next;
    held = e.held;
    waits = others n less e.waits;
    ungiven = λ o h. e.ungiven o (of_filter (has_other n) o s.waits h).0;
  }

  pub end_beside : (good : Bool) (n : ℕ) → ((k : ℕ) → (k == n) ≡ false → P k → Q k) → Alike (Beside next Q) (behind (end_sight good n) r) (behind (end_sight good n) s)
  end_beside true n less = by (list_any (is_undone n) r.waits) (list_any (is_undone n) s.waits) (sym (same_any (is_undone n) (λ k. and_false (k == n)) e.waits))
    where
      by : (b c : Bool) → c ≡ b → Alike (Beside next Q) (if b then [] else done n r ∷ []) (if c then [] else done n s ∷ [])
      by true true same = tt
      by false false same = (done_beside n less, tt)
      by true false same = absurd (cc (same))
      by false true same = absurd (cc (same))
  end_beside false n less = (ended_beside n less, tt)

  pub last_beside : (lost : Bool) → Alike (Beside 1 Q) (behind (last_sight lost) r) (behind (last_sight lost) s)
  last_beside true = subst (λ (h : HeldOf ℕ). Alike (Beside 1 Q) (map opening (left r.held)) (map opening (left h))) (sym e.held) (beside_openings Q (left r.held))
  last_beside false = subst (λ (h : HeldOf ℕ). Alike (Beside 1 Q) (map opening r.held.now) (map opening h.now)) (sym e.held) (beside_openings Q r.held.now)
