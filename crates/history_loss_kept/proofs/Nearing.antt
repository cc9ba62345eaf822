-- A register that sees what all calls show, and one that sees less, of which both hold the same.
use Rattle.std.proofs.Common.{◌≡◌, ◌<◌, ◌≤◌, ◌⊎◌, inl, inr, ℕ, Bool, true, false, cond, nat_lt, List, [], ◌∷◌, ◌++◌, Some, None, refl, sym, ◌∙◌, ap, subst, map, arith}
use Rattle.std.specs.Prelude.{if◌then◌else◌}
use Rattle.std.specs.List.{filter}
use Rattle.loss.specs.Held.{ChangeOf, Puts, Secures, Tries, Syncs, Doubts, HeldOf, IsOneOf, OlderOf, changed, left, outlives, overwritten, value_of}
use Rattle.register_loss.specs.declared.What.{What}
use Rattle.register_loss.specs.declared.What.TheVariants.{Read, Write, Flush, Sync}
use Rattle.register_loss.specs.declared.Open.{Open}
use Rattle.register_loss.specs.declared.Turn.{Turn}
use Rattle.register_loss.specs.declared.Turn.TheVariants.{Acts, Fails}
use Rattle.register_loss.specs.Schedules.{Register, Turns, act_of, change_of, fault_of, is_flush, is_unmet, left_by, settled, unmet}
use Rattle.register_loss_search.proofs.Listing.{of_filter}
use Rattle.history_loss_kept.proofs.Steps.{Turned}
use Rattle.history_loss_kept.proofs.Waits.{Was, lt_false, lt_true, turn_was}

-- OLDER VALUES

-- the same values, of dates that the flushes of such numbers can't tell apart
abbrev pub Agree : (ℕ → Type 0) → List (OlderOf ℕ) → List (OlderOf ℕ) → Type 0
Agree F [] [] = Unit {0}
Agree F [] (p ∷ ps) = ⊥
Agree F (o ∷ os) [] = ⊥
Agree F (o ∷ os) (p ∷ ps) = (p.value ≡ o.value) × ((n : ℕ) → F n → outlives n p ≡ outlives n o) × Agree F os ps

agree_less : (F G : ℕ → Type 0) (os ps : List (OlderOf ℕ)) → ((n : ℕ) → G n → F n) → Agree F os ps → Agree G os ps
agree_less F G [] [] less a = tt
agree_less F G [] (p ∷ ps) less a = absurd a
agree_less F G (o ∷ os) [] less a = absurd a
agree_less F G (o ∷ os) (p ∷ ps) less a = (a.0, λ n g. a.1 n (less n g), agree_less F G os ps less a.2)

agree_append : (F : ℕ → Type 0) (os ps os' ps' : List (OlderOf ℕ)) → Agree F os ps → Agree F os' ps' → Agree F (os ++ os') (ps ++ ps')
agree_append F [] [] os' ps' a b = b
agree_append F [] (p ∷ ps) os' ps' a b = absurd a
agree_append F (o ∷ os) [] os' ps' a b = absurd a
agree_append F (o ∷ os) (p ∷ ps) os' ps' a b = (a.0, a.1, agree_append F os ps os' ps' a.2 b)

agree_put : (F : ℕ → Type 0) (a b : ℕ) (now : List ℕ) → ((n : ℕ) → F n → nat_lt n b ≡ nat_lt n a) → Agree F (map (overwritten a) now) (map (overwritten b) now)
agree_put F a b [] dates = tt
agree_put F a b (v ∷ now) dates = (refl, dates, agree_put F a b now dates)

agree_values : (F : ℕ → Type 0) (os ps : List (OlderOf ℕ)) → Agree F os ps → map value_of ps ≡ map value_of os
agree_values F [] [] a = refl
agree_values F [] (p ∷ ps) a = absurd a
agree_values F (o ∷ os) [] a = absurd a
agree_values F (o ∷ os) (p ∷ ps) a = ap (λ v. v ∷ map value_of ps) a.0 ∙ ap (λ vs. o.value ∷ vs) (agree_values F os ps a.2)

agree_cond : (F : ℕ → Type 0) (o p : OlderOf ℕ) (os ps : List (OlderOf ℕ)) (b c : Bool) → c ≡ b → p.value ≡ o.value → ((n : ℕ) → F n → outlives n p ≡ outlives n o) → Agree F os ps → Agree F (cond b (o ∷ os) os) (cond c (p ∷ ps) ps)
agree_cond F o p os ps true true e value dates a = (value, dates, a)
agree_cond F o p os ps false false e value dates a = a
agree_cond F o p os ps true false e value dates a = absurd (cc (e))
agree_cond F o p os ps false true e value dates a = absurd (cc (e))

agree_filter : (F : ℕ → Type 0) (n : ℕ) → F n → (os ps : List (OlderOf ℕ)) → Agree F os ps → Agree F (filter (outlives n) os) (filter (outlives n) ps)
agree_filter F n f [] [] a = tt
agree_filter F n f [] (p ∷ ps) a = absurd a
agree_filter F n f (o ∷ os) [] a = absurd a
agree_filter F n f (o ∷ os) (p ∷ ps) a = agree_cond F o p (filter (outlives n) os) (filter (outlives n) ps) (outlives n o) (outlives n p) (a.1 n f) a.0 a.1 (agree_filter F n f os ps a.2)

-- WHAT IS HELD

pub record Holds (F : ℕ → Type 0) (h k : HeldOf ℕ) : Type 0 where
  pub now : k.now ≡ h.now
  pub older : Agree F h.older k.older

pub holds_less : (F G : ℕ → Type 0) (h k : HeldOf ℕ) → ((n : ℕ) → G n → F n) → Holds F h k → Holds G h k
holds_less F G h k less a = record { now = a.now; older = agree_less F G h.older k.older less a.older }

pub holds_left : (F : ℕ → Type 0) (h k : HeldOf ℕ) → Holds F h k → left k ≡ left h
holds_left F h k a = ap (λ now. now ++ map value_of k.older) a.now ∙ ap (λ vs. h.now ++ vs) (agree_values F h.older k.older a.older)

abbrev pub SyncsIn : (ℕ → Type 0) → ChangeOf ℕ → Type 0
SyncsIn F (Syncs n) = F n
SyncsIn F (Puts v) = Unit {0}
SyncsIn F (Secures v) = Unit {0}
SyncsIn F (Tries v) = Unit {0}
SyncsIn F Doubts = Unit {0}

module _ (F : ℕ → Type 0) (a b : ℕ) (dates : (n : ℕ) → F n → nat_lt n b ≡ nat_lt n a) (h k : HeldOf ℕ) (e : Holds F h k) where
  pub holds_changed : (change : ChangeOf ℕ) → SyncsIn F change → Holds F (changed a change h) (changed b change k)
  holds_changed (Puts v) s = record {
    now = refl;
    older = agree_append F h.older k.older (map (overwritten a) h.now) (map (overwritten b) k.now) e.older
        (subst (λ now. Agree F (map (overwritten a) h.now) (map (overwritten b) now)) (sym e.now) (agree_put F a b h.now dates));
  }
  holds_changed (Secures v) s = record { now = refl; older = tt }
  holds_changed (Tries v) s = record { now = ap (λ now. now ++ v ∷ []) e.now; older = e.older }
  holds_changed (Syncs n) s = record { now = e.now; older = agree_filter F n s h.older k.older e.older }
  holds_changed Doubts s = record { now = holds_left F h k e; older = tt }

syncs_in : (F : ℕ → Type 0) (x y : ChangeOf ℕ) → SyncsIn F x → x ≡ y → SyncsIn F y
syncs_in F x y s e = subst (SyncsIn F) e s

act_syncs : (F : ℕ → Type 0) (failed : Bool) (what : What) (change : ChangeOf ℕ) → (if failed then None else act_of what) ≡ Some change → SyncsIn F change
act_syncs F true what change e = absurd (cc (e))
act_syncs F false (Read v) change e = absurd (cc (e))
act_syncs F false (Write v true) change e = syncs_in F (Secures v) change tt (cc (e))
act_syncs F false (Write v false) change e = syncs_in F (Puts v) change tt (cc (e))
act_syncs F false Flush change e = absurd (cc (e))
act_syncs F false Sync change e = absurd (cc (e))

fault_syncs : (F : ℕ → Type 0) (failed : Bool) (what : What) (change : ChangeOf ℕ) → fault_of failed what ≡ Some change → SyncsIn F change
fault_syncs F failed (Read v) change e = absurd (cc (e))
fault_syncs F true (Write v through) change e = absurd (cc (e))
fault_syncs F false (Write v through) change e = syncs_in F (Tries v) change tt (cc (e))
fault_syncs F failed Flush change e = syncs_in F Doubts change tt (cc (e))
fault_syncs F failed Sync change e = syncs_in F Doubts change tt (cc (e))

turn_syncs : (F : ℕ → Type 0) (turn : Turn) (o : Open) (change : ChangeOf ℕ) → change_of turn o ≡ Some change → SyncsIn F change
turn_syncs F Acts o change e = act_syncs F o.failed o.what change e
turn_syncs F Fails o change e = fault_syncs F o.failed o.what change e

-- REGISTERS

-- an open flush, or one that may be called yet
abbrev pub Relevant : List Open → ℕ → ℕ → Type 0
Relevant waits next n = (next ≤ n) ⊎ ((o : Open) × IsOneOf o waits × (is_flush o.what ≡ true) × (o.number ≡ n))

pub record Near (next : ℕ) (seen : List ℕ) (r s : Register) : Type 0 where
  pub is_next : r.next ≡ next
  pub earlier : s.next ≤ next
  pub holds : Holds (Relevant s.waits next) r.held s.held
  pub waits : s.waits ≡ r.waits
  pub below : (o : Open) → IsOneOf o s.waits → o.number < s.next
  pub named : (o : Open) → IsOneOf o s.waits → IsOneOf o.number seen
  pub ungiven : (o : Open) → IsOneOf o s.waits → is_unmet s.held.now o ≡ true

relevant_less : (waits waits' : List Open) (next : ℕ) → ((o : Open) → IsOneOf o waits' → Was o waits) → (n : ℕ) → Relevant waits' next n → Relevant waits next n
relevant_less waits waits' next was n (inl late) = inl late
relevant_less waits waits' next was n (inr (o, has, is, number)) = let w : Was o waits = was o has in inr (w.one, w.has, ap (λ x. is_flush x) (sym w.what) ∙ is, sym w.number ∙ number)

module _ (next : ℕ) (seen : List ℕ) (r s : Register) (e : Near next seen r s) where
  pub near_dates : (n : ℕ) → Relevant s.waits next n → nat_lt n s.next ≡ nat_lt n r.next
  near_dates n (inl late) =
      let one : nat_lt n s.next ≡ false = lt_false n s.next (let low = e.earlier in omega (arith, late, low)) in
      let two : nat_lt n r.next ≡ false = lt_false n r.next (let is = e.is_next in omega (arith, late, is)) in one ∙ sym two
  near_dates n (inr (o, has, is, number)) =
      let under : o.number < s.next = e.below o has in
      let one : nat_lt n s.next ≡ true = lt_true n s.next (omega (arith, under, number)) in
      let two : nat_lt n r.next ≡ true = lt_true n r.next (let low = e.earlier in let same = e.is_next in omega (arith, under, number, low, same)) in one ∙ sym two

  near_after : (turn : Turn) (of : Open) (change : ChangeOf ℕ) → change_of turn of ≡ Some change → Near next seen (settled r.next (changed r.next change r.held) (left_by turn of r.waits)) (settled s.next (changed s.next change s.held) (left_by turn of s.waits))
  near_after turn of change may = record {
    is_next = e.is_next;
    earlier = e.earlier;
    holds = holds_less (Relevant s.waits next) (Relevant (unmet now (left_by turn of s.waits)) next) (changed r.next change r.held) (changed s.next change s.held)
        (relevant_less s.waits (unmet now (left_by turn of s.waits)) next (λ o has. turn_was now turn of o s.waits has)) same;
    waits = ap (λ vs. unmet vs (left_by turn of s.waits)) same.now ∙ ap (λ ws. unmet (changed r.next change r.held).now (left_by turn of ws)) e.waits;
    below = λ o has. let w : Was o s.waits = turn_was now turn of o s.waits has in let low : w.one.number < s.next = e.below w.one w.has in let is = w.number in omega (arith, low, is);
    named = λ o has. let w : Was o s.waits = turn_was now turn of o s.waits has in subst (λ n. IsOneOf n seen) (sym w.number) (e.named w.one w.has);
    ungiven = λ o has. (of_filter (is_unmet now) o (left_by turn of s.waits) has).1;
  }
    where
      now : List ℕ
      now = (changed s.next change s.held).now

      same : Holds (Relevant s.waits next) (changed r.next change r.held) (changed s.next change s.held)
      same = holds_changed (Relevant s.waits next) r.next s.next near_dates r.held s.held e.holds change (turn_syncs (Relevant s.waits next) turn of change may)

  turn_on : (turn : Turn) (r' : Register) → Turns turn r r' → (s' : Register) × Turns turn s s' × Near next seen r' s'
  turn_on turn r' t = (
    settled s.next (changed s.next t.change s.held) (left_by turn t.of s.waits),
    record { of = t.of; waits = subst (λ ws. IsOneOf t.of ws) (sym e.waits) t.waits; change = t.change; may = t.may; after = refl },
    subst (λ x. Near next seen x (settled s.next (changed s.next t.change s.held) (left_by turn t.of s.waits))) (sym t.after) (near_after turn t.of t.change t.may),
  )

  turn_back : (turn : Turn) (s' : Register) → Turns turn s s' → (r' : Register) × Turns turn r r' × Near next seen r' s'
  turn_back turn s' t = (
    settled r.next (changed r.next t.change r.held) (left_by turn t.of r.waits),
    record { of = t.of; waits = subst (λ ws. IsOneOf t.of ws) e.waits t.waits; change = t.change; may = t.may; after = refl },
    subst (λ x. Near next seen (settled r.next (changed r.next t.change r.held) (left_by turn t.of r.waits)) x) (sym t.after) (near_after turn t.of t.change t.may),
  )

pub turned_on : (turns : List Turn) (next : ℕ) (seen : List ℕ) (r s r' : Register) → Near next seen r s → Turned turns r r' → (s' : Register) × Turned turns s s' × Near next seen r' s'
turned_on [] next seen r s r' e t = (s, refl, subst (λ x. Near next seen x s) (sym t) e)
turned_on (turn ∷ turns) next seen r s r' e t =
    let one : (s' : Register) × Turns turn s s' × Near next seen t.0 s' = turn_on next seen r s e turn t.0 t.1 in
    let rest : (s' : Register) × Turned turns one.0 s' × Near next seen r' s' = turned_on turns next seen t.0 one.0 r' one.2 t.2 in
    (rest.0, (one.0, one.1, rest.1), rest.2)

pub turned_back : (turns : List Turn) (next : ℕ) (seen : List ℕ) (r s s' : Register) → Near next seen r s → Turned turns s s' → (r' : Register) × Turned turns r r' × Near next seen r' s'
turned_back [] next seen r s s' e t = (r, refl, subst (λ x. Near next seen r x) (sym t) e)
turned_back (turn ∷ turns) next seen r s s' e t =
    let one : (r' : Register) × Turns turn r r' × Near next seen r' t.0 = turn_back next seen r s e turn t.0 t.1 in
    let rest : (r' : Register) × Turned turns one.0 r' × Near next seen r' s' = turned_back turns next seen one.0 t.0 s' one.2 t.2 in
    (rest.0, (one.0, one.1, rest.1), rest.2)
