-- What a sight makes of two registers that are near each other.
use Rattle.std.proofs.Common.{◌≡◌, ◌<◌, ◌≤◌, ◌⊎◌, inl, inr, ℕ, ◌+◌, ◌==◌, ◌&&◌, ◌||◌, Bool, true, false, not, List, [], ◌∷◌, ◌++◌, refl, sym, ◌∙◌, ap, subst, map, arith}
use Rattle.std.specs.Prelude.{if◌then◌else◌}
use Rattle.std.specs.List.{filter, list_any}
use Rattle.std.proofs.lemmas.Bool.{and_parts, eqb-true}
use Rattle.loss.specs.Held.{Syncs, IsOneOf, changed, left}
use Rattle.register_loss.specs.declared.What.{What}
use Rattle.register_loss.specs.declared.What.TheVariants.{Flush}
use Rattle.register_loss.specs.declared.Open.{Open}
use Rattle.register_loss.specs.declared.Turn.{Turn}
use Rattle.register_loss.specs.Schedules.{Register, Turns, above, behind, called, done, ended, flushed, has_other, is_flush, is_flush_of, is_sync, is_undone, is_unmet, left_by, opening, settled, unmet}
use Rattle.register_loss_search.proofs.Listing.{any_from, of_filter, one_either, one_left}
use Rattle.history_loss_kept.proofs.Steps.{Alike, Turned}
use Rattle.history_loss_kept.proofs.Waits.{Was, above_is, filter_all, flush, none_of, push_unmet, turn_was, unequal}
use Rattle.history_loss_kept.proofs.Marks.{end_sight, last_sight}
use Rattle.history_loss_kept.proofs.Nearing.{Holds, Near, Relevant, holds_changed, holds_left, holds_less, near_dates}

-- CALLS

abbrev pub new : ℕ → What → Open
new n what = record { number = n; what = what; failed = false }

-- behind a call that is the last so far
abbrev pub ready : ℕ → What → Register → Register
ready n what r = settled (n + 1) r.held (r.waits ++ new n what ∷ [])

pub called_is : (n : ℕ) (what : What) (r : Register) → r.next ≤ n + 1 → called n what r ≡ ready n what r
called_is n what r h = ap (λ k. settled k r.held (r.waits ++ new n what ∷ [])) (above_is n r.next h)

abbrev pub other : ℕ → Register → Register
other n r = record { next = above n r.next; held = r.held; waits = r.waits }

new_is : (n : ℕ) (what : What) (o : Open) → o ≡ new n what → (o.number ≡ n) × (o.what ≡ what)
new_is n what o e = (ap (λ (x : Open). x.number) e, ap (λ (x : Open). x.what) e)

pub near_opening : (v : ℕ) → Near 1 [] (opening v) (opening v)
near_opening v = record { is_next = refl; earlier = omega arith; holds = record { now = refl; older = tt }; waits = refl; below = λ o h. absurd h; named = λ o h. absurd h; ungiven = λ o h. absurd h }

openings : (vs : List ℕ) → Alike (Near 1 []) (map opening vs) (map opening vs)
openings [] = tt
openings (v ∷ vs) = (near_opening v, openings vs)

module _ (next : ℕ) (seen : List ℕ) (r s : Register) (e : Near next seen r s) where
  pub near_other : (n : ℕ) → next ≤ n → Near (n + 1) seen (other n r) s
  near_other n low = record {
    is_next = above_is n r.next (let is = e.is_next in omega (arith, low, is));
    earlier = let early = e.earlier in omega (arith, early, low);
    holds = holds_less (Relevant s.waits next) (Relevant s.waits (n + 1)) r.held s.held less e.holds;
    waits = e.waits;
    below = e.below;
    named = e.named;
    ungiven = e.ungiven;
  }
    where
      less : (k : ℕ) → Relevant s.waits (n + 1) k → Relevant s.waits next k
      less k (inl late) = inl (omega (arith, late, low))
      less k (inr open_flush) = inr open_flush

  either : (n : ℕ) (what : What) (o : Open) → IsOneOf o (unmet s.held.now (s.waits ++ new n what ∷ [])) → IsOneOf o s.waits ⊎ ((o.number ≡ n) × (o.what ≡ what))
  either n what o h = elim (one_either o s.waits (new n what ∷ []) (of_filter (is_unmet s.held.now) o (s.waits ++ new n what ∷ []) h).0) [
    | inl before ↦ inl before
    | inr (inl is) ↦ inr (new_is n what o is)
    | inr (inr none) ↦ absurd none
  ]

  pub near_ready : (n : ℕ) (what : What) → next ≤ n + 1 → (is_flush what ≡ true → next ≤ n) → Near (n + 1) (n ∷ seen) (ready n what r) (ready n what s)
  near_ready n what low early = record {
    is_next = refl;
    earlier = omega arith;
    holds = holds_less (Relevant s.waits next) (Relevant (unmet s.held.now (s.waits ++ new n what ∷ [])) (n + 1)) r.held s.held less e.holds;
    waits = ap (λ now. unmet now (s.waits ++ new n what ∷ [])) e.holds.now ∙ ap (λ ws. unmet r.held.now (ws ++ new n what ∷ [])) e.waits;
    below = λ o h. elim (either n what o h) [
      | inl before ↦ let under : o.number < s.next = e.below o before in let first = e.earlier in omega (arith, under, first, low)
      | inr (number, is) ↦ omega (arith, number)
    ];
    named = λ o h. elim (either n what o h) [ inl before ↦ inr (e.named o before) | inr (number, is) ↦ inl number ];
    ungiven = λ o h. (of_filter (is_unmet s.held.now) o (s.waits ++ new n what ∷ []) h).1;
  }
    where
      by : (k : ℕ) (o : Open) → is_flush o.what ≡ true → o.number ≡ k → IsOneOf o s.waits ⊎ ((o.number ≡ n) × (o.what ≡ what)) → Relevant s.waits next k
      by k o is number (inl before) = inr (o, before, is, number)
      by k o is number (inr (same, kind)) = let first : next ≤ n = early (ap (λ w. is_flush w) (sym kind) ∙ is) in inl (omega (arith, first, same, number))

      less : (k : ℕ) → Relevant (unmet s.held.now (s.waits ++ new n what ∷ [])) (n + 1) k → Relevant s.waits next k
      less k (inl late) = inl (omega (arith, late, low))
      less k (inr (o, has, is, number)) = by k o is number (either n what o has)

  -- ENDS

  now_done : (n : ℕ) (b : Bool) → (if b then changed s.next (Syncs n) s.held else s.held).now ≡ s.held.now
  now_done n true = refl
  now_done n false = refl

  near_flushed : (n : ℕ) → Holds (Relevant s.waits next) (flushed n r) (flushed n s)
  near_flushed n = by (list_any (is_flush_of n) s.waits) (list_any (is_flush_of n) r.waits) refl (ap (λ ws. list_any (is_flush_of n) ws) (sym e.waits))
    where
      open_one : list_any (is_flush_of n) s.waits ≡ true → Relevant s.waits next n
      open_one some =
          let o : (x : Open) × IsOneOf x s.waits × (is_flush_of n x ≡ true) = any_from (is_flush_of n) s.waits some in
          let parts : _ × _ = and_parts (o.0.number == n) (is_flush o.0.what) o.2 in
          inr (o.0, o.1, parts.1, eqb-true o.0.number n parts.0)

      by : (b c : Bool) → list_any (is_flush_of n) s.waits ≡ b → c ≡ list_any (is_flush_of n) s.waits
          → Holds (Relevant s.waits next) (if c then changed r.next (Syncs n) r.held else r.held) (if b then changed s.next (Syncs n) s.held else s.held)
      by true true some same = holds_changed (Relevant s.waits next) r.next s.next (near_dates next seen r s e) r.held s.held e.holds (Syncs n) (open_one some)
      by false false some same = e.holds
      by true false some same = absurd (cc (some, same))
      by false true some same = absurd (cc (some, same))

  less_other : (n : ℕ) (k : ℕ) → Relevant (filter (has_other n) s.waits) next k → Relevant s.waits next k
  less_other n k (inl late) = inl late
  less_other n k (inr (o, has, is, number)) = inr (o, (of_filter (has_other n) o s.waits has).0, is, number)

  near_done : (n : ℕ) → Near next seen (done n r) (done n s)
  near_done n = record {
    is_next = e.is_next;
    earlier = e.earlier;
    holds = holds_less (Relevant s.waits next) (Relevant (filter (has_other n) s.waits) next) (flushed n r) (flushed n s) (less_other n) (near_flushed n);
    waits = ap (λ ws. filter (has_other n) ws) e.waits;
    below = λ o h. e.below o (of_filter (has_other n) o s.waits h).0;
    named = λ o h. e.named o (of_filter (has_other n) o s.waits h).0;
    ungiven = λ o h. subst (λ now. is_unmet now o ≡ true) (sym (now_done n (list_any (is_flush_of n) s.waits))) (e.ungiven o (of_filter (has_other n) o s.waits h).0);
  }

  near_ended : (n : ℕ) → Near next seen (ended n r) (ended n s)
  near_ended n = record {
    is_next = e.is_next;
    earlier = e.earlier;
    holds = holds_less (Relevant s.waits next) (Relevant (filter (has_other n) s.waits) next) r.held s.held (less_other n) e.holds;
    waits = ap (λ ws. filter (has_other n) ws) e.waits;
    below = λ o h. e.below o (of_filter (has_other n) o s.waits h).0;
    named = λ o h. e.named o (of_filter (has_other n) o s.waits h).0;
    ungiven = λ o h. e.ungiven o (of_filter (has_other n) o s.waits h).0;
  }

  pub end_alike : (good : Bool) (n : ℕ) → Alike (Near next seen) (behind (end_sight good n) r) (behind (end_sight good n) s)
  end_alike true n = by (list_any (is_undone n) r.waits) (list_any (is_undone n) s.waits) (ap (λ ws. list_any (is_undone n) ws) e.waits)
    where
      by : (b c : Bool) → c ≡ b → Alike (Near next seen) (if b then [] else done n r ∷ []) (if c then [] else done n s ∷ [])
      by true true same = tt
      by false false same = (near_done n, tt)
      by true false same = absurd (cc (same))
      by false true same = absurd (cc (same))
  end_alike false n = (near_ended n, tt)

  pub last_alike : (lost : Bool) → Alike (Near 1 []) (behind (last_sight lost) r) (behind (last_sight lost) s)
  last_alike true = subst (λ vs. Alike (Near 1 []) (map opening (left r.held)) (map opening vs)) (sym (holds_left (Relevant s.waits next) r.held s.held e.holds)) (openings (left r.held))
  last_alike false = subst (λ vs. Alike (Near 1 []) (map opening r.held.now) (map opening vs)) (sym e.holds.now) (openings r.held.now)

-- AN END OF WHAT DOESN'T WAIT

module _ (n : ℕ) (r : Register) (none : (o : Open) → IsOneOf o r.waits → o.number ≡ n → ⊥) where
  no_undone : list_any (is_undone n) r.waits ≡ false
  no_undone = none_of (is_undone n) r.waits (λ o h. ap (λ b. b && (not (is_sync o.what) || o.failed)) (unequal o.number n (none o h)))

  no_flush : list_any (is_flush_of n) r.waits ≡ false
  no_flush = none_of (is_flush_of n) r.waits (λ o h. ap (λ b. b && is_flush o.what) (unequal o.number n (none o h)))

  all_other : filter (has_other n) r.waits ≡ r.waits
  all_other = filter_all (has_other n) r.waits (λ o h. ap not (unequal o.number n (none o h)))

  done_is : done n r ≡ r
  done_is =
      ap (λ (b : Bool). record { next = r.next; held = if b then changed r.next (Syncs n) r.held else r.held; waits = filter (has_other n) r.waits }) no_flush
      ∙ ap (λ (ws : List Open). record { next = r.next; held = r.held; waits = ws }) all_other

  pub passes : (good : Bool) → behind (end_sight good n) r ≡ r ∷ []
  passes true = ap (λ (b : Bool). if b then [] else done n r ∷ []) no_undone ∙ ap (λ (x : Register). x ∷ []) done_is
  passes false = ap (λ (ws : List Open). record { next = r.next; held = r.held; waits = ws } ∷ []) all_other

-- A FLUSH BEFORE TURNS

abbrev pub pushed : ℕ → Register → Register
pushed n r = record { next = n + 1; held = r.held; waits = r.waits ++ flush n ∷ [] }

abbrev pub AreUngiven : Register → Type 0
AreUngiven r = (o : Open) → IsOneOf o r.waits → is_unmet r.held.now o ≡ true

abbrev pub AreBelow : ℕ → Register → Type 0
AreBelow n r = (o : Open) → IsOneOf o r.waits → o.number < n

pub ready_pushed : (n : ℕ) (r : Register) → AreUngiven r → ready n Flush r ≡ pushed n r
ready_pushed n r ungiven = ap (λ (ws : List Open). record { next = n + 1; held = r.held; waits = ws }) (filter_all (is_unmet r.held.now) (r.waits ++ flush n ∷ []) all)
  where
    all : (o : Open) → IsOneOf o (r.waits ++ flush n ∷ []) → is_unmet r.held.now o ≡ true
    all o h = elim (one_either o r.waits (flush n ∷ []) h) [
      | inl before ↦ ungiven o before
      | inr (inl is) ↦ subst (λ x. is_unmet r.held.now x ≡ true) (sym is) refl
      | inr (inr none) ↦ absurd none
    ]

pub record Hoisted (n : ℕ) (turns : List Turn) (r r' : Register) : Type 0 where
  pub turned : Turned turns (pushed n r) (pushed n r')
  pub is_next : r'.next ≡ n + 1
  pub ungiven : AreUngiven r'

hoist_turn : (n : ℕ) (turn : Turn) (r r' : Register) → r.next ≡ n + 1 → AreBelow n r → Turns turn r r' → Turns turn (pushed n r) (pushed n r')
hoist_turn n turn r r' is below t = record {
  of = t.of;
  waits = one_left t.of r.waits (flush n ∷ []) t.waits;
  change = t.change;
  may = t.may;
  after = ap (pushed n) t.after
      ∙ ap (λ k. record { next = n + 1; held = changed k t.change r.held; waits = unmet (changed k t.change r.held).now (left_by turn t.of r.waits) ++ flush n ∷ [] }) is
      ∙ ap (λ (ws : List Open). record { next = n + 1; held = changed (n + 1) t.change r.held; waits = ws }) (sym (push_unmet (changed (n + 1) t.change r.held).now turn t.of r.waits n (below t.of t.waits)));
}

hoist_below : (n : ℕ) (turn : Turn) (r r' : Register) → AreBelow n r → Turns turn r r' → AreBelow n r'
hoist_below n turn r r' below t =
    subst (AreBelow n) (sym t.after) (λ o h. let w : Was o r.waits = turn_was (changed r.next t.change r.held).now turn t.of o r.waits h in let low : w.one.number < n = below w.one w.has in let is = w.number in omega (arith, low, is))

turn_ungiven : (turn : Turn) (r r' : Register) → Turns turn r r' → AreUngiven r'
turn_ungiven turn r r' t = subst AreUngiven (sym t.after) (λ o h. (of_filter (is_unmet (changed r.next t.change r.held).now) o (left_by turn t.of r.waits) h).1)

turn_next : (turn : Turn) (r r' : Register) → Turns turn r r' → r'.next ≡ r.next
turn_next turn r r' t = ap (λ (x : Register). x.next) t.after

pub hoisted : (n : ℕ) (turns : List Turn) (r r' : Register) → r.next ≡ n + 1 → AreBelow n r → AreUngiven r → Turned turns r r' → Hoisted n turns r r'
hoisted n [] r r' is below ungiven t = record { turned = ap (pushed n) t; is_next = ap (λ (x : Register). x.next) t ∙ is; ungiven = subst AreUngiven (sym t) ungiven }
hoisted n (turn ∷ turns) r r' is below ungiven t =
    let rest : Hoisted n turns t.0 r' = hoisted n turns t.0 r' (turn_next turn r t.0 t.1 ∙ is) (hoist_below n turn r t.0 below t.1) (turn_ungiven turn r t.0 t.1) t.2 in
    record { turned = (pushed n t.0, hoist_turn n turn r t.0 is below t.1, rest.turned); is_next = rest.is_next; ungiven = rest.ungiven }
