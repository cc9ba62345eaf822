-- Whatever comes of a register comes of one that covers it.
use Rattle.std.proofs.Common.{◌≡◌, ◌<◌, ◌≤◌, ◌⊎◌, inl, inr, ℕ, ◌+◌, ◌==◌, ◌&&◌, ◌||◌, Bool, true, false, cond, not, List, [], ◌∷◌, ◌++◌, refl, sym, ◌∙◌, ap, subst, arith, nat_le}
use Rattle.std.specs.Prelude.{if◌then◌else◌}
use Rattle.std.specs.List.{filter, list_any}
use Rattle.std.proofs.lemmas.Bool.{and_parts, and_from}
use Rattle.std.proofs.lemmas.Bool.Decides.{leb_tells}
use Rattle.loss.specs.Held.{Syncs, IsOneOf, OlderOf, changed, left}
use Rattle.register_loss.specs.declared.What.{What}
use Rattle.register_loss.specs.declared.What.TheVariants.{Read, Write, Flush, Sync}
use Rattle.register_loss.specs.declared.Open.{Open}
use Rattle.register_loss.specs.declared.Turn.{Turn}
use Rattle.register_loss.specs.declared.Sight.{Sight}
use Rattle.register_loss.specs.declared.Sight.TheVariants.{Call, Elsewhere, Done, Failed, Lost, Ended}
use Rattle.register_loss.specs.Schedules.{Register, Turns, above, behind, called, done, ended, flushed, has_other, is_flush, is_flush_of, is_sync, is_undone, left_by, next_by, opening, settled}
use Rattle.register_loss_search.specs.Covering.{Covers, HasDuty, HasTurn, Serves, Wider, is_idle}
use Rattle.register_loss_search.proofs.Listing.{any_from, any_of, of_map, one_map}
use Rattle.register_loss_search.proofs.Changing.{dated_by, wider_by, wider_left}
use Rattle.register_loss_search.proofs.Serving.{TakesToo, covers_self, covers_settled, serves_filter, serves_left, serves_push, takes_too}

-- what was overwritten was so before the next call
abbrev pub Dated : Register → Type 0
Dated r = (o : OlderOf ℕ) → IsOneOf o r.held.older → o.behind ≤ r.next

-- TURNS

pub record TurnsToo (turn : Turn) (f r' : Register) : Type 0 where
  pub register : Register
  pub turns : Turns turn f register
  pub covers : Covers register r'

pub turns_too : (turn : Turn) (f r r' : Register) → f.next ≡ r.next → Dated r → Covers f r → Turns turn r r' → TurnsToo turn f r'
turns_too turn f r r' next dated c t =
    let too : TakesToo turn t.of t.change f.waits = takes_too turn t.of t.change f.waits t.may (c.waits.turns t.of t.waits) in
    let w : Wider (changed r.next t.change r.held) (changed f.next t.change f.held) =
    subst (λ n. Wider (changed r.next t.change r.held) (changed n t.change f.held)) (sym next) (wider_by r.next r.held f.held c.held dated t.change) in
    record {
      register = settled f.next (changed f.next t.change f.held) (left_by turn too.one f.waits);
      turns = record { of = too.one; waits = too.has; change = t.change; may = too.may; after = refl };
      covers = subst (λ y. Covers (settled f.next (changed f.next t.change f.held) (left_by turn too.one f.waits)) y) (sym t.after)
          (covers_settled f.next r.next (changed f.next t.change f.held) (changed r.next t.change r.held) (left_by turn too.one f.waits) (left_by turn t.of r.waits) w (serves_left f.waits r.waits c.waits turn too.one t.of too.number too.what));
    }

pub dated_turn : (turn : Turn) (r r' : Register) → Turns turn r r' → Dated r → Dated r'
dated_turn turn r r' t dated = subst Dated (sym t.after) (dated_by r.next r.held t.change dated)

pub next_turn : (turn : Turn) (r r' : Register) → Turns turn r r' → r'.next ≡ r.next
next_turn turn r r' t = ap (λ (x : Register). x.next) t.after

-- SIGHTS

above_at_least : (n m : ℕ) → m ≤ above n m
above_at_least n m = by_order (leb_tells m n)
  where
    from : (b : Bool) → nat_le m n ≡ b → m ≤ cond b (n + 1) m → m ≤ above n m
    from b e h = subst (λ (b : Bool). m ≤ cond b (n + 1) m) (sym e) h

    by_order : ((nat_le m n ≡ true) × (m ≤ n)) ⊎ ((nat_le m n ≡ false) × (n < m)) → m ≤ above n m
    by_order (inl low) = from true low.0 (omega (arith, low.1))
    by_order (inr high) = from false high.0 (omega arith)

dated_above : (n : ℕ) (r : Register) (waits : List Open) → Dated r → Dated (record { next = above n r.next; held = r.held; waits = waits })
dated_above n r waits dated o p = let low : o.behind ≤ r.next = dated o p in let up = above_at_least n r.next in omega (arith, low, up)

dated_opening : (v : ℕ) → Dated (opening v)
dated_opening v o p = absurd p

dated_flushed : (n : ℕ) (r : Register) (waits : List Open) (b : Bool) → Dated r → Dated (record { next = r.next; held = if b then changed r.next (Syncs n) r.held else r.held; waits = waits })
dated_flushed n r waits true dated = dated_by r.next r.held (Syncs n) dated
dated_flushed n r waits false dated = dated

-- the register behind, if there is one
of_unless : (b : Bool) (r x : Register) → IsOneOf x (if b then [] else r ∷ []) → (b ≡ false) × (x ≡ r)
of_unless true r x h = absurd h
of_unless false r x (inl e) = (refl, e)
of_unless false r x (inr none) = absurd none

of_one : (r x : Register) → IsOneOf x (r ∷ []) → x ≡ r
of_one r x (inl e) = e
of_one r x (inr none) = absurd none

pub dated_sight : (sight : Sight) (r r' : Register) → IsOneOf r' (behind sight r) → Dated r → Dated r'
dated_sight (Call n what) r r' h dated = subst Dated (sym (of_one (called n what r) r' h)) (dated_above n r (called n what r).waits dated)
dated_sight (Elsewhere n) r r' h dated = subst Dated (sym (of_one (record { next = above n r.next; held = r.held; waits = r.waits }) r' h)) (dated_above n r r.waits dated)
dated_sight (Done n) r r' h dated =
    subst Dated (sym (of_unless (list_any (is_undone n) r.waits) (done n r) r' h).1) (dated_flushed n r (filter (has_other n) r.waits) (list_any (is_flush_of n) r.waits) dated)
dated_sight (Failed n) r r' h dated = subst Dated (sym (of_one (ended n r) r' h)) dated
dated_sight Lost r r' h dated = let v : (x : ℕ) × IsOneOf x (left r.held) × (r' ≡ opening x) = of_map opening r' (left r.held) h in subst Dated (sym v.2) (dated_opening v.0)
dated_sight Ended r r' h dated = let v : (x : ℕ) × IsOneOf x r.held.now × (r' ≡ opening x) = of_map opening r' r.held.now h in subst Dated (sym v.2) (dated_opening v.0)

pub next_sight : (sight : Sight) (r r' : Register) → IsOneOf r' (behind sight r) → r'.next ≡ next_by sight r.next
next_sight (Call n what) r r' h = ap (λ (x : Register). x.next) (of_one (called n what r) r' h)
next_sight (Elsewhere n) r r' h = ap (λ (x : Register). x.next) (of_one (record { next = above n r.next; held = r.held; waits = r.waits }) r' h)
next_sight (Done n) r r' h = ap (λ (x : Register). x.next) (of_unless (list_any (is_undone n) r.waits) (done n r) r' h).1
next_sight (Failed n) r r' h = ap (λ (x : Register). x.next) (of_one (ended n r) r' h)
next_sight Lost r r' h = let v : (x : ℕ) × IsOneOf x (left r.held) × (r' ≡ opening x) = of_map opening r' (left r.held) h in ap (λ (x : Register). x.next) v.2
next_sight Ended r r' h = let v : (x : ℕ) × IsOneOf x r.held.now × (r' ≡ opening x) = of_map opening r' r.held.now h in ap (λ (x : Register). x.next) v.2

-- A SUCCESS

abbrev undone_by : ℕ → ℕ → What → Bool → Bool
undone_by n number what failed = (number == n) && (not (is_sync what) || failed)

undone_more : (n number : ℕ) (what : What) (failed other : Bool) → (failed ≡ true → other ≡ true) → undone_by n number what failed ≡ true → undone_by n number what other ≡ true
undone_more n number what failed other more e =
    let parts : ((number == n) ≡ true) × ((not (is_sync what) || failed) ≡ true) = and_parts (number == n) (not (is_sync what) || failed) e in
    and_from (number == n) (not (is_sync what) || other) parts.0 (by (is_sync what) failed more parts.1)
  where
    by : (s failed : Bool) → (failed ≡ true → other ≡ true) → (not s || failed) ≡ true → (not s || other) ≡ true
    by false failed more e = refl
    by true failed more e = more e

flush_turns : (n : ℕ) (o : Open) → is_flush_of n o ≡ true → is_idle o ≡ false
flush_turns n o e = let parts : ((o.number == n) ≡ true) × (is_flush o.what ≡ true) = and_parts (o.number == n) (is_flush o.what) e in by o.failed o.what parts.1
  where
    by : (failed : Bool) (what : What) → is_flush what ≡ true → is_idle (record { number = o.number; what = what; failed = failed }) ≡ false
    by failed (Read v) e = absurd (cc (e))
    by failed (Write v t) e = absurd (cc (e))
    by failed Flush e = refl
    by failed Sync e = absurd (cc (e))

flush_alike : (n : ℕ) (o x : Open) → o.number ≡ x.number → o.what ≡ x.what → is_flush_of n o ≡ true → is_flush_of n x ≡ true
flush_alike n o x number what e = sym (ap (λ k. (k == n) && is_flush o.what) number ∙ ap (λ w. (x.number == n) && is_flush w) what) ∙ e

module _ (f r : Register) (c : Covers f r) where
  undone_less : (n : ℕ) → list_any (is_undone n) r.waits ≡ false → list_any (is_undone n) f.waits ≡ false
  undone_less n none = by (list_any (is_undone n) f.waits) refl
    where
      by : (b : Bool) → list_any (is_undone n) f.waits ≡ b → b ≡ false
      by true some =
          let o : (x : Open) × IsOneOf x f.waits × (is_undone n x ≡ true) = any_from (is_undone n) f.waits some in
          let d : HasDuty r.waits o.0 = c.waits.duties o.0 o.1 in
          let moved : undone_by n d.0.number d.0.what o.0.failed ≡ true =
          ap (λ k. undone_by n k d.0.what o.0.failed) d.2.number ∙ ap (λ w. undone_by n o.0.number w o.0.failed) d.2.what ∙ o.2 in
          let too : list_any (is_undone n) r.waits ≡ true = any_of (is_undone n) d.0 r.waits d.1 (undone_more n d.0.number d.0.what o.0.failed d.0.failed d.2.failed moved) in
          absurd (cc (too, none))
      by false some = refl

  flush_down : (n : ℕ) → list_any (is_flush_of n) f.waits ≡ true → list_any (is_flush_of n) r.waits ≡ true
  flush_down n some =
      let o : (x : Open) × IsOneOf x f.waits × (is_flush_of n x ≡ true) = any_from (is_flush_of n) f.waits some in
      let d : HasDuty r.waits o.0 = c.waits.duties o.0 o.1 in
      any_of (is_flush_of n) d.0 r.waits d.1 (flush_alike n o.0 d.0 (sym d.2.number) (sym d.2.what) o.2)

  flush_up : (n : ℕ) → list_any (is_flush_of n) r.waits ≡ true → list_any (is_flush_of n) f.waits ≡ true
  flush_up n some =
      let o : (x : Open) × IsOneOf x r.waits × (is_flush_of n x ≡ true) = any_from (is_flush_of n) r.waits some in
      by o.0 o.2 (c.waits.turns o.0 o.1)
    where
      by : (o : Open) → is_flush_of n o ≡ true → HasTurn f.waits o → list_any (is_flush_of n) f.waits ≡ true
      by o e (inl idle) = let busy : is_idle o ≡ false = flush_turns n o e in absurd (cc (idle, busy))
      by o e (inr (x, has, t)) = any_of (is_flush_of n) x f.waits has (flush_alike n o x (sym t.number) (sym t.what) e)

  wider_flushed : (n : ℕ) → f.next ≡ r.next → Dated r → Wider (flushed n r) (flushed n f)
  wider_flushed n next dated = by (list_any (is_flush_of n) r.waits) (list_any (is_flush_of n) f.waits) refl refl
    where
      by : (a b : Bool) → list_any (is_flush_of n) r.waits ≡ a → list_any (is_flush_of n) f.waits ≡ b
          → Wider (if a then changed r.next (Syncs n) r.held else r.held) (if b then changed f.next (Syncs n) f.held else f.held)
      by true true x y = wider_by r.next r.held f.held c.held dated (Syncs n)
      by false false x y = c.held
      by true false x y = let up : list_any (is_flush_of n) f.waits ≡ true = flush_up n x in absurd (cc (up, y))
      by false true x y = let down : list_any (is_flush_of n) r.waits ≡ true = flush_down n y in absurd (cc (down, x))

  serves_others : (n : ℕ) → Serves (filter (has_other n) f.waits) (filter (has_other n) r.waits)
  serves_others n =
      serves_filter f.waits r.waits c.waits (has_other n) (has_other n) (λ one other number w e. ap (λ k. not (k == n)) number ∙ e) (λ other one busy number w e. ap (λ k. not (k == n)) number ∙ e)

-- the same sight leaves of the one what covers what it leaves of the other
pub record SeesToo (sight : Sight) (f r' : Register) : Type 0 where
  pub register : Register
  pub behind : IsOneOf register (behind sight f)
  pub covers : Covers register r'

opens_too : (sight : Sight) (f : Register) (v : ℕ) → IsOneOf (opening v) (behind sight f) → (r' : Register) → r' ≡ opening v → SeesToo sight f r'
opens_too sight f v h r' is = record { register = opening v; behind = h; covers = subst (λ y. Covers (opening v) y) (sym is) (covers_self (opening v)) }

unless_done : (b : Bool) (r : Register) → b ≡ false → IsOneOf r (if b then [] else r ∷ [])
unless_done true r e = absurd (cc (e))
unless_done false r e = inl refl

pub sees_too : (sight : Sight) (f r r' : Register) → f.next ≡ r.next → Dated r → Covers f r → IsOneOf r' (behind sight r) → SeesToo sight f r'
sees_too (Call n what) f r r' next dated c h = record {
  register = called n what f;
  behind = inl refl;
  covers = subst (λ y. Covers (called n what f) y) (sym (of_one (called n what r) r' h))
      (covers_settled (above n f.next) (above n r.next) f.held r.held (f.waits ++ record { number = n; what = what; failed = false } ∷ []) (r.waits ++ record { number = n; what = what; failed = false } ∷ []) c.held
      (serves_push f.waits r.waits c.waits (record { number = n; what = what; failed = false })));
}
sees_too (Elsewhere n) f r r' next dated c h = record {
  register = record { next = above n f.next; held = f.held; waits = f.waits };
  behind = inl refl;
  covers = subst (λ y. Covers (record { next = above n f.next; held = f.held; waits = f.waits }) y) (sym (of_one (record { next = above n r.next; held = r.held; waits = r.waits }) r' h)) (record { held = c.held; waits = c.waits });
}
sees_too (Done n) f r r' next dated c h =
    let was : (list_any (is_undone n) r.waits ≡ false) × (r' ≡ done n r) = of_unless (list_any (is_undone n) r.waits) (done n r) r' h in
    record {
      register = done n f;
      behind = unless_done (list_any (is_undone n) f.waits) (done n f) (undone_less f r c n was.0);
      covers = subst (λ y. Covers (done n f) y) (sym was.1) (record { held = wider_flushed f r c n next dated; waits = serves_others f r c n });
    }
sees_too (Failed n) f r r' next dated c h = record {
  register = ended n f;
  behind = inl refl;
  covers = subst (λ y. Covers (ended n f) y) (sym (of_one (ended n r) r' h)) (record { held = c.held; waits = serves_others f r c n });
}
sees_too Lost f r r' next dated c h =
    let v : (x : ℕ) × IsOneOf x (left r.held) × (r' ≡ opening x) = of_map opening r' (left r.held) h in
    opens_too Lost f v.0 (one_map opening v.0 (left f.held) (wider_left r.held f.held c.held v.0 v.1)) r' v.2
sees_too Ended f r r' next dated c h =
    let v : (x : ℕ) × IsOneOf x r.held.now × (r' ≡ opening x) = of_map opening r' r.held.now h in
    opens_too Ended f v.0 (one_map opening v.0 f.held.now (c.held.now v.0 v.1)) r' v.2
