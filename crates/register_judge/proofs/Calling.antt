-- A call and an end, of forms that match.
use Rattle.std.proofs.Common.{◌≡◌, ◌<◌, ◌≤◌, ◌⊎◌, inl, inr, ℕ, ◌==◌, ◌&&◌, ◌||◌, Bool, true, false, not, List, [], ◌∷◌, ◌++◌, Option, Some, None, refl, sym, ◌∙◌, ap, subst, arith, eq-eqb}
use Rattle.std.specs.Prelude.{All, Contains, find}
use Rattle.std.proofs.lemmas.Bool.{cases_eq, cases_Bool, and_parts, eqb-true}
use Rattle.std.proofs.lemmas.List.Elements.{All-tail, All-cons, All-weaker, All-contains}
use Rattle.register.specs.declared.Sight.{Sight}
use Rattle.register.specs.declared.Sight.TheVariants.{Write, Read, Done, Failed}
use Rattle.register.specs.Schedules.{Event, Seen, Effect, value_after, IsNoEnd, IsNoEffect, unrecorded}
use Rattle.register_judge.specs.declared.states.Waiting.{Waiting}
use Rattle.register_judge.specs.declared.states.Turn.{Turn}
use Rattle.register_judge.specs.declared.states.How.TheVariants.{Act, Any, Hide, Leave}
use Rattle.register_judge.specs.inside.States.{Form, Means, is_met, meets, lefts, is_any_write, may_leave, is_number, turned, turns_of, leave, take_any, is_met_by, called, bound, bound_of}
use Rattle.register_judge.proofs.Listing.{Has, has_left, has_new, has_last, found_has, found_none}
use Rattle.register_judge.proofs.Turning.{met_read, read_unmet, some_or_none, lefts_same, turn_from, Fits, leave_alone, leave_free, leave_there, any_there, act_there, hide_there, own_turn, read_turn, own_source, told_source, read_source}
use Rattle.register_judge.proofs.Bounding.{met_or_waits, called_met, called_waits, bound_there}
use Rattle.register_judge.proofs.Events.{IsAtMost, HasEffect, call_of, further, newest, first_or_behind, none_and_some, behind_effect, effects_seen}
use Rattle.register_judge.proofs.Matching.{IsKnown, Source, Settled, Pending, IsMatch, IsEndOf, match_end, match_leave, hide_unmet, hidden, match_hide, aged, match_act}

-- NUMBERS

pub call_low : (last : ℕ) (past : List Event) → All (IsAtMost last) past → (writes : Bool) (k u : ℕ) → Contains past (Seen (call_of writes k u)) → k ≤ last
call_low last past below true k u c = All-contains (IsAtMost last) past (Seen (Write k u)) below c
call_low last past below false k u c = All-contains (IsAtMost last) past (Seen (Read k u)) below c

pub effect_low : (last : ℕ) (past : List Event) → All (IsAtMost last) past → (k : ℕ) → HasEffect k past → k ≤ last
effect_low last past below k h = All-contains (IsAtMost last) past (Effect k h.0) below h.1

pub no_end_above : (n last : ℕ) → last < n → (e : Event) → IsAtMost last e → IsNoEnd n e
no_end_above n last newer (Seen (Write number value)) h = tt
no_end_above n last newer (Seen (Read number value)) h = tt
no_end_above n last newer (Seen (Done number)) h = λ e. absurd (omega arith)
no_end_above n last newer (Seen (Failed number)) h = λ e. absurd (omega arith)
no_end_above n last newer (Effect number value) h = tt

pub no_effect_above : (n last : ℕ) → last < n → (e : Event) → IsAtMost last e → IsNoEffect n e
no_effect_above n last newer (Seen sight) h = tt
no_effect_above n last newer (Effect number value) h = λ e. absurd (omega arith)

pub call_quiet : (writes : Bool) (n v k : ℕ) → IsNoEnd k (Seen (call_of writes n v))
call_quiet true n v k = tt
call_quiet false n v k = tt

pub same_call : (w w' : Bool) (n n' v v' : ℕ) → Seen (call_of w n v) ≡ Seen (call_of w' n' v') → (w ≡ w') × (n ≡ n') × (v ≡ v')
same_call true true n n' v v' e = (refl, cc (e), cc (e))
same_call false false n n' v v' e = (refl, cc (e), cc (e))
same_call true false n n' v v' e = cc (e)
same_call false true n n' v v' e = cc (e)

pub at_most_call : (writes : Bool) (n v : ℕ) → IsAtMost n (Seen (call_of writes n v))
at_most_call true n v = omega arith
at_most_call false n v = omega arith

pub at_most_more : (n last : ℕ) → last < n → (e : Event) → IsAtMost last e → IsAtMost n e
at_most_more n last newer (Seen (Write number value)) h = omega arith
at_most_more n last newer (Seen (Read number value)) h = omega arith
at_most_more n last newer (Seen (Done number)) h = omega arith
at_most_more n last newer (Seen (Failed number)) h = omega arith
at_most_more n last newer (Effect number value) h = omega arith

above : {k last n : ℕ} → k ≤ last → last < n → n ≡ k → ⊥
above a b e = absurd (omega arith)

-- A CALL

module _ (start last : ℕ) (past : List Event) (f : Form) (m : IsMatch start past f) (below : All (IsAtMost last) past) (o : Waiting) (newer : last < o.number) where
  abbrev sight : Sight
  sight = call_of o.writes o.number o.value

  module _ (os : List Waiting) (from : (x : Waiting) → Has os x → Has f.waits x ⊎ (o ≡ x)) (keep : (x : Waiting) → Has f.waits x → Has os x) (new : o.writes ≡ true → Has os o)
      (lazy : (x : Waiting) → Has os x → o ≡ x → x.writes ≡ false → (x.value ≡ f.value) ⊎ (x.value ≡ unrecorded) → ⊥) where
    low : (x : Waiting) → Has f.waits x → o.number ≡ x.number → ⊥
    low x has e = above (call_low last past below x.writes x.number x.value (m.known x has).called) newer e

    known' : (x : Waiting) → Has os x → IsKnown (Seen sight ∷ past) x
    known' x h = elim (from x h) [
      | inl old ↦ let k = m.known x old in record { called = further (Seen sight) past (Seen (call_of x.writes x.number x.value)) k.called; awaits = All-cons (IsNoEnd x.number) (Seen sight) past (call_quiet o.writes o.number o.value x.number) k.awaits }
      | inr is ↦ subst (IsKnown (Seen sight ∷ past)) is (record {
        called = newest (Seen sight) past;
        awaits = All-cons (IsNoEnd o.number) (Seen sight) past (call_quiet o.writes o.number o.value o.number) (All-weaker (IsAtMost last) (IsNoEnd o.number) (no_end_above o.number last newer) past below);
      })
    ]

    there' : (k u : ℕ) → Contains (Seen sight ∷ past) (Seen (Write k u)) → All (IsNoEnd k) (Seen sight ∷ past) → All (IsNoEffect k) (Seen sight ∷ past) → (x : Waiting) × Has os x × (x.number ≡ k) × (x.writes ≡ true)
    there' k u c awaits fresh = elim (first_or_behind (Seen sight) past (Seen (Write k u)) c) [
      | inl e ↦ let same : (o.writes ≡ true) × (o.number ≡ k) × (o.value ≡ u) = same_call o.writes true o.number k o.value u e in (o, new same.0, same.1, same.0)
      | inr old ↦
          let at : (x : Waiting) × Has f.waits x × (x.number ≡ k) × (x.writes ≡ true) = m.there k u old (All-tail (IsNoEnd k) (Seen sight) past awaits) (All-tail (IsNoEffect k) (Seen sight) past fresh) in
          (at.0, keep at.0 at.1, at.2, at.3)
    ]

    apart' : (a b : Waiting) → Has os a → Has os b → a.number ≡ b.number → a ≡ b
    apart' a b has_a has_b e = elim (from a has_a) [
      | inl old_a ↦ elim (from b has_b) [
        | inl old_b ↦ m.apart a b old_a old_b e
        | inr is_b ↦ absurd (low a old_a (ap (λ y. y.number) is_b ∙ sym e))
      ]
      | inr is_a ↦ elim (from b has_b) [
        | inl old_b ↦ absurd (low b old_b (ap (λ y. y.number) is_a ∙ e))
        | inr is_b ↦ sym is_a ∙ is_b
      ]
    ]

    kinds' : (x : Waiting) → Has os x → (writes : Bool) (u : ℕ) → Contains (Seen sight ∷ past) (Seen (call_of writes x.number u)) → (x.writes ≡ writes) × (x.value ≡ u)
    kinds' x h writes u c = elim (first_or_behind (Seen sight) past (Seen (call_of writes x.number u)) c) [
      | inl e ↦ let same : (o.writes ≡ writes) × (o.number ≡ x.number) × (o.value ≡ u) = same_call o.writes writes o.number x.number o.value u e in elim (from x h) [
        | inl old ↦ absurd (low x old same.1)
        | inr is ↦ (sym (ap (λ y. y.writes) is) ∙ same.0, sym (ap (λ y. y.value) is) ∙ same.2)
      ]
      | inr before ↦ elim (from x h) [
        | inl old ↦ m.kinds x old writes u before
        | inr is ↦ absurd (above (call_low last past below writes x.number u before) newer (ap (λ y. y.number) is))
      ]
    ]

    -- what has an effect waited before
    acted_before : (x : Waiting) → Has os x → HasEffect x.number (Seen sight ∷ past) → Has f.waits x × HasEffect x.number past
    acted_before x h acted =
        let before : HasEffect x.number past = behind_effect x.number sight past acted in
        elim (from x h) [
          | inl old ↦ (old, before)
          | inr is ↦ absurd (above (effect_low last past below x.number before) newer (ap (λ y. y.number) is))
        ]

    source' : (x : Waiting) → Source past f.waits x → Source (Seen sight ∷ past) os x
    source' x s = record { write = s.write; has = keep s.write s.has; writes = s.writes; acted = further (Seen sight) past (Effect s.write.number x.value) s.acted }

    place' : Settled start past f ⊎ Pending start past f → Settled start (Seen sight ∷ past) (record f { waits = os }) ⊎ Pending start (Seen sight ∷ past) (record f { waits = os })
    place' (inl s) = inl (record {
      value = s.value;
      writes = λ x h w acted. let b = acted_before x h acted in s.writes x b.0 w b.1;
      reads = λ x h r acted. let b = acted_before x h acted in let old = s.reads x b.0 r b.1 in (old.0, source' x old.1);
    })
    place' (inr p) = inr (record {
      write = p.write;
      has = keep p.write p.has;
      writes = p.writes;
      acted = further (Seen sight) past (Effect p.write.number (value_after start past)) p.acted;
      reads = λ x h r acted. let b = acted_before x h acted in source' x (p.reads x b.0 r b.1);
    })

    match_with : IsMatch start (Seen sight ∷ past) (record f { waits = os })
    match_with = record {
      known = known';
      there = there';
      apart = apart';
      kinds = kinds';
      greedy = λ x h r e. elim (from x h) [ inl old ↦ m.greedy x old r e | inr is ↦ lazy x h is r (inl e) ];
      told = λ x h r e. elim (from x h) [ inl old ↦ m.told x old r e | inr is ↦ lazy x h is r (inr e) ];
      effects = effects_seen sight past m.effects;
      place = place' m.place;
    }

  match_pushed : (o.writes ≡ false → o.value ≡ f.value → ⊥) → (o.writes ≡ false → o.value ≡ unrecorded → ⊥) → IsMatch start (Seen sight ∷ past) (record f { waits = f.waits ++ o ∷ [] })
  match_pushed other recorded = match_with (f.waits ++ o ∷ []) (λ x h. has_last f.waits o x h) (λ x h. has_left f.waits (o ∷ []) x h) (λ w. has_new f.waits o)
      (λ x h is r e. let r' : o.writes ≡ false = ap (λ y. y.writes) is ∙ r in elim e [ inl same ↦ other r' (ap (λ y. y.value) is ∙ same) | inr none ↦ recorded r' (ap (λ y. y.value) is ∙ none) ])

  match_met : o.writes ≡ false → IsMatch start (Seen sight ∷ past) f
  match_met r = match_with f.waits (λ x h. inl h) (λ x h. h) (λ w. absurd (cc (w, r)))
      (λ x h is w e. above (call_low last past below x.writes x.number x.value (m.known x h).called) newer (ap (λ y. y.number) is))

-- a form behind the call, with a value that it means, matches
pub record Called (start : ℕ) (past : List Event) (o : Waiting) (f : Form) : Type 0 where
  pub form : Form
  pub of : (called o f ≡ form) ⊎ (bound_of o f ≡ Some form)
  pub value : ℕ
  pub means : Means form value
  pub match : IsMatch start past (bound value form)

module _ (start last : ℕ) (past : List Event) (f : Form) (u : ℕ) (means : Means f u) (m : IsMatch start past (bound u f)) (below : All (IsAtMost last) past) (o : Waiting) (newer : last < o.number) where
  abbrev seen_call : Event
  seen_call = Seen (call_of o.writes o.number o.value)

  met : o.writes ≡ false → IsMatch start (seen_call ∷ past) (bound u f)
  met r = match_met start last past (bound u f) m below o newer r

  waits : is_met_by f o ≡ false → (o.writes ≡ false → o.value ≡ u → ⊥) → (o.writes ≡ false → o.value ≡ unrecorded → ⊥) → Called start (seen_call ∷ past) o f
  waits is other recorded = record {
    form = record f { waits = f.waits ++ o ∷ [] };
    of = inl (called_waits f o is);
    value = u;
    means = means;
    match = match_pushed start last past (bound u f) m below o newer other recorded;
  }

  -- where the register may have any value, this one or another
  binds : is_met_by f o ≡ false → f.any ≡ true → o.writes ≡ false → (o.value ≡ unrecorded → ⊥) → Called start (seen_call ∷ past) o f
  binds is any r recorded = elim (cases_eq o.value u) [
    | inl same ↦ record {
      form = bound o.value f;
      of = inr (bound_there f o any r recorded);
      value = u;
      means = inr same;
      match = met r;
    }
    | inr other ↦ waits is (λ r'. other) (λ r'. recorded)
  ]

  other_value : (o.value ≡ f.value → ⊥) → Means f u → (f.any ≡ true) ⊎ (o.value ≡ u → ⊥)
  other_value other (inl any) = inl any
  other_value other (inr is) = inr (λ same. other (same ∙ sym is))

  pub match_call : Called start (seen_call ∷ past) o f
  match_call = elim (met_or_waits f o) [
    | inl (is, its) ↦ record { form = f; of = inl (called_met f o is); value = u; means = means; match = met its.reads }
    | inr (is, its) ↦ elim (cases_Bool o.writes) [
      | inl w ↦ waits is (λ r. absurd (cc (w, r))) (λ r. absurd (cc (w, r)))
      | inr r ↦ elim (its.other r) [
        | inl any ↦ binds is any r (its.recorded r)
        | inr differs ↦ elim (other_value differs means) [ inl any ↦ binds is any r (its.recorded r) | inr other ↦ waits is (λ r'. other) its.recorded ]
      ]
    ]
  ]

-- AN END

-- a turn by which the form matches behind the end, with a value that it means
pub record Turns (start : ℕ) (past : List Event) (f : Form) (must : Bool) (n : ℕ) : Type 0 where
  pub turn : Turn
  pub there : Has (turns_of must n f.waits) turn
  pub value : ℕ
  pub means : Means (turned turn f) value
  pub match : (x : Sight) → IsEndOf n x → IsMatch start (Seen x ∷ past) (bound value (turned turn f))

module _ (start : ℕ) (past : List Event) (f : Form) (u : ℕ) (means : Means f u) (m : IsMatch start past (bound u f)) (must : Bool) (n : ℕ) (acted : HasEffect n past) where
  module _ (o : Waiting) (found : find (is_number n) f.waits ≡ Some o) (has : Has f.waits o) (is_o : o.number ≡ n) where
    -- by a write, with a value
    module _ (w : Waiting) (has_w : Has f.waits w) (v : ℕ) (acted_w : Contains past (Effect w.number v)) where
      hide_by : Settled start past (bound u f) → Has (turns_of must n f.waits) (turn_from Hide w.number v) → ((x : Waiting) → Has (lefts (turn_from Hide w.number v) [] f.waits) x → x.number ≡ n → ⊥) → Turns start past f must n
      hide_by s there none = record {
        turn = turn_from Hide w.number v;
        there = there;
        value = u;
        means = means;
        match = λ x ends. match_end start past n x ends (turned (turn_from Hide w.number v) (bound u f)) (match_hide start past (bound u f) m w has_w v acted_w s) none;
      }

      act_by : Pending start past (bound u f) → Has (turns_of must n f.waits) (turn_from Act w.number v) → ((x : Waiting) → Has (lefts (turn_from Act w.number v) [] f.waits) x → x.number ≡ n → ⊥) → Turns start past f must n
      act_by p there none = record {
        turn = turn_from Act w.number v;
        there = there;
        value = v;
        means = inr refl;
        match = λ x ends. match_end start past n x ends (turned (turn_from Act w.number v) (bound u f)) (match_act start past (bound u f) m w has_w v acted_w p) none;
      }

    abbrev its_value : ℕ
    its_value = acted.0

    acted_o : Contains past (Effect o.number its_value)
    acted_o = subst (λ k. Contains past (Effect k its_value)) (sym is_o) acted.1

    none_hidden : (x : Waiting) → Has (lefts (turn_from Hide o.number its_value) [] f.waits) x → x.number ≡ n → ⊥
    none_hidden x h e = (hidden start past (bound u f) m o has its_value acted_o x h).1 (e ∙ sym is_o)

    none_aged : (x : Waiting) → Has (lefts (turn_from Act o.number its_value) [] f.waits) x → x.number ≡ n → ⊥
    none_aged x h e = let a = aged start past (bound u f) m o has its_value acted_o x h in a.other (ap (λ y. y.number) a.is ∙ e ∙ sym is_o)

    -- a write whose bytes were recorded
    by_own : o.writes ≡ true → (o.value ≡ unrecorded → ⊥) → o.value ≡ its_value → Settled start past (bound u f) ⊎ Pending start past (bound u f) → Turns start past f must n
    by_own w recorded is (inl s) =
        let old : o.is_old ≡ true = s.writes o has w (its_value, acted_o) in
        hide_by o has its_value acted_o s (subst (Has (turns_of must n f.waits)) (own_turn Hide o o its_value w is) (hide_there must n f.waits o found o has (own_source o w recorded) old old)) none_hidden
    by_own w recorded is (inr p) = act_by o has its_value acted_o p (subst (Has (turns_of must n f.waits)) (own_turn Act o o its_value w is) (act_there must n f.waits o found o has (own_source o w recorded))) none_aged

    -- one whose bytes were not recorded, and which a read tells or none does
    by_any : o.writes ≡ true → o.value ≡ unrecorded → Settled start past (bound u f) ⊎ Pending start past (bound u f) → Turns start past f must n
    by_any w none (inl s) =
        let old : o.is_old ≡ true = s.writes o has w (its_value, acted_o) in
        elim (some_or_none (meets Hide its_value) f.waits) [
          | inl (x, has_x, met) ↦
              let parts : (x.is_old ≡ true) × (is_met its_value x ≡ true) = and_parts x.is_old (is_met its_value x) met in
              let read : (x.writes ≡ false) × (x.value ≡ its_value) = met_read its_value x parts.1 in
              hide_by o has its_value acted_o s (subst (Has (turns_of must n f.waits)) (own_turn Hide o x its_value w read.1) (hide_there must n f.waits o found x has_x (told_source o x w none read.0) old parts.0)) none_hidden
          | inr unmet ↦
              let same : lefts (turn_from Hide o.number its_value) [] f.waits ≡ lefts (leave n) [] f.waits =
              lefts_same Hide Leave o.number its_value unrecorded (λ x. refl) f.waits (λ x h. (unmet x h, refl)) [] ∙ ap (λ k. lefts (leave k) [] f.waits) is_o in
              record {
                turn = leave n;
                there = leave_there must n f.waits o found (may_fade w none old);
                value = u;
                means = means;
                match = λ x ends. match_end start past n x ends (bound u (turned (leave n) f))
                    (subst (λ ws. IsMatch start past (record { any = false; value = u; waits = ws })) same (match_hide start past (bound u f) m o has its_value acted_o s))
                    (λ y h e. none_hidden y (subst (λ ws. Has ws y) (sym same) h) e);
              }
        ]
      where
        may_fade : o.writes ≡ true → o.value ≡ unrecorded → o.is_old ≡ true → may_leave must o ≡ true
        may_fade w none old = by (not must) (is_any_write o && o.is_old) (rw (w, eq-eqb o.value unrecorded none, old) refl)
          where
            by : (a b : Bool) → b ≡ true → a || b ≡ true
            by true b h = refl
            by false b h = h
    by_any w none (inr p) = elim (some_or_none (is_met its_value) f.waits) [
      | inl (x, has_x, met) ↦
          let read : (x.writes ≡ false) × (x.value ≡ its_value) = met_read its_value x met in
          act_by o has its_value acted_o p (subst (Has (turns_of must n f.waits)) (own_turn Act o x its_value w read.1) (act_there must n f.waits o found x has_x (told_source o x w none read.0))) none_aged
      | inr unmet ↦
          let same : lefts (turn_from Act o.number its_value) [] f.waits ≡ lefts (take_any n) [] f.waits =
          lefts_same Act Any o.number its_value unrecorded (λ x. refl) f.waits (λ x h. (unmet x h, refl)) [] ∙ ap (λ k. lefts (take_any k) [] f.waits) is_o in
          record {
            turn = take_any n;
            there = any_there must n f.waits o found (rw (w, eq-eqb o.value unrecorded none) refl);
            value = its_value;
            means = inl refl;
            match = λ x ends. match_end start past n x ends (bound its_value (turned (take_any n) f))
                (subst (λ ws. IsMatch start past (record { any = false; value = its_value; waits = ws })) same (match_act start past (bound u f) m o has its_value acted_o p))
                (λ y h e. none_aged y (subst (λ ws. Has ws y) (sym same) h) e);
          }
    ]

    -- what a write took effect with fits it
    fits : (w : Waiting) → Has f.waits w → w.writes ≡ true → (v : ℕ) → Contains past (Effect w.number v) → Fits w v
    fits w has_w writes v c = elim (m.effects.called w.number v c) [
      | inl wrote ↦ elim wrote [ inl its ↦ inl (m.kinds w has_w true v its).1 | inr its ↦ inr (m.kinds w has_w true unrecorded its).1 ]
      | inr read ↦ elim read [
        | inl its ↦ let r = (m.kinds w has_w false v its).0 in absurd (cc (r, writes))
        | inr its ↦ let r = (m.kinds w has_w false unrecorded its).0 in absurd (cc (r, writes))
      ]
    ]

    by_write : o.writes ≡ true → Settled start past (bound u f) ⊎ Pending start past (bound u f) → Turns start past f must n
    by_write w place = elim (cases_eq o.value unrecorded) [
      | inl none ↦ by_any w none place
      | inr recorded ↦ elim (fits o has w its_value acted_o) [ inl same ↦ by_own w recorded same place | inr none ↦ absurd (recorded none) ]
    ]

    by_read : o.writes ≡ false → Settled start past (bound u f) ⊎ Pending start past (bound u f) → Turns start past f must n
    by_read r (inl s) =
        let its = s.reads o has r (its_value, acted_o) in
        let src : Source past f.waits o = its.1 in
        hide_by src.write src.has o.value src.acted s
        (subst (Has (turns_of must n f.waits)) (read_turn Hide o src.write r)
        (hide_there must n f.waits o found src.write src.has (read_source o src.write r src.writes (fits src.write src.has src.writes o.value src.acted)) its.0 (s.writes src.write src.has src.writes (o.value, src.acted))))
        (λ x h e. let was = hidden start past (bound u f) m src.write src.has o.value src.acted x h in
        let is : x ≡ o = m.apart x o was.0 has (e ∙ sym is_o) in
        hide_unmet o.value o its.0 r (subst (λ y. meets Hide o.value y ≡ false) is was.2) refl)
    by_read r (inr p) =
        let src : Source past f.waits o = p.reads o has r (its_value, acted_o) in
        act_by src.write src.has o.value src.acted p
        (subst (Has (turns_of must n f.waits)) (read_turn Act o src.write r)
        (act_there must n f.waits o found src.write src.has (read_source o src.write r src.writes (fits src.write src.has src.writes o.value src.acted))))
        (λ x h e. let a = aged start past (bound u f) m src.write src.has o.value src.acted x h in
        let is : a.before ≡ o = m.apart a.before o a.has has (ap (λ y. y.number) a.is ∙ e ∙ sym is_o) in
        read_unmet o.value a.before (ap (λ y. y.writes) is ∙ r) a.unmet (ap (λ y. y.value) is))

  -- it took effect
  pub turns_acted : Turns start past f must n
  turns_acted = by (find (is_number n) f.waits) refl
    where
      by : (found : Option Waiting) → find (is_number n) f.waits ≡ found → Turns start past f must n
      by (Some o) e =
          let at : Has f.waits o × ((o.number == n) ≡ true) = found_has (is_number n) f.waits o e in
          elim (cases_Bool o.writes) [ inl w ↦ by_write o e at.0 (eqb-true o.number n at.1) w m.place | inr r ↦ by_read o e at.0 (eqb-true o.number n at.1) r m.place ]
      by None e =
          let none : (o : Waiting) → Has f.waits o → o.number ≡ n → ⊥ = λ o has is. let no' : (o.number == n) ≡ false = found_none (is_number n) f.waits o e has in let yes' : (o.number == n) ≡ true = eq-eqb o.number n is in cc (no', yes') in
          record { turn = leave n; there = leave_alone must n f.waits none; value = u; means = means; match = λ x ends. match_leave start past n x ends (bound u f) m (λ o has is h. none o has is) }

-- it took none, and need not
pub turns_free : (start : ℕ) (past : List Event) (f : Form) (u : ℕ) → Means f u → IsMatch start past (bound u f) → (n : ℕ) → All (IsNoEffect n) past → Turns start past f false n
turns_free start past f u means m n none = record {
  turn = leave n;
  there = leave_free false n f.waits refl;
  value = u;
  means = means;
  match = λ x ends. match_leave start past n x ends (bound u f) m (λ o has is h. none_and_some n past none h);
}
