-- What a sight makes of a form that is after some schedule is after one, too.
use Rattle.std.proofs.Common.{◌≡◌, ◌<◌, ◌≤◌, ◌⊎◌, inl, inr, ℕ, Bool, true, false, List, [], ◌∷◌, ◌++◌, Some, refl, sym, ◌∙◌, ap, subst, arith}
use Rattle.std.specs.Prelude.{All, Contains}
use Rattle.std.proofs.lemmas.Bool.{cases_Bool}
use Rattle.std.proofs.lemmas.List.Elements.{All-cons, All-weaker}
use Rattle.register.specs.declared.Sight.{Sight}
use Rattle.register.specs.declared.Sight.TheVariants.{Write, Read, Done, Failed}
use Rattle.register.specs.Schedules.{Event, Seen, Effect, seen_of, IsNoEnd, IsNoEffect, unrecorded, May}
use Rattle.register_judge.specs.declared.states.Waiting.{Waiting}
use Rattle.register_judge.specs.declared.states.Turn.{Turn}
use Rattle.register_judge.specs.declared.states.How.TheVariants.{Act, Hide}
use Rattle.register_judge.specs.inside.States.{Form, Means, lefts, turned, turns_of, leave, take_any, called, bound, bound_of}
use Rattle.register_judge.proofs.Listing.{Has, has_left, has_new, has_last}
use Rattle.register_judge.proofs.Turning.{Stays, stays, turn_from, Comes, Leaves, Untold, turns_from, read_unmet, any_parts}
use Rattle.register_judge.proofs.Bounding.{met_or_waits, called_met, called_waits, bound_from}
use Rattle.register_judge.proofs.Events.{IsAtMost, HasEffect, call_of, further, newest}
use Rattle.register_judge.proofs.Matching.{hide_unmet, IsEndOf}
use Rattle.register_judge.proofs.Calling.{call_low, no_end_above, no_effect_above, call_quiet, at_most_call, at_most_more}
use Rattle.register_judge.proofs.Reaching.{IsFresh, IsReal, may_read}
use Rattle.register_judge.proofs.Standing.{fewer, stands_leave, stands_end}
use Rattle.register_judge.proofs.Acting.{Reached, reached_act, reached_any, reached_hide, reached_fade}

-- each form is that after some schedule, with each value that it means
abbrev pub AreReal : (start last : ℕ) (numbers : List ℕ) (sights : List Sight) → List Form → Type 0
AreReal start last numbers sights forms = (f : Form) → Has forms f → (u : ℕ) → Means f u → IsReal start last numbers sights (bound u f)

pub may_end : (start n : ℕ) (past : List Event) (x : Sight) → IsEndOf n x → HasEffect n past → May start past (Seen x)
may_end start n past (Done k) e h = (h.0, subst (λ j. Contains past (Effect j h.0)) (sym e) h.1)
may_end start n past (Failed k) e h = tt
may_end start n past (Write k v) e h = absurd e
may_end start n past (Read k v) e h = absurd e

pub may_call : (start : ℕ) (past : List Event) (writes : Bool) (n v : ℕ) → May start past (Seen (call_of writes n v))
may_call start past true n v = tt
may_call start past false n v = tt

pub seen_end : (past : List Event) (sights : List Sight) (x : Sight) → seen_of past ≡ sights → seen_of (Seen x ∷ past) ≡ sights ++ x ∷ []
seen_end past sights x e = ap (λ xs. xs ++ x ∷ []) e

module _ (start last : ℕ) (numbers numbers' : List ℕ) (sights : List Sight) (f : Form) (n : ℕ) (must : Bool) (x : Sight) (ends : IsEndOf n x)
    (may : must ≡ false → (past : List Event) → May start past (Seen x)) (has_n : Has numbers n) (low : n ≤ last) (less : (k : ℕ) → Has numbers' k → Has numbers k × (k ≡ n → ⊥)) where
  module _ (u : ℕ) (r : IsReal start last numbers sights (bound u f)) where
    abbrev past : List Event
    past = r.events

    -- what is left of a turn that has acted has no such number
    real_after : (g : Form) → Reached start last numbers past g → ((o : Waiting) → Has g.waits o → o.number ≡ n → ⊥) → IsReal start last numbers' (sights ++ x ∷ []) g
    real_after g at none = record {
      events = Seen x ∷ at.events;
      seen = seen_end at.events sights x (at.seen ∙ r.seen);
      stands = fewer start last numbers numbers' (Seen x ∷ at.events) g (λ k h. (less k h).0)
          (stands_end start last numbers at.events g at.stands n x ends (may_end start n at.events x ends (at.stands.acted n has_n none)) low none);
    }

    real_act : (t : Turn) (c : Comes n f.waits Act t) → IsReal start last numbers' (sights ++ x ∷ []) (bound c.told (turned (turn_from Act c.write.number c.told) f))
    real_act t c = real_after (bound c.told (turned (turn_from Act c.write.number c.told) f)) (reached_act start last numbers past (bound u f) r.stands c.write c.has_write c.writes c.told c.fits) none
      where
        none : (o : Waiting) → Has (lefts (turn_from Act c.write.number c.told) [] f.waits) o → o.number ≡ n → ⊥
        none o h e =
            let s : Stays (turn_from Act c.write.number c.told) f.waits o = stays (turn_from Act c.write.number c.told) f.waits o h in
            let number : s.before.number ≡ n = ap (λ (y : Waiting). y.number) s.is ∙ e in
            elim c.own [
              | inl own ↦ s.other (number ∙ sym c.is_of ∙ own)
              | inr read ↦ let is : s.before ≡ c.of = r.stands.apart s.before c.of s.has c.has_of (number ∙ sym c.is_of) in
                  read_unmet c.told s.before (ap (λ (y : Waiting). y.writes) is ∙ read.0) s.unmet (ap (λ (y : Waiting). y.value) is ∙ read.1)
            ]

    real_hide : (t : Turn) (c : Comes n f.waits Hide t) → IsReal start last numbers' (sights ++ x ∷ []) (bound u (turned (turn_from Hide c.write.number c.told) f))
    real_hide t c = elim r.stands.room [
      | inl no_old ↦ absurd (no_old c.write c.has_write (c.olds refl).1)
      | inr split ↦ real_after (bound u (turned (turn_from Hide c.write.number c.told) f)) (reached_hide start last numbers past (bound u f) r.stands c.write c.has_write c.writes c.told c.fits (c.olds refl).1 split) none
    ]
      where
        none : (o : Waiting) → Has (lefts (turn_from Hide c.write.number c.told) [] f.waits) o → o.number ≡ n → ⊥
        none o h e =
            let s : Stays (turn_from Hide c.write.number c.told) f.waits o = stays (turn_from Hide c.write.number c.told) f.waits o h in
            let number : s.before.number ≡ n = ap (λ (y : Waiting). y.number) s.is ∙ e in
            elim c.own [
              | inl own ↦ s.other (number ∙ sym c.is_of ∙ own)
              | inr read ↦ let is : s.before ≡ c.of = r.stands.apart s.before c.of s.has c.has_of (number ∙ sym c.is_of) in
                  hide_unmet c.told s.before (ap (λ (y : Waiting). y.is_old) is ∙ (c.olds refl).0) (ap (λ (y : Waiting). y.writes) is ∙ read.0) s.unmet (ap (λ (y : Waiting). y.value) is ∙ read.1)
            ]

    left_none : (o : Waiting) → Has (lefts (leave n) [] f.waits) o → o.number ≡ n → ⊥
    left_none o h e = let s : Stays (leave n) f.waits o = stays (leave n) f.waits o h in s.other (ap (λ (y : Waiting). y.number) s.is ∙ e)

    real_leave : (t : Turn) → Leaves must n f.waits t → IsReal start last numbers' (sights ++ x ∷ []) (bound u (turned (leave n) f))
    real_leave t l = record {
      events = Seen x ∷ past;
      seen = seen_end past sights x r.seen;
      stands = stands_end start last numbers' past (bound u (turned (leave n) f)) (stands_leave start last numbers past (bound u f) r.stands n numbers' less) n x ends may' low left_none;
    }
      where
        may' : May start past (Seen x)
        may' = elim (cases_Bool must) [
          | inl need ↦ may_end start n past x ends (r.stands.acted n has_n (l.may need))
          | inr free ↦ may free past
        ]

    real_any : (t : Turn) → Untold n f.waits t → (v : ℕ) → IsReal start last numbers' (sights ++ x ∷ []) (bound v (turned (take_any n) f))
    real_any t c v =
        let parts : (c.of.writes ≡ true) × (c.of.value ≡ unrecorded) = any_parts c.of c.any in
        real_after (bound v (turned (take_any n) f))
        (subst (λ k. Reached start last numbers past (bound v (turned (take_any k) f))) c.is_of (reached_any start last numbers past (bound u f) r.stands c.of c.has parts.0 v (inr parts.1))) none
      where
        none : (o : Waiting) → Has (lefts (take_any n) [] f.waits) o → o.number ≡ n → ⊥
        none o h e = let s : Stays (take_any n) f.waits o = stays (take_any n) f.waits o h in s.other (ap (λ (y : Waiting). y.number) s.is ∙ e)

    real_fade : (t : Turn) (c : Untold n f.waits t) → c.of.is_old ≡ true → IsReal start last numbers' (sights ++ x ∷ []) (bound u (turned (leave n) f))
    real_fade t c old =
        let parts : (c.of.writes ≡ true) × (c.of.value ≡ unrecorded) = any_parts c.of c.any in
        elim r.stands.room [
          | inl no_old ↦ absurd (no_old c.of c.has old)
          | inr split ↦ real_after (bound u (turned (leave n) f))
              (subst (λ k. Reached start last numbers past (bound u (turned (leave k) f))) c.is_of (reached_fade start last numbers past (bound u f) r.stands c.of c.has parts.0 u (inr parts.1) old split)) left_none
        ]

  module _ (rs : (u : ℕ) → Means f u → IsReal start last numbers sights (bound u f)) where
    some_real : IsReal start last numbers sights (bound f.value f)
    some_real = rs f.value (inr refl)

    pub real_turn : (t : Turn) → Has (turns_of must n f.waits) t → (v : ℕ) → Means (turned t f) v → IsReal start last numbers' (sights ++ x ∷ []) (bound v (turned t f))
    real_turn t h v means = elim (turns_from must n f.waits some_real.stands.apart t h) [
      | inl c ↦ by_act c
      | inr rest ↦ elim rest [
        | inl c ↦ by_hide c
        | inr rest' ↦ elim rest' [ inl l ↦ by_leave l.is (λ w. real_leave v w t l) | inr c ↦ elim c.is [ inl is ↦ by_any c is | inr is ↦ by_leave is.0 (λ w. real_fade v w t c is.1) ] ]
      ]
    ]
      where
        by_act : Comes n f.waits Act t → IsReal start last numbers' (sights ++ x ∷ []) (bound v (turned t f))
        by_act c = by t c.is means (real_act f.value some_real t c)
          where
            by : (t : Turn) → t ≡ turn_from Act c.write.number c.told → Means (turned t f) v → IsReal start last numbers' (sights ++ x ∷ []) (bound c.told (turned (turn_from Act c.write.number c.told) f)) → IsReal start last numbers' (sights ++ x ∷ []) (bound v (turned t f))
            by t is means real =
                let means' : Means (turned (turn_from Act c.write.number c.told) f) v = subst (λ u. Means (turned u f) v) is means in
                subst (λ u. IsReal start last numbers' (sights ++ x ∷ []) (bound v (turned u f))) (sym is)
                (elim means' [ inl none ↦ absurd (cc (none)) | inr same ↦ subst (λ u. IsReal start last numbers' (sights ++ x ∷ []) (bound u (turned (turn_from Act c.write.number c.told) f))) same real ])

        by_hide : Comes n f.waits Hide t → IsReal start last numbers' (sights ++ x ∷ []) (bound v (turned t f))
        by_hide c =
            let means' : Means f v = subst (λ u. Means (turned u f) v) c.is means in
            subst (λ u. IsReal start last numbers' (sights ++ x ∷ []) (bound v (turned u f))) (sym c.is) (real_hide v (rs v means') t c)

        by_leave : t ≡ leave n → (IsReal start last numbers sights (bound v f) → IsReal start last numbers' (sights ++ x ∷ []) (bound v (turned (leave n) f))) → IsReal start last numbers' (sights ++ x ∷ []) (bound v (turned t f))
        by_leave is real =
            let means' : Means f v = subst (λ u. Means (turned u f) v) is means in
            subst (λ u. IsReal start last numbers' (sights ++ x ∷ []) (bound v (turned u f))) (sym is) (real (rs v means'))

        by_any : Untold n f.waits t → t ≡ take_any n → IsReal start last numbers' (sights ++ x ∷ []) (bound v (turned t f))
        by_any c is = subst (λ u. IsReal start last numbers' (sights ++ x ∷ []) (bound v (turned u f))) (sym is) (real_any f.value some_real t c v)

module _ (start last : ℕ) (numbers : List ℕ) (sights : List Sight) (f : Form) (r : IsReal start last numbers sights f) (o : Waiting) (newer : last < o.number) (new_o : o.is_old ≡ false) where
  abbrev sight : Sight
  sight = call_of o.writes o.number o.value

  abbrev before : List Event
  before = r.events

  apart_from : (x : Waiting) → Has f.waits x → o.number ≡ x.number → ⊥
  apart_from x h e = let low : x.number ≤ last = call_low last before r.stands.below x.writes x.number x.value (r.stands.fresh x h).called in over low e
    where
      over : x.number ≤ last → o.number ≡ x.number → ⊥
      over a b = let newer' = newer in absurd (omega arith)

  fresh_more : (x : Waiting) → Has f.waits x → IsFresh (Seen sight ∷ before) x
  fresh_more x h = let k = r.stands.fresh x h in record {
    called = further (Seen sight) before (Seen (call_of x.writes x.number x.value)) k.called;
    awaits = All-cons (IsNoEnd x.number) (Seen sight) before (call_quiet o.writes o.number o.value x.number) k.awaits;
    none = All-cons (IsNoEffect x.number) (Seen sight) before tt k.none;
  }

  fresh_own : IsFresh (Seen sight ∷ before) o
  fresh_own = record {
    called = newest (Seen sight) before;
    awaits = All-cons (IsNoEnd o.number) (Seen sight) before (call_quiet o.writes o.number o.value o.number) (All-weaker (IsAtMost last) (IsNoEnd o.number) (no_end_above o.number last newer) before r.stands.below);
    none = All-cons (IsNoEffect o.number) (Seen sight) before tt (All-weaker (IsAtMost last) (IsNoEffect o.number) (no_effect_above o.number last newer) before r.stands.below);
  }

  below_more : All (IsAtMost o.number) (Seen sight ∷ before)
  below_more = All-cons (IsAtMost o.number) (Seen sight) before (at_most_call o.writes o.number o.value) (All-weaker (IsAtMost last) (IsAtMost o.number) (at_most_more o.number last newer) before r.stands.below)

  real_pushed : IsReal start o.number (numbers ++ o.number ∷ []) (sights ++ sight ∷ []) (record f { waits = f.waits ++ o ∷ [] })
  real_pushed = record {
    events = Seen sight ∷ before;
    seen = seen_end before sights sight r.seen;
    stands = record {
      in_turn = (may_call start before o.writes o.number o.value, r.stands.in_turn);
      value = r.stands.value;
      fresh = λ x h. elim (has_last f.waits o x h) [ inl old ↦ fresh_more x old | inr is ↦ subst (IsFresh (Seen sight ∷ before)) is fresh_own ];
      apart = λ a b has_a has_b e. elim (has_last f.waits o a has_a) [
        | inl old_a ↦ elim (has_last f.waits o b has_b) [
          | inl old_b ↦ r.stands.apart a b old_a old_b e
          | inr is_b ↦ absurd (apart_from a old_a (ap (λ (y : Waiting). y.number) is_b ∙ sym e))
        ]
        | inr is_a ↦ elim (has_last f.waits o b has_b) [
          | inl old_b ↦ absurd (apart_from b old_b (ap (λ (y : Waiting). y.number) is_a ∙ e))
          | inr is_b ↦ sym is_a ∙ is_b
        ]
      ];
      acted = λ k h none. elim (has_last numbers o.number k h) [
        | inl old ↦ let e = r.stands.acted k old (λ x has same. none x (has_left f.waits (o ∷ []) x has) same) in (e.0, further (Seen sight) before (Effect k e.0) e.1)
        | inr is ↦ absurd (none o (has_new f.waits o) is)
      ];
      room = elim r.stands.room [
        | inl no_old ↦ inl (λ x h old. elim (has_last f.waits o x h) [ inl there ↦ no_old x there old | inr is ↦ let old' : o.is_old ≡ true = ap (λ (y : Waiting). y.is_old) is ∙ old in cc (old', new_o) ])
        | inr split ↦ inr (record {
          late = Seen sight ∷ split.late;
          early = split.early;
          number = split.number;
          value = split.value;
          is = ap (λ p. Seen sight ∷ p) split.is;
          written = split.written;
          olds = λ x h old. elim (has_last f.waits o x h) [ inl there ↦ split.olds x there old | inr is ↦ let old' : o.is_old ≡ true = ap (λ (y : Waiting). y.is_old) is ∙ old in absurd (cc (old', new_o)) ];
        })
      ];
      below = below_more;
    };
  }

  abbrev event : Event
  event = Effect o.number f.value

  real_met : o.writes ≡ false → (o.value ≡ f.value) ⊎ (o.value ≡ unrecorded) → IsReal start o.number (numbers ++ o.number ∷ []) (sights ++ sight ∷ []) f
  real_met reads same = record {
    events = event ∷ Seen sight ∷ before;
    seen = seen_end before sights sight r.seen;
    stands = record {
      in_turn = (
        record { called = inr (may_read o (Seen sight ∷ before) f.value reads same fresh_own.called, sym r.stands.value); awaits = fresh_own.awaits; once = fresh_own.none },
        (may_call start before o.writes o.number o.value, r.stands.in_turn),
      );
      value = refl;
      fresh = λ x h. let k = fresh_more x h in record {
        called = further event (Seen sight ∷ before) (Seen (call_of x.writes x.number x.value)) k.called;
        awaits = All-cons (IsNoEnd x.number) event (Seen sight ∷ before) tt k.awaits;
        none = All-cons (IsNoEffect x.number) event (Seen sight ∷ before) (apart_from x h) k.none;
      };
      apart = r.stands.apart;
      acted = λ k h none. elim (has_last numbers o.number k h) [
        | inl old ↦ let e = r.stands.acted k old none in (e.0, further event (Seen sight ∷ before) (Effect k e.0) (further (Seen sight) before (Effect k e.0) e.1))
        | inr is ↦ (f.value, subst (λ j. Contains (event ∷ Seen sight ∷ before) (Effect j f.value)) is (newest event (Seen sight ∷ before)))
      ];
      room = elim r.stands.room [
        | inl no_old ↦ inl no_old
        | inr split ↦ inr (record {
          late = event ∷ Seen sight ∷ split.late;
          early = split.early;
          number = split.number;
          value = split.value;
          is = ap (λ p. event ∷ Seen sight ∷ p) split.is;
          written = split.written;
          olds = split.olds;
        })
      ];
      below = All-cons (IsAtMost o.number) event (Seen sight ∷ before) (omega arith) below_more;
    };
  }

module _ (start last : ℕ) (numbers : List ℕ) (sights : List Sight) (f : Form) (rs : (u : ℕ) → Means f u → IsReal start last numbers sights (bound u f)) (o : Waiting) (newer : last < o.number) (new_o : o.is_old ≡ false) where
  abbrev Real : Form → Type 0
  Real g = IsReal start o.number (numbers ++ o.number ∷ []) (sights ++ call_of o.writes o.number o.value ∷ []) g

  real_called : (u : ℕ) → Means (called o f) u → Real (bound u (called o f))
  real_called u means = elim (met_or_waits f o) [
    | inl (is, its) ↦
        subst (λ g. Real (bound u g)) (sym (called_met f o is))
        (let means' : Means f u = subst (λ g. Means g u) (called_met f o is) means in real_met start last numbers sights (bound u f) (rs u means') o newer new_o its.reads (elim its.why [
          | inl none ↦ inr none
          | inr same ↦ elim means' [ inl any ↦ let one = same.0 in absurd (cc (any, one)) | inr has ↦ inl (same.1 ∙ has) ]
        ]))
    | inr (is, its) ↦
        subst (λ g. Real (bound u g)) (sym (called_waits f o is)) (real_pushed start last numbers sights (bound u f) (rs u (subst (λ g. Means g u) (called_waits f o is) means)) o newer new_o)
  ]

  pub real_call : (g : Form) → (called o f ≡ g) ⊎ (bound_of o f ≡ Some g) → (u : ℕ) → Means g u → Real (bound u g)
  real_call g (inl is) u means = subst (λ h. Real (bound u h)) is (real_called u (subst (λ h. Means h u) (sym is) means))
  real_call g (inr is) u means =
      let b = bound_from f o g is in
      subst (λ h. Real (bound u h)) b.is
      (elim (subst (λ h. Means h u) (sym b.is) means) [
        | inl none ↦ absurd (cc (none))
        | inr same ↦ real_met start last numbers sights (bound u f) (rs u (inl b.any)) o newer new_o b.reads (inl same)
      ])
