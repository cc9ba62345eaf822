-- A form that a schedule may have led to: acts that it has not made may still be made.
use Rattle.std.proofs.Common.{◌≡◌, ◌⊎◌, inl, inr, ℕ, Bool, true, false, List, [], ◌∷◌, refl, sym, ◌∙◌, ap, subst, eq-eqb}
use Rattle.std.specs.Prelude.{All, Contains}
use Rattle.std.proofs.lemmas.Bool.{cases_eq}
use Rattle.std.proofs.lemmas.List.Elements.{All-head, All-tail, All-cons}
use Rattle.register.specs.declared.Sight.{Sight}
use Rattle.register.specs.declared.Sight.TheVariants.{Write, Read, Done, Failed}
use Rattle.register.specs.Schedules.{Event, Seen, Effect, value_after, IsNoEnd, IsNoEffect, unrecorded, IsWritten, IsRead, TakesEffect}
use Rattle.register_judge.specs.declared.states.Waiting.{Waiting}
use Rattle.register_judge.specs.declared.states.How.TheVariants.{Act, Hide}
use Rattle.register_judge.specs.inside.States.{Form, is_met, meets, lefts, turned, leave}
use Rattle.register_judge.proofs.Listing.{Has}
use Rattle.register_judge.proofs.Turning.{Stays, stays, stays_there, write_unmet, read_unmet, turn_from}
use Rattle.register_judge.proofs.Events.{Effects, HasEffect, behind, behind_call, behind_effect, call_of, effects_more, effects_seen, further, newest, none_and_some, which_effect}

-- WHAT MATCHES

pub record IsKnown (past : List Event) (o : Waiting) : Type 0 where
  pub called : Contains past (Seen (call_of o.writes o.number o.value))
  pub awaits : All (IsNoEnd o.number) past

-- a write took effect with the value that it reads, and waits
pub record Source (past : List Event) (os : List Waiting) (o : Waiting) : Type 0 where
  pub write : Waiting
  pub has : Has os write
  pub writes : write.writes ≡ true
  pub acted : Contains past (Effect write.number o.value)

-- what took effect and waits may have done so before the last act
pub record Settled (start : ℕ) (past : List Event) (f : Form) : Type 0 where
  pub value : value_after start past ≡ f.value
  pub writes : (o : Waiting) → Has f.waits o → o.writes ≡ true → HasEffect o.number past → o.is_old ≡ true
  pub reads : (o : Waiting) → Has f.waits o → o.writes ≡ false → HasEffect o.number past → (o.is_old ≡ true) × Source past f.waits o

-- a write that waits took effect last
pub record Pending (start : ℕ) (past : List Event) (f : Form) : Type 0 where
  pub write : Waiting
  pub has : Has f.waits write
  pub writes : write.writes ≡ true
  pub acted : Contains past (Effect write.number (value_after start past))
  pub reads : (o : Waiting) → Has f.waits o → o.writes ≡ false → HasEffect o.number past → Source past f.waits o

pub record IsMatch (start : ℕ) (past : List Event) (f : Form) : Type 0 where
  pub known : (o : Waiting) → Has f.waits o → IsKnown past o
  pub there : (n v : ℕ) → Contains past (Seen (Write n v)) → All (IsNoEnd n) past → All (IsNoEffect n) past → (o : Waiting) × Has f.waits o × (o.number ≡ n) × (o.writes ≡ true)
  pub apart : (a b : Waiting) → Has f.waits a → Has f.waits b → a.number ≡ b.number → a ≡ b
  pub kinds : (o : Waiting) → Has f.waits o → (writes : Bool) (v : ℕ) → Contains past (Seen (call_of writes o.number v)) → (o.writes ≡ writes) × (o.value ≡ v)
  pub greedy : (o : Waiting) → Has f.waits o → o.writes ≡ false → o.value ≡ f.value → ⊥
  pub told : (o : Waiting) → Has f.waits o → o.writes ≡ false → o.value ≡ unrecorded → ⊥
  pub effects : Effects past
  pub place : Settled start past f ⊎ Pending start past f

source_more : (e : Event) (past : List Event) (os : List Waiting) (o : Waiting) → Source past os o → Source (e ∷ past) os o
source_more e past os o s = record { write = s.write; has = s.has; writes = s.writes; acted = further e past (Effect s.write.number o.value) s.acted }

source_of : (start : ℕ) (past : List Event) (f : Form) → Settled start past f ⊎ Pending start past f → (o : Waiting) → Has f.waits o → o.writes ≡ false → HasEffect o.number past → Source past f.waits o
source_of start past f (inl s) o has r acted = (s.reads o has r acted).1
source_of start past f (inr p) o has r acted = p.reads o has r acted

-- AN EFFECT

module _ (start : ℕ) (past : List Event) (f : Form) (n v : ℕ) (m : IsMatch start past f) (h : TakesEffect start past n v) where
  abbrev event : Event
  event = Effect n v

  writer : IsWritten past n v → (o : Waiting) × Has f.waits o × (o.number ≡ n) × (o.writes ≡ true)
  writer (inl wrote) = m.there n v wrote h.awaits h.once
  writer (inr wrote) = m.there n unrecorded wrote h.awaits h.once

  place_written : IsWritten past n v → Settled start (event ∷ past) f ⊎ Pending start (event ∷ past) f
  place_written wrote =
      let at : (o : Waiting) × Has f.waits o × (o.number ≡ n) × (o.writes ≡ true) = writer wrote in
      let o : Waiting = at.0 in
      inr (record {
        write = o;
        has = at.1;
        writes = at.3;
        acted = subst (λ k. Contains (event ∷ past) (Effect k v)) (sym at.2) (newest event past);
        reads = λ x has r acted. elim (which_effect n x.number v past acted) [
          | inl same ↦ let is : o ≡ x = m.apart o x at.1 has (at.2 ∙ same) in let w : x.writes ≡ true = subst (λ y. y.writes ≡ true) is at.3 in absurd (cc (w, r))
          | inr before ↦ source_more event past f.waits x (source_of start past f m.place x has r before)
        ];
      })

  -- the read of this number, if it waits
  its_read : IsRead past n v → (x : Waiting) → Has f.waits x → n ≡ x.number → (x.writes ≡ false) × (x.value ≡ v)
  its_read (inl read) x has same = m.kinds x has false v (subst (λ k. Contains past (Seen (Read k v))) same read)
  its_read (inr read) x has same = let its = m.kinds x has false unrecorded (subst (λ k. Contains past (Seen (Read k unrecorded))) same read) in absurd (m.told x has its.0 its.1)

  place_read : IsRead past n v → v ≡ value_after start past → Settled start past f ⊎ Pending start past f → Settled start (event ∷ past) f ⊎ Pending start (event ∷ past) f
  place_read read same (inl s) = inl (record {
    value = same ∙ s.value;
    writes = λ x has w acted. elim (which_effect n x.number v past acted) [
      | inl e ↦ let r = its_read read x has e in absurd (cc (r.0, w))
      | inr before ↦ s.writes x has w before
    ];
    reads = λ x has r acted. elim (which_effect n x.number v past acted) [
      | inl e ↦ let its = its_read read x has e in absurd (m.greedy x has r (its.1 ∙ same ∙ s.value))
      | inr before ↦ let old = s.reads x has r before in (old.0, source_more event past f.waits x old.1)
    ];
  })
  place_read read same (inr p) = inr (record {
    write = p.write;
    has = p.has;
    writes = p.writes;
    acted = further event past (Effect p.write.number v) (subst (λ u. Contains past (Effect p.write.number u)) (sym same) p.acted);
    reads = λ x has r acted. elim (which_effect n x.number v past acted) [
      | inl e ↦ let its = its_read read x has e in record {
        write = p.write;
        has = p.has;
        writes = p.writes;
        acted = further event past (Effect p.write.number x.value) (subst (λ u. Contains past (Effect p.write.number u)) (sym same ∙ sym its.1) p.acted);
      }
      | inr before ↦ source_more event past f.waits x (p.reads x has r before)
    ];
  })

  pub match_effect : IsMatch start (event ∷ past) f
  match_effect = record {
    known = λ o has. let k = m.known o has in record { called = further event past (Seen (call_of o.writes o.number o.value)) k.called; awaits = All-cons (IsNoEnd o.number) event past tt k.awaits };
    there = λ k u c awaits none. m.there k u (behind event past (Seen (Write k u)) (λ e. cc (e)) c) (All-tail (IsNoEnd k) event past awaits) (All-tail (IsNoEffect k) event past none);
    apart = m.apart;
    kinds = λ o has writes u c. m.kinds o has writes u (behind_call n v past writes o.number u c);
    greedy = m.greedy;
    told = m.told;
    effects = effects_more start past n v h m.effects;
    place = elim h.called [ inl wrote ↦ place_written wrote | inr read ↦ place_read read.0 read.1 m.place ];
  }

-- AN END

abbrev pub IsEndOf : ℕ → Sight → Type 0
IsEndOf n (Done m) = m ≡ n
IsEndOf n (Failed m) = m ≡ n
IsEndOf n _ = ⊥

no_call : (n : ℕ) (x : Sight) → IsEndOf n x → (writes : Bool) (m u : ℕ) → Seen x ≡ Seen (call_of writes m u) → ⊥
no_call n (Done k) h true m u e = cc (e)
no_call n (Done k) h false m u e = cc (e)
no_call n (Failed k) h true m u e = cc (e)
no_call n (Failed k) h false m u e = cc (e)
no_call n (Write k v) h writes m u e = h
no_call n (Read k v) h writes m u e = h

pub quiet : (n : ℕ) (x : Sight) → IsEndOf n x → (m : ℕ) → (m ≡ n → ⊥) → IsNoEnd m (Seen x)
quiet n (Done k) h m other = λ e. other (sym e ∙ h)
quiet n (Failed k) h m other = λ e. other (sym e ∙ h)
quiet n (Write k v) h m other = absurd h
quiet n (Read k v) h m other = absurd h

loud : (n : ℕ) (x : Sight) → IsEndOf n x → (m : ℕ) → IsNoEnd m (Seen x) → m ≡ n → ⊥
loud n (Done k) h m none e = none (h ∙ sym e)
loud n (Failed k) h m none e = none (h ∙ sym e)
loud n (Write k v) h m none e = h
loud n (Read k v) h m none e = h

module _ (start : ℕ) (past : List Event) (n : ℕ) (x : Sight) (ends : IsEndOf n x) where
  -- what waits is no more that operation
  pub match_end : (f : Form) → IsMatch start past f → ((o : Waiting) → Has f.waits o → o.number ≡ n → ⊥) → IsMatch start (Seen x ∷ past) f
  match_end f m none = record {
    known = λ o has. let k = m.known o has in record {
      called = further (Seen x) past (Seen (call_of o.writes o.number o.value)) k.called;
      awaits = All-cons (IsNoEnd o.number) (Seen x) past (quiet n x ends o.number (none o has)) k.awaits;
    };
    there = λ k u c awaits fresh. m.there k u (behind (Seen x) past (Seen (Write k u)) (no_call n x ends true k u) c) (All-tail (IsNoEnd k) (Seen x) past awaits) (All-tail (IsNoEffect k) (Seen x) past fresh);
    apart = m.apart;
    kinds = λ o has writes u c. m.kinds o has writes u (behind (Seen x) past (Seen (call_of writes o.number u)) (no_call n x ends writes o.number u) c);
    greedy = m.greedy;
    told = m.told;
    effects = effects_seen x past m.effects;
    place = elim m.place [
      | inl s ↦ inl (record {
        value = s.value;
        writes = λ o has w acted. s.writes o has w (behind_effect o.number x past acted);
        reads = λ o has r acted. let old = s.reads o has r (behind_effect o.number x past acted) in (old.0, source_more (Seen x) past f.waits o old.1);
      })
      | inr p ↦ inr (record {
        write = p.write;
        has = p.has;
        writes = p.writes;
        acted = further (Seen x) past (Effect p.write.number (value_after start past)) p.acted;
        reads = λ o has r acted. source_more (Seen x) past f.waits o (p.reads o has r (behind_effect o.number x past acted));
      })
    ];
  }

  module _ (f : Form) (m : IsMatch start past f) (idle : (o : Waiting) → Has f.waits o → o.number ≡ n → HasEffect n past → ⊥) where
    stood : (o' : Waiting) → Has (lefts (leave n) [] f.waits) o' → Has f.waits o' × (o'.number ≡ n → ⊥)
    stood o' h = let s : Stays (leave n) f.waits o' = stays (leave n) f.waits o' h in subst (λ y. Has f.waits y × (y.number ≡ n → ⊥)) s.is (s.has, s.other)

    stands : (o : Waiting) → Has f.waits o → (o.number ≡ n → ⊥) → Has (lefts (leave n) [] f.waits) o
    stands o has other = stays_there (leave n) f.waits o has other refl

    kept_source : (o : Waiting) → Source past f.waits o → Source (Seen x ∷ past) (lefts (leave n) [] f.waits) o
    kept_source o s = record {
      write = s.write;
      has = stands s.write s.has (λ e. idle s.write s.has e (subst (λ k. HasEffect k past) e (o.value, s.acted)));
      writes = s.writes;
      acted = further (Seen x) past (Effect s.write.number o.value) s.acted;
    }

    -- what took no effect leaves
    pub match_leave : IsMatch start (Seen x ∷ past) (turned (leave n) f)
    match_leave = record {
      known = λ o has. let b = stood o has in let k = m.known o b.0 in record {
        called = further (Seen x) past (Seen (call_of o.writes o.number o.value)) k.called;
        awaits = All-cons (IsNoEnd o.number) (Seen x) past (quiet n x ends o.number b.1) k.awaits;
      };
      there = λ k u c awaits fresh.
          let at : (o : Waiting) × Has f.waits o × (o.number ≡ k) × (o.writes ≡ true) =
          m.there k u (behind (Seen x) past (Seen (Write k u)) (no_call n x ends true k u) c) (All-tail (IsNoEnd k) (Seen x) past awaits) (All-tail (IsNoEffect k) (Seen x) past fresh) in
          (at.0, stands at.0 at.1 (λ e. loud n x ends k (All-head (IsNoEnd k) (Seen x) past awaits) (sym at.2 ∙ e)), at.2, at.3);
      apart = λ a b has_a has_b e. m.apart a b (stood a has_a).0 (stood b has_b).0 e;
      kinds = λ o has writes u c. m.kinds o (stood o has).0 writes u (behind (Seen x) past (Seen (call_of writes o.number u)) (no_call n x ends writes o.number u) c);
      greedy = λ o has r e. m.greedy o (stood o has).0 r e;
      told = λ o has r e. m.told o (stood o has).0 r e;
      effects = effects_seen x past m.effects;
      place = elim m.place [
        | inl s ↦ inl (record {
          value = s.value;
          writes = λ o has w acted. s.writes o (stood o has).0 w (behind_effect o.number x past acted);
          reads = λ o has r acted. let old = s.reads o (stood o has).0 r (behind_effect o.number x past acted) in (old.0, kept_source o old.1);
        })
        | inr p ↦ inr (record {
          write = p.write;
          has = stands p.write p.has (λ e. idle p.write p.has e (subst (λ k. HasEffect k past) e (value_after start past, p.acted)));
          writes = p.writes;
          acted = further (Seen x) past (Effect p.write.number (value_after start past)) p.acted;
          reads = λ o has r acted. kept_source o (p.reads o (stood o has).0 r (behind_effect o.number x past acted));
        })
      ];
    }

-- A TURN OF A WRITE

pub hide_unmet : (value : ℕ) (o : Waiting) → o.is_old ≡ true → o.writes ≡ false → meets Hide value o ≡ false → o.value ≡ value → ⊥
hide_unmet value o old r unmet same = cc (met, unmet)
  where
    met : meets Hide value o ≡ true
    met = rw (old, r, eq-eqb o.value value same) refl

module _ (start : ℕ) (past : List Event) (f : Form) (m : IsMatch start past f) (w : Waiting) (has_w : Has f.waits w) (v : ℕ) (acted_w : Contains past (Effect w.number v)) where
  -- a fresh write is another
  fresh_other : (o : Waiting) (k : ℕ) → o.number ≡ k → All (IsNoEffect k) past → o.number ≡ w.number → ⊥
  fresh_other o k is fresh e = none_and_some k past fresh (subst (λ j. HasEffect j past) (sym e ∙ is) (v, acted_w))

  -- a write that took effect with another value is another
  value_other : (o : Waiting) (u : ℕ) → Contains past (Effect o.number u) → o.number ≡ w.number → u ≡ v
  value_other o u acted e = m.effects.single w.number u v (subst (λ k. Contains past (Effect k u)) e acted) acted_w

  pub hidden : (o' : Waiting) → Has (lefts (turn_from Hide w.number v) [] f.waits) o' → Has f.waits o' × (o'.number ≡ w.number → ⊥) × (meets Hide v o' ≡ false)
  hidden o' h = let s : Stays (turn_from Hide w.number v) f.waits o' = stays (turn_from Hide w.number v) f.waits o' h in
      subst (λ y. Has f.waits y × (y.number ≡ w.number → ⊥) × (meets Hide v y ≡ false)) s.is (s.has, s.other, s.unmet)

  stands_hidden : (o : Waiting) → Has f.waits o → o.writes ≡ true → (o.number ≡ w.number → ⊥) → Has (lefts (turn_from Hide w.number v) [] f.waits) o
  stands_hidden o has writes other = stays_there (turn_from Hide w.number v) f.waits o has other (write_unmet Hide v o writes)

  pub match_hide : Settled start past f → IsMatch start past (turned (turn_from Hide w.number v) f)
  match_hide s = record {
    known = λ o has. m.known o (hidden o has).0;
    there = λ k u c awaits fresh.
        let at : (o : Waiting) × Has f.waits o × (o.number ≡ k) × (o.writes ≡ true) = m.there k u c awaits fresh in
        (at.0, stands_hidden at.0 at.1 at.3 (fresh_other at.0 k at.2 fresh), at.2, at.3);
    apart = λ a b has_a has_b e. m.apart a b (hidden a has_a).0 (hidden b has_b).0 e;
    kinds = λ o has writes u c. m.kinds o (hidden o has).0 writes u c;
    greedy = λ o has r e. m.greedy o (hidden o has).0 r e;
    told = λ o has r e. m.told o (hidden o has).0 r e;
    effects = m.effects;
    place = inl (record {
      value = s.value;
      writes = λ o has writes acted. s.writes o (hidden o has).0 writes acted;
      reads = λ o has r acted.
          let was = hidden o has in
          let old = s.reads o was.0 r acted in
          let src : Source past f.waits o = old.1 in (
            old.0,
            record {
              write = src.write;
              has = stands_hidden src.write src.has src.writes (λ e. hide_unmet v o old.0 r was.2 (value_other src.write o.value src.acted e));
              writes = src.writes;
              acted = src.acted;
            },
          );
    });
  }

  -- what stays beside an act, aged
  pub record Aged (o' : Waiting) : Type 0 where
    pub before : Waiting
    pub has : Has f.waits before
    pub other : before.number ≡ w.number → ⊥
    pub unmet : is_met v before ≡ false
    pub is : record before { is_old = true } ≡ o'

  pub aged : (o' : Waiting) → Has (lefts (turn_from Act w.number v) [] f.waits) o' → Aged o'
  aged o' h = let s : Stays (turn_from Act w.number v) f.waits o' = stays (turn_from Act w.number v) f.waits o' h in record { before = s.before; has = s.has; other = s.other; unmet = s.unmet; is = s.is }

  stands_aged : (o : Waiting) → Has f.waits o → o.writes ≡ true → (o.number ≡ w.number → ⊥) → Has (lefts (turn_from Act w.number v) [] f.waits) (record o { is_old = true })
  stands_aged o has writes other = stays_there (turn_from Act w.number v) f.waits o has other (write_unmet Act v o writes)

  aged_source : (o' : Waiting) (a : Aged o') → a.before.writes ≡ false → Source past f.waits a.before → Source past (lefts (turn_from Act w.number v) [] f.waits) o'
  aged_source o' a r src = record {
    write = record (src.write) { is_old = true };
    has = stands_aged src.write src.has src.writes (λ e. read_unmet v a.before r a.unmet (value_other src.write a.before.value src.acted e));
    writes = src.writes;
    acted = subst (λ u. Contains past (Effect src.write.number u)) (ap (λ y. y.value) a.is) src.acted;
  }

  pub match_act : Pending start past f → IsMatch start past (turned (turn_from Act w.number v) f)
  match_act p = record {
    known = λ o has. let a = aged o has in let k = m.known a.before a.has in subst (IsKnown past) a.is (record { called = k.called; awaits = k.awaits });
    there = λ k u c awaits fresh.
        let at : (o : Waiting) × Has f.waits o × (o.number ≡ k) × (o.writes ≡ true) = m.there k u c awaits fresh in
        (record (at.0) { is_old = true }, stands_aged at.0 at.1 at.3 (fresh_other at.0 k at.2 fresh), at.2, at.3);
    apart = λ a b has_a has_b e.
        let x = aged a has_a in let y = aged b has_b in
        let same : x.before ≡ y.before = m.apart x.before y.before x.has y.has (ap (λ o. o.number) x.is ∙ e ∙ sym (ap (λ o. o.number) y.is)) in
        sym x.is ∙ ap (λ (o : Waiting). record o { is_old = true }) same ∙ y.is;
    kinds = λ o has writes u c.
        let a = aged o has in
        let its = m.kinds a.before a.has writes u (subst (λ j. Contains past (Seen (call_of writes j u))) (sym (ap (λ y. y.number) a.is)) c) in
        (sym (ap (λ y. y.writes) a.is) ∙ its.0, sym (ap (λ y. y.value) a.is) ∙ its.1);
    told = λ o has r e. let a = aged o has in m.told a.before a.has (ap (λ y. y.writes) a.is ∙ r) (ap (λ y. y.value) a.is ∙ e);
    effects = m.effects;
    greedy = λ o has r e. let a = aged o has in read_unmet v a.before (ap (λ y. y.writes) a.is ∙ r) a.unmet (ap (λ y. y.value) a.is ∙ e);
    place = elim (cases_eq p.write.number w.number) [
      | inl e ↦ inl (record {
        value = value_other p.write (value_after start past) p.acted e;
        writes = λ o has writes acted. let a = aged o has in sym (ap (λ y. y.is_old) a.is);
        reads = λ o has r acted. let a = aged o has in (sym (ap (λ y. y.is_old) a.is), source o has r acted);
      })
      | inr other ↦ inr (record {
        write = record (p.write) { is_old = true };
        has = stands_aged p.write p.has p.writes other;
        writes = p.writes;
        acted = p.acted;
        reads = source;
      })
    ];
  }
    where
      source : (o : Waiting) → Has (lefts (turn_from Act w.number v) [] f.waits) o → o.writes ≡ false → HasEffect o.number past → Source past (lefts (turn_from Act w.number v) [] f.waits) o
      source o has r acted =
          let a = aged o has in
          let r' : a.before.writes ≡ false = ap (λ y. y.writes) a.is ∙ r in
          aged_source o a r' (p.reads a.before a.has r' (subst (λ k. HasEffect k past) (sym (ap (λ y. y.number) a.is)) acted))
