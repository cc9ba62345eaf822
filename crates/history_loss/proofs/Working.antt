-- The schedules by hand.
use Rattle.std.proofs.Common.{◌≡◌, ◌<◌, inl, inr, ℕ, zero, suc, List, [], ◌∷◌, refl, sym, ◌∙◌, ap, subst, arith}
use Rattle.std.specs.Prelude.{All, Contains}
use Rattle.std.proofs.lemmas.List.Elements.{All-nil, All-cons, All-head}
use Rattle.ntstatus.specs.declared.NtStatus.TheVariants.{Success}
use Rattle.machine.specs.declared.ClientRequest.{ClientRequest}
use Rattle.machine.specs.declared.Label.TheVariants.{Call, Answer}
use Rattle.machine.specs.Rules.{place_count}
use Rattle.machine_laws.specs.Sectors.{part_of}
use Rattle.loss.specs.Laws.{value_for}
use Rattle.loss.specs.Held.{Held, IsOneOf, surely}
use Rattle.loss.specs.Sessions.{Told}
use Rattle.loss.specs.Worked.{old, one, two, start}
use Rattle.history_loss.specs.Schedules.{Event, Seen, Effect, Fails, IsAt, IsIdle, IsNoAnswer, IsNoEffect, IsNoFailure, IsOpen, Takes, Carries, answered}
use Rattle.history_loss.specs.Worked.{AreChangedByHand, AreScheduledByHand, AreRefutedByHand, flush, read, small, write, written}

pub by_hand : AreChangedByHand
by_hand = record {
  effect = refl;
  elsewhere = refl;
  secured = refl;
  read_only = refl;
  failure = refl;
  failure_elsewhere = refl;
  doubt = refl;
  flush_doubt = refl;
  flushed = refl;
  flushed_early = refl;
  unflushed = refl;
  second = refl;
  share = refl;
}

-- THAT ARE SCHEDULES

newly_open : (q : ClientRequest) → IsOpen (Seen (Told (Call 1 q)) ∷ []) 1 q
newly_open q = record { called = (0, omega arith, refl); awaits = All-cons (IsNoAnswer 1) (Seen (Told (Call 1 q))) [] tt (All-nil (IsNoAnswer 1)) }

still_open : (q : ClientRequest) (sector : List ℕ) → IsOpen (Effect 1 sector ∷ Seen (Told (Call 1 q)) ∷ []) 1 q
still_open q sector = record {
  called = (1, omega arith, refl);
  awaits = All-cons (IsNoAnswer 1) (Effect 1 sector) (Seen (Told (Call 1 q)) ∷ []) tt (All-cons (IsNoAnswer 1) (Seen (Told (Call 1 q))) [] tt (All-nil (IsNoAnswer 1)));
}

still_sound : (q : ClientRequest) (sector : List ℕ) (place : ℕ) → All (IsNoFailure 1 place) (Effect 1 sector ∷ Seen (Told (Call 1 q)) ∷ [])
still_sound q sector place =
    All-cons (IsNoFailure 1 place) (Effect 1 sector) (Seen (Told (Call 1 q)) ∷ []) tt (All-cons (IsNoFailure 1 place) (Seen (Told (Call 1 q))) [] tt (All-nil (IsNoFailure 1 place)))

newly_idle : (q : ClientRequest) → IsIdle small 0 (Seen (Told (Call 1 q)) ∷ []) 1 q 0
newly_idle q = record {
  effect = λ at. All-cons (IsNoEffect 1) (Seen (Told (Call 1 q))) [] tt (All-nil (IsNoEffect 1));
  failure = All-cons (IsNoFailure 1 0) (Seen (Told (Call 1 q))) [] tt (All-nil (IsNoFailure 1 0));
}

write_there : IsAt small 0 write 0
write_there = record { admitted = record { known = refl; in_bounds = λ t. refl }; transfer = refl; sector = refl; inside = omega arith }

read_there : IsAt small 0 read 0
read_there = record { admitted = record { known = refl; in_bounds = λ t. refl }; transfer = refl; sector = refl; inside = omega arith }

-- a request of one place has no other
only_place : (place : ℕ) → place < 1 → place ≡ 0
only_place place low = omega arith

read_alone : (place : ℕ) → IsAt small 0 read place → place ≡ 0
read_alone place at = only_place place at.inside

pub are_scheduled : AreScheduledByHand
are_scheduled = record {
  taken_back = (
    start,
    refl,
    (
      written,
      record { request = write; place = 0; is_open = newly_open write; there = write_there; idle = newly_idle write; carries = refl; after = refl },
      (
        written,
        record { request = write; is_open = still_open write one; effect = λ e place at. record { sector = one; before = (0, omega arith, refl); hands_over = λ read. absurd (cc (read)) }; sound = λ e place low. still_sound write one place; after = refl },
        (
          start,
          record { value = old; among = λ low. inr (inl refl); after = refl },
          (
            start,
            refl,
            (
              start,
              record { request = read; place = 0; is_open = newly_open read; there = read_there; idle = newly_idle read; carries = inl refl; after = refl },
              (
                start,
                record { request = read; is_open = still_open read old; effect = λ e place at. record { sector = old; before = (0, omega arith, refl); hands_over = λ r. handed place (read_alone place at) }; sound = λ e place low. still_sound read old place; after = refl },
                tt,
              ),
            ),
          ),
        ),
      ),
    ),
  );
  cut_off = (
    start,
    refl,
    (
      record { now = old ∷ one ∷ []; older = [] },
      record { request = write; is_open = newly_open write; admitted = write_there.admitted; inside = omega arith; idle = newly_idle write; after = refl },
      (
        surely one,
        record { value = one; among = λ low. inr (inl refl); after = refl },
        (
          surely one,
          refl,
          (surely one, record { request = read; place = 0; is_open = newly_open read; there = read_there; idle = newly_idle read; carries = inl refl; after = refl }, tt),
        ),
      ),
    ),
  );
}
  where
    handed : (place : ℕ) → place ≡ 0 → part_of small old place ≡ old
    handed place e = rw e refl

-- THAT ARE NONE

abbrev byte : List ℕ → ℕ
byte [] = 0
byte (x ∷ xs) = x

abbrev value : Held → List ℕ
value h = elim (h.now) [ x ∷ xs ↦ x | [] ↦ [] ]

one_is : (v : List ℕ) → IsOneOf v (one ∷ []) → v ≡ one
one_is v (inl e) = e
one_is v (inr never) = absurd never

not_old : (v : List ℕ) → v ≡ one → surely old ≡ surely v → ⊥
not_old v is e = let x : byte old ≡ byte v = ap (λ h. byte (value h)) e in let y : byte v ≡ byte one = ap byte is in absurd (cc (x ∙ y))

only_call : (q r : ClientRequest) (n m : ℕ) → Contains (Seen (Told (Call n q)) ∷ []) (Seen (Told (Call m r))) → q ≡ r
only_call q r n m (zero, low, is) = cc (is)
only_call q r n m (suc k, low, is) = absurd (omega arith)

behind_other : (n : ℕ) (e : Event) (q r : ClientRequest) → (e ≡ Seen (Told (Call n r)) → ⊥) → Contains (e ∷ Seen (Told (Call n q)) ∷ []) (Seen (Told (Call n r))) → q ≡ r
behind_other n e q r other (zero, low, is) = absurd (other is)
behind_other n e q r other (suc zero, low, is) = cc (is)
behind_other n e q r other (suc (suc k), low, is) = absurd (omega arith)

stale : (h' : Held) → Takes small 0 (Seen (Told (Call 1 read)) ∷ []) (surely one) (Effect 1 old) h' → ⊥
stale h' t =
    let is : read ≡ t.request = only_call read t.request 1 1 t.is_open.called in
    let given : IsOneOf old (one ∷ []) = subst (λ q. Carries small (surely one) q t.place q.kind old) (sym is) t.carries in
    not_old old (one_is old given) refl

other : (h' : Held) → Takes small 0 (Seen (Told (Call 1 write)) ∷ []) start (Effect 1 two) h' → ⊥
other h' t =
    let is : write ≡ t.request = only_call write t.request 1 1 t.is_open.called in
    let low : t.place < 1 = subst (λ q. t.place < place_count small q) (sym is) t.there.inside in
    let own : two ≡ value_for small write t.place = subst (λ q. Carries small start q t.place q.kind two) (sym is) t.carries in
    let at : two ≡ one = own ∙ ap (λ k. value_for small write k) (only_place t.place low) in
    absurd (cc (ap byte at))

uncalled : (h' : Held) → Takes small 0 [] start (Effect 1 one) h' → ⊥
uncalled h' t = let low = t.is_open.called.1 in absurd (omega arith)

twice : (h' : Held) → Takes small 0 (Effect 1 one ∷ Seen (Told (Call 1 write)) ∷ []) written (Effect 1 one) h' → ⊥
twice h' t = All-head (IsNoEffect 1) (Effect 1 one) (Seen (Told (Call 1 write)) ∷ []) (t.idle.effect t.there) refl

fails_first : (h' : Held) → Takes small 0 (Fails 1 0 ∷ Seen (Told (Call 1 write)) ∷ []) start (Effect 1 one) h' → ⊥
fails_first h' t =
    let is : write ≡ t.request = behind_other 1 (Fails 1 0) write t.request (λ e. cc (e)) t.is_open.called in
    let low : t.place < 1 = subst (λ q. t.place < place_count small q) (sym is) t.there.inside in
    All-head (IsNoFailure 1 t.place) (Fails 1 0) (Seen (Told (Call 1 write)) ∷ []) t.idle.failure refl (sym (only_place t.place low))

unwritten : (h' : Held) → Takes small 0 (Seen (Told (Call 1 write)) ∷ []) start (Seen (Told (Answer 1 Success 2 []))) h' → ⊥
unwritten h' t =
    let is : write ≡ t.request = only_call write t.request 1 1 t.is_open.called in
    no_effect (t.effect refl 0 (subst (λ q. IsAt small 0 q 0) is write_there)).before
  where
    no_effect : {sector : List ℕ} → Contains (Seen (Told (Call 1 write)) ∷ []) (Effect 1 sector) → ⊥
    no_effect (zero, low, is) = absurd (cc (is))
    no_effect (suc k, low, is) = absurd (omega arith)

unflushed : Takes small 0 (Seen (Told (Call 2 flush)) ∷ []) written (Seen (Told (Answer 2 Success 0 []))) written → ⊥
unflushed t =
    let is : flush ≡ t.request = only_call flush t.request 2 2 t.is_open.called in
    let after : written ≡ surely one = subst (λ q. written ≡ answered 3 2 q.kind Success written) (sym is) t.after in
    absurd (cc (ap (λ h. none_older h) after))
  where
    none_older : Held → ℕ
    none_older h = elim (h.older) [ [] ↦ 0 | x ∷ xs ↦ 1 ]

failed_flush : (h' : Held) → Takes small 0 (Fails 2 0 ∷ Seen (Told (Call 2 flush)) ∷ []) start (Seen (Told (Answer 2 Success 0 []))) h' → ⊥
failed_flush h' t =
    let is : flush ≡ t.request = behind_other 2 (Fails 2 0) flush t.request (λ e. cc (e)) t.is_open.called in
    All-head (IsNoFailure 2 0) (Fails 2 0) (Seen (Told (Call 2 flush)) ∷ []) (t.sound refl 0 (subst (λ q. 0 < place_count small q) is (omega arith))) refl refl

pub are_refuted : AreRefutedByHand
are_refuted = record {
  flushed = λ t. not_old t.value (one_is t.value (t.among (omega arith))) t.after;
  ended = λ t. not_old t.value (one_is t.value (t.among (omega arith))) t.after;
  stale = stale;
  other = other;
  uncalled = uncalled;
  twice = twice;
  failed = fails_first;
  unwritten = unwritten;
  unflushed = unflushed;
  failed_flush = failed_flush;
}
