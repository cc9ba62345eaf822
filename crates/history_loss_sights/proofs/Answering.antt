-- What answers make of a register that stands for the sector.
use Rattle.std.proofs.Common.{◌≡◌, ◌≢◌, ◌<◌, ◌⊎◌, inl, inr, ℕ, ◌==◌, ◌||◌, Bool, true, false, not, List, [], ◌∷◌, Some, refl, sym, ◌∙◌, ap, subst, eq-eqb}
use Rattle.std.specs.Prelude.{All, Contains, if◌then◌else◌}
use Rattle.std.specs.List.{filter, list_any}
use Rattle.std.proofs.lemmas.Bool.{and_parts, and_from, eqb-true}
use Rattle.std.proofs.lemmas.List.Elements.{All-head, All-tail, All-contains}
use Rattle.ntstatus.specs.declared.NtStatus.{NtStatus}
use Rattle.ntstatus.specs.declared.NtStatus.TheVariants.{Success}
use Rattle.srb.specs.declared.Kind.{Kind}
use Rattle.srb.specs.declared.Kind.TheVariants.{Read, Write, Flush}
use Rattle.machine.specs.declared.ClientRequest.{ClientRequest}
use Rattle.machine.specs.declared.Label.TheVariants.{Call, Answer}
use Rattle.machine.specs.Rules.{Rules, place_count}
use Rattle.machine_laws.specs.Sectors.{part_of}
use Rattle.loss.specs.Held.{Syncs, Held, HeldOf, IsOneOf, changed}
use Rattle.loss.specs.Sessions.{Line, Told}
use Rattle.history_loss.specs.Schedules.{Event, Seen, Effect, IsAnswer, IsAt, IsNoAnswer, IsNoEffect, IsNoFailure, TookEffect, answered, next_number}
use Rattle.register_loss.specs.declared.What.{What}
use Rattle.register_loss.specs.declared.What.TheVariants.{Read as Reads, Write as Writes, Flush as Flushes, Sync}
use Rattle.register_loss.specs.declared.Open.{Open}
use Rattle.register_loss.specs.Schedules.{Register, flushed, has_other, is_flush, is_flush_of, is_given, is_sync, is_undone}
use Rattle.history_loss_sights.specs.Sights.{success_bytes, success_of, syncs}
use Rattle.history_loss_sights.proofs.Coding.{coded, coded_changed}
use Rattle.history_loss_sights.proofs.Standing.{Called, HasFailed, HasSync, IsKnown, IsRead, IsSynced, IsTidy, IsTold, IsWrite, Nobody, behind, differ_false, in_filter, known_more, not_of, not_true, of_filter, same_answer, write_of}

or_cases : (a b : Bool) → a || b ≡ true → (a ≡ true) ⊎ (b ≡ true)
or_cases true b h = inl refl
or_cases false b h = inr h

or_left : (a b : Bool) → a ≡ true → a || b ≡ true
or_left true b h = refl
or_left false b h = absurd (cc (h))

or_right : (a b : Bool) → b ≡ true → a || b ≡ true
or_right true b h = refl
or_right false b h = h

any_of : {X : Type 0} (f : X → Bool) (x : X) (xs : List X) → IsOneOf x xs → f x ≡ true → list_any f xs ≡ true
any_of f x [] h e = absurd h
any_of f x (y ∷ xs) (inl is) e = or_left (f y) (list_any f xs) (sym (ap f is) ∙ e)
any_of f x (y ∷ xs) (inr h) e = or_right (f y) (list_any f xs) (any_of f x xs h e)

pub any_there : {X : Type 0} (f : X → Bool) (x : X) (xs : List X) → IsOneOf x xs → f x ≡ true → list_any f xs ≡ true
any_there f x xs h e = any_of f x xs h e

any_from : {X : Type 0} (f : X → Bool) (xs : List X) → list_any f xs ≡ true → (x : X) × IsOneOf x xs × (f x ≡ true)
any_from f [] e = absurd (cc (e))
any_from f (y ∷ xs) e = elim (or_cases (f y) (list_any f xs) e) [
  | inl here ↦ (y, inl refl, here)
  | inr there ↦ let found : (x : _) × IsOneOf x xs × (f x ≡ true) = any_from f xs there in (found.0, inr found.1, found.2)
]

none_of : {X : Type 0} (f : X → Bool) (xs : List X) → ((x : X) → IsOneOf x xs → f x ≡ true → ⊥) → list_any f xs ≡ false
none_of f xs none = by (list_any f xs) refl
  where
    by : (b : Bool) → list_any f xs ≡ b → b ≡ false
    by true e = let found : (x : _) × IsOneOf x xs × (f x ≡ true) = any_from f xs e in absurd (none found.0 found.1 found.2)
    by false e = refl

apart_by : (a b : ℕ) → (a == b) ≡ false → a ≡ b → ⊥
apart_by a b e same = let yes : (a == b) ≡ true = eq-eqb a b same in cc (yes, e)

flush_kind : (through : Bool) (kind : Kind) → IsOneOf Flushes (syncs through kind) → kind ≡ Flush
flush_kind through Read h = absurd h
flush_kind true Write (inl e) = absurd (cc (e))
flush_kind true Write (inr none) = absurd none
flush_kind false Write h = absurd h
flush_kind through Flush h = refl

flush_there : (through : Bool) (kind : Kind) → kind ≡ Flush → IsOneOf Flushes (syncs through kind)
flush_there through Read e = absurd (cc (e))
flush_there through Write e = absurd (cc (e))
flush_there through Flush e = inl refl

module _ (code : List ℕ → ℕ) (rules : Rules) (i : ℕ) (past : List Event) (h : Held) (lines : List Line) (r : Register) (n : ℕ) (status : NtStatus) (informed : ℕ) (bytes : List ℕ) where
  abbrev event : Event
  event = Seen (Told (Answer n status informed bytes))

  module _ (t : IsTold code rules i (Nobody code rules i) past h (Told (Answer n status informed bytes) ∷ lines) r) where
    -- the operations of that number are open no more
    pub told_ended : (h' : Held) (held : HeldOf ℕ) → held ≡ coded code h' → held.now ≡ r.held.now
        → IsTold code rules i (Nobody code rules i) (event ∷ past) h' lines (record { next = r.next; held = held; waits = filter (has_other n) r.waits })
    told_ended h' held is now = record {
      next = t.next;
      held = is;
      greedy = λ o there. subst (λ (vs : List ℕ). is_given vs o.what ≡ false) (sym now) (t.greedy o (of_filter (has_other n) o r.waits there).0);
      writes = λ m q place called kind at awaits none sound out.
          in_filter (has_other n) (write_of code rules i m q place) r.waits
          (t.writes m q place (behind event past (Seen (Told (Call m q))) (λ e. cc (e)) called) kind at (All-tail (IsNoAnswer m) event past awaits) (All-tail (IsNoEffect m) event past none) (All-tail (IsNoFailure m place) event past sound) (λ x. x))
          (other m (All-head (IsNoAnswer m) event past awaits));
      syncs = λ m q what called sync awaits.
          kept m what (All-head (IsNoAnswer m) event past awaits) (t.syncs m q what (behind event past (Seen (Told (Call m q))) (λ e. cc (e)) called) sync (All-tail (IsNoAnswer m) event past awaits));
      known = known;
      away = λ o there write x. x;
    }
      where
        other : (m : ℕ) → n ≢ m → not (m == n) ≡ true
        other m apart = not_of (m == n) (differ_false m n (λ e. apart (sym e)))

        kept : (m : ℕ) (what : What) → n ≢ m → HasSync code rules i m what r.waits → HasSync code rules i m what (filter (has_other n) r.waits)
        kept m what apart (failed, there) = (failed, in_filter (has_other n) (record { number = m; what = what; failed = failed }) r.waits there (other m apart))

        known : (o : Open) → IsOneOf o (filter (has_other n) r.waits) → IsKnown code rules i (event ∷ past) lines o.number o.failed o.what
        known o there =
            let was : IsOneOf o r.waits × (has_other n o ≡ true) = of_filter (has_other n) o r.waits there in
            let apart : (n == o.number) ≡ false = differ_false n o.number (λ e. apart_by o.number n (not_true (o.number == n) was.1) (sym e)) in
            same_answer code rules i (event ∷ past) (Told (Answer n status informed bytes) ∷ lines) lines o.number o.failed o.what
            (sym (ap (λ (b : Bool). if b then success_bytes status bytes else success_of o.number lines) apart))
            (known_more code rules i event past (Told (Answer n status informed bytes) ∷ lines) o.number o.failed o.what (λ write. tt) (λ v sector is e. absurd (cc (e))) (t.known o was.0))

module _ (code : List ℕ → ℕ) (rules : Rules) (i : ℕ) (past : List Event) (h h' : Held) (lines : List Line) (r : Register) (n : ℕ) (informed : ℕ) (bytes : List ℕ)
    (t : IsTold code rules i (Nobody code rules i) past h (Told (Answer n Success informed bytes) ∷ lines) r) (tidy : IsTidy past) (a : IsAnswer rules i past h n Success bytes h') where
  its_own : (m : ℕ) (p : ClientRequest) → (m == n) ≡ true → Called past m p → p ≡ a.request
  its_own m p same called = tidy.one n p a.request (subst (λ k. Called past k p) (eqb-true m n same) called) a.is_open.called

  no_write : (m : ℕ) → (m == n) ≡ true → IsWrite code rules i past m → ⊥
  no_write m same k =
      let took : TookEffect rules past n a.request k.place bytes = a.effect refl k.place (subst (λ p. IsAt rules i p k.place) (its_own m k.request same k.called) k.at) in
      All-contains (IsNoEffect m) past (Effect n took.sector) k.none took.before (sym (eqb-true m n same))

  no_read : (m v : ℕ) → (m == n) ≡ true → IsRead code rules i past (Told (Answer n Success informed bytes) ∷ lines) m v → ⊥
  no_read m v same k =
      let own : k.request ≡ a.request = its_own m k.request same k.called in
      let number : m ≡ n = eqb-true m n same in
      let took : TookEffect rules past n a.request k.place bytes = a.effect refl k.place (subst (λ p. IsAt rules i p k.place) own k.at) in
      let over : part_of rules bytes k.place ≡ took.sector = took.hands_over (ap (λ p. p.kind) (sym own) ∙ k.kind) in
      let awaits : All (IsNoAnswer m) past = subst (λ j. All (IsNoAnswer j) past) (sym number) a.is_open.awaits in
      by (k.answer awaits) over (λ e. k.none took.sector (subst (λ j. Contains past (Effect j took.sector)) (sym number) took.before) e)
    where
      same' : (n == m) ≡ true
      same' = eq-eqb n m (sym (eqb-true m n same))

      by : {sector : List ℕ} → (found : List ℕ) × (success_of m (Told (Answer n Success informed bytes) ∷ lines) ≡ Some found) × (v ≡ code (part_of rules found k.place)) → part_of rules bytes k.place ≡ sector → (code sector ≡ v → ⊥) → ⊥
      by (found, success, value) over none =
          let first : Some bytes ≡ Some found = sym (ap (λ (b : Bool). if b then success_bytes Success bytes else success_of m lines) same') ∙ success in
          let is : bytes ≡ found = cc (first) in
          none (ap code (sym over ∙ ap (λ x. part_of rules x k.place) is) ∙ sym value)

  no_failure : (m : ℕ) (what : What) → (m == n) ≡ true → IsSynced code rules i past m true what → ⊥
  no_failure m what same k =
      let own : k.request ≡ a.request = its_own m k.request same k.called in
      let failing : HasFailed code rules i past m k.request = k.failing refl in
      failing.2 (subst (λ j. All (IsNoFailure j failing.0) past) (sym (eqb-true m n same)) (a.sound refl failing.0 (subst (λ p. failing.0 < place_count rules p) own failing.1)))

  undone_by : (m : ℕ) (failed : Bool) (what : What) → (m == n) ≡ true → (not (is_sync what) || failed) ≡ true → IsKnown code rules i past (Told (Answer n Success informed bytes) ∷ lines) m failed what → ⊥
  undone_by m failed (Writes v through) same e k = no_write m same k
  undone_by m failed (Reads v) same e k = no_read m v same k
  undone_by m true Flushes same e k = no_failure m Flushes same k
  undone_by m false Flushes same e k = absurd (cc (e))
  undone_by m true Sync same e k = no_failure m Sync same k
  undone_by m false Sync same e k = absurd (cc (e))

  pub none_undone : list_any (is_undone n) r.waits ≡ false
  none_undone = none_of (is_undone n) r.waits (λ o there e.
      let parts : ((o.number == n) ≡ true) × ((not (is_sync o.what) || o.failed) ≡ true) = and_parts (o.number == n) (not (is_sync o.what) || o.failed) e in
      undone_by o.number o.failed o.what parts.0 parts.1 (t.known o there))

  flush_by : (m : ℕ) (failed : Bool) (what : What) → (m == n) ≡ true → is_flush what ≡ true → IsKnown code rules i past (Told (Answer n Success informed bytes) ∷ lines) m failed what → a.request.kind ≡ Flush
  flush_by m failed (Writes v through) same e k = absurd (cc (e))
  flush_by m failed (Reads v) same e k = absurd (cc (e))
  flush_by m failed Flushes same e k =
      let own : k.request ≡ a.request = its_own m k.request same k.called in
      ap (λ p. p.kind) (sym own) ∙ flush_kind k.request.through k.request.kind k.sync
  flush_by m failed Sync same e k = absurd (cc (e))

  flush_seen : (kind : Kind) → a.request.kind ≡ kind → kind ≡ Flush → list_any (is_flush_of n) r.waits ≡ true
  flush_seen kind is flush = by (t.syncs n a.request Flushes a.is_open.called (flush_there a.request.through a.request.kind (is ∙ flush)) a.is_open.awaits)
    where
      by : HasSync code rules i n Flushes r.waits → list_any (is_flush_of n) r.waits ≡ true
      by (failed, there) = any_of (is_flush_of n) (record { number = n; what = Flushes; failed = failed }) r.waits there (and_from (n == n) true (eq-eqb n n refl) refl)

  flush_unseen : (a.request.kind ≡ Flush → ⊥) → list_any (is_flush_of n) r.waits ≡ false
  flush_unseen other = none_of (is_flush_of n) r.waits (λ o there e.
      let parts : ((o.number == n) ≡ true) × (is_flush o.what ≡ true) = and_parts (o.number == n) (is_flush o.what) e in
      other (flush_by o.number o.failed o.what parts.0 parts.1 (t.known o there)))

  flushed_is : (b : Bool) → list_any (is_flush_of n) r.waits ≡ b → flushed n r ≡ (if b then changed r.next (Syncs n) r.held else r.held)
  flushed_is b e = ap (λ (b : Bool). if b then changed r.next (Syncs n) r.held else r.held) e

  pub flushed_told : flushed n r ≡ coded code h'
  flushed_told = by a.request.kind refl ∙ ap (coded code) (sym a.after)
    where
      by : (kind : Kind) → a.request.kind ≡ kind → flushed n r ≡ coded code (answered (next_number past) n a.request.kind Success h)
      by Flush is =
          flushed_is true (flush_seen Flush is refl)
          ∙ ap (λ k. changed k (Syncs n) r.held) t.next
          ∙ ap (λ (g : HeldOf ℕ). changed (next_number past) (Syncs n) g) t.held
          ∙ coded_changed code (next_number past) (Syncs n) h
          ∙ ap (λ k. coded code (answered (next_number past) n k Success h)) (sym is)
      by Read is = flushed_is false (flush_unseen (λ e. let both : Read ≡ Flush = sym is ∙ e in cc (both))) ∙ t.held ∙ ap (λ k. coded code (answered (next_number past) n k Success h)) (sym is)
      by Write is = flushed_is false (flush_unseen (λ e. let both : Write ≡ Flush = sym is ∙ e in cc (both))) ∙ t.held ∙ ap (λ k. coded code (answered (next_number past) n k Success h)) (sym is)

  pub flushed_now : (flushed n r).now ≡ r.held.now
  flushed_now = by (list_any (is_flush_of n) r.waits)
    where
      by : (b : Bool) → (if b then changed r.next (Syncs n) r.held else r.held).now ≡ r.held.now
      by true = refl
      by false = refl
