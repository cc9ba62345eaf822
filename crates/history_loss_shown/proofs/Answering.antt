-- An answer, as a register and as its sector has it.
use Rattle.std.proofs.Common.{◌≡◌, ◌≢◌, ◌≤◌, inl, inr, ℕ, ◌==◌, ◌||◌, Bool, true, false, not, List, ◌∷◌, Some, refl, sym, ◌∙◌, ap, subst, eq-eqb, arith}
use Rattle.std.specs.Prelude.{if◌then◌else◌}
use Rattle.std.specs.List.{filter, list_any}
use Rattle.std.proofs.lemmas.Bool.{and_from}
use Rattle.std.proofs.lemmas.List.Elements.{All-head, All-tail}
use Rattle.ntstatus.specs.declared.NtStatus.{NtStatus}
use Rattle.ntstatus.specs.declared.NtStatus.TheVariants.{Success}
use Rattle.srb.specs.declared.Kind.{Kind}
use Rattle.srb.specs.declared.Kind.TheVariants.{Read, Write, Flush}
use Rattle.machine.specs.declared.ClientRequest.{ClientRequest}
use Rattle.machine.specs.declared.Label.TheVariants.{Call, Answer}
use Rattle.machine.specs.Rules.{Rules}
use Rattle.loss.specs.Held.{Syncs, Held, HeldOf, IsOneOf, OlderOf, changed, outlives}
use Rattle.loss.specs.Sessions.{Line, Told}
use Rattle.history_loss.specs.Schedules.{Event, Seen, Fails, IsAnswer, IsAt, IsNoAnswer, IsOpen, TookEffect, answered, next_number}
use Rattle.register_loss.specs.declared.Open.{Open}
use Rattle.register_loss.specs.Schedules.{Register, behind, done, ended, flushed, has_other, is_flush, is_flush_of, is_sync, is_undone}
use Rattle.register_loss_search.specs.Covering.{Wider}
use Rattle.register_loss_search.proofs.Listing.{any_of, in_filter, of_filter}
use Rattle.register_loss_search.proofs.Changing.{dated_by, wider_by, wider_then}
use Rattle.history_loss_sights.specs.Sights.{end_of, place_of, success_bytes, success_of}
use Rattle.history_loss_sights.proofs.Coding.{coded, coded_changed}
use Rattle.history_loss_sights.proofs.Places.{at_has, has_at, place_is}
use Rattle.history_loss_sights.proofs.Standing.{behind as further_back, differ_false, not_of, not_true}
use Rattle.history_loss_shown.proofs.Standing.{HasFlush, HasMove, Stands, known_more, none_failed, same_lines, sound_at, took_more}
use Rattle.history_loss_shown.proofs.Stuck.{end_failed, only_one, some_behind, success_or, undone_there}

answered_same : (next n : ℕ) (h : Held) (kind : Kind) (status : NtStatus) → (status ≡ Success → ⊥) → answered next n kind status h ≡ h
answered_same next n h Read status other = refl
answered_same next n h Write status other = refl
answered_same next n h Flush Success other = absurd (other refl)
answered_same next n h Flush _ other = refl

-- a flush takes nothing but older values
synced_narrower : (n k : ℕ) (g : HeldOf ℕ) → Wider (changed n (Syncs k) g) g
synced_narrower n k g = record { now = λ v p. p; older = λ o p. inr (o, (of_filter (outlives k) o g.older p).0, refl, order o.behind) }
  where
    order : (m : ℕ) → m ≤ m
    order m = omega arith

module _ (code : List ℕ → ℕ) (rules : Rules) (i : ℕ) (past : List Event) (h : Held) (lines : List Line) (r : Register) (n : ℕ) (status : NtStatus) (informed : ℕ) (bytes : List ℕ)
    (t : Stands code rules i past h (Told (Answer n status informed bytes) ∷ lines) r.next r.held r.waits) (q : ClientRequest) (is_open : IsOpen past n q) where
  abbrev answer : Event
  answer = Seen (Told (Answer n status informed bytes))

  passed_over : (m : ℕ) → n ≢ m → success_of m (Told (Answer n status informed bytes) ∷ lines) ≡ success_of m lines
  passed_over m apart = ap (λ (b : Bool). if b then success_bytes status bytes else success_of m lines) (differ_false n m apart)

  abbrev left : List Open
  left = filter (has_other n) r.waits

  stays : (o : Open) (m : ℕ) → o.number ≡ m → n ≢ m → IsOneOf o r.waits → IsOneOf o left
  stays o m is apart has = in_filter (has_other n) o r.waits has (not_of (o.number == n) (differ_false o.number n (λ same. apart (sym same ∙ is))))

  ended_stands : (h' : Held) (held : HeldOf ℕ) → Wider held (coded code h') → ((o : OlderOf ℕ) → IsOneOf o held.older → o.behind ≤ r.next) → Stands code rules i (answer ∷ past) h' lines r.next held left
  ended_stands h' held wider dated = record {
    counts = t.counts;
    holds = wider;
    dated = dated;
    known = λ o there.
        let was : IsOneOf o r.waits × (has_other n o ≡ true) = of_filter (has_other n) o r.waits there in
        let apart : n ≢ o.number = λ same. let yes : (o.number == n) ≡ true = eq-eqb o.number n (sym same) in let no : (o.number == n) ≡ false = not_true (o.number == n) was.1 in cc (yes, no) in
        same_lines code rules i (answer ∷ past) (Told (Answer n status informed bytes) ∷ lines) lines o.number o.failed o.what (sym (passed_over o.number apart))
        (known_more code rules i answer past (Told (Answer n status informed bytes) ∷ lines) o.number o.failed o.what apart (λ move. (tt, tt)) (t.known o was.0));
    moves = λ m p found called at awaits success.
        let apart : n ≢ m = All-head (IsNoAnswer m) answer past awaits in
        elim (t.moves m p found (further_back answer past (Seen (Told (Call m p))) (λ e. cc (e)) called) at (All-tail (IsNoAnswer m) answer past awaits) (passed_over m apart ∙ success)) [
          | inl took ↦ inl (took_more code rules i answer past m p (place_of rules i p) found took)
          | inr (o, has, is, move) ↦ inr (o, stays o m is apart has, is, move)
        ];
    flushes = λ m p found called kind awaits success.
        let apart : n ≢ m = All-head (IsNoAnswer m) answer past awaits in
        let old : HasFlush code rules i m r.waits =
        t.flushes m p found (further_back answer past (Seen (Told (Call m p))) (λ e. cc (e)) called) kind (All-tail (IsNoAnswer m) answer past awaits) (passed_over m apart ∙ success) in
        (old.0, stays old.0 m old.2 apart old.1, old.2, old.3);
    failures = λ m place there awaits.
        let apart : n ≢ m = All-head (IsNoAnswer m) answer past awaits in
        let old : HasMove code rules i m r.waits = t.failures m place (further_back answer past (Fails m place) (λ e. cc (e)) there) (All-tail (IsNoAnswer m) answer past awaits) in
        (old.0, stays old.0 m old.2 apart old.1, old.2, old.3);
  }

  -- what an answer leaves
  pub record Answers (mid : Register) : Type 0 where
    pub leaves : Held
    pub is_answer : IsAnswer rules i past h n status bytes leaves
    pub stands : Stands code rules i (answer ∷ past) leaves lines mid.next mid.held mid.waits

  -- A FAILURE

  failed_so : (status ≡ Success → ⊥) → Answers (ended n r)
  failed_so bad = record {
    leaves = h;
    is_answer = record {
      request = q;
      is_open = is_open;
      effect = λ good place at. absurd (bad good);
      sound = λ good place low. absurd (bad good);
      after = sym (answered_same (next_number past) n h q.kind status bad);
    };
    stands = ended_stands h r.held t.holds t.dated;
  }

  -- A SUCCESS

  module _ (good : status ≡ Success) (none : list_any (is_undone n) r.waits ≡ false) where
    will_succeed : success_of n (Told (Answer n status informed bytes) ∷ lines) ≡ Some bytes
    will_succeed = ap (λ (b : Bool). if b then success_bytes status bytes else success_of n lines) (eq-eqb n n refl) ∙ ap (λ s. success_bytes s bytes) good

    none_moves : HasMove code rules i n r.waits → ⊥
    none_moves (o, has, is, move) = let yes : list_any (is_undone n) r.waits ≡ true = undone_there n r.waits o has is (undone (is_sync o.what) o.failed move) in cc (yes, none)
      where
        undone : (b failed : Bool) → b ≡ false → (not b || failed) ≡ true
        undone true failed e = absurd (cc (e))
        undone false failed e = refl

    took : (place : ℕ) → IsAt rules i q place → TookEffect rules past n q place bytes
    took place at =
        let here : IsAt rules i q (place_of rules i q) = has_at rules i q (at_has rules i q place at) in
        elim (t.moves n q bytes is_open.called here is_open.awaits will_succeed) [
          | inl found ↦ subst (λ k. TookEffect rules past n q k bytes) (place_is rules i q place at) found
          | inr move ↦ absurd (none_moves move)
        ]

    flush_held : (kind : Kind) → q.kind ≡ kind → (b : Bool) → list_any (is_flush_of n) r.waits ≡ b
        → Wider (if b then changed r.next (Syncs n) r.held else r.held) (coded code (answered (next_number past) n kind Success h))
    flush_held Flush kind true e =
        subst (λ g. Wider (changed r.next (Syncs n) r.held) g) (ap (λ m. changed m (Syncs n) (coded code h)) t.counts ∙ coded_changed code (next_number past) (Syncs n) h)
        (wider_by r.next r.held (coded code h) t.holds t.dated (Syncs n))
    flush_held Flush kind false e = absurd (seen (t.flushes n q bytes is_open.called kind is_open.awaits will_succeed))
      where
        seen : HasFlush code rules i n r.waits → ⊥
        seen (o, has, is, flush) =
            let yes : list_any (is_flush_of n) r.waits ≡ true = any_of (is_flush_of n) o r.waits has (and_from (o.number == n) (is_flush o.what) (eq-eqb o.number n is) flush) in
            cc (yes, e)
    flush_held Read kind true e = wider_then (changed r.next (Syncs n) r.held) r.held (coded code h) (synced_narrower r.next n r.held) t.holds
    flush_held Read kind false e = t.holds
    flush_held Write kind true e = wider_then (changed r.next (Syncs n) r.held) r.held (coded code h) (synced_narrower r.next n r.held) t.holds
    flush_held Write kind false e = t.holds

    flush_dated : (b : Bool) → (o : OlderOf ℕ) → IsOneOf o (if b then changed r.next (Syncs n) r.held else r.held).older → o.behind ≤ r.next
    flush_dated true = dated_by r.next r.held (Syncs n) t.dated
    flush_dated false = t.dated

    done_so : Answers (done n r)
    done_so = record {
      leaves = answered (next_number past) n q.kind status h;
      is_answer = record {
        request = q;
        is_open = is_open;
        effect = λ good' place at. took place at;
        sound = λ good' place low. sound_at n place past (none_failed n past (λ k there. none_moves (t.failures n k there is_open.awaits)));
        after = refl;
      };
      stands = ended_stands (answered (next_number past) n q.kind status h) (flushed n r)
          (subst (λ s. Wider (flushed n r) (coded code (answered (next_number past) n q.kind s h))) (sym good) (flush_held q.kind refl (list_any (is_flush_of n) r.waits) refl))
          (flush_dated (list_any (is_flush_of n) r.waits));
    }

  pub answers : (mid : Register) → IsOneOf mid (behind (end_of n status) r) → Answers mid
  answers mid takes = elim (success_or status) [
    | inl good ↦
        let found : (list_any (is_undone n) r.waits ≡ false) × (mid ≡ done n r) =
        some_behind (list_any (is_undone n) r.waits) (done n r) mid (subst (λ s. IsOneOf mid (behind s r)) (ap (λ s. end_of n s) good) takes) in
        subst (λ x. Answers x) (sym found.1) (done_so good found.0)
    | inr bad ↦ subst (λ x. Answers x) (sym (only_one (ended n r) mid (subst (λ s. IsOneOf mid (behind s r)) (end_failed n status bad) takes))) (failed_so bad)
  ]
