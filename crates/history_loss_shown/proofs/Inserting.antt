-- A schedule with failures besides that are nowhere at its sector.
use Rattle.std.proofs.Common.{◌≡◌, ◌<◌, ◌≤◌, inl, inr, ℕ, ◌+◌, List, [], ◌∷◌, refl, sym, ◌∙◌, ap, subst, arith}
use Rattle.std.specs.Prelude.{All, Contains}
use Rattle.std.proofs.lemmas.List.Elements.{All-cons, All-head, All-tail}
use Rattle.ntstatus.specs.declared.NtStatus.{NtStatus}
use Rattle.ntstatus.specs.declared.NtStatus.TheVariants.{Success}
use Rattle.srb.specs.declared.Kind.{Kind}
use Rattle.srb.specs.declared.Kind.TheVariants.{Read, Write, Flush}
use Rattle.machine.specs.declared.ClientRequest.{ClientRequest}
use Rattle.machine.specs.declared.Label.TheVariants.{Call, Device, Answer, Cancel, Pause, Resume, Remove, Surprise, Removed}
use Rattle.machine.specs.Rules.{Rules, place_count}
use Rattle.loss.specs.Held.{Change, Puts, Secures, Tries, Syncs, Doubts, Held, HeldOf, IsOneOf, OlderOf, act_changes, changed, changed_by, fault_changes, left, surely}
use Rattle.loss.specs.Moved.{work_of}
use Rattle.loss.specs.Sessions.{Line, Told, Lost, Ended}
use Rattle.loss.specs.Laws.{Each}
use Rattle.history_loss.specs.Schedules.{Event, Seen, Effect, Fails, Carries, FailsThere, IsAnswer, IsAt, IsNoAnswer, IsNoEffect, IsNoFailure, IsOpen, Leaves, MayFollow, TakesEffect, TookEffect, acted, answered, failed, lines_of, next_number, one_place, shared_of, so_far}
use Rattle.history_loss.proofs.Holding.{IsFailing}
use Rattle.history_loss.proofs.Mirroring.{further, newest}
use Rattle.history_loss.proofs.Places.{fault_fails}
use Rattle.history_loss_runs.proofs.Tracking.{all_unshared}
use Rattle.register_loss_search.specs.Covering.{Wider}
use Rattle.register_loss_search.proofs.Listing.{of_map, one_left, one_map}
use Rattle.register_loss_search.proofs.Changing.{dated_by, wider_by, wider_left, wider_self, wider_then}
use Rattle.history_loss_sights.specs.Sights.{AreCounted}
use Rattle.history_loss_sights.proofs.Coding.{coded, coded_change, coded_changed, coded_left}
use Rattle.history_loss_sights.proofs.Standing.{Called, behind, first_or_behind}
use Rattle.history_loss_shown.proofs.Owning.{Follows}
use Rattle.history_loss_shown.proofs.Sharing.{Extends, Foreign, Serves, Suits, Tidy, next_call, tidy_call, tidy_first, tidy_more}
use Rattle.history_loss_shown.proofs.Merging.{none_failure}
use Rattle.history_loss_shown.proofs.Stuck.{AreShown}
use Rattle.history_loss_shown.proofs.Turning.{wider_doubts}

-- WHAT HOLDS MORE

module _ (code : List ℕ → ℕ) where
  abbrev IsDated : ℕ → Held → Type 0
  IsDated n h = (o : OlderOf ℕ) → IsOneOf o (coded code h).older → o.behind ≤ n

  wider_change : (n : ℕ) (change : Change) (h h' : Held) → Wider (coded code h) (coded code h') → IsDated n h → Wider (coded code (changed n change h)) (coded code (changed n change h'))
  wider_change n change h h' w dated =
      subst (λ g. Wider g (coded code (changed n change h'))) (coded_changed code n change h)
      (subst (λ g. Wider (changed n (coded_change code change) (coded code h)) g) (coded_changed code n change h') (wider_by n (coded code h) (coded code h') w dated (coded_change code change)))

  dated_change : (n : ℕ) (change : Change) (h : Held) → IsDated n h → IsDated n (changed n change h)
  dated_change n change h dated =
      subst (λ (g : HeldOf ℕ). (o : OlderOf ℕ) → IsOneOf o g.older → o.behind ≤ n) (coded_changed code n change h) (dated_by n (coded code h) (coded_change code change) dated)

  wider_changes : (n : ℕ) (changes : List Change) (h h' : Held) → Wider (coded code h) (coded code h') → IsDated n h → Wider (coded code (changed_by n changes h)) (coded code (changed_by n changes h'))
  wider_changes n [] h h' w dated = w
  wider_changes n (change ∷ changes) h h' w dated = wider_changes n changes (changed n change h) (changed n change h') (wider_change n change h h' w dated) (dated_change n change h dated)

  dated_changes : (n : ℕ) (changes : List Change) (h : Held) → IsDated n h → IsDated n (changed_by n changes h)
  dated_changes n [] h dated = dated
  dated_changes n (change ∷ changes) h dated = dated_changes n changes (changed n change h) (dated_change n change h dated)

  -- failures leave more
  wider_failing : (n : ℕ) (change : Change) (h : Held) → IsFailing change → Wider (coded code h) (coded code (changed n change h))
  wider_failing n (Tries v) h failing = subst (λ g. Wider (coded code h) g) (coded_changed code n (Tries v) h) (record {
    now = λ x p. one_left x (coded code h).now (code v ∷ []) p;
    older = λ o p. inr (o, p, refl, order o.behind);
  })
    where
      order : (m : ℕ) → m ≤ m
      order m = omega arith
  wider_failing n Doubts h failing = subst (λ g. Wider (coded code h) g) (coded_changed code n Doubts h) (wider_doubts n (coded code h))
  wider_failing n (Puts v) h failing = absurd failing
  wider_failing n (Secures v) h failing = absurd failing
  wider_failing n (Syncs k) h failing = absurd failing

  wider_all_failing : (n : ℕ) (changes : List Change) (h : Held) → Each IsFailing changes → Wider (coded code h) (coded code (changed_by n changes h))
  wider_all_failing n [] h failing = wider_self (coded code h)
  wider_all_failing n (change ∷ changes) h failing =
      wider_then (coded code h) (coded code (changed n change h)) (coded code (changed_by n changes (changed n change h))) (wider_failing n change h failing.0) (wider_all_failing n changes (changed n change h) failing.1)

  wider_answered : (n number : ℕ) (kind : Kind) (status : NtStatus) (h h' : Held) → Wider (coded code h) (coded code h') → IsDated n h → Wider (coded code (answered n number kind status h)) (coded code (answered n number kind status h'))
  wider_answered n number Flush Success h h' w dated = wider_change n (Syncs number) h h' w dated
  wider_answered n number Flush _ h h' w dated = w
  wider_answered n number Read status h h' w dated = w
  wider_answered n number Write status h h' w dated = w

  dated_answered : (n number : ℕ) (kind : Kind) (status : NtStatus) (h : Held) → IsDated n h → IsDated n (answered n number kind status h)
  dated_answered n number Flush Success h dated = dated_change n (Syncs number) h dated
  dated_answered n number Flush _ h dated = dated
  dated_answered n number Read status h dated = dated
  dated_answered n number Write status h dated = dated

module _ (code : List ℕ → ℕ) (tells : (a b : List ℕ) → code a ≡ code b → a ≡ b) (rules : Rules) (i : ℕ) where
  -- the same calls, answers and effects, no other failure at the sector, and it holds as much
  pub record IsWide (past past' : List Event) (h h' : Held) : Type 0 where
    pub calls : (n : ℕ) (q : ClientRequest) → Called past n q → Called past' n q
    pub effects : (n : ℕ) (sector : List ℕ) → Contains past (Effect n sector) → Contains past' (Effect n sector)
    pub awaits : (n : ℕ) → All (IsNoAnswer n) past → All (IsNoAnswer n) past'
    pub once : (n : ℕ) → All (IsNoEffect n) past → All (IsNoEffect n) past'
    pub own : (n : ℕ) (q : ClientRequest) (place : ℕ) → Called past n q → IsAt rules i q place → All (IsNoFailure n place) past → All (IsNoFailure n place) past'
    pub next : next_number past' ≡ next_number past
    pub holds : Wider (coded code h) (coded code h')
    pub dated : IsDated code (next_number past) h

  pub wide_first : (v : List ℕ) → IsWide [] [] (surely v) (surely v)
  wide_first v = record {
    calls = λ n q c. c;
    effects = λ n sector c. c;
    awaits = λ n a. a;
    once = λ n a. a;
    own = λ n q place c at a. a;
    next = refl;
    holds = wider_self (coded code (surely v));
    dated = λ o none. absurd none;
  }

  contains_then : (e : Event) (past past' : List Event) (x : Event) → (Contains past x → Contains past' x) → Contains (e ∷ past) x → Contains (e ∷ past') x
  contains_then e past past' x keeps there = elim (first_or_behind e past x there) [
    | inl is ↦ subst (λ y. Contains (e ∷ past') y) is (newest e past')
    | inr before ↦ further e past' x (keeps before)
  ]

  all_then : (P : Event → Type 0) (e : Event) (past past' : List Event) → (All P past → All P past') → All P (e ∷ past) → All P (e ∷ past')
  all_then P e past past' keeps all = All-cons P e past' (All-head P e past all) (keeps (All-tail P e past all))

  wide_then : (e : Event) (past past' : List Event) (h h' mid mid' : Held) → IsWide past past' h h' → ((n : ℕ) (q : ClientRequest) → e ≡ Seen (Told (Call n q)) → ⊥) → next_number (e ∷ past) ≡ next_number past → next_number (e ∷ past') ≡ next_number past'
      → Wider (coded code mid) (coded code mid') → IsDated code (next_number past) mid → IsWide (e ∷ past) (e ∷ past') mid mid'
  wide_then e past past' h h' mid mid' w no_call same same' wider dated = record {
    calls = λ n q. contains_then e past past' (Seen (Told (Call n q))) (w.calls n q);
    effects = λ n sector. contains_then e past past' (Effect n sector) (w.effects n sector);
    awaits = λ n. all_then (IsNoAnswer n) e past past' (w.awaits n);
    once = λ n. all_then (IsNoEffect n) e past past' (w.once n);
    own = λ n q place called at. all_then (IsNoFailure n place) e past past' (w.own n q place (behind e past (Seen (Told (Call n q))) (no_call n q) called) at);
    next = same' ∙ w.next ∙ sym same;
    holds = wider;
    dated = subst (λ m. IsDated code m mid) (sym same) dated;
  }

  wide_call : (m : ℕ) (r : ClientRequest) (past past' : List Event) (h h' : Held) → m ≡ next_number past' → Tidy past' → IsWide past past' h h' → IsWide (Seen (Told (Call m r)) ∷ past) (Seen (Told (Call m r)) ∷ past') h h'
  wide_call m r past past' h h' counts tidy w = record {
    calls = λ n q. contains_then (Seen (Told (Call m r))) past past' (Seen (Told (Call n q))) (w.calls n q);
    effects = λ n sector. contains_then (Seen (Told (Call m r))) past past' (Effect n sector) (w.effects n sector);
    awaits = λ n. all_then (IsNoAnswer n) (Seen (Told (Call m r))) past past' (w.awaits n);
    once = λ n. all_then (IsNoEffect n) (Seen (Told (Call m r))) past past' (w.once n);
    own = λ n q place called at all. elim (first_or_behind (Seen (Told (Call m r))) past (Seen (Told (Call n q))) called) [
      | inl is ↦
          let number : m ≡ n = cc (is) in
          All-cons (IsNoFailure n place) (Seen (Told (Call m r))) past' tt (none_failure n place past' (λ there. let low : n < next_number past' = tidy.faults n place there in absurd (omega (arith, low, number, counts))))
      | inr before ↦ All-cons (IsNoFailure n place) (Seen (Told (Call m r))) past' tt (w.own n q place before at (All-tail (IsNoFailure n place) (Seen (Told (Call m r))) past all))
    ];
    next = next_call past' m r counts ∙ ap (λ k. k + 1) w.next ∙ sym (next_call past m r (counts ∙ w.next));
    holds = w.holds;
    dated = λ o has. let low : o.behind ≤ next_number past = w.dated o has in let up : next_number ((Seen (Told (Call m r))) ∷ past) ≡ next_number past + 1 = next_call past m r (counts ∙ w.next) in omega (arith, low, up);
  }

  -- EVENTS

  pub record Inserted (past : List Event) (h : Held) (c : List Event) : Type 0 where
    pub events : List Event
    pub follow : MayFollow rules i past h events
    pub shares : shared_of events ≡ c

  value_in : (h h' : Held) → Wider (coded code h) (coded code h') → (s : List ℕ) → IsOneOf s h.now → IsOneOf s h'.now
  value_in h h' w s has =
      let found : (x : List ℕ) × IsOneOf x h'.now × (code s ≡ code x) = of_map code (code s) h'.now (w.now (code s) (one_map code s h.now has)) in
      subst (λ x. IsOneOf x h'.now) (sym (tells s found.0 found.2)) found.1

  left_in : (h h' : Held) → Wider (coded code h) (coded code h') → (s : List ℕ) → IsOneOf s (left h) → IsOneOf s (left h')
  left_in h h' w s has =
      let there : IsOneOf (code s) (left (coded code h)) = subst (λ vs. IsOneOf (code s) vs) (sym (coded_left code h)) (one_map code s (left h) has) in
      let found : (x : List ℕ) × IsOneOf x (left h') × (code s ≡ code x) =
      of_map code (code s) (left h') (subst (λ vs. IsOneOf (code s) vs) (coded_left code h') (wider_left (coded code h) (coded code h') w (code s) there)) in
      subst (λ x. IsOneOf x (left h')) (sym (tells s found.0 found.2)) found.1

  carries_too : (h h' : Held) (q : ClientRequest) (place : ℕ) (kind : Kind) (s : List ℕ) → Wider (coded code h) (coded code h') → Carries rules h q place kind s → Carries rules h' q place kind s
  carries_too h h' q place Read s w p = value_in h h' w s p
  carries_too h h' q place Write s w p = p
  carries_too h h' q place Flush s w p = absurd p

  module _ (past past' : List Event) (h h' : Held) (w : IsWide past past' h h') where
    open_too : (n : ℕ) (q : ClientRequest) → IsOpen past n q → IsOpen past' n q
    open_too n q o = record { called = w.calls n q o.called; awaits = w.awaits n o.awaits }

    same_next : (changes : List Change) → Wider (coded code (changed_by (next_number past) changes h)) (coded code (changed_by (next_number past') changes h'))
    same_next changes =
        subst (λ m. Wider (coded code (changed_by (next_number past) changes h)) (coded code (changed_by m changes h'))) (sym w.next) (wider_changes code (next_number past) changes h h' w.holds w.dated)

    effect_too : (n : ℕ) (sector : List ℕ) (mid : Held) (t : TakesEffect rules i past h n sector mid) → TakesEffect rules i past' h' n sector (acted rules (next_number past') n t.request t.place i h')
    effect_too n sector mid t = record {
      request = t.request;
      place = t.place;
      is_open = open_too n t.request t.is_open;
      there = t.there;
      idle = record { effect = λ at. w.once n (t.idle.effect at); failure = w.own n t.request t.place t.is_open.called t.there t.idle.failure };
      carries = carries_too h h' t.request t.place t.request.kind sector w.holds t.carries;
      after = refl;
    }

    fault_too : (n place : ℕ) (mid : Held) (f : FailsThere rules i past h n place mid) → IsAt rules i f.request place → FailsThere rules i past' h' n place (failed rules (next_number past') f.request place i h')
    fault_too n place mid f at = record {
      request = f.request;
      is_open = open_too n f.request f.is_open;
      admitted = f.admitted;
      inside = f.inside;
      idle = record { effect = λ at'. w.once n (f.idle.effect at'); failure = w.own n f.request place f.is_open.called at f.idle.failure };
      after = refl;
    }

    answer_too : (n : ℕ) (status : NtStatus) (bytes : List ℕ) (mid : Held) (a : IsAnswer rules i past h n status bytes mid) → (status ≡ Success → (place : ℕ) → place < place_count rules a.request → All (IsNoFailure n place) past')
        → IsAnswer rules i past' h' n status bytes (answered (next_number past') n a.request.kind status h')
    answer_too n status bytes mid a sound = record {
      request = a.request;
      is_open = open_too n a.request a.is_open;
      effect = λ good place at.
          let took : TookEffect rules past n a.request place bytes = a.effect good place at in
          record { sector = took.sector; before = w.effects n took.sector took.before; hands_over = took.hands_over };
      sound = sound;
      after = refl;
    }

  -- what goes on with these failures
  abbrev Inserts : List Event → List Event → Type 0
  Inserts c events = (past past' : List Event) (h h' : Held) → IsWide past past' h h' → Tidy past' → AreShown (lines_of events) → AreCounted (next_number past') (lines_of events) → Follows rules i past h events → Serves rules (shared_of past') c
      → Extends rules i (shared_of past') (shared_of events) c → Inserted past' h' c

  abbrev IsCaught : List Event → Type 0
  IsCaught (Effect n sector ∷ events) = ⊥
  IsCaught _ = Unit {0}

  drain : (c : List Event) → ((events : List Event) → IsCaught events → Inserts c events) → (events : List Event) → Inserts c events
  drain c on [] past past' h h' w tidy shown counts f s x = on [] tt past past' h h' w tidy shown counts f s x
  drain c on (Seen line ∷ events) past past' h h' w tidy shown counts f s x = on (Seen line ∷ events) tt past past' h h' w tidy shown counts f s x
  drain c on (Fails n place ∷ events) past past' h h' w tidy shown counts f s x = on (Fails n place ∷ events) tt past past' h h' w tidy shown counts f s x
  drain c on (Effect n sector ∷ events) past past' h h' w tidy shown counts f s x =
      let t : TakesEffect rules i past h n sector f.0 = f.1 in
      let wider : Wider (coded code f.0) (coded code (acted rules (next_number past') n t.request t.place i h')) =
      subst (λ (g : Held). Wider (coded code g) (coded code (acted rules (next_number past') n t.request t.place i h'))) (sym t.after)
      (same_next past past' h h' w (act_changes rules.sector_size n (work_of rules t.request (one_place t.place)) i)) in
      let dated : IsDated code (next_number past) f.0 =
      subst (λ (g : Held). IsDated code (next_number past) g) (sym t.after) (dated_changes code (next_number past) (act_changes rules.sector_size n (work_of rules t.request (one_place t.place)) i) h w.dated) in
      let rest : Inserted (Effect n sector ∷ past') (acted rules (next_number past') n t.request t.place i h') c =
      drain c on events (Effect n sector ∷ past) (Effect n sector ∷ past') f.0 (acted rules (next_number past') n t.request t.place i h')
      (wide_then (Effect n sector) past past' h h' f.0 (acted rules (next_number past') n t.request t.place i h') w (λ m r e. cc (e)) refl refl wider dated)
      (tidy_more (Effect n sector) past' (λ m r e. cc (e)) (λ m k e. absurd (cc (e))) refl tidy) shown counts f.3 s x in
      record {
        events = Effect n sector ∷ rest.events;
        follow = (acted rules (next_number past') n t.request t.place i h', effect_too past past' h h' w n sector f.0 t, rest.follow);
        shares = rest.shares;
      }

  at_end : (events : List Event) → IsCaught events → Inserts [] events
  at_end [] caught past past' h h' w tidy shown counts f s x = record { events = []; follow = tt; shares = refl }
  at_end (Seen line ∷ events) caught past past' h h' w tidy shown counts f s x = absurd (cc (x))
  at_end (Fails n place ∷ events) caught past past' h h' w tidy shown counts f s x = absurd (cc (x))
  at_end (Effect n sector ∷ events) caught past past' h h' w tidy shown counts f s x = absurd caught

  -- its own failure
  own_fault : (n place : ℕ) (c events : List Event) → ((events : List Event) → Inserts c events) → (past past' : List Event) (h h' : Held) → IsWide past past' h h' → Tidy past' → AreShown (lines_of events) → AreCounted (next_number past') (lines_of events)
      → Follows rules i past h (Fails n place ∷ events) → Serves rules (Fails n place ∷ shared_of past') c → Extends rules i (Fails n place ∷ shared_of past') (shared_of events) c → Inserted past' h' (Fails n place ∷ c)
  own_fault n place c events on past past' h h' w tidy shown counts f s x =
      let t : FailsThere rules i past h n place f.0 = f.1 in
      let owns : (q : ClientRequest) × Called past n q × IsAt rules i q place = f.2 in
      let own : owns.0 ≡ t.request = tidy.one n owns.0 t.request (w.calls n owns.0 owns.1) (w.calls n t.request t.is_open.called) in
      let wider : Wider (coded code f.0) (coded code (failed rules (next_number past') t.request place i h')) =
      subst (λ (g : Held). Wider (coded code g) (coded code (failed rules (next_number past') t.request place i h'))) (sym t.after)
      (same_next past past' h h' w (fault_changes rules.sector_size (work_of rules t.request (one_place place)) i)) in
      let dated : IsDated code (next_number past) f.0 =
      subst (λ (g : Held). IsDated code (next_number past) g) (sym t.after) (dated_changes code (next_number past) (fault_changes rules.sector_size (work_of rules t.request (one_place place)) i) h w.dated) in
      let low : n < next_number past' = tidy.below n t.request (w.calls n t.request t.is_open.called) in
      let rest : Inserted (Fails n place ∷ past') (failed rules (next_number past') t.request place i h') c =
      on events (Fails n place ∷ past) (Fails n place ∷ past') f.0 (failed rules (next_number past') t.request place i h')
      (wide_then (Fails n place) past past' h h' f.0 (failed rules (next_number past') t.request place i h') w (λ m r e. cc (e)) refl refl wider dated)
      (tidy_more (Fails n place) past' (λ m r e. cc (e)) (λ m k e. let number : n ≡ m = cc (e) in subst (λ y. y < next_number past') number low) refl tidy) shown counts f.3 s x in
      record {
        events = Fails n place ∷ rest.events;
        follow = (failed rules (next_number past') t.request place i h', fault_too past past' h h' w n place f.0 t (subst (λ q. IsAt rules i q place) own owns.2), rest.follow);
        shares = ap (λ es. Fails n place ∷ es) rest.shares;
      }

  unshared_seen : (past : List Event) (line : Line) → Contains (shared_of past) (Seen line) → Contains past (Seen line)
  unshared_seen [] line there = let low = there.1 in absurd (omega arith)
  unshared_seen (Seen l ∷ past) line there = elim (first_or_behind (Seen l) (shared_of past) (Seen line) there) [
    | inl is ↦ subst (λ y. Contains (Seen l ∷ past) y) is (newest (Seen l) past)
    | inr before ↦ further (Seen l) past (Seen line) (unshared_seen past line before)
  ]
  unshared_seen (Effect n sector ∷ past) line there = further (Effect n sector) past (Seen line) (unshared_seen past line there)
  unshared_seen (Fails n place ∷ past) line there = elim (first_or_behind (Fails n place) (shared_of past) (Seen line) there) [
    | inl is ↦ absurd (cc (is))
    | inr before ↦ further (Fails n place) past (Seen line) (unshared_seen past line before)
  ]

  unshared_open : (past : List Event) (n : ℕ) (q : ClientRequest) → IsOpen (shared_of past) n q → IsOpen past n q
  unshared_open past n q o = record { called = unshared_seen past (Told (Call n q)) o.called; awaits = all_unshared (IsNoAnswer n) (λ m sector. tt) past o.awaits }

  -- a failure elsewhere
  foreign_fault : (n place : ℕ) (c events : List Event) → ((events : List Event) → Inserts c events) → (past past' : List Event) (h h' : Held) → IsWide past past' h h' → Tidy past' → AreShown (lines_of events) → AreCounted (next_number past') (lines_of events)
      → Follows rules i past h events → Suits rules (shared_of past') (Fails n place) → Foreign rules i (shared_of past') (Fails n place) → Serves rules (Fails n place ∷ shared_of past') c
      → Extends rules i (Fails n place ∷ shared_of past') (shared_of events) c → Inserted past' h' (Fails n place ∷ c)
  foreign_fault n place c events on past past' h h' w tidy shown counts f suits foreign s x =
      let is_open : IsOpen past' n suits.0 = unshared_open past' n suits.0 suits.1 in
      let own : foreign.0 ≡ suits.0 = tidy.one n foreign.0 suits.0 (unshared_seen past' (Told (Call n foreign.0)) foreign.1) is_open.called in
      let low : n < next_number past' = tidy.below n suits.0 is_open.called in
      let wider : Wider (coded code h') (coded code (failed rules (next_number past') suits.0 place i h')) =
      wider_all_failing code (next_number past') (fault_changes rules.sector_size (work_of rules suits.0 (one_place place)) i) h' (fault_fails rules i suits.0 (one_place place)) in
      let rest : Inserted (Fails n place ∷ past') (failed rules (next_number past') suits.0 place i h') c =
      on events past (Fails n place ∷ past') h (failed rules (next_number past') suits.0 place i h') (record {
        calls = λ m r called. further (Fails n place) past' (Seen (Told (Call m r))) (w.calls m r called);
        effects = λ m sector there. further (Fails n place) past' (Effect m sector) (w.effects m sector there);
        awaits = λ m all. All-cons (IsNoAnswer m) (Fails n place) past' tt (w.awaits m all);
        once = λ m all. All-cons (IsNoEffect m) (Fails n place) past' tt (w.once m all);
        own = λ m r k called at all. All-cons (IsNoFailure m k) (Fails n place) past'
            (λ same here.
            let mine : r ≡ foreign.0 = tidy.one m r foreign.0 (w.calls m r called) (subst (λ y. Called past' y foreign.0) same (unshared_seen past' (Told (Call n foreign.0)) foreign.1)) in
            foreign.2 (subst (λ y. IsAt rules i foreign.0 y) (sym here) (subst (λ y. IsAt rules i y k) mine at)))
            (w.own m r k called at all);
        next = w.next;
        holds = wider_then (coded code h) (coded code h') (coded code (failed rules (next_number past') suits.0 place i h')) w.holds wider;
        dated = w.dated;
      })
      (tidy_more (Fails n place) past' (λ m r e. cc (e)) (λ m k e. let number : n ≡ m = cc (e) in subst (λ y. y < next_number past') number low) refl tidy) shown counts f s x in
      record {
        events = Fails n place ∷ rest.events;
        follow = (
          failed rules (next_number past') suits.0 place i h',
          record {
            request = suits.0;
            is_open = is_open;
            admitted = suits.2;
            inside = suits.3;
            idle = record { effect = λ at. absurd (foreign.2 (subst (λ y. IsAt rules i y place) (sym own) at)); failure = all_unshared (IsNoFailure n place) (λ m sector. tt) past' suits.4 };
            after = refl;
          },
          rest.follow,
        );
        shares = ap (λ es. Fails n place ∷ es) rest.shares;
      }

  at_fault : (n place : ℕ) (c : List Event) → ((events : List Event) → Inserts c events) → (events : List Event) → IsCaught events → Inserts (Fails n place ∷ c) events
  at_fault n place c on events caught past past' h h' w tidy shown counts f s x = elim x [
    | inr (foreign, rest) ↦ foreign_fault n place c events on past past' h h' w tidy shown counts f s.0 foreign s.1 rest
    | inl (a, is, rest) ↦ mine events caught shown counts f a is rest
  ]
    where
      mine : (events : List Event) → IsCaught events → AreShown (lines_of events) → AreCounted (next_number past') (lines_of events) → Follows rules i past h events → (a : List Event) → shared_of events ≡ Fails n place ∷ a
          → Extends rules i (Fails n place ∷ shared_of past') a c → Inserted past' h' (Fails n place ∷ c)
      mine [] caught shown counts f a is rest = absurd (cc (is))
      mine (Seen line ∷ events) caught shown counts f a is rest = absurd (cc (is))
      mine (Effect m sector ∷ events) caught shown counts f a is rest = absurd caught
      mine (Fails m k ∷ events) caught shown counts f a is rest =
          let number : m ≡ n = cc (is) in
          let here : k ≡ place = cc (is) in
          let same : shared_of events ≡ a = cc (is) in
          own_fault n place c events on past past' h h' w tidy shown counts (subst (λ y. Follows rules i past h (Fails n y ∷ events)) here (subst (λ y. Follows rules i past h (Fails y k ∷ events)) number f)) s.1
          (subst (λ y. Extends rules i (Fails n place ∷ shared_of past') y c) (sym same) rest)

  -- A LINE

  abbrev OnLine : Line → List Event → List Event → Type 0
  OnLine line c events = (past past' : List Event) (h h' : Held) → IsWide past past' h h' → Tidy past' → AreShown (lines_of (Seen line ∷ events)) → AreCounted (next_number past') (lines_of (Seen line ∷ events)) → Follows rules i past h (Seen line ∷ events)
      → Serves rules (shared_of past') (Seen line ∷ c) → Extends rules i (so_far (Seen line) (shared_of past')) (shared_of events) c → Inserted past' h' (Seen line ∷ c)

  on_line : (line : Line) (c events : List Event) → ((events : List Event) → Inserts c events) → OnLine line c events
  on_line Lost c events on past past' h h' w tidy shown counts f s x =
      let l : Leaves rules i (left h) f.0 = f.1 in
      let rest : Inserted [] f.0 c = on events [] [] f.0 f.0 (subst (λ g. IsWide [] [] g g) (sym l.after) (wide_first l.value)) tidy_first shown.1 counts f.3 s.1 x in
      record {
        events = Seen Lost ∷ rest.events;
        follow = (f.0, record { value = l.value; among = λ low. left_in h h' w.holds l.value (l.among low); after = l.after }, rest.follow);
        shares = ap (λ es. Seen Lost ∷ es) rest.shares;
      }
  on_line Ended c events on past past' h h' w tidy shown counts f s x =
      let l : Leaves rules i h.now f.0 = f.1 in
      let rest : Inserted [] f.0 c = on events [] [] f.0 f.0 (subst (λ g. IsWide [] [] g g) (sym l.after) (wide_first l.value)) tidy_first shown.1 counts f.3 s.1 x in
      record {
        events = Seen Ended ∷ rest.events;
        follow = (f.0, record { value = l.value; among = λ low. value_in h h' w.holds l.value (l.among low); after = l.after }, rest.follow);
        shares = ap (λ es. Seen Ended ∷ es) rest.shares;
      }
  on_line (Told (Call n q)) c events on past past' h h' w tidy shown counts f s x =
      let up : next_number (Seen (Told (Call n q)) ∷ past') ≡ next_number past' + 1 = next_call past' n q counts.0 in
      let w' : IsWide (Seen (Told (Call n q)) ∷ past) (Seen (Told (Call n q)) ∷ past') f.0 h' =
      subst (λ g. IsWide (Seen (Told (Call n q)) ∷ past) (Seen (Told (Call n q)) ∷ past') g h') (sym f.1) (wide_call n q past past' h h' counts.0 tidy w) in
      let rest : Inserted (Seen (Told (Call n q)) ∷ past') h' c =
      on events (Seen (Told (Call n q)) ∷ past) (Seen (Told (Call n q)) ∷ past') f.0 h' w' (tidy_call past' n q counts.0 tidy) shown.1 (subst (λ k. AreCounted k (lines_of events)) (sym up) counts.1) f.3 s.1 x in
      record { events = Seen (Told (Call n q)) ∷ rest.events; follow = (h', refl, rest.follow); shares = ap (λ es. Seen (Told (Call n q)) ∷ es) rest.shares }
  on_line (Told (Answer n status informed bytes)) c events on past past' h h' w tidy shown counts f s x =
      let a : IsAnswer rules i past h n status bytes f.0 = f.1 in
      let suits : (q : ClientRequest) × IsOpen (shared_of past') n q × (status ≡ Success → (place : ℕ) → place < place_count rules q → All (IsNoFailure n place) (shared_of past')) = s.0 in
      let own : suits.0 ≡ a.request = tidy.one n suits.0 a.request (unshared_seen past' (Told (Call n suits.0)) suits.1.called) (w.calls n a.request a.is_open.called) in
      let wider : Wider (coded code f.0) (coded code (answered (next_number past') n a.request.kind status h')) =
      subst (λ (g : Held). Wider (coded code g) (coded code (answered (next_number past') n a.request.kind status h'))) (sym a.after)
      (subst (λ m. Wider (coded code (answered (next_number past) n a.request.kind status h)) (coded code (answered m n a.request.kind status h'))) (sym w.next) (wider_answered code (next_number past) n a.request.kind status h h' w.holds w.dated)) in
      let dated : IsDated code (next_number past) f.0 = subst (λ (g : Held). IsDated code (next_number past) g) (sym a.after) (dated_answered code (next_number past) n a.request.kind status h w.dated) in
      let rest : Inserted (Seen (Told (Answer n status informed bytes)) ∷ past') (answered (next_number past') n a.request.kind status h') c =
      on events (Seen (Told (Answer n status informed bytes)) ∷ past) (Seen (Told (Answer n status informed bytes)) ∷ past') f.0 (answered (next_number past') n a.request.kind status h')
      (wide_then (Seen (Told (Answer n status informed bytes))) past past' h h' f.0 (answered (next_number past') n a.request.kind status h') w (λ m r e. cc (e)) refl refl wider dated)
      (tidy_more (Seen (Told (Answer n status informed bytes))) past' (λ m r e. cc (e)) (λ m k e. absurd (cc (e))) refl tidy) shown.1 counts f.3 s.1 x in
      record {
        events = Seen (Told (Answer n status informed bytes)) ∷ rest.events;
        follow = (
          answered (next_number past') n a.request.kind status h',
          answer_too past past' h h' w n status bytes f.0 a
              (λ good place low. all_unshared (IsNoFailure n place) (λ m sector. tt) past' (suits.2 good place (subst (λ q. place < place_count rules q) (sym own) low))),
          rest.follow,
        );
        shares = ap (λ es. Seen (Told (Answer n status informed bytes)) ∷ es) rest.shares;
      }
  on_line (Told (Device label)) c events on past past' h h' w tidy shown counts f s x = absurd shown.0
  on_line (Told (Cancel n)) c events on past past' h h' w tidy shown counts f s x = absurd shown.0
  on_line (Told Pause) c events on past past' h h' w tidy shown counts f s x = absurd shown.0
  on_line (Told Resume) c events on past past' h h' w tidy shown counts f s x = absurd shown.0
  on_line (Told Remove) c events on past past' h h' w tidy shown counts f s x = absurd shown.0
  on_line (Told Surprise) c events on past past' h h' w tidy shown counts f s x = absurd shown.0
  on_line (Told Removed) c events on past past' h h' w tidy shown counts f s x = absurd shown.0

  at_line : (line : Line) (c : List Event) → ((events : List Event) → Inserts c events) → (events : List Event) → IsCaught events → Inserts (Seen line ∷ c) events
  at_line line c on events caught past past' h h' w tidy shown counts f s x = elim x [
    | inr (foreign, rest) ↦ absurd foreign
    | inl (a, is, rest) ↦ mine events caught shown counts f a is rest
  ]
    where
      mine : (events : List Event) → IsCaught events → AreShown (lines_of events) → AreCounted (next_number past') (lines_of events) → Follows rules i past h events → (a : List Event) → shared_of events ≡ Seen line ∷ a
          → Extends rules i (so_far (Seen line) (shared_of past')) a c → Inserted past' h' (Seen line ∷ c)
      mine [] caught shown counts f a is rest = absurd (cc (is))
      mine (Fails m k ∷ events) caught shown counts f a is rest = absurd (cc (is))
      mine (Effect m sector ∷ events) caught shown counts f a is rest = absurd caught
      mine (Seen other ∷ events) caught shown counts f a is rest =
          let line_is : other ≡ line = cc (is) in
          let same : shared_of events ≡ a = cc (is) in
          on_line line c events on past past' h h' w tidy (subst (λ l. AreShown (l ∷ lines_of events)) line_is shown) (subst (λ l. AreCounted (next_number past') (l ∷ lines_of events)) line_is counts)
          (subst (λ l. Follows rules i past h (Seen l ∷ events)) line_is f) s (subst (λ y. Extends rules i (so_far (Seen line) (shared_of past')) y c) (sym same) rest)

  pub insert : (c events : List Event) → Inserts c events
  insert [] = drain [] at_end
  insert (Seen line ∷ c) = drain (Seen line ∷ c) (at_line line c (insert c))
  insert (Fails n place ∷ c) = drain (Fails n place ∷ c) (at_fault n place c (insert c))
  insert (Effect n sector ∷ c) = λ events past past' h h' w tidy shown counts f s x. absurd s.0
