-- Schedules hold where calls are seen earlier and answers later: the sectors then may hold more.
use Rattle.std.proofs.Common.{◌≡◌, ◌<◌, ◌≤◌, ◌⊎◌, inl, inr, ℕ, zero, suc, ◌+◌, Bool, true, false, cond, List, [], ◌∷◌, ◌++◌, refl, sym, ◌∙◌, ap, subst, arith, map}
use Rattle.std.specs.Prelude.{All, Contains, nat_le}
use Rattle.std.proofs.lemmas.Bool.Decides.{leb_tells}
use Rattle.std.proofs.lemmas.List.Elements.{All-head, All-tail, All-cons}
use Rattle.ntstatus.specs.declared.NtStatus.{NtStatus}
use Rattle.ntstatus.specs.declared.NtStatus.TheVariants.{Success}
use Rattle.srb.specs.declared.Kind.{Kind}
use Rattle.srb.specs.declared.Kind.TheVariants.{Read, Write, Flush}
use Rattle.machine.specs.declared.ClientRequest.{ClientRequest}
use Rattle.machine.specs.declared.Label.{Label}
use Rattle.machine.specs.declared.Label.TheVariants.{Call, Device, Answer, Cancel, Pause, Resume, Remove, Surprise, Removed}
use Rattle.machine.specs.Rules.{Rules}
use Rattle.machine_laws.specs.NumberLaws.{IsNoAnswerOf}
use Rattle.loss.specs.Held.{Change, Puts, Secures, Tries, Syncs, Doubts, Held, IsOneOf, act_changes, changed, changed_by, fault_changes, left, overwritten, surely, value_of}
use Rattle.loss.specs.Moved.{work_of}
use Rattle.loss.specs.Sessions.{Line, Told, Lost, Ended}
use Rattle.history_loss.specs.Schedules.{Event, Seen, Effect, Fails, AreScheduled, Carries, FailsThere, IsAnswer, IsIdle, IsNoAnswer, IsNoEffect, IsNoFailure, IsOpen, Leaves, MayFollow, Takes, TakesEffect, TookEffect, above, acted, answered, failed, lines_of, next_number, one_place, shared_of, so_far}
use Rattle.history_loss.specs.Widening.{CallsMoveUp, AnswersMoveDown}
use Rattle.history_loss.proofs.Mirroring.{further}
use Rattle.history_loss.proofs.Holding.{AllOlder, Older, Stays, StaysIn, all_older, both_older, grows_by, join_older, kept_older, new_older, one_of_either, one_of_first, one_of_second, stays_put, stays_synced, to_left}

-- THE NEXT NUMBER

above_at_least : (n m : ℕ) → (m ≤ above n m) × (suc n ≤ above n m)
above_at_least n m = by_order (leb_tells m n)
  where
    from : (b : Bool) → nat_le m n ≡ b → (m ≤ cond b (n + 1) m) × (suc n ≤ cond b (n + 1) m) → (m ≤ above n m) × (suc n ≤ above n m)
    from b e h = subst (λ (b : Bool). (m ≤ cond b (n + 1) m) × (suc n ≤ cond b (n + 1) m)) (sym e) h

    by_order : ((nat_le m n ≡ true) × (m ≤ n)) ⊎ ((nat_le m n ≡ false) × (n < m)) → (m ≤ above n m) × (suc n ≤ above n m)
    by_order (inl low) = from true low.0 (omega (arith, low.1), omega arith)
    by_order (inr high) = from false high.0 (omega arith, omega (arith, high.1))

above_least : (n m k : ℕ) → m ≤ k → suc n ≤ k → above n m ≤ k
above_least n m k a b = by_order (leb_tells m n)
  where
    from : (c : Bool) → nat_le m n ≡ c → cond c (n + 1) m ≤ k → above n m ≤ k
    from c e h = subst (λ (c : Bool). cond c (n + 1) m ≤ k) (sym e) h

    by_order : ((nat_le m n ≡ true) × (m ≤ n)) ⊎ ((nat_le m n ≡ false) × (n < m)) → above n m ≤ k
    by_order (inl low) = from true low.0 (omega (arith, b))
    by_order (inr high) = from false high.0 a

above_more : (n m m' : ℕ) → m ≤ m' → above n m ≤ above n m'
above_more n m m' low =
    let l = above_at_least n m' in
    above_least n m (above n m') (omega (arith, low, l.0)) l.1

next_up : (e : Event) (past : List Event) → next_number past ≤ next_number (e ∷ past)
next_up (Seen (Told (Call number q))) past = (above_at_least number (next_number past)).0
next_up (Seen (Told (Answer number status informed bytes))) past = omega arith
next_up (Seen (Told (Device label))) past = omega arith
next_up (Seen (Told (Cancel number))) past = omega arith
next_up (Seen (Told Pause)) past = omega arith
next_up (Seen (Told Resume)) past = omega arith
next_up (Seen (Told Remove)) past = omega arith
next_up (Seen (Told Surprise)) past = omega arith
next_up (Seen (Told Removed)) past = omega arith
next_up (Seen Lost) past = omega arith
next_up (Seen Ended) past = omega arith
next_up (Effect number sector) past = omega arith
next_up (Fails number place) past = omega arith

next_then : (e : Event) (past past' : List Event) → next_number past ≤ next_number past' → next_number (e ∷ past) ≤ next_number (e ∷ past')
next_then (Seen (Told (Call number q))) past past' low = above_more number (next_number past) (next_number past') low
next_then (Seen (Told (Answer number status informed bytes))) past past' low = low
next_then (Seen (Told (Device label))) past past' low = low
next_then (Seen (Told (Cancel number))) past past' low = low
next_then (Seen (Told Pause)) past past' low = low
next_then (Seen (Told Resume)) past past' low = low
next_then (Seen (Told Remove)) past past' low = low
next_then (Seen (Told Surprise)) past past' low = low
next_then (Seen (Told Removed)) past past' low = low
next_then (Seen Lost) past past' low = low
next_then (Seen Ended) past past' low = low
next_then (Effect number sector) past past' low = low
next_then (Fails number place) past past' low = low

-- a call may stand behind the next event as well as before it
next_swapped : (number : ℕ) (q : ClientRequest) (e : Event) (past : List Event) → next_number (Seen (Told (Call number q)) ∷ e ∷ past) ≤ next_number (e ∷ Seen (Told (Call number q)) ∷ past)
next_swapped number q e past =
    let first = next_then e past (Seen (Told (Call number q)) ∷ past) (next_up (Seen (Told (Call number q))) past) in
    let mine = (above_at_least number (next_number past)).1 in
    let up = next_up e (Seen (Told (Call number q)) ∷ past) in
    above_least number (next_number (e ∷ past)) (next_number (e ∷ Seen (Told (Call number q)) ∷ past)) first (omega (arith, mine, up))

called_below : (past : List Event) (number : ℕ) (q : ClientRequest) → Contains past (Seen (Told (Call number q))) → suc number ≤ next_number past
called_below [] number q (k, low, is) = absurd (omega arith)
called_below (e ∷ past) number q (zero, low, is) =
    subst (λ x. suc number ≤ next_number (x ∷ past)) (sym is) (above_at_least number (next_number past)).1
called_below (e ∷ past) number q (suc k, low, is) =
    let rest : suc number ≤ next_number past = called_below past number q (k, omega arith, is) in
    let up = next_up e past in
    omega (arith, rest, up)

-- WHAT MAY HOLD MORE

-- h' may hold what h may, and each value as long
record Below (next : ℕ) (h h' : Held) : Type 0 where
  now : (v : List ℕ) → IsOneOf v h.now → IsOneOf v h'.now
  older : AllOlder (λ o. Stays o.behind o.value h') h.older
  before : AllOlder (λ o. o.behind ≤ next) h.older

below_surely : (next : ℕ) (v : List ℕ) → Below next (surely v) (surely v)
below_surely next v = record { now = λ w p. p; older = tt; before = tt }

later_below : (next more : ℕ) (h h' : Held) → next ≤ more → Below next h h' → Below more h h'
later_below next more h h' low b = record { now = b.now; older = b.older; before = all_older (λ o. o.behind ≤ next) (λ o. o.behind ≤ more) (λ o p. omega (arith, p, low)) h.older b.before }

one_below : (v : List ℕ) (h : Held) (os : List Older) → AllOlder (λ o. Stays o.behind o.value h) os → IsOneOf v (map value_of os) → IsOneOf v (left h)
one_below v h [] all p = absurd p
one_below v h (o ∷ os) all (inl e) = subst (λ x. IsOneOf x (left h)) (sym e) (to_left o.behind o.value h all.0)
one_below v h (o ∷ os) all (inr p) = one_below v h os all.1 p

below_left : (next : ℕ) (h h' : Held) → Below next h h' → (v : List ℕ) → IsOneOf v (left h) → IsOneOf v (left h')
below_left next h h' b v p = elim (one_of_either v h.now (map value_of h.older) p) [
  | inl q ↦ one_of_first v h'.now (map value_of h'.older) (b.now v q)
  | inr q ↦ one_below v h' h.older b.older q
]

module _ (next again : ℕ) (more : next ≤ again) where
  below_by : (change : Change) (h h' : Held) → Below next h h' → Below next (changed next change h) (changed again change h')
  below_by (Puts x) h h' b = record {
    now = λ v p. p;
    older = join_older (λ o. Stays o.behind o.value (changed again (Puts x) h')) h.older (map (overwritten next) h.now)
        (both_older (λ o. Stays o.behind o.value h') (λ o. o.behind ≤ next) (λ o. Stays o.behind o.value (changed again (Puts x) h'))
        (λ o p low. stays_put next again o.behind o.value x h' (omega (arith, low, more)) p) h.older b.older b.before)
        (new_older (λ o. Stays o.behind o.value (changed again (Puts x) h')) next h.now (λ v p. stays_put next again next v x h' more (inl (b.now v p))));
    before = join_older (λ o. o.behind ≤ next) h.older (map (overwritten next) h.now) b.before (new_older (λ o. o.behind ≤ next) next h.now (λ v p. omega arith));
  }
  below_by (Secures x) h h' b = below_surely next x
  below_by (Tries x) h h' b = record {
    now = λ v p. elim (one_of_either v h.now (x ∷ []) p) [ inl q ↦ one_of_first v h'.now (x ∷ []) (b.now v q) | inr q ↦ one_of_second v h'.now (x ∷ []) q ];
    older = both_older (λ o. Stays o.behind o.value h') (λ o. o.behind ≤ next) (λ o. Stays o.behind o.value (changed again (Tries x) h'))
        (λ o p low. (grows_by again (Tries x) h' tt).stays o.behind o.value (omega (arith, low, more)) p) h.older b.older b.before;
    before = b.before;
  }
  below_by (Syncs n) h h' b = record {
    now = b.now;
    older = kept_older (λ o. Stays o.behind o.value h') (λ o. Stays o.behind o.value (changed again (Syncs n) h')) n
        (λ o late p. stays_synced next h h' again o.behind n o.value late p) h.older b.older;
    before = kept_older (λ o. o.behind ≤ next) (λ o. o.behind ≤ next) n (λ o late p. p) h.older b.before;
  }
  below_by Doubts h h' b = record { now = below_left next h h' b; older = tt; before = tt }

  below_changes : (changes : List Change) (h h' : Held) → Below next h h' → Below next (changed_by next changes h) (changed_by again changes h')
  below_changes [] h h' b = b
  below_changes (change ∷ changes) h h' b = below_changes changes (changed next change h) (changed again change h') (below_by change h h' b)

  below_answered : (number : ℕ) (kind : Kind) (status : NtStatus) (h h' : Held) → Below next h h' → Below next (answered next number kind status h) (answered again number kind status h')
  below_answered number Flush Success h h' b = below_by (Syncs number) h h' b
  below_answered number Flush _ h h' b = b
  below_answered number Read status h h' b = b
  below_answered number Write status h h' b = b

-- THE SAME SECTOR

self_older : (h : Held) (os : List Older) → ((c : ℕ) (v : List ℕ) → StaysIn c v os → StaysIn c v h.older) → AllOlder (λ o. Stays o.behind o.value h) os
self_older h [] keeps = tt
self_older h (o ∷ os) keeps = (inr (keeps o.behind o.value (inl (refl, omega arith))), self_older h os (λ c v p. keeps c v (inr p)))

-- what was overwritten was so before the next call
abbrev pub Dated : List Event → Held → Type 0
Dated past h = AllOlder (λ o. o.behind ≤ next_number past) h.older

below_self : (past : List Event) (h : Held) → Dated past h → Below (next_number past) h h
below_self past h dated = record { now = λ v p. p; older = self_older h h.older (λ c v p. p); before = dated }

-- WHAT ALLOWS AS MUCH

-- the same calls and effects, no more failures, perhaps more calls and fewer answers; and the sector may hold more
record IsWider (past past' : List Event) (h h' : Held) : Type 0 where
  calls : (number : ℕ) (q : ClientRequest) → Contains past (Seen (Told (Call number q))) → Contains past' (Seen (Told (Call number q)))
  effects : (number : ℕ) (sector : List ℕ) → Contains past (Effect number sector) → Contains past' (Effect number sector)
  awaits : (number : ℕ) → All (IsNoAnswer number) past → All (IsNoAnswer number) past'
  once : (number : ℕ) → All (IsNoEffect number) past → All (IsNoEffect number) past'
  sound : (number place : ℕ) → All (IsNoFailure number place) past → All (IsNoFailure number place) past'
  next : next_number past ≤ next_number past'
  below : Below (next_number past) h h'

contains_then : (e : Event) (past past' : List Event) (x : Event) → (Contains past x → Contains past' x) → Contains (e ∷ past) x → Contains (e ∷ past') x
contains_then e past past' x keeps (zero, low, is) = (0, omega arith, is)
contains_then e past past' x keeps (suc k, low, is) = further e past' x (keeps (k, omega arith, is))

contains_swapped : (a b : Event) (past : List Event) (x : Event) → Contains (a ∷ b ∷ past) x → Contains (b ∷ a ∷ past) x
contains_swapped a b past x (zero, low, is) = (1, omega arith, is)
contains_swapped a b past x (suc zero, low, is) = (0, omega arith, is)
contains_swapped a b past x (suc (suc k), low, is) = (suc (suc k), omega arith, is)

all_then : (P : Event → Type 0) (e : Event) (past past' : List Event) → (All P past → All P past') → All P (e ∷ past) → All P (e ∷ past')
all_then P e past past' keeps all = All-cons P e past' (All-head P e past all) (keeps (All-tail P e past all))

all_swapped : (P : Event → Type 0) (a b : Event) (past : List Event) → All P (a ∷ b ∷ past) → All P (b ∷ a ∷ past)
all_swapped P a b past all =
    let rest : All P (b ∷ past) = All-tail P a (b ∷ past) all in
    All-cons P b (a ∷ past) (All-head P b past rest) (All-cons P a past (All-head P a (b ∷ past) all) (All-tail P b past rest))

wider_none : (v : List ℕ) → IsWider [] [] (surely v) (surely v)
wider_none v = record {
  calls = λ number q c. c;
  effects = λ number sector c. c;
  awaits = λ number a. a;
  once = λ number a. a;
  sound = λ number place a. a;
  next = omega arith;
  below = below_surely 1 v;
}

module _ (e : Event) (past past' : List Event) (h h' mid mid' : Held) (w : IsWider past past' h h') (b : Below (next_number past) mid mid') where
  wider_then : IsWider (e ∷ past) (e ∷ past') mid mid'
  wider_then = record {
    calls = λ number q. contains_then e past past' (Seen (Told (Call number q))) (w.calls number q);
    effects = λ number sector. contains_then e past past' (Effect number sector) (w.effects number sector);
    awaits = λ number. all_then (IsNoAnswer number) e past past' (w.awaits number);
    once = λ number. all_then (IsNoEffect number) e past past' (w.once number);
    sound = λ number place. all_then (IsNoFailure number place) e past past' (w.sound number place);
    next = next_then e past past' w.next;
    below = later_below (next_number past) (next_number (e ∷ past)) mid mid' (next_up e past) b;
  }

swapped : (a e : Event) (past : List Event) (h h' : Held) → next_number (a ∷ e ∷ past) ≤ next_number (e ∷ a ∷ past) → Below (next_number (a ∷ e ∷ past)) h h' → IsWider (a ∷ e ∷ past) (e ∷ a ∷ past) h h'
swapped a e past h h' next b = record {
  calls = λ number q. contains_swapped a e past (Seen (Told (Call number q)));
  effects = λ number sector. contains_swapped a e past (Effect number sector);
  awaits = λ number. all_swapped (IsNoAnswer number) a e past;
  once = λ number. all_swapped (IsNoEffect number) a e past;
  sound = λ number place. all_swapped (IsNoFailure number place) a e past;
  next = next;
  below = b;
}

one_call_more : (number : ℕ) (q : ClientRequest) (past : List Event) (h : Held) → Dated past h → IsWider past (Seen (Told (Call number q)) ∷ past) h h
one_call_more number q past h dated = record {
  calls = λ n r. further (Seen (Told (Call number q))) past (Seen (Told (Call n r)));
  effects = λ n sector. further (Seen (Told (Call number q))) past (Effect n sector);
  awaits = λ n all. All-cons (IsNoAnswer n) (Seen (Told (Call number q))) past tt all;
  once = λ n all. All-cons (IsNoEffect n) (Seen (Told (Call number q))) past tt all;
  sound = λ n place all. All-cons (IsNoFailure n place) (Seen (Told (Call number q))) past tt all;
  next = next_up (Seen (Told (Call number q))) past;
  below = below_self past h dated;
}

one_answer_less : (number : ℕ) (status : NtStatus) (informed : ℕ) (bytes : List ℕ) (past : List Event) (h h' : Held) → Below (next_number past) h h'
    → IsWider (Seen (Told (Answer number status informed bytes)) ∷ past) past h h'
one_answer_less number status informed bytes past h h' b = record {
  calls = λ n r there. not_first (Seen (Told (Call n r))) (λ e. cc (e)) there;
  effects = λ n sector there. not_first (Effect n sector) (λ e. cc (e)) there;
  awaits = λ n all. All-tail (IsNoAnswer n) (Seen (Told (Answer number status informed bytes))) past all;
  once = λ n all. All-tail (IsNoEffect n) (Seen (Told (Answer number status informed bytes))) past all;
  sound = λ n place all. All-tail (IsNoFailure n place) (Seen (Told (Answer number status informed bytes))) past all;
  next = omega arith;
  below = b;
}
  where
    not_first : (x : Event) → (Seen (Told (Answer number status informed bytes)) ≡ x → ⊥) → Contains (Seen (Told (Answer number status informed bytes)) ∷ past) x → Contains past x
    not_first x other (zero, low, is) = absurd (other is)
    not_first x other (suc k, low, is) = (k, omega arith, is)

-- WHAT MAY FOLLOW

-- the event may come there too, and leaves as much
record Took (rules : Rules) (i : ℕ) (past past' : List Event) (h' : Held) (e : Event) (mid : Held) : Type 0 where
  mid' : Held
  takes : Takes rules i past' h' e mid'
  wider : IsWider (so_far e past) (so_far e past') mid mid'

module _ (rules : Rules) (i : ℕ) where
  carries_wider : (next : ℕ) (h h' : Held) (q : ClientRequest) (place : ℕ) (kind : Kind) (sector : List ℕ) → Below next h h' → Carries rules h q place kind sector → Carries rules h' q place kind sector
  carries_wider next h h' q place Read sector b p = b.now sector p
  carries_wider next h h' q place Write sector b p = p
  carries_wider next h h' q place Flush sector b p = absurd p

  module _ (past past' : List Event) (h h' : Held) (w : IsWider past past' h h') where
    open_wider : (number : ℕ) (q : ClientRequest) → IsOpen past number q → IsOpen past' number q
    open_wider number q o = record { called = w.calls number q o.called; awaits = w.awaits number o.awaits }

    idle_wider : (number : ℕ) (q : ClientRequest) (place : ℕ) → IsIdle rules i past number q place → IsIdle rules i past' number q place
    idle_wider number q place d = record { effect = λ at. w.once number (d.effect at); failure = w.sound number place d.failure }

    took_effect : (number : ℕ) (sector : List ℕ) (mid : Held) → TakesEffect rules i past h number sector mid → Took rules i past past' h' (Effect number sector) mid
    took_effect number sector mid t =
        let changes : List Change = act_changes rules.sector_size number (work_of rules t.request (one_place t.place)) i in
        let b : Below (next_number past) (changed_by (next_number past) changes h) (changed_by (next_number past') changes h') =
        below_changes (next_number past) (next_number past') w.next (act_changes rules.sector_size number (work_of rules t.request (one_place t.place)) i) h h' w.below in
        record {
          mid' = acted rules (next_number past') number t.request t.place i h';
          takes = record {
            request = t.request;
            place = t.place;
            is_open = open_wider number t.request t.is_open;
            there = t.there;
            idle = idle_wider number t.request t.place t.idle;
            carries = carries_wider (next_number past) h h' t.request t.place t.request.kind sector w.below t.carries;
            after = refl;
          };
          wider = wider_then (Effect number sector) past past' h h' mid (acted rules (next_number past') number t.request t.place i h') w
              (subst (λ x. Below (next_number past) x (acted rules (next_number past') number t.request t.place i h')) (sym t.after) b);
        }

    took_failure : (number place : ℕ) (mid : Held) → FailsThere rules i past h number place mid → Took rules i past past' h' (Fails number place) mid
    took_failure number place mid t =
        let b : Below (next_number past) (failed rules (next_number past) t.request place i h) (failed rules (next_number past') t.request place i h') =
        below_changes (next_number past) (next_number past') w.next (fault_changes rules.sector_size (work_of rules t.request (one_place place)) i) h h' w.below in
        record {
          mid' = failed rules (next_number past') t.request place i h';
          takes = record {
            request = t.request;
            is_open = open_wider number t.request t.is_open;
            admitted = t.admitted;
            inside = t.inside;
            idle = idle_wider number t.request place t.idle;
            after = refl;
          };
          wider = wider_then (Fails number place) past past' h h' mid (failed rules (next_number past') t.request place i h') w
              (subst (λ x. Below (next_number past) x (failed rules (next_number past') t.request place i h')) (sym t.after) b);
        }

    took_answer : (number : ℕ) (status : NtStatus) (informed : ℕ) (bytes : List ℕ) (mid : Held) → IsAnswer rules i past h number status bytes mid
        → Took rules i past past' h' (Seen (Told (Answer number status informed bytes))) mid
    took_answer number status informed bytes mid t =
        let b : Below (next_number past) (answered (next_number past) number t.request.kind status h) (answered (next_number past') number t.request.kind status h') =
        below_answered (next_number past) (next_number past') w.next number t.request.kind status h h' w.below in
        record {
          mid' = answered (next_number past') number t.request.kind status h';
          takes = record {
            request = t.request;
            is_open = open_wider number t.request t.is_open;
            effect = λ e place at. let took : TookEffect rules past number t.request place bytes = t.effect e place at in
                record { sector = took.sector; before = w.effects number took.sector took.before; hands_over = took.hands_over };
            sound = λ e place low. w.sound number place (t.sound e place low);
            after = refl;
          };
          wider = wider_then (Seen (Told (Answer number status informed bytes))) past past' h h' mid (answered (next_number past') number t.request.kind status h') w
              (subst (λ x. Below (next_number past) x (answered (next_number past') number t.request.kind status h')) (sym t.after) b);
        }

    took_nothing : (label : Label) (mid : Held) → mid ≡ h → Takes rules i past' h' (Seen (Told label)) h' → Took rules i past past' h' (Seen (Told label)) mid
    took_nothing label mid is takes = record {
      mid' = h';
      takes = takes;
      wider = wider_then (Seen (Told label)) past past' h h' mid h' w (subst (λ x. Below (next_number past) x h') (sym is) w.below);
    }

    ended_wider : (values values' : List (List ℕ)) (mid : Held) → ((v : List ℕ) → IsOneOf v values → IsOneOf v values') → Leaves rules i values mid → Leaves rules i values' mid
    ended_wider values values' mid more l = record { value = l.value; among = λ low. more l.value (l.among low); after = l.after }

    ended_same : (values : List (List ℕ)) (mid : Held) → Leaves rules i values mid → IsWider [] [] mid mid
    ended_same values mid l = subst (λ x. IsWider [] [] x x) (sym l.after) (wider_none l.value)

    took : (e : Event) (mid : Held) → Takes rules i past h e mid → Took rules i past past' h' e mid
    took (Effect number sector) mid t = took_effect number sector mid t
    took (Fails number place) mid t = took_failure number place mid t
    took (Seen (Told (Answer number status informed bytes))) mid t = took_answer number status informed bytes mid t
    took (Seen Lost) mid t = record { mid' = mid; takes = ended_wider (left h) (left h') mid (below_left (next_number past) h h' w.below) t; wider = ended_same (left h) mid t }
    took (Seen Ended) mid t = record { mid' = mid; takes = ended_wider h.now h'.now mid w.below.now t; wider = ended_same h.now mid t }
    took (Seen (Told (Call number q))) mid t = took_nothing (Call number q) mid t refl
    took (Seen (Told (Device label))) mid t = took_nothing (Device label) mid t refl
    took (Seen (Told (Cancel number))) mid t = took_nothing (Cancel number) mid t refl
    took (Seen (Told Pause)) mid t = took_nothing Pause mid t refl
    took (Seen (Told Resume)) mid t = took_nothing Resume mid t refl
    took (Seen (Told Remove)) mid t = took_nothing Remove mid t refl
    took (Seen (Told Surprise)) mid t = took_nothing Surprise mid t refl
    took (Seen (Told Removed)) mid t = took_nothing Removed mid t refl

  follow_wider : (events past past' : List Event) (h h' : Held) → IsWider past past' h h' → MayFollow rules i past h events → MayFollow rules i past' h' events
  follow_wider [] past past' h h' w m = tt
  follow_wider (e ∷ events) past past' h h' w m =
      let t : Took rules i past past' h' e m.0 = took past past' h h' w e m.0 m.1 in
      (t.mid', t.takes, follow_wider events (so_far e past) (so_far e past') m.0 t.mid' t.wider m.2)

  self_wider : (past : List Event) (h : Held) → Dated past h → IsWider past past h h
  self_wider past h dated = record {
    calls = λ number q c. c;
    effects = λ number sector c. c;
    awaits = λ number a. a;
    once = λ number a. a;
    sound = λ number place a. a;
    next = omega arith;
    below = below_self past h dated;
  }

  pub dated_then : (past : List Event) (h : Held) (e : Event) (mid : Held) → Dated past h → Takes rules i past h e mid → Dated (so_far e past) mid
  dated_then past h e mid dated t = (took past past h h (self_wider past h dated) e mid t).wider.below.before

-- ONE LINE IS MOVED

abbrev without_first : List Event → List Event
without_first [] = []
without_first (Seen line ∷ events) = events
without_first (Effect number sector ∷ events) = Effect number sector ∷ without_first events
without_first (Fails number place ∷ events) = Fails number place ∷ without_first events

-- with this line behind the first
abbrev with_behind : Line → List Event → List Event
with_behind line [] = []
with_behind line (Seen first ∷ events) = Seen first ∷ Seen line ∷ events
with_behind line (Effect number sector ∷ events) = Effect number sector ∷ with_behind line events
with_behind line (Fails number place ∷ events) = Fails number place ∷ with_behind line events

-- changed from the line on that stands behind these
abbrev at_line : (Line → List Event → List Event) → List Line → List Event → List Event
at_line f before [] = []
at_line f before (Effect number sector ∷ events) = Effect number sector ∷ at_line f before events
at_line f before (Fails number place ∷ events) = Fails number place ∷ at_line f before events
at_line f [] (Seen line ∷ events) = f line events
at_line f (b ∷ before) (Seen line ∷ events) = Seen line ∷ at_line f before events

lines_shared : (events : List Event) → lines_of (shared_of events) ≡ lines_of events
lines_shared [] = refl
lines_shared (Seen line ∷ events) = ap (λ xs. line ∷ xs) (lines_shared events)
lines_shared (Effect number sector ∷ events) = lines_shared events
lines_shared (Fails number place ∷ events) = lines_shared events

shared_without : (events : List Event) → shared_of (without_first events) ≡ without_first (shared_of events)
shared_without [] = refl
shared_without (Seen line ∷ events) = refl
shared_without (Effect number sector ∷ events) = shared_without events
shared_without (Fails number place ∷ events) = ap (λ xs. Fails number place ∷ xs) (shared_without events)

shared_behind : (line : Line) (events : List Event) → shared_of (with_behind line events) ≡ with_behind line (shared_of events)
shared_behind line [] = refl
shared_behind line (Seen first ∷ events) = refl
shared_behind line (Effect number sector ∷ events) = shared_behind line events
shared_behind line (Fails number place ∷ events) = ap (λ xs. Fails number place ∷ xs) (shared_behind line events)

lines_without : (first : Line) (after : List Line) (events : List Event) → lines_of events ≡ first ∷ after → lines_of (without_first events) ≡ after
lines_without first after [] is = absurd (cc (is))
lines_without first after (Seen line ∷ events) is = cc (is)
lines_without first after (Effect number sector ∷ events) is = lines_without first after events is
lines_without first after (Fails number place ∷ events) is = lines_without first after events is

lines_behind : (line first : Line) (after : List Line) (events : List Event) → lines_of events ≡ first ∷ after → lines_of (with_behind line events) ≡ first ∷ line ∷ after
lines_behind line first after [] is = absurd (cc (is))
lines_behind line first after (Seen other ∷ events) is = cc (is)
lines_behind line first after (Effect number sector ∷ events) is = lines_behind line first after events is
lines_behind line first after (Fails number place ∷ events) is = lines_behind line first after events is

module _ (f : Line → List Event → List Event) where
  shared_at : ((line : Line) (events : List Event) → shared_of (f line events) ≡ f line (shared_of events)) → (before : List Line) (events : List Event)
      → shared_of (at_line f before events) ≡ at_line f before (shared_of events)
  shared_at same before [] = refl
  shared_at same before (Effect number sector ∷ events) = shared_at same before events
  shared_at same before (Fails number place ∷ events) = ap (λ xs. Fails number place ∷ xs) (shared_at same before events)
  shared_at same [] (Seen line ∷ events) = same line events
  shared_at same (b ∷ before) (Seen line ∷ events) = ap (λ xs. Seen line ∷ xs) (shared_at same before events)

  module _ (first : Line) (xs ys : List Line) where
    lines_at : ((line : Line) (events : List Event) → line ≡ first → lines_of events ≡ xs → lines_of (f line events) ≡ ys)
        → (before : List Line) (events : List Event) → lines_of events ≡ before ++ first ∷ xs → lines_of (at_line f before events) ≡ before ++ ys
    lines_at change [] [] is = absurd (cc (is))
    lines_at change (b ∷ before) [] is = absurd (cc (is))
    lines_at change before (Effect number sector ∷ events) is = lines_at change before events is
    lines_at change before (Fails number place ∷ events) is = lines_at change before events is
    lines_at change [] (Seen line ∷ events) is = let a : line ≡ first = cc (is) in let b : lines_of events ≡ xs = cc (is) in change line events a b
    lines_at change (b ∷ before) (Seen line ∷ events) is =
        let same : line ≡ b = cc (is) in
        let rest : lines_of events ≡ before ++ first ∷ xs = cc (is) in
        ap (λ zs. line ∷ zs) (lines_at change before events rest) ∙ ap (λ l. l ∷ (before ++ ys)) same

    follow_at : (rules : Rules) (i : ℕ) → ((line : Line) (events past : List Event) (h : Held) → Dated past h → line ≡ first → lines_of events ≡ xs → MayFollow rules i past h (Seen line ∷ events) → MayFollow rules i past h (f line events))
        → (before : List Line) (events past : List Event) (h : Held) → Dated past h → lines_of events ≡ before ++ first ∷ xs → MayFollow rules i past h events → MayFollow rules i past h (at_line f before events)
    follow_at rules i change [] [] past h dated is m = absurd (cc (is))
    follow_at rules i change (b ∷ before) [] past h dated is m = absurd (cc (is))
    follow_at rules i change before (Effect number sector ∷ events) past h dated is m =
        (m.0, m.1, follow_at rules i change before events (Effect number sector ∷ past) m.0 (dated_then rules i past h (Effect number sector) m.0 dated m.1) is m.2)
    follow_at rules i change before (Fails number place ∷ events) past h dated is m =
        (m.0, m.1, follow_at rules i change before events (Fails number place ∷ past) m.0 (dated_then rules i past h (Fails number place) m.0 dated m.1) is m.2)
    follow_at rules i change [] (Seen line ∷ events) past h dated is m = let a : line ≡ first = cc (is) in let b : lines_of events ≡ xs = cc (is) in change line events past h dated a b m
    follow_at rules i change (b ∷ before) (Seen line ∷ events) past h dated is m =
        let rest : lines_of events ≡ before ++ first ∷ xs = cc (is) in
        (m.0, m.1, follow_at rules i change before events (so_far (Seen line) past) m.0 (dated_then rules i past h (Seen line) m.0 dated m.1) rest m.2)

    -- all sectors, by the same change
    all_at : (rules : Rules) (disk : ℕ → List ℕ) → ((line : Line) (events : List Event) → shared_of (f line events) ≡ f line (shared_of events))
        → ((line : Line) (events : List Event) → line ≡ first → lines_of events ≡ xs → lines_of (f line events) ≡ ys)
        → ((i : ℕ) (line : Line) (events past : List Event) (h : Held) → Dated past h → line ≡ first → lines_of events ≡ xs → MayFollow rules i past h (Seen line ∷ events) → MayFollow rules i past h (f line events))
        → (before : List Line) → AreScheduled rules disk (before ++ first ∷ xs) → AreScheduled rules disk (before ++ ys)
    all_at rules disk same change follow before all = record {
      shared = at_line f before all.shared;
      seen = lines_at change before all.shared all.seen;
      each = λ i.
          let one = all.each i in
          record {
            events = at_line f before one.events;
            in_turn = follow_at rules i (follow i) before one.events [] (surely (disk i)) tt (sym (lines_shared one.events) ∙ ap lines_of one.shares ∙ all.seen) one.in_turn;
            shares = shared_at same before one.events ∙ ap (λ es. at_line f before es) one.shares;
          };
    }

-- A CALL MOVES UP

module _ (rules : Rules) (i number : ℕ) (q : ClientRequest) (after : List Line) where
  abbrev call : Event
  call = Seen (Told (Call number q))

  -- the call stands before an event of the sector
  call_over : (e : Event) (past events : List Event) (h mid : Held) → Dated past h → (t : Took rules i past (call ∷ past) h e mid) → Below (next_number (call ∷ e ∷ past)) mid t.mid' → MayFollow rules i (call ∷ e ∷ past) mid events
      → MayFollow rules i (e ∷ call ∷ past) t.mid' events
  call_over e past events h mid dated t b m = follow_wider rules i events (call ∷ e ∷ past) (e ∷ call ∷ past) mid t.mid' (swapped call e past mid t.mid' (next_swapped number q e past) b) m

  -- the next call is taken out of the events, and put in front of them
  call_first : (events past : List Event) (h : Held) → Dated past h → lines_of events ≡ Told (Call number q) ∷ after → MayFollow rules i past h events → MayFollow rules i (call ∷ past) h (without_first events)
  call_first [] past h dated is m = absurd (cc (is))
  call_first (Effect n sector ∷ events) past h dated is m =
      let next : MayFollow rules i (call ∷ Effect n sector ∷ past) m.0 (without_first events) = call_first events (Effect n sector ∷ past) m.0 (dated_then rules i past h (Effect n sector) m.0 dated m.1) is m.2 in
      let t : Took rules i past (call ∷ past) h (Effect n sector) m.0 = took rules i past (call ∷ past) h h (one_call_more number q past h dated) (Effect n sector) m.0 m.1 in (
        t.mid',
        t.takes,
        call_over (Effect n sector) past (without_first events) h m.0 dated t
            (later_below (next_number (Effect n sector ∷ past)) (next_number (call ∷ Effect n sector ∷ past)) m.0 t.mid' (next_up call (Effect n sector ∷ past)) t.wider.below) next,
      )
  call_first (Fails n place ∷ events) past h dated is m =
      let next : MayFollow rules i (call ∷ Fails n place ∷ past) m.0 (without_first events) = call_first events (Fails n place ∷ past) m.0 (dated_then rules i past h (Fails n place) m.0 dated m.1) is m.2 in
      let t : Took rules i past (call ∷ past) h (Fails n place) m.0 = took rules i past (call ∷ past) h h (one_call_more number q past h dated) (Fails n place) m.0 m.1 in (
        t.mid',
        t.takes,
        call_over (Fails n place) past (without_first events) h m.0 dated t
            (later_below (next_number (Fails n place ∷ past)) (next_number (call ∷ Fails n place ∷ past)) m.0 t.mid' (next_up call (Fails n place ∷ past)) t.wider.below) next,
      )
  call_first (Seen line ∷ events) past h dated is m =
      let same : line ≡ Told (Call number q) = cc (is) in
      let called : MayFollow rules i past h (Seen (Told (Call number q)) ∷ events) = subst (λ l. MayFollow rules i past h (Seen l ∷ events)) same m in
      subst (λ x. MayFollow rules i (call ∷ past) x events) called.1 called.2

  call_up : (label : Label) (events past : List Event) (h : Held) → Dated past h → lines_of events ≡ Told (Call number q) ∷ after → MayFollow rules i past h (Seen (Told label) ∷ events)
      → MayFollow rules i past h (call ∷ Seen (Told label) ∷ without_first events)
  call_up label events past h dated is m =
      let next : MayFollow rules i (call ∷ Seen (Told label) ∷ past) m.0 (without_first events) =
      call_first events (Seen (Told label) ∷ past) m.0 (dated_then rules i past h (Seen (Told label)) m.0 dated m.1) is m.2 in
      let t : Took rules i past (call ∷ past) h (Seen (Told label)) m.0 = took rules i past (call ∷ past) h h (one_call_more number q past h dated) (Seen (Told label)) m.0 m.1 in (
        h,
        refl,
        (
          t.mid',
          t.takes,
          call_over (Seen (Told label)) past (without_first events) h m.0 dated t
              (later_below (next_number (Seen (Told label) ∷ past)) (next_number (call ∷ Seen (Told label) ∷ past)) m.0 t.mid' (next_up call (Seen (Told label) ∷ past)) t.wider.below) next,
        ),
      )

pub calls_up : CallsMoveUp
calls_up rules disk before label number q after h =
    all_at (λ line events. Seen (Told (Call number q)) ∷ Seen line ∷ without_first events) (Told label) (Told (Call number q) ∷ after) (Told (Call number q) ∷ Told label ∷ after) rules disk
    (λ line events. ap (λ xs. Seen (Told (Call number q)) ∷ Seen line ∷ xs) (shared_without events))
    (λ line events same is. ap (λ xs. Told (Call number q) ∷ line ∷ xs) (lines_without (Told (Call number q)) after events is) ∙ ap (λ l. Told (Call number q) ∷ l ∷ after) same)
    (λ i line events past g dated same is m. subst (λ l. MayFollow rules i past g (Seen (Told (Call number q)) ∷ Seen l ∷ without_first events)) (sym same)
    (call_up rules i number q after label events past g dated is (subst (λ l. MayFollow rules i past g (Seen l ∷ events)) same m)))
    before h

-- AN ANSWER MOVES DOWN

-- each value was overwritten behind the call of this number
abbrev IsLate : ℕ → List Older → Type 0
IsLate number os = AllOlder (λ o. number < o.behind) os

late_by : (next number : ℕ) (change : Change) (h : Held) → number < next → IsLate number h.older → IsLate number (changed next change h).older
late_by next number (Puts x) h low late = join_older (λ o. number < o.behind) h.older (map (overwritten next) h.now) late (new_older (λ o. number < o.behind) next h.now (λ v p. low))
late_by next number (Secures x) h low late = tt
late_by next number (Tries x) h low late = late
late_by next number (Syncs n) h low late = kept_older (λ o. number < o.behind) (λ o. number < o.behind) n (λ o after p. p) h.older late
late_by next number Doubts h low late = tt

late_changes : (next number : ℕ) (changes : List Change) (h : Held) → number < next → IsLate number h.older → IsLate number (changed_by next changes h).older
late_changes next number [] h low late = late
late_changes next number (change ∷ changes) h low late = late_changes next number changes (changed next change h) low (late_by next number change h low late)

late_answered : (next number other : ℕ) (kind : Kind) (status : NtStatus) (h : Held) → number < next → IsLate number h.older → IsLate number (answered next other kind status h).older
late_answered next number other Flush Success h low late = late_by next number (Syncs other) h low late
late_answered next number other Flush _ h low late = late
late_answered next number other Read status h low late = late
late_answered next number other Write status h low late = late

module _ (rules : Rules) (i : ℕ) (past : List Event) (h : Held) (number : ℕ) (low : number < next_number past) (late : IsLate number h.older) where
  late_takes : (e : Event) (mid : Held) → Takes rules i past h e mid → IsLate number mid.older
  late_takes (Effect n sector) mid t =
      subst (λ x. IsLate number x.older) (sym t.after) (late_changes (next_number past) number (act_changes rules.sector_size n (work_of rules t.request (one_place t.place)) i) h low late)
  late_takes (Fails n place) mid t =
      subst (λ x. IsLate number x.older) (sym t.after) (late_changes (next_number past) number (fault_changes rules.sector_size (work_of rules t.request (one_place place)) i) h low late)
  late_takes (Seen (Told (Answer n status informed bytes))) mid t =
      subst (λ x. IsLate number x.older) (sym t.after) (late_answered (next_number past) number n t.request.kind status h low late)
  late_takes (Seen Lost) mid t = subst (λ x. IsLate number x.older) (sym t.after) tt
  late_takes (Seen Ended) mid t = subst (λ x. IsLate number x.older) (sym t.after) tt
  late_takes (Seen (Told (Call n q))) mid t = subst (λ x. IsLate number x.older) (sym t) late
  late_takes (Seen (Told (Device label))) mid t = subst (λ x. IsLate number x.older) (sym t) late
  late_takes (Seen (Told (Cancel n))) mid t = subst (λ x. IsLate number x.older) (sym t) late
  late_takes (Seen (Told Pause)) mid t = subst (λ x. IsLate number x.older) (sym t) late
  late_takes (Seen (Told Resume)) mid t = subst (λ x. IsLate number x.older) (sym t) late
  late_takes (Seen (Told Remove)) mid t = subst (λ x. IsLate number x.older) (sym t) late
  late_takes (Seen (Told Surprise)) mid t = subst (λ x. IsLate number x.older) (sym t) late
  late_takes (Seen (Told Removed)) mid t = subst (λ x. IsLate number x.older) (sym t) late

-- an answer leaves no more, and of a flush only what is late
module _ (next number : ℕ) where
  answered_below : (kind : Kind) (status : NtStatus) (h : Held) → Below next h h → Below next (answered next number kind status h) h
  answered_below Flush Success h b = record {
    now = b.now;
    older = kept_older (λ o. Stays o.behind o.value h) (λ o. Stays o.behind o.value h) number (λ o late p. p) h.older b.older;
    before = kept_older (λ o. o.behind ≤ next) (λ o. o.behind ≤ next) number (λ o late p. p) h.older b.before;
  }
  answered_below Flush _ h b = b
  answered_below Read status h b = b
  answered_below Write status h b = b

  answered_late : (kind : Kind) (status : NtStatus) (h : Held) → kind ≡ Flush → status ≡ Success → IsLate number (answered next number kind status h).older
  answered_late Flush Success h flush success = kept_older (λ o. Unit {0}) (λ o. number < o.behind) number (λ o late p. late) h.older (each h.older)
    where
      each : (os : List Older) → AllOlder (λ o. Unit {0}) os
      each [] = tt
      each (o ∷ os) = (tt, each os)
  answered_late Flush _ h flush success = absurd (cc (success))
  answered_late Read status h flush success = absurd (cc (flush))
  answered_late Write status h flush success = absurd (cc (flush))

  late_below : (again : ℕ) (kind : Kind) (status : NtStatus) (h h' : Held) → (kind ≡ Flush → status ≡ Success → IsLate number h.older) → Below next h h' → Below next h (answered again number kind status h')
  late_below again Flush Success h h' late b = record {
    now = b.now;
    older = both_older (λ o. Stays o.behind o.value h') (λ o. number < o.behind) (λ o. Stays o.behind o.value (changed again (Syncs number) h'))
        (λ o p after. stays_synced next h h' again o.behind number o.value after p) h.older b.older (late refl refl);
    before = b.before;
  }
  late_below again Flush _ h h' late b = b
  late_below again Read status h h' late b = b
  late_below again Write status h h' late b = b

module _ (rules : Rules) (i number : ℕ) (status : NtStatus) (informed : ℕ) (bytes : List ℕ) where
  abbrev answer : Event
  answer = Seen (Told (Answer number status informed bytes))

  -- the answer stands behind the next event
  record Later (e : Event) (past events : List Event) (g : Held) : Type 0 where
    leaves : Held
    is_answer : IsAnswer rules i (e ∷ past) g number status bytes leaves
    late : is_answer.request.kind ≡ Flush → status ≡ Success → IsLate number leaves.older
    follow : MayFollow rules i (answer ∷ e ∷ past) leaves events

  module _ (past : List Event) (h ended : Held) (dated : Dated past h) (a : IsAnswer rules i past h number status bytes ended) where
    wider : IsWider (answer ∷ past) past ended h
    wider = one_answer_less number status informed bytes past ended h
        (subst (λ x. Below (next_number past) x h) (sym a.after) (answered_below (next_number past) number a.request.kind status h (below_self past h dated)))

    is_late : a.request.kind ≡ Flush → status ≡ Success → IsLate number ended.older
    is_late flush success = subst (λ x. IsLate number x.older) (sym a.after) (answered_late (next_number past) number a.request.kind status h flush success)

    answer_over : (e : Event) (events : List Event) (mid g : Held) → IsNoAnswer number e → ((place : ℕ) → IsNoFailure number place e) → Takes rules i (answer ∷ past) ended e mid → Below (next_number (e ∷ answer ∷ past)) mid g → MayFollow rules i (e ∷ answer ∷ past) mid events
        → Later e past events g
    answer_over e events mid g other apart takes b m =
        let low : number < next_number past = called_below past number a.request a.is_open.called in
        let leaves : Held = answered (next_number (e ∷ past)) number a.request.kind status g in
        record {
          leaves = answered (next_number (e ∷ past)) number a.request.kind status g;
          is_answer = record {
            request = a.request;
            is_open = record { called = further e past _ a.is_open.called; awaits = All-cons (IsNoAnswer number) e past other a.is_open.awaits };
            effect = λ success place at.
                let took : TookEffect rules past number a.request place bytes = a.effect success place at in
                record { sector = took.sector; before = further e past _ took.before; hands_over = took.hands_over };
            sound = λ success place low. All-cons (IsNoFailure number place) e past (apart place) (a.sound success place low);
            after = refl;
          };
          late = answered_late (next_number (e ∷ past)) number a.request.kind status g;
          follow = follow_wider rules i events (e ∷ answer ∷ past) (answer ∷ e ∷ past) mid (answered (next_number (e ∷ past)) number a.request.kind status g)
              (swapped e answer past mid (answered (next_number (e ∷ past)) number a.request.kind status g) (next_then e (answer ∷ past) past (omega arith))
              (late_below (next_number (e ∷ answer ∷ past)) number (next_number (e ∷ past)) a.request.kind status mid g
              (λ flush success. late_takes rules i (answer ∷ past) ended number low (is_late flush success) e mid takes) b)) m;
        }

  module _ (label : Label) (other : IsNoAnswerOf number label) (after : List Line) where
    answer_behind : (events past : List Event) (h ended : Held) → Dated past h → IsAnswer rules i past h number status bytes ended → lines_of events ≡ Told label ∷ after → MayFollow rules i (answer ∷ past) ended events
        → MayFollow rules i past h (with_behind (Told (Answer number status informed bytes)) events)
    answer_behind [] past h ended dated a is m = absurd (cc (is))
    answer_behind (Effect n sector ∷ events) past h ended dated a is m =
        let t : Took rules i (answer ∷ past) past h (Effect n sector) m.0 = took rules i (answer ∷ past) past ended h (wider past h ended dated a) (Effect n sector) m.0 m.1 in
        let l : Later (Effect n sector) past events t.mid' = answer_over past h ended dated a (Effect n sector) events m.0 t.mid' tt (λ k. tt) m.1 t.wider.below m.2 in
        (t.mid', t.takes, answer_behind events (Effect n sector ∷ past) t.mid' l.leaves (dated_then rules i past h (Effect n sector) t.mid' dated t.takes) l.is_answer is l.follow)
    answer_behind (Fails n place ∷ events) past h ended dated a is m =
        let t : Took rules i (answer ∷ past) past h (Fails n place) m.0 = took rules i (answer ∷ past) past ended h (wider past h ended dated a) (Fails n place) m.0 m.1 in
        let l : Later (Fails n place) past events t.mid' = answer_over past h ended dated a (Fails n place) events m.0 t.mid' tt (λ k e. absurd (All-head (IsNoAnswer n) answer past m.1.is_open.awaits (sym e))) m.1 t.wider.below m.2 in
        (t.mid', t.takes, answer_behind events (Fails n place ∷ past) t.mid' l.leaves (dated_then rules i past h (Fails n place) t.mid' dated t.takes) l.is_answer is l.follow)
    answer_behind (Seen line ∷ events) past h ended dated a is m =
        let same : line ≡ Told label = cc (is) in
        subst (λ x. MayFollow rules i past h (Seen x ∷ Seen (Told (Answer number status informed bytes)) ∷ events)) (sym same)
        (at_label (subst (λ x. MayFollow rules i (answer ∷ past) ended (Seen x ∷ events)) same m))
      where
        at_label : MayFollow rules i (answer ∷ past) ended (Seen (Told label) ∷ events) → MayFollow rules i past h (Seen (Told label) ∷ Seen (Told (Answer number status informed bytes)) ∷ events)
        at_label n =
            let t : Took rules i (answer ∷ past) past h (Seen (Told label)) n.0 = took rules i (answer ∷ past) past ended h (wider past h ended dated a) (Seen (Told label)) n.0 n.1 in
            let l : Later (Seen (Told label)) past events t.mid' = answer_over past h ended dated a (Seen (Told label)) events n.0 t.mid' other (λ k. tt) n.1 t.wider.below n.2 in
            (t.mid', t.takes, (l.leaves, l.is_answer, l.follow))

pub answers_down : AnswersMoveDown
answers_down rules disk before number status informed bytes label after other h =
    all_at with_behind (Told (Answer number status informed bytes)) (Told label ∷ after) (Told label ∷ Told (Answer number status informed bytes) ∷ after) rules disk
    shared_behind
    (λ line events same is. lines_behind line (Told label) after events is ∙ ap (λ l. Told label ∷ l ∷ after) same)
    (λ i line events past g dated same is m. subst (λ l. MayFollow rules i past g (with_behind l events)) (sym same)
    (behind_answer i events past g dated is (subst (λ l. MayFollow rules i past g (Seen l ∷ events)) same m)))
    before h
  where
    behind_answer : (i : ℕ) (events past : List Event) (g : Held) → Dated past g → lines_of events ≡ Told label ∷ after → MayFollow rules i past g (Seen (Told (Answer number status informed bytes)) ∷ events)
        → MayFollow rules i past g (with_behind (Told (Answer number status informed bytes)) events)
    behind_answer i events past g dated is m = answer_behind rules i number status informed bytes label other after events past g m.0 dated m.1 is m.2
