-- What calls make of a register that stands for the sector.
use Rattle.std.proofs.Common.{◌≡◌, ◌<◌, ◌≤◌, ◌⊎◌, inl, inr, ℕ, ◌+◌, Bool, true, false, List, [], ◌∷◌, ◌++◌, Option, Some, None, refl, sym, ◌∙◌, ap, subst, arith, map, nat_le, cond}
use Rattle.std.specs.Prelude.{All, Contains, if◌then◌else◌}
use Rattle.std.proofs.lemmas.Bool.Decides.{leb_tells}
use Rattle.std.proofs.lemmas.List.Elements.{All-tail, All-cons}
use Rattle.srb.specs.declared.Kind.{Kind}
use Rattle.srb.specs.declared.Kind.TheVariants.{Read, Write, Flush}
use Rattle.machine.specs.declared.ClientRequest.{ClientRequest}
use Rattle.machine.specs.declared.Label.TheVariants.{Call}
use Rattle.machine.specs.Rules.{Rules}
use Rattle.loss.specs.Held.{Held, IsOneOf}
use Rattle.loss.specs.Sessions.{Line, Told}
use Rattle.loss.specs.Laws.{value_for}
use Rattle.history_loss.specs.Schedules.{Event, Seen, Effect, IsAt, IsNoAnswer, IsNoEffect, IsNoFailure, next_number}
use Rattle.register_loss.specs.declared.What.{What}
use Rattle.register_loss.specs.declared.What.TheVariants.{Write as Writes}
use Rattle.register_loss.specs.declared.Open.{Open}
use Rattle.register_loss.specs.declared.Sight.TheVariants.{Call as CallSight}
use Rattle.register_loss.specs.Schedules.{Register, Leads, above, called, is_given, is_unmet}
use Rattle.register_loss.specs.Schedules as register
use Rattle.history_loss_sights.specs.Sights.{has_sector, moves, moves_of, place_of, success_of, syncs, whats}
use Rattle.history_loss_sights.proofs.Places.{at_has, has_at, place_is}
use Rattle.history_loss_sights.proofs.Standing.{Called, HasSync, IsKnown, IsSynced, IsTidy, IsTold, Nobody, behind, first_or_behind, in_filter, known_more, newest, none_yet, not_of, not_true, of_filter, one_either, one_left, one_right, same_answer, sync_parts, write_of}

-- NUMBERS

above_least : (n m : ℕ) → n < above n m
above_least n m = by_order (leb_tells m n)
  where
    from : (b : Bool) → nat_le m n ≡ b → n < cond b (n + 1) m → n < above n m
    from b e h = subst (λ (b : Bool). n < cond b (n + 1) m) (sym e) h

    by_order : ((nat_le m n ≡ true) × (m ≤ n)) ⊎ ((nat_le m n ≡ false) × (n < m)) → n < above n m
    by_order (inl low) = from true low.0 (omega arith)
    by_order (inr high) = from false high.0 high.1

above_same : (n m : ℕ) → n < m → above n m ≡ m
above_same n m low = by_order (leb_tells m n)
  where
    by_order : ((nat_le m n ≡ true) × (m ≤ n)) ⊎ ((nat_le m n ≡ false) × (n < m)) → above n m ≡ m
    by_order (inl over) = absurd (omega (arith, low, over.1))
    by_order (inr high) = ap (λ (b : Bool). cond b (n + 1) m) high.0

above_at_least : (n m : ℕ) → m ≤ above n m
above_at_least n m = by_order (leb_tells m n)
  where
    from : (b : Bool) → nat_le m n ≡ b → m ≤ cond b (n + 1) m → m ≤ above n m
    from b e h = subst (λ (b : Bool). m ≤ cond b (n + 1) m) (sym e) h

    by_order : ((nat_le m n ≡ true) × (m ≤ n)) ⊎ ((nat_le m n ≡ false) × (n < m)) → m ≤ above n m
    by_order (inl low) = from true low.0 (omega (arith, low.1))
    by_order (inr high) = from false high.0 (omega arith)

-- OPERATIONS ADDED

abbrev pub fresh : ℕ → What → Open
fresh n what = record { number = n; what = what; failed = false }

abbrev pub calls : ℕ → List What → List register.Event
calls n [] = []
calls n (what ∷ ws) = register.Seen (CallSight n what) ∷ calls n ws

pub seen_calls : (n : ℕ) (ws : List What) → register.seen_of (calls n ws) ≡ map (CallSight n) ws
seen_calls n [] = refl
seen_calls n (what ∷ ws) = ap (λ xs. CallSight n what ∷ xs) (seen_calls n ws)

abbrev IsGreedy : Register → Type 0
IsGreedy r = (o : Open) → IsOneOf o r.waits → is_given r.held.now o.what ≡ false

pub record Adds (n : ℕ) (ws : List What) (r : Register) : Type 0 where
  pub register : Register
  pub leads : Leads r (calls n ws) register
  pub next : register.next ≡ r.next
  pub held : register.held ≡ r.held
  pub greedy : IsGreedy register
  pub has : (o : Open) → IsOneOf o r.waits → IsOneOf o register.waits
  pub from : (o : Open) → IsOneOf o register.waits → IsOneOf o r.waits ⊎ ((what : What) × IsOneOf what ws × (o ≡ fresh n what))
  pub new : (what : What) → IsOneOf what ws → is_given r.held.now what ≡ false → IsOneOf (fresh n what) register.waits

adds_by : (n : ℕ) (what : What) (ws : List What) (r : Register) → IsGreedy r → above n r.next ≡ r.next → Adds n ws (called n what r) → Adds n (what ∷ ws) r
adds_by n what ws r greedy same rest = record {
  register = rest.register;
  leads = (called n what r, inl refl, rest.leads);
  next = rest.next ∙ same;
  held = rest.held;
  greedy = rest.greedy;
  has = λ o there. rest.has o (in_filter (is_unmet r.held.now) o (r.waits ++ fresh n what ∷ []) (one_left o r.waits (fresh n what ∷ []) there) (not_of (is_given r.held.now o.what) (greedy o there)));
  from = λ o there. elim (rest.from o there) [
    | inl before ↦ elim (one_either o r.waits (fresh n what ∷ []) (of_filter (is_unmet r.held.now) o (r.waits ++ fresh n what ∷ []) before).0) [
      | inl old ↦ inl old
      | inr (inl e) ↦ inr (what, inl refl, e)
      | inr (inr none) ↦ absurd none
    ]
    | inr later ↦ inr (later.0, inr later.1, later.2)
  ];
  new = new;
}
  where
    new : (w : What) → IsOneOf w (what ∷ ws) → is_given r.held.now w ≡ false → IsOneOf (fresh n w) rest.register.waits
    new w (inl e) free =
        rest.has (fresh n w)
        (in_filter (is_unmet r.held.now) (fresh n w) (r.waits ++ fresh n what ∷ []) (one_right (fresh n w) r.waits (fresh n what ∷ []) (inl (ap (λ x. fresh n x) e))) (not_of (is_given r.held.now w) free))
    new w (inr there) free = rest.new w there free

called_greedy : (n : ℕ) (what : What) (r : Register) → IsGreedy (called n what r)
called_greedy n what r o there = not_true (is_given r.held.now o.what) (of_filter (is_unmet r.held.now) o (r.waits ++ fresh n what ∷ []) there).1

adds : (n : ℕ) (ws : List What) (r : Register) → IsGreedy r → n < r.next → Adds n ws r
adds n [] r greedy low =
    record { register = r; leads = refl; next = refl; held = refl; greedy = greedy; has = λ o there. there; from = λ o there. inl there; new = λ what none free. absurd none }
adds n (what ∷ ws) r greedy low =
    adds_by n what ws r greedy (above_same n r.next low) (adds n ws (called n what r) (called_greedy n what r) (subst (λ m. n < m) (sym (above_same n r.next low)) low))

-- A CALL

module _ (code : List ℕ → ℕ) (rules : Rules) (i : ℕ) where
  abbrev pub counted : ℕ → Register → Register
  counted n r = record { next = above n r.next; held = r.held; waits = r.waits }

  pub record Takes (past : List Event) (h : Held) (lines : List Line) (r : Register) (n : ℕ) (q : ClientRequest) : Type 0 where
    pub adds : Adds n (whats code rules i q (success_of n lines)) (counted n r)
    pub told : IsTold code rules i (Nobody code rules i) (Seen (Told (Call n q)) ∷ past) h lines adds.register

  module _ (past : List Event) (h : Held) (lines : List Line) (r : Register) (n : ℕ) (q : ClientRequest) (t : IsTold code rules i (Nobody code rules i) past h (Told (Call n q) ∷ lines) r) (tidy : IsTidy past) (counts : n ≡ next_number past) where
    abbrev event : Event
    event = Seen (Told (Call n q))

    added : Adds n (whats code rules i q (success_of n lines)) (counted n r)
    added = adds n (whats code rules i q (success_of n lines)) (counted n r) t.greedy (above_least n r.next)

    -- it is the first of its number
    no_effect : (m : ℕ) → m ≡ n → (sector : List ℕ) → Contains past (Effect m sector) → ⊥
    no_effect m same sector there = let low : m < next_number past = tidy.effects m sector there in absurd (omega (arith, low, same, counts))

    is_this : (m : ℕ) (p : ClientRequest) → Called (event ∷ past) m p → ((m ≡ n) × (p ≡ q)) ⊎ Called past m p
    is_this m p there = elim (first_or_behind event past (Seen (Told (Call m p))) there) [ inl e ↦ inl (cc (e), cc (e)) | inr before ↦ inr before ]

    moved_there : (place : ℕ) → q.kind ≡ Write → IsAt rules i q place → IsOneOf (Writes (code (value_for rules q place)) q.through) (whats code rules i q (success_of n lines))
    moved_there place kind at =
        one_right (Writes (code (value_for rules q place)) q.through) (syncs q.through q.kind) (moves_of code rules i q (success_of n lines))
        (by_sector (has_sector rules i q) (at_has rules i q place at) q.kind kind)
      where
        by_sector : (b : Bool) → b ≡ true → (k : Kind) → k ≡ Write
            → IsOneOf (Writes (code (value_for rules q place)) q.through) (if b then moves code rules (place_of rules i q) q (success_of n lines) k else [])
        by_sector true e Write is = inl (ap (λ x. Writes (code (value_for rules q x)) q.through) (sym (place_is rules i q place at)))
        by_sector true e Read is = absurd (cc (is))
        by_sector true e Flush is = absurd (cc (is))
        by_sector false e k is = absurd (cc (e))

    writes : (m : ℕ) (p : ClientRequest) (place : ℕ) → Called (event ∷ past) m p → p.kind ≡ Write → IsAt rules i p place → All (IsNoAnswer m) (event ∷ past) → All (IsNoEffect m) (event ∷ past) → All (IsNoFailure m place) (event ∷ past)
        → IsOneOf (write_of code rules i m p place) added.register.waits
    writes m p place call kind at awaits none sound = elim (is_this m p call) [
      | inl this ↦
          let mine : IsOneOf (write_of code rules i n q place) added.register.waits =
          added.new (Writes (code (value_for rules q place)) q.through) (moved_there place (ap (λ x. x.kind) (sym this.1) ∙ kind) (subst (λ x. IsAt rules i x place) this.1 at)) refl in
          subst (λ k. IsOneOf (write_of code rules i k p place) added.register.waits) (sym this.0) (subst (λ x. IsOneOf (write_of code rules i n x place) added.register.waits) (sym this.1) mine)
      | inr before ↦
          added.has (write_of code rules i m p place)
          (t.writes m p place before kind at (All-tail (IsNoAnswer m) event past awaits) (All-tail (IsNoEffect m) event past none) (All-tail (IsNoFailure m place) event past sound) (λ x. x))
    ]

    syncs' : (m : ℕ) (p : ClientRequest) (what : What) → Called (event ∷ past) m p → IsOneOf what (syncs p.through p.kind) → All (IsNoAnswer m) (event ∷ past) → HasSync code rules i m what added.register.waits
    syncs' m p what call sync awaits = elim (is_this m p call) [
      | inl this ↦
          let mine : IsOneOf (fresh n what) added.register.waits =
          added.new what (one_left what (syncs q.through q.kind) (moves_of code rules i q (success_of n lines)) (subst (λ x. IsOneOf what (syncs x.through x.kind)) this.1 sync)) ((sync_parts p.through p.kind what sync).1 r.held.now) in
          (false, subst (λ k. IsOneOf (fresh k what) added.register.waits) (sym this.0) mine)
      | inr before ↦ kept (t.syncs m p what before sync (All-tail (IsNoAnswer m) event past awaits))
    ]
      where
        kept : HasSync code rules i m what r.waits → HasSync code rules i m what added.register.waits
        kept (failed, there) = (failed, added.has (record { number = m; what = what; failed = failed }) there)

    -- what is new is known
    new_sync : (what : What) → IsOneOf what (syncs q.through q.kind) → IsSynced code rules i (event ∷ past) n false what
    new_sync what sync = record { request = q; called = newest event past; sync = sync; failing = λ f. absurd (cc (f)) }

    known_sync : (through : Bool) (kind : Kind) (what : What) → IsOneOf what (syncs through kind) → IsSynced code rules i (event ∷ past) n false what → IsKnown code rules i (event ∷ past) lines n false what
    known_sync through Read what h k = absurd h
    known_sync true Write what (inl e) k = subst (λ w. IsSynced code rules i (event ∷ past) n false w → IsKnown code rules i (event ∷ past) lines n false w) (sym e) (λ x. x) k
    known_sync true Write what (inr none) k = absurd none
    known_sync false Write what h k = absurd h
    known_sync through Flush what (inl e) k = subst (λ w. IsSynced code rules i (event ∷ past) n false w → IsKnown code rules i (event ∷ past) lines n false w) (sym e) (λ x. x) k
    known_sync through Flush what (inr none) k = absurd none

    none_here : All (IsNoEffect n) (event ∷ past)
    none_here = All-cons (IsNoEffect n) event past tt (none_yet n past (no_effect n refl))

    known_move : (kind : Kind) → q.kind ≡ kind → IsAt rules i q (place_of rules i q) → (answer : Option (List ℕ)) → success_of n lines ≡ answer → (what : What) → IsOneOf what (moves code rules (place_of rules i q) q answer kind)
        → IsKnown code rules i (event ∷ past) lines n false what
    known_move Write kind at answer e what (inl is) =
        subst (λ w. IsKnown code rules i (event ∷ past) lines n false w) (sym is) (record { request = q; place = place_of rules i q; called = newest event past; kind = kind; at = at; none = none_here })
    known_move Write kind at answer e what (inr none) = absurd none
    known_move Read kind at None e what h = absurd h
    known_move Read kind at (Some bytes) e what (inl is) = subst (λ w. IsKnown code rules i (event ∷ past) lines n false w) (sym is) (record {
      request = q;
      place = place_of rules i q;
      called = newest event past;
      kind = kind;
      at = at;
      answer = λ all. (bytes, e, refl);
      none = λ sector there same. no_effect n refl sector (behind event past (Effect n sector) (λ x. cc (x)) there);
    })
    known_move Read kind at (Some bytes) e what (inr none) = absurd none
    known_move Flush kind at answer e what h = absurd h

    known_new : (what : What) → IsOneOf what (whats code rules i q (success_of n lines)) → IsKnown code rules i (event ∷ past) lines n false what
    known_new what there = elim (one_either what (syncs q.through q.kind) (moves_of code rules i q (success_of n lines)) there) [
      | inl sync ↦ known_sync q.through q.kind what sync (new_sync what sync)
      | inr move ↦ by (has_sector rules i q) refl move
    ]
      where
        by : (b : Bool) → has_sector rules i q ≡ b → IsOneOf what (if b then moves code rules (place_of rules i q) q (success_of n lines) q.kind else []) → IsKnown code rules i (event ∷ past) lines n false what
        by true has h = known_move q.kind refl (has_at rules i q has) (success_of n lines) refl what h
        by false has h = absurd h

    known : (o : Open) → IsOneOf o added.register.waits → IsKnown code rules i (event ∷ past) lines o.number o.failed o.what
    known o there = elim (added.from o there) [
      | inl before ↦
          same_answer code rules i (event ∷ past) (Told (Call n q) ∷ lines) lines o.number o.failed o.what refl
          (known_more code rules i event past (Told (Call n q) ∷ lines) o.number o.failed o.what (λ write. tt) (λ v sector is e. absurd (cc (e))) (t.known o before))
      | inr (what, new, is) ↦ subst (λ (y : Open). IsKnown code rules i (event ∷ past) lines y.number y.failed y.what) (sym is) (known_new what new)
    ]

    pub takes_call : Takes past h lines r n q
    takes_call = record {
      adds = added;
      told = record {
        next = added.next ∙ ap (above n) t.next;
        held = added.held ∙ t.held;
        greedy = added.greedy;
        writes = λ m p place call kind at awaits none sound out. writes m p place call kind at awaits none sound;
        syncs = syncs';
        known = known;
        away = λ o there write x. x;
      };
    }

    pub tidy_call : IsTidy (event ∷ past)
    tidy_call = record {
      below = λ m p call. elim (is_this m p call) [
        | inl this ↦ let least = above_least n (next_number past) in let same = this.0 in omega (arith, least, same)
        | inr before ↦ let low = tidy.below m p before in let up = above_at_least n (next_number past) in omega (arith, low, up)
      ];
      one = λ m p p' call call'. elim (is_this m p call) [
        | inl this ↦ elim (is_this m p' call') [ inl that ↦ this.1 ∙ sym that.1 | inr before ↦ absurd (over m p' this.0 before) ]
        | inr before ↦ elim (is_this m p' call') [ inl that ↦ absurd (over m p that.0 before) | inr before' ↦ tidy.one m p p' before before' ]
      ];
      effects = λ m sector there. let low = tidy.effects m sector (behind event past (Effect m sector) (λ x. cc (x)) there) in let up = above_at_least n (next_number past) in omega (arith, low, up);
    }
      where
        over : (m : ℕ) (p : ClientRequest) → m ≡ n → Called past m p → ⊥
        over m p same before = let low : m < next_number past = tidy.below m p before in absurd (omega (arith, low, same, counts))
