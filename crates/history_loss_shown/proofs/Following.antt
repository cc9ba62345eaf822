-- A schedule of a register, as one of the sector that showed it.
use Rattle.std.proofs.Common.{◌≡◌, ◌<◌, ◌≤◌, ◌⊎◌, inl, inr, ℕ, ◌+◌, Bool, true, false, cond, List, [], ◌∷◌, ◌++◌, Option, None, refl, sym, ◌∙◌, ap, subst, arith, map, length, append-nil, append_assoc, nat_le}
use Rattle.std.specs.Prelude.{is_none}
use Rattle.std.proofs.lemmas.Bool.Decides.{leb_tells}
use Rattle.ntstatus.specs.declared.NtStatus.{NtStatus}
use Rattle.machine.specs.declared.ClientRequest.{ClientRequest}
use Rattle.machine.specs.declared.Label.TheVariants.{Call, Device, Answer, Cancel, Pause, Resume, Remove, Surprise, Removed}
use Rattle.machine.specs.Rules.{Rules}
use Rattle.history_laws.specs.declared.Asked.{Asked}
use Rattle.history_laws.specs.Fitting.{asked_after, fits, owed_after}
use Rattle.loss.specs.Held.{Held, IsOneOf, changed, left, surely}
use Rattle.loss.specs.Sessions.{Line, Told, Lost, Ended}
use Rattle.history_loss.specs.Schedules.{Event, Seen, IsOpen, above}
use Rattle.history_loss_runs.specs.Laws.{all_fit_over}
use Rattle.register_loss.specs.declared.What.{What}
use Rattle.register_loss.specs.declared.What.TheVariants.{Read as Reads, Write as Writes, Flush as Flushes, Sync}
use Rattle.register_loss.specs.declared.Open.{Open}
use Rattle.register_loss.specs.declared.Turn.{Turn}
use Rattle.register_loss.specs.declared.Turn.TheVariants.{Acts, Fails as FailsTurn}
use Rattle.register_loss.specs.declared.Sight.{Sight}
use Rattle.register_loss.specs.declared.Sight.TheVariants.{Call as CallSight, Elsewhere, Lost as LostSight, Ended as EndedSight}
use Rattle.register_loss.specs.Schedules.{HasSchedule, Register, Leads, Turns, behind, called, is_other, is_same, is_sync, is_unmet, left_by, marked, opening, seen_of, settled, unmet}
use Rattle.register_loss.specs.Schedules as register
use Rattle.register_loss_search.specs.Covering.{Wider}
use Rattle.register_loss_search.proofs.Listing.{of_filter, of_map, one_either, one_left, one_map}
use Rattle.register_loss_search.proofs.Changing.{wider_left, wider_self}
use Rattle.history_loss_sights.specs.Sights.{end_of, success_of}
use Rattle.history_loss_sights.proofs.Coding.{coded, coded_left}
use Rattle.history_loss_shown.specs.Steady.{steady_sights_of, steady_whats}
use Rattle.history_loss_shown.proofs.Fitting.{Known, answer_known, answers_open, call_known, call_number, fit_parts, nothing_known}
use Rattle.history_loss_shown.proofs.Owning.{GoesOn}
use Rattle.history_loss_shown.proofs.Standing.{IsKnown, IsSync, Stands}
use Rattle.history_loss_shown.proofs.Settling.{settles}
use Rattle.history_loss_shown.proofs.Stuck.{AreShown, marked_number, marked_what, never, now_stuck, only_one}
use Rattle.history_loss_shown.proofs.Turning.{acts, fails}
use Rattle.history_loss_shown.proofs.Calling.{IsClear, Single, call_apart, call_stands, coming, fresh, single_whats}
use Rattle.history_loss_shown.proofs.Answering.{Answers, answers}

above_same : (n m : ℕ) → n < m → above n m ≡ m
above_same n m low = by_order (leb_tells m n)
  where
    by_order : ((nat_le m n ≡ true) × (m ≤ n)) ⊎ ((nat_le m n ≡ false) × (n < m)) → above n m ≡ m
    by_order (inl over) = absurd (omega (arith, low, over.1))
    by_order (inr high) = ap (λ (b : Bool). cond b (n + 1) m) high.0

above_least : (n m : ℕ) → n < above n m
above_least n m = by_order (leb_tells m n)
  where
    from : (b : Bool) → nat_le m n ≡ b → n < cond b (n + 1) m → n < above n m
    from b e h = subst (λ (b : Bool). n < cond b (n + 1) m) (sym e) h

    by_order : ((nat_le m n ≡ true) × (m ≤ n)) ⊎ ((nat_le m n ≡ false) × (n < m)) → n < above n m
    by_order (inl low) = from true low.0 (omega arith)
    by_order (inr high) = from false high.0 high.1

-- what is still to come of a call
pub record Pending (waits : List Open) (next m : ℕ) (ws : List What) : Type 0 where
  pub low : m < next
  pub apart : (o : Open) → IsOneOf o waits → is_sync o.what ≡ false → (w : What) → IsOneOf w ws → is_sync w ≡ false → o.number ≡ m → ⊥
  pub single : Single ws

pending_none : (waits : List Open) (next m : ℕ) → m < next → Pending waits next m []
pending_none waits next m low = record { low = low; apart = λ o has move w none move' same. none; single = tt }

pending_less : (waits waits' : List Open) (next m : ℕ) (ws : List What) → ((o : Open) → IsOneOf o waits' → (p : Open) × IsOneOf p waits × (o.number ≡ p.number) × (o.what ≡ p.what)) → Pending waits next m ws → Pending waits' next m ws
pending_less waits waits' next m ws from p = record {
  low = p.low;
  apart = λ o has move w there move' same.
      let was : (x : Open) × IsOneOf x waits × (o.number ≡ x.number) × (o.what ≡ x.what) = from o has in
      p.apart was.0 was.1 (ap (λ y. is_sync y) (sym was.3) ∙ move) w there move' (sym was.2 ∙ same);
  single = p.single;
}

pending_turn : (r : Register) (turn : Turn) (of : Open) (now : List ℕ) (m : ℕ) (ws : List What) → Pending r.waits r.next m ws → Pending (unmet now (left_by turn of r.waits)) r.next m ws
pending_turn r Acts of now m ws p =
    pending_less r.waits (unmet now (left_by Acts of r.waits)) r.next m ws (λ o has. (o, (of_filter (is_other of) o r.waits (of_filter (is_unmet now) o (left_by Acts of r.waits) has).0).0, refl, refl)) p
pending_turn r FailsTurn of now m ws p =
    pending_less r.waits (unmet now (left_by FailsTurn of r.waits)) r.next m ws
    (λ o has.
    let was : (x : Open) × IsOneOf x r.waits × (o ≡ marked of x) = of_map (marked of) o r.waits (of_filter (is_unmet now) o (left_by FailsTurn of r.waits) has).0 in
    (was.0, was.1, ap (λ (y : Open). y.number) was.2 ∙ marked_number (is_same of was.0) was.0, ap (λ (y : Open). y.what) was.2 ∙ marked_what (is_same of was.0) was.0))
    p

fresh_apart : (waits : List Open) (next m : ℕ) (ws : List What) → Pending waits next m ws → (o p : Open) → IsOneOf o waits → IsOneOf p (coming m ws) → is_sync o.what ≡ false → is_sync p.what ≡ false → o.number ≡ p.number → ⊥
fresh_apart waits next m ws pending o p has there move move' same =
    let was : (w : What) × IsOneOf w ws × (p ≡ fresh m w) = of_map (fresh m) p ws there in
    pending.apart o has move was.0 was.1 (ap (λ (y : Open). is_sync y.what) (sym was.2) ∙ move') (same ∙ ap (λ (y : Open). y.number) was.2)

-- one operation is called
pending_called : (waits : List Open) (next m : ℕ) (w : What) (ws : List What) (now : List ℕ) → Pending waits next m (w ∷ ws) → Pending (unmet now (waits ++ fresh m w ∷ [])) next m ws
pending_called waits next m w ws now p = record {
  low = p.low;
  apart = λ o has move x there move' same. elim (one_either o waits (fresh m w ∷ []) (of_filter (is_unmet now) o (waits ++ fresh m w ∷ []) has).0) [
    | inl before ↦ p.apart o before move x (inr there) move' same
    | inr (inl is) ↦ p.single.0 (ap (λ (y : Open). is_sync y.what) (sym is) ∙ move) x there move'
    | inr (inr none) ↦ absurd none
  ];
  single = p.single.1;
}

abbrev counted : ℕ → Register → Register
counted n r = record { next = above n r.next; held = r.held; waits = r.waits }

module _ (code : List ℕ → ℕ) (rules : Rules) (i : ℕ) where
  abbrev Comes : ℕ → List What → List Line → List Sight
  Comes m ws lines = map (CallSight m) ws ++ steady_sights_of code rules i lines

  stands_first : (value : List ℕ) (v : ℕ) (lines : List Line) → v ≡ code value → Stands code rules i [] (surely value) lines 1 (surely v) []
  stands_first value v lines is = record {
    counts = refl;
    holds = subst (λ u. Wider (surely u) (surely (code value))) (sym is) (wider_self (surely (code value)));
    dated = λ o none. absurd none;
    known = λ o none. absurd none;
    moves = λ n q bytes called at awaits success. let low = called.1 in absurd (omega arith);
    flushes = λ n q bytes called kind awaits success. let low = called.1 in absurd (omega arith);
    failures = λ n place there awaits. let low = there.1 in absurd (omega arith);
  }

  clear_call : (n : ℕ) (ws : List What) (lines : List Line) → ((k : ℕ) (what : What) → IsOneOf (CallSight k what) (Comes n ws lines) → IsClear code what) → (what : What) → IsOneOf what ws → IsClear code what
  clear_call n ws lines clear what there = clear n what (one_left (CallSight n what) (map (CallSight n) ws) (steady_sights_of code rules i lines) (one_map (CallSight n) what ws there))

  sync_known : (past : List Event) (lines : List Line) (n : ℕ) (failed : Bool) (what : What) → is_sync what ≡ true → IsKnown code rules i past lines n failed what → IsSync code rules i past lines n failed
  sync_known past lines n failed (Reads v) e k = absurd (cc (e))
  sync_known past lines n failed (Writes v through) e k = absurd (cc (e))
  sync_known past lines n failed Flushes e k = k
  sync_known past lines n failed Sync e k = k

  -- each read among these sights is of one list of bytes
  abbrev pub AreClear : List Sight → Type 0
  AreClear sights = (n : ℕ) (what : What) → IsOneOf (CallSight n what) sights → IsClear code what

  goes : (events : List register.Event) (past : List Event) (h : Held) (lines : List Line) (asked : List (Option Asked)) (owed : Option NtStatus) (r r' : Register) (m : ℕ) (ws : List What) → Leads r events r' → seen_of events ≡ Comes m ws lines
      → AreShown lines → all_fit_over rules asked owed lines ≡ true → Stands code rules i past h lines r.next r.held (r.waits ++ coming m ws) → Known past asked owed → Pending r.waits r.next m ws → AreClear (Comes m ws lines) → GoesOn rules i past h lines
  goes [] past h lines asked owed r r' m (w ∷ ws) l e shown fit stands known pending clear = absurd (cc (e))
  goes [] past h [] asked owed r r' m [] l e shown fit stands known pending clear = record { events = []; follow = tt; shows = refl }
  goes [] past h (Lost ∷ lines) asked owed r r' m [] l e shown fit stands known pending clear = absurd (cc (e))
  goes [] past h (Ended ∷ lines) asked owed r r' m [] l e shown fit stands known pending clear = absurd (cc (e))
  goes [] past h (Told (Call n q) ∷ lines) asked owed r r' m [] l e shown fit stands known pending clear = absurd (cc (e))
  goes [] past h (Told (Answer n status informed bytes) ∷ lines) asked owed r r' m [] l e shown fit stands known pending clear = absurd (cc (e))
  goes [] past h (Told (Device label) ∷ lines) asked owed r r' m [] l e shown fit stands known pending clear = absurd shown.0
  goes [] past h (Told (Cancel n) ∷ lines) asked owed r r' m [] l e shown fit stands known pending clear = absurd shown.0
  goes [] past h (Told Pause ∷ lines) asked owed r r' m [] l e shown fit stands known pending clear = absurd shown.0
  goes [] past h (Told Resume ∷ lines) asked owed r r' m [] l e shown fit stands known pending clear = absurd shown.0
  goes [] past h (Told Remove ∷ lines) asked owed r r' m [] l e shown fit stands known pending clear = absurd shown.0
  goes [] past h (Told Surprise ∷ lines) asked owed r r' m [] l e shown fit stands known pending clear = absurd shown.0
  goes [] past h (Told Removed ∷ lines) asked owed r r' m [] l e shown fit stands known pending clear = absurd shown.0
  goes (register.Unseen Acts ∷ events) past h lines asked owed r r' m ws (mid, t, l) e shown fit stands known pending clear =
      acts code rules i h lines asked owed r (coming m ws) past stands known (fresh_apart r.waits r.next m ws pending) t.of t.change t.waits t.may
      (λ past' h' stands' known'. goes events past' h' lines asked owed (settled r.next (changed r.next t.change r.held) (left_by Acts t.of r.waits)) r' m ws (subst (λ x. Leads x events r') t.after l) e shown fit stands' known'
      (pending_turn r Acts t.of (changed r.next t.change r.held).now m ws pending) clear)
  goes (register.Unseen FailsTurn ∷ events) past h lines asked owed r r' m ws (mid, t, l) e shown fit stands known pending clear =
      fails code rules i h lines asked owed r (coming m ws) past stands known (fresh_apart r.waits r.next m ws pending) t.of t.change t.waits t.may
      (λ sync.
      let k : IsSync code rules i past lines t.of.number t.of.failed = sync_known past lines t.of.number t.of.failed t.of.what sync (stands.known t.of (one_left t.of r.waits (coming m ws) t.waits)) in
      never code rules i t.of.number k.bytes events mid r' m ws lines l e shown k.success (now_stuck r mid t sync))
      (λ past' h' stands' known'. goes events past' h' lines asked owed (settled r.next (changed r.next t.change r.held) (left_by FailsTurn t.of r.waits)) r' m ws (subst (λ x. Leads x events r') t.after l) e shown fit stands' known'
      (pending_turn r FailsTurn t.of (changed r.next t.change r.held).now m ws pending) clear)
  goes (register.Seen sight ∷ events) past h lines asked owed r r' m (w ∷ ws) (mid, takes, l) e shown fit stands known pending clear =
      let same : sight ≡ CallSight m w = cc (e) in
      let rest : seen_of events ≡ Comes m ws lines = cc (e) in
      let is : mid ≡ called m w r = only_one (called m w r) mid (subst (λ s. IsOneOf mid (behind s r)) same takes) in
      let up : above m r.next ≡ r.next = above_same m r.next pending.low in
      settles code rules i h lines asked owed r.next r.held (r.waits ++ fresh m w ∷ []) (coming m ws)
      (λ past' stands' known'. goes events past' h lines asked owed (called m w r) r' m ws (subst (λ x. Leads x events r') is l) rest shown fit
      (subst (λ k. Stands code rules i past' h lines k r.held (unmet r.held.now (r.waits ++ fresh m w ∷ []) ++ coming m ws)) (sym up) stands') known'
      (subst (λ k. Pending (unmet r.held.now (r.waits ++ fresh m w ∷ [])) k m ws) (sym up) (pending_called r.waits r.next m w ws r.held.now pending)) (λ k x there. clear k x (inr there)))
      past (subst (λ ops. Stands code rules i past h lines r.next r.held ops) (sym (append_assoc r.waits (fresh m w ∷ []) (coming m ws))) stands) known
  goes (register.Seen sight ∷ events) past h [] asked owed r r' m [] l e shown fit stands known pending clear = absurd (cc (e))
  goes (register.Seen sight ∷ events) past h (Lost ∷ lines) asked owed r r' m [] (mid, takes, l) e shown fit stands known pending clear =
      let same : sight ≡ LostSight = cc (e) in
      let rest : seen_of events ≡ steady_sights_of code rules i lines = cc (e) in
      let v : (x : ℕ) × IsOneOf x (left r.held) × (mid ≡ opening x) = of_map opening mid (left r.held) (subst (λ s. IsOneOf mid (behind s r)) same takes) in
      let s : (x : List ℕ) × IsOneOf x (left h) × (v.0 ≡ code x) =
      of_map code v.0 (left h) (subst (λ vs. IsOneOf v.0 vs) (coded_left code h) (wider_left r.held (coded code h) stands.holds v.0 v.1)) in
      let on : GoesOn rules i [] (surely s.0) lines =
      goes events [] (surely s.0) lines (None ∷ []) None (opening v.0) r' 0 [] (subst (λ x. Leads x events r') v.2 l) rest shown.1 (fit_parts (is_none owed) (all_fit_over rules (None ∷ []) None lines) fit).1
      (stands_first s.0 v.0 lines s.2) nothing_known (pending_none [] 1 0 (omega arith)) (λ k x there. clear k x (inr there)) in
      record { events = Seen Lost ∷ on.events; follow = (surely s.0, record { value = s.0; among = λ low. s.1; after = refl }, tt, on.follow); shows = ap (λ ls. Lost ∷ ls) on.shows }
  goes (register.Seen sight ∷ events) past h (Ended ∷ lines) asked owed r r' m [] (mid, takes, l) e shown fit stands known pending clear =
      let same : sight ≡ EndedSight = cc (e) in
      let rest : seen_of events ≡ steady_sights_of code rules i lines = cc (e) in
      let v : (x : ℕ) × IsOneOf x r.held.now × (mid ≡ opening x) = of_map opening mid r.held.now (subst (λ s. IsOneOf mid (behind s r)) same takes) in
      let s : (x : List ℕ) × IsOneOf x h.now × (v.0 ≡ code x) = of_map code v.0 h.now (stands.holds.now v.0 v.1) in
      let on : GoesOn rules i [] (surely s.0) lines =
      goes events [] (surely s.0) lines (None ∷ []) None (opening v.0) r' 0 [] (subst (λ x. Leads x events r') v.2 l) rest shown.1 (fit_parts (is_none owed) (all_fit_over rules (None ∷ []) None lines) fit).1
      (stands_first s.0 v.0 lines s.2) nothing_known (pending_none [] 1 0 (omega arith)) (λ k x there. clear k x (inr there)) in
      record { events = Seen Ended ∷ on.events; follow = (surely s.0, record { value = s.0; among = λ low. s.1; after = refl }, tt, on.follow); shows = ap (λ ls. Ended ∷ ls) on.shows }
  goes (register.Seen sight ∷ events) past h (Told (Call n q) ∷ lines) asked owed r r' m [] (mid, takes, l) e shown fit stands known pending clear =
      let same : sight ≡ Elsewhere n = cc (e) in
      let rest : seen_of events ≡ Comes n (steady_whats code rules i q (success_of n lines)) lines = cc (e) in
      let is : mid ≡ counted n r = only_one (counted n r) mid (subst (λ s. IsOneOf mid (behind s r)) same takes) in
      let parts : (fits rules asked owed (Call n q) ≡ true) × (all_fit_over rules (asked_after rules asked owed (Call n q)) (owed_after rules owed (Call n q)) lines ≡ true) =
      fit_parts (fits rules asked owed (Call n q)) (all_fit_over rules (asked_after rules asked owed (Call n q)) (owed_after rules owed (Call n q)) lines) fit in
      let number : n ≡ length asked = call_number rules asked owed n q parts.0 in
      let still : Stands code rules i past h (Told (Call n q) ∷ lines) r.next r.held r.waits = subst (λ ops. Stands code rules i past h (Told (Call n q) ∷ lines) r.next r.held ops) (append-nil r.waits) stands in
      let on : GoesOn rules i (Seen (Told (Call n q)) ∷ past) h lines =
      goes events (Seen (Told (Call n q)) ∷ past) h lines (asked_after rules asked owed (Call n q)) (owed_after rules owed (Call n q)) (counted n r) r' n (steady_whats code rules i q (success_of n lines))
      (subst (λ x. Leads x events r') is l) rest shown.1 parts.1
      (call_stands code rules i past h lines asked owed r n q number known still (clear_call n (steady_whats code rules i q (success_of n lines)) lines (λ k x there. clear k x (inr there)))) (call_known rules n q past asked owed number known)
      (record { low = above_least n r.next; apart = λ o has move w there move' same'. call_apart code rules i past h lines asked owed r n q number known still (clear_call n (steady_whats code rules i q (success_of n lines)) lines (λ k x there. clear k x (inr there))) o has move same'; single = single_whats code rules i q (success_of n lines) }) (λ k x there. clear k x (inr there)) in
      record { events = Seen (Told (Call n q)) ∷ on.events; follow = (h, refl, tt, on.follow); shows = ap (λ ls. Told (Call n q) ∷ ls) on.shows }
  goes (register.Seen sight ∷ events) past h (Told (Answer n status informed bytes) ∷ lines) asked owed r r' m [] (mid, takes, l) e shown fit stands known pending clear =
      let same : sight ≡ end_of n status = cc (e) in
      let rest : seen_of events ≡ steady_sights_of code rules i lines = cc (e) in
      let parts : (fits rules asked owed (Answer n status informed bytes) ≡ true) × (all_fit_over rules (asked_after rules asked owed (Answer n status informed bytes)) (owed_after rules owed (Answer n status informed bytes)) lines ≡ true) =
      fit_parts (fits rules asked owed (Answer n status informed bytes)) (all_fit_over rules (asked_after rules asked owed (Answer n status informed bytes)) (owed_after rules owed (Answer n status informed bytes)) lines) fit in
      let was_open : (q : ClientRequest) × IsOpen past n q = answers_open n status informed bytes past asked owed parts.0 known in
      let still : Stands code rules i past h (Told (Answer n status informed bytes) ∷ lines) r.next r.held r.waits =
      subst (λ ops. Stands code rules i past h (Told (Answer n status informed bytes) ∷ lines) r.next r.held ops) (append-nil r.waits) stands in
      let a : Answers code rules i past h lines r n status informed bytes still was_open.0 was_open.1 mid =
      answers code rules i past h lines r n status informed bytes still was_open.0 was_open.1 mid (subst (λ s. IsOneOf mid (behind s r)) same takes) in
      let low : m < mid.next = (let a' = a.stands.counts in let b' = stands.counts in let c' = pending.low in omega (arith, a', b', c')) in
      let on : GoesOn rules i (Seen (Told (Answer n status informed bytes)) ∷ past) a.leaves lines =
      goes events (Seen (Told (Answer n status informed bytes)) ∷ past) a.leaves lines (asked_after rules asked owed (Answer n status informed bytes)) (owed_after rules owed (Answer n status informed bytes)) mid r' m [] l rest shown.1 parts.1
      (subst (λ ops. Stands code rules i (Seen (Told (Answer n status informed bytes)) ∷ past) a.leaves lines mid.next mid.held ops) (sym (append-nil mid.waits)) a.stands) (answer_known n status informed bytes past asked owed parts.0 known)
      (pending_none mid.waits mid.next m low) (λ k x there. clear k x (inr there)) in
      record { events = Seen (Told (Answer n status informed bytes)) ∷ on.events; follow = (a.leaves, a.is_answer, tt, on.follow); shows = ap (λ ls. Told (Answer n status informed bytes) ∷ ls) on.shows }
  goes (register.Seen sight ∷ events) past h (Told (Device label) ∷ lines) asked owed r r' m [] l e shown fit stands known pending clear = absurd shown.0
  goes (register.Seen sight ∷ events) past h (Told (Cancel n) ∷ lines) asked owed r r' m [] l e shown fit stands known pending clear = absurd shown.0
  goes (register.Seen sight ∷ events) past h (Told Pause ∷ lines) asked owed r r' m [] l e shown fit stands known pending clear = absurd shown.0
  goes (register.Seen sight ∷ events) past h (Told Resume ∷ lines) asked owed r r' m [] l e shown fit stands known pending clear = absurd shown.0
  goes (register.Seen sight ∷ events) past h (Told Remove ∷ lines) asked owed r r' m [] l e shown fit stands known pending clear = absurd shown.0
  goes (register.Seen sight ∷ events) past h (Told Surprise ∷ lines) asked owed r r' m [] l e shown fit stands known pending clear = absurd shown.0
  goes (register.Seen sight ∷ events) past h (Told Removed ∷ lines) asked owed r r' m [] l e shown fit stands known pending clear = absurd shown.0

  -- what shows a sector with a schedule as a register has a schedule, in which nothing fails but writes at the sector
  pub shown_follows : (start : List ℕ) (history : List Line) → AreShown history → all_fit_over rules (None ∷ []) None history ≡ true → AreClear (steady_sights_of code rules i history) → HasSchedule (code start) (steady_sights_of code rules i history)
      → GoesOn rules i [] (surely start) history
  shown_follows start history shown fit clear s =
      goes s.events [] (surely start) history (None ∷ []) None (opening (code start)) s.register 0 [] s.in_turn s.seen shown fit (stands_first start (code start) history refl) nothing_known (pending_none [] 1 0 (omega arith)) clear
