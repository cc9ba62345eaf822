-- A schedule of a sector, told as one of a register.
use Rattle.std.proofs.Common.{◌≡◌, ◌<◌, ◌≤◌, ◌⊎◌, inl, inr, ℕ, suc, ◌+◌, Bool, true, false, List, [], ◌∷◌, ◌++◌, refl, sym, ◌∙◌, ap, subst, arith, map, nat_le, cond, eq-eqb}
use Rattle.std.specs.Prelude.{IsTrue, All, if◌then◌else◌}
use Rattle.std.specs.List.{list_any}
use Rattle.std.proofs.lemmas.Bool.Decides.{leb_tells}
use Rattle.std.proofs.lemmas.List.Elements.{All-head, All-cons}
use Rattle.ntstatus.specs.declared.NtStatus.{NtStatus}
use Rattle.ntstatus.specs.declared.NtStatus.TheVariants.{Success}
use Rattle.srb.specs.declared.Kind.{Kind}
use Rattle.srb.specs.declared.Kind.TheVariants.{Read, Write, Flush}
use Rattle.machine.specs.declared.ClientRequest.{ClientRequest}
use Rattle.machine.specs.declared.Label.{Label}
use Rattle.machine.specs.declared.Label.TheVariants.{Call, Device, Answer, Cancel, Pause, Resume, Remove, Surprise, Removed}
use Rattle.machine.specs.Rules.{Rules, is_transfer}
use Rattle.loss.specs.Held.{Change, Puts, Secures, Tries, Doubts, Held, HeldOf, IsOneOf, changed, changed_by, fault_changes, has, left, surely, value_at}
use Rattle.loss.specs.Moved.{work_of}
use Rattle.loss.specs.Sessions.{Line, Told, Lost, Ended}
use Rattle.loss.specs.Laws.{sector_of, value_for}
use Rattle.history_loss.specs.Schedules.{Event, Seen, Effect, Fails, AreScheduled, Carries, FailsThere, shared_of, IsAnswer, IsAt, IsNoAnswer, IsNoEffect, IsNoFailure, MayFollow, answered, lines_of, next_number, one_place}
use Rattle.history_loss.proofs.Places.{Hits, hit_act, hits_or_misses, one_hit, read_act}
use Rattle.history_loss.proofs.Scheduling.{explained_scheduled}
use Rattle.register_loss.specs.declared.What.{What}
use Rattle.register_loss.specs.declared.What.TheVariants.{Read as Reads, Write as Writes, Flush as Flushes, Sync}
use Rattle.register_loss.specs.declared.Open.{Open}
use Rattle.register_loss.specs.declared.Turn.TheVariants.{Acts, Fails as FailsTurn}
use Rattle.register_loss.specs.declared.Sight.{Sight}
use Rattle.register_loss.specs.declared.Sight.TheVariants.{Call as CallSight, Elsewhere, Done, Failed, Lost as LostSight, Ended as EndedSight}
use Rattle.register_loss.specs.Schedules.{Register, HasSchedule, Leads, above, done, ended, is_given, is_undone, is_value, is_write, opening, seen_of}
use Rattle.register_loss.specs.Schedules as register
use Rattle.history_loss_sights.specs.Sights.{AreCounted, end_of, sights_of, success_of, syncs, whats}
use Rattle.history_loss_sights.specs.Refusing.{RefusedAreUnexplained, SightsAreScheduled}
use Rattle.history_loss_sights.proofs.Coding.{coded, coded_left, one_map}
use Rattle.history_loss_sights.proofs.Standing.{Called, HasFailed, IsKnown, IsTidy, IsTold, Nobody, told_past, tidy_more, write_of}
use Rattle.history_loss_sights.proofs.Turning.{Acted, Faulted, acts, doubts, tries}
use Rattle.history_loss_sights.proofs.Calling.{Takes, calls, counted, seen_calls, takes_call, tidy_call}
use Rattle.history_loss_sights.proofs.Answering.{any_there, flushed_now, flushed_told, none_undone, told_ended}

-- RUNS

leads_join : (a b c : Register) (front back : List register.Event) → Leads a front b → Leads b back c → Leads a (front ++ back) c
leads_join a b c [] back h rest = subst (λ x. Leads x back c) h rest
leads_join a b c (event ∷ front) back (mid, takes, h) rest = (mid, takes, leads_join mid b c front back h rest)

seen_join : (front back : List register.Event) → seen_of (front ++ back) ≡ seen_of front ++ seen_of back
seen_join [] back = refl
seen_join (register.Seen sight ∷ front) back = ap (λ xs. sight ∷ xs) (seen_join front back)
seen_join (register.Unseen turn ∷ front) back = seen_join front back

-- WHAT FAILS

abbrev fault_list : Kind → Bool → Bool → List ℕ → List Change
fault_list kind there through value = elim kind [
  | Read ↦ []
  | Write ↦ (if there then Tries value ∷ [] else []) ++ (if through then Doubts ∷ [] else [])
  | Flush ↦ Doubts ∷ []
]

fault_is : (rules : Rules) (i : ℕ) (q : ClientRequest) (place : ℕ) (kind : Kind) (there : Bool) (v : List ℕ) → q.kind ≡ kind → has (work_of rules q (one_place place)).extent i ≡ there
    → value_at rules.sector_size (work_of rules q (one_place place)) i ≡ v → fault_changes rules.sector_size (work_of rules q (one_place place)) i ≡ fault_list kind there q.through v
fault_is rules i q place kind there v k t e =
    ap (λ x. fault_list x (has (work_of rules q (one_place place)).extent i) q.through (value_at rules.sector_size (work_of rules q (one_place place)) i)) k
    ∙ ap (λ x. fault_list kind x q.through (value_at rules.sector_size (work_of rules q (one_place place)) i)) t
    ∙ ap (λ x. fault_list kind there q.through x) e

sync_there : (through : Bool) (kind : Kind) → kind ≡ Write → through ≡ true → IsOneOf Sync (syncs through kind)
sync_there through Read k t = absurd (cc (k))
sync_there through Flush k t = absurd (cc (k))
sync_there true Write k t = inl refl
sync_there false Write k t = absurd (cc (t))

flush_there : (through : Bool) (kind : Kind) → kind ≡ Flush → IsOneOf Flushes (syncs through kind)
flush_there through Read k = absurd (cc (k))
flush_there through Write k = absurd (cc (k))
flush_there through Flush k = inl refl

above_self : (n : ℕ) → above n n ≡ n + 1
above_self n = by (leb_tells n n)
  where
    by : ((nat_le n n ≡ true) × (n ≤ n)) ⊎ ((nat_le n n ≡ false) × (n < n)) → above n n ≡ n + 1
    by (inl low) = ap (λ (b : Bool). cond b (n + 1) n) low.0
    by (inr high) = absurd (omega (arith, high.1))

-- EVENTS

module _ (code : List ℕ → ℕ) (rules : Rules) (i : ℕ) (inside : i < rules.disk_sectors) where
  abbrev Stands : List Event → Held → List Line → Register → Type 0
  Stands past h lines r = IsTold code rules i (Nobody code rules i) past h lines r

  record Tells (r : Register) (lines : List Line) : Type 0 where
    events : List register.Event
    register : Register
    leads : Leads r events register
    seen : seen_of events ≡ sights_of code rules i lines

  tells_then : (r r' : Register) (front : List register.Event) (shown : List Sight) (lines lines' : List Line) → Leads r front r' → seen_of front ≡ shown → sights_of code rules i lines ≡ shown ++ sights_of code rules i lines'
      → Tells r' lines' → Tells r lines
  tells_then r r' front shown lines lines' leads seen is rest = record {
    events = front ++ rest.events;
    register = rest.register;
    leads = leads_join r r' rest.register front rest.events leads rest.leads;
    seen = seen_join front rest.events ∙ ap (λ xs. xs ++ seen_of rest.events) seen ∙ ap (λ xs. shown ++ xs) rest.seen ∙ sym is;
  }

  stands_at : (past : List Event) (h h' : Held) (lines : List Line) (r : Register) → h' ≡ h → Stands past h lines r → Stands past h' lines r
  stands_at past h h' lines r is t = subst (λ x. Stands past x lines r) (sym is) t

  -- a session begins
  stands_first : (value : List ℕ) (lines : List Line) → Stands [] (surely value) lines (opening (code value))
  stands_first value lines = record {
    next = refl;
    held = refl;
    greedy = λ o none. absurd none;
    writes = λ n q place called kind at awaits none sound out. let low = called.1 in absurd (omega arith);
    syncs = λ n q what called sync awaits. let low = called.1 in absurd (omega arith);
    known = λ o none. absurd none;
    away = λ o none write x. absurd none;
  }

  tidy_first : IsTidy []
  tidy_first = record {
    below = λ n q called. let low = called.1 in absurd (omega arith);
    one = λ n q r called called'. let low = called.1 in absurd (omega arith);
    effects = λ n sector there. let low = there.1 in absurd (omega arith);
  }

  hit_here : (q : ClientRequest) (place : ℕ) → sector_of rules q place ≡ i → Hits rules i q (one_place place) place
  hit_here q place at = elim (hits_or_misses rules i q (one_place place)) [
    | inl found ↦ subst (λ j. Hits rules i q (one_place place) j) (one_hit rules i q found.0 place found.1.hit.2 at) found.1
    | inr misses ↦ absurd (misses.none place (omega arith, omega arith, at))
  ]

  -- a read that waits was called
  write_request : (past : List Event) (lines : List Line) (n : ℕ) (failed : Bool) (what : What) → is_write what ≡ true → IsKnown code rules i past lines n failed what → (q : ClientRequest) × Called past n q × (q.kind ≡ Write)
  write_request past lines n failed (Writes v through) e k = (k.request, k.called, k.kind)
  write_request past lines n failed (Reads v) e k = absurd (cc (e))
  write_request past lines n failed Flushes e k = absurd (cc (e))
  write_request past lines n failed Sync e k = absurd (cc (e))

  read_request : (past : List Event) (lines : List Line) (n : ℕ) (failed : Bool) (what : What) (v : ℕ) → what ≡ Reads v → IsKnown code rules i past lines n failed what → (q : ClientRequest) × Called past n q × (q.kind ≡ Read)
  read_request past lines n failed (Writes w through) v e k = absurd (cc (e))
  read_request past lines n failed (Reads w) v e k = (k.request, k.called, k.kind)
  read_request past lines n failed Flushes v e k = absurd (cc (e))
  read_request past lines n failed Sync v e k = absurd (cc (e))

  not_both : (past : List Event) (n m : ℕ) (q p : ClientRequest) (a b : Kind) → IsTidy past → n ≡ m → Called past n q → q.kind ≡ a → Called past m p → p.kind ≡ b → (a ≡ b → ⊥) → ⊥
  not_both past n m q p a b tidy same called is called' is' other =
      let one : q ≡ p = tidy.one m q p (subst (λ k. Called past k q) same called) called' in
      other (sym is ∙ ap (λ x. x.kind) one ∙ is')

  read_write : Read ≡ Write → ⊥
  read_write e = cc (e)

  -- A READ TAKES EFFECT

  read_effect : (past : List Event) (h : Held) (lines : List Line) (r : Register) (n : ℕ) (sector : List ℕ) (q : ClientRequest) → Stands past h lines r → IsTidy past → Called past n q → q.kind ≡ Read → IsOneOf sector h.now
      → Stands (Effect n sector ∷ past) h lines r
  read_effect past h lines r n sector q t tidy called kind among =
      told_past code rules i (Nobody code rules i) (Effect n sector) past h lines lines r t (λ m p e. cc (e)) refl (λ m. refl) (λ m e x. x) no_effect no_read
    where
      no_effect : (o : Open) → IsOneOf o r.waits → is_write o.what ≡ true → IsNoEffect o.number (Effect n sector)
      no_effect o there write same =
          let w : (p : ClientRequest) × Called past o.number p × (p.kind ≡ Write) = write_request past lines o.number o.failed o.what write (t.known o there) in
          not_both past n o.number q w.0 Read Write tidy same called kind w.1 w.2 read_write

      given : IsOneOf (code sector) r.held.now
      given = subst (λ (g : HeldOf ℕ). IsOneOf (code sector) g.now) (sym t.held) (one_map code sector h.now among)

      no_read : (o : Open) → IsOneOf o r.waits → (v : ℕ) (s : List ℕ) → o.what ≡ Reads v → Effect n sector ≡ Effect o.number s → code s ≡ v → ⊥
      no_read o there v s is e value =
          let same : sector ≡ s = cc (e) in
          let waits : is_given r.held.now (Reads v) ≡ false = subst (λ w. is_given r.held.now w ≡ false) is (t.greedy o there) in
          let yes : list_any (is_value v) r.held.now ≡ true = any_there (is_value v) (code sector) r.held.now given (eq-eqb (code sector) v (ap code same ∙ value)) in
          cc (waits, yes)

  -- A WRITE TAKES EFFECT

  write_effect : (past : List Event) (h : Held) (lines : List Line) (r : Register) (n : ℕ) (sector : List ℕ) (q : ClientRequest) (change : Change) (a : Acted code rules i past h lines r n change) → IsTidy past → Called past n q → q.kind ≡ Write
      → Stands (Effect n sector ∷ past) (changed (next_number past) change h) lines a.register
  write_effect past h lines r n sector q change a tidy called kind =
      told_past code rules i (λ m. m ≡ n) (Effect n sector) past (changed (next_number past) change h) lines lines a.register a.told (λ m p e. cc (e)) refl (λ m. refl) (λ m other same. other (sym same))
      (λ o there write same. a.told.away o there write (sym same)) no_read
    where
      no_read : (o : Open) → IsOneOf o a.register.waits → (v : ℕ) (s : List ℕ) → o.what ≡ Reads v → Effect n sector ≡ Effect o.number s → code s ≡ v → ⊥
      no_read o there v s is e value =
          let same : n ≡ o.number = cc (e) in
          let w : (p : ClientRequest) × Called past o.number p × (p.kind ≡ Read) = read_request past lines o.number o.failed o.what v is (a.told.known o there) in
          not_both past n o.number q w.0 Write Read tidy same called kind w.1 w.2 (λ x. read_write (sym x))

  -- A FAILURE

  module _ (past : List Event) (h : Held) (lines : List Line) (r : Register) (n place : ℕ) (h' : Held) (t : Stands past h lines r) (tidy : IsTidy past) (f : FailsThere rules i past h n place h') where
    abbrev fault : Event
    fault = Fails n place

    q : ClientRequest
    q = f.request

    tidy_fault : IsTidy (fault ∷ past)
    tidy_fault = tidy_more fault past (λ m p e. cc (e)) (λ m s e. absurd (cc (e))) refl tidy

    told_fault : Stands (fault ∷ past) h lines r
    told_fault = told_past code rules i (Nobody code rules i) fault past h lines lines r t (λ m p e. cc (e)) refl (λ m. refl) (λ m e x. x) (λ o there write. tt) (λ o there v s is e. absurd (cc (e)))

    called_fault : Called (fault ∷ past) n f.request
    called_fault = let c = f.is_open.called in (suc c.0, omega (arith, c.1), c.2)

    awaits_fault : All (IsNoAnswer n) (fault ∷ past)
    awaits_fault = All-cons (IsNoAnswer n) fault past tt f.is_open.awaits

    failing : HasFailed code rules i (fault ∷ past) n f.request
    failing = (place, f.inside, λ all. All-head (IsNoFailure n place) fault past all refl refl)

    -- what a failure leaves
    record Marks (g : Held) : Type 0 where
      front : List register.Event
      register : Register
      leads : Leads r front register
      unseen : seen_of front ≡ []
      told : Stands (fault ∷ past) g lines register

    none_left : Marks h
    none_left = record { front = []; register = r; leads = refl; unseen = refl; told = told_fault }

    doubts_more : (g : Held) → Marks g → (what : What) → IsOneOf what (syncs f.request.through f.request.kind) → Marks (changed (next_number past) Doubts g)
    doubts_more g l what sync =
        let d : Faulted code rules i (fault ∷ past) g lines l.register Doubts =
        doubts code rules i (fault ∷ past) g lines l.register l.told tidy_fault n f.request what called_fault sync failing (l.told.syncs n f.request what called_fault sync awaits_fault) in
        record {
          front = l.front ++ register.Unseen FailsTurn ∷ [];
          register = d.register;
          leads = leads_join r l.register d.register l.front (register.Unseen FailsTurn ∷ []) l.leads (d.register, d.turns, refl);
          unseen = seen_join l.front (register.Unseen FailsTurn ∷ []) ∙ ap (λ xs. xs ++ []) l.unseen;
          told = d.told;
        }

    abbrev doubt_list : Bool → List Change
    doubt_list through = if through then Doubts ∷ [] else []

    through_more : (g : Held) → Marks g → f.request.kind ≡ Write → (through : Bool) → f.request.through ≡ through → Marks (changed_by (next_number past) (doubt_list through) g)
    through_more g l kind true e = doubts_more g l Sync (sync_there f.request.through f.request.kind kind e)
    through_more g l kind false e = l

    at_here : sector_of rules f.request place ≡ i → f.request.kind ≡ Write → IsAt rules i f.request place
    at_here sector kind = record { admitted = f.admitted; transfer = subst (λ k. IsTrue (is_transfer k)) (sym kind) refl; sector = sector; inside = f.inside }

    try_here : f.request.kind ≡ Write → IsAt rules i f.request place → Marks (changed (next_number past) (Tries (value_for rules f.request place)) h)
    try_here kind at =
        let has : IsOneOf (write_of code rules i n f.request place) r.waits = t.writes n f.request place f.is_open.called kind at f.is_open.awaits (f.idle.effect at) f.idle.failure (λ x. x) in
        let d : Faulted code rules i (fault ∷ past) h lines r (Tries (value_for rules f.request place)) = tries code rules i (fault ∷ past) h lines r told_fault n f.request place has apart in
        record { front = register.Unseen FailsTurn ∷ []; register = d.register; leads = (d.register, d.turns, refl); unseen = refl; told = d.told }
      where
        apart : (m : ℕ) (p : ClientRequest) (k : ℕ) → Called (fault ∷ past) m p → IsAt rules i p k → All (IsNoFailure m k) (fault ∷ past) → m ≡ n → ⊥
        apart m p k called at' sound same =
            let own : p ≡ f.request = tidy_fault.one n p f.request (subst (λ j. Called (fault ∷ past) j p) same called) called_fault in
            let here : place ≡ k = one_hit rules i f.request place k at.sector (subst (λ x. sector_of rules x k ≡ i) own at'.sector) in
            All-head (IsNoFailure m k) fault past sound (sym same) here

    by_kind : (kind : Kind) → f.request.kind ≡ kind → Marks (changed_by (next_number past) (fault_changes rules.sector_size (work_of rules f.request (one_place place)) i) h)
    by_kind Read kind = subst (λ cs. Marks (changed_by (next_number past) cs h)) (sym (fault_is rules i f.request place Read _ _ kind refl refl)) none_left
    by_kind Flush kind =
        subst (λ cs. Marks (changed_by (next_number past) cs h)) (sym (fault_is rules i f.request place Flush _ _ kind refl refl)) (doubts_more h none_left Flushes (flush_there f.request.through f.request.kind kind))
    by_kind Write kind = elim (hits_or_misses rules i f.request (one_place place)) [
      | inl found ↦
          let k : found.0 ≡ place = alone found.0 found.1.hit.0 found.1.hit.1 in
          let sector : sector_of rules f.request place ≡ i = subst (λ j. sector_of rules f.request j ≡ i) k found.1.hit.2 in
          let hit : Hits rules i f.request (one_place place) place = hit_here f.request place sector in
          subst (λ cs. Marks (changed_by (next_number past) cs h)) (sym (fault_is rules i f.request place Write true (value_for rules f.request place) kind hit.there hit.value))
          (through_more (changed (next_number past) (Tries (value_for rules f.request place)) h) (try_here kind (at_here sector kind)) kind f.request.through refl)
      | inr misses ↦
          subst (λ cs. Marks (changed_by (next_number past) cs h)) (sym (fault_is rules i f.request place Write false _ kind misses.away refl)) (through_more h none_left kind f.request.through refl)
    ]
      where
        alone : (j : ℕ) → place ≤ j → j < place + 1 → j ≡ place
        alone j a b = omega arith

    leaves : Marks h'
    leaves = subst (λ x. Marks x) (sym f.after) (by_kind f.request.kind refl)

  -- AN ANSWER

  success_or : (status : NtStatus) → (status ≡ Success) ⊎ (status ≡ Success → ⊥)
  success_or Success = inl refl
  success_or _ = inr (λ e. cc (e))

  end_failed : (n : ℕ) (status : NtStatus) → (status ≡ Success → ⊥) → end_of n status ≡ Failed n
  end_failed n Success other = absurd (other refl)
  end_failed n _ other = refl

  answered_same : (next n : ℕ) (h : Held) (kind : Kind) (status : NtStatus) → (status ≡ Success → ⊥) → answered next n kind status h ≡ h
  answered_same next n h Read status other = refl
  answered_same next n h Write status other = refl
  answered_same next n h Flush Success other = absurd (other refl)
  answered_same next n h Flush _ other = refl

  unless : (b : Bool) (r : Register) → b ≡ false → IsOneOf r (if b then [] else r ∷ [])
  unless true r e = absurd (cc (e))
  unless false r e = inl refl

  module _ (past : List Event) (h h' : Held) (lines : List Line) (r : Register) (n : ℕ) (informed : ℕ) (bytes : List ℕ) (tidy : IsTidy past) where
    abbrev Answers : NtStatus → Type 0
    Answers status =
        IsAnswer rules i past h n status bytes h' → Stands past h (Told (Answer n status informed bytes) ∷ lines) r → ((r' : Register) → Stands (Seen (Told (Answer n status informed bytes)) ∷ past) h' lines r' → Tells r' lines)
        → Tells r (Told (Answer n status informed bytes) ∷ lines)

    succeeds : Answers Success
    succeeds a t rest =
        tells_then r (done n r) (register.Seen (Done n) ∷ []) (Done n ∷ []) (Told (Answer n Success informed bytes) ∷ lines) lines
        (done n r, unless (list_any (is_undone n) r.waits) (done n r) (none_undone code rules i past h h' lines r n informed bytes t tidy a), refl) refl refl
        (rest (done n r) (told_ended code rules i past h lines r n Success informed bytes t h' (done n r).held (flushed_told code rules i past h h' lines r n informed bytes t tidy a) (flushed_now code rules i past h h' lines r n informed bytes t tidy a)))

    fails_so : (status : NtStatus) → (status ≡ Success → ⊥) → Answers status
    fails_so status other a t rest =
        tells_then r (ended n r) (register.Seen (Failed n) ∷ []) (Failed n ∷ []) (Told (Answer n status informed bytes) ∷ lines) lines (ended n r, inl refl, refl) refl
        (ap (λ s. s ∷ sights_of code rules i lines) (end_failed n status other))
        (rest (ended n r) (told_ended code rules i past h lines r n status informed bytes t h' r.held (t.held ∙ ap (coded code) (sym (a.after ∙ answered_same (next_number past) n h a.request.kind status other))) refl))

    answers : (status : NtStatus) → Answers status
    answers status = elim (success_or status) [ inl e ↦ subst Answers (sym e) succeeds | inr other ↦ fails_so status other ]

  -- ALL EVENTS

  -- a label that shows nothing
  passing : (label : Label) (past : List Event) (h h' : Held) (lines : List Line) (r : Register) → ((n : ℕ) (q : ClientRequest) → label ≡ Call n q → ⊥) → next_number (Seen (Told label) ∷ past) ≡ next_number past
      → ((m : ℕ) → success_of m lines ≡ success_of m (Told label ∷ lines)) → sights_of code rules i (Told label ∷ lines) ≡ sights_of code rules i lines → h' ≡ h → Stands past h (Told label ∷ lines) r
      → (Stands (Seen (Told label) ∷ past) h' lines r → Tells r lines) → Tells r (Told label ∷ lines)
  passing label past h h' lines r no_call next same shows is t rest =
      tells_then r r [] [] (Told label ∷ lines) lines refl refl shows
      (rest (stands_at (Seen (Told label) ∷ past) h h' lines r is
      (told_past code rules i (Nobody code rules i) (Seen (Told label)) past h (Told label ∷ lines) lines r t (λ m p e. no_call m p (cc (e))) next same (λ m e x. x) (λ o there write. tt) (λ o there v s is e. absurd (cc (e))))))

  tidy_label : (label : Label) (past : List Event) → ((n : ℕ) (q : ClientRequest) → label ≡ Call n q → ⊥) → next_number (Seen (Told label) ∷ past) ≡ next_number past → IsTidy past → IsTidy (Seen (Told label) ∷ past)
  tidy_label label past no_call next tidy = tidy_more (Seen (Told label)) past (λ m p e. no_call m p (cc (e))) (λ m s e. absurd (cc (e))) next tidy

  tells : (events : List Event) (past : List Event) (h : Held) → MayFollow rules i past h events → IsTidy past → AreCounted (next_number past) (lines_of events) → (r : Register) → Stands past h (lines_of events) r → Tells r (lines_of events)
  tells [] past h m tidy count r t = record { events = []; register = r; leads = refl; seen = refl }
  tells (Effect n sector ∷ events) past h m tidy count r t =
      by_kind
      (λ r' t'. tells events (Effect n sector ∷ past) m.0 m.2
      (tidy_more (Effect n sector) past (λ k p e. cc (e)) (λ k s e. let same : n ≡ k = cc (e) in subst (λ j. j < next_number past) same (tidy.below n m.1.request m.1.is_open.called)) refl tidy) count r' t')
      m.1.request.kind refl m.1.carries
    where
      q : ClientRequest
      q = m.1.request

      by_kind : ((r' : Register) → Stands (Effect n sector ∷ past) m.0 (lines_of events) r' → Tells r' (lines_of events)) → (kind : Kind) → m.1.request.kind ≡ kind → Carries rules h m.1.request m.1.place kind sector → Tells r (lines_of events)
      by_kind rest Read kind among =
          rest r (stands_at (Effect n sector ∷ past) h m.0 (lines_of events) r
          (m.1.after ∙ ap (λ cs. changed_by (next_number past) cs h) (read_act rules i m.1.request (one_place m.1.place) n kind))
          (read_effect past h (lines_of events) r n sector m.1.request t tidy m.1.is_open.called kind among))
      by_kind rest Write kind own =
          let there : IsOneOf (write_of code rules i n m.1.request m.1.place) r.waits =
          t.writes n m.1.request m.1.place m.1.is_open.called kind m.1.there m.1.is_open.awaits (m.1.idle.effect m.1.there) m.1.idle.failure (λ x. x) in
          let a : Acted code rules i past h (lines_of events) r n (if m.1.request.through then Secures (value_for rules m.1.request m.1.place) else Puts (value_for rules m.1.request m.1.place)) =
          acts code rules i past h (lines_of events) r t n m.1.request m.1.place there in
          tells_then r a.register (register.Unseen Acts ∷ []) [] (lines_of events) (lines_of events) (a.register, a.turns, refl) refl refl
          (rest a.register (stands_at (Effect n sector ∷ past)
          (changed (next_number past) (if m.1.request.through then Secures (value_for rules m.1.request m.1.place) else Puts (value_for rules m.1.request m.1.place)) h) m.0 (lines_of events) a.register
          (m.1.after ∙ ap (λ cs. changed_by (next_number past) cs h) (hit_act rules i m.1.request (one_place m.1.place) m.1.place n kind (hit_here m.1.request m.1.place m.1.there.sector)))
          (write_effect past h (lines_of events) r n sector m.1.request (if m.1.request.through then Secures (value_for rules m.1.request m.1.place) else Puts (value_for rules m.1.request m.1.place)) a tidy m.1.is_open.called kind)))
      by_kind rest Flush kind none = absurd none
  tells (Fails n place ∷ events) past h m tidy count r t =
      let l : Marks past h (lines_of events) r n place m.0 t tidy m.1 m.0 = leaves past h (lines_of events) r n place m.0 t tidy m.1 in
      tells_then r l.register l.front [] (lines_of events) (lines_of events) l.leads l.unseen refl
      (tells events (Fails n place ∷ past) m.0 m.2 (tidy_fault past h (lines_of events) r n place m.0 t tidy m.1) count l.register l.told)
  tells (Seen Lost ∷ events) past h m tidy count r t =
      let among : IsOneOf (code m.1.value) (left r.held) =
      subst (λ (g : HeldOf ℕ). IsOneOf (code m.1.value) (left g)) (sym t.held) (subst (λ vs. IsOneOf (code m.1.value) vs) (sym (coded_left code h)) (one_map code m.1.value (left h) (m.1.among inside))) in
      tells_then r (opening (code m.1.value)) (register.Seen LostSight ∷ []) (LostSight ∷ []) (Lost ∷ lines_of events) (lines_of events)
      (opening (code m.1.value), one_map opening (code m.1.value) (left r.held) among, refl) refl refl
      (tells events [] m.0 m.2 tidy_first count (opening (code m.1.value)) (stands_at [] (surely m.1.value) m.0 (lines_of events) (opening (code m.1.value)) m.1.after (stands_first m.1.value (lines_of events))))
  tells (Seen Ended ∷ events) past h m tidy count r t =
      let among : IsOneOf (code m.1.value) r.held.now =
      subst (λ (g : HeldOf ℕ). IsOneOf (code m.1.value) g.now) (sym t.held) (one_map code m.1.value h.now (m.1.among inside)) in
      tells_then r (opening (code m.1.value)) (register.Seen EndedSight ∷ []) (EndedSight ∷ []) (Ended ∷ lines_of events) (lines_of events)
      (opening (code m.1.value), one_map opening (code m.1.value) r.held.now among, refl) refl refl
      (tells events [] m.0 m.2 tidy_first count (opening (code m.1.value)) (stands_at [] (surely m.1.value) m.0 (lines_of events) (opening (code m.1.value)) m.1.after (stands_first m.1.value (lines_of events))))
  tells (Seen (Told (Call n q)) ∷ events) past h m tidy count r t =
      let c : Takes code rules i past h (lines_of events) r n q = takes_call code rules i past h (lines_of events) r n q t tidy count.0 in
      tells_then r c.adds.register (register.Seen (Elsewhere n) ∷ calls n (whats code rules i q (success_of n (lines_of events)))) (Elsewhere n ∷ map (CallSight n) (whats code rules i q (success_of n (lines_of events))))
      (Told (Call n q) ∷ lines_of events) (lines_of events) (counted code rules i n r, inl refl, c.adds.leads) (ap (λ xs. Elsewhere n ∷ xs) (seen_calls n (whats code rules i q (success_of n (lines_of events))))) refl
      (tells events (Seen (Told (Call n q)) ∷ past) m.0 m.2 (tidy_call code rules i past h (lines_of events) r n q t tidy count.0)
      (subst (λ k. AreCounted k (lines_of events)) (sym (ap (λ k. above k (next_number past)) count.0 ∙ above_self (next_number past))) count.1) c.adds.register
      (stands_at (Seen (Told (Call n q)) ∷ past) h m.0 (lines_of events) c.adds.register m.1 c.told))
  tells (Seen (Told (Answer n status informed bytes)) ∷ events) past h m tidy count r t =
      answers past h m.0 (lines_of events) r n informed bytes tidy status m.1 t
      (λ r' t'. tells events (Seen (Told (Answer n status informed bytes)) ∷ past) m.0 m.2 (tidy_label (Answer n status informed bytes) past (λ k p e. cc (e)) refl tidy) count r' t')
  tells (Seen (Told (Device label)) ∷ events) past h m tidy count r t =
      passing (Device label) past h m.0 (lines_of events) r (λ k p e. cc (e)) refl (λ k. refl) refl m.1 t
      (λ t'. tells events (Seen (Told (Device label)) ∷ past) m.0 m.2 (tidy_label (Device label) past (λ k p e. cc (e)) refl tidy) count r t')
  tells (Seen (Told (Cancel n)) ∷ events) past h m tidy count r t =
      passing (Cancel n) past h m.0 (lines_of events) r (λ k p e. cc (e)) refl (λ k. refl) refl m.1 t
      (λ t'. tells events (Seen (Told (Cancel n)) ∷ past) m.0 m.2 (tidy_label (Cancel n) past (λ k p e. cc (e)) refl tidy) count r t')
  tells (Seen (Told Pause) ∷ events) past h m tidy count r t =
      passing Pause past h m.0 (lines_of events) r (λ k p e. cc (e)) refl (λ k. refl) refl m.1 t
      (λ t'. tells events (Seen (Told Pause) ∷ past) m.0 m.2 (tidy_label Pause past (λ k p e. cc (e)) refl tidy) count r t')
  tells (Seen (Told Resume) ∷ events) past h m tidy count r t =
      passing Resume past h m.0 (lines_of events) r (λ k p e. cc (e)) refl (λ k. refl) refl m.1 t
      (λ t'. tells events (Seen (Told Resume) ∷ past) m.0 m.2 (tidy_label Resume past (λ k p e. cc (e)) refl tidy) count r t')
  tells (Seen (Told Remove) ∷ events) past h m tidy count r t =
      passing Remove past h m.0 (lines_of events) r (λ k p e. cc (e)) refl (λ k. refl) refl m.1 t
      (λ t'. tells events (Seen (Told Remove) ∷ past) m.0 m.2 (tidy_label Remove past (λ k p e. cc (e)) refl tidy) count r t')
  tells (Seen (Told Surprise) ∷ events) past h m tidy count r t =
      passing Surprise past h m.0 (lines_of events) r (λ k p e. cc (e)) refl (λ k. refl) refl m.1 t
      (λ t'. tells events (Seen (Told Surprise) ∷ past) m.0 m.2 (tidy_label Surprise past (λ k p e. cc (e)) refl tidy) count r t')
  tells (Seen (Told Removed) ∷ events) past h m tidy count r t =
      passing Removed past h m.0 (lines_of events) r (λ k p e. cc (e)) refl (λ k. refl) refl m.1 t
      (λ t'. tells events (Seen (Told Removed) ∷ past) m.0 m.2 (tidy_label Removed past (λ k p e. cc (e)) refl tidy) count r t')

lines_shared : (events : List Event) → lines_of (shared_of events) ≡ lines_of events
lines_shared [] = refl
lines_shared (Effect number sector ∷ events) = lines_shared events
lines_shared (Seen line ∷ events) = ap (λ xs. line ∷ xs) (lines_shared events)
lines_shared (Fails number place ∷ events) = lines_shared events

pub sights_scheduled : SightsAreScheduled
sights_scheduled code rules i start shared inside count s =
    let same : lines_of s.events ≡ lines_of shared = sym (lines_shared s.events) ∙ ap lines_of s.shares in
    subst (λ ls. HasSchedule (code start) (sights_of code rules i ls)) same
    (scheduled (tells code rules i inside s.events [] (surely start) s.in_turn (tidy_first code rules i inside) (subst (λ ls. AreCounted 1 ls) (sym same) count) (opening (code start)) (stands_first code rules i inside start (lines_of s.events))))
  where
    scheduled : {lines : List Line} → Tells code rules i inside (opening (code start)) lines → HasSchedule (code start) (sights_of code rules i lines)
    scheduled x = record { events = x.events; register = x.register; in_turn = x.leads; seen = x.seen }

pub refused_unexplained : RefusedAreUnexplained
refused_unexplained code rules disk history i inside count none x =
    let a : AreScheduled rules disk history = explained_scheduled rules disk history x in
    none (subst (λ ls. HasSchedule (code (disk i)) (sights_of code rules i ls)) a.seen (sights_scheduled code rules i (disk i) a.shared inside (subst (λ ls. AreCounted 1 ls) (sym a.seen) count) (a.each i)))
