-- Turns of a register, as effects and failures at a sector.
use Rattle.std.proofs.Common.{◌≡◌, ◌≢◌, ◌⊎◌, inl, inr, ℕ, ◌==◌, Bool, true, false, List, [], ◌∷◌, ◌++◌, Option, Some, refl, sym, ◌∙◌, ap, subst, arith, map, eq-eqb}
use Rattle.std.specs.Prelude.{Contains, if◌then◌else◌}
use Rattle.std.specs.List.{filter}
use Rattle.std.proofs.lemmas.Bool.{and_parts, and_from, eqb-true}
use Rattle.std.proofs.lemmas.List.Elements.{All-tail, All-cons, All-contains}
use Rattle.ntstatus.specs.declared.NtStatus.{NtStatus}
use Rattle.srb.specs.declared.Kind.{Kind}
use Rattle.srb.specs.declared.Kind.TheVariants.{Read, Write, Flush}
use Rattle.machine.specs.declared.ClientRequest.{ClientRequest}
use Rattle.machine.specs.declared.Label.TheVariants.{Call}
use Rattle.machine.specs.Rules.{Rules}
use Rattle.history_laws.specs.declared.Asked.{Asked}
use Rattle.loss.specs.Held.{Change, ChangeOf, Puts, Secures, Tries, Doubts, Held, HeldOf, IsOneOf, changed, changed_by, fault_changes, has, value_at, value_of}
use Rattle.loss.specs.Moved.{work_of}
use Rattle.loss.specs.Sessions.{Line, Told}
use Rattle.loss.specs.Laws.{sector_of, value_for}
use Rattle.history_loss.specs.Schedules.{Event, Seen, Effect, Fails, Carries, FailsThere, IsNoAnswer, TakesEffect, TookEffect, acted, failed, next_number, one_place}
use Rattle.history_loss.proofs.Mirroring.{IsBelow, further, newest}
use Rattle.history_loss.proofs.Places.{Hits, hit_act, hits_or_misses, one_hit}
use Rattle.register_loss.specs.declared.What.{What}
use Rattle.register_loss.specs.declared.What.TheVariants.{Read as Reads, Write as Writes, Flush as Flushes, Sync}
use Rattle.register_loss.specs.declared.Open.{Open}
use Rattle.register_loss.specs.declared.Turn.TheVariants.{Acts, Fails as FailsTurn}
use Rattle.register_loss.specs.Schedules.{Register, change_of, is_flush, is_other, is_same, is_sync, is_write, left_by, marked, settled}
use Rattle.register_loss_search.specs.Covering.{Wider}
use Rattle.register_loss_search.proofs.Listing.{one_left, one_map, one_either, one_right, in_filter, of_filter, of_map}
use Rattle.register_loss_search.proofs.Changing.{dated_by, wider_by, wider_then}
use Rattle.history_loss_sights.specs.Sights.{place_of}
use Rattle.history_loss_sights.proofs.Coding.{coded, coded_change, coded_changed}
use Rattle.history_loss_sights.proofs.Standing.{Called, behind, first_or_behind, not_of, not_true}
use Rattle.history_loss_shown.proofs.Fitting.{Known, known_more}
use Rattle.history_loss_shown.proofs.Owning.{GoesOn, goes_effect, goes_fault}
use Rattle.history_loss_shown.proofs.Standing.{HasFlush, HasMove, IsKnown, IsNoFault, IsQuiet, IsRead, IsSync, IsWrite, Stands, move_called, sound_at, took_more}
use Rattle.history_loss_shown.proofs.Standing as standing
use Rattle.history_loss_shown.proofs.Settling.{settles}
use Rattle.history_loss_shown.proofs.Stuck.{marked_number, marked_what}

-- CHANGES

pub wider_doubts : (n : ℕ) (g : HeldOf ℕ) → Wider g (changed n Doubts g)
wider_doubts n g = record {
  now = λ v p. one_left v g.now (map value_of g.older) p;
  older = λ o p. inl (one_right o.value g.now (map value_of g.older) (one_map value_of o g.older p));
}

abbrev put_by : Bool → List ℕ → Change
put_by through v = if through then Secures v else Puts v

abbrev fault_list : Kind → Bool → Bool → List ℕ → List Change
fault_list kind there through value = elim kind [
  | Read ↦ []
  | Write ↦ (if there then Tries value ∷ [] else []) ++ (if through then Doubts ∷ [] else [])
  | Flush ↦ Doubts ∷ []
]

pub fault_is : (rules : Rules) (i : ℕ) (q : ClientRequest) (place : ℕ) (kind : Kind) (there : Bool) (v : List ℕ) → q.kind ≡ kind → has (work_of rules q (one_place place)).extent i ≡ there
    → value_at rules.sector_size (work_of rules q (one_place place)) i ≡ v → fault_changes rules.sector_size (work_of rules q (one_place place)) i ≡ fault_list kind there q.through v
fault_is rules i q place kind there v k t e =
    ap (λ x. fault_list x (has (work_of rules q (one_place place)).extent i) q.through (value_at rules.sector_size (work_of rules q (one_place place)) i)) k
    ∙ ap (λ x. fault_list kind x q.through (value_at rules.sector_size (work_of rules q (one_place place)) i)) t
    ∙ ap (λ x. fault_list kind there q.through x) e

pub hit_here : (rules : Rules) (i : ℕ) (q : ClientRequest) (place : ℕ) → sector_of rules q place ≡ i → Hits rules i q (one_place place) place
hit_here rules i q place at = elim (hits_or_misses rules i q (one_place place)) [
  | inl found ↦ subst (λ j. Hits rules i q (one_place place) j) (one_hit rules i q found.0 place found.1.hit.2 at) found.1
  | inr misses ↦ absurd (misses.none place (omega arith, omega arith, at))
]

-- OPERATIONS

read_no_write : Read ≡ Write → ⊥
read_no_write e = cc (e)

flush_no_write : (what : What) → is_flush what ≡ true → is_write what ≡ false
flush_no_write (Reads v) e = absurd (cc (e))
flush_no_write (Writes v through) e = absurd (cc (e))
flush_no_write Flushes e = refl
flush_no_write Sync e = absurd (cc (e))

module _ (code : List ℕ → ℕ) (rules : Rules) (i : ℕ) (h : Held) (lines : List Line) (asked : List (Option Asked)) (owed : Option NtStatus) (r : Register) (coming : List Open) (past : List Event)
    (t : Stands code rules i past h lines r.next r.held (r.waits ++ coming)) (known : Known past asked owed)
    (fresh : (o p : Open) → IsOneOf o r.waits → IsOneOf p coming → is_sync o.what ≡ false → is_sync p.what ≡ false → o.number ≡ p.number → ⊥) where
  -- what goes on behind a turn
  abbrev pub Behind : Register → Type 0
  Behind r' = (past' : List Event) (h' : Held) → Stands code rules i past' h' lines r'.next r'.held (r'.waits ++ coming) → Known past' asked owed → GoesOn rules i past' h' lines

  change_coded : (n : ℕ) (change : ChangeOf ℕ) (own : Change) → n ≡ next_number past → change ≡ coded_change code own → changed n change (coded code h) ≡ coded code (changed (next_number past) own h)
  change_coded n change own same is =
      ap (λ m. changed m change (coded code h)) same ∙ ap (λ c. changed (next_number past) c (coded code h)) is ∙ coded_changed code (next_number past) own h

  wider_change : (change : ChangeOf ℕ) (own : Change) → change ≡ coded_change code own → Wider (changed r.next change r.held) (coded code (changed (next_number past) own h))
  wider_change change own is = subst (λ g. Wider (changed r.next change r.held) g) (change_coded r.next change own t.counts is) (wider_by r.next r.held (coded code h) t.holds t.dated change)

  module _ (of : Open) (waits : IsOneOf of r.waits) (n v : ℕ) (through : Bool) (number : of.number ≡ n) (what : of.what ≡ Writes v through) (k : IsWrite code rules i past n v through false) where
    abbrev own_value : List ℕ
    own_value = value_for rules k.request (place_of rules i k.request)

    of_same : (o : Open) → IsOneOf o (r.waits ++ coming) → o.number ≡ n → is_sync o.what ≡ false → is_same of o ≡ true
    of_same o there same move = by o.what refl move (t.known o there)
      where
        mine : is_write o.what ≡ true → is_same of o ≡ true
        mine write =
            let w : is_write of.what ≡ true = ap (λ x. is_write x) what in
            and_from (o.number == of.number) (if is_write of.what then is_write o.what else is_sync o.what) (eq-eqb o.number of.number (same ∙ sym number))
            (subst (λ b. (if b then is_write o.what else is_sync o.what) ≡ true) (sym w) write)

        by : (w : What) → o.what ≡ w → is_sync w ≡ false → IsKnown code rules i past lines o.number o.failed o.what → is_same of o ≡ true
        by (Writes u thr) is m x = mine (ap (λ y. is_write y) is)
        by (Reads u) is m x =
            let read : IsRead code rules i past lines o.number u = subst (λ y. IsKnown code rules i past lines o.number o.failed y) is x in
            let own : read.request ≡ k.request = known.one o.number read.request k.request read.called (subst (λ j. Called past j k.request) (sym same) k.called) in
            absurd (read_no_write (sym read.kind ∙ ap (λ y. y.kind) own ∙ k.kind))
        by Flushes is m x = absurd (cc (m))
        by Sync is m x = absurd (cc (m))

    same_number : (o : Open) → is_same of o ≡ true → o.number ≡ n
    same_number o e = eqb-true o.number of.number (and_parts (o.number == of.number) _ e).0 ∙ number

    same_write : (o : Open) → is_same of o ≡ true → is_write o.what ≡ true
    same_write o e =
        let w : is_write of.what ≡ true = ap (λ x. is_write x) what in
        subst (λ b. (if b then is_write o.what else is_sync o.what) ≡ true) w (and_parts (o.number == of.number) (if is_write of.what then is_write o.what else is_sync o.what) e).1

    other_by : (o : Open) → (is_same of o ≡ true → ⊥) → is_same of o ≡ false
    other_by o none = by (is_same of o) refl
      where
        by : (b : Bool) → is_same of o ≡ b → b ≡ false
        by true e = absurd (none e)
        by false e = refl

    -- IT TAKES EFFECT

    abbrev effect : Event
    effect = Effect n own_value

    abbrev kept : List Open
    kept = filter (is_other of) r.waits

    effect_takes : TakesEffect rules i past h n own_value (acted rules (next_number past) n k.request (place_of rules i k.request) i h)
    effect_takes = record {
      request = k.request;
      place = place_of rules i k.request;
      is_open = record { called = k.called; awaits = k.awaits };
      there = k.at;
      idle = record { effect = λ at. (k.idle refl).0; failure = sound_at n (place_of rules i k.request) past (k.idle refl).1 };
      carries = subst (λ kind. Carries rules h k.request (place_of rules i k.request) kind own_value) (sym k.kind) refl;
      after = refl;
    }

    abbrev behind_effect : Held
    behind_effect = changed (next_number past) (put_by k.request.through own_value) h

    effect_is : acted rules (next_number past) n k.request (place_of rules i k.request) i h ≡ behind_effect
    effect_is =
        ap (λ cs. changed_by (next_number past) cs h)
        (hit_act rules i k.request (one_place (place_of rules i k.request)) (place_of rules i k.request) n k.kind (hit_here rules i k.request (place_of rules i k.request) k.at.sector))

    effect_known : Known (effect ∷ past) asked owed
    effect_known = known_more past asked owed effect (All-contains (IsBelow _) past (Seen (Told (Call n k.request))) known.given k.called) (λ m. tt) (λ m p e. absurd (cc (e))) refl known

    put_coded : (b : Bool) (x : List ℕ) → (if b then Secures (code x) else Puts (code x)) ≡ coded_change code (put_by b x)
    put_coded true x = refl
    put_coded false x = refl

    change_is : (change : ChangeOf ℕ) → (if through then Secures v else Puts v) ≡ change → change ≡ coded_change code (put_by k.request.through own_value)
    change_is change e =
        sym e ∙ ap (λ x. if through then Secures x else Puts x) k.value ∙ ap (λ b. if b then Secures (code own_value) else Puts (code own_value)) k.same ∙ put_coded k.request.through own_value

    -- what stays is of another number
    quiet_effect : (o : Open) → IsOneOf o (kept ++ coming) → is_sync o.what ≡ false → n ≢ o.number
    quiet_effect o there move same = elim (one_either o kept coming there) [
      | inl stays ↦
          let was : IsOneOf o r.waits × (is_other of o ≡ true) = of_filter (is_other of) o r.waits stays in
          let yes : is_same of o ≡ true = of_same o (one_left o r.waits coming was.0) (sym same) move in
          let no : is_same of o ≡ false = not_true (is_same of o) was.1 in
          absurd (cc (yes, no))
      | inr comes ↦ fresh of o waits comes (ap (λ w. is_sync w) what) move (number ∙ same)
    ]

    stays_on : (o : Open) → IsOneOf o (r.waits ++ coming) → is_same of o ≡ false → IsOneOf o (kept ++ coming)
    stays_on o there e = elim (one_either o r.waits coming there) [
      | inl waited ↦ one_left o kept coming (in_filter (is_other of) o r.waits waited (not_of (is_same of o) e))
      | inr comes ↦ one_right o kept coming comes
    ]

    was_there : (o : Open) → IsOneOf o (kept ++ coming) → IsOneOf o (r.waits ++ coming)
    was_there o there = elim (one_either o kept coming there) [
      | inl stays ↦ one_left o r.waits coming (of_filter (is_other of) o r.waits stays).0
      | inr comes ↦ one_right o r.waits coming comes
    ]

    effect_stands : (change : ChangeOf ℕ) → (if through then Secures v else Puts v) ≡ change → Stands code rules i (effect ∷ past) behind_effect lines r.next (changed r.next change r.held) (kept ++ coming)
    effect_stands change e = record {
      counts = t.counts;
      holds = wider_change change (put_by k.request.through own_value) (change_is change e);
      dated = dated_by r.next r.held change t.dated;
      known = λ o there. standing.known_more code rules i effect past lines o.number o.failed o.what tt (λ move. (quiet_effect o there move, tt)) (t.known o (was_there o there));
      moves = λ m p bytes called at awaits success.
          let before : Called past m p = behind effect past (Seen (Told (Call m p))) (λ e. cc (e)) called in
          by_number m p bytes (m == n) refl before (t.moves m p bytes before at (All-tail (IsNoAnswer m) effect past awaits) success);
      flushes = λ m p bytes called kind awaits success.
          flush m (t.flushes m p bytes (behind effect past (Seen (Told (Call m p))) (λ e. cc (e)) called) kind (All-tail (IsNoAnswer m) effect past awaits) success);
      failures = λ m place there awaits.
          let before : Contains past (Fails m place) = behind effect past (Fails m place) (λ e. cc (e)) there in
          failure m place before (t.failures m place before (All-tail (IsNoAnswer m) effect past awaits));
    }
      where
        by_number : (m : ℕ) (p : ClientRequest) (bytes : List ℕ) (b : Bool) → (m == n) ≡ b → Called past m p → TookEffect rules past m p (place_of rules i p) bytes ⊎ HasMove code rules i m (r.waits ++ coming)
            → TookEffect rules (effect ∷ past) m p (place_of rules i p) bytes ⊎ HasMove code rules i m (kept ++ coming)
        by_number m p bytes true e called old =
            let same : m ≡ n = eqb-true m n e in
            let own : p ≡ k.request = known.one m p k.request called (subst (λ j. Called past j k.request) (sym same) k.called) in
            inl (record {
              sector = own_value;
              before = subst (λ j. Contains (effect ∷ past) (Effect j own_value)) (sym same) (newest effect past);
              hands_over = λ read. absurd (read_no_write (sym read ∙ ap (λ x. x.kind) own ∙ k.kind));
            })
        by_number m p bytes false e called (inl took) = inl (took_more code rules i effect past m p (place_of rules i p) bytes took)
        by_number m p bytes false e called (inr (o, there, is, move)) =
            inr (o, stays_on o there (other_by o (λ same. let yes : (m == n) ≡ true = eq-eqb m n (sym is ∙ same_number o same) in absurd (cc (yes, e)))), is, move)

        flush : (m : ℕ) → HasFlush code rules i m (r.waits ++ coming) → HasFlush code rules i m (kept ++ coming)
        flush m (o, there, is, f) =
            (o, stays_on o there (other_by o (λ same. let yes : is_write o.what ≡ true = same_write o same in let no : is_write o.what ≡ false = flush_no_write o.what f in absurd (cc (yes, no)))), is, f)

        failure : (m place : ℕ) → Contains past (Fails m place) → HasMove code rules i m (r.waits ++ coming) → HasMove code rules i m (kept ++ coming)
        failure m place there (o, has, is, move) =
            (o, stays_on o has (other_by o (λ same. absurd (All-contains (IsNoFault n) past (Fails m place) (k.idle refl).1 there (sym is ∙ same_number o same)))), is, move)

    takes_effect : (change : ChangeOf ℕ) → (if through then Secures v else Puts v) ≡ change → Behind (settled r.next (changed r.next change r.held) (filter (is_other of) r.waits)) → GoesOn rules i past h lines
    takes_effect change e on =
        goes_effect rules i past h behind_effect lines n own_value (subst (λ x. TakesEffect rules i past h n own_value x) effect_is effect_takes)
        (settles code rules i behind_effect lines asked owed r.next (changed r.next change r.held) kept coming (λ past' t' known'. on past' behind_effect t' known') (effect ∷ past) (effect_stands change e) effect_known)

    -- IT FAILS

    abbrev fault : Event
    fault = Fails n (place_of rules i k.request)

    abbrev marks : List Open
    marks = map (marked of) r.waits

    fault_takes : FailsThere rules i past h n (place_of rules i k.request) (failed rules (next_number past) k.request (place_of rules i k.request) i h)
    fault_takes = record {
      request = k.request;
      is_open = record { called = k.called; awaits = k.awaits };
      admitted = k.at.admitted;
      inside = k.at.inside;
      idle = record { effect = λ at. (k.idle refl).0; failure = sound_at n (place_of rules i k.request) past (k.idle refl).1 };
      after = refl;
    }

    abbrev doubt_list : Bool → List Change
    doubt_list b = if b then Doubts ∷ [] else []

    abbrev behind_fault : Held
    behind_fault = changed_by (next_number past) (Tries own_value ∷ doubt_list k.request.through) h

    fault_leaves : failed rules (next_number past) k.request (place_of rules i k.request) i h ≡ behind_fault
    fault_leaves =
        let hit : Hits rules i k.request (one_place (place_of rules i k.request)) (place_of rules i k.request) = hit_here rules i k.request (place_of rules i k.request) k.at.sector in
        ap (λ cs. changed_by (next_number past) cs h) (fault_is rules i k.request (place_of rules i k.request) Write true own_value k.kind hit.there hit.value)

    fault_known : Known (fault ∷ past) asked owed
    fault_known = known_more past asked owed fault (All-contains (IsBelow _) past (Seen (Told (Call n k.request))) known.given k.called) (λ m. tt) (λ m p e. absurd (cc (e))) refl known

    wider_fault : Wider (changed r.next (Tries v) r.held) (coded code behind_fault)
    wider_fault = by k.request.through (wider_change (Tries v) (Tries own_value) (ap (λ x. Tries x) k.value))
      where
        by : (b : Bool) → Wider (changed r.next (Tries v) r.held) (coded code (changed (next_number past) (Tries own_value) h))
            → Wider (changed r.next (Tries v) r.held) (coded code (changed_by (next_number past) (Tries own_value ∷ doubt_list b) h))
        by false w = w
        by true w =
            let g : Held = changed (next_number past) (Tries own_value) h in
            wider_then (changed r.next (Tries v) r.held) (coded code (changed (next_number past) (Tries own_value) h)) (coded code (changed (next_number past) Doubts (changed (next_number past) (Tries own_value) h))) w
            (subst (λ x. Wider (coded code (changed (next_number past) (Tries own_value) h)) x) (coded_changed code (next_number past) Doubts (changed (next_number past) (Tries own_value) h))
            (wider_doubts (next_number past) (coded code (changed (next_number past) (Tries own_value) h))))

    -- what is marked
    now_marked : (o : Open) → IsOneOf o (r.waits ++ coming) → (p : Open) × IsOneOf p (marks ++ coming) × (p.number ≡ o.number) × (p.what ≡ o.what)
    now_marked o there = elim (one_either o r.waits coming there) [
      | inl waited ↦ (marked of o, one_left (marked of o) marks coming (one_map (marked of) o r.waits waited), marked_number (is_same of o) o, marked_what (is_same of o) o)
      | inr comes ↦ (o, one_right o marks coming comes, refl, refl)
    ]

    move_marked : (m : ℕ) → HasMove code rules i m (r.waits ++ coming) → HasMove code rules i m (marks ++ coming)
    move_marked m (o, there, is, move) =
        let p : (x : Open) × IsOneOf x (marks ++ coming) × (x.number ≡ o.number) × (x.what ≡ o.what) = now_marked o there in
        (p.0, p.1, p.2 ∙ is, ap (λ w. is_sync w) p.3 ∙ move)

    flush_marked : (m : ℕ) → HasFlush code rules i m (r.waits ++ coming) → HasFlush code rules i m (marks ++ coming)
    flush_marked m (o, there, is, f) =
        let p : (x : Open) × IsOneOf x (marks ++ coming) × (x.number ≡ o.number) × (x.what ≡ o.what) = now_marked o there in
        (p.0, p.1, p.2 ∙ is, ap (λ w. is_flush w) p.3 ∙ f)

    write_failed : (m : ℕ) (failed : Bool) (what : What) → is_write what ≡ true → IsKnown code rules i past lines m failed what → IsKnown code rules i (fault ∷ past) lines m true what
    write_failed m failed (Writes w thr) e x = record {
      request = x.request;
      called = further fault past (Seen (Told (Call m x.request))) x.called;
      awaits = All-cons (IsNoAnswer m) fault past tt x.awaits;
      kind = x.kind;
      at = x.at;
      value = x.value;
      same = x.same;
      idle = λ f. absurd (cc (f));
    }
    write_failed m failed (Reads w) e x = absurd (cc (e))
    write_failed m failed Flushes e x = absurd (cc (e))
    write_failed m failed Sync e x = absurd (cc (e))

    marked_known : (o : Open) → IsOneOf o r.waits → (b : Bool) → is_same of o ≡ b
        → IsKnown code rules i (fault ∷ past) lines (if b then record o { failed = true } else o).number (if b then record o { failed = true } else o).failed (if b then record o { failed = true } else o).what
    marked_known o waited true e = write_failed o.number o.failed o.what (same_write o e) (t.known o (one_left o r.waits coming waited))
    marked_known o waited false e =
        standing.known_more code rules i fault past lines o.number o.failed o.what tt
        (λ move. (tt, λ same. let yes : is_same of o ≡ true = of_same o (one_left o r.waits coming waited) (sym same) move in absurd (cc (yes, e))))
        (t.known o (one_left o r.waits coming waited))

    fault_stands : Stands code rules i (fault ∷ past) behind_fault lines r.next (changed r.next (Tries v) r.held) (marks ++ coming)
    fault_stands = record {
      counts = t.counts;
      holds = wider_fault;
      dated = dated_by r.next r.held (Tries v) t.dated;
      known = λ o there. elim (one_either o marks coming there) [
        | inl stays ↦
            let was : (x : Open) × IsOneOf x r.waits × (o ≡ marked of x) = of_map (marked of) o r.waits stays in
            subst (λ (y : Open). IsKnown code rules i (fault ∷ past) lines y.number y.failed y.what) (sym was.2) (marked_known was.0 was.1 (is_same of was.0) refl)
        | inr comes ↦
            standing.known_more code rules i fault past lines o.number o.failed o.what tt (λ move. (tt, λ same. fresh of o waits comes (ap (λ w. is_sync w) what) move (number ∙ same)))
            (t.known o (one_right o r.waits coming comes))
      ];
      moves = λ m p bytes called at awaits success.
          elim (t.moves m p bytes (behind fault past (Seen (Told (Call m p))) (λ e. cc (e)) called) at (All-tail (IsNoAnswer m) fault past awaits) success) [
            | inl took ↦ inl (took_more code rules i fault past m p (place_of rules i p) bytes took)
            | inr m' ↦ inr (move_marked m m')
          ];
      flushes = λ m p bytes called kind awaits success.
          flush_marked m (t.flushes m p bytes (behind fault past (Seen (Told (Call m p))) (λ e. cc (e)) called) kind (All-tail (IsNoAnswer m) fault past awaits) success);
      failures = λ m k' there awaits. elim (first_or_behind fault past (Fails m k') there) [
        | inl now ↦ let same : n ≡ m = cc (now) in move_marked m (of, one_left of r.waits coming waits, number ∙ same, ap (λ w. is_sync w) what)
        | inr before ↦ move_marked m (t.failures m k' before (All-tail (IsNoAnswer m) fault past awaits))
      ];
    }

    fails_there : Behind (settled r.next (changed r.next (Tries v) r.held) (map (marked of) r.waits)) → GoesOn rules i past h lines
    fails_there on =
        goes_fault rules i past h behind_fault lines n (place_of rules i k.request) (subst (λ x. FailsThere rules i past h n (place_of rules i k.request) x) fault_leaves fault_takes)
        (k.request, k.called, k.at)
        (settles code rules i behind_fault lines asked owed r.next (changed r.next (Tries v) r.held) marks coming (λ past' t' known'. on past' behind_fault t' known') (fault ∷ past) fault_stands fault_known)

  -- A TURN

  waiting_known : (o : Open) → IsOneOf o r.waits → (w : What) → o.what ≡ w → IsKnown code rules i past lines o.number o.failed w
  waiting_known o there w is = subst (λ x. IsKnown code rules i past lines o.number o.failed x) is (t.known o (one_left o r.waits coming there))

  pub acts : (of : Open) (change : ChangeOf ℕ) → IsOneOf of r.waits → change_of Acts of ≡ Some change → Behind (settled r.next (changed r.next change r.held) (left_by Acts of r.waits)) → GoesOn rules i past h lines
  acts of change there may on = by of.failed refl of.what refl may
    where
      by : (b : Bool) → of.failed ≡ b → (w : What) → of.what ≡ w → change_of Acts (record { number = of.number; what = w; failed = b }) ≡ Some change → GoesOn rules i past h lines
      by true f w is e = absurd (cc (e))
      by false f (Writes v through) is e =
          takes_effect of there of.number v through refl is (subst (λ b. IsWrite code rules i past of.number v through b) f (waiting_known of there (Writes v through) is)) change (cc (e)) on
      by false f (Reads v) is e = absurd (cc (e))
      by false f Flushes is e = absurd (cc (e))
      by false f Sync is e = absurd (cc (e))

  -- a sync that will succeed does not fail
  pub fails : (of : Open) (change : ChangeOf ℕ) → IsOneOf of r.waits → change_of FailsTurn of ≡ Some change → (is_sync of.what ≡ true → ⊥) → Behind (settled r.next (changed r.next change r.held) (left_by FailsTurn of r.waits))
      → GoesOn rules i past h lines
  fails of change there may no_sync on = by of.failed refl of.what refl may
    where
      by : (b : Bool) → of.failed ≡ b → (w : What) → of.what ≡ w → change_of FailsTurn (record { number = of.number; what = w; failed = b }) ≡ Some change → GoesOn rules i past h lines
      by true f (Writes v through) is e = absurd (cc (e))
      by false f (Writes v through) is e =
          let same : Tries v ≡ change = cc (e) in
          fails_there of there of.number v through refl is (subst (λ b. IsWrite code rules i past of.number v through b) f (waiting_known of there (Writes v through) is))
          (subst (λ c. Behind (settled r.next (changed r.next c r.held) (left_by FailsTurn of r.waits))) (sym same) on)
      by b f (Reads v) is e = absurd (cc (e))
      by b f Flushes is e = absurd (no_sync (ap (λ x. is_sync x) is))
      by b f Sync is e = absurd (no_sync (ap (λ x. is_sync x) is))
