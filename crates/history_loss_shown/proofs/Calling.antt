-- A call, and what it is to do at a sector.
use Rattle.std.proofs.Common.{◌≡◌, ◌<◌, ◌≤◌, ◌⊎◌, inl, inr, ℕ, ◌+◌, Bool, true, false, cond, List, [], ◌∷◌, ◌++◌, Option, Some, None, refl, sym, ◌∙◌, ap, subst, arith, map, length, nat_le}
use Rattle.std.specs.Prelude.{All, if◌then◌else◌}
use Rattle.std.proofs.lemmas.Bool.Decides.{leb_tells}
use Rattle.std.proofs.lemmas.List.Elements.{All-tail, All-cons, All-weaker}
use Rattle.ntstatus.specs.declared.NtStatus.{NtStatus}
use Rattle.srb.specs.declared.Kind.{Kind}
use Rattle.srb.specs.declared.Kind.TheVariants.{Read, Write, Flush}
use Rattle.machine.specs.declared.ClientRequest.{ClientRequest}
use Rattle.machine.specs.declared.Label.TheVariants.{Call}
use Rattle.machine.specs.Rules.{Rules, is_transfer}
use Rattle.machine_laws.specs.Sectors.{part_of}
use Rattle.history_laws.specs.declared.Asked.{Asked}
use Rattle.loss.specs.Held.{Held, IsOneOf}
use Rattle.loss.specs.Sessions.{Line, Told}
use Rattle.loss.specs.Laws.{value_for}
use Rattle.history_loss.specs.Schedules.{Event, Seen, Effect, Fails, IsAt, IsNoAnswer, IsNoEffect, above}
use Rattle.history_loss.proofs.Mirroring.{IsBelow, below_no_effect, newest}
use Rattle.register_loss.specs.declared.What.{What}
use Rattle.register_loss.specs.declared.What.TheVariants.{Read as Reads, Write as Writes, Flush as Flushes, Sync}
use Rattle.register_loss.specs.declared.Open.{Open}
use Rattle.register_loss.specs.Schedules.{Register, is_sync}
use Rattle.register_loss_search.proofs.Listing.{of_map, one_either, one_left, one_map, one_right}
use Rattle.history_loss_sights.specs.Sights.{has_sector, moves, moves_of, place_of, success_of, syncs}
use Rattle.history_loss_sights.proofs.Places.{at_has, has_at}
use Rattle.history_loss_sights.proofs.Standing.{Called, behind}
use Rattle.history_loss_shown.specs.Steady.{steady_syncs, steady_whats}
use Rattle.history_loss_shown.proofs.Fitting.{Known, call_awaits, not_before, this_or}
use Rattle.history_loss_shown.proofs.Standing.{HasFlush, HasMove, IsKnown, IsNoFault, IsSync, Stands, move_called, same_lines, took_more}
use Rattle.history_loss_shown.proofs.Standing as standing

abbrev pub fresh : ℕ → What → Open
fresh n what = record { number = n; what = what; failed = false }

abbrev pub coming : ℕ → List What → List Open
coming n ws = map (fresh n) ws

-- a read's value is that of one list of bytes
abbrev pub IsClear : (List ℕ → ℕ) → What → Type 0
IsClear code (Reads v) = (a b : List ℕ) → v ≡ code a → v ≡ code b → a ≡ b
IsClear code (Writes v through) = Unit {0}
IsClear code Flushes = Unit {0}
IsClear code Sync = Unit {0}

-- at most one of these moves the sector
abbrev pub Single : List What → Type 0
Single [] = Unit {0}
Single (w ∷ ws) = (is_sync w ≡ false → (x : What) → IsOneOf x ws → is_sync x ≡ false → ⊥) × Single ws

above_at_least : (n m : ℕ) → m ≤ above n m
above_at_least n m = by_order (leb_tells m n)
  where
    from : (b : Bool) → nat_le m n ≡ b → m ≤ cond b (n + 1) m → m ≤ above n m
    from b e h = subst (λ (b : Bool). m ≤ cond b (n + 1) m) (sym e) h

    by_order : ((nat_le m n ≡ true) × (m ≤ n)) ⊎ ((nat_le m n ≡ false) × (n < m)) → m ≤ above n m
    by_order (inl low) = from true low.0 (omega (arith, low.1))
    by_order (inr high) = from false high.0 (omega arith)

sync_is : (through : Bool) (kind : Kind) (answer : Option (List ℕ)) (what : What) → IsOneOf what (steady_syncs through kind answer) → (is_sync what ≡ true) × ((bytes : List ℕ) × (answer ≡ Some bytes))
sync_is through kind None what h = absurd h
sync_is through Read (Some bytes) what h = absurd h
sync_is true Write (Some bytes) what (inl e) = (ap (λ w. is_sync w) e, (bytes, refl))
sync_is true Write (Some bytes) what (inr none) = absurd none
sync_is false Write (Some bytes) what h = absurd h
sync_is through Flush (Some bytes) what (inl e) = (ap (λ w. is_sync w) e, (bytes, refl))
sync_is through Flush (Some bytes) what (inr none) = absurd none

single_moves : (code : List ℕ → ℕ) (rules : Rules) (i : ℕ) (q : ClientRequest) (answer : Option (List ℕ)) → Single (moves_of code rules i q answer)
single_moves code rules i q answer = by (has_sector rules i q)
  where
    by_kind : (kind : Kind) (answer : Option (List ℕ)) → Single (moves code rules (place_of rules i q) q answer kind)
    by_kind Read None = tt
    by_kind Read (Some bytes) = (λ m x none e. none, tt)
    by_kind Write answer = (λ m x none e. none, tt)
    by_kind Flush answer = tt

    by : (b : Bool) → Single (if b then moves code rules (place_of rules i q) q answer q.kind else [])
    by true = by_kind q.kind answer
    by false = tt

single_join : (xs ys : List What) → ((x : What) → IsOneOf x xs → is_sync x ≡ true) → Single ys → Single (xs ++ ys)
single_join [] ys syncs single = single
single_join (x ∷ xs) ys syncs single = (λ m. let s : is_sync x ≡ true = syncs x (inl refl) in absurd (cc (m, s)), single_join xs ys (λ y h. syncs y (inr h)) single)

pub single_whats : (code : List ℕ → ℕ) (rules : Rules) (i : ℕ) (q : ClientRequest) (answer : Option (List ℕ)) → Single (steady_whats code rules i q answer)
single_whats code rules i q answer =
    single_join (steady_syncs q.through q.kind answer) (moves_of code rules i q answer) (λ x h. (sync_is q.through q.kind answer x h).0) (single_moves code rules i q answer)

module _ (code : List ℕ → ℕ) (rules : Rules) (i : ℕ) (past : List Event) (h : Held) (lines : List Line) (asked : List (Option Asked)) (owed : Option NtStatus) (r : Register) (n : ℕ) (q : ClientRequest) (number : n ≡ length asked)
    (known : Known past asked owed) (t : Stands code rules i past h (Told (Call n q) ∷ lines) r.next r.held r.waits)
    (clear : (what : What) → IsOneOf what (steady_whats code rules i q (success_of n lines)) → IsClear code what) where
  abbrev call : Event
  call = Seen (Told (Call n q))

  abbrev ws : List What
  ws = steady_whats code rules i q (success_of n lines)

  awaits_call : All (IsNoAnswer n) (call ∷ past)
  awaits_call = call_awaits rules n q past asked owed number known

  no_effect_call : All (IsNoEffect n) (call ∷ past)
  no_effect_call = All-cons (IsNoEffect n) call past tt (All-weaker (IsBelow n) (IsNoEffect n) (below_no_effect n) past (subst (λ m. All (IsBelow m) past) (sym number) known.given))

  no_fault_call : All (IsNoFault n) (call ∷ past)
  no_fault_call = All-cons (IsNoFault n) call past tt (All-weaker (IsBelow n) (IsNoFault n) weaker past (subst (λ m. All (IsBelow m) past) (sym number) known.given))
    where
      weaker : (e : Event) → IsBelow n e → IsNoFault n e
      weaker (Seen line) low = tt
      weaker (Effect m sector) low = tt
      weaker (Fails m place) low = λ same. absurd (omega (arith, low, same))

  -- what comes is known
  known_sync : (answer : Option (List ℕ)) → success_of n lines ≡ answer → (what : What) → IsOneOf what (steady_syncs q.through q.kind answer) → IsKnown code rules i (call ∷ past) lines n false what
  known_sync answer e what there = by what (sync_is q.through q.kind answer what there).0 (record { awaits = awaits_call; bytes = found.0; success = e ∙ found.1; sound = refl })
    where
      found : (bytes : List ℕ) × (answer ≡ Some bytes)
      found = (sync_is q.through q.kind answer what there).1

      by : (w : What) → is_sync w ≡ true → IsSync code rules i (call ∷ past) lines n false → IsKnown code rules i (call ∷ past) lines n false w
      by (Reads v) s x = absurd (cc (s))
      by (Writes v through) s x = absurd (cc (s))
      by Flushes s x = x
      by Sync s x = x

  known_move : (kind : Kind) → q.kind ≡ kind → IsAt rules i q (place_of rules i q) → (answer : Option (List ℕ)) → success_of n lines ≡ answer → (what : What) → IsOneOf what (moves code rules (place_of rules i q) q answer kind)
      → IsClear code what → IsKnown code rules i (call ∷ past) lines n false what
  known_move Write kind at answer e what (inl is) c = subst (λ w. IsKnown code rules i (call ∷ past) lines n false w) (sym is) (record {
    request = q;
    called = newest call past;
    awaits = awaits_call;
    kind = kind;
    at = at;
    value = refl;
    same = refl;
    idle = λ f. (no_effect_call, no_fault_call);
  })
  known_move Write kind at answer e what (inr none) c = absurd none
  known_move Read kind at None e what h c = absurd h
  known_move Read kind at (Some bytes) e what (inl is) c = subst (λ w. IsKnown code rules i (call ∷ past) lines n false w) (sym is) (record {
    request = q;
    called = newest call past;
    awaits = awaits_call;
    kind = kind;
    at = at;
    bytes = bytes;
    success = e;
    only = λ s e'. (subst (λ w. IsClear code w) is c) (part_of rules bytes (place_of rules i q)) s refl e';
    sound = no_fault_call;
    free = inl no_effect_call;
  })
  known_move Read kind at (Some bytes) e what (inr none) c = absurd none
  known_move Flush kind at answer e what h c = absurd h

  known_new : (what : What) → IsOneOf what ws → IsKnown code rules i (call ∷ past) lines n false what
  known_new what there = elim (one_either what (steady_syncs q.through q.kind (success_of n lines)) (moves_of code rules i q (success_of n lines)) there) [
    | inl sync ↦ known_sync (success_of n lines) refl what sync
    | inr move ↦ by (has_sector rules i q) refl move
  ]
    where
      by : (b : Bool) → has_sector rules i q ≡ b → IsOneOf what (if b then moves code rules (place_of rules i q) q (success_of n lines) q.kind else []) → IsKnown code rules i (call ∷ past) lines n false what
      by true has h = known_move q.kind refl (has_at rules i q has) (success_of n lines) refl what h (clear what there)
      by false has h = absurd h

  -- it moves the sector if it will succeed there
  moves_new : (place : ℕ) (bytes : List ℕ) → IsAt rules i q place → success_of n lines ≡ Some bytes → (what : What) × IsOneOf what ws × (is_sync what ≡ false)
  moves_new place bytes at success =
      let found : (what : What) × IsOneOf what (moves_of code rules i q (success_of n lines)) × (is_sync what ≡ false) = by_sector (has_sector rules i q) (at_has rules i q place at) in
      (found.0, one_right found.0 (steady_syncs q.through q.kind (success_of n lines)) (moves_of code rules i q (success_of n lines)) found.1, found.2)
    where
      by_kind : (kind : Kind) → q.kind ≡ kind → (answer : Option (List ℕ)) → answer ≡ Some bytes → (what : What) × IsOneOf what (moves code rules (place_of rules i q) q answer kind) × (is_sync what ≡ false)
      by_kind Write kind answer e = (Writes (code (value_for rules q (place_of rules i q))) q.through, inl refl, refl)
      by_kind Read kind None e = absurd (cc (e))
      by_kind Read kind (Some found) e = (Reads (code (part_of rules found (place_of rules i q))), inl refl, refl)
      by_kind Flush kind answer e = absurd (never (sym (ap is_transfer kind) ∙ at.transfer))
        where
          never : is_transfer Flush ≡ true → ⊥
          never f = cc (f)

      by_sector : (b : Bool) → b ≡ true → (what : What) × IsOneOf what (if b then moves code rules (place_of rules i q) q (success_of n lines) q.kind else []) × (is_sync what ≡ false)
      by_sector true e = by_kind q.kind refl (success_of n lines) success
      by_sector false e = absurd (cc (e))

  flush_new : (bytes : List ℕ) → q.kind ≡ Flush → success_of n lines ≡ Some bytes → IsOneOf Flushes ws
  flush_new bytes kind success =
      one_left Flushes (steady_syncs q.through q.kind (success_of n lines)) (moves_of code rules i q (success_of n lines)) (by q.kind kind (success_of n lines) success)
    where
      by : (k : Kind) → k ≡ Flush → (answer : Option (List ℕ)) → answer ≡ Some bytes → IsOneOf Flushes (steady_syncs q.through k answer)
      by Read e answer f = absurd (cc (e))
      by Write e answer f = absurd (cc (e))
      by Flush e None f = absurd (cc (f))
      by Flush e (Some found) f = inl refl

  still : (o : Open) → IsOneOf o r.waits → IsOneOf o (r.waits ++ coming n ws)
  still o has = one_left o r.waits (coming n ws) has

  comes : (what : What) → IsOneOf what ws → IsOneOf (fresh n what) (r.waits ++ coming n ws)
  comes what there = one_right (fresh n what) r.waits (coming n ws) (one_map (fresh n) what ws there)

  this : (m : ℕ) (p : ClientRequest) → Called (call ∷ past) m p → ((m ≡ n) × (p ≡ q)) ⊎ Called past m p
  this m p there = this_or rules n q past asked owed number known m p there

  pub call_stands : Stands code rules i (call ∷ past) h lines (above n r.next) r.held (r.waits ++ coming n ws)
  call_stands = record {
    counts = ap (above n) t.counts;
    holds = t.holds;
    dated = λ o has. let low : o.behind ≤ r.next = t.dated o has in let up : r.next ≤ above n r.next = above_at_least n r.next in omega (arith, low, up);
    known = λ o has. elim (one_either o r.waits (coming n ws) has) [
      | inl waited ↦
          same_lines code rules i (call ∷ past) (Told (Call n q) ∷ lines) lines o.number o.failed o.what refl
          (standing.known_more code rules i call past (Told (Call n q) ∷ lines) o.number o.failed o.what tt (λ move. (tt, tt)) (t.known o waited))
      | inr new ↦
          let was : (w : What) × IsOneOf w ws × (o ≡ fresh n w) = of_map (fresh n) o ws new in
          subst (λ (y : Open). IsKnown code rules i (call ∷ past) lines y.number y.failed y.what) (sym was.2) (known_new was.0 was.1)
    ];
    moves = λ m p bytes called at awaits success. elim (this m p called) [
      | inl now ↦
          let found : (what : What) × IsOneOf what ws × (is_sync what ≡ false) =
          moves_new (place_of rules i p) bytes (subst (λ x. IsAt rules i x (place_of rules i p)) now.1 at) (subst (λ k. success_of k lines ≡ Some bytes) now.0 success) in
          inr (fresh n found.0, comes found.0 found.1, sym now.0, found.2)
      | inr before ↦ elim (t.moves m p bytes before at (All-tail (IsNoAnswer m) call past awaits) success) [
        | inl took ↦ inl (took_more code rules i call past m p (place_of rules i p) bytes took)
        | inr (o, has, is, move) ↦ inr (o, still o has, is, move)
      ]
    ];
    flushes = λ m p bytes called kind awaits success. elim (this m p called) [
      | inl now ↦ (
        fresh n Flushes,
        comes Flushes (flush_new bytes (ap (λ x. x.kind) (sym now.1) ∙ kind) (subst (λ k. success_of k lines ≡ Some bytes) now.0 success)),
        sym now.0,
        refl,
      )
      | inr before ↦ let old : HasFlush code rules i m r.waits = t.flushes m p bytes before kind (All-tail (IsNoAnswer m) call past awaits) success in (old.0, still old.0 old.1, old.2, old.3)
    ];
    failures = λ m place there awaits.
        let old : HasMove code rules i m r.waits = t.failures m place (behind call past (Fails m place) (λ e. cc (e)) there) (All-tail (IsNoAnswer m) call past awaits) in
        (old.0, still old.0 old.1, old.2, old.3);
  }

  -- nothing of its number waits yet
  pub call_apart : (o : Open) → IsOneOf o r.waits → is_sync o.what ≡ false → o.number ≡ n → ⊥
  call_apart o has move same =
      let k : (p : ClientRequest) × Called past o.number p = move_called code rules i past (Told (Call n q) ∷ lines) o.number o.failed o.what move (t.known o has) in
      not_before rules n q past asked owed number known o.number k.0 same k.1
