-- A write that a client was told as done, and what was told behind it: its bytes are kept.
use Rattle.serving.proofs.Common.{◌≡◌, ◌<◌, inl, inr, ℕ, Bool, true, false, List, [], ◌∷◌, ◌++◌, Option, Some, None, Result, Ok, Err, refl, sym, ap, subst, ◌∙◌, arith, append-nil, append_assoc, length, All, All-nil, MatchResult, ClientRequest, Rules, Extent, Label, Write, Flush, FiledView, call_on, slice_get, Success, extents_of, Sizes, rules_over}
use Rattle.std.specs.Prelude.{◌⊎◌, ◌+◌, ◌/◌}
use Rattle.std.proofs.Math.Nat.{zero-div}
use Rattle.std.proofs.lemmas.Option.{slice_get-get_or}
use Rattle.settings.specs.declared.Config.{Config as Settings}
use Rattle.srb.specs.declared.Kind.TheVariants.{Write as WriteKind, Flush as FlushKind}
use Rattle.machine_laws.specs.Reached.{AreWhole}
use Rattle.volume.specs.Shown.{extent_at}
use Rattle.file_disk.specs.Calls.{Call}
use Rattle.loss.specs.Held.{sector_in}
use Rattle.loss.specs.Laws.{sector_of, value_for}
use Rattle.loss.specs.Sessions.{Moment}
use Rattle.nbd.specs.declared.requests.Command.{Command}
use Rattle.nbd.specs.declared.requests.Command.TheVariants.{Read as ReadCommand, Write as WriteCommand, Flush as FlushCommand, WriteZeroes}
use Rattle.nbd.specs.declared.requests.ReplyError.{ReplyError}
use Rattle.nbd.specs.declared.requests.ReplyError.TheVariants.{Enomem}
use Rattle.nbd.specs.Over.{CarriesOver, IsSessionOver, RunOver}
use Rattle.nbd.specs.Replies.{Outcome, failure}
use Rattle.nbd.specs.Requests.{command_in, payload_count}
use Rattle.nbd.specs.Session.{Exchange}
use Rattle.file_sessions.specs.OneByOne.{FlushedSurvives, IsAway, IsRound, IsWritten, Round, SecuredSurvives, Stands, UntouchedSurvives, labels_of, labels_of_all, AnsweredRemains, IsPlain, RemainsSurvive}
use Rattle.file_sessions.specs.Sessions.{IsSession}
use Rattle.file_sessions.specs.Stored.{Content, IsKept, Survives, Remains}
use Rattle.serving.specs.declared.faults.Error.{Error}
use Rattle.serving.specs.Filed.{CarriesBy}
use Rattle.serving.specs.Lasting.{ServedAreSessions, ServesFile, told_in}
use Rattle.serving.specs.OnDisk.{IsOpened}
use Rattle.serving.specs.Telling.{of_found, of_run, of_session}
use Rattle.serving.specs.Keeping.{FlushedIsKept, HasSynced, IsElsewhere, IsFlush, IsToldDone, IsWrite, SecuredIsKept, UntouchedIsKept, exchanges_of, sector_on, served_in, AnsweredIsKept, StaysOverSessions}
use Rattle.serving.proofs.Asking.{AskedFor, IsCallOf, IsOneOrNone, asked_for}
use Rattle.serving.proofs.Rounds.{IsHeld, IsPut, done_plain, error_some, held_on, none_failed, payload_is, places_of, put_by, run_rounds, sector_at}

-- RUNS IN PARTS

pub record Parted (sizes : Sizes) (old : FiledView) (front ys : List Exchange) (new : FiledView) (h : RunOver CarriesBy sizes old (front ++ ys) new) : Type 0 where
  pub mid : FiledView
  pub first : RunOver CarriesBy sizes old front mid
  pub rest : RunOver CarriesBy sizes mid ys new
  pub labels : of_run sizes old (front ++ ys) new h ≡ of_run sizes old front mid first ++ of_run sizes mid ys new rest

pub parted : (sizes : Sizes) (old : FiledView) (front ys : List Exchange) (new : FiledView) (h : RunOver CarriesBy sizes old (front ++ ys) new) → Parted sizes old front ys new h
parted sizes old [] ys new h = record { mid = old; first = refl; rest = h; labels = refl }
parted sizes old (x ∷ xs) ys new h =
    let r = parted sizes h.0 xs ys new h.2 in
    let ls : List Label = of_found sizes (command_in sizes.block sizes.bytes x.request) x.payload old x.outcome h.0 h.1.serves in
    record {
      mid = r.mid;
      first = (h.0, h.1, r.first);
      rest = r.rest;
      labels = ap (λ (more : List Label). ls ++ more) r.labels ∙ sym (append_assoc ls (of_run sizes h.0 xs r.mid r.first) (of_run sizes r.mid ys new r.rest));
    }

-- ONE WRITE, AND ONE FLUSH

-- what was told of a request that was told as done
pub record IsDoneRound (old new : FiledView) (q : ClientRequest) (labels : List Label) : Type 0 where
  pub round : Round
  pub labels_are : labels ≡ labels_of round
  pub is_round : IsRound round
  pub called : IsCallOf q round
  pub succeeds : round.status ≡ Success
  pub same_rules : new.carried.stack.rules ≡ old.carried.stack.rules
  pub same_handles : new.carried.stack.handles ≡ old.carried.stack.handles
  pub same_handle : new.handle ≡ old.handle

abbrev pub Found : Sizes → Exchange → Result Command ReplyError → FiledView → FiledView → Type 0
Found sizes x found old new = MatchResult found (λ command. CarriesOver CarriesBy sizes command x.payload old x.outcome new) (λ e. (x.outcome ≡ failure e) × (new ≡ old))

not_failed : (x : Exchange) (e : ReplyError) → x.outcome ≡ failure e → IsToldDone x → ⊥
not_failed x e is done = error_some e (sym (ap (λ (o : Outcome). o.error) is) ∙ done)

pub wrote : (sizes : Sizes) (x : Exchange) (found : Result Command ReplyError) (old new : FiledView) (offset count : ℕ) (through : Bool) → found ≡ Ok (WriteCommand offset count through) → IsToldDone x → (h : Found sizes x found old new)
    → IsDoneRound old new (call_on old.carried.stack old.handle WriteKind offset x.payload through) (of_found sizes found x.payload old x.outcome new h)
wrote sizes x (Ok (WriteCommand o n t)) old new offset count through e done (inl h) =
    let failed : h.0 ≡ None = done_plain x.outcome h.0 h.2 done in
    let a : AskedFor old.carried.stack (Write old.handle o x.payload t) h.1.done h.1.asked.requests.labels = asked_for old (Write old.handle o x.payload t) h.1.done new h.1.asked tt in
    let good = none_failed h.1.done (sym h.1.failed_so ∙ failed) in
    by_one a.request (a.asks ∙ ap (λ (c : Command). call_on old.carried.stack old.handle WriteKind (offset_in c) x.payload (through_in c)) (in_ok (WriteCommand o n t) (WriteCommand offset count through) e)) a.one good.0 good.1
  where
    offset_in : Command → ℕ
    offset_in (WriteCommand o n t) = o
    offset_in _ = 0

    through_in : Command → Bool
    through_in (WriteCommand o n t) = t
    through_in _ = false

    in_ok : (c d : Command) → ◌≡◌ {A = Result Command ReplyError} (Ok c) (Ok d) → c ≡ d
    in_ok c d e = cc (e)

    by_one : (q : ClientRequest) → q ≡ call_on old.carried.stack old.handle WriteKind offset x.payload through → IsOneOrNone q h.1.done h.1.asked.requests.labels → (bytes : List ℕ) → h.1.done ≡ Ok bytes
        → IsDoneRound old new (call_on old.carried.stack old.handle WriteKind offset x.payload through) h.1.asked.requests.labels
    by_one q is (inl one) bytes e = record {
      round = one.round;
      labels_are = one.labels_are;
      is_round = one.is_round;
      called = subst (λ (y : ClientRequest). IsCallOf y one.round) is one.called;
      succeeds = one.good bytes e;
      same_rules = h.1.asked.requests.same_rules;
      same_handles = h.1.asked.requests.same_handles;
      same_handle = h.1.asked.same_handle;
    }
    by_one q is (inr none) bytes e = absurd (none.1 bytes e)
wrote sizes x (Ok (WriteCommand o n t)) old new offset count through e done (inr h) = absurd (not_failed x Enomem h.1 done)
wrote sizes x (Ok (ReadCommand o n)) old new offset count through e done h = absurd (cc (e))
wrote sizes x (Ok FlushCommand) old new offset count through e done h = absurd (cc (e))
wrote sizes x (Ok (WriteZeroes o n t)) old new offset count through e done h = absurd (cc (e))
wrote sizes x (Err error) old new offset count through e done h = absurd (cc (e))

pub flushed : (sizes : Sizes) (x : Exchange) (found : Result Command ReplyError) (old new : FiledView) → found ≡ Ok FlushCommand → IsToldDone x → (h : Found sizes x found old new)
    → IsDoneRound old new (call_on old.carried.stack old.handle FlushKind 0 [] false) (of_found sizes found x.payload old x.outcome new h)
flushed sizes x (Ok FlushCommand) old new e done (inl h) =
    let failed : h.0 ≡ None = done_plain x.outcome h.0 h.2 done in
    let a : AskedFor old.carried.stack (Flush old.handle) h.1.done h.1.asked.requests.labels = asked_for old (Flush old.handle) h.1.done new h.1.asked tt in
    let good = none_failed h.1.done (sym h.1.failed_so ∙ failed) in
    by_one a.request a.asks a.one good.0 good.1
  where
    by_one : (q : ClientRequest) → q ≡ call_on old.carried.stack old.handle FlushKind 0 [] false → IsOneOrNone q h.1.done h.1.asked.requests.labels → (bytes : List ℕ) → h.1.done ≡ Ok bytes
        → IsDoneRound old new (call_on old.carried.stack old.handle FlushKind 0 [] false) h.1.asked.requests.labels
    by_one q is (inl one) bytes e = record {
      round = one.round;
      labels_are = one.labels_are;
      is_round = one.is_round;
      called = subst (λ (y : ClientRequest). IsCallOf y one.round) is one.called;
      succeeds = one.good bytes e;
      same_rules = h.1.asked.requests.same_rules;
      same_handles = h.1.asked.requests.same_handles;
      same_handle = h.1.asked.same_handle;
    }
    by_one q is (inr none) bytes e = absurd (none.1 bytes e)
flushed sizes x (Ok FlushCommand) old new e done (inr h) = absurd (not_failed x Enomem h.1 done)
flushed sizes x (Ok (ReadCommand o n)) old new e done h = absurd (cc (e))
flushed sizes x (Ok (WriteCommand o n t)) old new e done h = absurd (cc (e))
flushed sizes x (Ok (WriteZeroes o n t)) old new e done h = absurd (cc (e))
flushed sizes x (Err error) old new e done h = absurd (cc (e))

pub flush_kind : (q : ClientRequest) (r : Round) → IsCallOf q r → r.request.kind ≡ q.kind
flush_kind q r (inl is) = ap (λ (x : ClientRequest). x.kind) is
flush_kind q r (inr is) = ap (λ (x : ClientRequest). x.kind) is

-- the write's round
module _ (c : Settings) (p : ℕ) (known : slice_get (extents_of c) p ≡ Some (extent_at (extents_of c) p)) (some : 0 < c.sector_size) (sizes : Sizes) (block : sizes.block ≡ c.sector_size) (w : Exchange) (place k : ℕ) (is_write : IsWrite sizes w place k) (on_disk : sector_on c p k < c.sectors)
    (v : FiledView) (held_v : IsHeld (rules_over false false c) p (extent_at (extents_of c) p) known some v) (r : Round) (called : IsCallOf (call_on v.carried.stack v.handle WriteKind is_write.offset w.payload is_write.through) r) (succeeds : r.status ≡ Success)
    (long : length w.payload ≡ payload_count w.request) where
  abbrev pub put_rules : Rules
  put_rules = rules_over false false c

  abbrev pub put_extent : Extent
  put_extent = extent_at (extents_of c) p

  pub put : IsPut put_rules p put_extent known some v is_write.offset (length w.payload) is_write.through r
  put = put_by put_rules p put_extent known some v is_write.offset w.payload is_write.through r held_v called

  count_is : length w.payload ≡ is_write.count
  count_is = long ∙ payload_is sizes.block sizes.bytes w.request (WriteCommand is_write.offset is_write.count is_write.through) is_write.command

  inside : place < length w.payload / c.sector_size
  inside = subst (λ (n : ℕ). place < n / c.sector_size) (sym count_is) (subst (λ (n : ℕ). place < is_write.count / n) block is_write.inside)

  at : sector_of put_rules r.request place ≡ sector_on c p k
  at =
      sector_at put_rules p put_extent known some v is_write.offset (length w.payload) is_write.through r place put
      ∙ ap (λ (n : ℕ). put_extent.first + n) (sym (is_write.sector ∙ ap (λ (n : ℕ). is_write.offset / n + place) block))

  pub written : IsWritten put_rules r place
  written = record {
    is_write = put.kind;
    succeeds = succeeds;
    inside = subst (λ (n : ℕ). place < n) (sym (places_of put_rules p put_extent known some r (length w.payload) put.kind put.long_is)) inside;
    on_disk = subst (λ (n : ℕ). n < c.sectors) (sym at) on_disk;
  }

  -- its call brought the bytes
  brought : (called : IsCallOf (call_on v.carried.stack v.handle WriteKind is_write.offset w.payload is_write.through) r) → length r.request.bytes ≡ r.request.length → r.request.bytes ≡ w.payload
  brought (inl is) all = ap (λ (q : ClientRequest). q.bytes) is
  brought (inr is) all =
      let none : length r.request.bytes ≡ 0 = ap (λ (q : ClientRequest). length q.bytes) is in
      let zero' : length w.payload ≡ 0 = sym put.long_is ∙ sym all ∙ none in
      let low : place < 0 / c.sector_size = subst (λ (n : ℕ). place < n / c.sector_size) zero' inside in
      absurd (let e : 0 / c.sector_size ≡ 0 = zero-div c.sector_size in omega (arith, low, e))

  pub there : (left : Content) → Stands put_rules r place left → left (sector_on c p k) ≡ sector_in c.sector_size place w.payload
  there left s =
      subst (λ (n : ℕ). left n ≡ value_for put_rules r.request place) at s.bytes
      ∙ ap (λ (bytes : List ℕ). sector_in c.sector_size place bytes) (brought called s.all)

  pub away_there : (rs : List Round) → All (IsAway put_rules (sector_on c p k)) rs → All (IsAway put_rules (sector_of put_rules r.request place)) rs
  away_there rs away = subst (λ (n : ℕ). All (IsAway put_rules n) rs) (sym at) away

pub known_of : (c : Settings) (p : ℕ) (opened : List Call) (old : FiledView) → IsOpened c p opened old → slice_get (extents_of c) p ≡ Some (extent_at (extents_of c) p)
known_of c p opened old opens = slice_get-get_or (extents_of c) p (record { first = 0; count = 0 }) (subst (λ (r : Rules). p < length r.partitions) opens.rules opens.on.known)

-- THE LAWS

module _ (c : Settings) (p : ℕ) (opened : List Call) (old : FiledView) (input out : Option (List ℕ)) (fault : Option Error) (new : FiledView) (after : Option (List ℕ)) (calls : List Call) (before left : Content)
    (h : ServesFile c p opened old input out fault new after calls) (some : 0 < c.sector_size) (kept : IsKept c.sector_size before calls) (survives : Survives c.sector_size c.sectors before calls left) (sessions : ServedAreSessions) where
  abbrev rules : Rules
  rules = rules_over false false c

  abbrev extent : Extent
  extent = extent_at (extents_of c) p

  known : slice_get (extents_of c) p ≡ Some extent
  known = known_of c p opened old h.opens

  abbrev Held : FiledView → Type 0
  Held v = IsHeld rules p extent known some v

  held : Held old
  held = record { rules_are = h.opens.rules; on = h.opens.on.is_open }

  whole : AreWhole rules h.opens.arrays
  whole = subst (λ (r : Rules). AreWhole r h.opens.arrays) h.opens.rules h.opens.begins.whole

  -- the session, by its labels
  session_of : (labels : List Label) → told_in c p opened old input out fault new after calls h ≡ labels → (end : Moment) × IsSession rules h.opens.arrays before calls labels end
  session_of labels is =
      let s = sessions c p opened old input out fault new after calls before h some kept in
      (s.0, subst (λ (ls : List Label). IsSession rules h.opens.arrays before calls ls s.0) is s.1)

  -- the exchanges, and the run over them
  record Ran (xs : List Exchange) : Type 0 where
    run : RunOver CarriesBy old.sizes old xs new
    told : told_in c p opened old input out fault new after calls h ≡ of_run old.sizes old xs new run

  ran : (session : IsSessionOver CarriesBy old.sizes old input out h.session.end new after) → h.opens.trace ++ of_session old.sizes old input out h.session.end new after session ≡ told_in c p opened old input out fault new after calls h
      → (front : List Exchange) (x : Exchange) (more : List Exchange) → exchanges_of old.sizes old input out h.session.end new after session ≡ front ++ x ∷ more → Ran (front ++ x ∷ more)
  ran (inl early) told front x more is = absurd (none_there front is)
    where
      none_there : (front : List Exchange) → [] ≡ front ++ x ∷ more → ⊥
      none_there [] e = cc (e)
      none_there (y ∷ ys) e = cc (e)
  ran (inr talks) told front x more is =
      let both : (run : RunOver CarriesBy old.sizes old (front ++ x ∷ more) new) × (of_run old.sizes old talks.exchanges new talks.run ≡ of_run old.sizes old (front ++ x ∷ more) new run) =
      subst (λ (zs : List Exchange). (run : RunOver CarriesBy old.sizes old zs new) × (of_run old.sizes old talks.exchanges new talks.run ≡ of_run old.sizes old zs new run)) is (talks.run, refl) in
      record {
        run = both.0;
        told = sym told ∙ ap (λ (ls : List Label). ls ++ of_run old.sizes old talks.exchanges new talks.run) h.opens.none_called ∙ both.1;
      }

  untouched : UntouchedSurvives → (k : ℕ) → All (IsElsewhere old.sizes k) (served_in c p opened old input out fault new after calls h) → sector_on c p k < c.sectors → left (sector_on c p k) ≡ before (sector_on c p k)
  untouched law k away on_disk = by_session h.session.session refl away
    where
      by_session : (session : IsSessionOver CarriesBy old.sizes old input out h.session.end new after) → h.opens.trace ++ of_session old.sizes old input out h.session.end new after session ≡ told_in c p opened old input out fault new after calls h
          → All (IsElsewhere old.sizes k) (exchanges_of old.sizes old input out h.session.end new after session) → left (sector_on c p k) ≡ before (sector_on c p k)
      by_session (inl early) told away =
          let s = session_of [] (sym told ∙ ap (λ (ls : List Label). ls ++ []) h.opens.none_called) in
          law rules h.opens.arrays before left calls s.0 [] [] [] (sector_on c p k) s.1 whole (All-nil IsRound) refl (All-nil (IsAway rules (sector_on c p k))) on_disk survives
      by_session (inr talks) told away =
          let rs = run_rounds rules p extent known some true old.sizes h.opens.block old talks.exchanges new talks.run held in
          let s = session_of (labels_of_all rs.rounds) (sym told ∙ ap (λ (ls : List Label). ls ++ of_run old.sizes old talks.exchanges new talks.run) h.opens.none_called ∙ rs.labels_are) in
          law rules h.opens.arrays before left calls s.0 rs.rounds (labels_of_all rs.rounds) [] (sector_on c p k) s.1 whole rs.are (sym (append-nil (labels_of_all rs.rounds))) (rs.away k away) on_disk survives

  module _ (w : Exchange) (place k : ℕ) (is_write : IsWrite old.sizes w place k) (on_disk : sector_on c p k < c.sectors) where
    secured : SecuredSurvives → (first later : List Exchange) → served_in c p opened old input out fault new after calls h ≡ first ++ w ∷ later → is_write.through ≡ true → All (IsElsewhere old.sizes k) later
        → left (sector_on c p k) ≡ sector_in c.sector_size place w.payload
    secured law first later is through away =
        let r : Ran (first ++ w ∷ later) = ran h.session.session refl first w later is in
        let a : Parted old.sizes old first (w ∷ later) new r.run = parted old.sizes old first (w ∷ later) new r.run in
        let fs = run_rounds rules p extent known some true old.sizes h.opens.block old first a.mid a.first held in
        let held_a : Held a.mid = held_on rules p extent known some old a.mid fs.steady held in
        let d : IsDoneRound a.mid a.rest.0 (call_on a.mid.carried.stack a.mid.handle WriteKind is_write.offset w.payload is_write.through) (of_found old.sizes (command_in old.sizes.block old.sizes.bytes w.request) w.payload a.mid w.outcome a.rest.0 a.rest.1.serves) =
        wrote old.sizes w (command_in old.sizes.block old.sizes.bytes w.request) a.mid a.rest.0 is_write.offset is_write.count is_write.through is_write.command is_write.done a.rest.1.serves in
        let held_d : Held a.rest.0 = held_on rules p extent known some a.mid a.rest.0 (record { same_rules = d.same_rules; same_handles = d.same_handles; same_handle = d.same_handle }) held_a in
        let ls = run_rounds rules p extent known some true old.sizes h.opens.block a.rest.0 later new a.rest.2 held_d in
        let told : told_in c p opened old input out fault new after calls h ≡ labels_of_all fs.rounds ++ (labels_of d.round ++ labels_of_all ls.rounds) = r.told ∙ a.labels ∙ rw (fs.labels_are, d.labels_are, ls.labels_are) refl in
        let s = session_of (labels_of_all fs.rounds ++ (labels_of d.round ++ labels_of_all ls.rounds)) told in
        there c p known some old.sizes h.opens.block w place k is_write on_disk a.mid held_a d.round d.called d.succeeds a.rest.1.long left
        (law rules h.opens.arrays before left calls s.0 fs.rounds d.round ls.rounds (labels_of_all ls.rounds) [] place s.1 whole fs.are d.is_round ls.are (sym (append-nil (labels_of_all ls.rounds)))
        (written c p known some old.sizes h.opens.block w place k is_write on_disk a.mid held_a d.round d.called d.succeeds a.rest.1.long) ((put c p known some old.sizes h.opens.block w place k is_write on_disk a.mid held_a d.round d.called d.succeeds a.rest.1.long).through_is ∙ through)
        (away_there c p known some old.sizes h.opens.block w place k is_write on_disk a.mid held_a d.round d.called d.succeeds a.rest.1.long ls.rounds (ls.away k away)) survives)

    remaining : AnsweredRemains → (first later : List Exchange) → served_in c p opened old input out fault new after calls h ≡ first ++ w ∷ later → All (IsElsewhere old.sizes k) later → All (HasSynced old.sizes) later → Remains c.sector_size c.sectors before calls left
        → left (sector_on c p k) ≡ sector_in c.sector_size place w.payload
    remaining law first later is away well remains =
        let r : Ran (first ++ w ∷ later) = ran h.session.session refl first w later is in
        let a : Parted old.sizes old first (w ∷ later) new r.run = parted old.sizes old first (w ∷ later) new r.run in
        let fs = run_rounds rules p extent known some true old.sizes h.opens.block old first a.mid a.first held in
        let held_a : Held a.mid = held_on rules p extent known some old a.mid fs.steady held in
        let d : IsDoneRound a.mid a.rest.0 (call_on a.mid.carried.stack a.mid.handle WriteKind is_write.offset w.payload is_write.through) (of_found old.sizes (command_in old.sizes.block old.sizes.bytes w.request) w.payload a.mid w.outcome a.rest.0 a.rest.1.serves) =
        wrote old.sizes w (command_in old.sizes.block old.sizes.bytes w.request) a.mid a.rest.0 is_write.offset is_write.count is_write.through is_write.command is_write.done a.rest.1.serves in
        let held_d : Held a.rest.0 = held_on rules p extent known some a.mid a.rest.0 (record { same_rules = d.same_rules; same_handles = d.same_handles; same_handle = d.same_handle }) held_a in
        let ls = run_rounds rules p extent known some true old.sizes h.opens.block a.rest.0 later new a.rest.2 held_d in
        let all : List Label = labels_of_all fs.rounds ++ (labels_of d.round ++ (labels_of_all ls.rounds ++ [])) in
        let told : told_in c p opened old input out fault new after calls h ≡ all = r.told ∙ a.labels ∙ rw (fs.labels_are, d.labels_are, ls.labels_are) (ap (λ (x : List Label). labels_of_all fs.rounds ++ (labels_of d.round ++ x)) (sym (append-nil (labels_of_all ls.rounds)))) in
        let s = session_of all told in
        there c p known some old.sizes h.opens.block w place k is_write on_disk a.mid held_a d.round d.called d.succeeds a.rest.1.long left
        (law rules h.opens.arrays before left calls s.0 fs.rounds d.round ls.rounds [] [] [] place s.1 whole fs.are d.is_round ls.are (All-nil IsRound) refl
        (written c p known some old.sizes h.opens.block w place k is_write on_disk a.mid held_a d.round d.called d.succeeds a.rest.1.long)
        (away_there c p known some old.sizes h.opens.block w place k is_write on_disk a.mid held_a d.round d.called d.succeeds a.rest.1.long ls.rounds (ls.away k away)) (ls.well well) (All-nil (IsAway rules _)) (All-nil IsPlain) remains)

    flush_kept : FlushedSurvives → (first between : List Exchange) (f : Exchange) (later : List Exchange) → served_in c p opened old input out fault new after calls h ≡ first ++ w ∷ (between ++ f ∷ later) → IsFlush old.sizes f
        → All (IsElsewhere old.sizes k) between → All (HasSynced old.sizes) between → All (IsElsewhere old.sizes k) later → left (sector_on c p k) ≡ sector_in c.sector_size place w.payload
    flush_kept law first between f later is is_flush away well away_later =
        let r : Ran (first ++ w ∷ (between ++ f ∷ later)) = ran h.session.session refl first w (between ++ f ∷ later) is in
        let a : Parted old.sizes old first (w ∷ (between ++ f ∷ later)) new r.run = parted old.sizes old first (w ∷ (between ++ f ∷ later)) new r.run in
        let fs = run_rounds rules p extent known some true old.sizes h.opens.block old first a.mid a.first held in
        let held_a : Held a.mid = held_on rules p extent known some old a.mid fs.steady held in
        let d : IsDoneRound a.mid a.rest.0 (call_on a.mid.carried.stack a.mid.handle WriteKind is_write.offset w.payload is_write.through) (of_found old.sizes (command_in old.sizes.block old.sizes.bytes w.request) w.payload a.mid w.outcome a.rest.0 a.rest.1.serves) =
        wrote old.sizes w (command_in old.sizes.block old.sizes.bytes w.request) a.mid a.rest.0 is_write.offset is_write.count is_write.through is_write.command is_write.done a.rest.1.serves in
        let held_d : Held a.rest.0 = held_on rules p extent known some a.mid a.rest.0 (record { same_rules = d.same_rules; same_handles = d.same_handles; same_handle = d.same_handle }) held_a in
        let b : Parted old.sizes a.rest.0 between (f ∷ later) new a.rest.2 = parted old.sizes a.rest.0 between (f ∷ later) new a.rest.2 in
        let bs = run_rounds rules p extent known some true old.sizes h.opens.block a.rest.0 between b.mid b.first held_d in
        let held_b : Held b.mid = held_on rules p extent known some a.rest.0 b.mid bs.steady held_d in
        let e : IsDoneRound b.mid b.rest.0 (call_on b.mid.carried.stack b.mid.handle FlushKind 0 [] false) (of_found old.sizes (command_in old.sizes.block old.sizes.bytes f.request) f.payload b.mid f.outcome b.rest.0 b.rest.1.serves) =
        flushed old.sizes f (command_in old.sizes.block old.sizes.bytes f.request) b.mid b.rest.0 is_flush.command is_flush.done b.rest.1.serves in
        let held_e : Held b.rest.0 = held_on rules p extent known some b.mid b.rest.0 (record { same_rules = e.same_rules; same_handles = e.same_handles; same_handle = e.same_handle }) held_b in
        let ls = run_rounds rules p extent known some true old.sizes h.opens.block b.rest.0 later new b.rest.2 held_e in
        let told : told_in c p opened old input out fault new after calls h ≡ labels_of_all fs.rounds ++ (labels_of d.round ++ (labels_of_all bs.rounds ++ (labels_of e.round ++ labels_of_all ls.rounds))) =
        r.told ∙ a.labels ∙ ap (λ (x : List Label). of_run old.sizes old first a.mid a.first ++ (of_found old.sizes (command_in old.sizes.block old.sizes.bytes w.request) w.payload a.mid w.outcome a.rest.0 a.rest.1.serves ++ x)) b.labels
        ∙ rw (fs.labels_are, d.labels_are, bs.labels_are, e.labels_are, ls.labels_are) refl in
        let s = session_of (labels_of_all fs.rounds ++ (labels_of d.round ++ (labels_of_all bs.rounds ++ (labels_of e.round ++ labels_of_all ls.rounds)))) told in
        there c p known some old.sizes h.opens.block w place k is_write on_disk a.mid held_a d.round d.called d.succeeds a.rest.1.long left
        (law rules h.opens.arrays before left calls s.0 fs.rounds d.round bs.rounds e.round ls.rounds (labels_of_all ls.rounds) [] place s.1 whole fs.are d.is_round bs.are e.is_round ls.are (sym (append-nil (labels_of_all ls.rounds)))
        (written c p known some old.sizes h.opens.block w place k is_write on_disk a.mid held_a d.round d.called d.succeeds a.rest.1.long) (record { is_flush = flush_kind _ e.round e.called; succeeds = e.succeeds })
        (away_there c p known some old.sizes h.opens.block w place k is_write on_disk a.mid held_a d.round d.called d.succeeds a.rest.1.long bs.rounds (bs.away k away)) (bs.well well) (away_there c p known some old.sizes h.opens.block w place k is_write on_disk a.mid held_a d.round d.called d.succeeds a.rest.1.long ls.rounds (ls.away k away_later)) survives)

pub flushed_is_kept : ServedAreSessions → FlushedSurvives → FlushedIsKept
flushed_is_kept sessions law c p opened old input out fault new after calls before left first w between f later place k h some kept is is_write is_flush away well away_later on_disk survives =
    flush_kept c p opened old input out fault new after calls before left h some kept survives sessions w place k is_write on_disk law first between f later is is_flush away well away_later

pub secured_is_kept : ServedAreSessions → SecuredSurvives → SecuredIsKept
secured_is_kept sessions law c p opened old input out fault new after calls before left first w later place k h some kept is is_write through away on_disk survives =
    secured c p opened old input out fault new after calls before left h some kept survives sessions w place k is_write on_disk law first later is through away

pub untouched_is_kept : ServedAreSessions → UntouchedSurvives → UntouchedIsKept
untouched_is_kept sessions law c p opened old input out fault new after calls before left k h some kept away on_disk survives =
    untouched c p opened old input out fault new after calls before left h some kept survives sessions law k away on_disk

pub answered_is_kept : ServedAreSessions → RemainsSurvive → AnsweredRemains → AnsweredIsKept
answered_is_kept sessions less law c p opened old input out fault new after calls before left first w later place k h some kept is is_write away well on_disk remains =
    remaining c p opened old input out fault new after calls before left h some kept (less c.sector_size c.sectors before left calls remains) sessions w place k is_write on_disk law first later is away well remains

-- SESSIONS IN A ROW

survived : RemainsSurvive → (c : Settings) (before left : Content) (calls : List Call) → Survives c.sector_size c.sectors before calls left ⊎ Remains c.sector_size c.sectors before calls left → Survives c.sector_size c.sectors before calls left
survived less c before left calls (inl lost) = lost
survived less c before left calls (inr ended) = less c.sector_size c.sectors before left calls ended

pub stays_over_sessions : RemainsSurvive → UntouchedIsKept → StaysOverSessions
stays_over_sessions less law c i before left [] some on_disk h = ap (λ (content : Content). content i) h
stays_over_sessions less law c i before left (mid ∷ mids) some on_disk (one, more) =
    stays_over_sessions less law c i mid left mids some on_disk more
    ∙ subst (λ (n : ℕ). mid n ≡ before n) one.is_sector
    (law c one.p one.opened one.old one.input one.out one.fault one.new one.after one.calls before mid one.k one.serves some one.kept one.elsewhere (subst (λ (n : ℕ). n < c.sectors) (sym one.is_sector) on_disk) (survived less c before mid one.calls one.ends))
