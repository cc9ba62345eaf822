-- Exchanges of a session, as rounds.
use Rattle.serving.proofs.Common.{◌≡◌, ◌<◌, ◌≤◌, inl, inr, ℕ, Bool, true, false, List, [], ◌∷◌, ◌++◌, Option, Some, None, Result, Ok, Err, refl, sym, ap, subst, ◌∙◌, arith, append-nil, append_assoc, length, replicate, nat_tests, All, All-nil, All-cons, All-append, All-head, All-tail, MatchResult, ClientRequest, Rules, Extent, Label, Event, Read, Write, Flush, IsAsked, FiledView, Writes, call_on, partition_of, result_err, slice_get, NtStatus, Success}
use Rattle.std.specs.Prelude.{◌⊎◌, ◌+◌, ◌-◌, ◌*◌, ◌/◌, ◌==◌, if◌then◌else◌, IsTrue}
use Rattle.std.proofs.lemmas.Bool.{eqb-true}
use Rattle.std.proofs.lemmas.List.{length-replicate}
use Rattle.std.proofs.Math.Nat.{add-mul, div-mul-le_self}
use Rattle.std.proofs.lemmas.Nat.{le-div}
use Rattle.srb.specs.declared.Kind.{Kind}
use Rattle.srb.specs.declared.Kind.TheVariants.{Read as ReadKind, Write as WriteKind, Flush as FlushKind}
use Rattle.machine.specs.Rules.{first_sector, home, place_count}
use Rattle.loss.specs.Held.{has}
use Rattle.loss.specs.Laws.{sector_of}
use Rattle.nbd.specs.declared.arrays.Sizes.{Sizes}
use Rattle.nbd.specs.declared.requests.Command.{Command}
use Rattle.nbd.specs.declared.requests.Command.TheVariants.{Read as ReadCommand, Write as WriteCommand, Flush as FlushCommand, WriteZeroes}
use Rattle.nbd.specs.declared.requests.ReplyError.{ReplyError}
use Rattle.nbd.specs.declared.requests.ReplyError.TheVariants.{Eperm, Eio, Enomem, Einval, Enospc, Eshutdown}
use Rattle.nbd.specs.Over.{CarriesOver, RunOver}
use Rattle.nbd.specs.Replies.{Outcome, error_number, failure}
use Rattle.nbd.specs.declared.constants.TheConstants.{LONGEST}
use Rattle.nbd.specs.declared.requests.Request.{Request}
use Rattle.nbd.specs.Requests.{command_in, extent_fault, flags_fault, is_through, payload_count, payload_of, unless}
use Rattle.nbd.specs.Session.{Exchange}
use Rattle.file_sessions.specs.OneByOne.{IsAway, IsRound, Round, labels_of, labels_of_all, syncs as must_sync}
use Rattle.serving.specs.Filed.{CarriesBy, Clears, ClearsBy, Flushes, Gets, LacksMemory, Reads, plain_outcome, total}
use Rattle.serving.specs.Telling.{of_clears, of_cleared, of_command, of_found, of_read, of_run, of_stop}
use Rattle.serving.specs.Keeping.{IsElsewhere, command_of, sectors_in, syncs, writes}
use Rattle.serving.proofs.Asking.{AskedFor, IsCallOf, IsOneOrNone, asked_for}

-- OUTCOMES

pub error_some : (e : ReplyError) → error_number e ≡ 0 → ⊥
error_some Eperm h = absurd (omega (arith, h))
error_some Eio h = absurd (omega (arith, h))
error_some Enomem h = absurd (omega (arith, h))
error_some Einval h = absurd (omega (arith, h))
error_some Enospc h = absurd (omega (arith, h))
error_some Eshutdown h = absurd (omega (arith, h))

pub done_plain : (o : Outcome) (failed : Option ReplyError) → o ≡ plain_outcome failed → o.error ≡ 0 → failed ≡ None
done_plain o None is done = refl
done_plain o (Some e) is done = absurd (error_some e (sym (ap (λ (x : Outcome). x.error) is) ∙ done))

pub none_failed : (done : Result (List ℕ) ReplyError) → result_err done ≡ None → (bytes : List ℕ) × (done ≡ Ok bytes)
none_failed (Ok bytes) e = (bytes, refl)
none_failed (Err error) e = absurd (cc (e))

-- what is asked of a sync: that it succeeded, or that there is none
abbrev pub Fails : Bool → Option ReplyError → Type 0
Fails true failed = failed ≡ None
Fails false failed = ⊥

abbrev pub Ends : Bool → NtStatus → Type 0
Ends true status = status ≡ Success
Ends false status = ⊥

abbrev pub Errs : Bool → ℕ → Type 0
Errs true error = error ≡ 0
Errs false error = ⊥

-- such a round
abbrev pub SyncsSo : Bool → Round → Type 0
SyncsSo strict r = IsTrue (must_sync r.request) → Ends strict r.status

-- no sync of the exchange failed, or it has none
abbrev pub Keeps : Bool → Sizes → Exchange → Type 0
Keeps strict sizes x = (command : Command) → command_of sizes x ≡ Ok command → syncs command ≡ true → Errs strict x.outcome.error

ends_if : (strict : Bool) (failed : Option ReplyError) (done : Result (List ℕ) ReplyError) (status : NtStatus) → failed ≡ result_err done → ((bytes : List ℕ) → done ≡ Ok bytes → status ≡ Success) → Fails strict failed → Ends strict status
ends_if true failed done status is good fails = let k = none_failed done (sym is ∙ fails) in good k.0 k.1
ends_if false failed done status is good fails = absurd fails

fails_if : (strict : Bool) (o : Outcome) (failed : Option ReplyError) → o ≡ plain_outcome failed → Errs strict o.error → Fails strict failed
fails_if true o failed is errs = done_plain o failed is errs
fails_if false o failed is errs = absurd errs

fails_none : (strict : Bool) (failed : Option ReplyError) → Fails strict failed → Fails strict None
fails_none true failed h = refl
fails_none false failed h = absurd h

-- NUMBERS

sums : (a b n : ℕ) → 0 < n → a / n + b / n ≤ (a + b) / n
sums a b n some =
    let x : a / n * n ≤ a = div-mul-le_self a n in
    let y : b / n * n ≤ b = div-mul-le_self b n in
    le-div (a / n + b / n) (a + b) n some (rw (add-mul (a / n) (b / n) n) (omega (arith, x, y)))

grows : (a b n : ℕ) → 0 < n → a ≤ b → a / n ≤ b / n
grows a b n some low = let x : a / n * n ≤ a = div-mul-le_self a n in le-div (a / n) b n some (omega (arith, x, low))

has_there : (first count k : ℕ) → first ≤ k → k < first + count → has (record { first = first; count = count }) k ≡ true
has_there first count k low high = grind (arith, nat_tests)

-- a part of some bytes has none of the sectors that those have not
within : (n offset count from long place k : ℕ) → 0 < n → offset ≤ from → from + long ≤ offset + count → has (sectors_in n offset count) k ≡ false → place < long / n → from / n + place ≡ k → ⊥
within n offset count from long place k some low high out inside is =
    let a : offset / n ≤ from / n = grows offset from n some low in
    let b : from / n + long / n ≤ (from + long) / n = sums from long n some in
    let c : (from + long) / n ≤ (offset + count) / n = grows (from + long) (offset + count) n some high in
    let yes : has (sectors_in n offset count) k ≡ true = has_there (offset / n) ((offset + count) / n - offset / n) k (omega (arith, a, is)) (omega (arith, a, b, c, inside, is)) in
    let no : true ≡ false = sym yes ∙ out in cc (no)

-- PAYLOADS

unless_is : (x y : Option ReplyError) (c d : Command) → unless x y c ≡ Ok d → c ≡ d
unless_is (Some e) y c d h = absurd (cc (h))
unless_is None (Some e) c d h = absurd (cc (h))
unless_is None None c d h = cc (h)

-- the bytes behind a request are those of its command
pub payload_is : (block size : ℕ) (r : Request) (command : Command) → command_in block size r ≡ Ok command → payload_count r ≡ payload_of command
payload_is block size r command e =
    by_kind (r.kind == 0) (r.kind == 1) (r.kind == 3) (r.kind == 6) (flags_fault 1 r.flags) (extent_fault block size LONGEST Einval r) (flags_fault 1 r.flags)
    (extent_fault block size LONGEST Enospc r) (flags_fault 1 r.flags) (flags_fault (1 + 2) r.flags) (extent_fault block size 0xFFFFFFFF Enospc r) apart e
  where
    apart : (r.kind == 0) ≡ true → (r.kind == 1) ≡ false
    apart h = subst (λ (k : ℕ). (k == 1) ≡ false) (sym (eqb-true r.kind 0 h)) refl

    by_kind : (a b c d : Bool) (f1 g1 f2 g2 f3 f4 g4 : Option ReplyError) → (a ≡ true → b ≡ false)
        → (if a then unless f1 g1 (ReadCommand r.offset r.count) else if b then unless f2 g2 (WriteCommand r.offset r.count (is_through r.flags)) else if c then unless f3 None FlushCommand
        else if d then unless f4 g4 (WriteZeroes r.offset r.count (is_through r.flags)) else Err Einval) ≡ Ok command
        → (if b then r.count else 0) ≡ payload_of command
    by_kind true b c d f1 g1 f2 g2 f3 f4 g4 apart h = rw (apart refl) (ap payload_of (unless_is f1 g1 (ReadCommand r.offset r.count) command h))
    by_kind false true c d f1 g1 f2 g2 f3 f4 g4 apart h = ap payload_of (unless_is f2 g2 (WriteCommand r.offset r.count (is_through r.flags)) command h)
    by_kind false false true d f1 g1 f2 g2 f3 f4 g4 apart h = ap payload_of (unless_is f3 None FlushCommand command h)
    by_kind false false false true f1 g1 f2 g2 f3 f4 g4 apart h = ap payload_of (unless_is f4 g4 (WriteZeroes r.offset r.count (is_through r.flags)) command h)
    by_kind false false false false f1 g1 f2 g2 f3 f4 g4 apart h = absurd (cc (h))

-- A HANDLE ON A PARTITION

module _ (rules : Rules) (p : ℕ) (extent : Extent) (known : slice_get rules.partitions p ≡ Some extent) (some : 0 < rules.sector_size) where
  -- the stack has these rules, and the handle is on the partition
  pub record IsHeld (v : FiledView) : Type 0 where
    pub rules_are : v.carried.stack.rules ≡ rules
    pub on : partition_of v.carried.stack.handles v.handle ≡ Some p

  at_home : (q : Option ℕ) (x : ℕ) → q ≡ Some p → home rules q x ≡ extent.first + x
  at_home q x e = ap (λ (o : Option ℕ). home rules o x) e ∙ by_entry (slice_get rules.partitions p) known
    where
      by_entry : (entry : Option Extent) → entry ≡ Some extent → (elim entry [ Some other ↦ other.first + x | None ↦ x ]) ≡ extent.first + x
      by_entry (Some other) is = let same : other ≡ extent = cc (is) in ap (λ (y : Extent). y.first + x) same
      by_entry None is = absurd (cc (is))

  -- the round is of a write of this many bytes
  pub record IsPut (v : FiledView) (offset long : ℕ) (through : Bool) (r : Round) : Type 0 where
    pub kind : r.request.kind ≡ WriteKind
    pub partition : r.request.partition ≡ Some p
    pub offset_is : r.request.offset ≡ offset
    pub long_is : r.request.length ≡ long
    pub through_is : r.request.through ≡ through

  pub put_by : (v : FiledView) (offset : ℕ) (bytes : List ℕ) (through : Bool) (r : Round) → IsHeld v → IsCallOf (call_on v.carried.stack v.handle WriteKind offset bytes through) r → IsPut v offset (length bytes) through r
  put_by v offset bytes through r held (inl is) = record {
    kind = ap (λ (q : ClientRequest). q.kind) is;
    partition = ap (λ (q : ClientRequest). q.partition) is ∙ held.on;
    offset_is = ap (λ (q : ClientRequest). q.offset) is;
    long_is = ap (λ (q : ClientRequest). q.length) is;
    through_is = ap (λ (q : ClientRequest). q.through) is;
  }
  put_by v offset bytes through r held (inr is) = record {
    kind = ap (λ (q : ClientRequest). q.kind) is;
    partition = ap (λ (q : ClientRequest). q.partition) is ∙ held.on;
    offset_is = ap (λ (q : ClientRequest). q.offset) is;
    long_is = ap (λ (q : ClientRequest). q.length) is;
    through_is = ap (λ (q : ClientRequest). q.through) is;
  }

  pub places_of : (r : Round) (long : ℕ) → r.request.kind ≡ WriteKind → r.request.length ≡ long → place_count rules r.request ≡ long / rules.sector_size
  places_of r long kind is = counted r.request.kind kind ∙ ap (λ (n : ℕ). n / rules.sector_size) is
    where
      counted : (k : Kind) → k ≡ WriteKind → place_count rules (record r.request { kind = k }) ≡ r.request.length / rules.sector_size
      counted WriteKind e = refl
      counted ReadKind e = absurd (cc (e))
      counted FlushKind e = absurd (cc (e))

  pub sector_at : (v : FiledView) (offset long : ℕ) (through : Bool) (r : Round) (place : ℕ) → IsPut v offset long through r → sector_of rules r.request place ≡ extent.first + (offset / rules.sector_size + place)
  sector_at v offset long through r place h =
      at_home r.request.partition (first_sector rules r.request + place) h.partition ∙ ap (λ (n : ℕ). extent.first + (n / rules.sector_size + place)) h.offset_is

  -- where its bytes are a part of some that have no sector k, it is away
  put_away : (v : FiledView) (from long : ℕ) (through : Bool) (r : Round) (offset count k : ℕ) → IsPut v from long through r → offset ≤ from → from + long ≤ offset + count → has (sectors_in rules.sector_size offset count) k ≡ false
      → IsAway rules (extent.first + k) r
  put_away v from long through r offset count k h low high out is_write place inside same =
      within rules.sector_size offset count from long place k some low high out (subst (λ (n : ℕ). place < n) (places_of r long h.kind h.long_is) inside)
      (cancel (from / rules.sector_size + place) k (sym (sector_at v from long through r place h) ∙ same))
    where
      cancel : (a b : ℕ) → extent.first + a ≡ extent.first + b → a ≡ b
      cancel a b e = omega arith

  -- EXCHANGES

  pub record IsSteady (old new : FiledView) : Type 0 where
    pub same_rules : new.carried.stack.rules ≡ old.carried.stack.rules
    pub same_handles : new.carried.stack.handles ≡ old.carried.stack.handles
    pub same_handle : new.handle ≡ old.handle

  pub held_on : (old new : FiledView) → IsSteady old new → IsHeld old → IsHeld new
  held_on old new h held = record { rules_are = h.same_rules ∙ held.rules_are; on = rw (h.same_handles, h.same_handle) held.on }

  pub all_labels : (xs ys : List Round) → labels_of_all (xs ++ ys) ≡ labels_of_all xs ++ labels_of_all ys
  all_labels [] ys = refl
  all_labels (x ∷ xs) ys = ap (λ (ls : List Label). labels_of x ++ ls) (all_labels xs ys) ∙ sym (append_assoc (labels_of x) (labels_of_all xs) (labels_of_all ys))

  module _ (strict : Bool) where
    -- these labels are rounds; what `Away` says of a sector keeps them away from it, and with `Synced` their syncs succeeded
    pub record AreRounds (old new : FiledView) (labels : List Label) (Away : ℕ → Type 0) (Synced : Type 0) : Type 0 where
      pub rounds : List Round
      pub labels_are : labels ≡ labels_of_all rounds
      pub are : All IsRound rounds
      pub away : (k : ℕ) → Away k → All (IsAway rules (extent.first + k)) rounds
      pub well : Synced → All (SyncsSo strict) rounds
      pub steady : IsSteady old new

    none_told : (old new : FiledView) (Away : ℕ → Type 0) (Synced : Type 0) → new ≡ old → AreRounds old new [] Away Synced
    none_told old new Away Synced same = subst (λ (v : FiledView). AreRounds old v [] Away Synced) (sym same) (record {
      rounds = [];
      labels_are = refl;
      are = All-nil IsRound;
      away = λ k out. All-nil (IsAway rules (extent.first + k));
      well = λ synced. All-nil (SyncsSo strict);
      steady = record { same_rules = refl; same_handles = refl; same_handle = refl };
    })

    told_then : (old mid new : FiledView) (ls ls' : List Label) (Away Away' : ℕ → Type 0) (Synced Synced' : Type 0) → AreRounds old mid ls Away Synced → AreRounds mid new ls' Away' Synced' → AreRounds old new (ls ++ ls') (λ k. Away k × Away' k) (Synced × Synced')
    told_then old mid new ls ls' Away Away' Synced Synced' a b = record {
      rounds = a.rounds ++ b.rounds;
      labels_are = rw (a.labels_are, b.labels_are) (sym (all_labels a.rounds b.rounds));
      are = All-append IsRound a.rounds b.rounds a.are b.are;
      away = λ k out. All-append (IsAway rules (extent.first + k)) a.rounds b.rounds (a.away k out.0) (b.away k out.1);
      well = λ synced. All-append (SyncsSo strict) a.rounds b.rounds (a.well synced.0) (b.well synced.1);
      steady = record {
        same_rules = b.steady.same_rules ∙ a.steady.same_rules;
        same_handles = b.steady.same_handles ∙ a.steady.same_handles;
        same_handle = b.steady.same_handle ∙ a.steady.same_handle;
      };
    }

    told_if : (old new : FiledView) (ls : List Label) (Away Away' : ℕ → Type 0) (Synced Synced' : Type 0) → ((k : ℕ) → Away' k → Away k) → (Synced' → Synced) → AreRounds old new ls Away Synced → AreRounds old new ls Away' Synced'
    told_if old new ls Away Away' Synced Synced' away synced h = record { rounds = h.rounds; labels_are = h.labels_are; are = h.are; away = λ k out. h.away k (away k out); well = λ s. h.well (synced s); steady = h.steady }

    pub steady_of : (old new : FiledView) (event : Event) (done : Result (List ℕ) ReplyError) → IsAsked old event done new → IsSteady old new
    steady_of old new event done h = record { same_rules = h.requests.same_rules; same_handles = h.requests.same_handles; same_handle = h.same_handle }

    -- one request
    one_round : (old new : FiledView) (labels : List Label) (q : ClientRequest) (done : Result (List ℕ) ReplyError) (Away : ℕ → Type 0) (Synced : Type 0) → IsSteady old new → ((r : Round) → IsCallOf q r → (k : ℕ) → Away k → IsAway rules (extent.first + k) r)
        → ((r : Round) → IsCallOf q r → ((bytes : List ℕ) → done ≡ Ok bytes → r.status ≡ Success) → Synced → SyncsSo strict r) → IsOneOrNone q done labels → AreRounds old new labels Away Synced
    one_round old new labels q done Away Synced steady away well (inl one) = record {
      rounds = one.round ∷ [];
      labels_are = one.labels_are ∙ sym (append-nil (labels_of one.round));
      are = All-cons IsRound one.round [] one.is_round (All-nil IsRound);
      away = λ k out. All-cons (IsAway rules (extent.first + k)) one.round [] (away one.round one.called k out) (All-nil (IsAway rules (extent.first + k)));
      well = λ synced. All-cons (SyncsSo strict) one.round [] (well one.round one.called one.good synced) (All-nil (SyncsSo strict));
      steady = steady;
    }
    one_round old new labels q done Away Synced steady away well (inr none) = subst (λ (ls : List Label). AreRounds old new ls Away Synced) (sym none.0) (record {
      rounds = [];
      labels_are = refl;
      are = All-nil IsRound;
      away = λ k out. All-nil (IsAway rules (extent.first + k));
      well = λ synced. All-nil (SyncsSo strict);
      steady = steady;
    })

    kind_of : (q : ClientRequest) (r : Round) → IsCallOf q r → r.request.kind ≡ q.kind
    kind_of q r (inl is) = ap (λ (x : ClientRequest). x.kind) is
    kind_of q r (inr is) = ap (λ (x : ClientRequest). x.kind) is

    not_write : (q : ClientRequest) (r : Round) (i : ℕ) → IsCallOf q r → (q.kind ≡ WriteKind → ⊥) → IsAway rules i r
    not_write q r i of other is_write place low = absurd (other (sym (kind_of q r of) ∙ is_write))

    no_sync : (q : ClientRequest) (r : Round) → IsCallOf q r → q.kind ≡ ReadKind → SyncsSo strict r
    no_sync q r of is_read sync = absurd (by_kind r.request.kind (kind_of q r of ∙ is_read) sync)
      where
        by_kind : (k : Kind) → k ≡ ReadKind → IsTrue (must_sync (record r.request { kind = k })) → ⊥
        by_kind ReadKind e h = cc (h)
        by_kind WriteKind e h = cc (e)
        by_kind FlushKind e h = cc (e)

    abbrev Never : ℕ → Type 0
    Never k = Unit {0}

    read_rounds : (old new : FiledView) (offset count : ℕ) (done : Result (List ℕ) ReplyError) (h : Gets old offset count done new) → AreRounds old new h.asked.requests.labels Never (Unit {0})
    read_rounds old new offset count done h =
        let a : AskedFor old.carried.stack (Read old.handle offset h.buffer) done h.asked.requests.labels = asked_for old (Read old.handle offset h.buffer) done new h.asked tt in
        one_round old new h.asked.requests.labels a.request done Never (Unit {0}) (steady_of old new (Read old.handle offset h.buffer) done h.asked)
        (λ r of k out. not_write a.request r (extent.first + k) of (λ is. let no : ReadKind ≡ WriteKind = sym (ap (λ (q : ClientRequest). q.kind) a.asks) ∙ is in cc (no)))
        (λ r of good synced. no_sync a.request r of (ap (λ (q : ClientRequest). q.kind) a.asks)) a.one

    flush_rounds : (old new : FiledView) (failed : Option ReplyError) (h : Flushes old failed new) → AreRounds old new h.asked.requests.labels Never (Fails strict failed)
    flush_rounds old new failed h =
        let a : AskedFor old.carried.stack (Flush old.handle) h.done h.asked.requests.labels = asked_for old (Flush old.handle) h.done new h.asked tt in
        one_round old new h.asked.requests.labels a.request h.done Never (Fails strict failed) (steady_of old new (Flush old.handle) h.done h.asked)
        (λ r of k out. not_write a.request r (extent.first + k) of (λ is. let no : FlushKind ≡ WriteKind = sym (ap (λ (q : ClientRequest). q.kind) a.asks) ∙ is in cc (no)))
        (λ r of good synced sync. ends_if strict failed h.done r.status h.failed_so good synced) a.one

    -- a write of bytes that are a part of some
    write_rounds : (old new : FiledView) (from : ℕ) (bytes : List ℕ) (through : Bool) (failed : Option ReplyError) (h : Writes old from bytes through failed new) (offset count : ℕ) → IsHeld old → offset ≤ from → from + length bytes ≤ offset + count
        → AreRounds old new h.asked.requests.labels (λ k. has (sectors_in rules.sector_size offset count) k ≡ false) (through ≡ true → Fails strict failed)
    write_rounds old new from bytes through failed h offset count held low high =
        let a : AskedFor old.carried.stack (Write old.handle from bytes through) h.done h.asked.requests.labels = asked_for old (Write old.handle from bytes through) h.done new h.asked tt in
        one_round old new h.asked.requests.labels a.request h.done (λ k. has (sectors_in rules.sector_size offset count) k ≡ false) (through ≡ true → Fails strict failed) (steady_of old new (Write old.handle from bytes through) h.done h.asked)
        (λ r of k out. put_away old from (length bytes) through r offset count k (put a.request a.asks r of) low high out)
        (λ r of good synced sync. ends_if strict failed h.done r.status h.failed_so good (synced (syncs_so a.request a.asks r of sync))) a.one
      where
        put : (q : ClientRequest) → q ≡ call_on old.carried.stack old.handle WriteKind from bytes through → (r : Round) → IsCallOf q r → IsPut old from (length bytes) through r
        put q is r of = put_by old from bytes through r held (subst (λ (x : ClientRequest). IsCallOf x r) is of)

        syncs_so : (q : ClientRequest) → q ≡ call_on old.carried.stack old.handle WriteKind from bytes through → (r : Round) → IsCallOf q r → IsTrue (must_sync r.request) → through ≡ true
        syncs_so q is r of sync = sym (put q is r of).through_is ∙ by_kind r.request.kind (put q is r of).kind sync
          where
            by_kind : (k : Kind) → k ≡ WriteKind → IsTrue (must_sync (record r.request { kind = k })) → r.request.through ≡ true
            by_kind WriteKind e h = h
            by_kind ReadKind e h = absurd (cc (e))
            by_kind FlushKind e h = absurd (cc (e))

    -- ZEROS

    abbrev Well : Bool → Option ReplyError → Type 0
    Well through failed = through ≡ true → Fails strict failed

    abbrev Out : ℕ → ℕ → ℕ → Type 0
    Out offset count k = has (sectors_in rules.sector_size offset count) k ≡ false

    clears_rounds : (old new : FiledView) (from : ℕ) (counts : List ℕ) (through : Bool) (h : Clears old from counts through new) (offset count : ℕ) → IsHeld old → offset ≤ from → from + total counts ≤ offset + count
        → AreRounds old new (of_clears old from counts through new h) (Out offset count) (Well through None)
    clears_rounds old new from [] through h offset count held low high = none_told old new (Out offset count) (Well through None) h
    clears_rounds old new from (n ∷ counts) through h offset count held low high =
        let some : from + total counts ≤ offset + count = omega (arith, high) in
        let a : AreRounds old h.0 (of_clears old from counts through h.0 h.1) (Out offset count) (Well through None) = clears_rounds old h.0 from counts through h.1 offset count held low some in
        let long : length {A = ℕ} (replicate n 0) ≡ n = length-replicate n 0 in
        let b : AreRounds h.0 new h.2.asked.requests.labels (Out offset count) (Well through None) =
        write_rounds h.0 new (from + total counts) (replicate n 0) through None h.2 offset count (held_on old h.0 a.steady held) (omega (arith, low)) (omega (arith, high, long)) in
        told_if old new (of_clears old from counts through h.0 h.1 ++ h.2.asked.requests.labels) (λ k. Out offset count k × Out offset count k) (Out offset count) (Well through None × Well through None) (Well through None) (λ k out. (out, out)) (λ synced. (synced, synced))
        (told_then old h.0 new (of_clears old from counts through h.0 h.1) h.2.asked.requests.labels (Out offset count) (Out offset count) (Well through None) (Well through None) a b)

    stop_rounds : (mid new : FiledView) (from next : ℕ) (through : Bool) (error : ReplyError) (h : Writes mid from (replicate next 0) through (Some error) new ⊎ LacksMemory mid error new) (offset count : ℕ) → IsHeld mid → offset ≤ from
        → from + next ≤ offset + count → AreRounds mid new (of_stop mid from next through error new h) (Out offset count) (Well through (Some error))
    stop_rounds mid new from next through error (inl h) offset count held low high =
        let long : length {A = ℕ} (replicate next 0) ≡ next = length-replicate next 0 in
        write_rounds mid new from (replicate next 0) through (Some error) h offset count held low (omega (arith, high, long))
    stop_rounds mid new from next through error (inr h) offset count held low high = none_told mid new (Out offset count) (Well through (Some error)) h.same

    cleared_rounds : (old new : FiledView) (offset count : ℕ) (through : Bool) (failed : Option ReplyError) (h : ClearsBy old offset count through failed new) → IsHeld old
        → AreRounds old new (of_cleared old offset count through failed new h) (Out offset count) (through ≡ true → Fails strict failed)
    cleared_rounds old new offset count through None h held =
        told_if old new (of_clears old offset h.counts through new h.clears) (Out offset count) (Out offset count) (Well through None) (Well through None) (λ k out. out) (λ synced. synced)
        (clears_rounds old new offset h.counts through h.clears offset count held (omega arith) (let all = h.all in omega (arith, all)))
    cleared_rounds old new offset count through (Some error) h held =
        let fewer : h.done + h.next ≤ count = h.fewer in
        let all : h.done ≡ total h.cleared.counts = h.cleared.all in
        let a : AreRounds old h.mid (of_clears old offset h.cleared.counts through h.mid h.cleared.clears) (Out offset count) (Well through None) =
        clears_rounds old h.mid offset h.cleared.counts through h.cleared.clears offset count held (omega arith) (omega (arith, fewer, all)) in
        let b : AreRounds h.mid new (of_stop h.mid (offset + h.done) h.next through error new h.stops) (Out offset count) (Well through (Some error)) =
        stop_rounds h.mid new (offset + h.done) h.next through error h.stops offset count (held_on old h.mid a.steady held) (omega arith) (omega (arith, fewer)) in
        told_if old new (of_cleared old offset count through (Some error) new h) (λ k. Out offset count k × Out offset count k) (Out offset count) (Well through None × Well through (Some error)) (Well through (Some error)) (λ k out. (out, out)) (λ synced. ((λ e. fails_none strict (Some error) (synced e)), synced))
        (told_then old h.mid new (of_clears old offset h.cleared.counts through h.mid h.cleared.clears) (of_stop h.mid (offset + h.done) h.next through error new h.stops) (Out offset count) (Out offset count) (Well through None) (Well through (Some error)) a b)

    -- COMMANDS

    reads_rounds : (old new : FiledView) (offset count : ℕ) (done : Result (List ℕ) ReplyError) (h : Reads old offset count done new) → AreRounds old new (of_read old offset count done new h) Never (Unit {0})
    reads_rounds old new offset count (Ok bytes) h = read_rounds old new offset count (Ok bytes) h
    reads_rounds old new offset count (Err error) (inl h) = read_rounds old new offset count (Err error) h
    reads_rounds old new offset count (Err error) (inr h) = none_told old new Never (Unit {0}) h.same

    command_rounds : (command : Command) (payload : List ℕ) (old : FiledView) (o : Outcome) (new : FiledView) (h : CarriesBy command payload old o new) → IsHeld old → length payload ≡ payload_of command
        → AreRounds old new (of_command command payload old o new h) (λ k. writes rules.sector_size k command ≡ false) (syncs command ≡ true → Errs strict o.error)
    command_rounds (ReadCommand offset count) payload old o new h held long =
        told_if old new (of_read old offset count h.0 new h.1) Never (λ k. false ≡ false) (Unit {0}) (false ≡ true → Errs strict o.error) (λ k out. tt) (λ synced. tt) (reads_rounds old new offset count h.0 h.1)
    command_rounds (WriteCommand offset count through) payload old o new h held long =
        told_if old new h.1.asked.requests.labels (Out offset count) (Out offset count) (through ≡ true → Fails strict h.0) (through ≡ true → Errs strict o.error) (λ k out. out) (λ synced e. fails_if strict o h.0 h.2 (synced e))
        (write_rounds old new offset payload through h.0 h.1 offset count held (omega arith) (omega (arith, long)))
    command_rounds FlushCommand payload old o new h held long =
        told_if old new h.1.asked.requests.labels Never (λ k. false ≡ false) (Fails strict h.0) (true ≡ true → Errs strict o.error) (λ k out. tt) (λ synced. fails_if strict o h.0 h.2 (synced refl)) (flush_rounds old new h.0 h.1)
    command_rounds (WriteZeroes offset count through) payload old o new h held long =
        told_if old new (of_cleared old offset count through h.0 new h.1) (Out offset count) (Out offset count) (through ≡ true → Fails strict h.0) (through ≡ true → Errs strict o.error) (λ k out. out) (λ synced e. fails_if strict o h.0 h.2 (synced e))
        (cleared_rounds old new offset count through h.0 h.1 held)

    -- A RUN OF EXCHANGES

    module _ (sizes : Sizes) (block : sizes.block ≡ rules.sector_size) where
      found_rounds : (x : Exchange) (found : Result Command ReplyError) (old new : FiledView) → command_of sizes x ≡ found
          → (h : MatchResult found (λ command. CarriesOver CarriesBy sizes command x.payload old x.outcome new) (λ e. (x.outcome ≡ failure e) × (new ≡ old))) → IsHeld old → length x.payload ≡ payload_count x.request
          → AreRounds old new (of_found sizes found x.payload old x.outcome new h) (λ k. IsElsewhere sizes k x) (Keeps strict sizes x)
      found_rounds x (Ok command) old new e (inl h) held long =
          told_if old new (of_command command x.payload old x.outcome new h) (λ k. writes rules.sector_size k command ≡ false) (λ k. IsElsewhere sizes k x) (syncs command ≡ true → Errs strict x.outcome.error) (Keeps strict sizes x)
          (λ k out. subst (λ (n : ℕ). writes n k command ≡ false) block (out command e)) (λ synced. synced command e)
          (command_rounds command x.payload old x.outcome new h held (long ∙ payload_is sizes.block sizes.bytes x.request command e))
      found_rounds x (Ok command) old new e (inr h) held long = none_told old new (λ k. IsElsewhere sizes k x) (Keeps strict sizes x) h.2
      found_rounds x (Err error) old new e h held long = none_told old new (λ k. IsElsewhere sizes k x) (Keeps strict sizes x) h.1

      pub run_rounds : (old : FiledView) (xs : List Exchange) (new : FiledView) (h : RunOver CarriesBy sizes old xs new) → IsHeld old
          → AreRounds old new (of_run sizes old xs new h) (λ k. All (IsElsewhere sizes k) xs) (All (Keeps strict sizes) xs)
      run_rounds old [] new h held = none_told old new (λ k. All (IsElsewhere sizes k) []) (All (Keeps strict sizes) []) h
      run_rounds old (x ∷ xs) new h held =
          let a = found_rounds x (command_in sizes.block sizes.bytes x.request) old h.0 refl h.1.serves held h.1.long in
          let b = run_rounds h.0 xs new h.2 (held_on old h.0 a.steady held) in
          told_if old new (of_run sizes old (x ∷ xs) new h) (λ k. IsElsewhere sizes k x × All (IsElsewhere sizes k) xs) (λ k. All (IsElsewhere sizes k) (x ∷ xs)) (Keeps strict sizes x × All (Keeps strict sizes) xs) (All (Keeps strict sizes) (x ∷ xs))
          (λ k out. (All-head (IsElsewhere sizes k) x xs out, All-tail (IsElsewhere sizes k) x xs out)) (λ synced. (All-head (Keeps strict sizes) x xs synced, All-tail (Keeps strict sizes) x xs synced))
          (told_then old h.0 new (of_found sizes (command_in sizes.block sizes.bytes x.request) x.payload old x.outcome h.0 h.1.serves) (of_run sizes h.0 xs new h.2) (λ k. IsElsewhere sizes k x) (λ k. All (IsElsewhere sizes k) xs) (Keeps strict sizes x) (All (Keeps strict sizes) xs) a b)
