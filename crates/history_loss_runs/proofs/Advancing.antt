-- One effect of one sector is carried out.
use Rattle.std.proofs.Common.{◌≡◌, ◌≢◌, ◌<◌, ◌≤◌, ◌⊎◌, inl, inr, ℕ, zero, suc, ◌+◌, ◌*◌, ◌/◌, ◌==◌, ◌&&◌, not, take, drop, replicate, Bool, true, false, List, [], ◌∷◌, ◌++◌, Option, None, refl, sym, ◌∙◌, ap, subst, arith, length, get_or}
use Rattle.std.specs.Prelude.{All, Contains, is_none, if◌then◌else◌}
use Rattle.std.specs.List.{concat}
use Rattle.std.proofs.Math.Nat.{zero-div}
use Rattle.std.proofs.lemmas.Bool.{cases_eq}
use Rattle.std.proofs.lemmas.Bool.Decides.{nat_tests}
use Rattle.std.proofs.lemmas.List.{append-nil, take_all}
use Rattle.std.proofs.lemmas.List.Sorted.{IsPermutation-sym, All-permutation}
use Rattle.std.proofs.lemmas.List.Elements.{All-nil, All-cons, All-head, All-tail, All-contains, All-weaker}
use Rattle.ntstatus.specs.declared.NtStatus.{NtStatus}
use Rattle.ntstatus.specs.declared.NtStatus.TheVariants.{Success, InvalidHandle, InvalidParameter}
use Rattle.ntstatus.specs.First.{when, first_some}
use Rattle.sector.specs.declared.Extent.{Extent}
use Rattle.sector.specs.Extents.{IsSector}
use Rattle.srb.specs.declared.Kind.{Kind}
use Rattle.srb.specs.declared.Kind.TheVariants.{Read, Write, Flush}
use Rattle.srb.specs.declared.Class.{Class}
use Rattle.srb.specs.declared.Class.TheVariants.{Good, Bad}
use Rattle.srb.specs.Fate.{Acted}
use Rattle.machine.specs.declared.ClientRequest.{ClientRequest}
use Rattle.machine.specs.declared.Label.{Label}
use Rattle.machine.specs.declared.Label.TheVariants.{Call, Device, Answer, Cancel, Pause, Resume, Remove, Surprise, Removed}
use Rattle.machine.specs.Rules.{Rules, is_transfer, is_in_bounds, place_count}
use Rattle.machine.specs.State.{Mark, Untouched, Out, Done, Failed, Back, OpenRequest, Piece}
use Rattle.machine.specs.Calling.{bytes_carried}
use Rattle.machine.specs.Cutting.{mark_at}
use Rattle.machine.specs.Sending.{IsUnsent, IsInTurn, IsLowestFreeTag, Transfers, LeavesMarks, is_untouched, command_for, status_of_completion, new_piece, with_fate}
use Rattle.machine.specs.Numbers.{AreDistinct, IsSent, request_number}
use Rattle.machine.proofs.Numbers.{AreDistinct-Step}
use Rattle.machine.proofs.Permuting.{distinct_first}
use Rattle.machine_laws.specs.Sectors.{bytes_for}
use Rattle.machine_laws.proofs.Sectors.{bytes_are}
use Rattle.history_laws.specs.declared.Asked.{Asked}
use Rattle.history_laws.specs.Fitting.{refused}
use Rattle.history_runs.specs.Laws.{IsAddressable}
use Rattle.history_runs.proofs.Admitted.{admitted}
use Rattle.history_runs.proofs.Blocks.{BlockOf}
use Rattle.history_runs.proofs.Calling.{block_at}
use Rattle.history_runs.proofs.Failing.{FailsBy, ending}
use Rattle.history_runs.proofs.Marks.{remarked_length, remarked_there, remarked_elsewhere, started_at}
use Rattle.history_runs.proofs.Steps.{remarked}
use Rattle.history_runs.proofs.Tracking.{IsFound, IsOpenHere, find_open, still_open}
use Rattle.history_runs.proofs.Advancing.{part_length}
use Rattle.loss.specs.Held.{IsOneOf, act_changes, changed_by, sector_in}
use Rattle.loss.specs.Moved.{HandsOver, Table, work_of}
use Rattle.loss.specs.Laws.{sector_of, value_for}
use Rattle.loss.specs.Sessions.{Line, Told, Lost, Ended, Moment}
use Rattle.history_loss.specs.Histories.{seen_of}
use Rattle.history_loss.specs.Schedules.{Event, Seen, Effect, Carries, IsAt, IsIdle, IsNoAnswer, IsNoEffect, IsNoFailure, MayFollow, TakesEffect, acted, one_place, shared_of}
use Rattle.history_loss.proofs.Mirroring.{IsBelow}
use Rattle.history_loss.proofs.Holding.{AllOlder}
use Rattle.history_loss.proofs.Places.{Hits, hit_act, hits_or_misses, missed_act, one_hit, put_list, read_act}
use Rattle.history_loss.proofs.Widening.{dated_then}
use Rattle.history_loss_runs.proofs.Having.{Has, has_written}
use Rattle.history_loss_runs.proofs.Steps.{Goes, Path, acted_table, carries_out, goes_nowhere, moment, standing, storing}
use Rattle.history_loss_runs.proofs.Tags.{lowest_free}
use Rattle.history_loss_runs.proofs.Tracking.{Cell, Cells, IsAtPlace, IsOnCourse, Ready, Suits, Track, all_shared, labels_till, put, put_by, shared_seen}

-- NUMBERS ALONG A PATH

pub path_distinct : (rules : Rules) (m : Moment) (lines : List Line) (m' : Moment) → All (λ line. (line ≡ Lost → ⊥) × (line ≡ Ended → ⊥)) lines → AreDistinct m.machine → Path rules m lines m' → AreDistinct m'.machine
path_distinct rules m [] m' told d p = subst (λ x. AreDistinct x.machine) p d
path_distinct rules m (Told label ∷ lines) m' told d p =
    path_distinct rules p.0 lines m' (All-tail (λ line. (line ≡ Lost → ⊥) × (line ≡ Ended → ⊥)) (Told label) lines told) (AreDistinct-Step rules m.machine label p.0.machine d p.1.0) p.2
path_distinct rules m (Lost ∷ lines) m' told d p = absurd ((All-head (λ line. (line ≡ Lost → ⊥) × (line ≡ Ended → ⊥)) Lost lines told).0 refl)
path_distinct rules m (Ended ∷ lines) m' told d p = absurd ((All-head (λ line. (line ≡ Lost → ⊥) × (line ≡ Ended → ⊥)) Ended lines told).1 refl)

-- the line ends no session
abbrev pub IsToldLine : Line → Type 0
IsToldLine line = (line ≡ Lost → ⊥) × (line ≡ Ended → ⊥)

-- no line that ends a session is unseen
told_lines : (lines : List Line) → All IsToldLine (seen_of lines) → All IsToldLine lines
told_lines [] all = All-nil IsToldLine
told_lines (Lost ∷ lines) all = absurd ((All-head IsToldLine Lost (seen_of lines) all).0 refl)
told_lines (Ended ∷ lines) all = absurd ((All-head IsToldLine Ended (seen_of lines) all).1 refl)
told_lines (Told (Call number q) ∷ lines) all = All-cons IsToldLine (Told (Call number q)) lines (λ f. absurd (cc (f)), λ f. absurd (cc (f))) (told_lines lines (All-tail IsToldLine (Told (Call number q)) (seen_of lines) all))
told_lines (Told (Answer number status informed bytes) ∷ lines) all =
    All-cons IsToldLine (Told (Answer number status informed bytes)) lines (λ f. absurd (cc (f)), λ f. absurd (cc (f))) (told_lines lines (All-tail IsToldLine (Told (Answer number status informed bytes)) (seen_of lines) all))
told_lines (Told (Device label) ∷ lines) all = All-cons IsToldLine (Told (Device label)) lines (λ f. absurd (cc (f)), λ f. absurd (cc (f))) (told_lines lines all)
told_lines (Told (Cancel number) ∷ lines) all = All-cons IsToldLine (Told (Cancel number)) lines (λ f. absurd (cc (f)), λ f. absurd (cc (f))) (told_lines lines all)
told_lines (Told Pause ∷ lines) all = All-cons IsToldLine (Told Pause) lines (λ f. absurd (cc (f)), λ f. absurd (cc (f))) (told_lines lines all)
told_lines (Told Resume ∷ lines) all = All-cons IsToldLine (Told Resume) lines (λ f. absurd (cc (f)), λ f. absurd (cc (f))) (told_lines lines all)
told_lines (Told Remove ∷ lines) all = All-cons IsToldLine (Told Remove) lines (λ f. absurd (cc (f)), λ f. absurd (cc (f))) (told_lines lines all)
told_lines (Told Surprise ∷ lines) all = All-cons IsToldLine (Told Surprise) lines (λ f. absurd (cc (f)), λ f. absurd (cc (f))) (told_lines lines all)
told_lines (Told Removed ∷ lines) all = All-cons IsToldLine (Told Removed) lines (λ f. absurd (cc (f)), λ f. absurd (cc (f))) (told_lines lines all)

pub told_one : (label : Label) → All IsToldLine (Told label ∷ [])
told_one label = All-cons IsToldLine (Told label) [] (λ f. absurd (cc (f)), λ f. absurd (cc (f))) (All-nil IsToldLine)

pub told_two : (first second : Label) → All IsToldLine (Told first ∷ Told second ∷ [])
told_two first second = All-cons IsToldLine (Told first) (Told second ∷ []) (λ f. absurd (cc (f)), λ f. absurd (cc (f))) (told_one second)

pub seen_distinct : (rules : Rules) (m m' : Moment) (seen : List Line) → All IsToldLine seen → AreDistinct m.machine → Goes rules m seen m' → AreDistinct m'.machine
seen_distinct rules m m' seen told d g = path_distinct rules m g.lines m' (told_lines g.lines (subst (All IsToldLine) (sym g.seen) told)) d g.path

pub goes_distinct : (rules : Rules) (m m' : Moment) → AreDistinct m.machine → Goes rules m [] m' → AreDistinct m'.machine
goes_distinct rules m m' d g = seen_distinct rules m m' [] (All-nil IsToldLine) d g

-- HOW A PLACE COMES BACK

-- so that the request ends with this status
pub record Outcome (status : NtStatus) (sector : List ℕ) : Type 0 where
  pub class : Class
  pub mark : Mark
  pub leaves : (p : Piece) → p.places ≡ one_place p.places.first → LeavesMarks (with_fate (Acted (sector ∷ [])) p) class (mark ∷ [])
  pub suits : (sp : List Event) (o : OpenRequest) (k : ℕ) → Suits status sp o k mark
  pub touched : is_untouched mark ≡ false
  pub done : status ≡ Success → mark ≡ Done sector

-- a request succeeds, or fails with a completion of its own
abbrev pub IsBound : NtStatus → Type 0
IsBound status = (status ≡ Success) ⊎ FailsBy status

outcome : (status : NtStatus) (sector : List ℕ) → IsBound status → Outcome status sector
outcome status sector (inl success) = record {
  class = Good;
  mark = Done sector;
  leaves = λ p one. (sector ∷ [], refl, refl);
  suits = λ sp o k. success;
  touched = refl;
  done = λ e. refl;
}
outcome status sector (inr f) = record {
  class = Bad f.completion;
  mark = Failed (status_of_completion f.completion);
  leaves = λ p one. (f.is_bad, ap (λ (e : Extent). replicate e.count (Failed (status_of_completion f.completion))) (sym one));
  suits = λ sp o k. inl (f.is_status, f.fails);
  touched = refl;
  done = λ e. absurd (f.fails e);
}

-- EVENTS

not_newest : (n : ℕ) (sector : List ℕ) (past : List Event) (line : Line) → Contains (Effect n sector ∷ past) (Seen line) → Contains past (Seen line)
not_newest n sector past line (zero, low, is) = cc (is)
not_newest n sector past line (suc k, low, is) = (k, omega arith, is)

of_another : (n m : ℕ) (sector sector' : List ℕ) (past : List Event) → n ≢ m → Contains (Effect n sector ∷ past) (Effect m sector') → Contains past (Effect m sector')
of_another n m sector sector' past other (zero, low, is) = let same : n ≡ m = cc (is) in absurd (other same)
of_another n m sector sector' past other (suc k, low, is) = (k, omega arith, is)

-- what took effect once had that sector
of_itself : (n : ℕ) (sector sector' : List ℕ) (past : List Event) → All (IsNoEffect n) past → Contains (Effect n sector ∷ past) (Effect n sector') → sector ≡ sector'
of_itself n sector sector' past once (zero, low, is) = cc (is)
of_itself n sector sector' past once (suc k, low, is) = let none : n ≢ n = All-contains (IsNoEffect n) past (Effect n sector') once (k, omega arith, is) in absurd (none refl)

-- AN EFFECT

-- nothing refuses a request with a place of it in a sector
pub at_taken : (rules : Rules) (i : ℕ) (q : ClientRequest) (k : ℕ) → IsAt rules i q k → refused rules q ≡ None
at_taken rules i q k at =
    by_tests q.kind (is_none q.partition) (is_in_bounds rules q) (q.length == 0) at.transfer at.admitted.known (at.admitted.in_bounds at.transfer) (some_length rules.sector_size q.length k (low q.kind at.transfer at.inside))
  where
    low : (kind : Kind) → is_transfer kind ≡ true → k < (if is_transfer kind then q.length / rules.sector_size else 1) → k < q.length / rules.sector_size
    low Read t h = h
    low Write t h = h
    low Flush t h = absurd (cc (t))

    some_length : (size length' place : ℕ) → place < length' / size → (length' == 0) ≡ false
    some_length size length' place low = by (length' == 0) refl
      where
        is_zero : (length' == 0) ≡ true → length' ≡ 0
        is_zero e = grind (arith, nat_tests)

        by : (b : Bool) → (length' == 0) ≡ b → (length' == 0) ≡ false
        by false e = e
        by true e = let none : length' / size ≡ 0 = ap (λ m. m / size) (is_zero e) ∙ zero-div size in absurd (omega arith)

    by_tests : (kind : Kind) (unknown bounds empty : Bool) → is_transfer kind ≡ true → unknown ≡ false → bounds ≡ true → empty ≡ false
        → first_some (when unknown InvalidHandle ∷ when (is_transfer kind && not bounds) InvalidParameter ∷ when (is_transfer kind && empty) Success ∷ []) ≡ None
    by_tests kind unknown bounds empty t a b c = rw (t, a, b, c) refl

-- the machine went on with no line of the history, to where this is so of the sectors
pub record Advance (rules : Rules) (depth : ℕ) (asked : List (Option Asked)) (cells : Cells) (sp ss : List Event) (arrays : List (List (List ℕ))) (next piece : ℕ) (requests : List OpenRequest) (outs : List Piece) (table : Table) : Type 0 where
  pub piece' : ℕ
  pub requests' : List OpenRequest
  pub table' : Table
  pub goes : Goes (storing rules depth) (moment (standing arrays next piece requests outs) table) [] (moment (standing arrays next piece' requests' outs) table')
  pub ready : Ready rules asked cells sp ss arrays next piece' requests' outs table'

module _ (rules : Rules) (depth : ℕ) (room : IsAddressable rules) (asked : List (Option Asked)) (cells : Cells) (sp ss : List Event) (arrays : List (List (List ℕ))) (next piece : ℕ) (requests : List OpenRequest) (outs : List Piece) (table : Table)
    (ready : Ready rules asked cells sp ss arrays next piece requests outs table) (space : length outs < depth) (bound : (n : ℕ) → IsBound (ending n (labels_till ss)))
    (i n : ℕ) (sector : List ℕ) (events : List Event) (front : (cells i).rest ≡ Effect n sector ∷ events) where
  abbrev pub past : List Event
  past = (cells i).past

  pub course : IsOnCourse rules next outs sp ss (table i) i (cells i)
  course = ready.courses i

  pub follows : MayFollow rules i past (cells i).held (Effect n sector ∷ events)
  follows = subst (MayFollow rules i past (cells i).held) front course.follows

  abbrev effect : TakesEffect rules i past (cells i).held n sector follows.0
  effect = follows.1

  abbrev pub moved : Cell
  moved = record { past = Effect n sector ∷ past; held = follows.0; rest = events }

  abbrev pub after : Cells
  after = put cells i moved

  found : IsFound requests n effect.request
  found = find_open requests n effect.request (ready.opens n effect.request (subst (λ xs. Contains xs (Seen (Told (Call n effect.request)))) course.past_shared (shared_seen past (Told (Call n effect.request)) effect.is_open.called))
      (subst (All (IsNoAnswer n)) course.past_shared (all_shared (IsNoAnswer n) past effect.is_open.awaits)) (at_taken rules i effect.request effect.place effect.there))

  abbrev o : OpenRequest
  o = found.found

  abbrev k : ℕ
  k = effect.place

  abbrev status : NtStatus
  status = ending o.number (labels_till ss)

  mine : Track rules cells outs sp ss o
  mine = All-head (Track rules cells outs sp ss) o found.others (All-permutation (Track rules cells outs sp ss) _ _ found.is_open ready.tracked)

  at : IsAt rules i o.request k
  at = subst (λ q. IsAt rules i q k) (sym found.is_request) effect.there

  carries : Carries rules (cells i).held o.request k o.request.kind sector
  carries = subst (λ q. Carries rules (cells i).held q k q.kind sector) (sym found.is_request) effect.carries

  idle : IsIdle rules i past o.number o.request k
  idle = subst (λ m. IsIdle rules i past m o.request k) (sym found.is_number) (subst (λ q. IsIdle rules i past n q k) (sym found.is_request) effect.idle)

  once : All (IsNoEffect n) past
  once = effect.idle.effect effect.there

  held_after : follows.0 ≡ acted rules next n o.request k i (cells i).held
  held_after = effect.after ∙ ap (λ m. acted rules m n effect.request k i (cells i).held) course.number ∙ ap (λ q. acted rules next n q k i (cells i).held) (sym found.is_request)

  differ : All (λ x. x.number ≢ n) found.others
  differ = subst (λ m. All (λ x. x.number ≢ m) found.others) found.is_number (distinct_first request_number requests o found.others ready.distinct.requests found.is_open)

  inside : k < length o.marks
  inside = rw mine.places at.inside

  place : IsAtPlace rules i past status o k
  place = mine.at_places i k at

  -- OTHERS

  other_tracked : (x : OpenRequest) → x.number ≢ n → Track rules cells outs sp ss x → Track rules after outs sp ss x
  other_tracked x other t = record {
    waits = t.waits;
    started = t.started;
    taken = t.taken;
    carries = t.carries;
    places = t.places;
    suits = t.suits;
    at_places = put_by (λ j cell. (v : ℕ) → IsAt rules j x.request v → IsAtPlace rules j cell.past (ending x.number (labels_till ss)) x v) cells i moved
        (λ v there. let old : IsAtPlace rules i past (ending x.number (labels_till ss)) x v = t.at_places i v there in record {
          fresh = λ d. old.fresh (record { effect = λ a. All-tail (IsNoEffect x.number) (Effect n sector) past (d.effect a); failure = All-tail (IsNoFailure x.number v) (Effect n sector) past d.failure });
          done = λ e sector' has size. old.done e sector' (of_another n x.number sector sector' past (λ same. other (sym same)) has) size;
        })
        (λ j differ v there. t.at_places j v there);
    named = t.named;
    flushes = t.flushes;
    waiting = t.waiting;
  }

  others_tracked : All (Track rules after outs sp ss) found.others
  others_tracked j d low =
      other_tracked (get_or found.others j d) (differ j d low) (All-tail (Track rules cells outs sp ss) o found.others (All-permutation (Track rules cells outs sp ss) _ _ found.is_open ready.tracked) j d low)

  -- where the requests and the table are as they should be behind it
  ready_after : (piece' : ℕ) (requests' : List OpenRequest) (table' : Table) → AreDistinct (standing arrays next piece' requests' outs) → All (Track rules after outs sp ss) requests'
      → ((m : ℕ) (q : ClientRequest) → IsOpenHere requests m q → IsOpenHere requests' m q) → Has outs (table' i) follows.0 → ((j : ℕ) → j ≢ i → table' j ≡ table j)
      → Ready rules asked after sp ss arrays next piece' requests' outs table'
  ready_after piece' requests' table' distinct tracked stays has beside = record {
    count = ready.count;
    distinct = distinct;
    tracked = tracked;
    courses = put_by (λ j cell. IsOnCourse rules next outs sp ss (table' j) j cell) cells i moved
        (record {
          follows = follows.2;
          rest_shared = sym (ap shared_of front) ∙ course.rest_shared;
          past_shared = course.past_shared;
          given = All-cons (IsBelow next) (Effect n sector) past (All-contains (IsBelow next) past _ course.given effect.is_open.called) course.given;
          number = course.number;
          dated = subst (λ m. AllOlder (λ x. x.behind ≤ m) follows.0.older) course.number
              (dated_then rules i past (cells i).held (Effect n sector) follows.0 (subst (λ m. AllOlder (λ x. x.behind ≤ m) (cells i).held.older) (sym course.number) course.dated) effect);
          has = has;
        })
        (λ j other. let c : IsOnCourse rules next outs sp ss (table j) j (cells j) = ready.courses j in record {
          follows = c.follows;
          rest_shared = c.rest_shared;
          past_shared = c.past_shared;
          given = c.given;
          number = c.number;
          dated = c.dated;
          has = subst (λ t. Has outs t (cells j).held) (sym (beside j other)) c.has;
        });
    opens = λ m q called awaits taken. stays m q (ready.opens m q called awaits taken);
    awaited = λ m a there. let w = ready.awaited m a there in (w.0, stays m w.0 w.1, w.2);
    owners = ready.owners;
  }

  -- THE REQUEST ITSELF

  -- with that place back
  own_tracked : (out : Outcome status sector) → Track rules after outs sp ss (remarked k out.class out.mark o)
  own_tracked out = record {
    waits = mine.waits;
    started = started_at o' k (rw (remarked_length k out.class out.mark o inside) inside) (ap is_untouched there ∙ out.touched);
    taken = mine.taken;
    carries = mine.carries;
    places = remarked_length k out.class out.mark o inside ∙ mine.places;
    suits = λ j low. suits j (rw (remarked_length k out.class out.mark o inside) at low);
    at_places = put_by (λ j cell. (v : ℕ) → IsAt rules j o.request v → IsAtPlace rules j cell.past status o' v) cells i moved
        (λ v at'. record {
          fresh = λ d. let other : n ≢ o.number = All-head (IsNoEffect o.number) (Effect n sector) past (d.effect at') in absurd (other (sym found.is_number));
          done = λ e sector' has size. ap (λ m. mark_at o' m) (one_hit rules i o.request v k at'.sector at.sector) ∙ there ∙ out.done e
              ∙ ap Done (of_itself n sector sector' past once (subst (λ m. Contains (Effect n sector ∷ past) (Effect m sector')) found.is_number has));
        })
        (λ j other v at'. let apart : v ≢ k = λ same. other (sym at'.sector ∙ ap (λ m. sector_of rules o.request m) same ∙ at.sector) in
        let old : IsAtPlace rules j (cells j).past status o v = mine.at_places j v at' in
        let e : mark_at o' v ≡ mark_at o v = remarked_elsewhere k out.class out.mark o inside v apart in
        record { fresh = λ d. subst IsUnsent (sym e) (old.fresh d); done = λ success sector' has size. e ∙ old.done success sector' has size });
    named = mine.named;
    flushes = λ flush none. no_flush flush;
    waiting = λ flush out. no_flush flush;
  }
    where
      o' : OpenRequest
      o' = remarked k out.class out.mark o

      there : mark_at o' k ≡ out.mark
      there = remarked_there k out.class out.mark o inside

      no_flush : {P : Type 0} → o.request.kind ≡ Flush → P
      no_flush flush = let t : is_transfer o.request.kind ≡ true = at.transfer in absurd (cc (ap is_transfer flush, t))

      suits : (j : ℕ) → j < length o.marks → Suits status sp o' j (mark_at o' j)
      suits j low = elim (cases_eq j k) [
        | inl same ↦ subst (Suits status sp o' j) (sym (ap (λ m. mark_at o' m) same ∙ there)) (out.suits sp o' j)
        | inr apart ↦ subst (Suits status sp o' j) (sym (remarked_elsewhere k out.class out.mark o inside j apart)) (as_before j (mark_at o j) (mine.suits j low))
      ]
        where
          as_before : (j : ℕ) (mark : Mark) → Suits status sp o j mark → Suits status sp o' j mark
          as_before j Untouched h = h
          as_before j Back h = h
          as_before j (Done x) h = h
          as_before j (Failed x) h = h
          as_before j Out h = h

  in_turn : All (IsInTurn o) requests
  in_turn = All-weaker (Track rules cells outs sp ss) (IsInTurn o) (λ x t lower waits. t.started) requests ready.tracked

  some : 0 < place_count rules o.request
  some = (admitted rules o.request mine.taken).some

  executed : Outcome status sector → Transfers (storing rules depth) (standing arrays next piece requests outs) o.request (one_place k) o.request.kind (sector ∷ []) arrays
      → HandsOver rules.sector_size table (work_of (storing rules depth) o.request (one_place k)).extent o.request.kind (concat (sector ∷ []))
      → ((tag : ℕ) (free : IsLowestFreeTag depth outs tag) (b : BlockOf (command_for (storing rules depth) o.request (one_place k) o.request.kind))
      → Has outs (acted_table rules depth arrays next piece requests found.others outs table o k tag found.is_open in_turn mine.waits inside (place.fresh idle) free b i) follows.0)
      → ((j : ℕ) → j ≢ i → changed_by (piece + 1) (act_changes rules.sector_size piece (work_of (storing rules depth) o.request (one_place k)) j) (table j) ≡ table j)
      → Advance rules depth asked after sp ss arrays next piece requests outs table
  executed out moves hands has beside =
      let free : (tag : ℕ) × IsLowestFreeTag depth outs tag = lowest_free depth outs space in
      let b : BlockOf (command_for (storing rules depth) o.request (one_place k) o.request.kind) = block_at rules o.request k room mine.taken at.inside in
      let table' : Table = acted_table rules depth arrays next piece requests found.others outs table o k free.0 found.is_open in_turn mine.waits inside (place.fresh idle) free.1 b in
      let goes : Goes (storing rules depth) (moment (standing arrays next piece requests outs) table) [] (moment (standing arrays next (piece + 1) (remarked k out.class out.mark o ∷ found.others) outs) table') =
      carries_out rules depth arrays next piece requests found.others outs table o k free.0 found.is_open in_turn mine.waits inside (place.fresh idle) free.1 b sector out.class out.mark moves hands
      (out.leaves (new_piece (standing arrays next piece requests outs) free.0 o (one_place k)) refl) in
      record {
        piece' = piece + 1;
        requests' = remarked k out.class out.mark o ∷ found.others;
        table' = table';
        goes = goes;
        ready = ready_after (piece + 1) (remarked k out.class out.mark o ∷ found.others) table'
            (goes_distinct (storing rules depth) (moment (standing arrays next piece requests outs) table) (moment (standing arrays next (piece + 1) (remarked k out.class out.mark o ∷ found.others) outs) table') ready.distinct goes)
            (All-cons (Track rules after outs sp ss) (remarked k out.class out.mark o) found.others (own_tracked out) others_tracked)
            (still_open requests found.others o (remarked k out.class out.mark o) found.is_open refl refl) (has free.0 free.1 b) beside;
      }

  -- a read that won't succeed is left out
  left_out : o.request.kind ≡ Read → (status ≡ Success → length sector ≢ rules.sector_size) → Advance rules depth asked after sp ss arrays next piece requests outs table
  left_out read useless = record {
    piece' = piece;
    requests' = requests;
    table' = table;
    goes = goes_nowhere (storing rules depth) (moment (standing arrays next piece requests outs) table);
    ready = ready_after piece requests table ready.distinct
        (All-permutation (Track rules after outs sp ss) _ _ (IsPermutation-sym _ _ found.is_open) (All-cons (Track rules after outs sp ss) o found.others same others_tracked))
        (λ m q h. h) (subst (Has outs (table i)) (sym (read_held read)) course.has) (λ j other. refl);
  }
    where
      read_held : o.request.kind ≡ Read → follows.0 ≡ (cells i).held
      read_held read = held_after ∙ ap (λ changes. changed_by next changes (cells i).held) (read_act rules i o.request (one_place k) n read)

      same : Track rules after outs sp ss o
      same = record {
        waits = mine.waits;
        started = mine.started;
        taken = mine.taken;
        carries = mine.carries;
        places = mine.places;
        suits = mine.suits;
        at_places = put_by (λ j cell. (v : ℕ) → IsAt rules j o.request v → IsAtPlace rules j cell.past status o v) cells i moved
            (λ v at'. record {
              fresh = λ d. let other : n ≢ o.number = All-head (IsNoEffect o.number) (Effect n sector) past (d.effect at') in absurd (other (sym found.is_number));
              done = λ e sector' has size.
                  let is : sector ≡ sector' = of_itself n sector sector' past once (subst (λ m. Contains (Effect n sector ∷ past) (Effect m sector')) found.is_number has) in
                  absurd (useless e (ap length is ∙ size read));
            })
            (λ j other v at'. mine.at_places j v at');
        named = mine.named;
        flushes = mine.flushes;
        waiting = mine.waiting;
      }

  -- WHAT IT DOES

  read_done : o.request.kind ≡ Read → length sector ≡ rules.sector_size → Advance rules depth asked after sp ss arrays next piece requests outs table
  read_done read size =
      executed (outcome status sector (bound o.number))
      (subst (λ kind. Transfers (storing rules depth) (standing arrays next piece requests outs) o.request (one_place k) kind (sector ∷ []) arrays) (sym read)
      (λ faithful. absurd (cc (faithful)), All-cons (IsSector rules.sector_size) sector [] size (All-nil (IsSector rules.sector_size)), refl))
      (subst (λ kind. HandsOver rules.sector_size table (work_of (storing rules depth) o.request (one_place k)).extent kind (concat (sector ∷ []))) (sym read) hands)
      (λ tag free b. subst (λ t. Has outs t follows.0) (sym (table_same i)) (subst (Has outs (table i)) (sym held) course.has))
      (λ j other. table_same j)
    where
      table_same : (j : ℕ) → changed_by (piece + 1) (act_changes rules.sector_size piece (work_of (storing rules depth) o.request (one_place k)) j) (table j) ≡ table j
      table_same j = ap (λ changes. changed_by (piece + 1) changes (table j)) (read_act (storing rules depth) j o.request (one_place k) piece read)

      held : follows.0 ≡ (cells i).held
      held = held_after ∙ ap (λ changes. changed_by next changes (cells i).held) (read_act rules i o.request (one_place k) n read)

      given : IsOneOf sector (table i).now
      given = course.has.now sector (subst (λ kind. Carries rules (cells i).held o.request k kind sector) read carries)

      whole : (size' : ℕ) (xs : List ℕ) → length xs ≡ size' → sector_in size' 0 (concat (xs ∷ [])) ≡ xs
      whole size' xs e = let none : 0 * size' ≡ 0 = omega arith in ap (λ m. take size' (drop m (xs ++ []))) none ∙ ap (λ ys. take size' ys) (append-nil xs) ∙ take_all size' xs (omega arith)

      hands : HandsOver rules.sector_size table (work_of (storing rules depth) o.request (one_place k)).extent Read (concat (sector ∷ []))
      hands j low =
          let first : j ≡ 0 = omega arith in
          let there : (work_of (storing rules depth) o.request (one_place k)).extent.first + 0 ≡ i = let e : sector_of rules o.request k ≡ i = at.sector in omega arith in
          subst (λ m. IsOneOf (sector_in rules.sector_size m (concat (sector ∷ []))) (table ((work_of (storing rules depth) o.request (one_place k)).extent.first + m)).now) (sym first)
          (subst (λ m. IsOneOf (sector_in rules.sector_size 0 (concat (sector ∷ []))) (table m).now) (sym there) (subst (λ x. IsOneOf x (table i).now) (sym (whole rules.sector_size sector size)) given))

  write_done : o.request.kind ≡ Write → Advance rules depth asked after sp ss arrays next piece requests outs table
  write_done write =
      executed (outcome status sector (bound o.number))
      (subst (λ kind. Transfers (storing rules depth) (standing arrays next piece requests outs) o.request (one_place k) kind (sector ∷ []) arrays) (sym write)
      (append-nil sector ∙ own ∙ sym (bytes_are rules o.request k), All-cons (IsSector rules.sector_size) sector [] (ap length (own ∙ sym (bytes_are rules o.request k)) ∙ part) (All-nil (IsSector rules.sector_size)), refl))
      (subst (λ kind. HandsOver rules.sector_size table (work_of (storing rules depth) o.request (one_place k)).extent kind (concat (sector ∷ []))) (sym write) tt)
      (λ tag free b. here) beside
    where
      own : sector ≡ value_for rules o.request k
      own = subst (λ kind. Carries rules (cells i).held o.request k kind sector) write carries

      part : length (bytes_for rules o.request k) ≡ rules.sector_size
      part =
          let whole : place_count rules o.request * rules.sector_size ≡ o.request.length = (admitted rules o.request mine.taken).whole (ap is_transfer write) in
          let long : length o.request.bytes ≡ o.request.length = mine.carries ∙ ap (λ kind. bytes_carried kind o.request.length) write in
          part_length o.request.bytes k (place_count rules o.request) rules.sector_size at.inside (long ∙ sym whole)

      hits : Hits rules i o.request (one_place k) k
      hits = elim (hits_or_misses rules i o.request (one_place k)) [
        | inl found ↦ subst (λ j. Hits rules i o.request (one_place k) j) (one_hit rules i o.request found.0 k found.1.hit.2 at.sector) found.1
        | inr misses ↦ absurd (misses.none k (omega arith, omega arith, at.sector))
      ]

      hits_stored : Hits (storing rules depth) i o.request (one_place k) k
      hits_stored = record { hit = hits.hit; there = hits.there; value = hits.value }

      held : follows.0 ≡ changed_by next (put_list o.request (value_for rules o.request k)) (cells i).held
      held = held_after ∙ ap (λ changes. changed_by next changes (cells i).held) (hit_act rules i o.request (one_place k) k n write hits)

      sent_before : All (λ p. p.number < piece + 1) outs
      sent_before = All-weaker (IsSent piece) (λ p. p.number < piece + 1) (λ p low. omega arith) outs ready.distinct.sent

      here : Has outs (changed_by (piece + 1) (act_changes rules.sector_size piece (work_of (storing rules depth) o.request (one_place k)) i) (table i)) follows.0
      here =
          subst (Has outs (changed_by (piece + 1) (act_changes rules.sector_size piece (work_of (storing rules depth) o.request (one_place k)) i) (table i))) (sym held)
          (subst (λ changes. Has outs (changed_by (piece + 1) changes (table i)) (changed_by next (put_list o.request (value_for rules o.request k)) (cells i).held))
          (sym (hit_act (storing rules depth) i o.request (one_place k) k piece write hits_stored))
          (has_written outs (piece + 1) next sent_before (value_for rules o.request k) (table i) (cells i).held o.request.through course.has))

      beside : (j : ℕ) → j ≢ i → changed_by (piece + 1) (act_changes rules.sector_size piece (work_of (storing rules depth) o.request (one_place k)) j) (table j) ≡ table j
      beside j other = elim (hits_or_misses (storing rules depth) j o.request (one_place k)) [
        | inl found ↦ absurd (other (sym found.1.hit.2 ∙ ap (λ m. sector_of rules o.request m) (only found.0 found.1.hit.0 found.1.hit.1) ∙ at.sector))
        | inr misses ↦ ap (λ changes. changed_by (piece + 1) changes (table j)) (missed_act (storing rules depth) j o.request (one_place k) piece write misses)
      ]
        where
          only : (v : ℕ) → k ≤ v → v < k + 1 → v ≡ k
          only v a b = omega arith

  pub advance : Advance rules depth asked after sp ss arrays next piece requests outs table
  advance = by_kind o.request.kind refl
    where
      read : o.request.kind ≡ Read → IsBound status → Advance rules depth asked after sp ss arrays next piece requests outs table
      read e (inl success) = elim (cases_eq (length sector) rules.sector_size) [
        | inl size ↦ read_done e size
        | inr wrong ↦ left_out e (λ is. wrong)
      ]
      read e (inr f) = left_out e (λ success. absurd (f.fails success))

      by_kind : (kind : Kind) → o.request.kind ≡ kind → Advance rules depth asked after sp ss arrays next piece requests outs table
      by_kind Read e = read e (bound o.number)
      by_kind Write e = write_done e
      by_kind Flush e = let t : is_transfer o.request.kind ≡ true = at.transfer in absurd (cc (ap is_transfer e, t))
