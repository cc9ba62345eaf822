-- The laws of requests that are served one at a time.
use Rattle.std.proofs.Common.{◌≡◌, ◌<◌, ◌≤◌, inl, inr, ℕ, ◌+◌, ◌-◌, true, false, List, ◌∷◌, ◌++◌, refl, sym, ap, subst, ◌∙◌, arith, length, append_assoc, map}
use Rattle.std.specs.Prelude.{All}
use Rattle.ntstatus.specs.declared.NtStatus.TheVariants.{Success}
use Rattle.srb.specs.declared.Kind.{Kind}
use Rattle.srb.specs.declared.Kind.TheVariants.{Write, Flush}
use Rattle.machine.specs.declared.ClientRequest.{ClientRequest}
use Rattle.machine.specs.declared.Label.{Label}
use Rattle.machine.specs.declared.Label.TheVariants.{Answer}
use Rattle.machine.specs.Calling.{bytes_carried}
use Rattle.machine.specs.Rules.{Rules, first_sector, home, place_count}
use Rattle.machine.specs.State.{State, opening}
use Rattle.machine_laws.specs.Reached.{AreWhole}
use Rattle.machine_laws.proofs.Chunks.{range_chunk}
use Rattle.file_disk.specs.Calls.{Call}
use Rattle.loss.specs.Held.{sector_in, surely, value_of}
use Rattle.loss.specs.Moved.{Table, TableRun, held_on, work_of}
use Rattle.loss.specs.Laws.{Brings, BringsSurely, CertainStays, Changes, Is, LeavesOnly, Throughout, sector_of, value_for, GivesOnly, SuccessIsRead}
use Rattle.loss.specs.Sessions.{Moment}
use Rattle.file_sessions.specs.Stored.{Content, Survives, Remains, held}
use Rattle.file_sessions.specs.Sessions.{IsSession}
use Rattle.file_sessions.specs.Laws.{CertainSurvives, SuccessSurvives, ThroughSurvives, RemainsAreLeft}
use Rattle.file_sessions.specs.OneByOne.{FlushedSurvives, IsAway, IsFlushed, IsOfOne, IsRound, IsWritten, Round, SecuredSurvives, Stands, SyncsWell, UntouchedSurvives, labels_of, labels_of_all, AnsweredRemains, IsPlain, RemainsSurvive}
use Rattle.file_sessions.proofs.Alike.{table_append}
use Rattle.file_sessions.proofs.Kept.{Base, Brought, Found, all_brought, all_sure, base_of, calm_all, calm_on, found, never_in, BroughtSurely, all_plain}
use Rattle.file_sessions.proofs.Remaining.{gives_along, move_gives, remains_such}
use Rattle.file_sessions.proofs.Rounds.{Fits, IsCalm, Split, as_run, calm_opening, nothing_along, split, throughout}
use Rattle.file_sessions.proofs.Within.{there_or_away, in_first}

-- A REQUEST'S OWN VALUE

own_fits : (rules : Rules) (q : ClientRequest) (place : ℕ) → Fits rules q (sector_of rules q place) (Is (value_for rules q place))
own_fits rules q place places inside is_write there =
    let b : Base rules q.partition = base_of rules q.partition in
    let lba : ℕ = home rules q.partition (first_sector rules q + places.first) in
    let from : lba ≡ b.0 + (first_sector rules q + places.first) = b.1 (first_sector rules q + places.first) in
    let at : sector_of rules q place ≡ b.0 + (first_sector rules q + place) = b.1 (first_sector rules q + place) in
    elim (there_or_away lba places.count (sector_of rules q place)) [
      | inl h ↦
          let low : lba ≤ sector_of rules q place = h.1 in
          let high : sector_of rules q place < lba + places.count = h.2 in
          let off : sector_of rules q place - lba ≡ place - places.first = apart lba (sector_of rules q place) b.0 (first_sector rules q) places.first from at low in
          ap (λ (k : ℕ). sector_in rules.sector_size k (work_of rules q places).bytes) off
          ∙ range_chunk rules.sector_size places.first places.count (place - places.first) q.bytes (below lba (sector_of rules q place) b.0 (first_sector rules q) places.first places.count from at low high)
          ∙ ap (λ (k : ℕ). sector_in rules.sector_size k q.bytes) (back lba (sector_of rules q place) b.0 (first_sector rules q) places.first from at low)
      | inr h ↦ absurd (let no : true ≡ false = sym there ∙ h.0 in cc (no))
    ]
  where
    apart : (lba i base first start : ℕ) → lba ≡ base + (first + start) → i ≡ base + (first + place) → lba ≤ i → i - lba ≡ place - start
    apart lba i base first start e f low = omega arith

    below : (lba i base first start count : ℕ) → lba ≡ base + (first + start) → i ≡ base + (first + place) → lba ≤ i → i < lba + count → place - start < count
    below lba i base first start count e f low high = omega arith

    back : (lba i base first start : ℕ) → lba ≡ base + (first + start) → i ≡ base + (first + place) → lba ≤ i → start + (place - start) ≡ place
    back lba i base first start e f low = omega arith

-- a flush has none
flush_fits : (rules : Rules) (q : ClientRequest) (i : ℕ) (Such : List ℕ → Type 0) → q.kind ≡ Flush → Fits rules q i Such
flush_fits rules q i Such flush places inside is_write there = absurd (let no : Flush ≡ Write = sym flush ∙ is_write in cc (no))

one_place : (rules : Rules) (q : ClientRequest) (kind : Kind) → q.kind ≡ Flush → 0 < place_count rules q
one_place rules q kind flush = subst (λ (n : ℕ). 0 < n) (sym (counted flush)) (omega arith)
  where
    counted : q.kind ≡ Flush → place_count rules q ≡ 1
    counted e = rw e refl

-- BEHIND AN ANSWER

module _ (rules : Rules) (i : ℕ) (Such : List ℕ → Type 0) (after : State) (u : Table) (post : List Label) (k : IsCalm rules after) (of : All IsOfOne post) where
  -- up to a moment of the requests behind
  behind : (later : List Round) (told rest : List Label) (s' : State) (t' : Table) → All IsRound later → All (IsAway rules i) later → labels_of_all later ≡ told ++ rest → (run : TableRun rules after u (post ++ told) s' t')
      → Brought rules i Such after u (post ++ told) s' t' run
  behind later told rest s' t' rounds away is run =
      let p = split rules after u post told s' t' run in
      let b : Brought rules i Such p.mid p.between told s' t' p.rest =
      all_brought rules i Such p.mid p.between later told rest s' t' (calm_on rules after post p.mid k of (as_run rules after u post p.mid p.between p.first)) rounds away is p.rest in
      record {
        along = throughout (Changes rules i (Brings Such)) rules after u post told s' t' run (nothing_along rules i (Brings Such) after u post p.mid p.between p.first of (never_in rules after k)) b.along;
        at_work = b.at_work;
      }

  -- over requests between
  over : (between : List Round) (s' : State) (t' : Table) → All IsRound between → All (IsAway rules i) between → All SyncsWell between → (run : TableRun rules after u (post ++ labels_of_all between) s' t')
      → Throughout (Changes rules i (BringsSurely Such)) rules after u (post ++ labels_of_all between) s' t' run
  over between s' t' rounds away well run =
      let p = split rules after u post (labels_of_all between) s' t' run in
      throughout (Changes rules i (BringsSurely Such)) rules after u post (labels_of_all between) s' t' run (nothing_along rules i (BringsSurely Such) after u post p.mid p.between p.first of (never_in rules after k))
      (all_sure rules i Such p.mid p.between between s' t' (calm_on rules after post p.mid k of (as_run rules after u post p.mid p.between p.first)) rounds away well p.rest)

  over_calm : (between : List Round) (s' : State) (t' : Table) → All IsRound between → TableRun rules after u (post ++ labels_of_all between) s' t' → IsCalm rules s'
  over_calm between s' t' rounds run =
      let p = split rules after u post (labels_of_all between) s' t' run in
      calm_all rules p.mid p.between between s' t' (calm_on rules after post p.mid k of (as_run rules after u post p.mid p.between p.first)) rounds p.rest

-- THE LAWS

module _ (rules : Rules) (arrays : List (List (List ℕ))) (before : Content) (first : List Round) (w : Round) (place : ℕ) (whole : AreWhole rules arrays) (rounds : All IsRound first) (round : IsRound w) (written : IsWritten rules w place) where
  abbrev i : ℕ
  i = sector_of rules w.request place

  abbrev Own : List ℕ → Type 0
  Own = Is (value_for rules w.request place)

  -- the write, and the run behind its answer
  write_of : (more : List Label) (s' : State) (t' : Table) (p : Split rules (opening arrays) (held_on before) (labels_of_all first) (labels_of w ++ more) s' t') → Found rules p.mid p.between w more s' t'
  write_of more s' t' p =
      found rules p.mid p.between w more s' t' (calm_all rules (opening arrays) (held_on before) first p.mid p.between (calm_opening rules arrays whole) rounds p.first)
      (record { arrays = arrays; disk = before; labels = labels_of_all first; whole = whole; run = p.first }) round written.succeeds place written.inside p.rest

  module _ (calls : List Call) (end : Moment) (after : Content) (later : List Round) (told rest : List Label) (laters : All IsRound later) (is : labels_of_all later ≡ told ++ rest) (away_later : All (IsAway rules i) later)
      (survives : Survives rules.sector_size rules.disk_sectors before calls after) where
    stands : length w.request.bytes ≡ bytes_carried w.request.kind w.request.length → after i ≡ value_for rules w.request place → Stands rules w place after
    stands carries holds = record { bytes = holds; all = carries ∙ ap (λ (kind : Kind). bytes_carried kind w.request.length) written.is_write }

    secured : ThroughSurvives → w.request.through ≡ true → (session : IsSession rules arrays before calls (labels_of_all first ++ (labels_of w ++ told)) end) → Stands rules w place after
    secured law through session = by_parts (split rules (opening arrays) (held_on before) (labels_of_all first) (labels_of w ++ told) end.machine end.table session.run)
      where
        by_parts : Split rules (opening arrays) (held_on before) (labels_of_all first) (labels_of w ++ told) end.machine end.table → Stands rules w place after
        by_parts p = by_write (write_of told end.machine end.table p)
          where
            by_write : Found rules p.mid p.between w told end.machine end.table → Stands rules w place after
            by_write f =
                let b : Brought rules i Own f.onward.0 f.onward.1 (f.post ++ told) end.machine end.table f.onward.4 = behind rules i Own f.onward.0 f.onward.1 f.post f.calm f.of_post later told rest end.machine end.table laters away_later is f.onward.4 in
                stands f.succeeds.opens.carries (law rules w.number w.request place p.mid p.between f.ended f.at f.succeeds (Answer w.number Success w.informed w.bytes ∷ (f.post ++ told)) end f.onward arrays before calls (labels_of_all first ++ (labels_of w ++ told)) after
                written.is_write through written.inside (f.brings i Own (own_fits rules w.request place)) (tt, b.along) b.at_work session written.on_disk survives)

    module _ (law : SuccessSurvives) (between : List Round) (f : Round) (betweens : All IsRound between) (flush : IsRound f) (flushed : IsFlushed f) (away : All (IsAway rules i) between) (well : All SyncsWell between)
        (session : IsSession rules arrays before calls (labels_of_all first ++ (labels_of w ++ (labels_of_all between ++ (labels_of f ++ told)))) end) where
      abbrev Done : Type 0
      Done = Stands rules w place after

      module _ (p : Split rules (opening arrays) (held_on before) (labels_of_all first) (labels_of w ++ (labels_of_all between ++ (labels_of f ++ told))) end.machine end.table)
          (h : Found rules p.mid p.between w (labels_of_all between ++ (labels_of f ++ told)) end.machine end.table) where
        abbrev Mid : Type 0
        Mid = Split rules h.onward.0 h.onward.1 (h.post ++ labels_of_all between) (labels_of f ++ told) end.machine end.table

        by_flush : (r : Mid) → Found rules r.mid r.between f told end.machine end.table → Done
        by_flush r g =
            let b : Brought rules i Own g.onward.0 g.onward.1 (g.post ++ told) end.machine end.table g.onward.4 = behind rules i Own g.onward.0 g.onward.1 g.post g.calm g.of_post later told rest end.machine end.table laters away_later is g.onward.4 in
            stands h.succeeds.opens.carries (law rules w.number w.request place p.mid p.between h.ended h.at h.succeeds (Answer w.number Success w.informed w.bytes ∷ (h.post ++ labels_of_all between)) r.mid r.between
            (h.onward.0, h.onward.1, h.onward.2, h.onward.3, r.first) f.number f.request g.ended g.at g.succeeds (Answer f.number Success f.informed f.bytes ∷ (g.post ++ told)) end g.onward arrays before calls
            (labels_of_all first ++ (labels_of w ++ (labels_of_all between ++ (labels_of f ++ told)))) after written.is_write written.inside flushed.is_flush (h.surely i Own (own_fits rules w.request place))
            (tt, over rules i Own h.onward.0 h.onward.1 h.post h.calm h.of_post between r.mid r.between betweens away well r.first) (g.surely i Own (flush_fits rules f.request i Own flushed.is_flush)) (tt, b.along) b.at_work session
            written.on_disk survives)

        by_mid : Mid → Done
        by_mid r =
            by_flush r (found rules r.mid r.between f told end.machine end.table (over_calm rules i Own h.onward.0 h.onward.1 h.post h.calm h.of_post between r.mid r.between betweens r.first)
            (record {
              arrays = h.reached.arrays;
              disk = h.reached.disk;
              labels = h.reached.labels ++ (Answer w.number Success w.informed w.bytes ∷ (h.post ++ labels_of_all between));
              whole = h.reached.whole;
              run =
                  table_append rules (opening h.reached.arrays) (held_on h.reached.disk) h.reached.labels h.ended h.at (Answer w.number Success w.informed w.bytes ∷ (h.post ++ labels_of_all between)) r.mid r.between h.reached.run
                  (h.onward.0, h.onward.1, h.onward.2, h.onward.3, r.first);
            }) flush flushed.succeeds 0 (one_place rules f.request f.request.kind flushed.is_flush) r.rest)

        by_write : Done
        by_write =
            by_mid (split rules h.onward.0 h.onward.1 (h.post ++ labels_of_all between) (labels_of f ++ told) end.machine end.table
            (subst (λ (ls : List Label). TableRun rules h.onward.0 h.onward.1 ls end.machine end.table) (sym (append_assoc h.post (labels_of_all between) (labels_of f ++ told))) h.onward.4))

      flushed_so : Done
      flushed_so = by_parts (split rules (opening arrays) (held_on before) (labels_of_all first) (labels_of w ++ (labels_of_all between ++ (labels_of f ++ told))) end.machine end.table session.run)
        where
          by_parts : Split rules (opening arrays) (held_on before) (labels_of_all first) (labels_of w ++ (labels_of_all between ++ (labels_of f ++ told))) end.machine end.table → Done
          by_parts p = by_write p (write_of (labels_of_all between ++ (labels_of f ++ told)) end.machine end.table p)

pub secured_survives : ThroughSurvives → SecuredSurvives
secured_survives law rules arrays before after calls end first w later told rest place session whole rounds round laters is written through away survives =
    secured rules arrays before first w place whole rounds round written calls end after later told rest laters is away survives law through session

pub flushed_survives : SuccessSurvives → FlushedSurvives
flushed_survives law rules arrays before after calls end first w between f later told rest place session whole rounds round betweens flush laters is written flushed away well away_later survives =
    flushed_so rules arrays before first w place whole rounds round written calls end after later told rest laters is away_later survives law between f betweens flush flushed away well session

-- what stood there first is certain
first_leaves : (value : List ℕ) → LeavesOnly (Is value) (surely value)
first_leaves value other (inl same) = same
first_leaves value other (inr never) = absurd never

pub untouched_survives : CertainStays → CertainSurvives → UntouchedSurvives
untouched_survives stays law rules arrays before after calls end served told rest i session whole rounds is away on_disk survives =
    let b : Brought rules i (Is (before i)) (opening arrays) (held_on before) told end.machine end.table session.run =
    all_brought rules i (Is (before i)) (opening arrays) (held_on before) served told rest end.machine end.table (calm_opening rules arrays whole) rounds away is session.run in
    law rules arrays before calls told end i (before i) after session on_disk
    (stays rules i (before i) (opening arrays) (held_on before) told end.machine end.table session.run (first_leaves (before i)) b.along) b.at_work survives

-- WHERE THE PROCESS ENDED

pub remains_survive : RemainsSurvive
remains_survive size sectors before after calls remains i low = in_first (after i) (held size i (before i) calls).now (map value_of (held size i (before i) calls).older) (remains i low)

module _ (rules : Rules) (arrays : List (List (List ℕ))) (before : Content) (first : List Round) (w : Round) (place : ℕ) (whole : AreWhole rules arrays) (rounds : All IsRound first) (round : IsRound w) (written : IsWritten rules w place) (calls : List Call) (end : Moment) (after : Content)
    (behind later : List Round) (told rest : List Label) (behinds : All IsRound behind) (laters : All IsRound later) (is : labels_of_all later ≡ told ++ rest) (away : All (IsAway rules (sector_of rules w.request place)) behind) (well : All SyncsWell behind)
    (away_later : All (IsAway rules (sector_of rules w.request place)) later) (plain : All IsPlain later) (remains : Remains rules.sector_size rules.disk_sectors before calls after)
    (session : IsSession rules arrays before calls (labels_of_all first ++ (labels_of w ++ (labels_of_all behind ++ told))) end) (reads : SuccessIsRead) (law : RemainsAreLeft) where
  abbrev at : ℕ
  at = sector_of rules w.request place

  abbrev Its : List ℕ → Type 0
  Its = Is (value_for rules w.request place)

  abbrev Front : Type 0
  Front = Split rules (opening arrays) (held_on before) (labels_of_all first) (labels_of w ++ (labels_of_all behind ++ told)) end.machine end.table

  -- over those that were answered, and up to a moment of the others
  module _ (p : Front) (f : Found rules p.mid p.between w (labels_of_all behind ++ told) end.machine end.table)
      (run : TableRun rules f.onward.0 f.onward.1 ((f.post ++ labels_of_all behind) ++ told) end.machine end.table) where
    abbrev part : Split rules f.onward.0 f.onward.1 (f.post ++ labels_of_all behind) told end.machine end.table
    part = split rules f.onward.0 f.onward.1 (f.post ++ labels_of_all behind) told end.machine end.table run

    there_then : GivesOnly Its (f.onward.1 at)
    there_then =
        move_gives rules at Its f.ended (Answer w.number Success w.informed w.bytes) f.at f.onward.1 f.onward.3 tt
        (reads rules w.number w.request place p.mid p.between f.ended f.at f.succeeds written.is_write written.inside (f.surely at Its (own_fits rules w.request place)))

    later_on : BroughtSurely rules at Its part.mid part.between told end.machine end.table part.rest
    later_on =
        all_plain rules at Its part.mid part.between later told rest end.machine end.table (over_calm rules at Its f.onward.0 f.onward.1 f.post f.calm f.of_post behind part.mid part.between behinds part.first) laters away_later plain is part.rest

    there_now : GivesOnly Its (end.table at)
    there_now =
        gives_along rules at Its part.mid part.between told end.machine end.table part.rest later_on.along
        (gives_along rules at Its f.onward.0 f.onward.1 (f.post ++ labels_of_all behind) part.mid part.between part.first (over rules at Its f.onward.0 f.onward.1 f.post f.calm f.of_post behind part.mid part.between behinds away well part.first) there_then)

    stands_then : Stands rules w place after
    stands_then = record {
      bytes = remains_such rules at Its end.machine end.table (after at) there_now later_on.at_work (law rules arrays before calls (labels_of_all first ++ (labels_of w ++ (labels_of_all behind ++ told))) end at after session written.on_disk remains);
      all = f.succeeds.opens.carries ∙ ap (λ (kind : Kind). bytes_carried kind w.request.length) written.is_write;
    }

  remaining : Stands rules w place after
  remaining = by_parts (split rules (opening arrays) (held_on before) (labels_of_all first) (labels_of w ++ (labels_of_all behind ++ told)) end.machine end.table session.run)
    where
      by_parts : Front → Stands rules w place after
      by_parts p = by_write (write_of rules arrays before first w place whole rounds round written (labels_of_all behind ++ told) end.machine end.table p)
        where
          by_write : Found rules p.mid p.between w (labels_of_all behind ++ told) end.machine end.table → Stands rules w place after
          by_write f = stands_then p f (subst (λ (ls : List Label). TableRun rules f.onward.0 f.onward.1 ls end.machine end.table) (sym (append_assoc f.post (labels_of_all behind) told)) f.onward.4)

pub answered_remains : SuccessIsRead → RemainsAreLeft → AnsweredRemains
answered_remains reads law rules arrays before after calls end first w behind later told rest place session whole rounds round behinds laters is written away well away_later plain remains =
    remaining rules arrays before first w place whole rounds round written calls end after behind later told rest behinds laters is away well away_later plain remains session reads law
