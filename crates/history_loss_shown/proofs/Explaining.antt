-- Schedules of registers, in none of which a sync fails, are those of the sectors of one history.
use Rattle.std.proofs.Common.{◌≡◌, ◌<◌, ◌≤◌, ◌⊎◌, inl, inr, ℕ, zero, suc, ◌+◌, ◌/◌, ◌%◌, ◌==◌, ◌&&◌, Bool, true, false, not, nat_le, nat_lt, List, [], ◌∷◌, Option, Some, None, refl, sym, ◌∙◌, ap, subst, arith}
use Rattle.std.specs.Prelude.{All, Contains, is_none, slice_get, if◌then◌else◌}
use Rattle.std.proofs.lemmas.Bool.{and_parts}
use Rattle.std.proofs.lemmas.Bool.Decides.{leb_tells, nat_tests}
use Rattle.std.proofs.lemmas.List.Elements.{All-nil, All-cons, All-head, All-tail}
use Rattle.ntstatus.specs.declared.NtStatus.{NtStatus}
use Rattle.ntstatus.specs.declared.NtStatus.TheVariants.{Success}
use Rattle.sector.specs.declared.Extent.{Extent}
use Rattle.srb.specs.declared.Kind.{Kind}
use Rattle.srb.specs.declared.Kind.TheVariants.{Read, Write, Flush}
use Rattle.machine.specs.declared.ClientRequest.{ClientRequest}
use Rattle.machine.specs.declared.Label.TheVariants.{Call, Device, Answer, Cancel, Pause, Resume, Remove, Surprise, Removed}
use Rattle.machine.specs.Rules.{Rules, first_sector, home, is_in_bounds, is_transfer, place_count, sectors_of}
use Rattle.history_laws.specs.declared.Asked.{Asked}
use Rattle.history_laws.specs.Fitting.{asked_after, fits, owed_after, without}
use Rattle.history_shown.specs.Laws.{Tells}
use Rattle.loss.specs.Held.{Held, IsOneOf, surely}
use Rattle.loss.specs.Sessions.{Line, Told, Lost, Ended}
use Rattle.loss.specs.Laws.{sector_of}
use Rattle.history_loss.specs.Histories.{seen_of}
use Rattle.history_loss.specs.Schedules.{Event, Seen, Effect, Fails, AreScheduled, IsAt, IsNoFailure, IsOpen, IsScheduled, MayFollow, answered, lines_of, next_number, shared_of, so_far}
use Rattle.history_loss.proofs.Scheduling.{explained_scheduled}
use Rattle.history_loss_runs.specs.Laws.{all_fit_over}
use Rattle.history_loss_runs.proofs.Explaining.{scheduled_explained}
use Rattle.history_loss_fits.proofs.Fitting.{explained_fits, labels_fit_each}
use Rattle.register.specs.Values.{code}
use Rattle.register.proofs.Coding.{codes_tell}
use Rattle.register_loss.specs.declared.What.{What}
use Rattle.register_loss.specs.declared.What.TheVariants.{Read as Reads, Write as Writes, Flush as Flushes, Sync}
use Rattle.register_loss.specs.declared.Sight.TheVariants.{Call as CallSight}
use Rattle.register_loss.specs.Schedules.{HasSchedule}
use Rattle.history_loss_sights.specs.Sights.{AreCounted, has_sector, sights_of}
use Rattle.history_loss_sights.proofs.Places.{at_has}
use Rattle.history_loss_sights.proofs.Standing.{Called, behind, first_or_behind, further, newest}
use Rattle.history_loss_sights.proofs.Telling.{refused_unexplained as unexplained, sights_scheduled}
use Rattle.history_loss_shown.specs.Steady.{steady_sights_of}
use Rattle.history_loss_shown.specs.Laws.{IsMoved, IsPassed, IsReadBelow, LieOnDisk, RefusedHaveNoSessions, ShownAreExplained, ShownAreScheduled, SyncedAreExact, SyncedAreSteady}
use Rattle.history_loss_shown.proofs.Fitting.{Known, answer_known, answers_open, call_known, call_number, fit_parts, nothing_known}
use Rattle.history_loss_shown.proofs.Owning.{Follows, GoesOn}
use Rattle.history_loss_shown.proofs.Calling.{IsClear}
use Rattle.history_loss_shown.proofs.Following.{shown_follows}
use Rattle.history_loss_shown.proofs.Sharing.{AllIn, Extends, Foreign, Is, Serves, own_in, own_serves, tidy_first}
use Rattle.history_loss_shown.proofs.Merging.{Merged, in_weaker, merge, union_first}
use Rattle.history_loss_shown.proofs.Inserting.{Inserted, insert, wide_first}
use Rattle.history_loss_shown.proofs.Stuck.{AreShown}
use Rattle.history_loss_shown.proofs.Counting.{are_counted, are_shown, counted_by, lines_serve, lines_shared, steady_same, told}

-- MORE FAILURES, AND MORE

module _ (rules : Rules) (i : ℕ) where
  abbrev Calls : List Event → List Event → Type 0
  Calls past past' = (n : ℕ) (q : ClientRequest) → Called past n q → Called past' n q

  calls_then : (e : Event) (past past' : List Event) → Calls past past' → Calls (e ∷ past) (e ∷ past')
  calls_then e past past' more n q (zero, low, is) = (0, omega arith, is)
  calls_then e past past' more n q (suc k, low, is) =
      let old : Called past' n q = more n q (k, omega arith, is) in
      (suc old.0, (let below = old.1 in omega (arith, below)), old.2)

  calls_so_far : (e : Event) (past past' : List Event) → Calls past past' → Calls (so_far e past) (so_far e past')
  calls_so_far (Seen Lost) past past' more = λ n q c. c
  calls_so_far (Seen Ended) past past' more = λ n q c. c
  calls_so_far (Seen (Told label)) past past' more = calls_then (Seen (Told label)) past past' more
  calls_so_far (Effect n sector) past past' more = calls_then (Effect n sector) past past' more
  calls_so_far (Fails n place) past past' more = calls_then (Fails n place) past past' more

  calls_behind : (e : Event) (past past' : List Event) → Calls past past' → Calls past (e ∷ past')
  calls_behind e past past' more n q c =
      let old : Called past' n q = more n q c in
      (suc old.0, (let below = old.1 in omega (arith, below)), old.2)

  foreign_too : (e : Event) (past past' : List Event) → Calls past past' → Foreign rules i past e → Foreign rules i past' e
  foreign_too (Fails n place) past past' more (q, called, away) = (q, more n q called, away)
  foreign_too (Seen line) past past' more f = absurd f
  foreign_too (Effect n sector) past past' more f = absurd f

  -- a foreign event ends no session
  same_past : (e : Event) (past past' : List Event) → Foreign rules i past e → so_far e past' ≡ e ∷ past'
  same_past (Fails n place) past past' f = refl
  same_past (Seen line) past past' f = absurd f
  same_past (Effect n sector) past past' f = absurd f

  extends_then : (c b a past past' : List Event) → Calls past past' → Extends rules i past a b → Extends rules i past' b c → Extends rules i past' a c
  extends_then [] b a past past' more x y = by b y x
    where
      by : (b : List Event) → b ≡ [] → Extends rules i past a b → a ≡ []
      by [] is x = x
      by (e ∷ b) is x = absurd (cc (is))
  extends_then (e ∷ c) b a past past' more x (inl (b', is, y)) =
      of_first (λ a' z. extends_then c b' a' (so_far e past) (so_far e past') (calls_so_far e past past' more) z y)
      (λ here z. extends_then c b' a (e ∷ past) (e ∷ past') (calls_then e past past' more) z (subst (λ p. Extends rules i p b' c) here y)) (subst (λ z. Extends rules i past a z) is x)
    where
      of_first : ((a' : List Event) → Extends rules i (so_far e past) a' b' → Extends rules i (so_far e past') a' c) → (so_far e past' ≡ e ∷ past' → Extends rules i (e ∷ past) a b' → Extends rules i (e ∷ past') a c)
          → Extends rules i past a (e ∷ b') → Extends rules i past' a (e ∷ c)
      of_first both only (inl (a', same, z)) = inl (a', same, both a' z)
      of_first both only (inr (foreign, z)) = inr (foreign_too e past past' more foreign, only (same_past e past past' foreign) z)
  extends_then (e ∷ c) b a past past' more x (inr (foreign, y)) = inr (foreign, extends_then c b a past (e ∷ past') (calls_behind e past past' more) x y)

  -- where all failures are elsewhere, nothing is left but lines
  extends_lines : (P : ℕ → Type 0) → (P i → ⊥) → (all past : List Event) → Serves rules past all → AllIn rules P past all → Extends rules i past (told (lines_of all)) all
  extends_lines P away [] past s x = refl
  extends_lines P away (Seen line ∷ all) past s x = inl (told (lines_of all), refl, extends_lines P away all (so_far (Seen line) past) s.1 x.1)
  extends_lines P away (Fails n place ∷ all) past s x =
      let at : (q : ClientRequest) × Called past n q × ((j : ℕ) × P j × IsAt rules j q place) = x.0 in
      inr ((at.0, at.1, λ here. away (subst P (sym at.2.2.sector ∙ here.sector) at.2.1)), extends_lines P away all (Fails n place ∷ past) s.1 x.1)
  extends_lines P away (Effect n sector ∷ all) past s x = absurd s.0

-- MOVED SECTORS

to_lt : (a b : ℕ) → nat_lt a b ≡ true → a < b
to_lt a b h = grind (arith, nat_tests)

to_le : (a b : ℕ) → nat_le a b ≡ true → a ≤ b
to_le a b h = grind (arith, nat_tests)

has_high : (rules : Rules) (i : ℕ) (q : ClientRequest) → has_sector rules i q ≡ true → i < sector_of rules q 0 + place_count rules q
has_high rules i q e =
    let both : _ × _ = and_parts (not (is_none q.partition) && (is_transfer q.kind && is_in_bounds rules q)) _ e in
    let place : _ × _ = and_parts (nat_le (sector_of rules q 0) i) _ both.1 in
    to_lt i (sector_of rules q 0 + place_count rules q) place.1

inside_parts : (i at first count length total : ℕ) → i < (at + (first + 0)) + length → first + length ≤ count → at + count ≤ total → i < total
inside_parts i at first count length total a b c = omega (arith, a, b, c)

nowhere : (i first length : ℕ) → i < (first + 0) + length → first + length ≤ 0 → ⊥
nowhere i first length a b = absurd (omega (arith, a, b))

-- a sector that a request moves is one of the disk
on_disk : (rules : Rules) → LieOnDisk rules → (i : ℕ) (q : ClientRequest) → has_sector rules i q ≡ true → i < rules.disk_sectors
on_disk rules lie i q e = by q.partition refl known
  where
    both : ((not (is_none q.partition) && (is_transfer q.kind && is_in_bounds rules q)) ≡ true) × ((nat_le (sector_of rules q 0) i && nat_lt i (sector_of rules q 0 + place_count rules q)) ≡ true)
    both = and_parts (not (is_none q.partition) && (is_transfer q.kind && is_in_bounds rules q)) _ e

    known : not (is_none q.partition) ≡ true
    known = (and_parts (not (is_none q.partition)) (is_transfer q.kind && is_in_bounds rules q) both.0).0

    of_kind : (is_transfer q.kind ≡ true) × (is_in_bounds rules q ≡ true)
    of_kind = and_parts (is_transfer q.kind) (is_in_bounds rules q) (and_parts (not (is_none q.partition)) (is_transfer q.kind && is_in_bounds rules q) both.0).1

    sized : first_sector rules q + q.length / rules.sector_size ≤ sectors_of rules q.partition
    sized =
        let bounds : _ × _ = and_parts ((q.offset % rules.sector_size == 0) && (q.length % rules.sector_size == 0)) _ of_kind.1 in
        to_le (first_sector rules q + q.length / rules.sector_size) (sectors_of rules q.partition) (and_parts (nat_le (first_sector rules q + q.length / rules.sector_size) (sectors_of rules q.partition)) _ bounds.1).0

    high : i < home rules q.partition (first_sector rules q + 0) + q.length / rules.sector_size
    high = subst (λ (b : Bool). i < home rules q.partition (first_sector rules q + 0) + (if b then q.length / rules.sector_size else 1)) of_kind.0 (has_high rules i q e)

    by : (p : Option ℕ) → q.partition ≡ p → not (is_none p) ≡ true → i < rules.disk_sectors
    by None is k = absurd (cc (k))
    by (Some p) is k =
        entry p (slice_get rules.partitions p) refl (subst (λ x. i < home rules x (first_sector rules q + 0) + q.length / rules.sector_size) is high)
        (subst (λ x. first_sector rules q + q.length / rules.sector_size ≤ sectors_of rules x) is sized)
      where
        entry : (p : ℕ) (found : Option Extent) → slice_get rules.partitions p ≡ found → i < home rules (Some p) (first_sector rules q + 0) + q.length / rules.sector_size
            → first_sector rules q + q.length / rules.sector_size ≤ sectors_of rules (Some p) → i < rules.disk_sectors
        entry p None is a b =
            absurd (nowhere i (first_sector rules q) (q.length / rules.sector_size)
            (subst (λ (x : Option Extent). i < (elim x [ Some extent ↦ extent.first + (first_sector rules q + 0) | None ↦ first_sector rules q + 0 ]) + q.length / rules.sector_size) is a)
            (subst (λ (x : Option Extent). first_sector rules q + q.length / rules.sector_size ≤ (elim x [ Some extent ↦ extent.count | None ↦ 0 ])) is b))
        entry p (Some extent) is a b =
            inside_parts i extent.first (first_sector rules q) extent.count (q.length / rules.sector_size) rules.disk_sectors
            (subst (λ (x : Option Extent). i < (elim x [ Some extent ↦ extent.first + (first_sector rules q + 0) | None ↦ first_sector rules q + 0 ]) + q.length / rules.sector_size) is a)
            (subst (λ (x : Option Extent). first_sector rules q + q.length / rules.sector_size ≤ (elim x [ Some extent ↦ extent.count | None ↦ 0 ])) is b) (lie p extent is)

-- sectors that calls move lie below this one
abbrev bound : Rules → List Line → ℕ
bound rules [] = 0
bound rules (Lost ∷ lines) = bound rules lines
bound rules (Ended ∷ lines) = bound rules lines
bound rules (Told (Call n q) ∷ lines) = (sector_of rules q 0 + place_count rules q) + bound rules lines
bound rules (Told _ ∷ lines) = bound rules lines

module _ (rules : Rules) (i : ℕ) where
  abbrev is_moved : List Line → Bool
  is_moved [] = false
  is_moved (Lost ∷ lines) = is_moved lines
  is_moved (Ended ∷ lines) = is_moved lines
  is_moved (Told (Call n q) ∷ lines) = if has_sector rules i q then true else is_moved lines
  is_moved (Told _ ∷ lines) = is_moved lines

  record Moves (lines : List Line) : Type 0 where
    moved : IsMoved rules i lines
    low : i < bound rules lines

  later : (line : Line) (lines : List Line) → bound rules lines ≤ bound rules (line ∷ lines) → Moves lines → Moves (line ∷ lines)
  later line lines more m = record {
    moved = record { number = m.moved.number; request = m.moved.request; called = listed (Told (Call m.moved.number m.moved.request)) m.moved.called; moves = m.moved.moves };
    low = let below = m.low in omega (arith, below, more);
  }
    where
      listed : (x : Line) → Contains lines x → Contains (line ∷ lines) x
      listed x there = further line lines x there

  moves_by : (lines : List Line) → AreShown lines → is_moved lines ≡ true → Moves lines
  moves_by [] shown e = absurd (cc (e))
  moves_by (Lost ∷ lines) shown e = later Lost lines (omega arith) (moves_by lines shown.1 e)
  moves_by (Ended ∷ lines) shown e = later Ended lines (omega arith) (moves_by lines shown.1 e)
  moves_by (Told (Call n q) ∷ lines) shown e = by (λ e'. moves_by lines shown.1 e') (has_sector rules i q) refl e
    where
      by : (is_moved lines ≡ true → Moves lines) → (b : Bool) → has_sector rules i q ≡ b → (if b then true else is_moved lines) ≡ true → Moves (Told (Call n q) ∷ lines)
      by again true has e' = record {
        moved = record { number = n; request = q; called = newest (Told (Call n q)) lines; moves = has };
        low = let high = has_high rules i q has in omega (arith, high);
      }
      by again false has e' = later (Told (Call n q)) lines (omega arith) (again e')
  moves_by (Told (Answer n status informed bytes) ∷ lines) shown e = later (Told (Answer n status informed bytes)) lines (omega arith) (moves_by lines shown.1 e)
  moves_by (Told (Device label) ∷ lines) shown e = absurd shown.0
  moves_by (Told (Cancel n) ∷ lines) shown e = absurd shown.0
  moves_by (Told Pause ∷ lines) shown e = absurd shown.0
  moves_by (Told Resume ∷ lines) shown e = absurd shown.0
  moves_by (Told Remove ∷ lines) shown e = absurd shown.0
  moves_by (Told Surprise ∷ lines) shown e = absurd shown.0
  moves_by (Told Removed ∷ lines) shown e = absurd shown.0

  -- A SECTOR THAT NO CALL MOVES

  unless_true : (b rest : Bool) → (if b then true else rest) ≡ false → (b ≡ false) × (rest ≡ false)
  unless_true true rest e = absurd (cc (e))
  unless_true false rest e = (refl, e)

  answered_surely : (next n : ℕ) (kind : Kind) (status : NtStatus) (v : List ℕ) → answered next n kind status (surely v) ≡ surely v
  answered_surely next n Read status v = refl
  answered_surely next n Write status v = refl
  answered_surely next n Flush Success v = refl
  answered_surely next n Flush _ v = refl

  abbrev IsAway : List Event → Type 0
  IsAway past = (n : ℕ) (q : ClientRequest) (place : ℕ) → Called past n q → IsAt rules i q place → ⊥

  away_first : IsAway []
  away_first n q place called at = let low = called.1 in absurd (omega arith)

  lines_follow : (lines : List Line) (past : List Event) (v : List ℕ) (asked : List (Option Asked)) (owed : Option NtStatus) → AreShown lines → all_fit_over rules asked owed lines ≡ true → is_moved lines ≡ false → Known past asked owed → IsAway past
      → ((n place : ℕ) → All (IsNoFailure n place) past) → Follows rules i past (surely v) (told lines)
  lines_follow [] past v asked owed shown fit still known away sound = tt
  lines_follow (Lost ∷ lines) past v asked owed shown fit still known away sound = (
    surely v,
    record { value = v; among = λ low. inl refl; after = refl },
    tt,
    lines_follow lines [] v (None ∷ []) None shown.1 (fit_parts (is_none owed) (all_fit_over rules (None ∷ []) None lines) fit).1 still nothing_known away_first (λ n place. All-nil (IsNoFailure n place)),
  )
  lines_follow (Ended ∷ lines) past v asked owed shown fit still known away sound = (
    surely v,
    record { value = v; among = λ low. inl refl; after = refl },
    tt,
    lines_follow lines [] v (None ∷ []) None shown.1 (fit_parts (is_none owed) (all_fit_over rules (None ∷ []) None lines) fit).1 still nothing_known away_first (λ n place. All-nil (IsNoFailure n place)),
  )
  lines_follow (Told (Call n q) ∷ lines) past v asked owed shown fit still known away sound =
      let parts : (fits rules asked owed (Call n q) ≡ true) × (all_fit_over rules (asked_after rules asked owed (Call n q)) (owed_after rules owed (Call n q)) lines ≡ true) =
      fit_parts (fits rules asked owed (Call n q)) (all_fit_over rules (asked_after rules asked owed (Call n q)) (owed_after rules owed (Call n q)) lines) fit in
      let out : (has_sector rules i q ≡ false) × (is_moved lines ≡ false) = unless_true (has_sector rules i q) (is_moved lines) still in (
        surely v,
        refl,
        tt,
        lines_follow lines (Seen (Told (Call n q)) ∷ past) v (asked_after rules asked owed (Call n q)) (owed_after rules owed (Call n q)) shown.1 parts.1 out.1
            (call_known rules n q past asked owed (call_number rules asked owed n q parts.0) known)
            (λ m p place called at. elim (first_or_behind (Seen (Told (Call n q))) past (Seen (Told (Call m p))) called) [
              | inl is ↦ let same : q ≡ p = cc (is) in let has : has_sector rules i q ≡ true = at_has rules i q place (subst (λ x. IsAt rules i x place) (sym same) at) in let none = out.0 in absurd (cc (has, none))
              | inr before ↦ away m p place before at
            ])
            (λ m place. All-cons (IsNoFailure m place) (Seen (Told (Call n q))) past tt (sound m place)),
      )
  lines_follow (Told (Answer n status informed bytes) ∷ lines) past v asked owed shown fit still known away sound =
      let parts : (fits rules asked owed (Answer n status informed bytes) ≡ true) × (all_fit_over rules (without asked owed n) None lines ≡ true) =
      fit_parts (fits rules asked owed (Answer n status informed bytes)) (all_fit_over rules (without asked owed n) None lines) fit in
      let was : (q : ClientRequest) × IsOpen past n q = answers_open n status informed bytes past asked owed parts.0 known in (
        surely v,
        record {
          request = was.0;
          is_open = was.1;
          effect = λ good place at. absurd (away n was.0 place was.1.called at);
          sound = λ good place low. sound n place;
          after = sym (answered_surely (next_number past) n was.0.kind status v);
        },
        tt,
        lines_follow lines (Seen (Told (Answer n status informed bytes)) ∷ past) v (without asked owed n) None shown.1 parts.1 still (answer_known n status informed bytes past asked owed parts.0 known)
            (λ m p place called at. away m p place (behind (Seen (Told (Answer n status informed bytes))) past (Seen (Told (Call m p))) (λ e. cc (e)) called) at)
            (λ m place. All-cons (IsNoFailure m place) (Seen (Told (Answer n status informed bytes))) past tt (sound m place)),
      )
  lines_follow (Told (Device label) ∷ lines) past v asked owed shown fit still known away sound = absurd shown.0
  lines_follow (Told (Cancel n) ∷ lines) past v asked owed shown fit still known away sound = absurd shown.0
  lines_follow (Told Pause ∷ lines) past v asked owed shown fit still known away sound = absurd shown.0
  lines_follow (Told Resume ∷ lines) past v asked owed shown fit still known away sound = absurd shown.0
  lines_follow (Told Remove ∷ lines) past v asked owed shown fit still known away sound = absurd shown.0
  lines_follow (Told Surprise ∷ lines) past v asked owed shown fit still known away sound = absurd shown.0
  lines_follow (Told Removed ∷ lines) past v asked owed shown fit still known away sound = absurd shown.0

told_lines : (lines : List Line) → lines_of (told lines) ≡ lines
told_lines [] = refl
told_lines (line ∷ lines) = ap (λ ls. line ∷ ls) (told_lines lines)

told_shared : (lines : List Line) → shared_of (told lines) ≡ told lines
told_shared [] = refl
told_shared (line ∷ lines) = ap (λ es. Seen line ∷ es) (told_shared lines)

told_in : (rules : Rules) (P : ℕ → Type 0) (lines : List Line) (past : List Event) → AllIn rules P past (told lines)
told_in rules P [] past = tt
told_in rules P (line ∷ lines) past = (tt, told_in rules P lines (so_far (Seen line) past))

-- ALL SECTORS

module _ (rules : Rules) (disk : ℕ → List ℕ) (history : List Line) (shown : AreShown history) (fit : all_fit_over rules (None ∷ []) None history ≡ true) where
  counts : AreCounted 1 history
  counts = are_counted rules history (None ∷ []) None shown fit

  abbrev Below : ℕ → ℕ → Type 0
  Below count j = j < count

  module _ (own : (i : ℕ) → GoesOn rules i [] (surely (disk i)) history) where
    -- one list of failures for the first sectors
    record Shares (count : ℕ) : Type 0 where
      all : List Event
      serves : Serves rules [] all
      shows : lines_of all ≡ history
      all_in : AllIn rules (Below count) [] all
      each : (i : ℕ) → i < count → Extends rules i [] (shared_of (own i).events) all

    shares_none : Shares 0
    shares_none = record {
      all = told history;
      serves = lines_serve rules history [] (None ∷ []) None shown fit nothing_known (λ n place. All-nil (IsNoFailure n place));
      shows = told_lines history;
      all_in = told_in rules (Below 0) history [];
      each = λ i low. absurd (omega (arith, low));
    }

    own_shown : (i : ℕ) → AreShown (lines_of (own i).events)
    own_shown i = subst AreShown (sym (own i).shows) shown

    module _ (count : ℕ) (first : Shares count) where
      merged : Merged rules (Below count) (Is count) [] first.all (shared_of (own count).events)
      merged =
          merge rules (Below count) (Is count) (λ i j low is same. absurd (omega (arith, low, is, same))) first.all (shared_of (own count).events) [] [] [] (union_first rules (Below count) (Is count)) tidy_first
          (lines_shared (own count).events ∙ (own count).shows ∙ sym first.shows) (subst AreShown (sym first.shows) shown) (subst (λ ls. AreCounted 1 ls) (sym first.shows) counts) first.serves
          (own_serves rules count (own count).events [] (surely (disk count)) (own_shown count) (own count).follow) first.all_in
          (own_in rules count (own count).events [] (surely (disk count)) (own_shown count) (own count).follow)

      more : Shares (suc count)
      more = record {
        all = merged.all;
        serves = merged.serves;
        shows = merged.shows ∙ first.shows;
        all_in = in_weaker rules (λ j. Below count j ⊎ Is count j) (Below (suc count)) (λ j h. elim h [ inl low ↦ omega (arith, low) | inr is ↦ omega (arith, is) ]) [] merged.all merged.all_in;
        each = λ i low. elim (leb_tells (suc i) count) [
          | inl before ↦ extends_then rules i merged.all first.all (shared_of (own i).events) [] [] (λ n q c. c) (first.each i (omega (arith, before.1))) (merged.left i (omega (arith, before.1)))
          | inr after ↦ last i (omega (arith, low, after.1))
        ];
      }
        where
          last : (i : ℕ) → i ≡ count → Extends rules i [] (shared_of (own i).events) merged.all
          last i is = subst (λ j. Extends rules j [] (shared_of (own j).events) merged.all) (sym is) (merged.right count refl)

    shares : (count : ℕ) → Shares count
    shares zero = shares_none
    shares (suc count) = more count (shares count)

  module _ (each : (i : ℕ) → IsMoved rules i history → GoesOn rules i [] (surely (disk i)) history) where
    untouched : (i : ℕ) → is_moved rules i history ≡ false → Follows rules i [] (surely (disk i)) (told history)
    untouched i still = lines_follow rules i history [] (disk i) (None ∷ []) None shown fit still nothing_known (away_first rules i) (λ n place. All-nil (IsNoFailure n place))

    owned_by : (i : ℕ) (b : Bool) → is_moved rules i history ≡ b → GoesOn rules i [] (surely (disk i)) history
    owned_by i true e = each i (moves_by rules i history shown e).moved
    owned_by i false e = record { events = told history; follow = untouched i e; shows = told_lines history }

    owned : (i : ℕ) → GoesOn rules i [] (surely (disk i)) history
    owned i = owned_by i (is_moved rules i history) refl

    all_shares : Shares owned (bound rules history)
    all_shares = shares owned (bound rules history)

    scheduled_by : (i : ℕ) (events : List Event) → lines_of events ≡ history → Follows rules i [] (surely (disk i)) events → Extends rules i [] (shared_of events) all_shares.all → IsScheduled rules i (disk i) all_shares.all
    scheduled_by i events shows follow extends =
        let x : Inserted code codes_tell rules i [] (surely (disk i)) all_shares.all =
        insert code codes_tell rules i all_shares.all events [] [] (surely (disk i)) (surely (disk i)) (wide_first code codes_tell rules i (disk i)) tidy_first
        (subst AreShown (sym shows) shown) (subst (λ ls. AreCounted 1 ls) (sym shows) counts) follow all_shares.serves extends in
        record { events = x.events; in_turn = x.follow; shares = x.shares }

    pub all_scheduled : AreScheduled rules disk history
    all_scheduled = record {
      shared = all_shares.all;
      seen = all_shares.shows;
      each = λ i. elim (leb_tells (suc i) (bound rules history)) [
        | inl low ↦ scheduled_by i (owned i).events (owned i).shows (owned i).follow (all_shares.each i (omega (arith, low.1)))
        | inr high ↦ beyond i (λ low. let over = high.1 in absurd (omega (arith, low, over))) (is_moved rules i history) refl
      ];
    }
      where
        beyond : (i : ℕ) → (i < bound rules history → ⊥) → (b : Bool) → is_moved rules i history ≡ b → IsScheduled rules i (disk i) all_shares.all
        beyond i out true e = absurd (out (moves_by rules i history shown e).low)
        beyond i out false e =
            scheduled_by i (told history) (told_lines history) (untouched i e)
            (subst (λ es. Extends rules i [] es all_shares.all) (ap told all_shares.shows ∙ sym (told_shared history)) (extends_lines rules i (Below (bound rules history)) out all_shares.all [] all_shares.serves all_shares.all_in))

-- THE LAWS

one_all : {X : Type 0} (P : X → Type 0) (x : X) (xs : List X) → All P xs → IsOneOf x xs → P x
one_all P x [] all h = absurd h
one_all P x (y ∷ xs) all (inl e) = subst P (sym e) (All-head P y xs all)
one_all P x (y ∷ xs) all (inr h) = one_all P x xs (All-tail P y xs all) h

clear_by : (code : List ℕ → ℕ) (count : ℕ) → Tells code count → (n : ℕ) (what : What) → IsReadBelow count (CallSight n what) → IsClear code what
clear_by code count tells n (Reads v) low = λ a b is_a is_b. tells a b (subst (λ m. m < count) is_a low) (sym is_a ∙ is_b)
clear_by code count tells n (Writes v through) low = tt
clear_by code count tells n Flushes low = tt
clear_by code count tells n Sync low = tt

passed_follows : (code : List ℕ → ℕ) (count : ℕ) (rules : Rules) (i : ℕ) (start : List ℕ) (history : List Line) → Tells code count → seen_of history ≡ history → all_fit_over rules (None ∷ []) None history ≡ true
    → IsPassed count (code start) (steady_sights_of code rules i history) → GoesOn rules i [] (surely start) history
passed_follows code count rules i start history tells is_history fit p =
    shown_follows code rules i start history (are_shown history is_history) fit
    (λ n what there. clear_by code count tells n what (one_all (IsReadBelow count) (CallSight n what) (steady_sights_of code rules i history) p.low there)) p.schedule

may_follow : (rules : Rules) (i : ℕ) (events past : List Event) (h : Held) → Follows rules i past h events → MayFollow rules i past h events
may_follow rules i [] past h f = tt
may_follow rules i (event ∷ events) past h f = (f.0, f.1, may_follow rules i events (so_far event past) f.0 f.3)

pub shown_scheduled : ShownAreScheduled
shown_scheduled code count rules i start history tells is_history fit p =
    let g : GoesOn rules i [] (surely start) history = passed_follows code count rules i start history tells is_history fit p in
    record {
      shared = shared_of g.events;
      seen = lines_shared g.events ∙ g.shows;
      scheduled = record { events = g.events; in_turn = may_follow rules i g.events [] (surely start) g.follow; shares = refl };
    }

pub shown_explained : ShownAreExplained
shown_explained code count rules disk arrays history tells room whole fit each =
    (scheduled_explained rules disk arrays history room whole fit).0
    (all_scheduled rules disk history (are_shown history fit.is_history) fit.fit (λ i moved. passed_follows code count rules i (disk i) history tells fit.is_history fit.fit (each i moved)))

pub synced_steady : SyncedAreSteady
synced_steady code rules i history synced = steady_same code rules i history synced

pub synced_exact : SyncedAreExact
synced_exact code count rules disk arrays history tells room whole lie synced answered calm low = (
  λ x. (
    explained_fits rules disk history x answered calm,
    λ i moved.
        let a : AreScheduled rules disk history = explained_scheduled rules disk history x in
        let counted : AreCounted 1 (lines_of a.shared) = subst (λ ls. AreCounted 1 ls) (sym a.seen) (counted_by rules history (None ∷ []) None (labels_fit_each rules disk history x)) in
        subst (λ ls. HasSchedule (code (disk i)) (sights_of code rules i ls)) a.seen (sights_scheduled code rules i (disk i) a.shared (on_disk rules lie i moved.request moved.moves) counted (a.each i)),
  ),
  λ h. shown_explained code count rules disk arrays history tells room whole h.0
      (λ i moved.
      let same : steady_sights_of code rules i history ≡ sights_of code rules i history = steady_same code rules i history synced in
      record { low = subst (All (IsReadBelow count)) (sym same) (low i moved); schedule = subst (λ ss. HasSchedule (code (disk i)) ss) (sym same) (h.1 i moved) }),
)

pub refused_unexplained : RefusedHaveNoSessions
refused_unexplained code rules disk history i inside none x =
    unexplained code rules disk history i inside (counted_by rules history (None ∷ []) None (labels_fit_each rules disk history x)) none x
