-- A request from its call to its answer, on the disk.
use Rattle.volume.proofs.Common.{◌≡◌, ◌≢◌, ◌<◌, ◌≤◌, ◌⊎◌, inl, inr, ℕ, zero, suc, ◌+◌, ◌-◌, ◌*◌, ◌/◌, ◌%◌, Bool, true, false, List, [], ◌∷◌, Option, Some, None, refl, sym, ◌∙◌, ap, subst, arith, length, take, drop, map, length-take, length-drop, All, Any, IsPermutation, IsNone, IsFalse, IsTrue, slice_get, slice_range, ◌&&◌, ◌==◌, not, nat_le, is_none, unwrap_or, if◌then◌else◌, concat, mul-le-mul_right, mod-add-div', cases_lt, nat_tests, All-nil, All-cons, All-head, All-tail, IsPermutation-sym, Success, Extent, IsSector, sectors_in, Kind, Read, Write, Flush, ClientRequest, Label, Rules, is_transfer, is_in_bounds, first_sector, place_count, sectors_of, OpenRequest, Piece, State, opening, ArePlaced, IsOwner, IsPlaced, refusal, Admits, Calls, new_request, bytes_carried, array_at, partition_number, Run, AreDistinct-opening, ArePlaced-opening, ArePlaced-Run, IsTakenIn, some_places, taken_in, IsSame-refl, none_there, CallsCount, call_numbers, IsReached, SoloReadsHold, SoloWritesHold, FailedWritesHold, RunsKeepSectors, ManagerView, TakesAnswer, as_answer, extent_at, AreUsable, IsReady, IsQuiet, answers_of, IsBetween, Goes, IsPlaceOf, ChangesSome, ComesTo, Ends, disk_first, sectors_on}
use Rattle.machine.specs.declared.Label.TheVariants.{Call, Device, Answer, Cancel, Pause, Resume, Remove, Surprise, Removed}
use Rattle.machine.specs.Solo.{IsAnswered}
use Rattle.machine_laws.specs.Sectors.{sector_of, bytes_for}
use Rattle.io_manager.specs.declared.Answer.{Answer as AnswerOf}
use Rattle.volume.proofs.Commands.{IsWaiting, NoneSent, sent_by}
use Rattle.volume.proofs.Phases.{IsWorking, IsServed, run_working, always_alone, of_sole, works_last, written_at, single}
use Rattle.volume.proofs.Steps.{goes_on_reached}
use Rattle.volume.proofs.Disk.{same_items, slice_get-range, slice_get-range_past, at_partition, sectors_of-extent, same_sector}

-- BOUNDS

-- a transfer that is taken in lies in its partition
pub in_bounds : (rules : Rules) (s : State) (q : ClientRequest) → refusal rules s q ≡ None → IsTrue (is_transfer q.kind) → IsTrue (is_in_bounds rules q)
in_bounds rules s q e transfer = by (is_transfer q.kind) (is_in_bounds rules q) transfer (taken_in rules s q e).in_bounds
  where
    by : (t b : Bool) → t ≡ true → (t && not b) ≡ false → b ≡ true
    by true true is h = refl
    by true false is h = absurd (let k : true ≡ false = h in cc)
    by false b is h = absurd (let k : false ≡ true = is in cc)

-- as numbers
pub record Fits (rules : Rules) (q : ClientRequest) (p : ℕ) : Type 0 where
  pub begins : q.offset % rules.sector_size ≡ 0
  pub ends : q.length % rules.sector_size ≡ 0
  pub inside : first_sector rules q + q.length / rules.sector_size ≤ (extent_at rules.partitions p).count
  pub short : q.length / rules.sector_size ≤ rules.longest

both : (a b : Bool) → (a && b) ≡ true → (a ≡ true) × (b ≡ true)
both true b h = (refl, h)
both false b h = absurd (let k : false ≡ true = h in cc)

is_zero : (n : ℕ) → (n == 0) ≡ true → n ≡ 0
is_zero n h = grind (arith, nat_tests)

is_at_most : (m n : ℕ) → nat_le m n ≡ true → m ≤ n
is_at_most m n h = grind (arith, nat_tests)

pub fits : (rules : Rules) (q : ClientRequest) (p : ℕ) → q.partition ≡ Some p → IsTrue (is_in_bounds rules q) → Fits rules q p
fits rules q p is h =
    let e : sectors_of rules q.partition ≡ (extent_at rules.partitions p).count = ap (λ o. sectors_of rules o) is ∙ sectors_of-extent rules p in
    let halves : _ × _ = both ((q.offset % rules.sector_size == 0) && (q.length % rules.sector_size == 0)) _ h in
    let aligned : _ × _ = both (q.offset % rules.sector_size == 0) _ halves.0 in
    let sized : _ × _ = both (nat_le (first_sector rules q + q.length / rules.sector_size) (sectors_of rules q.partition)) _ halves.1 in
    record {
      begins = is_zero _ aligned.0;
      ends = is_zero _ aligned.1;
      inside = subst (λ n. first_sector rules q + q.length / rules.sector_size ≤ n) e (is_at_most _ _ sized.0);
      short = is_at_most _ _ sized.1;
    }

-- ITS SECTORS ON THE DISK

-- sectors of a partition's array are sectors of the disk
pub on_disk : (sectors : List (List ℕ)) (partitions : List Extent) (p a n : ℕ) → a + n ≤ (extent_at partitions p).count
    → slice_range (array_at (map (sectors_in sectors) partitions) p) (a + 0) (a + 0 + n) ≡ slice_range sectors ((extent_at partitions p).first + a) ((extent_at partitions p).first + a + n)
on_disk sectors partitions p a n inside =
    let array : List (List ℕ) = array_at (map (sectors_in sectors) partitions) p in
    let f : ℕ = (extent_at partitions p).first in
    same_items (slice_range array (a + 0) (a + 0 + n)) (slice_range sectors (f + a) (f + a + n)) (λ k. elim (cases_lt k n) [
      | inl low ↦
          slice_get-range array (a + 0) n k low
          ∙ at_partition sectors partitions p (a + 0 + k) (omega arith)
          ∙ ap (λ i. slice_get sectors i) (omega arith)
          ∙ sym (slice_get-range sectors (f + a) n k low)
      | inr high ↦ slice_get-range_past array (a + 0) n k high ∙ sym (slice_get-range_past sectors (f + a) n k high)
    ])

-- what all items are, by their places
pub all_by_place : {X : Type 0} (P : X → Type 0) (xs : List X) → ((i : ℕ) (x : X) → slice_get xs i ≡ Some x → P x) → All P xs
all_by_place P [] h = All-nil P
all_by_place P (x ∷ xs) h = All-cons P x xs (h 0 x refl) (all_by_place P xs (λ i y is. h (suc i) y is))

pub at_place : {X : Type 0} (P : X → Type 0) (xs : List X) (i : ℕ) (x : X) → All P xs → slice_get xs i ≡ Some x → P x
at_place P [] i x h is = absurd (let e : None ≡ Some x = is in cc)
at_place P (y ∷ ys) zero x h is = let e : y ≡ x = cc (is) in subst P e (All-head P y ys h)
at_place P (y ∷ ys) (suc i) x h is = at_place P ys i x (All-tail P y ys h) is

-- a sector's bytes among those of a write
chunk_length : (rules : Rules) (q : ClientRequest) (place n : ℕ) → place < n → length q.bytes ≡ n * rules.sector_size → length (bytes_for rules q place) ≡ rules.sector_size
chunk_length rules q place n low long =
    let size : ℕ = rules.sector_size in
    let width : (place + 1) * size - place * size ≡ size = omega arith in
    let inside : place * size + size ≤ n * size = below place n size low in
    ap (λ w. length (take w (drop (place * size) q.bytes))) width ∙ long_enough size (place * size) q.bytes (omega arith)
  where
    below : (place n size : ℕ) → place < n → place * size + size ≤ n * size
    below place n size h = let k : suc place * size ≤ n * size = mul-le-mul_right size (omega arith) in omega arith

    long_enough : (size from : ℕ) (bytes : List ℕ) → from + size ≤ length bytes → length (take size (drop from bytes)) ≡ size
    long_enough size from bytes h = simp (length-take, length-drop) (omega arith)

-- sectors are whole after a change
pub whole_after : (rules : Rules) (q : ClientRequest) (old new : List (List ℕ)) → length q.bytes ≡ place_count rules q * rules.sector_size → ChangesSome rules q old new → All (IsSector rules.sector_size) old
    → All (IsSector rules.sector_size) new
whole_after rules q old new long changes whole = all_by_place (IsSector rules.sector_size) new at
  where
    from_old : (i : ℕ) (x : List ℕ) → slice_get new i ≡ slice_get old i → slice_get new i ≡ Some x → IsSector rules.sector_size x
    from_old i x same is = at_place (IsSector rules.sector_size) old i x whole (sym same ∙ is)

    in_range : (place : ℕ) (x : List ℕ) → place < place_count rules q → slice_get new (disk_first rules q + place) ≡ Some x → IsSector rules.sector_size x
    in_range place x low is = elim (changes.each place low) [
      | inl same ↦ from_old (disk_first rules q + place) x same is
      | inr written ↦ let e : bytes_for rules q place ≡ x = cc (is, written) in subst (λ (bytes : List ℕ). length bytes ≡ rules.sector_size) e (chunk_length rules q place (place_count rules q) low long)
    ]

    at : (i : ℕ) (x : List ℕ) → slice_get new i ≡ Some x → IsSector rules.sector_size x
    at i x is = elim (cases_lt i (disk_first rules q)) [
      | inl low ↦ from_old i x (changes.elsewhere i (inl low)) is
      | inr from ↦ elim (cases_lt i (disk_first rules q + place_count rules q)) [
        | inl below ↦
            let e : i ≡ disk_first rules q + (i - disk_first rules q) = omega arith in
            in_range (i - disk_first rules q) x (omega arith) (ap (λ n. slice_get new n) (sym e) ∙ is)
        | inr past ↦ from_old i x (changes.elsewhere i (inr past)) is
      ]
    ]

-- WHAT IS KNOWN OF A REQUEST THAT WAS TAKEN IN

pub count_is : (rules : Rules) (q : ClientRequest) → IsTrue (is_transfer q.kind) → place_count rules q ≡ q.length / rules.sector_size
count_is rules q transfer = ap (λ b. if b then q.length / rules.sector_size else 1) transfer

some_partition : (p : Option ℕ) → is_none p ≡ false → p ≡ Some (unwrap_or p 0)
some_partition None h = absurd (let k : true ≡ false = h in cc)
some_partition (Some p) h = refl

whole_count : (bytes size : ℕ) → bytes % size ≡ 0 → bytes ≡ bytes / size * size
whole_count bytes size e = omega (arith, e, mod-add-div' bytes size)

no_calls : (labels : List Label) → All IsQuiet labels → call_numbers labels ≡ []
no_calls [] quiet = refl
no_calls (Device label ∷ labels) quiet = no_calls labels (All-tail IsQuiet _ labels quiet)
no_calls (Answer number status informed bytes ∷ labels) quiet = no_calls labels (All-tail IsQuiet _ labels quiet)
no_calls (Removed ∷ labels) quiet = no_calls labels (All-tail IsQuiet _ labels quiet)
no_calls (Call number q ∷ labels) quiet = absurd (All-head IsQuiet (Call number q) labels quiet)
no_calls (Cancel number ∷ labels) quiet = absurd (All-head IsQuiet (Cancel number) labels quiet)
no_calls (Pause ∷ labels) quiet = absurd (All-head IsQuiet Pause labels quiet)
no_calls (Resume ∷ labels) quiet = absurd (All-head IsQuiet Resume labels quiet)
no_calls (Remove ∷ labels) quiet = absurd (All-head IsQuiet Remove labels quiet)
no_calls (Surprise ∷ labels) quiet = absurd (All-head IsQuiet Surprise labels quiet)

-- WHETHER IT WAS ANSWERED

-- a piece out has an open request
none_placed : (s : State) → ArePlaced s → s.requests ≡ [] → s.pieces ≡ []
none_placed s placed none = by s.pieces placed.pieces
  where
    by : (pieces : List Piece) → All (IsPlaced s.requests) pieces → pieces ≡ []
    by [] all = refl
    by (piece ∷ pieces) all = absurd (not_owned s.requests none (All-head (IsPlaced s.requests) piece pieces all).owned)
      where
        not_owned : (os : List OpenRequest) → os ≡ [] → Any (IsOwner piece) os → ⊥
        not_owned os e any = let h : Any (IsOwner piece) [] = subst (λ xs. Any (IsOwner piece) xs) e any in absurd (let low : h.0 < 0 = h.2 in omega arith)

module _ (before : ManagerView) (ready : IsReady before) (number : ℕ) (q : ClientRequest) (now : ManagerView) (goes : Goes before number q now) where
  abbrev pub working : IsWorking number q goes.called
  working = record {
    o = new_request before.rules before.state number q;
    one =
        single goes.called.requests (new_request before.rules before.state number q)
        (subst (λ os. IsPermutation goes.called.requests (new_request before.rules before.state number q ∷ os)) ready.idle.none_open goes.opens.after.requests);
    is_number = refl;
    asks = refl;
    none_owed = subst (λ x. IsNone x) (sym goes.opens.after.owed) ready.idle.none_owed;
    not_paused = goes.opens.after.paused ∙ ready.idle.not_paused;
    not_removing = goes.opens.after.removing ∙ ready.idle.not_removing;
  }

  outcome : (IsWorking number q now.state × (answers_of goes.labels ≡ [])) ⊎ IsServed number q before.rules goes.called goes.labels now.state
  outcome = run_working number q before.rules goes.called goes.labels now.state working goes.quiet goes.run

  -- an answer that waits is its own
  served_by : (a : AnswerOf) (rest : List AnswerOf) → now.answers ≡ a ∷ rest → IsServed number q before.rules goes.called goes.labels now.state
  served_by a rest is = elim outcome [
    | inl still ↦
        let none : map as_answer now.answers ≡ [] = none_there (answers_of goes.labels) (map as_answer now.answers) still.1 (IsPermutation-sym _ _ goes.untaken) in
        absurd (let k : as_answer a ∷ map as_answer rest ≡ [] = ap (λ xs. map as_answer xs) (sym is) ∙ none in cc)
    | inr done ↦ done
  ]

  -- until one waits, a piece is out
  pub some_out : IsBetween now → now.answers ≡ [] → now.state.pieces ≢ []
  some_out between none_answered none_out = elim outcome [
    | inl still ↦
        let none : now.state.requests ≡ [] = between.settled.idle_unpaused none_out still.0.not_paused in
        absurd (let k : still.0.o ∷ [] ≡ [] = sym still.0.one ∙ none in cc)
    | inr done ↦
        let none : answers_of goes.labels ≡ [] = none_there (map as_answer now.answers) (answers_of goes.labels) (ap (λ xs. map as_answer xs) none_answered) goes.untaken in
        absurd (let k : Answer number done.status done.informed done.bytes ∷ [] ≡ [] = sym done.told ∙ none in cc)
  ]

-- FROM ITS CALL TO ITS ANSWER

module _ (reads : SoloReadsHold) (writes : SoloWritesHold) (failed : FailedWritesHold) (keeps : RunsKeepSectors) (counts : CallsCount)
    (before : ManagerView) (ready : IsReady before) (number : ℕ) (q : ClientRequest) (now : ManagerView) (goes : Goes before number q now) (between : IsBetween now)
    (served : IsServed number q before.rules goes.called goes.labels now.state) where
  abbrev rules : Rules
  rules = before.rules

  abbrev first_sectors : List (List ℕ)
  first_sectors = before.adapter.sectors

  abbrev last_sectors : List (List ℕ)
  last_sectors = now.adapter.sectors

  none_out : now.state.pieces ≡ []
  none_out =
      let r : IsReached now.rules now.state = between.reached in
      none_placed now.state (ArePlaced-Run now.rules (opening r.arrays) r.labels now.state (AreDistinct-opening r.arrays) (ArePlaced-opening r.arrays) r.run) served.over.none_open

  calls : Calls rules before.state number q goes.called
  calls = record { next_number = goes.is_next; admits = subst (λ answer. Admits rules before.state number q answer goes.called) (sym goes.opens.not_refused) goes.opens }

  called_reached : IsReached rules goes.called
  called_reached =
      goes_on_reached rules before.state (Call number q ∷ []) goes.called ready.reached (
        goes.called,
        inl (
          ready.idle.none_owed,
          calls,
        ),
        IsSame-refl goes.called,
      )

  abbrev answered : IsAnswered rules number q served.status served.bytes before.state served.after
  answered = record {
    called = goes.called;
    labels = served.between;
    ended = served.ended;
    opens = goes.opens;
    run = served.run;
    solo = always_alone number q rules goes.called served.between served.ended served.run served.working;
    answers = served.answers;
  }

  last_arrays : served.after.arrays ≡ map (sectors_in last_sectors) rules.partitions
  last_arrays = sym served.arrays ∙ between.whole.read.arrays ∙ ap (λ (r : Rules). map (sectors_in last_sectors) r.partitions) goes.same_rules

  -- a sector of an array stays, unless it is one of a write's
  sector_kept : (p k : ℕ) → (q.kind ≡ Write → IsPlaceOf rules q p k → ⊥)
      → slice_get (array_at (map (sectors_in last_sectors) rules.partitions) p) k ≡ slice_get (array_at (map (sectors_in first_sectors) rules.partitions) p) k
  sector_kept p k not_here = elim (keeps rules goes.called served.between served.ended called_reached served.run p k) [
    | inl same ↦
        ap (λ xs. slice_get (array_at xs p) k) (sym last_arrays ∙ served.answers.after.arrays)
        ∙ same
        ∙ ap (λ xs. slice_get (array_at xs p) k) (goes.opens.after.arrays ∙ ready.read.arrays)
    | inr wrote ↦
        let w : (q.kind ≡ Write) × IsPlaceOf rules q p k = written_at number q rules p k goes.called served.between served.ended served.run served.working wrote in
        absurd (not_here w.0 w.1)
  ]

  same_disk : q.kind ≢ Write → last_sectors ≡ first_sectors
  same_disk other =
      same_items last_sectors first_sectors (λ i. same_sector first_sectors last_sectors rules.partitions i (λ p k low is. sector_kept p k (λ w place. other w)) (goes.outside i))

  abbrev n : ℕ
  n = partition_number q

  taken : IsTakenIn rules before.state q
  taken = taken_in rules before.state q goes.opens.not_refused

  bounds : IsTrue (is_transfer q.kind) → Fits rules q n
  bounds transfer = fits rules q n (some_partition q.partition taken.known) (in_bounds rules before.state q goes.opens.not_refused transfer)

  inside_of : IsTrue (is_transfer q.kind) → first_sector rules q + place_count rules q ≤ (extent_at rules.partitions n).count
  inside_of transfer = subst (λ c. first_sector rules q + c ≤ (extent_at rules.partitions n).count) (sym (count_is rules q transfer)) (bounds transfer).inside

  is_write_transfer : q.kind ≡ Write → IsTrue (is_transfer q.kind)
  is_write_transfer e = ap is_transfer e

  is_read_transfer : q.kind ≡ Read → IsTrue (is_transfer q.kind)
  is_read_transfer e = ap is_transfer e

  -- a place of the request on the disk
  placed_at : (sectors : List (List ℕ)) (arrays : List (List (List ℕ))) → arrays ≡ map (sectors_in sectors) rules.partitions → (place : ℕ)
      → first_sector rules q + place < (extent_at rules.partitions n).count
      → slice_get (array_at arrays n) (sector_of rules q place) ≡ slice_get sectors (disk_first rules q + place)
  placed_at sectors arrays is place low =
      let e : (extent_at rules.partitions n).first + (first_sector rules q + place) ≡ disk_first rules q + place = omega arith in
      ap (λ xs. slice_get (array_at xs n) (first_sector rules q + place)) is
      ∙ at_partition sectors rules.partitions n (first_sector rules q + place) low
      ∙ ap (λ i. slice_get sectors i) e

  not_here : (p k i : ℕ) → i ≡ (extent_at rules.partitions p).first + k → (i < disk_first rules q) ⊎ (disk_first rules q + place_count rules q ≤ i) → IsPlaceOf rules q p k → ⊥
  not_here p k i is out place =
      let e : (extent_at rules.partitions p).first ≡ (extent_at rules.partitions n).first = ap (λ m. (extent_at rules.partitions m).first) (sym place.on_partition) in
      let s : first_sector rules q + place.place ≡ k = place.is_sector in
      let l : place.place < place_count rules q = place.inside in
      elim out [
        | inl low ↦ absurd (omega arith)
        | inr past ↦ absurd (omega arith)
      ]

  changes : q.kind ≡ Write → ChangesSome rules q first_sectors last_sectors
  changes is_write = record {
    elsewhere = λ i out. same_sector first_sectors last_sectors rules.partitions i (λ p k low is. sector_kept p k (λ w place. not_here p k i is out place)) (goes.outside i);
    each = λ place low.
        let room : first_sector rules q + place_count rules q ≤ (extent_at rules.partitions n).count = inside_of (is_write_transfer is_write) in
        let old : _ ≡ _ = placed_at first_sectors before.state.arrays ready.read.arrays place (omega arith) in
        let new : _ ≡ _ = placed_at last_sectors served.after.arrays last_arrays place (omega arith) in
        elim (failed rules before.state ready.reached number q served.status served.bytes served.after is_write answered place low) [
          | inl same ↦ inl (sym new ∙ same ∙ old)
          | inr wrote ↦ inr (sym new ∙ wrote.1)
        ];
  }

  read_is : q.kind ≡ Read → served.status ≡ Success → served.bytes ≡ concat (sectors_on rules q first_sectors)
  read_is is_read ok =
      reads rules before.state ready.usable.faithful ready.reached number q served.bytes served.after is_read
      (subst (λ status. IsAnswered rules number q status served.bytes before.state served.after) ok answered)
      ∙ ap concat (ap (λ xs. slice_range (array_at xs n) (first_sector rules q + 0) (first_sector rules q + 0 + place_count rules q)) ready.read.arrays
      ∙ on_disk first_sectors rules.partitions n (first_sector rules q) (place_count rules q) (inside_of (is_read_transfer is_read)))

  write_is : q.kind ≡ Write → served.status ≡ Success → concat (sectors_on rules q last_sectors) ≡ q.bytes
  write_is is_write ok =
      sym (writes rules before.state ready.usable.faithful ready.reached number q served.bytes served.after is_write
      (subst (λ status. IsAnswered rules number q status served.bytes before.state served.after) ok answered)
      ∙ ap concat (ap (λ xs. slice_range (array_at xs n) (first_sector rules q + 0) (first_sector rules q + 0 + place_count rules q)) last_arrays
      ∙ on_disk last_sectors rules.partitions n (first_sector rules q) (place_count rules q) (inside_of (is_write_transfer is_write))))

  long : q.kind ≡ Write → length q.bytes ≡ place_count rules q * rules.sector_size
  long is_write =
      let transfer : IsTrue (is_transfer q.kind) = is_write_transfer is_write in
      goes.opens.carries ∙ ap (λ k. bytes_carried k q.length) is_write ∙ whole_count q.length rules.sector_size (bounds transfer).ends
      ∙ ap (λ c. c * rules.sector_size) (sym (count_is rules q transfer))

  whole : All (IsSector rules.sector_size) last_sectors
  whole = by q.kind refl
    where
      unchanged : q.kind ≢ Write → All (IsSector rules.sector_size) last_sectors
      unchanged other = subst (λ xs. All (IsSector rules.sector_size) xs) (sym (same_disk other)) ready.whole_sectors

      by : (k : Kind) → q.kind ≡ k → All (IsSector rules.sector_size) last_sectors
      by Write e = whole_after rules q first_sectors last_sectors (long e) (changes e) ready.whole_sectors
      by Read e = unchanged (λ w. let k : Read ≡ Write = sym e ∙ w in cc)
      by Flush e = unchanged (λ w. let k : Flush ≡ Write = sym e ∙ w in cc)

  -- THE ANSWER

  one_answer : map as_answer now.answers ≡ Answer number served.status served.informed served.bytes ∷ []
  one_answer =
      single (map as_answer now.answers) (Answer number served.status served.informed served.bytes)
      (subst (λ ls. IsPermutation (map as_answer now.answers) ls) served.told goes.untaken)

  -- the labels from its call on
  comes_to : ComesTo rules before.state q served.status now.state
  comes_to = record {
    labels = goes.labels;
    quiet = goes.quiet;
    run = subst (λ m. Run rules before.state (Call m q ∷ goes.labels) now.state) goes.is_next (goes.called, inl (ready.idle.none_owed, calls), goes.run);
    informed = served.informed;
    bytes = served.bytes;
    answers = subst (λ m. answers_of goes.labels ≡ Answer m served.status served.informed served.bytes ∷ []) goes.is_next served.told;
  }

  -- a command was sent for it
  sent : before.state.next_piece < now.state.next_piece
  sent =
      let first : goes.called.next_piece ≡ before.state.next_piece = goes.opens.after.next_piece in
      let some : 0 < place_count rules q = some_places rules before.state q (some_bytes rules.sector_size ready.usable.sector_size) goes.opens.not_refused in
      let none : NoneSent (place_count rules q) goes.called = record {
        none_out = none_there before.state.pieces goes.called.pieces ready.idle.none_out (IsPermutation-sym _ _ goes.opens.after.pieces);
        waiting = of_sole (IsWaiting (place_count rules q)) (working before ready number q now goes).o goes.called.requests (working before ready number q now goes).one (record { untouched = refl; not_cancelled = refl });
      } in
      let staying : IsFalse served.ended.removing = works_last number q rules goes.called served.between served.ended served.run served.working in
      let more : goes.called.next_piece < served.after.next_piece =
      sent_by (place_count rules q) rules goes.called served.between served.ended number served.status served.bytes served.after some served.devices none served.run staying served.answers in
      let last : served.after.next_piece ≤ now.state.next_piece = served.commands in
      omega arith
    where
      some_bytes : (size : ℕ) → (size ≡ 512) ⊎ (size ≡ 4096) → 0 < size
      some_bytes size (inl e) = omega arith
      some_bytes size (inr e) = omega arith

  asked : now.state.next_request ≤ before.state.next_request + 1
  asked =
      let e : now.state.next_request ≡ goes.called.next_request + length (call_numbers goes.labels) = counts rules goes.called goes.labels now.state goes.run in
      let none : length (call_numbers goes.labels) ≡ 0 = ap length (no_calls goes.labels goes.quiet) in
      let one : goes.called.next_request ≡ number + 1 = goes.opens.after.next_request in
      let next : number ≡ before.state.next_request = goes.is_next in
      omega arith

  ready_again : (rest : List AnswerOf) → rest ≡ [] → IsReady (record now { answers = rest })
  ready_again rest empty = record {
    usable = subst AreUsable (sym goes.same_rules) ready.usable;
    idle = record {
      none_open = served.over.none_open;
      none_out = none_out;
      none_owed = served.over.none_owed;
      not_paused = served.over.not_paused;
      not_removing = served.over.not_removing;
    };
    reached = between.reached;
    read = between.whole.read;
    whole_sectors = subst (λ (r : Rules). All (IsSector r.sector_size) last_sectors) (sym goes.same_rules) whole;
    no_labels = between.no_labels;
    no_answers = empty;
  }

  ends_with : (a : AnswerOf) (rest : List AnswerOf) → now.answers ≡ a ∷ rest → Ends before q a (record now { answers = rest })
  ends_with a rest is =
      let e : as_answer a ∷ map as_answer rest ≡ Answer number served.status served.informed served.bytes ∷ [] = ap (λ xs. map as_answer xs) (sym is) ∙ one_answer in
      let status : a.status ≡ served.status = cc in
      let bytes : a.bytes ≡ served.bytes = cc in
      let none : map as_answer rest ≡ [] = cc in
      record {
        comes_to = subst (λ status. ComesTo rules before.state q status now.state) (sym status) comes_to;
        leaves = record {
          ready = ready_again rest (empty_of rest none);
          same_rules = goes.same_rules;
          handles = record { handles = goes.handles.handles; next_handle = goes.handles.next_handle };
          asked = asked;
        };
        in_bounds = λ transfer. in_bounds rules before.state q goes.opens.not_refused transfer;
        reads = λ is_read ok. bytes ∙ read_is is_read (sym status ∙ ok);
        writes = λ is_write ok. write_is is_write (sym status ∙ ok);
        changes = changes;
        same = same_disk;
        sent = λ has_place. sent;
      }
    where
      empty_of : (xs : List AnswerOf) → map as_answer xs ≡ [] → xs ≡ []
      empty_of [] h = refl
      empty_of (x ∷ xs) h = absurd (let k : as_answer x ∷ map as_answer xs ≡ [] = h in cc)

pub ends : SoloReadsHold → SoloWritesHold → FailedWritesHold → RunsKeepSectors → CallsCount → (before : ManagerView) → IsReady before → (number : ℕ) (q : ClientRequest) (now : ManagerView) → Goes before number q now → IsBetween now
    → (a : AnswerOf) (new : ManagerView) → TakesAnswer now (Some a) new → Ends before q a new
ends reads writes failed keeps counts before ready number q now goes between a new t =
    subst (λ (v : ManagerView). Ends before q a v) (sym t.3)
    (ends_with reads writes failed keeps counts before ready number q now goes between (served_by before ready number q now goes a t.0 t.1) a t.0 t.1)
