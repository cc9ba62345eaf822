-- Each step of a piece at the disk is one of the partitions' machine.
use Rattle.std.proofs.Common.{◌≡◌, ◌<◌, ◌≤◌, ◌⊎◌, inl, inr, ℕ, ◌+◌, ◌/◌, Bool, true, false, List, [], ◌∷◌, Option, Some, None, refl, sym, ◌∙◌, ap, subst, arith, map, length, get_or, set, replicate}
use Rattle.partition.proofs.Common.{zero, suc, if◌then◌else◌, IsPermutation, IsTrue, IsNone, All, Any, Contains, unwrap_or, slice_get, slice_range, slice_set, mul-div_cancel, cases_lt, slice_get-get_or, slice_get_past, length-replicate, IsPermutation-sym, IsPermutation-map, All-permutation, Contains-permutation, All-map, All-contains, Extent, IsIn, sectors_in, splice, length-splice, IsPlain, Means, DeviceLabel, Start, Act, Fault, Return, Kind, Read, Write, Flush, ClientRequest, Request, Rules, is_transfer, first_sector, home, Mark, Out, OpenRequest, Piece, State, IsSame, Starts, Acts, IsInTurn, IsFreshPiece, Transfers, partition_number, written, array_at, command_for, read_command, write_command, DeviceStep, Run, as_label, AreDistinct, IsPlaced, ArePlaced, IsPartition, IsMap, IsSame-sym, AreDistinct-same, AreDistinct-DeviceStep, All-changed, ArePlaced-same, ArePlaced-DeviceStep, leaves, get_or-splice_below, get_or-splice_above, Owns, owns, count_at, home_at, parts, read_at, write_at, home_inside, Packet, asked, rules_over, as_called, on_partitions, IsWholeDisk, LiesInside}
use Rattle.partition.proofs.Noted.{Contains-map}

-- THE SECTORS OF NO PARTITION

-- they stay as they are
pub record Keeps (table : List Extent) (old new : List (List ℕ)) : Type 0 where
  pub same_length : length new ≡ length old
  pub outside : (i : ℕ) → (Any (IsIn i) table → ⊥) → slice_get new i ≡ slice_get old i

pub Keeps-none : (table : List Extent) (sectors : List (List ℕ)) → Keeps table sectors sectors
Keeps-none table sectors = record { same_length = refl; outside = λ i apart. refl }

-- sector i of a partition and those after it
home_more : (table : List Extent) (p i n : ℕ) → home_at table p (i + n) ≡ home_at table p i + n
home_more table p i n = by (slice_get table p)
  where
    by : (found : Option Extent)
        → elim found [ Some extent ↦ extent.first + (i + n) | None ↦ i + n ] ≡ elim found [ Some extent ↦ extent.first + i | None ↦ i ] + n
    by None = refl
    by (Some extent) = omega arith

-- a sector of no partition is none of those that begin at sector a of partition p
apart_from : (table : List Extent) (p a n i : ℕ) → 0 < n → a + n ≤ count_at table p → (Any (IsIn i) table → ⊥)
    → (i < home_at table p a) ⊎ (home_at table p a + n ≤ i)
apart_from [] p a n i some fits apart = absurd (omega arith)
apart_from (e ∷ es) (suc p) a n i some fits apart = apart_from es p a n i some fits (λ h. apart (behind h))
  where
    behind : Any (IsIn i) es → Any (IsIn i) (e ∷ es)
    behind (k, x, low, is, h) = (suc k, x, omega arith, is, h)
apart_from (e ∷ es) zero a n i some fits apart = elim (cases_lt i e.first) [
  | inl below ↦ inl (omega arith)
  | inr from ↦ elim (cases_lt i (e.first + e.count)) [
    | inl within ↦ absurd (apart (0, e, omega arith, refl, (from, within)))
    | inr past ↦ inr (omega arith)
  ]
]

Keeps-splice : (table : List Extent) (p a : ℕ) (more sectors : List (List ℕ)) → 0 < length more → a + length more ≤ count_at table p
    → All (IsPartition (length sectors)) table
    → Keeps table sectors (splice sectors (home_at table p a) more)
Keeps-splice table p a more sectors some fits all =
    let inside : home_at table p a + length more ≤ length sectors = home_inside table p a (length more) (length sectors) some fits all in
    let same : length (splice sectors (home_at table p a) more) ≡ length sectors = length-splice sectors (home_at table p a) more inside in
    let front : home_at table p a ≤ length sectors = omega arith in
    record {
      same_length = same;
      outside =
          λ i apart. slice_get-same (splice sectors (home_at table p a) more) sectors i same
          (elim (apart_from table p a (length more) i some fits apart) [
            | inl below ↦ get_or-splice_below sectors (home_at table p a) more i [] front below
            | inr past ↦ get_or-splice_above sectors (home_at table p a) more i [] front past
          ]);
    }
  where
    slice_get-same : (xs ys : List (List ℕ)) (i : ℕ) → length xs ≡ length ys → get_or xs i [] ≡ get_or ys i []
        → slice_get xs i ≡ slice_get ys i
    slice_get-same xs ys i same e = elim (cases_lt i (length xs)) [
      | inl low ↦ slice_get-get_or xs i [] low ∙ ap Some e ∙ sym (slice_get-get_or ys i [] (omega arith))
      | inr past ↦ slice_get_past xs i past ∙ sym (slice_get_past ys i (omega arith))
    ]

-- one array put in place of the only one
set_only : (arrays : List (List (List ℕ))) (old new : List (List ℕ)) → arrays ≡ old ∷ [] → slice_set arrays 0 new ≡ new ∷ []
set_only arrays old new one = ap (λ ys. set ys 0 new) one

-- THE DISK BELOW

-- its machine, and what the packets note of its open requests
pub record Stands (below : Rules) (table : List Extent) (packets : List Packet) (s : State) : Type 0 where
  pub whole : IsWholeDisk below
  pub partitions : IsMap below.disk_sectors table
  pub some_bytes : 0 < below.sector_size
  pub disk : List (List ℕ)
  pub arrays : s.arrays ≡ disk ∷ []
  pub covers : length disk ≡ below.disk_sectors
  pub requests : All (LiesInside (rules_over table below) packets) s.requests
  pub distinct : AreDistinct s
  pub placed : ArePlaced s
  pub none_owed : IsNone s.owed

module _ (below : Rules) (table : List Extent) (packets : List Packet) where
  abbrev over : Rules
  over = rules_over table below

  abbrev up : State → State
  up s = on_partitions over packets s

  abbrev as_up : OpenRequest → OpenRequest
  as_up o = as_called over packets o

  -- what the packet of an open request notes
  abbrev noted : OpenRequest → Request
  noted o = asked packets o.number

  -- the sectors of partition p that the disk has
  abbrev all_parts : State → List (List (List ℕ))
  all_parts s = parts (array_at s.arrays 0) table

  pub IsSame-up : (s t : State) → IsSame s t → IsSame (up s) (up t)
  IsSame-up s t h = record {
    arrays = ap (λ arrays. map (sectors_in (array_at arrays 0)) table) h.arrays;
    next_request = h.next_request;
    next_piece = h.next_piece;
    requests = IsPermutation-map as_up _ _ h.requests;
    pieces = h.pieces;
    owed = h.owed;
    paused = h.paused;
    removing = h.removing;
    removed = h.removed;
  }

  -- with the disk as the only volume, a sector of it is where its number says
  home_of_disk : (i : ℕ) → IsWholeDisk below → home below (Some 0) i ≡ i
  home_of_disk i whole = rw whole (omega arith)

  -- REQUESTS OF THE DISK THAT LIE IN A PARTITION

  -- what a request asks of its partition and of the disk
  record IsAt (o : OpenRequest) : Type 0 where
    on_disk : o.request.partition ≡ Some 0
    from : first_sector over (as_up o).request ≡ (noted o).extent.first
    sector : first_sector below o.request ≡ home_at table (noted o).volume (noted o).extent.first

  is_at : (o : OpenRequest) → 0 < below.sector_size → LiesInside over packets o → IsAt o
  is_at o some h = record {
    on_disk = ap (λ (q : ClientRequest). q.partition) h.is_asked;
    from = mul-div_cancel (noted o).extent.first some;
    sector =
        ap (λ (q : ClientRequest). q.offset / below.sector_size) h.is_asked
        ∙ mul-div_cancel (home_at table (noted o).volume (noted o).extent.first) some;
  }

  -- what a piece of a request has
  record IsPart (o : OpenRequest) (places : Extent) : Type 0 where
    number : partition_number o.request ≡ 0
    at : first_sector below o.request + places.first ≡ home_at table (noted o).volume (first_sector over (as_up o).request + places.first)
    some : 0 < places.count
    fits : IsTrue (is_transfer o.request.kind)
        → first_sector over (as_up o).request + places.first + places.count ≤ count_at table (noted o).volume

  is_part : (s : State) (o : OpenRequest) (p : Piece) → Stands below table packets s → Contains s.requests o → Contains s.pieces p
      → o.number ≡ p.owner → IsPart o p.places
  is_part s o p k is_open is_out owner =
      let lies : LiesInside over packets o = All-contains (LiesInside over packets) s.requests o k.requests is_open in
      let mine : Owns o p = owns s k.placed o p is_open is_out owner in
      let here : IsAt o = is_at o k.some_bytes lies in
      record {
        number = ap (λ x. unwrap_or x 0) here.on_disk;
        at = located o p.places here;
        some = mine.some;
        fits = λ transfer. inside o p mine lies here transfer;
      }
    where
      located : (o : OpenRequest) (places : Extent) → IsAt o
          → first_sector below o.request + places.first
          ≡ home_at table (noted o).volume (first_sector over (as_up o).request + places.first)
      located o places here =
          ap (λ m. m + places.first) (here.sector ∙ ap (λ m. home_at table (noted o).volume m) (sym here.from))
          ∙ sym (home_more table (noted o).volume (first_sector over (as_up o).request) places.first)

      length_is : (o : OpenRequest) → LiesInside over packets o → IsTrue (is_transfer o.request.kind)
          → length o.marks ≡ (noted o).extent.count
      length_is o lies transfer =
          lies.all_places
          ∙ rw transfer
          (ap (λ (q : ClientRequest). q.length / below.sector_size) lies.is_asked ∙ mul-div_cancel (noted o).extent.count k.some_bytes)

      inside : (o : OpenRequest) (p : Piece) → Owns o p → LiesInside over packets o → IsAt o → IsTrue (is_transfer o.request.kind)
          → first_sector over (as_up o).request + p.places.first + p.places.count ≤ count_at table (noted o).volume
      inside o p mine lies here transfer =
          let a : p.places.first + p.places.count ≤ length o.marks = mine.inside in
          let b : length o.marks ≡ (noted o).extent.count = length_is o lies transfer in
          let c : (noted o).extent.first + (noted o).extent.count ≤ count_at table (noted o).volume = lies.bounded.inside in
          let d : first_sector over (as_up o).request ≡ (noted o).extent.first = here.from in
          omega arith

  -- the command for places of the request asks for the same sectors
  command_is : (o : OpenRequest) (places : Extent) (kind : Kind) → IsWholeDisk below → IsAt o
      → command_for below o.request places kind ≡ command_for over (as_up o).request places kind
  command_is o places kind whole here = by_kind kind
    where
      same : home below o.request.partition (first_sector below o.request + places.first)
          ≡ home over (as_up o).request.partition (first_sector over (as_up o).request + places.first)
      same =
          ap (λ part. home below part (first_sector below o.request + places.first)) here.on_disk
          ∙ home_of_disk (first_sector below o.request + places.first) whole
          ∙ ap (λ m. m + places.first) (here.sector ∙ ap (λ m. home_at table (noted o).volume m) (sym here.from))
          ∙ sym (home_more table (noted o).volume (first_sector over (as_up o).request) places.first)

      by_kind : (kind : Kind) → command_for below o.request places kind ≡ command_for over (as_up o).request places kind
      by_kind Read = ap (λ lba. read_command lba places.count o.request.through) same
      by_kind Write = ap (λ lba. write_command lba places.count o.request.through) same
      by_kind Flush = refl

  -- WHAT AN ACT MOVES

  pub only_array : (s : State) → Stands below table packets s → s.arrays ≡ array_at s.arrays 0 ∷ []
  only_array s k = k.arrays ∙ ap (λ arrays. array_at arrays 0 ∷ []) (sym k.arrays)

  -- the disk after a write
  written_is : (s : State) (o : OpenRequest) (places : Extent) (sectors : List (List ℕ)) → Stands below table packets s → IsPart o places
      → written below s o.request places sectors
      ≡ splice (array_at s.arrays 0) (home_at table (noted o).volume (first_sector over (as_up o).request + places.first)) sectors ∷ []
  written_is s o places sectors k mine =
      ap (λ i. slice_set s.arrays i (splice (array_at s.arrays i) (first_sector below o.request + places.first) sectors)) mine.number
      ∙ set_only s.arrays k.disk (splice (array_at s.arrays 0) (first_sector below o.request + places.first) sectors) k.arrays
      ∙ ap (λ m. splice (array_at s.arrays 0) m sectors ∷ []) mine.at

  size_of_disk : (s : State) → Stands below table packets s → length (array_at s.arrays 0) ≡ below.disk_sectors
  size_of_disk s k = ap (λ arrays. length (array_at arrays 0)) k.arrays ∙ k.covers

  all_inside : (s : State) → Stands below table packets s → All (IsPartition (length (array_at s.arrays 0))) table
  all_inside s k = subst (λ n. All (IsPartition n) table) (sym (size_of_disk s k)) k.partitions.each

  written_over : (s : State) (o : OpenRequest) (places : Extent) (sectors : List (List ℕ)) (arrays' : List (List (List ℕ)))
      → Stands below table packets s → IsPart o places
      → IsTrue (is_transfer o.request.kind) → length sectors ≡ places.count
      → (faithful : Bool) → arrays' ≡ (if faithful then written below s o.request places sectors else s.arrays)
      → map (sectors_in (array_at arrays' 0)) table
      ≡ (if faithful then written over (up s) (as_up o).request places sectors else (up s).arrays)
  written_over s o places sectors arrays' k mine transfer covers false e = ap (λ arrays. map (sectors_in (array_at arrays 0)) table) e
  written_over s o places sectors arrays' k mine transfer covers true e =
      let from : ℕ = first_sector over (as_up o).request + places.first in
      let fits : from + length sectors ≤ count_at table (noted o).volume = let f : _ ≤ _ = mine.fits transfer in omega arith in
      let some : 0 < length sectors = let n : _ < _ = mine.some in omega arith in
      ap (λ arrays. map (sectors_in (array_at arrays 0)) table) (e ∙ written_is s o places sectors k mine)
      ∙ write_at table (noted o).volume from sectors (array_at s.arrays 0) some fits (all_inside s k) k.partitions.apart

  moves_is : (s : State) (o : OpenRequest) (places : Extent) (kind : Kind) (sectors : List (List ℕ)) (arrays' : List (List (List ℕ)))
      → Stands below table packets s → IsPart o places
      → o.request.kind ≡ kind → length sectors ≡ places.count → Transfers below s o.request places kind sectors arrays'
      → Transfers over (up s) (as_up o).request places kind sectors (map (sectors_in (array_at arrays' 0)) table)
  moves_is s o places Read sectors arrays' k mine is_kind covers h =
      let begins : ℕ = first_sector below o.request + places.first in
      let from : ℕ = first_sector over (as_up o).request + places.first in
      let fits : from + places.count ≤ count_at table (noted o).volume = mine.fits (ap is_transfer is_kind) in (
        λ faithful. h.0 faithful
            ∙ ap (λ i. slice_range (array_at s.arrays i) begins (begins + places.count)) mine.number
            ∙ ap (λ m. slice_range (array_at s.arrays 0) m (m + places.count)) mine.at
            ∙ sym (read_at table (noted o).volume from places.count (array_at s.arrays 0) mine.some fits),
        h.1,
        ap (λ arrays. map (sectors_in (array_at arrays 0)) table) h.2,
      )
  moves_is s o places Write sectors arrays' k mine is_kind covers h =
      (h.0, h.1, written_over s o places sectors arrays' k mine (ap is_transfer is_kind) covers below.faithful h.2)
  moves_is s o places Flush sectors arrays' k mine is_kind covers h =
      (h.0, ap (λ arrays. map (sectors_in (array_at arrays 0)) table) h.1)

  -- the disk's array after an act
  written_keeps : (s : State) (o : OpenRequest) (places : Extent) (sectors : List (List ℕ)) (arrays' : List (List (List ℕ)))
      → Stands below table packets s → IsPart o places
      → IsTrue (is_transfer o.request.kind) → length sectors ≡ places.count
      → (faithful : Bool) → arrays' ≡ (if faithful then written below s o.request places sectors else s.arrays)
      → (new : List (List ℕ)) × (arrays' ≡ new ∷ []) × Keeps table (array_at s.arrays 0) new
  written_keeps s o places sectors arrays' k mine transfer covers false e =
      (array_at s.arrays 0, e ∙ only_array s k, Keeps-none table (array_at s.arrays 0))
  written_keeps s o places sectors arrays' k mine transfer covers true e =
      let from : ℕ = first_sector over (as_up o).request + places.first in
      let fits : from + length sectors ≤ count_at table (noted o).volume = let f : _ ≤ _ = mine.fits transfer in omega arith in
      let some : 0 < length sectors = let n : _ < _ = mine.some in omega arith in (
        splice (array_at s.arrays 0) (home_at table (noted o).volume from) sectors,
        e ∙ written_is s o places sectors k mine,
        Keeps-splice table (noted o).volume from sectors (array_at s.arrays 0) some fits (all_inside s k),
      )

  moves_keep : (s : State) (o : OpenRequest) (places : Extent) (kind : Kind) (sectors : List (List ℕ)) (arrays' : List (List (List ℕ)))
      → Stands below table packets s → IsPart o places
      → o.request.kind ≡ kind → length sectors ≡ places.count → Transfers below s o.request places kind sectors arrays'
      → (new : List (List ℕ)) × (arrays' ≡ new ∷ []) × Keeps table (array_at s.arrays 0) new
  moves_keep s o places Read sectors arrays' k mine is_kind covers h =
      (array_at s.arrays 0, h.2 ∙ only_array s k, Keeps-none table (array_at s.arrays 0))
  moves_keep s o places Write sectors arrays' k mine is_kind covers h =
      written_keeps s o places sectors arrays' k mine (ap is_transfer is_kind) covers below.faithful h.2
  moves_keep s o places Flush sectors arrays' k mine is_kind covers h =
      (array_at s.arrays 0, h.1 ∙ only_array s k, Keeps-none table (array_at s.arrays 0))

  -- WHAT THE STEPS KEEP

  lies_marked : (o : OpenRequest) (marks : List Mark) (busy : ℕ) → length marks ≡ length o.marks → LiesInside over packets o
      → LiesInside over packets (record o { marks = marks; busy_returns = busy })
  lies_marked o marks busy same h = record { bounded = h.bounded; is_asked = h.is_asked; all_places = same ∙ h.all_places }

  -- the array and the requests may change, as long as they lie there
  pub moved : (s : State) → Stands below table packets s → (t : State) (new : List (List ℕ)) → t.arrays ≡ new ∷ []
      → length new ≡ length (array_at s.arrays 0)
      → All (LiesInside over packets) t.requests → AreDistinct t → ArePlaced t → IsNone t.owed → Stands below table packets t
  moved s k t new arrays same requests distinct placed none_owed = record {
    whole = k.whole;
    partitions = k.partitions;
    some_bytes = k.some_bytes;
    disk = new;
    arrays = arrays;
    covers = same ∙ size_of_disk s k;
    requests = requests;
    distinct = distinct;
    placed = placed;
    none_owed = none_owed;
  }

  pub Stands-same : (s t : State) → IsSame s t → Stands below table packets s → Stands below table packets t
  Stands-same s t h k =
      moved s k t (array_at s.arrays 0) (sym h.arrays ∙ only_array s k) refl
      (All-permutation (LiesInside over packets) _ _ h.requests k.requests)
      (AreDistinct-same t s (IsSame-sym s t h) k.distinct) (ArePlaced-same t s (IsSame-sym s t h) k.placed) (rw (← h.owed) k.none_owed)

  first_out : (s : State) (p : Piece) (others : List Piece) → IsPermutation s.pieces (p ∷ others) → Contains s.pieces p
  first_out s p others q = Contains-permutation _ _ p (IsPermutation-sym _ _ q) (0, omega arith, refl)

  first_open : (s : State) (o : OpenRequest) (others : List OpenRequest) → IsPermutation s.requests (o ∷ others) → Contains s.requests o
  first_open s o others q = Contains-permutation _ _ o (IsPermutation-sym _ _ q) (0, omega arith, refl)

  -- the disk's array after a step
  pub DeviceStep-keeps : (s : State) (label : DeviceLabel) (s' : State) → Stands below table packets s → DeviceStep below s label s'
      → (new : List (List ℕ)) × (s'.arrays ≡ new ∷ []) × Keeps table (array_at s.arrays 0) new
  DeviceStep-keeps s (Start piece tag block) s' k h =
      (array_at s.arrays 0, h.after.arrays ∙ only_array s k, Keeps-none table (array_at s.arrays 0))
  DeviceStep-keeps s (Act number bytes) s' k h =
      let mine : IsPart h.owner h.piece.places =
      is_part s h.owner h.piece k h.is_open (first_out s h.piece h.other_pieces h.fresh.is_out) h.is_owner in
      let m : (new : List (List ℕ)) × (h.arrays' ≡ new ∷ []) × Keeps table (array_at s.arrays 0) new =
      moves_keep s h.owner h.piece.places h.owner.request.kind h.sectors h.arrays' k mine refl h.covers h.moves in
      (m.0, h.after.arrays ∙ m.1, m.2)
  DeviceStep-keeps s (Fault piece) s' k h = (array_at s.arrays 0, h.after.arrays ∙ only_array s k, Keeps-none table (array_at s.arrays 0))
  DeviceStep-keeps s (Return piece class) s' k h =
      (array_at s.arrays 0, h.after.arrays ∙ only_array s k, Keeps-none table (array_at s.arrays 0))

  -- the requests after a step
  requests_lie : (s : State) (label : DeviceLabel) (s' : State) → Stands below table packets s → DeviceStep below s label s'
      → All (LiesInside over packets) s'.requests
  requests_lie s (Start piece tag block) s' k h =
      let fits : h.places.first + length (replicate h.places.count Out) ≤ length h.owner.marks =
      rw (length-replicate h.places.count Out) h.sendable.inside in
      let same : length (splice h.owner.marks h.places.first (replicate h.places.count Out)) ≡ length h.owner.marks =
      length-splice h.owner.marks h.places.first (replicate h.places.count Out) fits in
      All-permutation (LiesInside over packets) _ _ (IsPermutation-sym _ _ h.after.requests)
      (All-changed (LiesInside over packets) s.requests h.owner _ h.others h.is_open k.requests
      (lies_marked h.owner _ h.owner.busy_returns same))
  requests_lie s (Act number bytes) s' k h =
      All-permutation (LiesInside over packets) _ _ (IsPermutation-sym _ _ h.after.requests) k.requests
  requests_lie s (Fault piece) s' k h = All-permutation (LiesInside over packets) _ _ (IsPermutation-sym _ _ h.after.requests) k.requests
  requests_lie s (Return number class) s' k h =
      let is_out : Contains s.pieces h.piece = first_out s h.piece h.other_pieces h.is_out in
      let placed : IsPlaced s.requests h.piece = All-contains (IsPlaced s.requests) s.pieces h.piece k.placed.pieces is_out in
      let long : length h.marks ≡ h.piece.places.count = (leaves h.piece class h.marks placed.filled h.leaves).0 in
      let mine : Owns h.owner h.piece = owns s k.placed h.owner h.piece (first_open s h.owner h.others h.is_open) is_out h.is_owner in
      let inside : h.piece.places.first + h.piece.places.count ≤ length h.owner.marks = mine.inside in
      let same : length (splice h.owner.marks h.piece.places.first h.marks) ≡ length h.owner.marks =
      length-splice h.owner.marks h.piece.places.first h.marks (omega arith) in
      All-permutation (LiesInside over packets) _ _ (IsPermutation-sym _ _ h.after.requests)
      (All-changed (LiesInside over packets) s.requests h.owner _ h.others h.is_open k.requests (lies_marked h.owner _ _ same))

  owes_still : (s : State) (label : DeviceLabel) (s' : State) → DeviceStep below s label s' → s'.owed ≡ s.owed
  owes_still s (Start piece tag block) s' h = h.after.owed
  owes_still s (Act number bytes) s' h = h.after.owed
  owes_still s (Fault piece) s' h = h.after.owed
  owes_still s (Return piece class) s' h = h.after.owed

  pub Stands-DeviceStep : (s : State) (label : DeviceLabel) (s' : State) → Stands below table packets s → DeviceStep below s label s'
      → Stands below table packets s'
  Stands-DeviceStep s label s' k h =
      let a : (new : List (List ℕ)) × (s'.arrays ≡ new ∷ []) × Keeps table (array_at s.arrays 0) new = DeviceStep-keeps s label s' k h in
      moved s k s' a.0 a.1 a.2.same_length (requests_lie s label s' k h) (AreDistinct-DeviceStep below s label s' k.distinct h)
      (ArePlaced-DeviceStep below s label s' k.distinct k.placed h)
      (rw (owes_still s label s' h) k.none_owed)

  -- THE STEPS

  fresh_is : (s : State) (number : ℕ) (p : Piece) (others : List Piece) → IsFreshPiece s number p others
      → IsFreshPiece (up s) number p others
  fresh_is s number p others h = record { is_out = h.is_out; is_number = h.is_number; is_fresh = h.is_fresh }

  Starts-over : (s : State) (number tag : ℕ) (block : List ℕ) (s' : State) → Stands below table packets s
      → Starts below s number tag block s' → Starts over (up s) number tag block (up s')
  Starts-over s number tag block s' k h =
      let lies : LiesInside over packets h.owner =
      All-contains (LiesInside over packets) s.requests h.owner k.requests (first_open s h.owner h.others h.is_open) in
      let same : command_for below h.owner.request h.places h.owner.request.kind ≡ command_for over
      (as_up h.owner).request h.places h.owner.request.kind =
      command_is h.owner h.places h.owner.request.kind k.whole (is_at h.owner k.some_bytes lies) in
      record {
        owner = as_up h.owner;
        others = map as_up h.others;
        places = h.places;
        next_number = h.next_number;
        on_tag = h.on_tag;
        is_open = IsPermutation-map as_up _ _ h.is_open;
        may_start = record {
          not_cancelled = h.may_start.not_cancelled;
          not_removing = h.may_start.not_removing;
          not_held = h.may_start.not_held;
          in_turn = All-map (IsInTurn (as_up h.owner)) as_up s.requests h.may_start.in_turn;
        };
        sendable = record {
          some = h.sendable.some;
          short = h.sendable.short;
          inside = h.sendable.inside;
          unsent = h.sendable.unsent;
          begins = h.sendable.begins;
          spare = h.sendable.spare;
          whole = λ one. record { all_places = (h.sendable.whole one).all_places; not_before = (h.sendable.whole one).not_before };
        };
        asks = subst (λ command. Means block command) same h.asks;
        plain = subst (λ command. IsPlain block command) same h.plain;
        after = IsSame-up s' _ h.after;
      }

  Acts-over : (s : State) (number : ℕ) (bytes : List ℕ) (s' : State) → Stands below table packets s → Acts below s number bytes s'
      → Acts over (up s) number bytes (up s')
  Acts-over s number bytes s' k h =
      let mine : IsPart h.owner h.piece.places =
      is_part s h.owner h.piece k h.is_open (first_out s h.piece h.other_pieces h.fresh.is_out) h.is_owner in
      record {
        piece = h.piece;
        other_pieces = h.other_pieces;
        owner = as_up h.owner;
        sectors = h.sectors;
        arrays' = map (sectors_in (array_at h.arrays' 0)) table;
        fresh = fresh_is s number h.piece h.other_pieces h.fresh;
        is_open = Contains-map as_up s.requests h.owner h.is_open;
        is_owner = h.is_owner;
        covers = h.covers;
        moves = moves_is s h.owner h.piece.places h.owner.request.kind h.sectors h.arrays' k mine refl h.covers h.moves;
        hands_over = h.hands_over;
        after = IsSame-up s' _ h.after;
      }

  pub DeviceStep-over : (s : State) (label : DeviceLabel) (s' : State) → Stands below table packets s → DeviceStep below s label s'
      → DeviceStep over (up s) label (up s')
  DeviceStep-over s (Start number tag block) s' k h = Starts-over s number tag block s' k h
  DeviceStep-over s (Act number bytes) s' k h = Acts-over s number bytes s' k h
  DeviceStep-over s (Fault number) s' k h = record {
    piece = h.piece;
    other_pieces = h.other_pieces;
    fresh = fresh_is s number h.piece h.other_pieces h.fresh;
    after = IsSame-up s' _ h.after;
  }
  DeviceStep-over s (Return number class) s' k h = record {
    piece = h.piece;
    other_pieces = h.other_pieces;
    owner = as_up h.owner;
    others = map as_up h.others;
    marks = h.marks;
    is_out = h.is_out;
    is_number = h.is_number;
    is_open = IsPermutation-map as_up _ _ h.is_open;
    is_owner = h.is_owner;
    leaves = h.leaves;
    after = IsSame-up s' _ h.after;
  }

  -- a run of such steps
  pub Run-over : (labels : List DeviceLabel) (s s' : State) → Stands below table packets s → Run below s (map as_label labels) s'
      → Run over (up s) (map as_label labels) (up s') × Stands below table packets s'
  Run-over [] s s' k run = (IsSame-up s s' run, Stands-same s s' run k)
  Run-over (label ∷ labels) s s' k (mid, inl (free, step), run) =
      let rest : Run over (up mid) (map as_label labels) (up s') × Stands below table packets s' =
      Run-over labels mid s' (Stands-DeviceStep s label mid k step) run in
      ((up mid, inl (free, DeviceStep-over s label mid k step), rest.0), rest.1)
  Run-over (label ∷ labels) s s' k (mid, inr none, run) = absurd none

  -- and what it keeps of the disk
  Keeps-then : (first second third : List (List ℕ)) → Keeps table first second → Keeps table second third → Keeps table first third
  Keeps-then first second third h k =
      record { same_length = k.same_length ∙ h.same_length; outside = λ i apart. k.outside i apart ∙ h.outside i apart }

  pub Run-keeps : (labels : List DeviceLabel) (s s' : State) → Stands below table packets s → Run below s (map as_label labels) s'
      → Keeps table (array_at s.arrays 0) (array_at s'.arrays 0)
  Run-keeps [] s s' k run =
      subst (λ arrays. Keeps table (array_at s.arrays 0) (array_at arrays 0)) run.arrays (Keeps-none table (array_at s.arrays 0))
  Run-keeps (label ∷ labels) s s' k (mid, inl (free, step), run) =
      let a : (new : List (List ℕ)) × (mid.arrays ≡ new ∷ []) × Keeps table (array_at s.arrays 0) new =
      DeviceStep-keeps s label mid k step in
      let first : Keeps table (array_at s.arrays 0) (array_at mid.arrays 0) =
      subst (λ arrays. Keeps table (array_at s.arrays 0) (array_at arrays 0)) (sym a.1) a.2 in
      Keeps-then _ _ _ first (Run-keeps labels mid s' (Stands-DeviceStep s label mid k step) run)
  Run-keeps (label ∷ labels) s s' k (mid, inr none, run) = absurd none
