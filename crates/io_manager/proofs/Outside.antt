-- A piece writes inside a partition, so no step writes outside all of them.
use Rattle.std.proofs.Common.{◌≡◌, ◌<◌, ◌≤◌, inl, inr, ℕ, zero, suc, ◌+◌, Bool, true, false, List, [], ◌∷◌, Option, Some, None, refl, sym, ◌∙◌, ap, subst, arith, map, length, get_or}
use Rattle.std.specs.Prelude.{IsPermutation, All, Any, slice_get, is_some, unwrap_or, if◌then◌else◌}
use Rattle.io_manager.proofs.Common.{Need, cases_lt, slice_get-get_or, slice_get_past, IsPermutation-sym, All-permutation, All-head, All-tail, All-cons, Extent, IsIn, splice, length-splice, Cdb, Read10, Write10, Sync10, ReadCapacity10, Read16, Write16, Sync16, ReadCapacity16, Means, AsksToWrite, means_once, DeviceLabel, Start, Act, Fault, Return, AdapterView, TagInUse, ReservesMore, NotesReset, met_by_reset, MovesOn, MovesByAll, acted, faulted, in_use_from, CarriesOut, Srb, Kind, Read, Write, Flush, ClientRequest, Rules, first_sector, place_count, is_transfer, sectors_of, home, Starts, command_for, partition_number, DeviceStep, Run, as_label, past, get_or-splice_below, get_or-splice_above, IsSized, KeepsOutside, ReservesFor, LieIn, WritesInside, AllWriteInside}
use Rattle.machine.specs.State.{OpenRequest, State}
use Rattle.machine_laws.proofs.Sound.{IsSound, IsSound-Step}
use Rattle.io_manager.proofs.AdapterJoins.{reserves_more}
use Rattle.io_manager.proofs.Askings.{all_asked, device_keeps}

-- A LIST OF PARTITIONS

further : {X : Type 0} (P : X → Type 0) (x : X) (xs : List X) → Any P xs → Any P (x ∷ xs)
further P x xs (k, y, low, is, h) = (suc k, y, omega arith, is, h)

-- the sectors of some places of a partition lie in it
lies_in : (partitions : List Extent) (p a n : ℕ) → 0 < n → a + n ≤ (elim (slice_get partitions p) as (λ _. ℕ) [ Some extent ↦ extent.count | None ↦ 0 ])
    → Any (LieIn (elim (slice_get partitions p) as (λ _. ℕ) [ Some extent ↦ extent.first + a | None ↦ a ]) n) partitions
lies_in [] zero a n some fits = absurd (omega arith)
lies_in [] (suc p) a n some fits = absurd (omega arith)
lies_in (e ∷ es) zero a n some fits = (0, e, omega arith, refl, record { from = omega arith; to = omega arith })
lies_in (e ∷ es) (suc p) a n some fits = further (LieIn _ n) e es (lies_in es p a n some fits)

-- WHAT A PIECE ASKS TO WRITE

-- the request has a partition
abbrev pub IsOnPartition : ClientRequest → Type 0
IsOnPartition q = is_some q.partition ≡ true

abbrev pub HasPartition : OpenRequest → Type 0
HasPartition o = IsOnPartition o.request

-- a command that writes these sectors
abbrev IsWriteOf : ℕ → ℕ → Cdb → Type 0
IsWriteOf lba count (Write10 l n f) = (l ≡ lba) × (n ≡ count)
IsWriteOf lba count (Write16 l n f) = (l ≡ lba) × (n ≡ count)
IsWriteOf lba count (Read10 l n f) = ⊥
IsWriteOf lba count (Read16 l n f) = ⊥
IsWriteOf lba count (Sync10 l n) = ⊥
IsWriteOf lba count (Sync16 l n) = ⊥
IsWriteOf lba count ReadCapacity10 = ⊥
IsWriteOf lba count (ReadCapacity16 a) = ⊥

asked_is : (block : List ℕ) (lba count : ℕ) (fua : Bool) (c : Cdb) → AsksToWrite block lba count fua → Means block c → IsWriteOf lba count c
asked_is block lba count fua c (inl short) means = subst (IsWriteOf lba count) (means_once block (Write10 lba count fua) c short means) (refl, refl)
asked_is block lba count fua c (inr long) means = subst (IsWriteOf lba count) (means_once block (Write16 lba count fua) c long means) (refl, refl)

-- only a write asks to write, and just its sectors
write_is : (lba count l n : ℕ) (fua : Bool) (b : Bool) → IsWriteOf lba count (if b then Write10 l n fua else Write16 l n fua) → (l ≡ lba) × (n ≡ count)
write_is lba count l n fua true h = h
write_is lba count l n fua false h = h

read_is : (lba count l n : ℕ) (fua : Bool) (b : Bool) → IsWriteOf lba count (if b then Read10 l n fua else Read16 l n fua) → ⊥
read_is lba count l n fua true h = h
read_is lba count l n fua false h = h

flush_is : (lba count : ℕ) (b : Bool) → IsWriteOf lba count (if b then Sync10 0 0 else Sync16 0 0) → ⊥
flush_is lba count true h = h
flush_is lba count false h = h

module _ (rules : Rules) where
  command_inside : (q : ClientRequest) (first n lba count : ℕ) (kind : Kind) → q.kind ≡ kind → IsOnPartition q → 0 < n
      → first + n ≤ place_count rules q → (is_transfer q.kind ≡ true → past rules q ≤ sectors_of rules (Some (partition_number q)))
      → IsWriteOf lba count (command_for rules q (record { first = first; count = n }) kind) → Any (LieIn lba count) rules.partitions
  command_inside q first n lba count Read same given some within sized h = absurd (read_is lba count _ n q.through _ h)
  command_inside q first n lba count Flush same given some within sized h = absurd (flush_is lba count _ h)
  command_inside q first n lba count Write same given some within sized h =
      let is : _ × (n ≡ count) = write_is lba count _ n q.through _ h in
      at_partition q.partition refl given is.0 is.1
    where
      at_partition : (p : Option ℕ) → q.partition ≡ p → is_some p ≡ true → home rules q.partition (first_sector rules q + first) ≡ lba → n ≡ count → Any (LieIn lba count) rules.partitions
      at_partition None e given at counted = cc (given)
      at_partition (Some p) e given at counted =
          let fits : first_sector rules q + place_count rules q ≤ sectors_of rules (Some (partition_number q)) = sized (ap is_transfer same) in
          let number : partition_number q ≡ p = ap (λ o. unwrap_or o 0) e in
          let fits' : first_sector rules q + place_count rules q ≤ sectors_of rules (Some p) = subst (λ m. first_sector rules q + place_count rules q ≤ sectors_of rules (Some m)) number fits in
          let inside : first_sector rules q + first + n ≤ sectors_of rules (Some p) = omega arith in
          let at' : home rules (Some p) (first_sector rules q + first) ≡ lba = ap (λ o. home rules o (first_sector rules q + first)) (sym e) ∙ at in
          subst (λ m. Any (LieIn lba m) rules.partitions) counted
          (subst (λ l. Any (LieIn l n) rules.partitions) at' (lies_in rules.partitions p (first_sector rules q + first) n some inside))

  pub start_inside : (s : State) (piece tag : ℕ) (block : List ℕ) (s' : State) → IsSound rules s → All HasPartition s.requests → Starts rules s piece tag block s'
      → (lba count : ℕ) (fua : Bool) → AsksToWrite block lba count fua → Any (LieIn lba count) rules.partitions
  start_inside s piece tag block s' sound given h lba count fua asks =
      let sized : IsSized rules h.owner = All-head (IsSized rules) h.owner h.others (All-permutation (IsSized rules) _ _ h.is_open sound.1.sized) in
      let here : HasPartition h.owner = All-head HasPartition h.owner h.others (All-permutation HasPartition _ _ h.is_open given) in
      let a : h.places.first + h.places.count ≤ length h.owner.marks = h.sendable.inside in
      let b : length h.owner.marks ≡ place_count rules h.owner.request = sized.places in
      command_inside h.owner.request h.places.first h.places.count lba count h.owner.request.kind refl here h.sendable.some (omega arith) sized.inside
      (asked_is block lba count fua _ asks h.asks)

-- WHAT AN ADAPTER WRITES

same_get : (xs ys : List (List ℕ)) (i : ℕ) → length xs ≡ length ys → get_or xs i [] ≡ get_or ys i [] → slice_get xs i ≡ slice_get ys i
same_get xs ys i same e = elim (cases_lt i (length xs)) [
  | inl low ↦ slice_get-get_or xs i [] low ∙ ap Some e ∙ sym (slice_get-get_or ys i [] (omega arith))
  | inr past ↦ slice_get_past xs i past ∙ sym (slice_get_past ys i (omega arith))
]

splice_outside : (partitions : List Extent) (sectors : List (List ℕ)) (lba : ℕ) (moved : List (List ℕ)) → lba + length moved ≤ length sectors → Any (LieIn lba (length moved)) partitions
    → (i : ℕ) → (Any (IsIn i) partitions → ⊥) → slice_get (splice sectors lba moved) i ≡ slice_get sectors i
splice_outside partitions sectors lba moved fits (k, extent, low, is, lie) i apart =
    let same : length (splice sectors lba moved) ≡ length sectors = length-splice sectors lba moved fits in
    let front : lba ≤ length sectors = omega arith in
    same_get (splice sectors lba moved) sectors i same (elim (cases_lt i lba) [
      | inl below ↦ get_or-splice_below sectors lba moved i [] front below
      | inr from ↦ elim (cases_lt i (lba + length moved)) [
        | inl within ↦ absurd (apart (k, extent, low, is, (let a : extent.first ≤ lba = lie.from in omega arith, let b : lba + length moved ≤ extent.first + extent.count = lie.to in omega arith)))
        | inr past ↦ get_or-splice_above sectors lba moved i [] front past
      ]
    ])

module _ (partitions : List Extent) where
  replaced : (size : ℕ) (sectors : List (List ℕ)) (lba count : ℕ) (moved after : List (List ℕ)) → lba + count ≤ length sectors → length moved ≡ count → after ≡ splice sectors lba moved
      → Any (LieIn lba count) partitions → (i : ℕ) → (Any (IsIn i) partitions → ⊥) → slice_get after i ≡ slice_get sectors i
  replaced size sectors lba count moved after fits covers is lie i apart =
      ap (λ xs. slice_get xs i) is
      ∙ splice_outside partitions sectors lba moved (omega arith) (subst (λ n. Any (LieIn lba n) partitions) (sym covers) lie) i apart

  performs_outside : (faithful told : Bool) (size : ℕ) (sectors : List (List ℕ)) (bytes : List ℕ) (block : List ℕ) (command : Cdb) (moved after : List (List ℕ))
      → ((lba count : ℕ) (fua : Bool) → AsksToWrite block lba count fua → Any (LieIn lba count) partitions) → Means block command
      → CarriesOut faithful told size sectors bytes command moved after → (i : ℕ) → (Any (IsIn i) partitions → ⊥) → slice_get after i ≡ slice_get sectors i
  performs_outside false told size sectors bytes block command moved after inside means h i apart = ap (λ xs. slice_get xs i) h.1
  performs_outside true told size sectors bytes block (Write10 lba count fua) moved after inside means h i apart =
      replaced size sectors lba count moved after h.0 h.2 h.4 (inside lba count fua (inl means)) i apart
  performs_outside true told size sectors bytes block (Write16 lba count fua) moved after inside means h i apart =
      replaced size sectors lba count moved after h.0 h.2 h.4 (inside lba count fua (inr means)) i apart
  performs_outside true told size sectors bytes block (Read10 lba count fua) moved after inside means h i apart = ap (λ xs. slice_get xs i) h.2
  performs_outside true told size sectors bytes block (Read16 lba count fua) moved after inside means h i apart = ap (λ xs. slice_get xs i) h.2
  performs_outside true told size sectors bytes block (Sync10 lba blocks) moved after inside means h i apart = ap (λ xs. slice_get xs i) h.1
  performs_outside true told size sectors bytes block (Sync16 lba blocks) moved after inside means h i apart = ap (λ xs. slice_get xs i) h.1
  performs_outside true told size sectors bytes block ReadCapacity10 moved after inside means h i apart = ap (λ xs. slice_get xs i) h.1
  performs_outside true told size sectors bytes block (ReadCapacity16 allocation) moved after inside means h i apart = ap (λ xs. slice_get xs i) h.1

  -- what is reserved says nothing of either
  reserves_inside : (old new : AdapterView) → ReservesMore old new → AllWriteInside partitions old → AllWriteInside partitions new × KeepsOutside partitions old new
  reserves_inside old new h inside = (
    subst (AllWriteInside partitions) (sym h.after) inside,
    λ i apart. ap (λ (v : AdapterView). slice_get v.sectors i) h.after,
  )

  pub first_inside : (reserves : Option Need) (old first : AdapterView) → ReservesFor reserves old first → AllWriteInside partitions old → AllWriteInside partitions first × KeepsOutside partitions old first
  first_inside reserves old first h inside = reserves_inside old first (reserves_more reserves old first h) inside

  noted_all : (tags : List TagInUse) → All (WritesInside partitions) tags → All (WritesInside partitions) (map met_by_reset tags)
  noted_all [] h = h
  noted_all (use' ∷ tags) h =
      All-cons (WritesInside partitions) (met_by_reset use') (map met_by_reset tags) (All-head (WritesInside partitions) use' tags h) (noted_all tags (All-tail (WritesInside partitions) use' tags h))

  -- nor does a reset
  pub noted_inside : (old new : AdapterView) → NotesReset old new → AllWriteInside partitions old → AllWriteInside partitions new × KeepsOutside partitions old new
  noted_inside old new h inside = (
    subst (AllWriteInside partitions) (sym h.after) (All-permutation (WritesInside partitions) _ _ (IsPermutation-sym _ _ h.in_use) (noted_all old.tags inside)),
    λ i apart. ap (λ (v : AdapterView). slice_get v.sectors i) h.after,
  )

  one_changed : (old : List TagInUse) (use' changed : TagInUse) (others tags : List TagInUse) → IsPermutation old (use' ∷ others) → IsPermutation tags (changed ∷ others)
      → (WritesInside partitions use' → WritesInside partitions changed) → All (WritesInside partitions) old → All (WritesInside partitions) tags
  one_changed old use' changed others tags is in_use keeps inside =
      let all : All (WritesInside partitions) (use' ∷ others) = All-permutation (WritesInside partitions) _ _ is inside in
      All-permutation (WritesInside partitions) _ _ (IsPermutation-sym _ _ in_use)
      (All-cons (WritesInside partitions) changed others (keeps (All-head (WritesInside partitions) use' others all)) (All-tail (WritesInside partitions) use' others all))

  moves_inside : (old : AdapterView) (tag : ℕ) (label : DeviceLabel) (new : AdapterView) → MovesOn old tag label new
      → ((piece on : ℕ) (block : List ℕ) → label ≡ Start piece on block → (lba count : ℕ) (fua : Bool) → AsksToWrite block lba count fua → Any (LieIn lba count) partitions)
      → AllWriteInside partitions old → AllWriteInside partitions new × KeepsOutside partitions old new
  moves_inside old tag (Start piece on block) new h starts inside = (
    subst (AllWriteInside partitions) (sym h.1.accepts.after)
        (All-permutation (WritesInside partitions) _ _ (IsPermutation-sym _ _ h.1.accepts.in_use)
        (All-cons (WritesInside partitions) (in_use_from old tag piece h.1.srb) old.tags
        (λ lba count fua asks. starts piece on block refl lba count fua (subst (λ b. AsksToWrite b lba count fua) h.1.has_block asks)) inside)),
    λ i apart. ap (λ (v : AdapterView). slice_get v.sectors i) h.1.accepts.after,
  )
  moves_inside old tag (Act piece bytes) new h starts inside =
      let here : WritesInside partitions h.use' = All-head (WritesInside partitions) h.use' h.others (All-permutation (WritesInside partitions) _ _ h.is_on.in_use inside) in (
        subst (AllWriteInside partitions) (sym h.after) (one_changed old.tags h.use' (acted h.moved h.left h.use') h.others h.tags h.is_on.in_use h.in_use (λ k. k) inside),
        λ i apart. ap (λ (v : AdapterView). slice_get v.sectors i) h.after
            ∙ performs_outside old.faithful _ old.sector_size old.sectors h.use'.srb.data h.use'.srb.block h.command h.moved h.sectors here h.means h.performs i apart,
      )
  moves_inside old tag (Fault piece) new h starts inside = (
    subst (AllWriteInside partitions) (sym h.after) (one_changed old.tags h.use' (faulted h.left h.use') h.others h.tags h.is_on.in_use h.in_use (λ k lba count fua asks. k lba count fua (subst (λ b. AsksToWrite b lba count fua) (ap (λ (srb : Srb). srb.block) h.spoiled.same) asks)) inside),
    λ i apart. ap (λ (v : AdapterView). slice_get v.sectors i) h.after,
  )
  moves_inside old tag (Return piece class) new h starts inside = (
    subst (AllWriteInside partitions) (sym h.after)
        (All-permutation (WritesInside partitions) _ _ (IsPermutation-sym _ _ h.in_use)
        (All-tail (WritesInside partitions) h.use' h.others (All-permutation (WritesInside partitions) _ _ h.is_on.in_use inside))),
    λ i apart. ap (λ (v : AdapterView). slice_get v.sectors i) h.after,
  )

-- THE MACHINE AND THE ADAPTER BY THE SAME LABELS

module _ (rules : Rules) where
  starts_inside : (s : State) (label : DeviceLabel) (s' : State) → IsSound rules s → All HasPartition s.requests → DeviceStep rules s label s'
      → (piece on : ℕ) (block : List ℕ) → label ≡ Start piece on block → (lba count : ℕ) (fua : Bool) → AsksToWrite block lba count fua → Any (LieIn lba count) rules.partitions
  starts_inside s label s' sound given step piece on block is lba count fua asks =
      start_inside rules s piece on block s' sound given (subst (λ l. DeviceStep rules s l s') is step) lba count fua asks

  pub stays_inside : (labels : List DeviceLabel) (s s' : State) (old new : AdapterView) → IsSound rules s → All HasPartition s.requests → Run rules s (map as_label labels) s' → MovesByAll old labels new
      → AllWriteInside rules.partitions old → AllWriteInside rules.partitions new × KeepsOutside rules.partitions old new
  stays_inside [] s s' old new sound given run moves inside = (subst (AllWriteInside rules.partitions) (sym moves) inside, λ i apart. ap (λ (v : AdapterView). slice_get v.sectors i) moves)
  stays_inside (label ∷ labels) s s' old new sound given (mid, inl (free, step), run) (after, (tag, moved), rest) inside =
      let b : AllWriteInside rules.partitions after × KeepsOutside rules.partitions old after =
      moves_inside rules.partitions old tag label after moved (starts_inside s label mid sound given step) inside in
      let c : AllWriteInside rules.partitions new × KeepsOutside rules.partitions after new =
      stays_inside labels mid s' after new (IsSound-Step rules s (as_label label) mid sound (inl (free, step))) (all_asked IsOnPartition s mid (device_keeps rules s label mid step) given) run rest b.0 in
      (c.0, λ i apart. c.1 i apart ∙ b.1 i apart)
  stays_inside (label ∷ labels) s s' old new sound given (mid, inr none, run) moves inside = absurd none
