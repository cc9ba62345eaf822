-- The places of a piece, and the sectors of the disk where they lie.
use Rattle.std.proofs.Common.{◌≡◌, ◌<◌, ◌≤◌, ◌⊎◌, inl, inr, ℕ, suc, ◌+◌, ◌-◌, Bool, true, false, List, [], ◌∷◌, ◌++◌, Option, Some, None, refl, sym, ap, subst, ◌∙◌, arith}
use Rattle.std.specs.Prelude.{slice_get, if◌then◌else◌}
use Rattle.std.proofs.lemmas.Bool.Decides.{leb_tells}
use Rattle.sector.specs.declared.Extent.{Extent}
use Rattle.srb.specs.declared.Kind.{Kind}
use Rattle.srb.specs.declared.Kind.TheVariants.{Read, Write, Flush}
use Rattle.machine.specs.declared.ClientRequest.{ClientRequest}
use Rattle.machine.specs.Rules.{Rules, first_sector, home}
use Rattle.machine_laws.proofs.Chunks.{range_chunk}
use Rattle.loss.specs.Held.{Change, Puts, Secures, Tries, Syncs, Doubts, act_changes, fault_changes, has, value_at}
use Rattle.loss.specs.Moved.{work_of}
use Rattle.loss.specs.Laws.{Each, sector_of, value_for}
use Rattle.history_loss.specs.Schedules.{one_place}
use Rattle.history_loss.proofs.Holding.{IsFailing}

abbrev IsThere : ℕ → ℕ → ℕ → Type 0
IsThere first count i = (has (record { first = first; count = count }) i ≡ true) × (first ≤ i) × (i < first + count)

abbrev IsAway : ℕ → ℕ → ℕ → Type 0
IsAway first count i = (has (record { first = first; count = count }) i ≡ false) × ((i < first) ⊎ (first + count ≤ i))

there_or_away : (first count i : ℕ) → IsThere first count i ⊎ IsAway first count i
there_or_away first count i =
    elim (leb_tells first i) [
      | inl low ↦
          elim (leb_tells (suc i) (first + count)) [
            | inl high ↦ inl (rw (low.0, high.0) refl, low.1, omega (arith, high.1))
            | inr high ↦ inr (rw (low.0, high.0) refl, inr (omega (arith, high.1)))
          ]
      | inr low ↦ inr (rw low.0 refl, inl low.1)
    ]

-- sectors of a partition lie in a row
abbrev Base : Rules → Option ℕ → Type 0
Base rules p = (b : ℕ) × ((x : ℕ) → home rules p x ≡ b + x)

base_of : (rules : Rules) (p : Option ℕ) → Base rules p
base_of rules None = (0, λ x. omega arith)
base_of rules (Some p) = by_entry (slice_get rules.partitions p)
  where
    by_entry : (e : Option Extent) → (b : ℕ) × ((x : ℕ) → (elim e [ Some extent ↦ extent.first + x | None ↦ x ]) ≡ b + x)
    by_entry None = (0, λ x. omega arith)
    by_entry (Some extent) = (extent.first, λ x. refl)

-- a place of the piece is sector i
abbrev pub IsHit : Rules → ℕ → ClientRequest → Extent → ℕ → Type 0
IsHit rules i q places k = (places.first ≤ k) × (k < places.first + places.count) × (sector_of rules q k ≡ i)

module _ (rules : Rules) (i : ℕ) (q : ClientRequest) where
  pub one_hit : (j k : ℕ) → sector_of rules q j ≡ i → sector_of rules q k ≡ i → j ≡ k
  one_hit j k a b =
      let base : Base rules q.partition = base_of rules q.partition in
      let x : sector_of rules q j ≡ base.0 + (first_sector rules q + j) = base.1 (first_sector rules q + j) in
      let y : sector_of rules q k ≡ base.0 + (first_sector rules q + k) = base.1 (first_sector rules q + k) in
      omega (arith, a, b, x, y)

  -- counted from the first sector of the piece
  pub reach : (places : Extent) (k : ℕ) → IsHit rules i q places k → (work_of rules q places).extent.first + (k - places.first) ≡ i
  reach places k hit =
      let base : Base rules q.partition = base_of rules q.partition in
      let x : home rules q.partition (first_sector rules q + places.first) ≡ base.0 + (first_sector rules q + places.first) = base.1 (first_sector rules q + places.first) in
      let y : sector_of rules q k ≡ base.0 + (first_sector rules q + k) = base.1 (first_sector rules q + k) in
      omega (arith, x, y, hit.0, hit.1, hit.2)

  -- it has the sector, with the bytes of that place, or no place of it is the sector
  pub record Hits (places : Extent) (k : ℕ) : Type 0 where
    pub hit : IsHit rules i q places k
    pub there : has (work_of rules q places).extent i ≡ true
    pub value : value_at rules.sector_size (work_of rules q places) i ≡ value_for rules q k

  pub record Misses (places : Extent) : Type 0 where
    pub none : (k : ℕ) → IsHit rules i q places k → ⊥
    pub away : has (work_of rules q places).extent i ≡ false

  pub hits_or_misses : (places : Extent) → ((k : ℕ) × Hits places k) ⊎ Misses places
  hits_or_misses places = elim (there_or_away (home rules q.partition (first_sector rules q + places.first)) places.count i) [
    | inl h ↦ inl (hits h)
    | inr h ↦ inr (record { none = misses h.1; away = h.0 })
  ]
    where
      base : Base rules q.partition
      base = base_of rules q.partition

      lba : ℕ
      lba = home rules q.partition (first_sector rules q + places.first)

      from : lba ≡ base.0 + (first_sector rules q + places.first)
      from = base.1 (first_sector rules q + places.first)

      misses : (i < lba) ⊎ (lba + places.count ≤ i) → (k : ℕ) → IsHit rules i q places k → ⊥
      misses (inl low) k hit =
          let at : sector_of rules q k ≡ base.0 + (first_sector rules q + k) = base.1 (first_sector rules q + k) in
          omega (arith, low, hit.0, hit.1, hit.2, at, from)
      misses (inr high) k hit =
          let at : sector_of rules q k ≡ base.0 + (first_sector rules q + k) = base.1 (first_sector rules q + k) in
          omega (arith, high, hit.0, hit.1, hit.2, at, from)

      hits : IsThere lba places.count i → (k : ℕ) × Hits places k
      hits h =
          let k : ℕ = places.first + (i - lba) in
          let at : sector_of rules q (places.first + (i - lba)) ≡ base.0 + (first_sector rules q + (places.first + (i - lba))) = base.1 (first_sector rules q + (places.first + (i - lba))) in (
            places.first + (i - lba),
            record {
              hit = (omega arith, omega (arith, h.1, h.2), omega (arith, h.1, h.2, at, from));
              there = h.0;
              value = range_chunk rules.sector_size places.first places.count (i - lba) q.bytes (omega (arith, h.1, h.2));
            },
          )

  -- the place of a piece that is the sector, by itself
  pub hits_alone : (places : Extent) (k : ℕ) → Hits places k → Hits (one_place k) k
  hits_alone places k h = elim (hits_or_misses (one_place k)) [
    | inl found ↦ subst (λ j. Hits (one_place k) j) (one_hit found.0 k found.1.hit.2 h.hit.2) found.1
    | inr misses ↦ absurd (misses.none k (omega arith, omega arith, h.hit.2))
  ]

  -- a place of a piece that misses it, by itself
  pub misses_alone : (places : Extent) (k : ℕ) → places.first ≤ k → k < places.first + places.count → Misses places → Misses (one_place k)
  misses_alone places k from below m = elim (hits_or_misses (one_place k)) [
    | inl found ↦
        let same : found.0 ≡ k = alone found.0 found.1.hit.0 found.1.hit.1 in
        absurd (m.none k (from, below, subst (λ j. sector_of rules q j ≡ i) same found.1.hit.2))
    | inr misses ↦ misses
  ]
    where
      alone : (j : ℕ) → k ≤ j → j < k + 1 → j ≡ k
      alone j a b = omega arith

-- WHAT CHANGES

abbrev fault_list : Kind → Bool → Bool → List ℕ → List Change
fault_list kind there through value = elim kind [
  | Read ↦ []
  | Write ↦ (if there then Tries value ∷ [] else []) ++ (if through then Doubts ∷ [] else [])
  | Flush ↦ Doubts ∷ []
]

missed_fault : (kind : Kind) (through : Bool) (v w : List ℕ) → fault_list kind false through v ≡ fault_list kind false through w
missed_fault Read through v w = refl
missed_fault Write through v w = refl
missed_fault Flush through v w = refl

abbrev act_list : Kind → Bool → Bool → List ℕ → ℕ → List Change
act_list kind there through value number = elim kind [
  | Read ↦ []
  | Write ↦ if there then (if through then Secures value else Puts value) ∷ [] else []
  | Flush ↦ Syncs number ∷ []
]

-- the change of a write that has the sector
abbrev pub put_list : ClientRequest → List ℕ → List Change
put_list q value = (if q.through then Secures value else Puts value) ∷ []

module _ (rules : Rules) (i : ℕ) (q : ClientRequest) where
  -- a piece fails on a sector as its place there alone
  pub hit_fault : (places : Extent) (k : ℕ) → Hits rules i q places k → fault_changes rules.sector_size (work_of rules q (one_place k)) i ≡ fault_changes rules.sector_size (work_of rules q places) i
  hit_fault places k h =
      let alone : Hits rules i q (one_place k) k = hits_alone rules i q places k h in
      same q.kind q.through (has (work_of rules q (one_place k)).extent i) (has (work_of rules q places).extent i)
      (value_at rules.sector_size (work_of rules q (one_place k)) i) (value_at rules.sector_size (work_of rules q places) i) (alone.there ∙ sym h.there) (alone.value ∙ sym h.value)
    where
      same : (kind : Kind) (through b c : Bool) (v w : List ℕ) → b ≡ c → v ≡ w → fault_list kind b through v ≡ fault_list kind c through w
      same kind through b c v w e f = ap (λ x. fault_list kind x through v) e ∙ ap (λ x. fault_list kind c through x) f

  -- and on any other as any of its places
  pub missed_faults : (places : Extent) (k : ℕ) → Misses rules i q places → Misses rules i q (one_place k) → fault_changes rules.sector_size (work_of rules q (one_place k)) i ≡ fault_changes rules.sector_size (work_of rules q places) i
  missed_faults places k m alone =
      same q.kind q.through (has (work_of rules q (one_place k)).extent i) (has (work_of rules q places).extent i)
      (value_at rules.sector_size (work_of rules q (one_place k)) i) (value_at rules.sector_size (work_of rules q places) i) alone.away m.away
    where
      same : (kind : Kind) (through b c : Bool) (v w : List ℕ) → b ≡ false → c ≡ false → fault_list kind b through v ≡ fault_list kind c through w
      same kind through b c v w e f = ap (λ x. fault_list kind x through v) e ∙ missed_fault kind through v w ∙ sym (ap (λ x. fault_list kind x through w) f)

  -- what a write's piece does to a sector that it has, and to any other
  pub hit_act : (places : Extent) (k number : ℕ) → q.kind ≡ Write → Hits rules i q places k → act_changes rules.sector_size number (work_of rules q places) i ≡ put_list q (value_for rules q k)
  hit_act places k number write h =
      same q.kind (has (work_of rules q places).extent i) (value_at rules.sector_size (work_of rules q places) i) write h.there h.value
    where
      same : (kind : Kind) (b : Bool) (v : List ℕ) → kind ≡ Write → b ≡ true → v ≡ value_for rules q k → act_list kind b q.through v number ≡ put_list q (value_for rules q k)
      same kind b v e f g = ap (λ x. act_list x b q.through v number) e ∙ ap (λ x. act_list Write x q.through v number) f ∙ ap (λ x. act_list Write true q.through x number) g

  pub missed_act : (places : Extent) (number : ℕ) → q.kind ≡ Write → Misses rules i q places → act_changes rules.sector_size number (work_of rules q places) i ≡ []
  missed_act places number write m = same q.kind (has (work_of rules q places).extent i) (value_at rules.sector_size (work_of rules q places) i) write m.away
    where
      same : (kind : Kind) (b : Bool) (v : List ℕ) → kind ≡ Write → b ≡ false → act_list kind b q.through v number ≡ []
      same kind b v e f = ap (λ x. act_list x b q.through v number) e ∙ ap (λ x. act_list Write x q.through v number) f

  pub read_act : (places : Extent) (number : ℕ) → q.kind ≡ Read → act_changes rules.sector_size number (work_of rules q places) i ≡ []
  read_act places number read = ap (λ x. act_list x (has (work_of rules q places).extent i) q.through (value_at rules.sector_size (work_of rules q places) i) number) read

  pub flush_act : (places : Extent) (number : ℕ) → q.kind ≡ Flush → act_changes rules.sector_size number (work_of rules q places) i ≡ Syncs number ∷ []
  flush_act places number flush = ap (λ x. act_list x (has (work_of rules q places).extent i) q.through (value_at rules.sector_size (work_of rules q places) i) number) flush

  pub fault_fails : (places : Extent) → Each IsFailing (fault_changes rules.sector_size (work_of rules q places) i)
  fault_fails places = by_kind q.kind (has (work_of rules q places).extent i) q.through (value_at rules.sector_size (work_of rules q places) i)
    where
      by_kind : (kind : Kind) (b through : Bool) (v : List ℕ) → Each IsFailing (fault_list kind b through v)
      by_kind Read b through v = tt
      by_kind Write true true v = (tt, (tt, tt))
      by_kind Write true false v = (tt, tt)
      by_kind Write false true v = (tt, tt)
      by_kind Write false false v = tt
      by_kind Flush b through v = (tt, tt)
