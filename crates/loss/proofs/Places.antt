-- What a piece does to the sectors of its request.
use Rattle.std.proofs.Common.{◌≡◌, ◌<◌, ◌≤◌, ◌⊎◌, inl, inr, ℕ, suc, ◌+◌, ◌-◌, Bool, true, false, List, [], ◌∷◌, ◌++◌, Option, Some, None, refl, sym, ap, subst, ◌∙◌, arith}
use Rattle.std.specs.Prelude.{slice_get, if◌then◌else◌}
use Rattle.std.proofs.lemmas.Bool.Decides.{leb_tells}
use Rattle.sector.specs.declared.Extent.{Extent}
use Rattle.srb.specs.declared.Kind.{Kind}
use Rattle.srb.specs.declared.Kind.TheVariants.{Read, Write, Flush}
use Rattle.machine.specs.declared.ClientRequest.{ClientRequest}
use Rattle.machine.specs.Rules.{Rules, first_sector, home}
use Rattle.machine_laws.proofs.Chunks.{range_chunk}
use Rattle.loss.specs.Held.{Change, Puts, Secures, Tries, Syncs, Doubts, Held, Work, act_changes, changed_by, fault_changes, has, sector_in, value_at}
use Rattle.loss.specs.Moved.{work_of}
use Rattle.loss.specs.Laws.{Brings, Each, GivesOnly, LeavesOnly, Nothing, sector_of, value_for}
use Rattle.loss.proofs.Sectors.{IsDue, synced_leaves}

-- ONE PIECE

module _ (Such : List ℕ → Type 0) (size next number : ℕ) (w : Work) (i : ℕ) (h : Held) where
  -- a write's act: reads give its value
  pub write_gives : w.kind ≡ Write → has w.extent i ≡ true → Such (value_at size w i) → GivesOnly Such (changed_by next (act_changes size number w i) h)
  write_gives is_write there such = by_kind w.kind is_write
    where
      by_through : (b : Bool) → GivesOnly Such (changed_by next ((if b then Secures (value_at size w i) else Puts (value_at size w i)) ∷ []) h)
      by_through true value (inl e) = subst Such (sym e) such
      by_through true value (inr never) = absurd never
      by_through false value (inl e) = subst Such (sym e) such
      by_through false value (inr never) = absurd never

      by_kind : (kind : Kind) → kind ≡ Write → GivesOnly Such (changed_by next (act_changes size number (record w { kind = kind }) i) h)
      by_kind Write e = rw there (by_through w.through)
      by_kind Read e = absurd (cc (e))
      by_kind Flush e = absurd (cc (e))

  -- and with FUA they are certain
  pub through_leaves : w.kind ≡ Write → w.through ≡ true → has w.extent i ≡ true → Such (value_at size w i) → LeavesOnly Such (changed_by next (act_changes size number w i) h)
  through_leaves is_write through there such = by_kind w.kind is_write
    where
      secured : LeavesOnly Such (changed_by next (Secures (value_at size w i) ∷ []) h)
      secured value (inl e) = subst Such (sym e) such
      secured value (inr never) = absurd never

      by_kind : (kind : Kind) → kind ≡ Write → LeavesOnly Such (changed_by next (act_changes size number (record w { kind = kind }) i) h)
      by_kind Write e = rw (there, through) secured
      by_kind Read e = absurd (cc (e))
      by_kind Flush e = absurd (cc (e))

  -- a flush's act
  pub flush_leaves : (first : ℕ) → w.kind ≡ Flush → first ≤ number → IsDue Such first h → LeavesOnly Such (changed_by next (act_changes size number w i) h)
  flush_leaves first is_flush low due = by_kind w.kind is_flush
    where
      by_kind : (kind : Kind) → kind ≡ Flush → LeavesOnly Such (changed_by next (act_changes size number (record w { kind = kind }) i) h)
      by_kind Flush e = synced_leaves Such first next number h low due
      by_kind Read e = absurd (cc (e))
      by_kind Write e = absurd (cc (e))

-- WHAT IT BRINGS

module _ (Such : List ℕ → Type 0) (size : ℕ) (w : Work) (i : ℕ) (such : has w.extent i ≡ true → Such (value_at size w i)) where
  pub act_brings : (number : ℕ) → Each (Brings Such) (act_changes size number w i)
  act_brings number = by_kind w.kind
    where
      by_has : (b : Bool) → has w.extent i ≡ b → (t : Bool) → Each (Brings Such) (if b then (if t then Secures (value_at size w i) else Puts (value_at size w i)) ∷ [] else [])
      by_has true e true = (such e, tt)
      by_has true e false = (such e, tt)
      by_has false e t = tt

      by_kind : (kind : Kind) → Each (Brings Such) (act_changes size number (record w { kind = kind }) i)
      by_kind Read = tt
      by_kind Write = by_has (has w.extent i) refl w.through
      by_kind Flush = (tt, tt)

  pub fault_brings : Each (Brings Such) (fault_changes size w i)
  fault_brings = by_kind w.kind
    where
      by_has : (b : Bool) → has w.extent i ≡ b → (t : Bool) → Each (Brings Such) ((if b then Tries (value_at size w i) ∷ [] else []) ++ (if t then Doubts ∷ [] else []))
      by_has true e true = (such e, (tt, tt))
      by_has true e false = (such e, tt)
      by_has false e true = (tt, tt)
      by_has false e false = tt

      by_kind : (kind : Kind) → Each (Brings Such) (fault_changes size (record w { kind = kind }) i)
      by_kind Read = tt
      by_kind Write = by_has (has w.extent i) refl w.through
      by_kind Flush = (tt, tt)

pub each_nothing : (Such : List ℕ → Type 0) (changes : List Change) → Each (Brings Nothing) changes → Each (Brings Such) changes
each_nothing Such [] each = tt
each_nothing Such (Puts value ∷ changes) each = absurd each.0
each_nothing Such (Secures value ∷ changes) each = absurd each.0
each_nothing Such (Tries value ∷ changes) each = absurd each.0
each_nothing Such (Syncs number ∷ changes) each = (tt, each_nothing Such changes each.1)
each_nothing Such (Doubts ∷ changes) each = (tt, each_nothing Such changes each.1)

-- PLACES AND SECTORS

abbrev IsThere : ℕ → ℕ → ℕ → Type 0
IsThere first count i = (has (record { first = first; count = count }) i ≡ true) × (first ≤ i) × (i < first + count)

abbrev IsAway : ℕ → ℕ → ℕ → Type 0
IsAway first count i = (has (record { first = first; count = count }) i ≡ false) × ((i < first) ⊎ (first + count ≤ i))

there_or_away : (first count i : ℕ) → IsThere first count i ⊎ IsAway first count i
there_or_away first count i =
    elim (leb_tells first i) [
      | inl low ↦
          elim (leb_tells (suc i) (first + count)) [
            | inl high ↦ inl (rw (low.0, high.0) refl, low.1, omega (arith, high.1))
            | inr high ↦ inr (rw (low.0, high.0) refl, inr (omega (arith, high.1)))
          ]
      | inr low ↦ inr (rw low.0 refl, inl low.1)
    ]

-- sectors of a partition lie in a row
abbrev Base : Rules → Option ℕ → Type 0
Base rules p = (b : ℕ) × ((x : ℕ) → home rules p x ≡ b + x)

base_of : (rules : Rules) (p : Option ℕ) → Base rules p
base_of rules None = (0, λ x. omega arith)
base_of rules (Some p) = by_entry (slice_get rules.partitions p)
  where
    by_entry : (e : Option Extent) → (b : ℕ) × ((x : ℕ) → (elim e [ Some extent ↦ extent.first + x | None ↦ x ]) ≡ b + x)
    by_entry None = (0, λ x. omega arith)
    by_entry (Some extent) = (extent.first, λ x. refl)

-- a place of a piece lies among its sectors, and its value among its bytes
pub record IsAt (rules : Rules) (q : ClientRequest) (places : Extent) (place : ℕ) : Type 0 where
  pub there : has (work_of rules q places).extent (sector_of rules q place) ≡ true
  pub value : value_at rules.sector_size (work_of rules q places) (sector_of rules q place) ≡ value_for rules q place

pub at_place : (rules : Rules) (q : ClientRequest) (places : Extent) (place j : ℕ) → place ≡ places.first + j → j < places.count → IsAt rules q places place
at_place rules q places place j is low =
    let b : Base rules q.partition = base_of rules q.partition in
    let lba : ℕ = home rules q.partition (first_sector rules q + places.first) in
    let from : lba ≡ b.0 + (first_sector rules q + places.first) = b.1 (first_sector rules q + places.first) in
    let at : sector_of rules q place ≡ b.0 + (first_sector rules q + place) = b.1 (first_sector rules q + place) in
    let off : sector_of rules q place - lba ≡ j = omega (arith, from, at, is) in
    record {
      there = elim (there_or_away lba places.count (sector_of rules q place)) [ inl h ↦ h.0 | inr h ↦ absurd (not_away lba (sector_of rules q place) (omega (arith, from, at, is)) h.1) ];
      value =
          ap (λ (k : ℕ). sector_in rules.sector_size k (work_of rules q places).bytes) off
          ∙ range_chunk rules.sector_size places.first places.count j q.bytes low
          ∙ ap (λ (k : ℕ). sector_in rules.sector_size k q.bytes) (sym is);
    }
  where
    not_away : (lba i : ℕ) → i ≡ lba + j → (i < lba) ⊎ (lba + places.count ≤ i) → ⊥
    not_away lba i e (inl x) = omega (arith, e, x)
    not_away lba i e (inr x) = omega (arith, e, x, low)

-- a sector of a piece that is of a place of its request has that place's value
pub own_value : (rules : Rules) (q : ClientRequest) (places : Extent) (place : ℕ) → has (work_of rules q places).extent (sector_of rules q place) ≡ true
    → value_at rules.sector_size (work_of rules q places) (sector_of rules q place) ≡ value_for rules q place
own_value rules q places place there =
    let b : Base rules q.partition = base_of rules q.partition in
    let from : home rules q.partition (first_sector rules q + places.first) ≡ b.0 + (first_sector rules q + places.first) = b.1 (first_sector rules q + places.first) in
    let at : home rules q.partition (first_sector rules q + place) ≡ b.0 + (first_sector rules q + place) = b.1 (first_sector rules q + place) in
    elim (there_or_away (home rules q.partition (first_sector rules q + places.first)) places.count (sector_of rules q place)) [
      | inl h ↦ (at_place rules q places place (place - places.first) (omega (arith, h.1, h.2, from, at)) (omega (arith, h.1, h.2, from, at))).value
      | inr h ↦ absurd (cc (h.0, there))
    ]
