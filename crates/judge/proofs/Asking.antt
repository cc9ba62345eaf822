-- The places that a command asks for, and the command that asks for them.
use Rattle.std.proofs.Common.{◌≡◌, ◌≤◌, ℕ, ◌+◌, ◌-◌, ◌^◌, Bool, true, false, Option, Some, None, refl, sym, ◌∙◌, ap, arith}
use Rattle.std.specs.Prelude.{◌==◌, ◌&&◌, not, nat_le, IfSome, slice_get, if◌then◌else◌}
use Rattle.std.proofs.lemmas.Bool.{leb-true, le-leb, eqb-true, and_parts, and_from, not-true}
use Rattle.sector.specs.declared.Extent.{Extent}
use Rattle.cdb.specs.declared.Cdb.{Cdb}
use Rattle.cdb.specs.declared.Cdb.TheVariants.{Read10, Write10, Sync10, ReadCapacity10, Read16, Write16, Sync16, ReadCapacity16}
use Rattle.srb.specs.declared.Kind.{Kind}
use Rattle.srb.specs.declared.Kind.TheVariants.{Read, Write, Flush}
use Rattle.machine.specs.declared.ClientRequest.{ClientRequest}
use Rattle.machine.specs.Rules.{Rules, first_sector, home}
use Rattle.machine.specs.Sending.{fits_ten, command_for}
use Rattle.judge.specs.Deciding.{same_truth, places_at, places_if, flush_place, places_for}
use Rattle.judge.proofs.Deciding.{decides_truth}

abbrev pub extent : ℕ → ℕ → Extent
extent first count = record { first = first; count = count }

home_further : (rules : Rules) (p : Option ℕ) (i j : ℕ) → home rules p (i + j) ≡ home rules p i + j
home_further rules None i j = refl
home_further rules (Some p) i j = by (slice_get rules.partitions p)
  where
    by : (e : Option Extent) → (elim e [ Some extent ↦ extent.first + (i + j) | None ↦ i + j ]) ≡ (elim e [ Some extent ↦ extent.first + i | None ↦ i ]) + j
    by (Some extent) = omega arith
    by None = refl

-- a transfer is asked for by a function of its address, its number of sectors and its access
module _ (rules : Rules) (q : ClientRequest) where
  -- the places are where the address says
  pub is_there : (lba first : ℕ) → home rules q.partition (first_sector rules q) ≤ lba → first ≡ lba - home rules q.partition (first_sector rules q)
      → home rules q.partition (first_sector rules q + first) ≡ lba
  is_there lba first low e =
      let further : home rules q.partition (first_sector rules q + first) ≡ home rules q.partition (first_sector rules q) + first = home_further rules q.partition (first_sector rules q) first in
      omega arith

  at_places : (P : Extent → Type 0) (lba count : ℕ)
      → ((first : ℕ) → home rules q.partition (first_sector rules q + first) ≡ lba → P (extent first count)) → IfSome (places_at rules q lba count) P
  at_places P lba count h = by (nat_le (home rules q.partition (first_sector rules q)) lba) refl
    where
      by : (b : Bool) → nat_le (home rules q.partition (first_sector rules q)) lba ≡ b
          → IfSome (if b then Some (record { first = lba - home rules q.partition (first_sector rules q); count = count }) else None) P
      by true e = h (lba - home rules q.partition (first_sector rules q)) (is_there lba _ (leb-true _ _ e) refl)
      by false e = tt

  if_places : (P : Extent → Type 0) (test : Bool) (lba count : ℕ)
      → (test ≡ true → (first : ℕ) → home rules q.partition (first_sector rules q + first) ≡ lba → P (extent first count)) → IfSome (places_if test rules q lba count) P
  if_places P true lba count h = at_places P lba count (h refl)
  if_places P false lba count h = tt

  pub found : (test : Bool) (first count : ℕ) → test ≡ true
      → places_if test rules q (home rules q.partition (first_sector rules q + first)) count ≡ Some (extent first count)
  found false first count e = cc (e)
  found true first count e = here _ _ (home_further rules q.partition (first_sector rules q) first)
    where
      here : (b lba : ℕ) → lba ≡ b + first → (if nat_le b lba then Some (extent (lba - b) count) else None) ≡ Some (extent first count)
      here b lba same =
          let low : nat_le b lba ≡ true = le-leb b lba (omega arith) in
          let start : lba - b ≡ first = omega arith in
          rw (low, start) refl

  -- the command of the places found is the one that asked
  read_again : (fits : Bool) (lba count : ℕ) (fua : Bool) (first : ℕ) → fits_ten lba count ≡ fits → fua ≡ q.through → home rules q.partition (first_sector rules q + first) ≡ lba
      → command_for rules q (extent first count) Read ≡ (if fits then Read10 lba count fua else Read16 lba count fua)
  read_again fits lba count fua first e f there = rw (there, e, f) refl

  write_again : (fits : Bool) (lba count : ℕ) (fua : Bool) (first : ℕ) → fits_ten lba count ≡ fits → fua ≡ q.through → home rules q.partition (first_sector rules q + first) ≡ lba
      → command_for rules q (extent first count) Write ≡ (if fits then Write10 lba count fua else Write16 lba count fua)
  write_again fits lba count fua first e f there = rw (there, e, f) refl

  if_flush : (P : Extent → Type 0) (test : Bool) → (test ≡ true → P (record { first = 0; count = 1 })) → IfSome (flush_place test) P
  if_flush P true h = h refl
  if_flush P false h = tt

  abbrev pub Asks : Kind → Cdb → Extent → Type 0
  Asks kind command places = command_for rules q places kind ≡ command

  -- places that are found are asked for by the command
  pub places_ask : (kind : Kind) (command : Cdb) → IfSome (places_for rules q kind command) (Asks kind command)
  places_ask Read (Read10 lba count fua) = if_places (Asks Read (Read10 lba count fua)) _ lba count
      (λ e first there. let both : (fits_ten lba count ≡ true) × (same_truth fua q.through ≡ true) = and_parts _ _ e in
      read_again true lba count fua first both.0 ((decides_truth fua q.through).0 both.1) there)
  places_ask Read (Read16 lba count fua) = if_places (Asks Read (Read16 lba count fua)) _ lba count
      (λ e first there. let both : (not (fits_ten lba count) ≡ true) × (same_truth fua q.through ≡ true) = and_parts _ _ e in
      read_again false lba count fua first (not-true _ both.0) ((decides_truth fua q.through).0 both.1) there)
  places_ask Write (Write10 lba count fua) = if_places (Asks Write (Write10 lba count fua)) _ lba count
      (λ e first there. let both : (fits_ten lba count ≡ true) × (same_truth fua q.through ≡ true) = and_parts _ _ e in
      write_again true lba count fua first both.0 ((decides_truth fua q.through).0 both.1) there)
  places_ask Write (Write16 lba count fua) = if_places (Asks Write (Write16 lba count fua)) _ lba count
      (λ e first there. let both : (not (fits_ten lba count) ≡ true) × (same_truth fua q.through ≡ true) = and_parts _ _ e in
      write_again false lba count fua first (not-true _ both.0) ((decides_truth fua q.through).0 both.1) there)
  places_ask Flush (Sync10 lba blocks) = if_flush (Asks Flush (Sync10 lba blocks)) _ (λ e.
      let both : (nat_le rules.disk_sectors (2 ^ 32) ≡ true) × (((lba == 0) && (blocks == 0)) ≡ true) = and_parts _ _ e in
      let zeros : ((lba == 0) ≡ true) × ((blocks == 0) ≡ true) = and_parts _ _ both.1 in
      rw (both.0, eqb-true lba 0 zeros.0, eqb-true blocks 0 zeros.1) refl)
  places_ask Flush (Sync16 lba blocks) = if_flush (Asks Flush (Sync16 lba blocks)) _ (λ e.
      let both : (not (nat_le rules.disk_sectors (2 ^ 32)) ≡ true) × (((lba == 0) && (blocks == 0)) ≡ true) = and_parts _ _ e in
      let large : nat_le rules.disk_sectors (2 ^ 32) ≡ false = not-true _ both.0 in
      let zeros : ((lba == 0) ≡ true) × ((blocks == 0) ≡ true) = and_parts _ _ both.1 in
      rw (large, eqb-true lba 0 zeros.0, eqb-true blocks 0 zeros.1) refl)
  places_ask Read (Write10 lba count fua) = tt
  places_ask Read (Sync10 lba blocks) = tt
  places_ask Read ReadCapacity10 = tt
  places_ask Read (Write16 lba count fua) = tt
  places_ask Read (Sync16 lba blocks) = tt
  places_ask Read (ReadCapacity16 allocation) = tt
  places_ask Write (Read10 lba count fua) = tt
  places_ask Write (Sync10 lba blocks) = tt
  places_ask Write ReadCapacity10 = tt
  places_ask Write (Read16 lba count fua) = tt
  places_ask Write (Sync16 lba blocks) = tt
  places_ask Write (ReadCapacity16 allocation) = tt
  places_ask Flush (Read10 lba count fua) = tt
  places_ask Flush (Write10 lba count fua) = tt
  places_ask Flush ReadCapacity10 = tt
  places_ask Flush (Read16 lba count fua) = tt
  places_ask Flush (Write16 lba count fua) = tt
  places_ask Flush (ReadCapacity16 allocation) = tt

  same_itself : (b : Bool) → same_truth b b ≡ true
  same_itself b = (decides_truth b b).1 refl

  -- the places that a command was made for are found; a flush has one
  pub places_found : (kind : Kind) (places : Extent) → (kind ≡ Flush → (places.first ≡ 0) × (places.count ≡ 1)) → places_for rules q kind (command_for rules q places kind) ≡ Some places
  places_found Read places one = by (fits_ten (home rules q.partition (first_sector rules q + places.first)) places.count) refl
    where
      by : (fits : Bool) → fits_ten (home rules q.partition (first_sector rules q + places.first)) places.count ≡ fits
          → places_for rules q Read (if fits then Read10 (home rules q.partition (first_sector rules q + places.first)) places.count q.through else Read16 (home rules q.partition (first_sector rules q + places.first)) places.count q.through) ≡ Some places
      by true e = found _ places.first places.count (and_from _ _ e (same_itself q.through))
      by false e = found _ places.first places.count (and_from _ _ (ap not e) (same_itself q.through))
  places_found Write places one = by (fits_ten (home rules q.partition (first_sector rules q + places.first)) places.count) refl
    where
      by : (fits : Bool) → fits_ten (home rules q.partition (first_sector rules q + places.first)) places.count ≡ fits
          → places_for rules q Write (if fits then Write10 (home rules q.partition (first_sector rules q + places.first)) places.count q.through else Write16 (home rules q.partition (first_sector rules q + places.first)) places.count q.through) ≡ Some places
      by true e = found _ places.first places.count (and_from _ _ e (same_itself q.through))
      by false e = found _ places.first places.count (and_from _ _ (ap not e) (same_itself q.through))
  places_found Flush places one = by (nat_le rules.disk_sectors (2 ^ 32)) refl
    where
      all : Some (extent 0 1) ≡ Some places
      all = ap (λ n. Some (extent n 1)) (sym (one refl).0) ∙ ap (λ n. Some (extent places.first n)) (sym (one refl).1)

      by : (small : Bool) → nat_le rules.disk_sectors (2 ^ 32) ≡ small → places_for rules q Flush (if small then Sync10 0 0 else Sync16 0 0) ≡ Some places
      by true e = rw e all
      by false e = rw e all
