-- A command in the form of ten bytes, or of sixteen.
use Rattle.std.proofs.Common.{◌≡◌, ◌⊎◌, ℕ, Bool, true, false, List, inl, inr, sym, ◌∙◌, arith}
use Rattle.std.specs.Prelude.{nat_le, ◌^◌, if◌then◌else◌}
use Rattle.cdb.specs.declared.Cdb.TheVariants.{Read10, Write10, Sync10, Read16, Write16, Sync16}
use Rattle.cdb.specs.Meaning.{Means, AsksToRead, AsksToWrite}
use Rattle.machine.specs.Sending.{fits_ten, read_command, write_command, flush_command}

pub read_forms : (block : List ℕ) (lba count : ℕ) (fua : Bool) → Means block (read_command lba count fua) → AsksToRead block lba count fua
read_forms block lba count fua m = by_form (fits_ten lba count) m
  where
    by_form : (ten : Bool) → Means block (if ten then Read10 lba count fua else Read16 lba count fua) → AsksToRead block lba count fua
    by_form true m = inl m
    by_form false m = inr m

pub write_forms : (block : List ℕ) (lba count : ℕ) (fua : Bool) → Means block (write_command lba count fua) → AsksToWrite block lba count fua
write_forms block lba count fua m = by_form (fits_ten lba count) m
  where
    by_form : (ten : Bool) → Means block (if ten then Write10 lba count fua else Write16 lba count fua) → AsksToWrite block lba count fua
    by_form true m = inl m
    by_form false m = inr m

pub flush_forms : (block : List ℕ) (disk_sectors : ℕ) → Means block (flush_command disk_sectors) → Means block (Sync10 0 0) ⊎ Means block (Sync16 0 0)
flush_forms block disk_sectors m = by_form (nat_le disk_sectors (2 ^ 32)) m
  where
    by_form : (ten : Bool) → Means block (if ten then Sync10 0 0 else Sync16 0 0) → Means block (Sync10 0 0) ⊎ Means block (Sync16 0 0)
    by_form true m = inl m
    by_form false m = inr m

-- a block asks for one write
pub one_write : (block : List ℕ) (lba count first blocks : ℕ) (fua through : Bool) → AsksToWrite block lba count fua → AsksToWrite block first blocks through
    → (lba ≡ first) × (count ≡ blocks)
one_write block lba count first blocks fua through (inl m) (inl n) = (sym m.1.address ∙ n.1.address, sym m.1.blocks ∙ n.1.blocks)
one_write block lba count first blocks fua through (inr m) (inr n) = (sym m.1.address ∙ n.1.address, sym m.1.blocks ∙ n.1.blocks)
one_write block lba count first blocks fua through (inl m) (inr n) = absurd (omega (arith, m.0.operation, n.0.operation))
one_write block lba count first blocks fua through (inr m) (inl n) = absurd (omega (arith, m.0.operation, n.0.operation))

-- and for one read
pub one_read : (block : List ℕ) (lba count first blocks : ℕ) (fua through : Bool) → AsksToRead block lba count fua → AsksToRead block first blocks through
    → (lba ≡ first) × (count ≡ blocks)
one_read block lba count first blocks fua through (inl m) (inl n) = (sym m.1.address ∙ n.1.address, sym m.1.blocks ∙ n.1.blocks)
one_read block lba count first blocks fua through (inr m) (inr n) = (sym m.1.address ∙ n.1.address, sym m.1.blocks ∙ n.1.blocks)
one_read block lba count first blocks fua through (inl m) (inr n) = absurd (omega (arith, m.0.operation, n.0.operation))
one_read block lba count first blocks fua through (inr m) (inl n) = absurd (omega (arith, m.0.operation, n.0.operation))
