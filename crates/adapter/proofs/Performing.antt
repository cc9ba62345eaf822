-- No command changes how many sectors a disk has.
use Rattle.std.proofs.Common.{◌≡◌, ℕ, Bool, true, false, List, ◌∙◌, ap, arith, length}
use Rattle.cdb.specs.declared.Cdb.{Cdb}
use Rattle.cdb.specs.declared.Cdb.TheVariants.{Read10, Write10, Sync10, ReadCapacity10, Read16, Write16, Sync16, ReadCapacity16}
use Rattle.adapter.specs.Performing.{Performs, CarriesOut}
use Rattle.sector.proofs.Splicing.{length-splice}

pub Performs-length : (size : ℕ) (sectors : List (List ℕ)) (bytes : List ℕ) (command : Cdb) (moved after : List (List ℕ))
    → Performs size sectors bytes command moved after → length after ≡ length sectors
Performs-length size sectors bytes (Read10 lba count fua) moved after h = ap length h.2
Performs-length size sectors bytes (Write10 lba count fua) moved after (within, same, covers, whole, is) =
    ap length is ∙ length-splice sectors lba moved (omega (arith, within, covers))
Performs-length size sectors bytes (Sync10 lba blocks) moved after h = ap length h.1
Performs-length size sectors bytes ReadCapacity10 moved after h = ap length h.1
Performs-length size sectors bytes (Read16 lba count fua) moved after h = ap length h.2
Performs-length size sectors bytes (Write16 lba count fua) moved after (within, same, covers, whole, is) =
    ap length is ∙ length-splice sectors lba moved (omega (arith, within, covers))
Performs-length size sectors bytes (Sync16 lba blocks) moved after h = ap length h.1
Performs-length size sectors bytes (ReadCapacity16 allocation) moved after h = ap length h.1

pub CarriesOut-length : (faithful told : Bool) (size : ℕ) (sectors : List (List ℕ)) (bytes : List ℕ) (command : Cdb) (moved after : List (List ℕ))
    → CarriesOut faithful told size sectors bytes command moved after → length after ≡ length sectors
CarriesOut-length true told size sectors bytes command moved after h = Performs-length size sectors bytes command moved after h
CarriesOut-length false told size sectors bytes command moved after h = ap length h.1
