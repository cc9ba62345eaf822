-- Entries, replayed on the sectors of a disk.
use Rattle.std.specs.Prelude.{◌≡◌, ℕ, List, [], ◌∷◌, length, All}
use Rattle.std.specs.List.{concat}
use Rattle.sector.specs.declared.Extent.{Extent}
use Rattle.sector.specs.Extents.{IsSector, sectors_in}
use Rattle.sector.specs.Splice.{splice}
use Rattle.srb.specs.declared.Entry.{Entry}
use Rattle.srb.specs.declared.Kind.{Kind}
use Rattle.srb.specs.declared.Kind.TheVariants.{Read, Write, Flush}

-- the sectors after an act of this kind; what a read hands over stood there
abbrev pub ReplaysKind : ℕ → List (List ℕ) → Extent → List ℕ → Kind → List (List ℕ) → Type 0
ReplaysKind size disk extent bytes Read after = (bytes ≡ concat (sectors_in disk extent)) × (after ≡ disk)
ReplaysKind size disk extent bytes Write after =
    (moved : List (List ℕ)) × (concat moved ≡ bytes) × (length moved ≡ extent.count) × All (IsSector size) moved × (after ≡ splice disk extent.first moved)
ReplaysKind size disk extent bytes Flush after = after ≡ disk

-- the sectors after all entries
abbrev pub Replays : ℕ → List (List ℕ) → List Entry → List (List ℕ) → Type 0
Replays size disk [] after = after ≡ disk
Replays size disk (entry ∷ entries) after =
    (mid : List (List ℕ)) × ReplaysKind size disk entry.extent entry.bytes entry.kind mid × Replays size mid entries after
