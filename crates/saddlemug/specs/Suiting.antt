-- Whether the bytes that C moved are of what a piece asks for.
use Rattle.std.specs.Prelude.{◌≡◌, ℕ, ◌+◌, ◌*◌, ◌==◌, ◌&&◌, nat_le, Bool, List, length}
use Rattle.std.specs.Str.{bytes_eq}
use Rattle.srb.specs.declared.Entry.{Entry}
use Rattle.srb.specs.declared.Kind.{Kind}
use Rattle.srb.specs.declared.Kind.TheVariants.{Read, Write, Flush}
use Rattle.srb.specs.declared.Srb.{Srb}
use Rattle.adapter.specs.Booking.{IsOfSrb}
use Rattle.saddlemug.specs.declared.asked.Asked.{Asked}
use Rattle.saddlemug.specs.declared.booking.DiskOf.{DiskOf}
use Rattle.saddlemug.specs.declared.places.PieceBytes.{PieceBytes}

-- the sectors lie in the disk, and have just these bytes
abbrev pub lies_within : ℕ → ℕ → List ℕ → Asked → Bool
lies_within size sectors srb_data a = nat_le (a.extent.first + a.extent.count) sectors && (length srb_data == a.extent.count * size)

abbrev pub is_of_kind : Kind → ℕ → ℕ → List ℕ → List ℕ → Asked → Bool
is_of_kind Read size sectors srb_data bytes a = lies_within size sectors srb_data a && (length bytes == length srb_data)
is_of_kind Write size sectors srb_data bytes a = lies_within size sectors srb_data a && bytes_eq bytes srb_data
is_of_kind Flush size sectors srb_data bytes a = (length srb_data == 0) && (length bytes == 0)

abbrev pub is_asked : ℕ → ℕ → List ℕ → List ℕ → Asked → Bool
is_asked size sectors srb_data bytes a = is_of_kind a.kind size sectors srb_data bytes a

-- an entry of this kind and these sectors, with all bytes of the place, is of an act that the SRB asks for; there are
-- this many bytes
pub record SuitsAs (disk : DiskOf) (srb : Srb) (count : ℕ) (own : PieceBytes) (a : Asked) : Type 0 where
  pub many : count ≡ length own.bytes.items
  pub suits : (entry : Entry) → entry.kind ≡ a.kind → entry.extent ≡ a.extent → entry.bytes ≡ own.bytes.items → IsOfSrb disk.sector_size disk.sectors srb entry

-- no entry with all bytes of the place, this many, is of an act that the SRB asks for
abbrev pub SuitsNone : DiskOf → Srb → ℕ → PieceBytes → Type 0
SuitsNone disk srb count own = (entry : Entry) → count ≡ length own.bytes.items → entry.bytes ≡ own.bytes.items → ¬ IsOfSrb disk.sector_size disk.sectors srb entry
