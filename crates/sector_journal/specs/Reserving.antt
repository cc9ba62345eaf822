-- What a request reserved, and the pieces that it covers.
use Rattle.std.specs.Prelude.{ℕ, ◌*◌, ◌==◌, if◌then◌else◌, ◌+◌, ◌-◌, ◌/◌, ◌%◌, min, ◌&&◌, ◌||◌, Bool, true, false, nat_le, nat_eq}
use Rattle.sector.specs.declared.Extent.{Extent}
use Rattle.srb.specs.declared.Kind.{Kind}
use Rattle.srb.specs.declared.Kind.TheVariants.{Read, Write, Flush}
use Rattle.sector_journal.specs.declared.reservation.Reservation.{Reservation}

abbrev pub is_read : Kind → Bool
is_read Read = true
is_read Write = false
is_read Flush = false

abbrev pub is_write : Kind → Bool
is_write Read = false
is_write Write = true
is_write Flush = false

abbrev pub is_flush : Kind → Bool
is_flush Read = false
is_flush Write = false
is_flush Flush = true

abbrev pub is_same : Kind → Kind → Bool
is_same Read kind = is_read kind
is_same Write kind = is_write kind
is_same Flush kind = is_flush kind

-- each sector of the first extent is one of the other's
abbrev pub lies_in : Extent → Extent → Bool
lies_in extent other = nat_le other.first extent.first && (nat_le extent.count other.count && nat_le (extent.first - other.first) (other.count - extent.count))

-- a piece of this kind and extent may be one of the request's
abbrev pub covers : Kind → Extent → Reservation → Bool
covers kind extent reservation = is_same kind reservation.kind && (is_flush kind || lies_in extent reservation.extent)

abbrev pub is_of : ℕ → Reservation → Bool
is_of request reservation = nat_eq reservation.request request

-- the number of pieces that a transfer is cut into; a flush is one
abbrev pub pieces_by : Kind → ℕ → ℕ → ℕ
pieces_by Read count most = count / most + min (count % most) 1
pieces_by Write count most = count / most + min (count % most) 1
pieces_by Flush count most = 1

abbrev pub pieces_of : Reservation → ℕ
pieces_of reservation = pieces_by reservation.kind reservation.extent.count reservation.max_transfer

-- this many pieces where their length is this one, else none
abbrev pub of_length : ℕ → ℕ → ℕ → ℕ
of_length pieces bytes long = if bytes == long then pieces else 0

-- how many pieces of this many bytes a transfer is cut into: those of full length, and the last; a flush is one, of no
-- bytes
abbrev pub lengths_by : Kind → ℕ → ℕ → ℕ → ℕ → ℕ
lengths_by Read count most size long = of_length (count / most) (most * size) long + of_length (min (count % most) 1) (count % most * size) long
lengths_by Write count most size long = of_length (count / most) (most * size) long + of_length (min (count % most) 1) (count % most * size) long
lengths_by Flush count most size long = of_length 0 0 long + of_length 1 0 long

abbrev pub pieces_with : ℕ → ℕ → Reservation → ℕ
pieces_with size long reservation = lengths_by reservation.kind reservation.extent.count reservation.max_transfer size long
