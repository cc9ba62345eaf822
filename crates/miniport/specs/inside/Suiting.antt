-- Whether an entry may be of an act that an SRB asks for.
use Rattle.std.specs.Prelude.{ℕ, ◌+◌, ◌*◌, ◌==◌, ◌&&◌, nat_le, Bool, true, false, List, length}
use Rattle.std.specs.Str.{bytes_eq}
use Rattle.cdb.specs.declared.Cdb.{Cdb}
use Rattle.cdb.specs.declared.Cdb.TheVariants.{Read10, Write10, Sync10, ReadCapacity10, Read16, Write16, Sync16, ReadCapacity16}
use Rattle.srb.specs.declared.Kind.{Kind}
use Rattle.srb.specs.declared.Kind.TheVariants.{Read, Write, Flush}
use Rattle.srb.specs.declared.Entry.{Entry}

abbrev pub agree : Kind → Kind → Bool
agree Read Read = true
agree Read Write = false
agree Read Flush = false
agree Write Read = false
agree Write Write = true
agree Write Flush = false
agree Flush Read = false
agree Flush Write = false
agree Flush Flush = true

abbrev pub is_at : ℕ → ℕ → Entry → Bool
is_at lba count entry = (entry.extent.first == lba) && (entry.extent.count == count)

abbrev pub is_as_long : ℕ → ℕ → List ℕ → ℕ → ℕ → Entry → Bool
is_as_long size sectors bytes lba count entry = nat_le (lba + count) sectors && ((length bytes == count * size) && (length entry.bytes == length bytes))

abbrev pub is_transfer_of : ℕ → ℕ → List ℕ → Kind → ℕ → ℕ → Entry → Bool
is_transfer_of size sectors bytes kind lba count entry = agree entry.kind kind && (is_at lba count entry && is_as_long size sectors bytes lba count entry)

abbrev pub is_flush_of : List ℕ → ℕ → ℕ → Entry → Bool
is_flush_of bytes lba count entry = agree entry.kind Flush && (is_at lba count entry && ((length bytes == 0) && (length entry.bytes == 0)))

abbrev pub may_be_of : ℕ → ℕ → List ℕ → Entry → Cdb → Bool
may_be_of size sectors bytes entry (Read10 lba count fua) = is_transfer_of size sectors bytes Read lba count entry
may_be_of size sectors bytes entry (Write10 lba count fua) = is_transfer_of size sectors bytes Write lba count entry && bytes_eq entry.bytes bytes
may_be_of size sectors bytes entry (Sync10 lba count) = is_flush_of bytes lba count entry
may_be_of size sectors bytes entry ReadCapacity10 = false
may_be_of size sectors bytes entry (Read16 lba count fua) = is_transfer_of size sectors bytes Read lba count entry
may_be_of size sectors bytes entry (Write16 lba count fua) = is_transfer_of size sectors bytes Write lba count entry && bytes_eq entry.bytes bytes
may_be_of size sectors bytes entry (Sync16 lba count) = is_flush_of bytes lba count entry
may_be_of size sectors bytes entry (ReadCapacity16 allocation) = false

-- the sectors lie in the disk, and these are all their bytes
abbrev pub is_whole_of : ℕ → ℕ → List ℕ → ℕ → ℕ → Bool
is_whole_of size sectors bytes lba count = nat_le (lba + count) sectors && (length bytes == count * size)

-- a command writes all these bytes, or flushes and there are none
abbrev pub is_sent_by : ℕ → ℕ → List ℕ → Cdb → Bool
is_sent_by size sectors bytes (Read10 lba count fua) = false
is_sent_by size sectors bytes (Write10 lba count fua) = is_whole_of size sectors bytes lba count
is_sent_by size sectors bytes (Sync10 lba count) = length bytes == 0
is_sent_by size sectors bytes ReadCapacity10 = false
is_sent_by size sectors bytes (Read16 lba count fua) = false
is_sent_by size sectors bytes (Write16 lba count fua) = is_whole_of size sectors bytes lba count
is_sent_by size sectors bytes (Sync16 lba count) = length bytes == 0
is_sent_by size sectors bytes (ReadCapacity16 allocation) = false
