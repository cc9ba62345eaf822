-- What is booked of a piece, by an adapter whose sectors stand elsewhere: what its act did there, or how it failed.
use Rattle.std.specs.Prelude.{◌≡◌, ◌≢◌, ◌≤◌, ◌↔◌, ℕ, ◌+◌, ◌*◌, ◌==◌, ◌||◌, nat_lt, Bool, true, false, List, [], ◌∷◌, map, length, slice_index, Option, Some, None, Result, Ok, Err, IsFalse, if◌then◌else◌}
use Rattle.std.specs.Bool.{Decides}
use Rattle.byteorder.specs.Endian.{big_from}
use Rattle.sector.specs.declared.Extent.{Extent}
use Rattle.cdb.specs.declared.Cdb.{Cdb}
use Rattle.cdb.specs.declared.Cdb.TheVariants.{Read10, Write10, Sync10, ReadCapacity10, Read16, Write16, Sync16, ReadCapacity16}
use Rattle.cdb.specs.Meaning.{Means}
use Rattle.srb.specs.declared.Srb.{Srb}
use Rattle.srb.specs.declared.Kind.{Kind}
use Rattle.srb.specs.declared.Kind.TheVariants.{Read, Write, Flush}
use Rattle.srb.specs.declared.Entry.{Entry}
use Rattle.srb.specs.declared.Booked.{Booked}
use Rattle.srb.specs.declared.Booked.TheVariants.{Copied, Taken, Sent, Failed}
use Rattle.srb.specs.declared.Completion.{Completion}
use Rattle.srb.specs.declared.Class.TheVariants.{Bad}
use Rattle.srb.specs.Fate.{Fresh, class_of}
use Rattle.adapter.specs.View.{TagInUse, AdapterView, IsOn}

-- THE PIECE THAT MAY ACT

-- the tag's piece is this one, with this SRB, and has done nothing yet
pub record IsArmed (view : AdapterView) (tag piece : ℕ) (srb : Srb) : Type 0 where
  pub use' : TagInUse
  pub others : List TagInUse
  pub is_on : IsOn view tag use' others
  pub is_piece : use'.piece ≡ piece
  pub is_fresh : use'.fate ≡ Fresh
  pub is_srb : use'.srb ≡ srb

-- WHAT MAY BE BOOKED OF IT

-- the entry has this kind, these sectors, which lie in the disk, and as many bytes as the SRB
pub record IsTransferOf (size sectors : ℕ) (bytes : List ℕ) (kind : Kind) (lba count : ℕ) (entry : Entry) : Type 0 where
  pub kind_is : entry.kind ≡ kind
  pub first_is : entry.extent.first ≡ lba
  pub count_is : entry.extent.count ≡ count
  pub inside : lba + count ≤ sectors
  pub whole : length bytes ≡ count * size
  pub as_many : length entry.bytes ≡ length bytes

pub record IsFlushOf (bytes : List ℕ) (lba count : ℕ) (entry : Entry) : Type 0 where
  pub kind_is : entry.kind ≡ Flush
  pub first_is : entry.extent.first ≡ lba
  pub count_is : entry.extent.count ≡ count
  pub none : length bytes ≡ 0
  pub none_booked : length entry.bytes ≡ 0

-- the entry may be of an act of this command, sent with these bytes, on a disk of this many sectors
abbrev pub MayBeOf : ℕ → ℕ → List ℕ → Entry → Cdb → Type 0
MayBeOf size sectors bytes entry (Read10 lba count fua) = IsTransferOf size sectors bytes Read lba count entry
MayBeOf size sectors bytes entry (Write10 lba count fua) = IsTransferOf size sectors bytes Write lba count entry × (entry.bytes ≡ bytes)
MayBeOf size sectors bytes entry (Sync10 lba count) = IsFlushOf bytes lba count entry
MayBeOf size sectors bytes entry ReadCapacity10 = ⊥
MayBeOf size sectors bytes entry (Read16 lba count fua) = IsTransferOf size sectors bytes Read lba count entry
MayBeOf size sectors bytes entry (Write16 lba count fua) = IsTransferOf size sectors bytes Write lba count entry × (entry.bytes ≡ bytes)
MayBeOf size sectors bytes entry (Sync16 lba count) = IsFlushOf bytes lba count entry
MayBeOf size sectors bytes entry (ReadCapacity16 allocation) = ⊥

-- an entry of an act that the SRB asks for
pub record IsOfSrb (size sectors : ℕ) (srb : Srb) (entry : Entry) : Type 0 where
  pub command : Cdb
  pub means : Means srb.block command
  pub may : MayBeOf size sectors srb.data entry command

-- what is booked suits the SRB: an entry of an act that it asks for, or a completion that is neither good nor busy
abbrev pub Suits : ℕ → ℕ → Srb → Result Entry Completion → Type 0
Suits size sectors srb (Ok entry) = IsOfSrb size sectors srb entry
Suits size sectors srb (Err completion) = class_of completion ≡ Bad completion

-- the sectors stand elsewhere; the tag's fresh piece is this one, and not piece 0; what is to be booked suits it
pub record IsBookable (view : AdapterView) (tag piece : ℕ) (what : Result Entry Completion) : Type 0 where
  pub use' : TagInUse
  pub others : List TagInUse
  pub apart : IsFalse view.faithful
  pub is_on : IsOn view tag use' others
  pub is_piece : use'.piece ≡ piece
  pub is_fresh : use'.fate ≡ Fresh
  pub not_first : piece ≢ 0
  pub suits : Suits view.sector_size (length view.sectors) use'.srb what

-- WHAT IS HANDED OVER

-- the sectors that the SRB's block asks for, in the form of ten bytes or of sixteen
abbrev pub asked_extent : List ℕ → Extent
asked_extent block =
    if nat_lt (slice_index block 0) 128
    then record { first = big_from 2 4 block; count = big_from 7 2 block }
    else record { first = big_from 2 8 block; count = big_from 10 4 block }

-- the operation code of WRITE(10) or WRITE(16)
abbrev pub is_write_code : ℕ → Bool
is_write_code code = (code == 0x2A) || (code == 0x8A)

-- the entry of an act that wrote what the SRB sends, or flushed
abbrev pub entry_sent : ℕ → ℕ → Srb → Entry
entry_sent tag piece srb = record {
  piece = piece;
  tag = tag;
  extent = asked_extent srb.block;
  kind = if is_write_code (slice_index srb.block 0) then Write else Flush;
  bytes = srb.data;
}

-- these bytes are all that the command sends: the sectors of a write, which lie in the disk, or none for a flush
abbrev pub SendsFor : ℕ → ℕ → List ℕ → Cdb → Type 0
SendsFor size sectors bytes (Read10 lba count fua) = ⊥
SendsFor size sectors bytes (Write10 lba count fua) = (lba + count ≤ sectors) × (length bytes ≡ count * size)
SendsFor size sectors bytes (Sync10 lba count) = length bytes ≡ 0
SendsFor size sectors bytes ReadCapacity10 = ⊥
SendsFor size sectors bytes (Read16 lba count fua) = ⊥
SendsFor size sectors bytes (Write16 lba count fua) = (lba + count ≤ sectors) × (length bytes ≡ count * size)
SendsFor size sectors bytes (Sync16 lba count) = length bytes ≡ 0
SendsFor size sectors bytes (ReadCapacity16 allocation) = ⊥

-- the SRB asks to write all that it sends, or to flush
pub record SendsAll (size sectors : ℕ) (srb : Srb) : Type 0 where
  pub command : Cdb
  pub means : Means srb.block command
  pub sends : SendsFor size sectors srb.data command

-- the law: the entry of what an SRB sends may be booked exactly where the SRB is such a one
abbrev pub SentSuits : Type 0
SentSuits = (size sectors tag piece : ℕ) (srb : Srb) → SendsAll size sectors srb ↔ Suits size sectors srb (Ok (entry_sent tag piece srb))

-- what a call hands over, of the piece with this SRB
abbrev pub handed_of : ℕ → ℕ → Srb → Booked → Result Entry Completion
handed_of tag piece srb (Copied entry) = Ok entry.now
handed_of tag piece srb (Taken entry) = Ok entry.now
handed_of tag piece srb Sent = Ok (entry_sent tag piece srb)
handed_of tag piece srb (Failed completion) = Err completion

-- the SRB of the tag's piece
abbrev pub srb_on : ℕ → List TagInUse → Option Srb
srb_on tag [] = None
srb_on tag (use' ∷ others) = if use'.tag == tag then Some use'.srb else srb_on tag others

-- the entry of what the SRB on a tag sends; for a free tag a completion stands that may not be booked
abbrev pub sent_of : ℕ → ℕ → Option Srb → Result Entry Completion
sent_of tag piece (Some srb) = Ok (entry_sent tag piece srb)
sent_of tag piece None = Err (record { srb_status = 1; scsi_status = 0; sense = None })

-- what a call hands over; what is sent is taken from the SRB on the tag
abbrev pub handed : AdapterView → ℕ → ℕ → Booked → Result Entry Completion
handed view tag piece (Copied entry) = Ok entry.now
handed view tag piece (Taken entry) = Ok entry.now
handed view tag piece Sent = sent_of tag piece (srb_on tag view.tags)
handed view tag piece (Failed completion) = Err completion

-- BOOKING

-- the bytes come into the SRB's data, where those of a write stand already; a failure that is booked isn't shown
abbrev pub with_booked : Result Entry Completion → TagInUse → TagInUse
with_booked (Ok entry) use' = record use' { booked = true; srb = record use'.srb { «data» = entry.bytes } }
with_booked (Err completion) use' = record use' { booked = false }

abbrev pub booked_on : ℕ → Result Entry Completion → TagInUse → TagInUse
booked_on tag what use' = if use'.tag == tag then with_booked what use' else use'

abbrev pub with_booking : ℕ → Result Entry Completion → AdapterView → AdapterView
with_booking tag what view = record view { tags = map (booked_on tag what) view.tags }

-- what is given is booked exactly where it may be, and nothing else changes
pub record Books (old : AdapterView) (tag piece : ℕ) (what : Result Entry Completion) (new : AdapterView) : Type 0 where
  pub booked : Bool
  pub decides : Decides booked (IsBookable old tag piece what)
  pub after : new ≡ (if booked then with_booking tag what old else old)
