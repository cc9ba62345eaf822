-- What an adapter shows, and how that moves by the labels that it records.
use Rattle.std.specs.Prelude.{◌≡◌, ◌≢◌, ◌<◌, ◌≤◌, ◌^◌, ◌⊎◌, ℕ, ◌+◌, ◌*◌, ◌==◌, Bool, true, false, IsTrue, IsFalse, List, [], ◌∷◌, ◌++◌, map, length, All, AllPairs, IsPermutation, bit_and}
use Rattle.std.specs.List.{concat}
use Rattle.sector.specs.declared.Extent.{Extent}
use Rattle.sector.specs.Extents.{CoversMoreNear, IsCovered, IsSector}
use Rattle.cdb.specs.declared.Cdb.{Cdb}
use Rattle.cdb.specs.Meaning.{Means, AsksToWrite}
use Rattle.srb.specs.declared.Srb.{Srb}
use Rattle.srb.specs.declared.Completion.{Completion}
use Rattle.srb.specs.declared.Class.{Class}
use Rattle.srb.specs.declared.Class.TheVariants.{Good, Busy, Bad}
use Rattle.srb.specs.declared.DeviceLabel.{DeviceLabel}
use Rattle.srb.specs.declared.DeviceLabel.TheVariants.{Start, Act, Fault, Return}
use Rattle.srb.specs.Fate.{Fate, Fresh, Acted, Faulted, class_of}
use Rattle.adapter.specs.Performing.{CarriesOut}

-- a tag with a piece on it
pub record TagInUse : Type 0 where
  pub tag : ℕ
  pub piece : ℕ
  -- the SRB as it would come back now, but for its sense data
  pub srb : Srb
  pub fate : Fate
  -- the failures counted when the piece was accepted
  pub failures_before : ℕ
  -- whether it has met a reset
  pub was_reset : Bool
  -- whether its act was booked: the act's bytes then stand in the data of its SRB
  pub booked : Bool

-- what an adapter shows
pub record AdapterView : Type 0 where
  -- bytes of a sector
  pub sector_size : ℕ
  pub sectors : List (List ℕ)
  -- whether its acts move these sectors; if not, its sectors stand elsewhere, and these never change
  pub faithful : Bool
  -- whether the bytes of its labels stand in memory, in the rooms that SRBs bring; if not, contracts alone read them
  pub keeps_bytes : Bool
  -- sectors of the longest transfer
  pub max_transfer : ℕ
  pub depth : ℕ
  -- the tags in use, in any order
  pub tags : List TagInUse
  -- the pieces ever accepted
  pub accepted : ℕ
  pub failures : ℕ
  -- the extents that were reserved for writes
  pub reserved : List Extent
  -- sectors are reserved in runs of this many, counted from sector 0
  pub run : ℕ
  -- the labels that were recorded and not taken yet, the earliest first
  pub labels : List DeviceLabel

-- WHAT HOLDS AT EVERY MOMENT

-- the tag is one of the adapter's
abbrev pub IsBelow : ℕ → TagInUse → Type 0
IsBelow depth use' = use'.tag < depth

-- the two are on different tags
abbrev pub HaveOtherTags : TagInUse → TagInUse → Type 0
HaveOtherTags use' other = use'.tag ≢ other.tag

-- sizes in their ranges, sectors whole, tags below the depth and each once, failures and labels within their bounds
pub record IsInOrder (view : AdapterView) : Type 0 where
  pub sector_size : (view.sector_size ≡ 512) ⊎ (view.sector_size ≡ 4096)
  pub sectors : (1 ≤ length view.sectors) × (length view.sectors ≤ 2 ^ 40)
  pub whole_sectors : All (IsSector view.sector_size) view.sectors
  pub max_transfer : (1 ≤ view.max_transfer) × (view.max_transfer ≤ 2 ^ 16)
  pub depth : (1 ≤ view.depth) × (view.depth ≤ 32)
  pub tags_below : All (IsBelow view.depth) view.tags
  pub tags_differ : AllPairs HaveOtherTags view.tags
  pub failures : view.failures ≤ 2 * view.accepted + 1
  pub labels : length view.labels ≤ 64

-- TAGS

-- the tag in use is this one
abbrev pub HasTag : ℕ → TagInUse → Type 0
HasTag tag use' = use'.tag ≡ tag

-- the tag in use is another
abbrev pub HasNotTag : ℕ → TagInUse → Type 0
HasNotTag tag use' = use'.tag ≢ tag

-- no piece is on the tag
abbrev pub IsFree : AdapterView → ℕ → Type 0
IsFree view tag = All (HasNotTag tag) view.tags

-- the piece on this tag, and the other tags in use
pub record IsOn (view : AdapterView) (tag : ℕ) (use' : TagInUse) (others : List TagInUse) : Type 0 where
  pub in_use : IsPermutation view.tags (use' ∷ others)
  pub has_tag : use'.tag ≡ tag

-- an SRB after its command failed: unless it is a write, its data may be other bytes, just as many; its room for the
-- label may be less
pub record IsSpoiled (before after : Srb) : Type 0 where
  pub same : after ≡ record before { «data» = after.data; for_label = after.for_label }
  pub as_many : length after.data ≡ length before.data
  pub of_write : (lba count : ℕ) (fua : Bool) → AsksToWrite before.block lba count fua → after.data ≡ before.data

-- the tag's piece never acts, and this SRB is left to it
abbrev pub faulted : Srb → TagInUse → TagInUse
faulted srb use' = record use' { fate = Faulted; srb = srb }

-- the tag's piece acted: its SRB's data are what it moved; this is left of the room for the label, in which they go out
abbrev pub acted : List (List ℕ) → ℕ → TagInUse → TagInUse
acted moved left use' = record use' {
  fate = Acted moved;
  srb = record use'.srb { «data» = concat moved; for_label = left };
}

-- RESERVATIONS

-- each sector of the extent is one of a reserved extent
abbrev pub IsReserved : AdapterView → Extent → Type 0
IsReserved view extent = IsCovered view.reserved extent

-- each sector that is reserved now was reserved before, or is in a run with a sector of the extent
abbrev pub ReservesNear : AdapterView → Extent → AdapterView → Type 0
ReservesNear old extent new = CoversMoreNear old.run extent old.reserved new.reserved

-- a write that lies in the disk has its extent reserved
abbrev pub IsWritable : AdapterView → Srb → Type 0
IsWritable view srb =
    (lba count : ℕ) (fua : Bool) → AsksToWrite srb.block lba count fua → lba + count ≤ length view.sectors
    → IsReserved view (record { first = lba; count = count })

-- ONE LABEL

-- a tag in use as it takes a piece, which has done nothing yet
abbrev pub in_use_from : AdapterView → ℕ → ℕ → Srb → TagInUse
in_use_from view tag piece srb = record {
  tag = tag;
  piece = piece;
  srb = srb;
  fate = Fresh;
  failures_before = view.failures;
  was_reset = false;
  booked = false;
}

-- the piece is on the tag, which was free
pub record Accepts (old : AdapterView) (tag piece : ℕ) (srb : Srb) (new : AdapterView) : Type 0 where
  pub tags : List TagInUse
  pub is_free : IsFree old tag
  pub below : tag < old.depth
  pub in_use : IsPermutation tags (in_use_from old tag piece srb ∷ old.tags)
  pub after : new ≡ record old {
    tags = tags;
    accepted = old.accepted + 1;
    labels = old.labels ++ Start piece tag srb.block ∷ [];
  }

-- a piece with this block starts on the tag
pub record StartsOn (old : AdapterView) (tag piece : ℕ) (block : List ℕ) (new : AdapterView) : Type 0 where
  pub srb : Srb
  pub has_block : srb.block ≡ block
  pub accepts : Accepts old tag piece srb new

-- where the sectors stand elsewhere, the bytes of each piece but piece 0 were booked
abbrev pub IsAsBooked : Bool → ℕ → TagInUse → List ℕ → Type 0
IsAsBooked faithful piece use' bytes = IsFalse faithful → piece ≢ 0 → IsTrue use'.booked × (bytes ≡ use'.srb.data)

-- the tag's piece, which had done nothing yet, is carried out in one step; piece 0, by which the disk is probed before
-- its first request, reads what every adapter shows
pub record ActsOn (old : AdapterView) (tag piece : ℕ) (bytes : List ℕ) (new : AdapterView) : Type 0 where
  pub use' : TagInUse
  pub others : List TagInUse
  pub command : Cdb
  pub moved : List (List ℕ)
  pub sectors : List (List ℕ)
  pub left : ℕ
  pub tags : List TagInUse
  pub is_on : IsOn old tag use' others
  pub is_piece : use'.piece ≡ piece
  pub is_fresh : use'.fate ≡ Fresh
  pub means : Means use'.srb.block command
  pub performs : CarriesOut old.faithful (piece == 0) old.sector_size old.sectors use'.srb.data command moved sectors
  pub hands_over : bytes ≡ concat moved
  pub as_booked : IsAsBooked old.faithful piece use' bytes
  pub in_use : IsPermutation tags (acted moved left use' ∷ others)
  pub after : new ≡ record old { sectors = sectors; tags = tags; labels = old.labels ++ Act piece bytes ∷ [] }

-- the tag's piece, which had done nothing yet, never will; at least one failure is counted
pub record FaultsOn (old : AdapterView) (tag piece : ℕ) (new : AdapterView) : Type 0 where
  pub use' : TagInUse
  pub others : List TagInUse
  pub tags : List TagInUse
  pub failures : ℕ
  pub left : Srb
  pub is_on : IsOn old tag use' others
  pub is_piece : use'.piece ≡ piece
  pub is_fresh : use'.fate ≡ Fresh
  pub counted : old.failures < failures
  pub spoiled : IsSpoiled use'.srb left
  pub in_use : IsPermutation tags (faulted left use' ∷ others)
  pub after : new ≡ record old { tags = tags; failures = failures; labels = old.labels ++ Fault piece ∷ [] }

-- the low six bits of the SRB status are those of SRB_STATUS_BUS_RESET
abbrev pub IsBusReset : Completion → Type 0
IsBusReset completion = bit_and completion.srb_status 63 ≡ 14

-- how a piece may come back with this many failures counted: as good where it acted and met no reset, as busy where it
-- did nothing, as bad where failures were counted since it was accepted, and after a reset as BUS_RESET
abbrev pub MayReturn : ℕ → TagInUse → Class → Type 0
MayReturn failures use' Good = ((moved : List (List ℕ)) × (use'.fate ≡ Acted moved)) × IsFalse use'.was_reset
MayReturn failures use' Busy = (use'.fate ≡ Fresh) × IsFalse use'.was_reset
MayReturn failures use' (Bad completion) =
    (use'.failures_before < failures) × (class_of completion ≡ Bad completion)
    × (IsTrue use'.was_reset → IsBusReset completion)

-- the tag's piece comes back, and the tag is free; more failures may be counted, before the piece comes back
pub record ReturnsOn (old : AdapterView) (tag piece : ℕ) (class : Class) (new : AdapterView) : Type 0 where
  pub use' : TagInUse
  pub others : List TagInUse
  pub tags : List TagInUse
  pub failures : ℕ
  pub is_on : IsOn old tag use' others
  pub is_piece : use'.piece ≡ piece
  pub counted : old.failures ≤ failures
  pub may : MayReturn failures use' class
  pub in_use : IsPermutation tags others
  pub after : new ≡ record old { tags = tags; failures = failures; labels = old.labels ++ Return piece class ∷ [] }

-- the view moves by a label of the tag's piece
abbrev pub MovesOn : AdapterView → ℕ → DeviceLabel → AdapterView → Type 0
MovesOn old tag (Start piece started block) new = (started ≡ tag) × StartsOn old tag piece block new
MovesOn old tag (Act piece bytes) new = ActsOn old tag piece bytes new
MovesOn old tag (Fault piece) new = FaultsOn old tag piece new
MovesOn old tag (Return piece class) new = ReturnsOn old tag piece class new

-- the view moves by a label
abbrev pub MovesBy : AdapterView → DeviceLabel → AdapterView → Type 0
MovesBy old label new = (tag : ℕ) × MovesOn old tag label new

-- MANY LABELS

-- the tag's piece will come back as BUS_RESET
abbrev pub met_by_reset : TagInUse → TagInUse
met_by_reset use' = record use' { was_reset = true }

-- only the reserved extents may change, and what was reserved still is
pub record ReservesMore (old new : AdapterView) : Type 0 where
  pub reserved : List Extent
  pub after : new ≡ record old { reserved = reserved }
  pub lasts : (extent : Extent) → IsReserved old extent → IsReserved new extent

-- a reset is noted at all tags in use, and may be counted at each
pub record NotesReset (old new : AdapterView) : Type 0 where
  pub tags : List TagInUse
  pub failures : ℕ
  pub in_use : IsPermutation tags (map met_by_reset old.tags)
  pub counted : old.failures ≤ failures
  pub after : new ≡ record old { tags = tags; failures = failures }

-- the view moves by just these labels, in this order
abbrev pub MovesByAll : AdapterView → List DeviceLabel → AdapterView → Type 0
MovesByAll old [] new = new ≡ old
MovesByAll old (label ∷ labels) new = (after : AdapterView) × MovesBy old label after × MovesByAll after labels new
