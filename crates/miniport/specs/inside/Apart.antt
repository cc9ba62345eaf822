-- How something is booked in a table of pieces, and how a piece ends as it was booked.
use Rattle.std.specs.Prelude.{◌≡◌, ◌≢◌, ℕ, ◌==◌, Bool, true, false, Some, None, Result}
use Rattle.srb.specs.declared.Completion.{Completion}
use Rattle.srb.specs.declared.Entry.{Entry}
use Rattle.srb.specs.declared.Booked.{Booked}
use Rattle.adapter.specs.Booking.{Suits, handed_of}
use Rattle.disk.specs.Medium.{MediumView}
use Rattle.miniport.specs.declared.check.Sizes.{Sizes}
use Rattle.miniport.specs.declared.on_tag.OnTag.{OnTag}
use Rattle.miniport.specs.declared.on_tag.Progress.TheVariants.{Untouched}
use Rattle.miniport.specs.declared.on_tag.Booking.{Booking}
use Rattle.miniport.specs.declared.on_tag.Booking.TheVariants.{Nothing, Bytes, Failure}
use Rattle.miniport.specs.declared.on_tag.Progress.TheVariants.{Moved as Done, Failed as Refused}
use Rattle.miniport.specs.inside.Memory.{PutsBack}
use Rattle.miniport.specs.Planned.{hardware_error}
use Rattle.miniport.specs.inside.Slots.{Table, booked_with, piece_at, with_slot, with_moved, with_failed}
use Rattle.miniport.specs.declared.carrying.Outcome.{Outcome}

-- the piece has this number, which isn't 0, and what is to be booked suits it
pub record SuitsPiece (size sectors : ℕ) (on : OnTag) (piece : ℕ) (what : Result Entry Completion) : Type 0 where
  pub not_first : piece ≢ 0
  pub is_piece : on.piece ≡ piece
  pub suits : Suits size sectors on.srb what

-- the piece on the tag is one of which this may be booked
pub record CanBook (sizes : Sizes) (table : Table) (tag piece : ℕ) (what : Booked) : Type 0 where
  pub on : OnTag
  pub there : piece_at table.slots tag ≡ Some on
  pub untouched : on.progress ≡ Untouched
  pub suits : SuitsPiece sizes.sector_size sizes.sectors on piece (handed_of tag piece on.srb what)

abbrev pub CannotBook : Sizes → Table → ℕ → ℕ → Booked → Type 0
CannotBook sizes table tag piece what =
    (on : OnTag) → piece_at table.slots tag ≡ Some on → on.progress ≡ Untouched
    → ¬ SuitsPiece sizes.sector_size sizes.sectors on piece (handed_of tag piece on.srb what)

-- this is booked of the piece on the tag
pub record BooksIn (sizes : Sizes) (table : Table) (tag piece : ℕ) (what : Booked) (table' : Table) : Type 0 where
  pub can : CanBook sizes table tag piece what
  pub after : table' ≡ with_slot tag (Some (booked_with what can.on)) (with_slot tag None table)

-- the piece has acted, by the bytes in its data
abbrev pub moved_as_booked : OnTag → OnTag
moved_as_booked on = record on { progress = Done }

abbrev pub failed_as : Completion → OnTag → OnTag
failed_as completion on = record on { progress = Refused completion }

abbrev pub EndsFailed : MediumView → Table → ℕ → OnTag → Completion → MediumView → Table → Type 0
EndsFailed medium table tag on completion medium' table' = (medium' ≡ medium) × (table' ≡ with_failed tag (failed_as completion on) table)

-- a piece of which nothing was booked fails; only piece 0 is carried out
abbrev pub EndsUnbooked : Bool → MediumView → Table → ℕ → OnTag → MediumView → Table → Type 0
EndsUnbooked true medium table tag on medium' table' = (outcome : Outcome) × PutsBack medium true table tag on outcome medium' table'
EndsUnbooked false medium table tag on medium' table' = EndsFailed medium table tag on hardware_error medium' table'

-- the piece ends as it was booked
abbrev pub EndsAsBooked : Booking → MediumView → Table → ℕ → OnTag → MediumView → Table → Type 0
EndsAsBooked Nothing medium table tag on medium' table' = EndsUnbooked (on.piece == 0) medium table tag on medium' table'
EndsAsBooked Bytes medium table tag on medium' table' = (medium' ≡ medium) × (table' ≡ with_moved tag (moved_as_booked on) table)
EndsAsBooked (Failure completion) medium table tag on medium' table' = EndsFailed medium table tag on completion medium' table'

-- the tag's piece, which had done nothing yet, ends as it was booked
pub record ActsApartIn (medium : MediumView) (table : Table) (tag : ℕ) (medium' : MediumView) (table' : Table) : Type 0 where
  pub on : OnTag
  pub there : piece_at table.slots tag ≡ Some on
  pub untouched : on.progress ≡ Untouched
  pub ends : EndsAsBooked on.booking medium (with_slot tag None table) tag on medium' table'
