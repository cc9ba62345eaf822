-- The table of an adapter in memory: a slot for each tag, the counts, and the labels.
use Rattle.std.specs.Prelude.{◌≡◌, ◌≢◌, ℕ, suc, ◌+◌, Bool, true, false, List, [], ◌∷◌, ◌++◌, Option, Some, None, Result, Ok, Err, get_or, slice_set, length, map, take, drop, sum_by, if◌then◌else◌}
use Rattle.std.specs.List.{flat_map}
use Rattle.srb.specs.declared.Srb.{Srb}
use Rattle.srb.specs.declared.Entry.{Entry}
use Rattle.srb.specs.declared.Kind.TheVariants.{Read}
use Rattle.srb.specs.declared.Booked.{Booked}
use Rattle.srb.specs.declared.Booked.TheVariants.{Copied, Taken, Sent, Failed as FailedSo}
use Rattle.srb.specs.declared.Completion.{Completion}
use Rattle.srb.specs.declared.DeviceLabel.{DeviceLabel}
use Rattle.srb.specs.declared.DeviceLabel.TheVariants.{Start, Act, Fault, Return}
use Rattle.srb.specs.Bare.{in_memory}
use Rattle.srb.specs.Fate.{Fate, Fresh, Acted, Faulted, class_of}
use Rattle.adapter.specs.View.{TagInUse}
use Rattle.miniport.specs.declared.on_tag.OnTag.{OnTag}
use Rattle.miniport.specs.declared.on_tag.Progress.{Progress}
use Rattle.miniport.specs.declared.on_tag.Progress.TheVariants.{Untouched, Moved, Failed}
use Rattle.miniport.specs.Faults.{success, busy, bus_reset}
use Rattle.miniport.specs.declared.on_tag.Booking.{Booking}
use Rattle.miniport.specs.declared.on_tag.Booking.TheVariants.{Nothing, Bytes, Failure}
use Rattle.miniport.specs.Carrying.{with_data}
use Rattle.miniport.specs.Moving.{moved_by}

pub record Table : Type 0 where
  pub slots : List (Option OnTag)
  pub accepted : ℕ
  pub failures : ℕ
  pub labels : List DeviceLabel
  pub keeps_bytes : Bool

-- the piece on a tag, if there is one
abbrev pub piece_at : List (Option OnTag) → ℕ → Option OnTag
piece_at slots tag = get_or slots tag None

-- WHAT A SLOT SHOWS

abbrev pub fate_of : ℕ → Srb → Progress → Fate
fate_of size srb Untouched = Fresh
fate_of size srb Moved = Acted (moved_by size srb.block srb.data)
fate_of size srb (Failed completion) = Faulted

abbrev pub has_bytes : Booking → Bool
has_bytes Nothing = false
has_bytes Bytes = true
has_bytes (Failure completion) = false

abbrev pub in_use_of : ℕ → ℕ → OnTag → TagInUse
in_use_of size tag on = record {
  tag = tag;
  piece = on.piece;
  srb = on.srb;
  fate = fate_of size on.srb on.progress;
  failures_before = on.failures_before;
  was_reset = on.was_reset;
  booked = has_bytes on.booking;
}

-- the tags in use among these slots, of which the first is that of this tag
abbrev pub tags_of : ℕ → ℕ → List (Option OnTag) → List TagInUse
tags_of size tag [] = []
tags_of size tag (None ∷ slots) = tags_of size (suc tag) slots
tags_of size tag (Some on ∷ slots) = in_use_of size tag on ∷ tags_of size (suc tag) slots

abbrev pub completion_by : Progress → Completion
completion_by Untouched = busy
completion_by Moved = success
completion_by (Failed completion) = completion

-- the completion with which a piece would come back now
abbrev pub completion_of : OnTag → Completion
completion_of on = if on.was_reset then bus_reset else completion_by on.progress

abbrev pub slot_completion : Option OnTag → Option Completion
slot_completion None = None
slot_completion (Some on) = Some (completion_of on)

-- WHAT BECOMES OF A TABLE

abbrev pub with_slot : ℕ → Option OnTag → Table → Table
with_slot tag slot table = record table { slots = slice_set table.slots tag slot }

abbrev pub new_piece : ℕ → ℕ → Srb → OnTag
new_piece failures piece srb = record {
  piece = piece;
  srb = srb;
  progress = Untouched;
  failures_before = failures;
  was_reset = false;
  booking = Nothing;
}

abbrev pub with_new : ℕ → ℕ → Srb → Table → Table
with_new tag piece srb table = record table {
  slots = slice_set table.slots tag (Some (new_piece table.failures piece srb));
  accepted = table.accepted + 1;
  labels = table.labels ++ Start piece tag srb.block ∷ [];
}

-- an SRB with other data, whose room for the label's bytes is gone
abbrev pub emptied : List ℕ → Srb → Srb
emptied bytes srb = record srb { «data» = bytes; for_label = 0 }

-- the table once the piece has acted and is this; its bytes stand in its data, and the label has the room for them
abbrev pub with_moved : ℕ → OnTag → Table → Table
with_moved tag on table = record table {
  slots = slice_set table.slots tag (Some (record on { srb = emptied on.srb.data on.srb }));
  labels = table.labels ++ Act on.piece on.srb.data ∷ [];
}

-- the table once the piece has failed and is this
abbrev pub with_failed : ℕ → OnTag → Table → Table
with_failed tag on table = record table {
  slots = slice_set table.slots tag (Some on);
  failures = table.failures + 1;
  labels = table.labels ++ Fault on.piece ∷ [];
}

-- the bytes of the entry may become these data: there are as many and, unless it is a read, they are the same
pub record MayBecome (entry : Entry) (place : List ℕ) : Type 0 where
  pub as_many : length entry.bytes ≡ length place
  pub same : entry.kind ≢ Read → entry.bytes ≡ place

abbrev pub Fits : Booked → List ℕ → Type 0
Fits (Copied entry) place = MayBecome entry.now place
Fits (Taken entry) place = MayBecome entry.now place
Fits Sent place = Unit {0}
Fits (FailedSo completion) place = Unit {0}

-- the piece with what was handed over to be booked
abbrev pub booked_with : Booked → OnTag → OnTag
booked_with (Copied entry) on = record on { srb = with_data entry.now.bytes on.srb; booking = Bytes }
booked_with (Taken entry) on = record on { srb = with_data entry.now.bytes on.srb; booking = Bytes }
booked_with Sent on = record on { booking = Bytes }
booked_with (FailedSo completion) on = record on { booking = Failure completion }

-- what is booked of a piece
abbrev pub booked_piece : Result Entry Completion → OnTag → OnTag
booked_piece (Ok entry) on = record on { srb = with_data entry.bytes on.srb; booking = Bytes }
booked_piece (Err completion) on = record on { booking = Failure completion }

-- the table once the piece has left
abbrev pub with_returned : ℕ → OnTag → Table → Table
with_returned tag on table = record table {
  slots = slice_set table.slots tag None;
  labels = table.labels ++ Return on.piece (class_of (completion_of on)) ∷ [];
}

-- RESET

abbrev pub progress_after_reset : Progress → Progress
progress_after_reset Untouched = Failed bus_reset
progress_after_reset Moved = Moved
progress_after_reset (Failed completion) = Failed completion

abbrev pub slot_after_reset : Option OnTag → Option OnTag
slot_after_reset None = None
slot_after_reset (Some on) = Some (record on { progress = progress_after_reset on.progress; was_reset = true })

-- one failure for a piece that no reset met before
abbrev pub failures_of_reset : Option OnTag → ℕ
failures_of_reset None = 0
failures_of_reset (Some on) = if on.was_reset then 0 else 1

-- a label for a piece that had done nothing
abbrev pub labels_by : ℕ → Progress → List DeviceLabel
labels_by piece Untouched = Fault piece ∷ []
labels_by piece Moved = []
labels_by piece (Failed completion) = []

abbrev pub labels_of_reset : Option OnTag → List DeviceLabel
labels_of_reset None = []
labels_of_reset (Some on) = labels_by on.piece on.progress

-- what a reset has to know of a piece
abbrev pub met_of : OnTag → ℕ × Progress × Bool
met_of on = (on.piece, on.progress, on.was_reset)

-- the table with the reset of a slot counted and recorded
abbrev pub with_reset_counted : Option OnTag → Table → Table
with_reset_counted slot table = record table {
  failures = table.failures + failures_of_reset slot;
  labels = table.labels ++ labels_of_reset slot;
}

abbrev pub with_reset_at : ℕ → Table → Table
with_reset_at tag table = with_slot tag (slot_after_reset (piece_at table.slots tag)) (with_reset_counted (piece_at table.slots tag) table)

-- the table with its first slots reset
abbrev pub with_first_reset : ℕ → Table → Table
with_first_reset count table = record table {
  slots = map slot_after_reset (take count table.slots) ++ drop count table.slots;
  failures = table.failures + sum_by failures_of_reset (take count table.slots);
  labels = table.labels ++ flat_map labels_of_reset (take count table.slots);
}

abbrev pub with_reset : Table → Table
with_reset table = record table {
  slots = map slot_after_reset table.slots;
  failures = table.failures + sum_by failures_of_reset table.slots;
  labels = table.labels ++ flat_map labels_of_reset table.slots;
}

-- WHAT A CALL FINDS

-- the tag has no piece that has done nothing yet
abbrev pub HasNoneUntouched : List (Option OnTag) → ℕ → Type 0
HasNoneUntouched slots tag = (on : OnTag) → piece_at slots tag ≡ Some on → on.progress ≢ Untouched

-- the tag's piece comes back
pub record ComesBack (old : Table) (tag : ℕ) (srb : Srb) (completion : Completion) (new : Table) : Type 0 where
  pub on : OnTag
  pub was_there : piece_at old.slots tag ≡ Some on
  pub completion_is : completion ≡ completion_of on
  pub comes_back : srb ≡ record on.srb { sense = completion.sense }
  pub after : new ≡ with_returned tag on old

-- the tag's piece, which had done nothing yet, failed
pub record Fails (old : Table) (tag : ℕ) (completion : Completion) (new : Table) : Type 0 where
  pub on : OnTag
  pub was_there : piece_at old.slots tag ≡ Some on
  pub untouched : on.progress ≡ Untouched
  pub after : new ≡ with_failed tag (record on { progress = Failed completion }) (with_slot tag None old)

-- the earliest label leaves, as memory has it
pub record TakesFirst (old : Table) (label : DeviceLabel) (new : Table) : Type 0 where
  pub first : DeviceLabel
  pub rest : List DeviceLabel
  pub is_first : old.labels ≡ first ∷ rest
  pub shown : label ≡ in_memory old.keeps_bytes first
  pub after : new ≡ record old { labels = rest }
