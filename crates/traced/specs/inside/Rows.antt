-- What the rows of the trace become by a label.
use Rattle.std.specs.Prelude.{◌+◌, ◌-◌, ◌≤◌, ◌<◌, ℕ, length, List, [], ◌∷◌, ◌++◌, Option, Some, slice_set}
use Rattle.machine.specs.declared.Label.{Label}
use Rattle.machine.specs.declared.Label.TheVariants.{Call, Answer}
use Rattle.traced.specs.Entries.{places}
use Rattle.traced.specs.Rows.{RowView, row_at}

-- the row with one more call
abbrev pub called : RowView → ℕ → RowView
called r place = record { places = r.places ++ place ∷ []; awaited = r.awaited + 1; room = r.room - 1 }

-- the row with one more answer
abbrev pub answered : RowView → ℕ → RowView
answered r place = record { places = r.places ++ place ∷ []; awaited = r.awaited - 1; room = r.room - 1 }

-- the rows with one more place in the row of the label, if it stands in one
abbrev pub rows_after : List RowView → Label → Option ℕ → ℕ → List RowView
rows_after rows (Call number q) (Some c) place = slice_set rows c (called (row_at rows c) place)
rows_after rows (Answer number status informed bytes) (Some c) place = slice_set rows c (answered (row_at rows c) place)
rows_after rows _ row place = rows

-- the label's row has room for it
abbrev pub MayStand : List RowView → Label → Option ℕ → Type 0
MayStand rows (Call number q) (Some c) = (c < length rows) × ((row_at rows c).awaited + 2 ≤ (row_at rows c).room)
MayStand rows (Answer number status informed bytes) (Some c) =
    (c < length rows) × (0 < (row_at rows c).awaited) × ((row_at rows c).awaited ≤ (row_at rows c).room)
MayStand rows _ row = Unit {0}
