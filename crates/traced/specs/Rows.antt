-- A client's row: the places of its calls and of their answers.
use Rattle.std.specs.Prelude.{◌≡◌, ◌+◌, ◌≤◌, ℕ, List, [], slice_index_or}
use Rattle.traced.specs.declared.TraceEntry.{TraceEntry}
use Rattle.traced.specs.Entries.{places, count_of, is_call_of, is_answer_of}

-- the places, how many answers are still to come, and how many places there is room for
pub record RowView : Type 0 where
  pub places : List ℕ
  pub awaited : ℕ
  pub room : ℕ

abbrev pub blank : RowView
blank = record { places = []; awaited = 0; room = 0 }

abbrev pub row_at : List RowView → ℕ → RowView
row_at rows c = slice_index_or rows c blank

-- the row c has just the places of its entries, and each of its calls is answered or awaits its answer
pub record IsRowAt (entries : List TraceEntry) (rows : List RowView) (c : ℕ) : Type 0 where
  pub places : (row_at rows c).places ≡ places c 0 entries
  pub awaited : count_of (is_answer_of c) entries + (row_at rows c).awaited ≡ count_of (is_call_of c) entries
  pub room : (row_at rows c).awaited ≤ (row_at rows c).room
