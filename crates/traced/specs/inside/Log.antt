-- What the log of a trace keeps.
use Rattle.std.specs.Prelude.{◌≡◌, ◌<◌, ◌≤◌, ℕ, ◌+◌, List, Option, Some, None, length}
use Rattle.machine.specs.declared.Label.{Label}
use Rattle.machine.specs.declared.Label.TheVariants.{Call, Answer}
use Rattle.traced.specs.declared.TraceEntry.{TraceEntry}
use Rattle.traced.specs.Entries.{owner_of, WasCalled, count_of, is_call_of, is_answer_of}
use Rattle.traced.specs.Rows.{RowView, row_at}
use Rattle.traced.specs.Log.{LogView, AreKept}

-- a call of this row is not answered yet
abbrev pub IsAwaited : List TraceEntry → ℕ → Type 0
IsAwaited entries c = count_of (is_answer_of c) entries < count_of (is_call_of c) entries

-- the label may come next: a call of the next number, by a client whose places are there, or an answer to a request
-- whose row awaits one
abbrev pub MayNote : ℕ → ℕ → LogView → Label → Type 0
MayNote clients client p (Call number q) = (number ≡ length p.owners + 1) × (client < clients) × (p.ready ≡ Some client)
MayNote clients client p (Answer number status informed bytes) =
    WasCalled p.owners number × ((c : ℕ) → owner_of p.owners number ≡ Some c → IsAwaited p.entries c)
MayNote clients client p _ = Unit {0}

-- the client has the places for a call: room in its row for the call and its answer, and a place among the owners
pub record HasPlaces (rows : List RowView) (spare : ℕ) (c : ℕ) : Type 0 where
  pub is_client : c < length rows
  pub row : (row_at rows c).awaited + 2 ≤ (row_at rows c).room
  pub owner : 0 < spare

abbrev pub IsReady : List RowView → ℕ → Option ℕ → Type 0
IsReady rows spare None = Unit {0}
IsReady rows spare (Some c) = HasPlaces rows spare c

-- the label may come next, by the owners alone
abbrev pub IsNext : List ℕ → Label → Type 0
IsNext owners (Call number q) = number ≡ length owners + 1
IsNext owners (Answer number status informed bytes) = WasCalled owners number
IsNext owners _ = Unit {0}

-- the trace and the rows of these log
pub record IsLog (clients : ℕ) (p : LogView) (trace : List TraceEntry) (rows : List RowView) : Type 0 where
  pub stored : trace ≡ p.entries
  pub kept : AreKept clients p.entries p.owners rows
