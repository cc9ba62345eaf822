-- The trace: its labels, each with the row that it stands in. There is a row for each client, and the number of its
-- request tells a label's row.
use Rattle.std.specs.Prelude.{◌≡◌, ◌<◌, ◌≤◌, ℕ, suc, ◌-◌, ◌==◌, ◌&&◌, Bool, true, false, List, [], ◌∷◌, Option, Some, None, length, map, slice_get, if◌then◌else◌}
use Rattle.machine.specs.declared.Label.{Label}
use Rattle.machine.specs.declared.Label.TheVariants.{Call, Answer}
use Rattle.traced.specs.declared.TraceEntry.{TraceEntry}

abbrev pub entry : Label → Option ℕ → TraceEntry
entry label row = record { label = label; row = row }

-- the client of the request of a number, in a list of the clients of all requests by their numbers, which begin at 1
abbrev pub owner_of : List ℕ → ℕ → Option ℕ
owner_of owners number = slice_get owners (number - 1)

-- a call of that number is in the trace
abbrev pub WasCalled : List ℕ → ℕ → Type 0
WasCalled owners number = (0 < number) × (number ≤ length owners)

-- a call and an answer stand in the row of the request's client, any other label in none
abbrev pub row_of : List ℕ → Label → Option ℕ
row_of owners (Call number q) = owner_of owners number
row_of owners (Answer number status informed bytes) = owner_of owners number
row_of owners _ = None

-- the request that a label tells of was called
abbrev pub HasOwner : List ℕ → Label → Type 0
HasOwner owners (Call number q) = WasCalled owners number
HasOwner owners (Answer number status informed bytes) = WasCalled owners number
HasOwner owners _ = Unit {0}

-- each entry stands in its label's row
abbrev pub AreRowed : List ℕ → List TraceEntry → Type 0
AreRowed owners [] = Unit {0}
AreRowed owners (e ∷ es) = (HasOwner owners e.label × (e.row ≡ row_of owners e.label)) × AreRowed owners es

-- the row is this one
abbrev pub is_row : ℕ → Option ℕ → Bool
is_row c None = false
is_row c (Some d) = c == d

abbrev pub is_call : Label → Bool
is_call (Call number q) = true
is_call _ = false

abbrev pub is_answer : Label → Bool
is_answer (Answer number status informed bytes) = true
is_answer _ = false

-- the places of a row, where the entries begin at this one
abbrev pub places : ℕ → ℕ → List TraceEntry → List ℕ
places c from [] = []
places c from (e ∷ es) = if is_row c e.row then from ∷ places c (suc from) es else places c (suc from) es

-- the number of entries that pass a test
abbrev pub count_of : (TraceEntry → Bool) → List TraceEntry → ℕ
count_of test [] = 0
count_of test (e ∷ es) = if test e then suc (count_of test es) else count_of test es

abbrev pub is_call_of : ℕ → TraceEntry → Bool
is_call_of c e = is_call e.label && is_row c e.row

abbrev pub is_answer_of : ℕ → TraceEntry → Bool
is_answer_of c e = is_answer e.label && is_row c e.row

-- the number of calls in the trace
abbrev pub calls : List TraceEntry → ℕ
calls es = count_of (λ e. is_call e.label) es

abbrev pub labels_of : List TraceEntry → List Label
labels_of es = map (λ e. e.label) es

-- the label answers the request of this number
abbrev pub IsAnswerTo : ℕ → Label → Type 0
IsAnswerTo number (Answer answered status informed bytes) = answered ≡ number
IsAnswerTo number _ = ⊥

-- the label answers another request, or none
abbrev pub IsNoAnswerTo : ℕ → Label → Type 0
IsNoAnswerTo number label = IsAnswerTo number label → ⊥

-- at this place stands the answer to the request
pub record IsAnswerAt (number : ℕ) (entries : List TraceEntry) (place : ℕ) : Type 0 where
  pub entry : TraceEntry
  pub there : slice_get entries place ≡ Some entry
  pub answers : IsAnswerTo number entry.label
