-- What a row is before its answer.
use Rattle.std.specs.Prelude.{◌≡◌, ◌≤◌, ℕ, List, Some, slice_get}
use Rattle.traced.specs.declared.TraceEntry.{TraceEntry}
use Rattle.traced.specs.Entries.{IsNoAnswerTo}

-- the answer to the request stands at none of a row's places from this one of them on
abbrev pub HasNoAnswer : ℕ → List TraceEntry → List ℕ → ℕ → Type 0
HasNoAnswer number entries row from =
    (k place : ℕ) (e : TraceEntry) → from ≤ k → slice_get row k ≡ Some place → slice_get entries place ≡ Some e → IsNoAnswerTo number e.label
