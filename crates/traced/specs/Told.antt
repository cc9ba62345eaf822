-- What a trace and its rows say of the machine's state, and so which labels may come next.
use Rattle.std.specs.Prelude.{◌≡◌, ◌<◌, ℕ, ◌+◌, List, [], ◌∷◌, Option, Some, length, All, sum_by, if◌then◌else◌}
use Rattle.machine.specs.declared.Label.{Label}
use Rattle.machine.specs.declared.Label.TheVariants.{Call}
use Rattle.machine.specs.State.{State}
use Rattle.machine_laws.specs.NumberLaws.{awaited}
use Rattle.traced.specs.declared.TraceEntry.{TraceEntry}
use Rattle.traced.specs.Entries.{owner_of, WasCalled, is_row, calls, count_of, is_call_of, is_answer_of}
use Rattle.traced.specs.Log.{LogView, noted}
use Rattle.traced.specs.inside.Log.{MayNote}

-- 1 where the number is of this row, else 0
abbrev pub one_of : List ℕ → ℕ → ℕ → ℕ
one_of owners c number = if is_row c (owner_of owners number) then 1 else 0

-- how many of these numbers are of a row
abbrev pub awaited_of : List ℕ → ℕ → List ℕ → ℕ
awaited_of owners c numbers = sum_by (one_of owners c) numbers

-- the calls so far have the numbers from 1 on, each with an owner; what waits for its answer was called; and each call
-- of a row is answered or waits for its answer
pub record AreTold (entries : List TraceEntry) (owners : List ℕ) (s : State) : Type 0 where
  pub next : s.next_request ≡ length owners + 1
  pub counted : calls entries ≡ length owners
  pub called : All (WasCalled owners) (awaited s)
  pub balanced : (c : ℕ) → count_of (is_answer_of c) entries + awaited_of owners c (awaited s) ≡ count_of (is_call_of c) entries

-- no label of these is a call
abbrev pub AreNoCalls : List Label → Type 0
AreNoCalls [] = Unit {0}
AreNoCalls (Call number q ∷ labels) = ⊥
AreNoCalls (_ ∷ labels) = AreNoCalls labels

-- there is at most one call among these labels, by a client that has its places
abbrev pub MayCall : ℕ → ℕ → Option ℕ → List Label → Type 0
MayCall clients client ready [] = Unit {0}
MayCall clients client ready (Call number q ∷ labels) = (client < clients) × (ready ≡ Some client) × AreNoCalls labels
MayCall clients client ready (_ ∷ labels) = MayCall clients client ready labels

-- each of these labels may be noted when its turn comes
abbrev pub MayNoteAll : ℕ → ℕ → LogView → List Label → Type 0
MayNoteAll clients client p [] = Unit {0}
MayNoteAll clients client p (label ∷ labels) = MayNote clients client p label × MayNoteAll clients client (noted client p label) labels
