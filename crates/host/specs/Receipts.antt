-- Receipts: places of the trace and the entries that stand there, for good.
use Rattle.std.specs.Prelude.{◌≡◌, ◌<◌, ◌≤◌, ℕ, suc, true, List, [], ◌∷◌, Some, map}
use Rattle.machine.specs.declared.Label.{Label}
use Rattle.machine.specs.declared.Label.TheVariants.{Answer}
use Rattle.traced.specs.declared.TraceEntry.{TraceEntry}
use Rattle.traced.specs.Entries.{entry, is_call}

-- a receipt: a place, and the entry there
abbrev pub Receipt : Type 0
Receipt = ℕ × TraceEntry

-- receipts, and for how many more there is room
pub record ReceiptsView : Type 0 where
  pub list : List Receipt
  pub room : ℕ

abbrev pub none_yet : ReceiptsView
none_yet = record { list = []; room = 0 }

-- one receipt, that of a label in a client's row
abbrev pub receipt : ℕ → Label → ℕ → List Receipt
receipt place label client = (place, entry label (Some client)) ∷ []

-- the places of receipts
abbrev pub places_of : List Receipt → List ℕ
places_of receipts = map (λ r. r.0) receipts

-- an entry is a call of this client
pub record IsCallOf (client : ℕ) (e : TraceEntry) : Type 0 where
  pub call : is_call e.label ≡ true
  pub row : e.row ≡ Some client

abbrev pub AreCalls : ℕ → List Receipt → Type 0
AreCalls client [] = Unit {0}
AreCalls client (r ∷ rs) = IsCallOf client r.1 × AreCalls client rs

-- the label answers a request
abbrev pub Answers : Label → Type 0
Answers (Answer number status informed bytes) = Unit {0}
Answers _ = ⊥

-- an entry is an answer to a call of this client
pub record IsAnswerTo (client : ℕ) (e : TraceEntry) : Type 0 where
  pub answers : Answers e.label
  pub row : e.row ≡ Some client

abbrev pub AreAnswers : ℕ → List Receipt → Type 0
AreAnswers client [] = Unit {0}
AreAnswers client (r ∷ rs) = IsAnswerTo client r.1 × AreAnswers client rs

-- the places rise, from this one on
abbrev pub AreRising : ℕ → List Receipt → Type 0
AreRising from [] = Unit {0}
AreRising from (r ∷ rs) = (from ≤ r.0) × AreRising (suc r.0) rs

-- all places are below this one
abbrev pub AreBelow : ℕ → List Receipt → Type 0
AreBelow place [] = Unit {0}
AreBelow place (r ∷ rs) = (r.0 < place) × AreBelow place rs
