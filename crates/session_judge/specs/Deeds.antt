-- What labels say of the sectors of a disk.
use Rattle.std.specs.Prelude.{ℕ, zero, suc, ◌+◌, ◌-◌, ◌^◌, min, Bool, List, [], ◌∷◌, ◌++◌, Option, Some, None, if◌then◌else◌}
use Rattle.std.specs.List.{find}
use Rattle.sector.specs.declared.Extent.{Extent}
use Rattle.srb.specs.Fate.{is_fresh}
use Rattle.srb.specs.declared.Kind.TheVariants.{Read, Write, Flush}
use Rattle.srb.specs.declared.Class.TheVariants.{Bad}
use Rattle.srb.specs.declared.DeviceLabel.TheVariants.{Start, Act, Fault, Return}
use Rattle.machine.specs.declared.ClientRequest.{ClientRequest}
use Rattle.machine.specs.declared.Label.{Label}
use Rattle.machine.specs.declared.Label.TheVariants.{Device}
use Rattle.machine.specs.Rules.{Rules}
use Rattle.machine.specs.State.{OpenRequest, Piece, State}
use Rattle.judge.specs.Deciding.{has_number, is_piece}
use Rattle.loss.specs.Held.{sector_in}
use Rattle.loss.specs.Moved.{work_of as work_there}
use Rattle.session_judge.specs.declared.deeds.Way.{Way}
use Rattle.session_judge.specs.declared.deeds.Way.TheVariants.{Put, Secured, Tried, Given}
use Rattle.session_judge.specs.declared.deeds.Deed.{Deed}
use Rattle.session_judge.specs.declared.deeds.Deed.TheVariants.{At, Flushed, SyncFailed}
use Rattle.session_judge.specs.declared.deeds.Work.{Work}

-- one for each number below this one
abbrev pub below : {X : Type 0} → (ℕ → X) → ℕ → List X
below make zero = []
below make (suc k) = below make k ++ make k ∷ []

-- ONE PIECE

-- the work of a piece of the request that has these places, with the bytes of a sector
abbrev pub work_of : Rules → ClientRequest → Extent → Work
work_of rules q places = record {
  kind = q.kind;
  through = q.through;
  size = rules.sector_size;
  extent = (work_there rules q places).extent;
  bytes = (work_there rules q places).bytes;
}

-- what happens to sector k of these, which have the bytes
abbrev pub deed_at : Way → ℕ → Extent → List ℕ → ℕ → Deed
deed_at way size extent bytes k = At (extent.first + k) way (sector_in size k bytes)

abbrev pub at_sectors : Way → ℕ → Extent → List ℕ → List Deed
at_sectors way size extent bytes = below (deed_at way size extent bytes) extent.count

-- how a write puts its bytes, where the next piece to start has this number
abbrev pub way_of : Bool → ℕ → Way
way_of through next = if through then Secured else Put next

-- what the act of a piece does; the bytes are those that it read
abbrev pub act_deeds : ℕ → ℕ → List ℕ → Work → List Deed
act_deeds number next bytes w = elim (w.kind) [
  | Read ↦ at_sectors Given w.size w.extent bytes
  | Write ↦ at_sectors (way_of w.through next) w.size w.extent w.bytes
  | Flush ↦ Flushed number ∷ []
]

abbrev pub doubt_if : Bool → List Deed
doubt_if through = if through then SyncFailed ∷ [] else []

-- what its failure does; so too what it may have done while it is at work
abbrev pub fault_deeds : Work → List Deed
fault_deeds w = elim (w.kind) [
  | Read ↦ []
  | Write ↦ at_sectors Tried w.size w.extent w.bytes ++ doubt_if w.through
  | Flush ↦ SyncFailed ∷ []
]

-- A LABEL

abbrev pub of_work : (Work → List Deed) → Option Work → List Deed
of_work deeds None = []
of_work deeds (Some w) = deeds w

abbrev pub work_by : Rules → Option OpenRequest → Piece → Option Work
work_by rules None piece = None
work_by rules (Some owner) piece = Some (work_of rules owner.request piece.places)

abbrev pub work_of_piece : Rules → State → Piece → Option Work
work_of_piece rules s piece = work_by rules (find (has_number piece.owner) s.requests) piece

-- the work of a piece that has neither acted nor failed
abbrev pub fresh_work : Rules → State → Piece → Option Work
fresh_work rules s piece = if is_fresh piece.fate then work_of_piece rules s piece else None

abbrev pub of_piece : (Piece → Option Work) → Option Piece → Option Work
of_piece work None = None
of_piece work (Some piece) = work piece

-- of the piece of this number
abbrev pub work_at : Rules → State → ℕ → Option Work
work_at rules s number = of_piece (work_of_piece rules s) (find (is_piece number) s.pieces)

abbrev pub fresh_work_at : Rules → State → ℕ → Option Work
fresh_work_at rules s number = of_piece (fresh_work rules s) (find (is_piece number) s.pieces)

-- what a label says, told where the machine stands so and the next piece has this number
abbrev pub label_deeds : Rules → State → ℕ → Label → List Deed
label_deeds rules s next (Device (Act number bytes)) = of_work (act_deeds number next bytes) (work_at rules s number)
label_deeds rules s next (Device (Fault number)) = of_work fault_deeds (work_at rules s number)
label_deeds rules s next (Device (Return number (Bad completion))) = of_work fault_deeds (fresh_work_at rules s number)
label_deeds rules s next label = []

-- the number of the next piece behind a label
abbrev pub next_after : ℕ → Label → ℕ
next_after next (Device (Start piece tag block)) = min (piece + 1) (2 ^ 128 - 1)
next_after next label = next

-- A LOSS, OR AN END

-- what a piece may have done that was cut off
abbrev pub cut_deeds : Rules → State → Piece → List Deed
cut_deeds rules s piece = of_work fault_deeds (fresh_work rules s piece)

abbrev pub cut_each : Rules → State → List Piece → List Deed
cut_each rules s [] = []
cut_each rules s (piece ∷ pieces) = cut_deeds rules s piece ++ cut_each rules s pieces

abbrev pub cut_off : Rules → State → List Deed
cut_off rules s = cut_each rules s s.pieces
