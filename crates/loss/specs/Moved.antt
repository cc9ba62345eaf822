-- What the sectors of a disk may hold, beside a run of the machine that moves none of them.
use Rattle.std.specs.Prelude.{◌≡◌, ◌<◌, ℕ, ◌+◌, ◌*◌, List, [], ◌∷◌, slice_range, Contains}
use Rattle.sector.specs.declared.Extent.{Extent}
use Rattle.srb.specs.declared.Kind.{Kind}
use Rattle.srb.specs.declared.Kind.TheVariants.{Read, Write, Flush}
use Rattle.srb.specs.declared.Class.TheVariants.{Bad}
use Rattle.srb.specs.declared.DeviceLabel.TheVariants.{Act, Fault, Return}
use Rattle.machine.specs.declared.ClientRequest.{ClientRequest}
use Rattle.machine.specs.declared.Label.{Label}
use Rattle.machine.specs.declared.Label.TheVariants.{Device}
use Rattle.machine.specs.Rules.{Rules, first_sector, home}
use Rattle.machine.specs.State.{OpenRequest, Piece, State, IsSame, opening}
use Rattle.machine.specs.Step.{Step}
use Rattle.machine_laws.specs.Reached.{AreWhole}
use Rattle.loss.specs.Held.{Held, IsOneOf, Work, act_changes, changed_by, fault_changes, return_changes, sector_in, surely}

-- what each sector of the disk may hold, by its number
abbrev pub Table : Type 0
Table = ℕ → Held

-- ONE LABEL

-- the work of a piece of the request that has these places
abbrev pub work_of : Rules → ClientRequest → Extent → Work
work_of rules q places = record {
  kind = q.kind;
  through = q.through;
  extent = record { first = home rules q.partition (first_sector rules q + places.first); count = places.count };
  bytes = slice_range q.bytes (places.first * rules.sector_size) ((places.first + places.count) * rules.sector_size);
}

-- the piece of this number, and the request that it is of
pub record IsOut (s : State) (number : ℕ) (piece : Piece) (owner : OpenRequest) : Type 0 where
  pub is_number : piece.number ≡ number
  pub is_out : Contains s.pieces piece
  pub is_open : Contains s.requests owner
  pub is_owner : owner.number ≡ piece.owner

-- a read hands over of each sector what it may hold
abbrev pub HandsOver : ℕ → Table → Extent → Kind → List ℕ → Type 0
HandsOver size t extent Read bytes = (k : ℕ) → k < extent.count → IsOneOf (sector_in size k bytes) (t (extent.first + k)).now
HandsOver size t extent Write bytes = Unit {0}
HandsOver size t extent Flush bytes = Unit {0}

-- the piece acts on its sectors
pub record ActsOn (rules : Rules) (s : State) (number : ℕ) (bytes : List ℕ) (t t' : Table) : Type 0 where
  pub piece : Piece
  pub owner : OpenRequest
  pub out : IsOut s number piece owner
  pub hands_over : HandsOver rules.sector_size t (work_of rules owner.request piece.places).extent owner.request.kind bytes
  pub after : (i : ℕ) → t' i ≡ changed_by s.next_piece (act_changes rules.sector_size number (work_of rules owner.request piece.places) i) (t i)

-- the piece fails
pub record FailsOn (rules : Rules) (s : State) (number : ℕ) (t t' : Table) : Type 0 where
  pub piece : Piece
  pub owner : OpenRequest
  pub out : IsOut s number piece owner
  pub after : (i : ℕ) → t' i ≡ changed_by s.next_piece (fault_changes rules.sector_size (work_of rules owner.request piece.places) i) (t i)

-- the piece comes back bad
pub record ComesBackBad (rules : Rules) (s : State) (number : ℕ) (t t' : Table) : Type 0 where
  pub piece : Piece
  pub owner : OpenRequest
  pub out : IsOut s number piece owner
  pub after : (i : ℕ) → t' i ≡ changed_by s.next_piece (return_changes rules.sector_size piece.fate (work_of rules owner.request piece.places) i) (t i)

abbrev pub IsSameTable : Table → Table → Type 0
IsSameTable t t' = (i : ℕ) → t' i ≡ t i

-- what a label does to the sectors: only that a piece acts, fails or comes back bad does anything
abbrev pub Moves : Rules → State → Label → Table → Table → Type 0
Moves rules s (Device (Act number bytes)) t t' = ActsOn rules s number bytes t t'
Moves rules s (Device (Fault number)) t t' = FailsOn rules s number t t'
Moves rules s (Device (Return number (Bad completion))) t t' = ComesBackBad rules s number t t'
Moves rules s label t t' = IsSameTable t t'

-- RUNS

-- a run of the machine, and what the sectors may hold along it
abbrev pub TableRun : Rules → State → Table → List Label → State → Table → Type 0
TableRun rules s t [] s' t' = IsSame s s' × IsSameTable t t'
TableRun rules s t (label ∷ labels) s' t' =
    (mid : State) × (between : Table) × Step rules s label mid × Moves rules s label t between × TableRun rules mid between labels s' t'

-- the table where each sector surely holds what the disk has
abbrev pub held_on : (ℕ → List ℕ) → Table
held_on disk i = surely (disk i)

-- a session comes to this state and this table, from a disk on
pub record IsReachedWith (rules : Rules) (s : State) (t : Table) : Type 0 where
  pub arrays : List (List (List ℕ))
  pub disk : ℕ → List ℕ
  pub labels : List Label
  pub whole : AreWhole rules arrays
  pub run : TableRun rules (opening arrays) (held_on disk) labels s t
