-- The sectors of the arrays, and the labels that write them.
use Rattle.std.specs.Prelude.{◌≡◌, ◌<◌, ◌≤◌, ℕ, ◌+◌, ◌*◌, List, Option, Some, slice_get, slice_range, Contains}
use Rattle.srb.specs.declared.DeviceLabel.TheVariants.{Act}
use Rattle.srb.specs.declared.Kind.TheVariants.{Write}
use Rattle.machine.specs.declared.ClientRequest.{ClientRequest}
use Rattle.machine.specs.declared.Label.{Label}
use Rattle.machine.specs.declared.Label.TheVariants.{Device}
use Rattle.machine.specs.Rules.{Rules, first_sector, place_count, sectors_of}
use Rattle.machine.specs.State.{OpenRequest, Piece, State}
use Rattle.machine.specs.Sending.{partition_number, array_at}

-- sector i of a partition, if there is one
abbrev pub sector_at : State → ℕ → ℕ → Option (List ℕ)
sector_at s p i = slice_get (array_at s.arrays p) i

-- the sector where a place of the request lies
abbrev pub sector_of : Rules → ClientRequest → ℕ → ℕ
sector_of rules q place = first_sector rules q + place

-- of the bytes of a request, or of one of its answers, those of one place
abbrev pub part_of : Rules → List ℕ → ℕ → List ℕ
part_of rules bytes place = slice_range bytes (place * rules.sector_size) ((place + 1) * rules.sector_size)

-- the bytes that a write carries for one of its places
abbrev pub bytes_for : Rules → ClientRequest → ℕ → List ℕ
bytes_for rules q place = slice_range q.bytes (place * rules.sector_size) ((place + 1) * rules.sector_size)

-- the label is the act of a piece that is out
pub record IsAct (s : State) (label : Label) : Type 0 where
  pub number : ℕ
  pub bytes : List ℕ
  pub piece : Piece
  pub owner : OpenRequest
  pub is_act : label ≡ Device (Act number bytes)
  pub is_number : piece.number ≡ number
  pub is_out : Contains s.pieces piece
  pub is_open : Contains s.requests owner
  pub is_owner : owner.number ≡ piece.owner

-- of a write on partition p
pub record WritesPartition (p : ℕ) (s : State) (label : Label) : Type 0 where
  pub act : IsAct s label
  pub is_write : act.owner.request.kind ≡ Write
  pub on_partition : partition_number act.owner.request ≡ p

-- write r wrote a place that is sector i of partition p; the bytes for that place then stand there
pub record WritesSector (rules : Rules) (r p i : ℕ) (s : State) (label : Label) (s' : State) : Type 0 where
  pub act : IsAct s label
  pub is_request : act.owner.number ≡ r
  pub is_write : act.owner.request.kind ≡ Write
  pub on_partition : partition_number act.owner.request ≡ p
  pub place : ℕ
  pub is_sector : sector_of rules act.owner.request place ≡ i
  pub from : act.piece.places.first ≤ place
  pub below : place < act.piece.places.first + act.piece.places.count
  pub in_request : place < place_count rules act.owner.request
  pub in_partition : i < sectors_of rules (Some p)
  pub stands : sector_at s' p i ≡ Some (bytes_for rules act.owner.request place)
