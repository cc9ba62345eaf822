-- What fixes a sector machine: its sizes, its partitions and its limits.
use Rattle.std.specs.Prelude.{ℕ, ◌+◌, ◌/◌, ◌%◌, ◌*◌, ◌==◌, ◌&&◌, Bool, true, false, nat_le, List, Option, Some, None, slice_get, if◌then◌else◌}
use Rattle.sector.specs.declared.Extent.{Extent}
use Rattle.srb.specs.declared.Kind.{Kind}
use Rattle.srb.specs.declared.Kind.TheVariants.{Read, Write, Flush}
use Rattle.machine.specs.declared.Request.{Request}
use Rattle.machine.specs.declared.ClientRequest.{ClientRequest}

-- the sizes, the partitions and the limits of a machine
pub record Rules : Type 0 where
  -- bytes of a sector
  pub sector_size : ℕ
  -- sectors of the disk
  pub disk_sectors : ℕ
  -- the partitions, each an extent of the disk
  pub partitions : List Extent
  -- sectors of the longest request
  pub longest : ℕ
  -- sectors of the longest piece
  pub max_transfer : ℕ
  -- the number of tags
  pub depth : ℕ
  -- requests open at once, where they are counted
  pub open_requests : Option ℕ
  -- requests below the hold, where there is one
  pub window : Option ℕ
  -- a request goes as one piece, once
  pub one_piece : Bool
  -- the number of busy returns that end a request
  pub busy_limit : ℕ
  -- a piece begins at any place of its request, and starts again without end
  pub any_cut : Bool
  -- acts read and write the arrays; else the sectors stand elsewhere, and the arrays never change
  pub faithful : Bool
  -- the bytes of labels stand in memory; else contracts alone read them
  pub keeps_bytes : Bool

-- a read or a write
abbrev pub is_transfer : Kind → Bool
is_transfer Read = true
is_transfer Write = true
is_transfer Flush = false

-- the sector of its partition where the places of a request begin
abbrev pub first_sector : Rules → ClientRequest → ℕ
first_sector rules q = q.offset / rules.sector_size

-- the number of its places: one for each sector; a flush has one, of no sector
abbrev pub place_count : Rules → ClientRequest → ℕ
place_count rules q = if is_transfer q.kind then q.length / rules.sector_size else 1

-- the number of sectors of a partition, where its number is given and known
abbrev pub sectors_of : Rules → Option ℕ → ℕ
sectors_of rules None = 0
sectors_of rules (Some p) = elim (slice_get rules.partitions p) [ Some extent ↦ extent.count | None ↦ 0 ]

-- the logical block address of sector i of partition p
abbrev pub home : Rules → Option ℕ → ℕ → ℕ
home rules None i = i
home rules (Some p) i = elim (slice_get rules.partitions p) [ Some extent ↦ extent.first + i | None ↦ i ]

-- whole sectors, inside the partition, no more than the longest request
abbrev pub is_in_bounds : Rules → ClientRequest → Bool
is_in_bounds rules q =
    ((q.offset % rules.sector_size == 0) && (q.length % rules.sector_size == 0))
    && (nat_le (first_sector rules q + q.length / rules.sector_size) (sectors_of rules q.partition) && nat_le (q.length / rules.sector_size) rules.longest)

-- a layer's request as a client of the machine would make it
abbrev pub as_client : Rules → Request → List ℕ → ClientRequest
as_client rules r bytes = record {
  partition = Some r.volume;
  kind = r.kind;
  offset = r.extent.first * rules.sector_size;
  length = r.extent.count * rules.sector_size;
  through = r.through;
  bytes = bytes;
}

-- the rules of the same machine, faithful to its arrays
abbrev pub as_faithful : Rules → Rules
as_faithful rules = record rules { faithful = true }
