-- A small machine, for worked runs: one partition of three sectors of two bytes, pieces of one sector, two tags.
use Rattle.std.specs.Prelude.{ℕ, true, false, List, [], ◌∷◌, Some, None}
use Rattle.sector.specs.declared.Extent.{Extent}
use Rattle.srb.specs.Fate.{Fate}
use Rattle.srb.specs.declared.Completion.{Completion}
use Rattle.srb.specs.declared.Kind.TheVariants.{Read, Write, Flush}
use Rattle.machine.specs.declared.ClientRequest.{ClientRequest}
use Rattle.machine.specs.Rules.{Rules}
use Rattle.machine.specs.State.{Mark, OpenRequest, Piece, State, opening}

-- the partition is sectors 2 to 4 of the disk; a second busy return is the last
abbrev pub small : Rules
small = record {
  sector_size = 2;
  disk_sectors = 5;
  partitions = (record { first = 2; count = 3 }) ∷ [];
  longest = 64;
  max_transfer = 1;
  depth = 2;
  open_requests = Some 4;
  window = Some 2;
  one_piece = false;
  busy_limit = 2;
  any_cut = false;
  faithful = true;
  keeps_bytes = true;
}

-- a sector of this byte alone
abbrev pub full_of : ℕ → List ℕ
full_of byte = byte ∷ byte ∷ []

-- a partition of sectors that are each full of one byte
abbrev pub sectors : ℕ → ℕ → ℕ → List (List (List ℕ))
sectors a b c = (full_of a ∷ full_of b ∷ full_of c ∷ []) ∷ []

abbrev pub zeros : List (List (List ℕ))
zeros = sectors 0 0 0

-- nothing open, nothing out, and these are the next numbers
abbrev pub idle : List (List (List ℕ)) → ℕ → ℕ → State
idle arrays next_request next_piece = record (opening arrays) { next_request = next_request; next_piece = next_piece }

-- a request that is neither cancelled nor held, by its number and what has become of its places
abbrev pub opened : ℕ → ClientRequest → List Mark → OpenRequest
opened number q marks = record { number = number; request = q; cancelled = false; late = false; busy_returns = 0; marks = marks }

abbrev pub one_place : ℕ → Extent
one_place first = record { first = first; count = 1 }

-- a piece of one place, by its number, its tag, the request's number and the place
abbrev pub piece_of : ℕ → ℕ → ℕ → ℕ → Fate → Piece
piece_of number tag owner place fate = record { number = number; tag = tag; owner = owner; places = one_place place; fate = fate }

-- offset and length in bytes
abbrev pub read : ℕ → ℕ → ClientRequest
read offset length' = record { partition = Some 0; kind = Read; offset = offset; length = length'; through = false; bytes = [] }

abbrev pub write : ℕ → ℕ → List ℕ → ClientRequest
write offset length' bytes = record { partition = Some 0; kind = Write; offset = offset; length = length'; through = false; bytes = bytes }

abbrev pub flush : ClientRequest
flush = record { partition = Some 0; kind = Flush; offset = 0; length = 0; through = false; bytes = [] }

-- READ(10) and WRITE(10) of this many blocks from this address on
abbrev pub read_block : ℕ → ℕ → List ℕ
read_block lba count = 40 ∷ 0 ∷ 0 ∷ 0 ∷ 0 ∷ lba ∷ 0 ∷ 0 ∷ count ∷ 0 ∷ []

abbrev pub write_block : ℕ → ℕ → List ℕ
write_block lba count = 42 ∷ 0 ∷ 0 ∷ 0 ∷ 0 ∷ lba ∷ 0 ∷ 0 ∷ count ∷ 0 ∷ []

-- SYNCHRONIZE CACHE(10) of everything
abbrev pub sync_block : List ℕ
sync_block = 53 ∷ 0 ∷ 0 ∷ 0 ∷ 0 ∷ 0 ∷ 0 ∷ 0 ∷ 0 ∷ 0 ∷ []

-- BUS_RESET
abbrev pub bus_reset : Completion
bus_reset = record { srb_status = 14; scsi_status = 0; sense = None }

-- ERROR with CHECK CONDITION and sense data of this key
abbrev pub error_of_key : ℕ → Completion
error_of_key key = record { srb_status = 132; scsi_status = 2; sense = Some (record { key = key; asc = 0; ascq = 0 }) }
