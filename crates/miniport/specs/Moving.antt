-- The sectors that a piece moved, as its SRB shows them after the act.
use Rattle.std.specs.Prelude.{ℕ, ◌==◌, ◌||◌, nat_le, List, [], ◌∷◌, slice_index, if◌then◌else◌}
use Rattle.std.specs.Simd.{first_chunks}
use Rattle.byteorder.specs.Endian.{big_from}

-- the number of sectors that the block of a transfer names; a block has sixteen bytes where its code is 80h or more,
-- else ten
abbrev pub blocks_in : List ℕ → ℕ
blocks_in block = if nat_le 0x80 (slice_index block 0) then big_from 10 4 block else big_from 7 2 block

-- what a command moved, by its operation code: the data of READ CAPACITY, one empty sector of SYNCHRONIZE CACHE, or the
-- data of a transfer, cut into as many sectors as the block names
abbrev pub moved_by : ℕ → List ℕ → List ℕ → List (List ℕ)
moved_by size block bytes =
    if (slice_index block 0 == 0x25) || (slice_index block 0 == 0x9E) then bytes ∷ []
    else if (slice_index block 0 == 0x35) || (slice_index block 0 == 0x91) then [] ∷ []
    else first_chunks size (blocks_in block) bytes
