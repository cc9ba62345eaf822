-- The sectors of a disk in chunks of 64, of which only some are there.
use Rattle.std.specs.Prelude.{ℕ, nat_eq, ◌-◌, ◌*◌, ◌/◌, ◌%◌, min, List, replicate, take, drop, Option, unwrap_or}
use Rattle.std.specs.Option.{option_map}
use Rattle.std.specs.Global.{Vec}
use Rattle.std.specs.declared.hash.BuildHasherDefault.{BuildHasherDefault}
use Rattle.std.specs.declared.hash.FoldHasher.{FoldHasher}
use Rattle.std.specs.HashMap.{HashMap, get}
use Rattle.sector.specs.declared.Extent.{Extent}

-- the sectors of a chunk: 64 of them, or what is left of the disk
abbrev pub chunk_of : ℕ → ℕ → Extent
chunk_of sectors number = record { first = number * 64; count = min 64 (sectors - number * 64) }

-- the chunks that are there, by their numbers
abbrev pub ByNumber : Type 0
ByNumber = HashMap ℕ (Vec ℕ) (BuildHasherDefault FoldHasher)

-- the bytes of a chunk, if it is there
abbrev pub held : ByNumber → ℕ → Option (List ℕ)
held chunks number = option_map (λ bytes. bytes.items) (get nat_eq chunks number)

-- the number of bytes in a chunk
abbrev pub chunk_length : ℕ → ℕ → ℕ → ℕ
chunk_length size sectors number = (chunk_of sectors number).count * size

-- the bytes of a chunk, which are zeros if it isn't there
abbrev pub chunk_bytes : ℕ → ℕ → ByNumber → ℕ → List ℕ
chunk_bytes size sectors chunks number = unwrap_or (held chunks number) (replicate (chunk_length size sectors number) 0)

-- the bytes of a sector are a part of its chunk's
abbrev pub sector_at : ℕ → ℕ → ByNumber → ℕ → List ℕ
sector_at size sectors chunks sector = take size (drop (sector % 64 * size) (chunk_bytes size sectors chunks (sector / 64)))
