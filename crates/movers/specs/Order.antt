-- A file that several threads read and write at once: what one call leaves, and which calls may change places.
use Rattle.std.specs.Prelude.{◌≡◌, ◌≤◌, ◌<◌, ◌⊎◌, ℕ, ◌+◌, List, length, slice_index, Ok, Err}
use Rattle.file_disk.specs.Calls.{Call, ReadAt, WriteAt, Sync}

-- the bytes of a file, by their places
abbrev pub FileBytes : Type 0
FileBytes = ℕ → ℕ

-- the file is the same outside these places
abbrev pub IsSameOutside : ℕ → ℕ → FileBytes → FileBytes → Type 0
IsSameOutside first count old new = (k : ℕ) → (k < first) ⊎ (first + count ≤ k) → new k ≡ old k

-- the bytes of the file from this place on
abbrev pub StandAt : ℕ → List ℕ → FileBytes → Type 0
StandAt first bytes file = (k : ℕ) → k < length bytes → file (first + k) ≡ slice_index bytes k

-- what is believed of a file that answers its calls one after the other: a read gives what stands there, a write puts
-- the first bytes that it takes in place, and one that failed may have changed any of its bytes
abbrev pub Leaves : FileBytes → Call → FileBytes → Type 0
Leaves old (ReadAt first count (Ok gave)) new = IsSameOutside 0 0 old new × StandAt first gave old
Leaves old (ReadAt first count (Err why)) new = IsSameOutside 0 0 old new
Leaves old (WriteAt first bytes (Ok took)) new = IsSameOutside first took old new × ((k : ℕ) → k < took → new (first + k) ≡ slice_index bytes k)
Leaves old (WriteAt first bytes (Err why)) new = IsSameOutside first (length bytes) old new
Leaves old (Sync fault) new = IsSameOutside 0 0 old new

-- the places that a call reads or writes: the first, and how many
abbrev pub places_of : Call → ℕ × ℕ
places_of (ReadAt first count (Ok gave)) = (first, length gave)
places_of (ReadAt first count (Err why)) = (first, 0)
places_of (WriteAt first bytes (Ok took)) = (first, took)
places_of (WriteAt first bytes (Err why)) = (first, length bytes)
places_of (Sync fault) = (0, 0)

abbrev pub DontMeet : Call → Call → Type 0
DontMeet one other = ((places_of one).0 + (places_of one).1 ≤ (places_of other).0) ⊎ ((places_of other).0 + (places_of other).1 ≤ (places_of one).0)

abbrev pub IsRead : Call → Type 0
IsRead (ReadAt first count gave) = Unit {0}
IsRead (WriteAt first bytes took) = ⊥
IsRead (Sync fault) = ⊥

-- the law: two calls that both read, or whose places don't meet, may change places. Of what outlives a loss of power it
-- says nothing
abbrev pub CallsChange : Type 0
CallsChange = (old mid new : FileBytes) (one other : Call) → (IsRead one × IsRead other) ⊎ DontMeet one other → Leaves old one mid → Leaves mid other new
    → (between : FileBytes) × Leaves old other between × Leaves between one new
