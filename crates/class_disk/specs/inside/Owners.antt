-- The part that the room at a spot below is for.
use Rattle.std.specs.Prelude.{◌≡◌, ◌≢◌, ◌<◌, ◌≤◌, ⊤, ℕ, ◌+◌, List, [], ◌∷◌, length, slice_index_or}
use Rattle.class_disk.specs.declared.parts.PartId.{PartId}
use Rattle.class_disk.specs.declared.parts.Part.{Part}
use Rattle.class_disk.specs.declared.parts.Progress.{Progress}
use Rattle.class_disk.specs.declared.parts.Progress.TheVariants.{Ready, Below, Ended}

-- what stands for the part of a spot that no room has
abbrev pub no_part : PartId
no_part = record { slot = 0; part = 0 }

abbrev pub owner_at : List PartId → ℕ → PartId
owner_at owners spot = slice_index_or owners spot no_part

-- the slot of the request whose part a spot is for
abbrev pub slot_at : List PartId → ℕ → ℕ
slot_at owners spot = (owner_at owners spot).slot

abbrev pub place_at : List PartId → ℕ → ℕ
place_at owners spot = (owner_at owners spot).part

-- the spot is that of part k of the request in a slot
abbrev pub IsOwner : List PartId → ℕ → (slot k : ℕ) → Type 0
IsOwner owners spot slot k = (slot_at owners spot ≡ slot) × (place_at owners spot ≡ k) × (spot < length owners)

-- a part that is not sent yet, or is below, owns its spot
abbrev pub IsOwnedBy : List PartId → (slot k : ℕ) → Progress → Type 0
IsOwnedBy owners slot k (Ready place) = IsOwner owners place.packet.room.spot slot k
IsOwnedBy owners slot k (Below number spot) = IsOwner owners spot slot k
IsOwnedBy owners slot k (Ended ended) = ⊤

-- these parts, of which the first is at this place, own their spots
abbrev pub AreOwnedFrom : List PartId → (slot k : ℕ) → List Part → Type 0
AreOwnedFrom owners slot k [] = ⊤
AreOwnedFrom owners slot k (part ∷ parts) = IsOwnedBy owners slot k part.progress
    × AreOwnedFrom owners slot (k + 1) parts

-- there are at least as many places as before, and each spot keeps its owner
pub record KeepsOwners (old new : List PartId) : Type 0 where
  pub longer : length old ≤ length new
  pub same : (spot : ℕ) → spot < length old → owner_at new spot ≡ owner_at old spot

-- the spot has this owner, and each other spot that had an owner has the same
pub record OwnsSpot (old : List PartId) (spot : ℕ) (id : PartId) (new : List PartId) : Type 0 where
  pub inside : spot < length new
  pub is : owner_at new spot ≡ id
  pub longer : length old ≤ length new
  pub others : (other : ℕ) → other < length old → other ≢ spot → owner_at new other ≡ owner_at old other
