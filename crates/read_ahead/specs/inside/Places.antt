-- Where an input is, and the bytes that were fetched before.
use Rattle.std.specs.Prelude.{◌≡◌, ℕ, ◌+◌, Bool, true, false, List, length, take, Option, ⊤}
use Rattle.std.specs.Io.KnownBytes.{Consumes}
use Rattle.nbd.specs.declared.requests.Request.{Request}
use Rattle.nbd.specs.Requests.{IsRequest, payload_count}
use Rattle.read_ahead.specs.Standing.{behind}
use Rattle.read_ahead.specs.declared.place.Place.{Place}
use Rattle.read_ahead.specs.declared.place.Place.TheVariants.{Here, Away, Lost}

-- It failed
abbrev pub is_lost : {I : Type 0} → Place I → Bool
is_lost (Here input) = false
is_lost Away = false
is_lost Lost = true

-- The bytes from the n-th on are those that were fetched, and then what the input has left
abbrev pub Stands : {I : Type 0} → (I → Option (List ℕ)) → Option (List ℕ) → Place I → ℕ → List ℕ → Type 0
Stands left given (Here input) n fetched = Consumes (behind n given) (left input) fetched
Stands left given Away n fetched = Consumes (behind n given) (behind (n + length fetched) given) fetched
Stands left given Lost n fetched = ⊤

-- These bytes begin with the header of a request behind which this many bytes come
pub record Brings (bytes : List ℕ) (count : ℕ) : Type 0 where
  pub request : Request
  pub is_request : IsRequest (take 28 bytes) request
  pub as_many : count ≡ payload_count request
