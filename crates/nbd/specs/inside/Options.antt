-- What one option takes of the stream.
use Rattle.std.specs.Prelude.{◌≡◌, ℕ, List, ◌++◌, length, Option}
use Rattle.std.specs.Io.KnownBytes.{Consumes}
use Rattle.nbd.specs.declared.options.Wish.{Wish}
use Rattle.nbd.specs.Options.{wish_in, IsOptionHeader}

-- the header of an option with this code was taken
pub record TakesOptionHeader (input rest : Option (List ℕ)) (code count : ℕ) : Type 0 where
  pub header : List ℕ
  pub is_header : IsOptionHeader header code count
  pub taken : Consumes input rest header

-- an option of this code was taken, that asks for this
pub record TakesOption (input rest : Option (List ℕ)) (code : ℕ) (wish : Wish) : Type 0 where
  pub content : List ℕ
  pub header : List ℕ
  pub is_header : IsOptionHeader header code (length content)
  pub wish_is : wish ≡ wish_in code content
  pub taken : Consumes input rest (header ++ content)
