-- An adapter of which nothing was asked yet.
use Rattle.std.specs.Prelude.{◌≡◌, ℕ, true}
use Rattle.adapter.specs.View.{AdapterView}
use Rattle.port.specs.Opening.{IsFresh, sizes_of}

-- an adapter of this many sectors of 512 bytes, with two tags and transfers of this many sectors at most
pub record IsBlank (a : AdapterView) (sectors transfer : ℕ) : Type 0 where
  pub fresh : IsFresh a
  pub sizes : sizes_of a ≡ record { sector_size = 512; sectors = sectors; max_transfer = transfer; depth = 2; faithful = true; keeps_bytes = true }
