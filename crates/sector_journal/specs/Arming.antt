-- The SRB by which a piece acts on the sectors, and the piece's own at the adapter.
use Rattle.std.specs.Prelude.{◌≡◌, ℕ, Bool, length}
use Rattle.cdb.specs.Meaning.{AsksToWrite}
use Rattle.srb.specs.declared.Srb.{Srb}
use Rattle.srb.specs.declared.Kind.{Kind}
use Rattle.srb.specs.declared.Kind.TheVariants.{Write}

-- the two SRBs ask for the same: a write's bytes are the same, and a read's data are as long
pub record AskTheSame (one other : Srb) : Type 0 where
  pub same_block : one.block ≡ other.block
  pub as_long : length one.data ≡ length other.data
  pub same_bytes : (lba count : ℕ) (fua : Bool) → AsksToWrite one.block lba count fua → one.data ≡ other.data

-- the copy asks for just what the SRB does
pub record IsCopy (kind : Kind) (srb copy : Srb) : Type 0 where
  pub same_block : copy.block ≡ srb.block
  pub same_function : copy.function ≡ srb.function
  pub same_flags : copy.flags ≡ srb.flags
  pub as_long : length copy.data ≡ length srb.data
  pub same_bytes : kind ≡ Write → copy.data ≡ srb.data
