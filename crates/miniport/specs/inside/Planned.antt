-- What the piece on a tag asks for.
use Rattle.std.specs.Prelude.{ℕ}
use Rattle.sector.specs.declared.Extent.{Extent}
use Rattle.srb.specs.declared.Srb.{Srb}
use Rattle.injection.specs.Rules.{Names}
use Rattle.adapter.specs.View.{AdapterView}
use Rattle.adapter.specs.Booking.{IsArmed}

-- the tag's piece has done nothing yet, and names these sectors
pub record AsksOn (view : AdapterView) (tag : ℕ) (asked : Extent) : Type 0 where
  pub piece : ℕ
  pub srb : Srb
  pub armed : IsArmed view tag piece srb
  pub names : Names srb.block asked
