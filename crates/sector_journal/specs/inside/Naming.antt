-- What tells two journals apart.
use Rattle.atomic_table.specs.Seated.{TableId}

-- the histories of a journal
pub record Names : Type 0 where
  pub armings : TableId
  pub entries : TableId
