-- The adapter in memory as one whose sectors stand elsewhere, of which it has only the first.
use Rattle.std.specs.Prelude.{◌≡◌, ℕ, false, List, [], length}
use Rattle.adapter.specs.View.{AdapterView}
use Rattle.miniport.specs.FirstSector.{sectors_from}
use Rattle.miniport.specs.Memory.{MemView}

-- the view of an adapter that isn't faithful to the sectors that it shows
abbrev pub apart : AdapterView → AdapterView
apart view = record view { faithful = false }

-- no piece is on a tag, nothing is counted, and only the first sector is there
pub record IsNewBooked (first : List ℕ) (sectors max_transfer depth : ℕ) (view : MemView) : Type 0 where
  pub size_is : view.shown.sector_size ≡ length first
  pub sectors_are : view.shown.sectors ≡ sectors_from (length first) sectors first
  pub transfer_is : view.shown.max_transfer ≡ max_transfer
  pub depth_is : view.shown.depth ≡ depth
  pub no_tags : view.shown.tags ≡ []
  pub none_accepted : view.shown.accepted ≡ 0
  pub none_failed : view.shown.failures ≡ 0
  pub no_labels : view.shown.labels ≡ []
