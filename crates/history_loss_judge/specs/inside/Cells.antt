-- What is seen of each sector.
use Rattle.std.specs.Prelude.{◌≡◌, ◌<◌, ℕ, ◌+◌, ◌==◌, Bool, List, [], Option, Some, None, Contains, length, slice_get, if◌then◌else◌}
use Rattle.std.specs.Ordering.{nat_cmp}
use Rattle.std.specs.BTreeMap.{BTreeMap, get}
use Rattle.machine.specs.declared.Label.{Label}
use Rattle.machine.specs.Rules.{Rules}
use Rattle.register_loss.specs.declared.Sight.{Sight}
use Rattle.history_loss_kept.specs.declared.Shared.{Shared}
use Rattle.history_loss_sector.specs.Seen.{SeenView, seen_after}
use Rattle.history_loss_judge.specs.declared.cells.Cells.{Cells}
use Rattle.history_loss_judge.specs.declared.spans.Span.{Span}
use Rattle.history_loss_judge.specs.inside.Spans.{in_range}
use Rattle.history_loss_judge.specs.inside.Telling.{IsToldOf, behind_label}

abbrev pub index_at : BTreeMap ℕ ℕ → ℕ → Option ℕ
index_at index i = get nat_cmp index i

abbrev pub cell_by : List SeenView → Option ℕ → Option SeenView
cell_by cells None = None
cell_by cells (Some k) = slice_get cells k

abbrev pub cell_at : Cells → ℕ → Option SeenView
cell_at cells i = cell_by cells.cells.items (index_at cells.index i)

abbrev pub unseen : ℕ → SeenView
unseen start = record { start = start; all = []; steady = []; own = [] }

abbrev pub nothing_seen : ℕ → ℕ → SeenView
nothing_seen start i = unseen start

-- nothing was seen of a sector that isn't there
abbrev pub IsCellOf : ℕ → SeenView → Option SeenView → Type 0
IsCellOf start kept None = kept ≡ unseen start
IsCellOf start kept (Some cell) = cell ≡ kept

-- this was seen of each sector
pub record HasCells (start : ℕ) (kept : ℕ → SeenView) (cells : Cells) : Type 0 where
  pub cell : (i : ℕ) → IsCellOf start (kept i) (cell_at cells i)
  pub listed : (i k : ℕ) → index_at cells.index i ≡ Some k → Contains cells.sectors.items i
  pub inside : (i k : ℕ) → index_at cells.index i ≡ Some k → k < length cells.cells.items
  -- no two sectors are one
  pub apart : (i j k : ℕ) → index_at cells.index i ≡ Some k → index_at cells.index j ≡ Some k → i ≡ j

-- and this is the number of one of them
pub record HasOneAt (start : ℕ) (kept : ℕ → SeenView) (sector : ℕ) (cells : Cells) (at : ℕ) : Type 0 where
  pub has : HasCells start kept cells
  pub found : index_at cells.index sector ≡ Some at

-- of one sector one label more, or of some
abbrev pub kept_at : Rules → List Shared → (ℕ → SeenView) → ℕ → Label → ℕ → SeenView
kept_at rules shared kept sector label i = if sector == i then behind_label rules i shared label (kept i) else kept i

abbrev pub kept_in : Rules → List Shared → (ℕ → SeenView) → ℕ → ℕ → Label → ℕ → SeenView
kept_in rules shared kept first end label i = if in_range first end i then behind_label rules i shared label (kept i) else kept i

-- of each the end of the session
abbrev pub turned_by : List Shared → Sight → (ℕ → SeenView) → ℕ → SeenView
turned_by shared last kept i = seen_after shared last (kept i)

-- the label is for the sector
abbrev pub IsToldAt : Rules → List Shared → (ℕ → SeenView) → ℕ → ℕ → ℕ → Bool → Label → Type 0
IsToldAt rules shared kept sector place behind is_sync label = IsToldOf rules sector place shared (kept sector).own behind is_sync label

-- and for all of these
abbrev pub AreToldOf : Rules → List Shared → (ℕ → SeenView) → Span → ℕ → Bool → Label → Type 0
AreToldOf rules shared kept span behind is_sync label = (place : ℕ) → place < span.count → IsToldAt rules shared kept (span.first + place) place behind is_sync label

-- of the sectors of a request, if it moves any
abbrev pub AreToldBy : Rules → List Shared → (ℕ → SeenView) → Option Span → ℕ → Bool → Label → Type 0
AreToldBy rules shared kept None behind is_sync label = Unit {0}
AreToldBy rules shared kept (Some span) behind is_sync label = AreToldOf rules shared kept span behind is_sync label

abbrev pub kept_by : Rules → List Shared → (ℕ → SeenView) → Option Span → Label → ℕ → SeenView
kept_by rules shared kept None label i = kept i
kept_by rules shared kept (Some span) label i = kept_in rules shared kept span.first (span.first + span.count) label i
