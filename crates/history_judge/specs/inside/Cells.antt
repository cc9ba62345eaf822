-- What is seen of one sector, what waits, and the registers that have taken what is known.
use Rattle.std.specs.Prelude.{◌≡◌, ◌<◌, ◌≤◌, ◌⊎◌, ℕ, ◌+◌, ◌-◌, ◌^◌, ◌==◌, ◌&&◌, Bool, true, false, nat_le, nat_lt, List, [], ◌∷◌, ◌++◌, Option, Some, None, All, Contains, length, drop, slice_get, slice_index_or, if◌then◌else◌}
use Rattle.std.specs.List.{list_any}
use Rattle.std.specs.Global.{Vec}
use Rattle.std.specs.declared.cmp.Ordering.{Ordering}
use Rattle.std.specs.Ordering.{nat_cmp, ordering_then}
use Rattle.std.specs.BTreeMap.{BTreeMap, get}
use Rattle.ntstatus.specs.declared.NtStatus.{NtStatus}
use Rattle.srb.specs.declared.Kind.{Kind}
use Rattle.srb.specs.declared.Kind.TheVariants.{Read, Write, Flush}
use Rattle.machine.specs.declared.ClientRequest.{ClientRequest}
use Rattle.machine.specs.declared.Label.{Label}
use Rattle.machine.specs.declared.Label.TheVariants.{Call, Answer}
use Rattle.machine.specs.Rules.{Rules, first_sector}
use Rattle.register.specs.Values.{code}
use Rattle.register.specs.declared.Sight.{Sight}
use Rattle.register.specs.declared.Sight.TheVariants.{Write as WriteSight}
use Rattle.history.specs.declared.Wait.{Wait}
use Rattle.history.specs.declared.Wait.TheVariants.{Known, Awaits}
use Rattle.history.specs.Sights.{has_sector, bytes_at, success_bytes, end_of}
use Rattle.history.specs.Waits.{fill, is_wait_of, step, waits_of}
use Rattle.history_fitting.specs.declared.service.Place.{Place}
use Rattle.history_judge.specs.declared.waits.Marked.{Marked}
use Rattle.history_judge.specs.declared.waits.Given.{Given}
use Rattle.history_judge.specs.declared.trying.Try.{Try}
use Rattle.history_judge.specs.declared.cell.Cell.{Cell}
use Rattle.history_judge.specs.declared.cells.Cells.{Cells}
use Rattle.history_judge.specs.declared.cells.Span.{Span}
use Rattle.history_judge.specs.inside.Starting.{HasStarts}

-- WITHOUT LINES

abbrev pub plain : List Marked → List Wait
plain [] = []
plain (m ∷ marked) = m.wait ∷ plain marked

abbrev pub wait_in : Option Marked → Option Wait
wait_in None = None
wait_in (Some m) = Some m.wait

abbrev pub is_known : Wait → Bool
is_known (Known sight) = true
is_known (Awaits number place) = false

abbrev pub sights_in : List Given → List Sight
sights_in [] = []
sights_in (g ∷ given) = g.sight ∷ sights_in given

abbrev pub all_known : List Sight → List Wait
all_known [] = []
all_known (sight ∷ sights) = Known sight ∷ all_known sights

abbrev pub starts_in : List Try → List ℕ
starts_in [] = []
starts_in (t ∷ tries) = t.start ∷ starts_in tries

-- ONE LABEL MORE

abbrev pub is_write : Kind → Bool
is_write Write = true
is_write Read = false
is_write Flush = false

abbrev pub is_read : Kind → Bool
is_read Read = true
is_read Write = false
is_read Flush = false

abbrev pub with_last : List Wait → Option Wait → List Wait
with_last waits None = waits
with_last waits (Some wait) = waits ++ wait ∷ []

-- what a call shows of one of its sectors
abbrev pub call_wait : Rules → ℕ → ℕ → ClientRequest → Kind → Option Wait
call_wait rules i n q Write = Some (Known (WriteSight n (code (bytes_at rules i q q.bytes))))
call_wait rules i n q Read = Some (Awaits n (i - first_sector rules q))
call_wait rules i n q Flush = None

-- the end of a read, which is seen if it brings bytes
abbrev pub read_end : ℕ → NtStatus → Option (List ℕ) → Option Wait
read_end n status None = None
read_end n status (Some bytes) = Some (Known (end_of n status))

abbrev pub read_left : Rules → ℕ → NtStatus → List ℕ → List Wait → List Wait
read_left rules n status bytes waits = with_last (fill code rules n (success_bytes status bytes) waits) (read_end n status (success_bytes status bytes))

-- what waits behind an answer to such a request
abbrev pub answer_left : Rules → Kind → ℕ → NtStatus → List ℕ → List Wait → List Wait
answer_left rules Read n status bytes waits = read_left rules n status bytes waits
answer_left rules Write n status bytes waits = with_last waits (Some (Known (end_of n status)))
answer_left rules Flush n status bytes waits = waits

abbrev pub label_left : Rules → ℕ → Kind → Label → List Wait → List Wait
label_left rules i kind (Call n q) waits = with_last waits (call_wait rules i n q q.kind)
label_left rules i kind (Answer n status informed bytes) waits = answer_left rules kind n status bytes waits
label_left rules i kind _ waits = waits

-- a read of this number waits for its answer
abbrev pub is_awaited : ℕ → Wait → Bool
is_awaited n (Known sight) = false
is_awaited n (Awaits m place) = n == m

-- the label is for the sector: a call that moves it, or an answer to a request of this kind that is open there
abbrev pub IsToldOf : Rules → ℕ → ℕ → List Wait → Kind → Label → Type 0
IsToldOf rules p i waits kind (Call n q) = has_sector rules p i q ≡ true
IsToldOf rules p i waits kind (Answer n status informed bytes) = (list_any (is_wait_of n) waits ≡ is_write kind) × (list_any (is_awaited n) waits ≡ is_read kind)
IsToldOf rules p i waits kind _ = Unit {0}

-- ONE SECTOR

-- these are known before anything waits
pub record IsFront (waits : List Marked) (given : List Given) : Type 0 where
  pub within : length given ≤ length waits
  pub is : plain waits ≡ all_known (sights_in given) ++ plain (drop (length given) waits)

-- the try has taken these
pub record IsTry (seen : List Sight) (t : Try) : Type 0 where
  pub start : t.seen.start ≡ t.start
  pub sights : t.seen.sights ≡ seen

-- and takes one sight more
pub record Saw (sight : Sight) (old new : Try) : Type 0 where
  pub start : new.start ≡ old.start
  pub seen : new.seen ≡ record { start = old.seen.start; sights = old.seen.sights ++ sight ∷ [] }

-- those up to one of them did
pub record SawBelow (sight : Sight) (index : ℕ) (old new : List Try) : Type 0 where
  pub same_length : length new ≡ length old
  pub below : (k : ℕ) (d : Try) → k < index → k < length old → Saw sight (slice_index_or old k d) (slice_index_or new k d)
  pub above : (k : ℕ) (d : Try) → index ≤ k → k < length old → slice_index_or new k d ≡ slice_index_or old k d

-- what took some sights has taken these, too
pub record AllSee (sights : List Sight) (old new : List Try) : Type 0 where
  pub starts : starts_in new ≡ starts_in old
  pub seen : (seen : List Sight) → All (IsTry seen) old → All (IsTry (seen ++ sights)) new

-- if tries are found, they are of all that the sector may have had before these sights, and have taken them
abbrev pub IsBegunBy : ℕ → List Sight → Option (Vec Try) → Type 0
IsBegunBy first given None = Unit {0}
IsBegunBy first given (Some tries) = All (IsTry given) tries.items × ((more : List Sight) → HasStarts first (given ++ more) (starts_in tries.items))

-- there is one start; or none is found, and nothing was taken, or all that it may have had are
abbrev pub AreBegun : Bool → ℕ → List Sight → List ℕ → Type 0
AreBegun false start seen values = values ≡ start ∷ []
AreBegun true start seen values = (more : List Sight) → ((values ≡ []) × (seen ≡ [])) ⊎ HasStarts start (seen ++ more) values

-- of nothing that was seen
pub record AreFirst (any : Bool) (start : ℕ) (tries : Vec Try) : Type 0 where
  pub seen : All (IsTry []) tries.items
  pub begun : AreBegun any start [] (starts_in tries.items)

-- what is seen of the sector is this
pub record IsCell (any : Bool) (start : ℕ) (waits : List Wait) (cell : Cell) : Type 0 where
  pub is : all_known cell.seen.items ++ plain cell.waits.items ≡ waits
  pub tries : All (IsTry cell.seen.items) cell.tries.items
  pub begun : AreBegun any start cell.seen.items (starts_in cell.tries.items)

-- ALL SECTORS

abbrev pub pair : ℕ → ℕ → ℕ × ℕ
pair p i = (p, i)

abbrev pub key_cmp : ℕ × ℕ → ℕ × ℕ → Ordering
key_cmp x y = ordering_then (nat_cmp x.0 y.0) (nat_cmp x.1 y.1)

abbrev pub index_at : BTreeMap (ℕ × ℕ) ℕ → ℕ → ℕ → Option ℕ
index_at index p i = get key_cmp index (p, i)

abbrev pub cell_by : List Cell → Option ℕ → Option Cell
cell_by cells None = None
cell_by cells (Some k) = slice_get cells k

abbrev pub cell_at : Cells → ℕ → ℕ → Option Cell
cell_at cells p i = cell_by cells.cells.items (index_at cells.index p i)

-- a sector that isn't there showed nothing
abbrev pub IsCellAt : Bool → ℕ → List Wait → Option Cell → Type 0
IsCellAt any start waits None = waits ≡ []
IsCellAt any start waits (Some cell) = IsCell any start waits cell

-- no two sectors are one
abbrev pub AreApart : BTreeMap (ℕ × ℕ) ℕ → Type 0
AreApart index = (p i q j k : ℕ) → index_at index p i ≡ Some k → index_at index q j ≡ Some k → pair p i ≡ pair q j

-- this is seen of each sector
pub record HasCells (any : Bool) (start : ℕ) (seen : ℕ → ℕ → List Wait) (cells : Cells) : Type 0 where
  pub cell : (p i : ℕ) → IsCellAt any start (seen p i) (cell_at cells p i)
  pub listed : (p i k : ℕ) → index_at cells.index p i ≡ Some k → Contains cells.places.items (record { partition = p; sector = i })
  pub inside : (p i k : ℕ) → index_at cells.index p i ≡ Some k → k < length cells.cells.items
  pub apart : AreApart cells.index

-- it is, and the sector at a place is that of a number
pub record HasOneAt (any : Bool) (start : ℕ) (seen : ℕ → ℕ → List Wait) (place : Place) (cells : Cells) (at : ℕ) : Type 0 where
  pub has : HasCells any start seen cells
  pub found : index_at cells.index place.partition place.sector ≡ Some at

abbrev pub in_range : ℕ → ℕ → ℕ → ℕ → ℕ → Bool
in_range partition first end p i = (partition == p) && (nat_le first i && nat_lt i end)

abbrev pub in_span : Span → ℕ → ℕ → Bool
in_span span p i = in_range span.partition span.extent.first (span.extent.first + span.extent.count) p i

-- and of one of them, or of some, one label more
abbrev pub seen_at : Rules → (ℕ → ℕ → List Wait) → Place → Label → ℕ → ℕ → List Wait
seen_at rules seen place label p i = if (place.partition == p) && (place.sector == i) then step code rules p i (seen p i) label else seen p i

abbrev pub seen_in : Rules → (ℕ → ℕ → List Wait) → ℕ → ℕ → ℕ → Label → ℕ → ℕ → List Wait
seen_in rules seen partition first end label p i = if in_range partition first end p i then step code rules p i (seen p i) label else seen p i

abbrev pub AreToldOf : Rules → (ℕ → ℕ → List Wait) → Span → Kind → Label → Type 0
AreToldOf rules seen span kind label = (i : ℕ) → in_span span span.partition i ≡ true → IsToldOf rules span.partition i (seen span.partition i) kind label

-- the sectors that a request moves
abbrev pub IsSpanOf : Rules → ClientRequest → Option Span → Type 0
IsSpanOf rules q None = (p i : ℕ) → has_sector rules p i q ≡ false
IsSpanOf rules q (Some span) = (span.extent.first + span.extent.count < 2 ^ 64) × ((p i : ℕ) → has_sector rules p i q ≡ in_span span p i)

-- what all labels show of each sector
abbrev pub seen_of : Rules → List Label → ℕ → ℕ → List Wait
seen_of rules labels p i = waits_of code rules p i [] labels
