-- What the checker's own types say of the machine.
use Rattle.std.specs.Prelude.{ℕ, Bool, false, nat_lt, nat_le, ◌||◌, List, Option, Some, None, map, count_by, slice_get, true}
use Rattle.std.specs.List.{concat}
use Rattle.sector.specs.declared.Extent.{Extent}
use Rattle.srb.specs.Fate.{Fate, Fresh, Acted, Faulted}
use Rattle.machine.specs.Rules.{Rules}
use Rattle.machine.specs.declared.ClientRequest.{ClientRequest}
use Rattle.machine.specs.State.{Mark, Untouched, Out, Done, Failed, Back, OpenRequest, Piece, Owed}
use Rattle.machine.specs.Answering.{bytes_of_mark}
use Rattle.judge.specs.declared.rules.MachineRules.{MachineRules}
use Rattle.judge.specs.declared.machine_state.Debt.{Debt}
use Rattle.judge.specs.declared.places.Marked.{Marked}
use Rattle.judge.specs.declared.places.Marked.TheVariants as marked
use Rattle.judge.specs.declared.pieces.Deed.{Deed}
use Rattle.judge.specs.declared.pieces.Deed.TheVariants as deed

-- the machine's rules
abbrev pub rules_of : MachineRules → Rules
rules_of r = record {
  sector_size = r.sector_size;
  disk_sectors = r.disk_sectors;
  partitions = r.partitions.items;
  longest = r.longest;
  max_transfer = r.max_transfer;
  depth = r.depth;
  open_requests = r.open_requests;
  window = r.window;
  one_piece = r.one_piece;
  busy_limit = r.busy_limit;
  any_cut = r.any_cut;
  faithful = r.faithful;
  keeps_bytes = true;
}

-- what has become of a place
abbrev pub mark_of : Marked → Mark
mark_of marked.Untouched = Untouched
mark_of marked.Out = Out
mark_of (marked.Done sector) = Done sector
mark_of (marked.Failed status) = Failed status
mark_of marked.Back = Back

-- what a piece has done
abbrev pub fate_of : Deed → Fate
fate_of deed.Fresh = Fresh
fate_of (deed.Acted sectors) = Acted sectors.items
fate_of deed.Faulted = Faulted

-- the extent of a partition, where its number is given and known
abbrev pub extent_at : List Extent → Option ℕ → Option Extent
extent_at partitions None = None
extent_at partitions (Some p) = slice_get partitions p

-- a request that is neither cancelled nor sent
abbrev pub opened : ℕ → ClientRequest → Bool → List Mark → OpenRequest
opened number q late marks = record { number = number; request = q; cancelled = false; late = late; busy_returns = 0; marks = marks }

-- the request, late or not
abbrev pub with_late : Bool → OpenRequest → OpenRequest
with_late late o = record o { late = late }

abbrev pub with_busy_returns : ℕ → OpenRequest → OpenRequest
with_busy_returns busy_returns o = record o { busy_returns = busy_returns }

-- the bytes of all places, end to end
abbrev pub joined_marks : List Mark → List ℕ
joined_marks marks = concat (map bytes_of_mark marks)

-- a piece that has done nothing yet
abbrev pub fresh_piece : ℕ → ℕ → ℕ → Extent → Piece
fresh_piece number tag owner places = record { number = number; tag = tag; owner = owner; places = places; fate = Fresh }

-- the answer that a refused call is owed
abbrev pub owed_of : Debt → Owed
owed_of a = record { number = a.number; status = a.status }

-- the number is below this one
abbrev pub is_less : ℕ → ℕ → Bool
is_less number other = nat_lt other number

-- a request that is late from now on where at least a window of the numbers are lower
abbrev pub held_by : ℕ → List ℕ → OpenRequest → OpenRequest
held_by window numbers o = record o { late = o.late || nat_le window (count_by (is_less o.number) numbers) }
