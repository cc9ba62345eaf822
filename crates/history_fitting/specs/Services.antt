-- What is known of a service from outside.
use Rattle.std.specs.Prelude.{◌≡◌, ℕ, ◌+◌, ◌*◌, ◌/◌, true, false, List, Option, Some, None, if◌then◌else◌, slice_range}
use Rattle.sector.specs.declared.Extent.{Extent}
use Rattle.machine.specs.declared.ClientRequest.{ClientRequest}
use Rattle.machine.specs.Rules.{Rules, is_transfer, is_in_bounds, first_sector}
use Rattle.history_fitting.specs.declared.service.Service.{Service}

-- rules of its sizes and partitions
abbrev pub rules_of : Service → Rules
rules_of service = record {
  sector_size = service.sector_size;
  disk_sectors = 0;
  partitions = service.partitions.items;
  longest = service.longest;
  max_transfer = 1;
  depth = 1;
  open_requests = None;
  window = None;
  one_piece = false;
  busy_limit = 0;
  any_cut = true;
  faithful = true;
  keeps_bytes = true;
}

-- the rules have its sizes and partitions, whatever else they say
pub record AreOf (service : Service) (rules : Rules) : Type 0 where
  pub sector_size : rules.sector_size ≡ service.sector_size
  pub partitions : rules.partitions ≡ service.partitions.items
  pub longest : rules.longest ≡ service.longest

-- the sectors of a request's bytes, if they are in bounds
abbrev pub within : Rules → ClientRequest → Option Extent
within rules q = if is_in_bounds rules q then Some (record { first = first_sector rules q; count = q.length / rules.sector_size }) else None

-- the sectors that a request moves
abbrev pub moved : Rules → ClientRequest → Option Extent
moved rules q = if is_transfer q.kind then within rules q else None

-- of some bytes those of the sector at one place
abbrev pub sector_in : ℕ → List ℕ → ℕ → List ℕ
sector_in size bytes place = slice_range bytes (place * size) ((place + 1) * size)
