-- What stands for the names of a traced stack, for a type that names none.
use Rattle.std.specs.Prelude.{true, false, [], None}
use Rattle.machine.specs.Rules.{Rules}

-- the rules of no stack
abbrev pub no_rules : Rules
no_rules = record {
  sector_size = 0;
  disk_sectors = 0;
  partitions = [];
  longest = 0;
  max_transfer = 0;
  depth = 0;
  open_requests = None;
  window = None;
  one_piece = true;
  busy_limit = 0;
  any_cut = false;
  faithful = true;
  keeps_bytes = true;
}
