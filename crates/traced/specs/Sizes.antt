-- The sizes of a stack, by which labels are counted.
use Rattle.std.specs.Prelude.{◌<◌, ℕ}
use Rattle.machine.specs.Rules.{Rules}
use Rattle.traced.specs.declared.sizes.StackSizes.{StackSizes}

-- the sizes of a stack of these rules
abbrev pub sizes_of : Rules → StackSizes
sizes_of rules = record {
  sector_size = rules.sector_size;
  sectors = rules.disk_sectors;
  longest = rules.longest;
  max_transfer = rules.max_transfer;
  busy_limit = rules.busy_limit;
}

-- labels can be counted by these sizes: a sector has bytes, and a piece has sectors
pub record AreSizes (sizes : StackSizes) : Type 0 where
  pub some_bytes : 0 < sizes.sector_size
  pub some_sectors : 0 < sizes.max_transfer
