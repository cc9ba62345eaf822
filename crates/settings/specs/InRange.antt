-- Settings that a stack can be started with, wherever they come from.
use Rattle.std.specs.Prelude.{◌≡◌, ◌≤◌, ◌<◌, ◌⊎◌, ℕ, All, length}
use Rattle.settings.specs.declared.Config.{Config}
use Rattle.settings.specs.declared.Partition.{Partition}

-- the number is in a range
abbrev pub IsFrom : ℕ → ℕ → ℕ → Type 0
IsFrom least most n = (least ≤ n) × (n ≤ most)

-- the type of a partition marks its entry as used
abbrev pub IsUsed : Partition → Type 0
IsUsed p = IsFrom 1 255 p.kind

-- each setting is in its range
pub record AreInRange (c : Config) : Type 0 where
  pub sector_size : (c.sector_size ≡ 512) ⊎ (c.sector_size ≡ 4096)
  pub sectors : IsFrom 1 1099511627776 c.sectors
  pub max_transfer : IsFrom 1 65536 c.max_transfer
  pub depth : IsFrom 1 32 c.depth
  pub window : IsFrom 1 64 c.window
  pub open_requests : IsFrom 1 64 c.open_requests
  pub bad_sectors : All (λ sector. sector < c.sectors) c.bad_sectors.items
  pub few_partitions : length c.partitions.items ≤ 4
  pub partitions : All IsUsed c.partitions.items
