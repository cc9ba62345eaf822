-- By which rules the class driver's machine moves, and those of the layer below.
use Rattle.std.specs.Prelude.{◌≡◌, ◌<◌, false, [], ◌∷◌, None, IsTrue}
use Rattle.machine.specs.Rules.{Rules}

-- the rules of the class driver, over a layer with these: requests of up to 65,536 sectors go in parts, and each busy
-- return but the seventeenth sends a part again
abbrev pub class_rules : Rules → Rules
class_rules rules = record rules { longest = 65536; one_piece = false; busy_limit = 17 }

-- the layer below takes each request as one piece, of a sector or more, and answers at its first busy return
pub record IsPort (rules : Rules) : Type 0 where
  pub longest : rules.longest ≡ rules.max_transfer
  pub one_piece : IsTrue rules.one_piece
  pub first_busy : rules.busy_limit ≡ 1
  pub one_disk : rules.partitions ≡ record { first = 0; count = rules.disk_sectors } ∷ []
  pub no_window : rules.window ≡ None
  pub uncounted : rules.open_requests ≡ None
  pub some_transfer : 0 < rules.max_transfer
