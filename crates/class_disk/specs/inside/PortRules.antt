-- The rules of the layer below a class driver.
use Rattle.std.specs.Prelude.{true}
use Rattle.machine.specs.Rules.{Rules}

-- each request goes as one piece, and its first busy return ends it
abbrev pub below_rules : Rules → Rules
below_rules rules = record rules { longest = rules.max_transfer; one_piece = true; busy_limit = 1 }
