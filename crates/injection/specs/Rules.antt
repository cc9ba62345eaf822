-- Which commands a rule does something to.
use Rattle.std.specs.Prelude.{◌≡◌, ℕ, ◌+◌, ◌-◌, ◌==◌, ◌&&◌, nat_lt, Bool, true, List, Option, Some, None, Result, Ok, Err, MatchResult, if◌then◌else◌}
use Rattle.std.specs.List.{sum_by}
use Rattle.cdb.specs.declared.Cdb.{Cdb}
use Rattle.cdb.specs.declared.CdbFault.{CdbFault}
use Rattle.cdb.specs.Meaning.{Means}
use Rattle.cdb.specs.Faults.{HasFault}
use Rattle.cdb.specs.Facts.{lba_of, blocks_of}
use Rattle.ntstatus.specs.First.{when}
use Rattle.sector.specs.declared.Extent.{Extent}
use Rattle.injection.specs.declared.Kind.{Kind}
use Rattle.injection.specs.declared.Rule.{Rule}

-- the sectors that a command names; none where its block asks for nothing
abbrev pub named : Result Cdb CdbFault → Extent
named (Ok command) = record { first = lba_of command; count = blocks_of command }
named (Err fault) = record { first = 0; count = 0 }

-- a command block names these sectors
pub record Names (block : List ℕ) (asked : Extent) : Type 0 where
  pub decoded : Result Cdb CdbFault
  pub decodes : MatchResult decoded (Means block) (HasFault block)
  pub is : asked ≡ named decoded

-- two extents share a sector
abbrev pub share : Extent → Extent → Bool
share a b = nat_lt 0 a.count && (nat_lt 0 b.count && (nat_lt a.first (b.first + b.count) && nat_lt b.first (a.first + a.count)))

-- a rule with such sectors counts a command that names these
abbrev pub meets : Option Extent → Extent → Bool
meets None asked = true
meets (Some range) asked = share range asked

-- the rule counts a command that names these sectors
abbrev pub counts : Extent → Rule → Bool
counts asked rule = nat_lt 0 rule.times && meets rule.sectors asked

-- and does something to it
abbrev pub is_due : Extent → Rule → Bool
is_due asked rule = counts asked rule && (rule.wait == 0)

abbrev pub kind_if_due : Extent → Rule → Option Kind
kind_if_due asked rule = when (is_due asked rule) rule.kind

-- the rule behind such a command: where it was due, it is for one command fewer, and waits anew
abbrev pub behind : Extent → Rule → Rule
behind asked rule =
    if counts asked rule
    then (if rule.wait == 0 then record rule { times = rule.times - 1; wait = rule.every - 1 } else record rule { wait = rule.wait - 1 })
    else rule

-- to how many commands the rules may still do something
abbrev pub left : List Rule → ℕ
left rules = sum_by (λ (r : Rule). r.times) rules
