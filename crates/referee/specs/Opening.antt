-- The machine that settings describe, before its first label.
use Rattle.std.specs.Prelude.{◌≡◌, ℕ, List, [], None, map}
use Rattle.machine.specs.Map.{IsMap}
use Rattle.judge.specs.Following.{HasTakenLines}
use Rattle.settings.specs.declared.Config.{Config}
use Rattle.settings.specs.Medium.{extents_of, zeros}
use Rattle.startup.specs.Started.{rules_of}
use Rattle.referee.specs.Taking.{RefereeView}

-- the sectors of each partition of the settings: zeros
abbrev pub arrays_of : Config → List (List (List ℕ))
arrays_of c = map (λ extent. zeros c extent.count) (extents_of c)

-- a referee of the stack of these settings, that has taken no line
pub record IsOpened (c : Config) (r : RefereeView) : Type 0 where
  pub is_map : IsMap c.sectors (extents_of c)
  pub rules : r.judge.rules ≡ rules_of c
  pub none_taken : HasTakenLines r.judge (arrays_of c) []
  pub none_refused : r.why ≡ None
