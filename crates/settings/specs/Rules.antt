-- Which rules of the settings slow commands, and which fail them.
use Rattle.std.specs.Prelude.{Bool, true, false, not}
use Rattle.injection.specs.declared.Kind.{Kind}
use Rattle.injection.specs.declared.Kind.TheVariants.{Busy, Delay}
use Rattle.injection.specs.declared.Rule.{Rule}

-- a rule of this kind makes commands come back busy or later
abbrev pub is_slow : Kind → Bool
is_slow Busy = true
is_slow (Delay ms) = true
is_slow _ = false

-- a rule slows commands
abbrev pub slows : Rule → Bool
slows rule = is_slow rule.kind

-- any other fails them
abbrev pub fails : Rule → Bool
fails rule = not (slows rule)
