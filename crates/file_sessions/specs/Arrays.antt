-- Sessions over other arrays.
use Rattle.std.specs.Prelude.{◌≡◌, ℕ, false, List}
use Rattle.machine.specs.declared.Label.{Label}
use Rattle.machine.specs.Rules.{Rules}
use Rattle.file_disk.specs.Calls.{Call}
use Rattle.loss.specs.Sessions.{Moment}
use Rattle.file_sessions.specs.Sessions.{IsSession}
use Rattle.file_sessions.specs.Stored.{Content}

-- the moment with these arrays
abbrev pub over : List (List (List ℕ)) → Moment → Moment
over arrays m = record { machine = record m.machine { arrays = arrays }; table = m.table }

-- a machine that moves no sectors comes over any arrays to what it came to over these
abbrev pub AnyArraysDo : Type 0
AnyArraysDo = (rules : Rules) (arrays others : List (List (List ℕ))) (before : Content) (calls : List Call) (labels : List Label) (end : Moment)
    → rules.faithful ≡ false → IsSession rules arrays before calls labels end → IsSession rules others before calls labels (over others end)
