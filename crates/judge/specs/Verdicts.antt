-- What a verdict says.
use Rattle.std.specs.Prelude.{◌<◌, Bool, true, false, List, length}
use Rattle.machine.specs.declared.Label.{Label}
use Rattle.machine.specs.Rules.{Rules}
use Rattle.machine.specs.State.{State}
use Rattle.judge.specs.Judging.{AreReached, StopsAt}
use Rattle.judge.specs.declared.judging.Verdict.{Verdict}
use Rattle.judge.specs.declared.judging.Verdict.TheVariants.{Run, Stops}

-- a run has all states that it reaches, one at least; else the verdict names the first label that no step allows
abbrev pub IsVerdict : Rules → State → List Label → Verdict → Type 0
IsVerdict rules s labels (Run machines) = AreReached rules s labels machines.items × (0 < length machines.items)
IsVerdict rules s labels (Stops at) = StopsAt rules s labels at

abbrev pub is_run : Verdict → Bool
is_run (Run machines) = true
is_run (Stops at) = false
