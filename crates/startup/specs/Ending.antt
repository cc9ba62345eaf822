-- How a program ends: its exit status.
use Rattle.std.specs.Prelude.{ℕ, Bool, Result, Ok, Err, if◌then◌else◌}
use Rattle.startup.specs.declared.ending.Verdict.{Verdict}
use Rattle.startup.specs.declared.ending.Verdict.TheVariants.{Passed, Failed}

-- the status that a program ends with: 0 where there was no fault and all went well, 2 where the words of the command
-- line asked for nothing that it does, else 1
abbrev pub exit_status : {E : Type 0} → (E → Bool) → Result Verdict E → ℕ
exit_status usage (Ok Passed) = 0
exit_status usage (Ok Failed) = 1
exit_status usage (Err fault) = if usage fault then 2 else 1
