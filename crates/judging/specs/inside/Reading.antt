-- A line that was read of an input, and how reading fails.
use Rattle.std.specs.Prelude.{◌≡◌, ◌⊎◌, ℕ, List, [], ◌∷◌, ◌++◌}
use Rattle.judging.specs.declared.faults.Error.{Error}
use Rattle.judging.specs.declared.faults.Error.TheVariants.{TraceUnreadable, NoMemory}

-- the line has a line feed at its end
abbrev pub IsEnded : List ℕ → Type 0
IsEnded line = (front : List ℕ) × (line ≡ front ++ 10 ∷ [])

-- a trace could not be read to its end
abbrev pub IsUnreadTrace : Error → Type 0
IsUnreadTrace fault = (fault ≡ TraceUnreadable) ⊎ (fault ≡ NoMemory)
