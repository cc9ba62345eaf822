-- What is left of a file that may not be there.
use Rattle.std.specs.Prelude.{ℕ, List, Option, None}
use Rattle.startup.specs.declared.file_input.Input.{Input}
use Rattle.startup.specs.declared.file_input.Input.TheVariants.{Opened, Refused}

-- what is left of a file that was opened; nothing is known of one that was refused
abbrev pub remaining_of : {F : Type 0} → (F → Option (List ℕ)) → Input F → Option (List ℕ)
remaining_of remaining (Opened file) = remaining file
remaining_of remaining (Refused kind) = None
