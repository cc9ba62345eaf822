-- What words ask a program for, by the words of its parser.
use Rattle.std.specs.Prelude.{◌≡◌, true, List, Option}
use Rattle.clap.specs.Words.{App, Row, Text, found_of, matches_of, subcommand_of, subcommand_rows_of}
use Rattle.clap.specs.Walk.{rows_of}
use Rattle.clap.specs.Takes.{takes}
use Rattle.clap.specs.declared.parser.matches.ArgMatches.{ArgMatches}

-- what a parser finds in words: the rows of the program's own words, and the name and the rows of a subcommand
pub record Found : Type 0 where
  pub rows : List Row
  pub subcommand : Option (Text × List Row)

abbrev pub found_by : ArgMatches → Found
found_by matches = record { rows = rows_of (found_of matches); subcommand = subcommand_rows_of matches }

-- what the grammar finds in words
abbrev pub found_in : App → List Text → Found
found_in program words = record { rows = matches_of program words; subcommand = subcommand_of program words }

-- what these words ask for, where this tells what was found
abbrev pub IsAsked : {Asked : Type 0} → App → (Found → Asked → Type 0) → List Text → Asked → Type 0
IsAsked program is_found words = is_found (found_in program words)

-- the grammar takes these words for nothing that can be asked for
abbrev pub AsksForNothing : {Asked : Type 0} → App → (Found → Asked → Type 0) → List Text → Type 0
AsksForNothing {Asked} program is_found words = takes program words ≡ true → (asked : Asked) → ¬ (IsAsked program is_found words asked)
