-- The command line that the program takes, in the words of its parser.
use Rattle.std.specs.Prelude.{◌≡◌, ◌≤◌, ℕ, true, refl, List, Option, Some, IsSomeAnd, codes}
use Rattle.std.specs.Str.Parse.{IsNumeral, digits_value}
use Rattle.clap.specs.Words.{App, Row, Text, first_of, is_simple, new_app, subcommand_of, with_rule, with_subcommand}
use Rattle.clap.specs.Takes.{takes}
use Rattle.clap.proofs.OnLiterals.{clap_on_literals}
use Rattle.command_line.specs.Grammar.{word_rule}
use Rattle.commands.specs.declared.words.asked.Command.{Command}
use Rattle.commands.specs.declared.words.asked.Command.TheVariants.{Trace, Clients}

-- trace CONFIG SCRIPT
abbrev pub trace_words : App
trace_words = with_rule (with_rule (new_app (codes "trace")) (word_rule (codes "CONFIG") true)) (word_rule (codes "SCRIPT") true)

-- clients CONFIG THREADS CALLS
abbrev pub clients_words : App
clients_words =
    with_rule (with_rule (with_rule (new_app (codes "clients")) (word_rule (codes "CONFIG") true)) (word_rule (codes "THREADS") true)) (word_rule (codes "CALLS") true)

-- the program, with its two subcommands
abbrev pub program : App
program = with_subcommand (with_subcommand (new_app (codes "stackrun")) trace_words.top) clients_words.top

pub is_simple_program : is_simple program ≡ true
unfolding clap_on_literals
is_simple_program = refl

-- a word spells a number in decimal, from 1 to the most that is allowed
pub record IsCount (most : ℕ) (word : Text) (n : ℕ) : Type 0 where
  pub digits : IsNumeral 10 word
  pub value : n ≡ digits_value 10 word
  pub some : 1 ≤ n
  pub no_more : n ≤ most

-- a command has what the parser found under the names of its words
abbrev pub HasWords : List Row → Command → Type 0
HasWords rows (Trace config script) = (first_of (codes "CONFIG") rows ≡ Some config.now) × (first_of (codes "SCRIPT") rows ≡ Some script.now)
HasWords rows (Clients config threads rounds) =
    (first_of (codes "CONFIG") rows ≡ Some config.now)
    × IsSomeAnd (first_of (codes "THREADS") rows) (λ word. IsCount 32 word threads)
    × IsSomeAnd (first_of (codes "CALLS") rows) (λ word. IsCount 10000 word rounds)

-- the first word of a command
abbrev pub name_of : Command → Text
name_of (Trace config script) = codes "trace"
name_of (Clients config threads rounds) = codes "clients"

-- the subcommand that was found is the command's, with its words
abbrev pub IsFoundIn : Option (Text × List Row) → Command → Type 0
IsFoundIn found command = (rows : List Row) × (found ≡ Some (name_of command, rows)) × HasWords rows command

-- what these words ask for
abbrev pub IsAsked : List Text → Command → Type 0
IsAsked words = IsFoundIn (subcommand_of program words)

-- the grammar takes these words for no command
abbrev pub AsksForNothing : List Text → Type 0
AsksForNothing words = takes program words ≡ true → (command : Command) → ¬ (IsAsked words command)
