-- The command line that the program takes, in the words of its parser.
use Rattle.std.specs.Prelude.{◌≡◌, Bool, true, false, refl, List, Option, None, Some, codes}
use Rattle.std.specs.Option.{option_map}
use Rattle.clap.specs.declared.builder.command.Command.{Command as Grammar}
use Rattle.clap.specs.declared.builder.command.Command.TheViews.{out-Command}
use Rattle.clap.specs.Words.{App, Row, Text, app_of, first_of, is_simple, one_of, new_app, subcommand_of, with_rule, with_subcommand}
use Rattle.clap.specs.Takes.{takes}
use Rattle.clap.proofs.OnLiterals.{clap_on_literals}
use Rattle.command_line.specs.Grammar.{flag_rule, option_rule, word_rule}
use Rattle.judge_words.specs.declared.asked.Asked.{Asked}
use Rattle.judge_words.specs.declared.asked.Command.{Command}
use Rattle.judge_words.specs.declared.asked.Command.TheVariants.{Check, Cut, History, Picture, Record}

-- a command of the grammar has these words, and none of them is one of its subcommands
pub record IsApp (app : App) (command : Grammar) : Type 0 where
  pub shape : app_of command ≡ app
  pub own : (out-Command command).has_globals ≡ false

-- with one flag more
abbrev pub with_flag : App → Text → App
with_flag app name = with_rule app (flag_rule name)

-- how a trace is judged: [--any-cut] [--any-tag] [--any-read] [--many] [--whole-disk] [--gaps]
abbrev pub judged_words : App → App
judged_words app =
    with_flag (with_flag (with_flag (with_flag (with_flag (with_flag app (codes "any-cut")) (codes "any-tag")) (codes "any-read")) (codes "many")) (codes "whole-disk")) (codes "gaps")

-- what is asked of a trace: how it is judged, [--settled] [--ended] [--json]
abbrev pub asked_words : App → App
asked_words app = with_flag (with_flag (with_flag (judged_words app) (codes "settled")) (codes "ended")) (codes "json")

-- a command of this name for two words
abbrev pub two_words : Text → Text → Text → App
two_words name first second = with_rule (with_rule (new_app name) (word_rule first true)) (word_rule second true)

-- a command of this name for one word, or for two
abbrev pub one_or_two_words : Text → App
one_or_two_words name = with_rule (with_rule (new_app name) (word_rule (codes "FIRST") true)) (word_rule (codes "SECOND") false)

-- check, what is asked, [--progress] [--sessions] CONFIG TRACE
abbrev pub check_words : App
check_words = with_flag (with_flag (asked_words (two_words (codes "check") (codes "CONFIG") (codes "TRACE"))) (codes "progress")) (codes "sessions")

-- cut, how it is judged, CONFIG TRACE
abbrev pub cut_words : App
cut_words = judged_words (two_words (codes "cut") (codes "CONFIG") (codes "TRACE"))

-- record CONFIG SCRIPT
abbrev pub record_words : App
record_words = two_words (codes "record") (codes "CONFIG") (codes "SCRIPT")

-- history [--any-start] [--progress] [--json] [--sessions] [CONFIG] HISTORY: of two words the first is CONFIG
abbrev pub history_words : App
history_words =
    with_flag (with_flag (with_flag (with_flag (one_or_two_words (codes "history")) (codes "any-start")) (codes "progress")) (codes "json")) (codes "sessions")

-- picture, how it is judged, [--events] [--lines A-B] [CONFIG] TRACE: of two words the first is CONFIG
abbrev pub picture_words : App
picture_words =
    with_rule (with_flag (judged_words (one_or_two_words (codes "picture"))) (codes "events")) (option_rule (codes "lines"))

-- the program, with its five subcommands
abbrev pub program : App
program =
    with_subcommand (with_subcommand (with_subcommand (with_subcommand (with_subcommand (new_app (codes "stackjudge")) check_words.top) cut_words.top) record_words.top) history_words.top)
    picture_words.top

pub is_simple_program : is_simple program ≡ true
unfolding clap_on_literals
is_simple_program = refl

-- a flag is as the parser read the text of its argument, and not set where it has none
abbrev pub IsFlag : Option Text → Bool → Type 0
IsFlag None flag = flag ≡ false
IsFlag (Some text) flag = (text ≡ codes "true" → flag ≡ true) × (text ≡ codes "false" → flag ≡ false)

-- the flag of this name is as it was read
abbrev pub IsRead : List Row → Text → Bool → Type 0
IsRead rows name flag = IsFlag (one_of name rows) flag

-- what is asked of a trace is what the parser found under the names of the flags
pub record HasFlags (rows : List Row) (asked : Asked) : Type 0 where
  pub any_cut : IsRead rows (codes "any-cut") asked.any_cut
  pub any_tag : IsRead rows (codes "any-tag") asked.any_tag
  pub any_read : IsRead rows (codes "any-read") asked.any_read
  pub many : IsRead rows (codes "many") asked.many
  pub whole_disk : IsRead rows (codes "whole-disk") asked.whole_disk
  pub gaps : IsRead rows (codes "gaps") asked.gaps
  pub settled : IsRead rows (codes "settled") asked.settled
  pub ended : IsRead rows (codes "ended") asked.ended
  pub json : IsRead rows (codes "json") asked.json

-- one word is the trace or the history; of two the first is the settings, and the second that
abbrev pub AreFiles : Option Text → Option Text → Option Text → Text → Type 0
AreFiles None second config trace = ⊥
AreFiles (Some first) None config trace = (first ≡ trace) × (config ≡ None)
AreFiles (Some first) (Some second) config trace = (config ≡ Some first) × (second ≡ trace)

-- a command has what the parser found under the names of its words
abbrev pub HasWords : List Row → Command → Type 0
HasWords rows (Check config trace asked progress sessions) = (first_of (codes "CONFIG") rows ≡ Some config.now) × (first_of (codes "TRACE") rows ≡ Some trace.now)
    × HasFlags rows asked × IsRead rows (codes "progress") progress × IsRead rows (codes "sessions") sessions
HasWords rows (Cut config trace asked) = (first_of (codes "CONFIG") rows ≡ Some config.now) × (first_of (codes "TRACE") rows ≡ Some trace.now) × HasFlags rows asked
HasWords rows (Record config script) = (first_of (codes "CONFIG") rows ≡ Some config.now) × (first_of (codes "SCRIPT") rows ≡ Some script.now)
HasWords rows (History config history any_start progress json sessions) =
    AreFiles (first_of (codes "FIRST") rows) (first_of (codes "SECOND") rows) (option_map (λ c. c.now) config) history.now
    × IsRead rows (codes "any-start") any_start × IsRead rows (codes "progress") progress × IsRead rows (codes "json") json
    × IsRead rows (codes "sessions") sessions
HasWords rows (Picture config trace asked events lines) =
    AreFiles (first_of (codes "FIRST") rows) (first_of (codes "SECOND") rows) (option_map (λ c. c.now) config) trace.now × HasFlags rows asked
    × IsRead rows (codes "events") events × (option_map (λ l. l.now) lines ≡ first_of (codes "lines") rows)

-- the first word of a command
abbrev pub name_of : Command → Text
name_of (Check config trace asked progress sessions) = codes "check"
name_of (Cut config trace asked) = codes "cut"
name_of (Record config script) = codes "record"
name_of (History config history any_start progress json sessions) = codes "history"
name_of (Picture config trace asked events lines) = codes "picture"

-- the subcommand that was found is the command's, with its words
abbrev pub IsFoundIn : Option (Text × List Row) → Command → Type 0
IsFoundIn found command = (rows : List Row) × (found ≡ Some (name_of command, rows)) × HasWords rows command

-- what these words ask for
abbrev pub IsAsked : List Text → Command → Type 0
IsAsked words = IsFoundIn (subcommand_of program words)

-- the grammar takes these words for no command
abbrev pub AsksForNothing : List Text → Type 0
AsksForNothing words = takes program words ≡ true → (command : Command) → ¬ (IsAsked words command)
