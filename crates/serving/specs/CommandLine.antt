-- The command line that the program takes, in the words of its parser.
use Rattle.std.specs.Prelude.{◌≡◌, ◌<◌, ℕ, Bool, true, false, refl, List, Option, None, MatchOption, Some, codes, option_map}
use Rattle.std.specs.Str.Parse.{IsNumeral, digits_value}
use Rattle.clap.specs.Words.{App, Row, Text, first_of, is_simple, matches_of, new_app, one_of, with_rule}
use Rattle.clap.specs.Takes.{takes}
use Rattle.clap.proofs.OnLiterals.{clap_on_literals}
use Rattle.command_line.specs.Grammar.{flag_rule, option_rule, word_rule}
use Rattle.serving.specs.declared.words.asked.Asked.{Asked}

-- [CONFIG [PARTITION]]
abbrev pub words : App
words = with_rule (with_rule (new_app (codes "nbd_disk")) (word_rule (codes "CONFIG") false)) (word_rule (codes "PARTITION") false)

-- nbd_disk [CONFIG [PARTITION]] [--disk FILE] [--create] [--trace TRACE] [--beside]
abbrev pub program : App
program = with_rule (with_rule (with_rule (with_rule words (option_rule (codes "disk"))) (flag_rule (codes "create"))) (option_rule (codes "trace"))) (flag_rule (codes "beside"))

pub is_simple_program : is_simple program ≡ true
unfolding clap_on_literals
is_simple_program = refl

-- the word has decimal digits that spell a number below 256
pub record SpellsPartition (word : List ℕ) (n : ℕ) : Type 0 where
  pub digits : IsNumeral 10 word
  pub value : n ≡ digits_value 10 word
  pub range : n < 256

-- a flag is as the parser read the text of its argument, and not set where it has none
abbrev pub IsFlag : Option Text → Bool → Type 0
IsFlag None flag = flag ≡ false
IsFlag (Some text) flag = (text ≡ codes "true" → flag ≡ true) × (text ≡ codes "false" → flag ≡ false)

-- paths, partition and flags are what the parser found under their names. The partition is 0 where none is named
pub record IsFoundIn (rows : List Row) (asked : Asked) : Type 0 where
  pub config : first_of (codes "CONFIG") rows ≡ option_map (λ word. word.now) asked.config
  pub partition : MatchOption (first_of (codes "PARTITION") rows) (asked.partition ≡ 0) (λ word. SpellsPartition word asked.partition)
  pub disk : first_of (codes "disk") rows ≡ option_map (λ word. word.now) asked.disk
  pub create : IsFlag (one_of (codes "create") rows) asked.create
  pub trace : first_of (codes "trace") rows ≡ option_map (λ word. word.now) asked.trace
  pub beside : IsFlag (one_of (codes "beside") rows) asked.beside

-- what these words ask for
abbrev pub IsAsked : List Text → Asked → Type 0
IsAsked words = IsFoundIn (matches_of program words)

-- the grammar takes these words for nothing that can be served
abbrev pub AsksForNothing : List Text → Type 0
AsksForNothing words = takes program words ≡ true → (asked : Asked) → ¬ (IsAsked words asked)
