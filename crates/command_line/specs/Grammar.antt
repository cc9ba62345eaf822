-- The rules of a grammar's words.
use Rattle.std.specs.Prelude.{Bool, Some}
use Rattle.clap.specs.Words.{Rule, Text, new_rule}
use Rattle.clap.specs.declared.builder.ArgAction.TheVariants.{Set, SetTrue}

-- a word at a place of its own
abbrev pub word_rule : Text → Bool → Rule
word_rule name required = record (new_rule name) { required = required; action = Some Set }

-- --NAME WORD, which may be there
abbrev pub option_rule : Text → Rule
option_rule name = record (new_rule name) { long = Some name; action = Some Set }

-- --NAME, which may be there
abbrev pub flag_rule : Text → Rule
flag_rule name = record (new_rule name) { long = Some name; action = Some SetTrue }
