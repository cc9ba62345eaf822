use Rattle.std.proofs.Common.{◌≡◌, ◌∙◌, Option, None, List, refl, codes}
use Rattle.clap.specs.Words.{Row, Text, found_of}
use Rattle.clap.specs.Walk.{first_of, rows_of}
use Rattle.clap.proofs.WalkLemmas.{first_value-rows}
use Rattle.judge_words.proofs.Files.{as_found, no_files}
use Rattle.judge_words.proofs.Flags.{flag_is}
use Rattle.judge_words.proofs.Names.{history_is_no_picture}
use Rattle.judge_words.specs.CommandLine.{HasWords, name_of}
use Rattle.judge_words.specs.declared.asked.Command.{Command}
use Rattle.judge_words.specs.declared.asked.Command.TheVariants.{Check, Cut, History, Picture, Record}
use Rattle.judge_words.proofs.reading.picture_of.Goals as goal

pub returns : goal.returns
returns c =
    let found = found_of c.args.matches.now in (
      refl,
      (
        as_found _ _ _ _ _ _ (c.in-Some.ensures ∙ first_value-rows found (codes "FIRST")) (c.get_str-2.ensures ∙ first_value-rows found (codes "SECOND")) c.files.ensures,
        c.asked_of-asked.ensures,
        flag_is found (codes "events") c.get_flag-events.result c.get_flag-events.ensures.none c.get_flag-events.ensures.value c.get_flag-events.ensures.other,
        c.get_str-lines.ensures ∙ first_value-rows found (codes "lines"),
      ),
    )

no_first : (rows : List Row) (command : Command) → name_of command ≡ codes "picture" → ◌≡◌ {A = Option Text} None (first_of (codes "FIRST") rows) → HasWords rows command → ⊥
no_first rows (Check config trace asked progress sessions) name none has = absurd (cc (name))
no_first rows (Cut config trace asked) name none has = absurd (cc (name))
no_first rows (Record config script) name none has = absurd (cc (name))
no_first rows (History config history any_start progress json sessions) name none has = history_is_no_picture name
no_first rows (Picture config trace asked events lines) name none has = no_files _ _ _ _ none has.0

pub returns-in_default : goal.returns-in_default
returns-in_default c = λ command name has.
    let found = found_of c.args.matches.now in
    no_first (rows_of found) command name (c.in_default.ensures ∙ first_value-rows found (codes "FIRST")) has
