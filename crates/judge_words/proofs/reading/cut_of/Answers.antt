use Rattle.std.proofs.Common.{◌≡◌, ◌∙◌, Option, None, Some, List, sym, refl, codes}
use Rattle.clap.specs.Words.{Row, Text, found_of}
use Rattle.clap.specs.Walk.{first_of, rows_of}
use Rattle.clap.proofs.WalkLemmas.{first_value-rows}
use Rattle.judge_words.specs.CommandLine.{HasWords, name_of}
use Rattle.judge_words.specs.declared.asked.Command.{Command}
use Rattle.judge_words.specs.declared.asked.Command.TheVariants.{Check, Cut, History, Picture, Record}
use Rattle.judge_words.proofs.reading.cut_of.Goals as goal

pub returns : goal.returns
returns c =
    let found = found_of c.args.words.now in (
      refl,
      (
        sym (c.in-Some.ensures ∙ first_value-rows found (codes "CONFIG")),
        sym (c.in-Some-get_str.ensures ∙ first_value-rows found (codes "TRACE")),
        c.asked_of-asked.ensures,
      ),
    )

no_config : (rows : List Row) (command : Command) → name_of command ≡ codes "cut" → ◌≡◌ {A = Option Text} None (first_of (codes "CONFIG") rows) → HasWords rows command → ⊥
no_config rows (Check config trace asked progress sessions) name none has = absurd (cc (name))
no_config rows (Cut config trace asked) name none has =
    let both : ◌≡◌ {A = Option Text} None (Some config.now) = none ∙ has.0 in
    absurd (cc)
no_config rows (Record config script) name none has = absurd (cc (name))
no_config rows (History config history any_start progress json sessions) name none has = absurd (cc (name))
no_config rows (Picture config trace asked events lines) name none has = absurd (cc (name))

no_trace : (rows : List Row) (command : Command) → name_of command ≡ codes "cut" → ◌≡◌ {A = Option Text} None (first_of (codes "TRACE") rows) → HasWords rows command → ⊥
no_trace rows (Check config other asked progress sessions) name none has = absurd (cc (name))
no_trace rows (Cut config trace asked) name none has =
    let both : ◌≡◌ {A = Option Text} None (Some trace.now) = none ∙ has.1 in
    absurd (cc)
no_trace rows (Record config other) name none has = absurd (cc (name))
no_trace rows (History config other any_start progress json sessions) name none has = absurd (cc (name))
no_trace rows (Picture config other asked events lines) name none has = absurd (cc (name))

pub returns-in_default : goal.returns-in_default
returns-in_default c = λ command name has.
    let found = found_of c.args.words.now in
    no_config (rows_of found) command name (c.in_default.ensures ∙ first_value-rows found (codes "CONFIG")) has

pub returns-in_default-get_str : goal.returns-in_default-get_str
returns-in_default-get_str c = λ command name has.
    let found = found_of c.args.words.now in
    no_trace (rows_of found) command name (c.in_default-get_str.ensures ∙ first_value-rows found (codes "TRACE")) has
