use Rattle.std.proofs.Common.{◌≡◌, ◌∙◌, Option, None, Some, List, sym, refl, codes}
use Rattle.clap.specs.Words.{Row, Text, found_of}
use Rattle.clap.specs.Walk.{first_of, rows_of}
use Rattle.clap.proofs.WalkLemmas.{first_value-rows}
use Rattle.commands.specs.CommandLine.{HasWords, name_of}
use Rattle.commands.specs.declared.words.asked.Command.{Command}
use Rattle.commands.specs.declared.words.asked.Command.TheVariants.{Trace, Clients}
use Rattle.commands.proofs.words.trace_of.Goals as goal

pub returns : goal.returns
returns c =
    let found = found_of c.args.words.now in (
      refl,
      (sym (c.in-Some.ensures ∙ first_value-rows found (codes "CONFIG")), sym (c.in-Some-get_str.ensures ∙ first_value-rows found (codes "SCRIPT"))),
    )

no_config : (rows : List Row) (command : Command) → ◌≡◌ {A = Option Text} None (first_of (codes "CONFIG") rows) → HasWords rows command → ⊥
no_config rows (Trace config script) none has =
    let both : ◌≡◌ {A = Option Text} None (Some config.now) = none ∙ has.0 in
    absurd (cc)
no_config rows (Clients config threads rounds) none has =
    let both : ◌≡◌ {A = Option Text} None (Some config.now) = none ∙ has.0 in
    absurd (cc)

no_script : (rows : List Row) (command : Command) → name_of command ≡ codes "trace" → ◌≡◌ {A = Option Text} None (first_of (codes "SCRIPT") rows) → HasWords rows command → ⊥
no_script rows (Trace config script) name none has =
    let both : ◌≡◌ {A = Option Text} None (Some script.now) = none ∙ has.1 in
    absurd (cc)
no_script rows (Clients config threads rounds) name none has = absurd (cc (name))

pub returns-in_default : goal.returns-in_default
returns-in_default c = λ command _ has.
    let found = found_of c.args.words.now in
    no_config (rows_of found) command (c.in_default.ensures ∙ first_value-rows found (codes "CONFIG")) has

pub returns-in_default-get_str : goal.returns-in_default-get_str
returns-in_default-get_str c = λ command name has.
    let found = found_of c.args.words.now in
    no_script (rows_of found) command name (c.in_default-get_str.ensures ∙ first_value-rows found (codes "SCRIPT")) has
