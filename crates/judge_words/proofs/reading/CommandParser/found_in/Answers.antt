use Rattle.std.proofs.Common.{List, Option, Some, None, IfSome, IsNone, MatchOption, ◌≡◌, ◌∙◌, ap, subst, sym}
use Rattle.clap.specs.Words.{Row, Text, found_of, subcommand_rows_of}
use Rattle.clap.specs.Walk.{rows_of}
use Rattle.judge_words.specs.declared.asked.Command.{Command}
use Rattle.judge_words.specs.CommandLine.{HasWords, IsFoundIn, name_of}
use Rattle.judge_words.proofs.reading.CommandParser.found_in.Goals as goal

-- what the words of the subcommand of a name ask for
abbrev ReadsWords : Text → List Row → Option Command → Type 0
ReadsWords name rows result =
    MatchOption result ((command : Command) → name_of command ≡ name → ¬ (HasWords rows command)) (λ command. (name_of command ≡ name) × HasWords rows command)

of_found : (found : Option (Text × List Row)) (name : Text) (rows : List Row) (result : Option Command) → found ≡ Some (name, rows) → ReadsWords name rows result
    → IfSome result (IsFoundIn found)
of_found found name rows None is reads = tt
of_found found name rows (Some command) is reads = (rows, is ∙ ap (λ n. Some (n, rows)) (sym reads.0), reads.1)

not_of_found : (found : Option (Text × List Row)) (name : Text) (rows : List Row) (result : Option Command) → found ≡ Some (name, rows) → ReadsWords name rows result
    → IsNone result → (command : Command) → ¬ (IsFoundIn found command)
not_of_found found name rows (Some other) is reads h = absurd (cc (h))
not_of_found found name rows None is reads h = λ command there.
    let both : ◌≡◌ {A = Option (Text × List Row)} (Some (name_of command, there.0)) (Some (name, rows)) = sym there.1 ∙ is in
    let pair : ◌≡◌ {A = Text × List Row} (name_of command, there.0) (name, rows) = cc in
    reads command (ap (λ (p : Text × List Row). p.0) pair) (subst (λ r. HasWords r command) (ap (λ (p : Text × List Row). p.1) pair) there.2)

pub returns-in-Some-clause-some : goal.returns-in-Some-clause-some
returns-in-Some-clause-some c = of_found (subcommand_rows_of c.args.matches.now) _ (rows_of (found_of c.in-Some.words.now)) c.check_of.result c.in-Some.ensures.some c.check_of.ensures

pub returns-in-Some-clause-none : goal.returns-in-Some-clause-none
returns-in-Some-clause-none c = not_of_found (subcommand_rows_of c.args.matches.now) _ (rows_of (found_of c.in-Some.words.now)) c.check_of.result c.in-Some.ensures.some c.check_of.ensures

pub returns-in-Some-subcommand-clause-some : goal.returns-in-Some-subcommand-clause-some
returns-in-Some-subcommand-clause-some c =
    of_found (subcommand_rows_of c.args.matches.now) _ (rows_of (found_of c.in-Some-subcommand.words.now)) c.cut_of.result c.in-Some-subcommand.ensures.some c.cut_of.ensures

pub returns-in-Some-subcommand-clause-none : goal.returns-in-Some-subcommand-clause-none
returns-in-Some-subcommand-clause-none c =
    not_of_found (subcommand_rows_of c.args.matches.now) _ (rows_of (found_of c.in-Some-subcommand.words.now)) c.cut_of.result c.in-Some-subcommand.ensures.some c.cut_of.ensures

pub returns-in-Some-subcommand-2-clause-some : goal.returns-in-Some-subcommand-2-clause-some
returns-in-Some-subcommand-2-clause-some c =
    of_found (subcommand_rows_of c.args.matches.now) _ (rows_of (found_of c.in-Some-subcommand-2.words.now)) c.record_of.result c.in-Some-subcommand-2.ensures.some c.record_of.ensures

pub returns-in-Some-subcommand-2-clause-none : goal.returns-in-Some-subcommand-2-clause-none
returns-in-Some-subcommand-2-clause-none c =
    not_of_found (subcommand_rows_of c.args.matches.now) _ (rows_of (found_of c.in-Some-subcommand-2.words.now)) c.record_of.result c.in-Some-subcommand-2.ensures.some c.record_of.ensures

pub returns-in-Some-subcommand-3-clause-some : goal.returns-in-Some-subcommand-3-clause-some
returns-in-Some-subcommand-3-clause-some c =
    of_found (subcommand_rows_of c.args.matches.now) _ (rows_of (found_of c.in-Some-subcommand-3.words.now)) c.history_of.result c.in-Some-subcommand-3.ensures.some c.history_of.ensures

pub returns-in-Some-subcommand-3-clause-none : goal.returns-in-Some-subcommand-3-clause-none
returns-in-Some-subcommand-3-clause-none c =
    not_of_found (subcommand_rows_of c.args.matches.now) _ (rows_of (found_of c.in-Some-subcommand-3.words.now)) c.history_of.result c.in-Some-subcommand-3.ensures.some c.history_of.ensures

pub returns-in-Some-subcommand-4-clause-some : goal.returns-in-Some-subcommand-4-clause-some
returns-in-Some-subcommand-4-clause-some c =
    of_found (subcommand_rows_of c.args.matches.now) _ (rows_of (found_of c.in-Some-subcommand-4.words.now)) c.picture_of.result c.in-Some-subcommand-4.ensures.some c.picture_of.ensures

pub returns-in-Some-subcommand-4-clause-none : goal.returns-in-Some-subcommand-4-clause-none
returns-in-Some-subcommand-4-clause-none c =
    not_of_found (subcommand_rows_of c.args.matches.now) _ (rows_of (found_of c.in-Some-subcommand-4.words.now)) c.picture_of.result c.in-Some-subcommand-4.ensures.some c.picture_of.ensures
