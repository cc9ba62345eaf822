use Rattle.std.proofs.Common.{◌≡◌, ◌∙◌, ℕ, List, Option, None, Some, IsSomeAnd, codes, refl, subst, sym}
use Rattle.clap.specs.Words.{Row, Text, found_of}
use Rattle.clap.specs.Walk.{first_of, rows_of}
use Rattle.clap.proofs.WalkLemmas.{first_value-rows}
use Rattle.commands.specs.declared.words.asked.Command.{Command}
use Rattle.commands.specs.declared.words.asked.Command.TheVariants.{Trace, Clients}
use Rattle.commands.specs.CommandLine.{HasWords, IsCount, name_of}
use Rattle.commands.proofs.words.clients_of.Goals as goal

pub returns : goal.returns
returns c =
    let found = found_of c.args.words.now in (
      refl,
      (
        sym (c.in-Some.ensures ∙ first_value-rows found (codes "CONFIG")),
        subst (λ t. IsSomeAnd t (λ word. IsCount 32 word c.in-Some-count_of.threads)) (c.get_str-2.ensures ∙ first_value-rows found (codes "THREADS")) c.in-Some-count_of.ensures,
        subst (λ t. IsSomeAnd t (λ word. IsCount 10000 word c.in-Some-count_of-2.rounds)) (c.get_str-3.ensures ∙ first_value-rows found (codes "CALLS")) c.in-Some-count_of-2.ensures,
      ),
    )

no_config : (rows : List Row) (command : Command) → ◌≡◌ {A = Option Text} None (first_of (codes "CONFIG") rows) → HasWords rows command → ⊥
no_config rows (Trace config script) none has =
    let both : ◌≡◌ {A = Option Text} None (Some config.now) = none ∙ has.0 in
    absurd (cc)
no_config rows (Clients config threads rounds) none has =
    let both : ◌≡◌ {A = Option Text} None (Some config.now) = none ∙ has.0 in
    absurd (cc)

-- a word that spells no number in range
no_threads : (rows : List Row) (word : Option Text) (command : Command) → name_of command ≡ codes "clients" → word ≡ first_of (codes "THREADS") rows
    → ((n : ℕ) → ¬ (IsSomeAnd word (λ text. IsCount 32 text n))) → HasWords rows command → ⊥
no_threads rows word (Trace config script) name is none has = absurd (cc (name))
no_threads rows word (Clients config threads rounds) name is none has = none threads (subst (λ t. IsSomeAnd t (λ text. IsCount 32 text threads)) (sym is) has.1)

no_rounds : (rows : List Row) (word : Option Text) (command : Command) → name_of command ≡ codes "clients" → word ≡ first_of (codes "CALLS") rows
    → ((n : ℕ) → ¬ (IsSomeAnd word (λ text. IsCount 10000 text n))) → HasWords rows command → ⊥
no_rounds rows word (Trace config script) name is none has = absurd (cc (name))
no_rounds rows word (Clients config threads rounds) name is none has = none rounds (subst (λ t. IsSomeAnd t (λ text. IsCount 10000 text rounds)) (sym is) has.2)

pub returns-in_default : goal.returns-in_default
returns-in_default c = λ command _ has.
    let found = found_of c.args.words.now in
    no_config (rows_of found) command (c.in_default.ensures ∙ first_value-rows found (codes "CONFIG")) has

pub returns-in_default-count_of : goal.returns-in_default-count_of
returns-in_default-count_of c = λ command name has.
    let found = found_of c.args.words.now in
    no_threads (rows_of found) _ command name (c.get_str-2.ensures ∙ first_value-rows found (codes "THREADS")) c.in_default-count_of.ensures has

pub returns-in_default-count_of-2 : goal.returns-in_default-count_of-2
returns-in_default-count_of-2 c = λ command name has.
    let found = found_of c.args.words.now in
    no_rounds (rows_of found) _ command name (c.get_str-3.ensures ∙ first_value-rows found (codes "CALLS")) c.in_default-count_of-2.ensures has
