use Rattle.std.proofs.Common.{List, inl, inr, map, rules, subst, sym, true, ◌≡◌, ◌⊎◌, ◌∙◌}
use Rattle.clap.specs.Words.{App, Text}
use Rattle.clap.specs.Takes.{takes}
use Rattle.command_line.specs.declared.reading.Refusal.{Refusal}
use Rattle.command_line.specs.declared.reading.Refusal.TheVariants.{NoMemory, Usage}
use Rattle.command_line.specs.Asking.{AsksForNothing, Found}
use Rattle.command_line.proofs.reading.read.Goals as goal

-- words that the grammar takes are refused for want of memory alone
not_taken : {Asked : Type 0} (program : App) (is_found : Found → Asked → Type 0) (words : List Text) (why : Refusal) → (takes program words ≡ true → why ≡ NoMemory)
    → (why ≡ NoMemory) ⊎ (why ≡ Usage) → (why ≡ NoMemory) ⊎ ((why ≡ Usage) × AsksForNothing program is_found words)
not_taken program is_found words why memory (inl e) = inl e
not_taken program is_found words why memory (inr e) = inr (e, λ t asked is. let both : ◌≡◌ {A = Refusal} NoMemory Usage = sym (memory t) ∙ e in absurd (cc))

pub returns-clause-fault : goal.returns-clause-fault
returns-clause-fault g c =
    let words : List Text = map g.S.AsStr.text c.args.words.now in
    not_taken g.A.Parser.program g.A.Parser.is_found words c.refusal_for.result (λ t.
    let out = c.in-Err.ensures.passes (subst (λ (a : App). takes a words ≡ true) (sym c.in-Ok.ensures) t) in
    c.refusal_for.ensures.memory (search rules)) c.refusal_for.ensures.either
