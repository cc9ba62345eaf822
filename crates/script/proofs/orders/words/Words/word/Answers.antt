use Rattle.script.proofs.Common.{◌≡◌, ◌∷◌, [], ap, drop, length, slice_get, sym, ◌∙◌, words_of}
use borrow.Author.Tests.{eqb-true}
use Rattle.script.proofs.Parted.{last_word, next_word, no_word, some_from_test}
use Rattle.script.proofs.orders.words.Words.word.Goals as goal

at_end : (c : goal.After-rest-1) → (words_of c.self.inside.rest.now ≡ []) × (words_of c.trim_start_matches-rest.result.now ≡ [])
at_end c = no_word c.self.inside.rest.now c.trim_start_matches-rest.result.now c.trim_start_matches-rest.ensures.matches
    (eqb-true (length c.trim_start_matches-rest.result.now) 0 (sym c.is_empty.ensures ∙ c.if-is_empty.true))

pub returns-then-is_empty-clause-first : goal.returns-then-is_empty-clause-first
returns-then-is_empty-clause-first c = ap (λ words. slice_get words 0) (sym (at_end c).0 ∙ c.self.view_is)

pub returns-then-is_empty-clause-rest : goal.returns-then-is_empty-clause-rest
returns-then-is_empty-clause-rest c = (at_end c).1 ∙ ap (drop 1) (sym (at_end c).0 ∙ c.self.view_is)

before_space : (c : goal.After-word-in-Some-1) → words_of c.self.inside.rest.now ≡ c.in-Some.word.now ∷ words_of c.in-Some.after.now
before_space c = next_word c.self.inside.rest.now c.trim_start_matches-rest.result.now c.in-Some.word.now c.in-Some.after.now
    c.trim_start_matches-rest.ensures.matches (some_from_test c.trim_start_matches-rest.result.now (sym c.is_empty.ensures ∙ c.if-is_empty.false))
    c.in-Some.ensures

pub returns-in-Some-clause-first : goal.returns-in-Some-clause-first
returns-in-Some-clause-first c = ap (λ words. slice_get words 0) (sym (before_space c) ∙ c.self.view_is)

pub returns-in-Some-clause-rest : goal.returns-in-Some-clause-rest
returns-in-Some-clause-rest c = ap (drop 1) (sym (before_space c) ∙ c.self.view_is)

at_last : (c : goal.After-rest-in-None-1) → words_of c.self.inside.rest.now ≡ c.trim_start_matches-rest.result.now ∷ []
at_last c = last_word c.self.inside.rest.now c.trim_start_matches-rest.result.now
    c.trim_start_matches-rest.ensures.matches (some_from_test c.trim_start_matches-rest.result.now (sym c.is_empty.ensures ∙ c.if-is_empty.false))
    c.in-None.ensures

pub returns-in-None-clause-first : goal.returns-in-None-clause-first
returns-in-None-clause-first c = ap (λ words. slice_get words 0) (sym (at_last c) ∙ c.self.view_is)

pub returns-in-None-clause-rest : goal.returns-in-None-clause-rest
returns-in-None-clause-rest c = ap (drop 1) (sym (at_last c) ∙ c.self.view_is)
