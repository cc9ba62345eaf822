-- The queries of a client, one after another.
use Rattle.std.proofs.Common.{◌≡◌, ℕ, suc, List, ◌∷◌, Bool, true, false, ◌||◌, Option, None, Some, option_map, refl, sym, ◌∙◌, ap}
use Rattle.std.specs.List.{list_any}
use Rattle.std.specs.Option.{option_and_then}
use Rattle.nbd.specs.Contexts.{text_at, texts_in}

-- whether one of the queries passes, after some that did or didn't
abbrev pub asked_after : Bool → (List ℕ → Bool) → Option (List (List ℕ)) → Option Bool
asked_after found test o = option_map (λ queries. found || list_any test queries) o

pub after_none : (test : List ℕ → Bool) (o : Option (List (List ℕ))) → asked_after false test o ≡ option_map (list_any test) o
after_none test None = refl
after_none test (Some queries) = refl

or_more : (a b c : Bool) → ((a || b) || c) ≡ (a || (b || c))
or_more true b c = refl
or_more false b c = refl

one_more : (test : List ℕ → Bool) (found : Bool) (query : List ℕ) (o : Option (List (List ℕ)))
    → asked_after (found || test query) test o ≡ asked_after found test (option_map (λ queries. query ∷ queries) o)
one_more test found query None = refl
one_more test found query (Some queries) = ap Some (or_more found (test query) (list_any test queries))

texts_by : (n left : ℕ) (rest : List ℕ) → n ≡ suc left
    → texts_in n rest ≡ option_and_then (λ (first : List ℕ × List ℕ). option_map (λ texts. first.0 ∷ texts) (texts_in left first.1)) (text_at rest)
texts_by n left rest e = ap (λ (k : ℕ). texts_in k rest) e

-- a query was taken off
pub asked_more : (test : List ℕ → Bool) (found here : Bool) (n left : ℕ) (rest query behind : List ℕ) (all : Option Bool) → n ≡ suc left → Some (query, behind) ≡ text_at rest → here ≡ test query
    → asked_after found test (texts_in n rest) ≡ all → asked_after (found || here) test (texts_in left behind) ≡ all
asked_more test found here n left rest query behind all e is passes h =
    ap (λ (b : Bool). asked_after (found || b) test (texts_in left behind)) passes
    ∙ one_more test found query (texts_in left behind)
    ∙ ap (λ (o : Option (List ℕ × List ℕ)). asked_after found test (option_and_then (λ (first : List ℕ × List ℕ). option_map (λ texts. first.0 ∷ texts) (texts_in left first.1)) o)) is
    ∙ ap (asked_after found test) (sym (texts_by n left rest e))
    ∙ h

-- none could be taken off
pub asked_none : (test : List ℕ → Bool) (found : Bool) (n left : ℕ) (rest : List ℕ) (all : Option Bool) → n ≡ suc left → None ≡ text_at rest
    → asked_after found test (texts_in n rest) ≡ all → None ≡ all
asked_none test found n left rest all e is h =
    ap (λ (o : Option (List ℕ × List ℕ)). asked_after found test (option_and_then (λ (first : List ℕ × List ℕ). option_map (λ texts. first.0 ∷ texts) (texts_in left first.1)) o)) is
    ∙ ap (asked_after found test) (sym (texts_by n left rest e))
    ∙ h
