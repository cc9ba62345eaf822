-- An input behind more bytes.
use Rattle.std.proofs.Common.{◌≡◌, ℕ, ◌+◌, Bool, true, false, true≢false, List, [], ◌++◌, length, drop, Option, None, Some, refl, sym, ap, ◌∙◌, append_assoc, append-nil, length-append, drop-drop, arith, ◌≤◌, ◌-◌, subst, take, take-take, length-drop, length-take, take_all}
use Rattle.std.proofs.Math.Seq.{drop-append_seam}
use Rattle.std.proofs.Math.ListN.{drop_of_length-le}
use Rattle.std.specs.Prelude.{IfSome}
use Rattle.std.specs.Io.{StartsWith}
use Rattle.std.specs.Io.KnownBytes.{Consumes, IsAtEnd}
use Rattle.nbd.specs.Requests.{IsRequest}
use Rattle.nbd.proofs.Streaming.{takes_more}
use Rattle.read_ahead.specs.Standing.{behind}
use Rattle.read_ahead.specs.inside.Places.{Brings, Stands, is_lost}
use Rattle.read_ahead.specs.declared.place.Place.{Place}
use Rattle.read_ahead.specs.declared.place.Place.TheVariants.{Here, Away, Lost}

rest_of : (n : ℕ) (all bs rest : List ℕ) → drop n all ≡ bs ++ rest → drop (n + length bs) all ≡ rest
rest_of n all bs rest h = sym (drop-drop (length bs) n all) ∙ ap (drop (length bs)) h ∙ drop-append_seam bs rest

here_on : (n : ℕ) (all bs cs : List ℕ) (left : Option (List ℕ)) → Consumes (Some (drop n all)) left (bs ++ cs) → Consumes (Some (drop (n + length bs) all)) left cs
here_on n all bs cs None h = absurd h
here_on n all bs cs (Some ys) h = rest_of n all bs (cs ++ ys) (h ∙ append_assoc bs cs ys)

away_on : (n : ℕ) (all bs cs : List ℕ) → drop n all ≡ (bs ++ cs) ++ drop (n + length (bs ++ cs)) all → drop (n + length bs) all ≡ cs ++ drop (n + length bs + length cs) all
away_on n all bs cs h =
    let far : n + length (bs ++ cs) ≡ n + length bs + length cs = omega (arith, length-append bs cs) in
    rest_of n all bs (cs ++ drop (n + length (bs ++ cs)) all) (h ∙ append_assoc bs cs (drop (n + length (bs ++ cs)) all)) ∙ ap (λ k. cs ++ drop k all) far

-- where some of the fetched bytes are given, the input stands behind them with the others
pub goes_on : {I : Type 0} (left : I → Option (List ℕ)) (given : Option (List ℕ)) (place : Place I) (n : ℕ) (bs cs : List ℕ) → Stands left given place n (bs ++ cs) → Stands left given place (n + length bs) cs
goes_on left given Lost n bs cs h = tt
goes_on left None (Here input) n bs cs h = tt
goes_on left None Away n bs cs h = tt
goes_on left (Some all) (Here input) n bs cs h = here_on n all bs cs (left input) h
goes_on left (Some all) Away n bs cs h = away_on n all bs cs h

front : (n : ℕ) (all bs rest : List ℕ) → drop n all ≡ bs ++ rest → drop n all ≡ bs ++ drop (n + length bs) all
front n all bs rest h = h ∙ ap (λ r. bs ++ r) (sym (rest_of n all bs rest h))

here_gives : (n : ℕ) (all bs cs : List ℕ) (left : Option (List ℕ)) → Consumes (Some (drop n all)) left (bs ++ cs) → drop n all ≡ bs ++ drop (n + length bs) all
here_gives n all bs cs None h = absurd h
here_gives n all bs cs (Some ys) h = front n all bs (cs ++ ys) (h ∙ append_assoc bs cs ys)

-- the first of the fetched bytes are the next ones
pub gives : {I : Type 0} (left : I → Option (List ℕ)) (given : Option (List ℕ)) (place : Place I) (n : ℕ) (bs cs : List ℕ) → is_lost place ≡ false → Stands left given place n (bs ++ cs)
    → Consumes (behind n given) (behind (n + length bs) given) bs
gives left given Lost n bs cs there h = absurd (true≢false there)
gives left None (Here input) n bs cs there h = tt
gives left None Away n bs cs there h = tt
gives left (Some all) (Here input) n bs cs there h = here_gives n all bs cs (left input) h
gives left (Some all) Away n bs cs there h = front n all bs (cs ++ drop (n + length (bs ++ cs)) all) (h ∙ append_assoc bs cs (drop (n + length (bs ++ cs)) all))

-- An input that gives bytes itself stands behind them
read_on : {I : Type 0} (left : I → Option (List ℕ)) (given : Option (List ℕ)) (place : Place I) (old new : I) (n : ℕ) (fetched bs : List ℕ) → place ≡ Here old → fetched ≡ [] → Stands left given place n fetched
    → Consumes (left old) (left new) bs → Stands left given (Here new) n (bs ++ [])
read_on left given place old new n fetched bs here none h k =
    let s : Stands left given (Here old) n [] = subst (λ p. Stands left given p n []) here (subst (λ f. Stands left given place n f) none h) in
    rw (append-nil bs) (takes_more (behind n given) (left old) (left new) [] bs s k)

pub passes_on : {I : Type 0} (left : I → Option (List ℕ)) (given : Option (List ℕ)) (place : Place I) (old new : I) (n at : ℕ) (fetched bs : List ℕ) → place ≡ Here old → fetched ≡ []
    → Stands left given place n fetched → Consumes (left old) (left new) bs → n + length bs ≡ at → Stands left given (Here new) at [] × Consumes (behind n given) (behind at given) bs
passes_on left given place old new n at fetched bs here none h k far =
    let s = read_on left given place old new n fetched bs here none h k in
    (subst (λ m. Stands left given (Here new) m []) far (goes_on left given (Here new) n bs [] s), subst (λ m. Consumes (behind n given) (behind m given) bs) far (gives left given (Here new) n bs [] refl s))

at_end : (given left : Option (List ℕ)) → Consumes given left [] → IsAtEnd left → IsAtEnd given
at_end None left h e = tt
at_end (Some xs) None h e = absurd h
at_end (Some xs) (Some ys) h e = h ∙ e

pub ends_here : {I : Type 0} (left : I → Option (List ℕ)) (given : Option (List ℕ)) (input : I) (n : ℕ) → Stands left given (Here input) n [] → IsAtEnd (left input) → IsAtEnd (behind n given)
ends_here left given input n h e = at_end (behind n given) (left input) h e

-- Bytes that were fetched before are given
pub passes_fetched : {I : Type 0} (left : I → Option (List ℕ)) (given : Option (List ℕ)) (place : Place I) (n at : ℕ) (fetched bs rest : List ℕ) → is_lost place ≡ false → Stands left given place n fetched
    → fetched ≡ bs ++ rest → n + length bs ≡ at → Stands left given place at (drop (length bs) fetched) × Consumes (behind n given) (behind at given) bs
passes_fetched left given place n at fetched bs rest there h is far =
    let s : Stands left given place n (bs ++ rest) = subst (λ f. Stands left given place n f) is h in
    let others : rest ≡ drop (length bs) fetched = sym (ap (drop (length bs)) is ∙ drop-append_seam bs rest) in (
      subst (λ m. Stands left given place m (drop (length bs) fetched)) far (subst (λ r. Stands left given place (n + length bs) r) others (goes_on left given place n bs rest s)),
      subst (λ m. Consumes (behind n given) (behind m given) bs) far (gives left given place n bs rest there s),
    )

pub none_left : (k : ℕ) (xs : List ℕ) → length xs ≤ k → drop k xs ≡ []
none_left k xs h = drop_of_length-le xs h

-- All bytes that were fetched before are given
pub passes_whole : {I : Type 0} (left : I → Option (List ℕ)) (given : Option (List ℕ)) (place : Place I) (n at : ℕ) (fetched : List ℕ) → is_lost place ≡ false → Stands left given place n fetched → n + length fetched ≡ at
    → Stands left given place at [] × Consumes (behind n given) (behind at given) fetched
passes_whole left given place n at fetched there h far =
    let p = passes_fetched left given place n at fetched fetched [] there h (sym (append-nil fetched)) far in
    (subst (λ f. Stands left given place at f) (none_left (length fetched) fetched (omega arith)) p.0, p.1)

-- A part that goes to the end is all the rest
pub whole_rest : (xs ys : List ℕ) (k : ℕ) → xs ≡ ys → drop k ys ≡ take (length xs - k) (drop k xs)
whole_rest xs ys k same = ap (drop k) (sym same) ∙ sym (take_all (length xs - k) (drop k xs) (omega (arith, length-drop k xs)))

-- what the bytes that are there begin with, all bytes that come begin with
pub brings_all : (known : Option (List ℕ)) (ahead : List ℕ) (count : ℕ) → IfSome known (λ xs. StartsWith xs ahead) → Brings ahead count → IfSome known (λ xs. Brings xs count)
brings_all None ahead count next b = tt
brings_all (Some xs) ahead count next b =
    let there : 28 ≤ length ahead = omega (arith, b.is_request.long, length-take 28 ahead) in
    let same : take 28 ahead ≡ take 28 xs = sym (ap (λ (l : List ℕ). take 28 l) next) ∙ take-take 28 (length ahead) xs there in
    record { request = b.request; is_request = subst (λ (l : List ℕ). IsRequest l b.request) same b.is_request; as_many = b.as_many }
