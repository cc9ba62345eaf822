-- Deeds that are added one by one.
use Rattle.std.proofs.Common.{◌≡◌, ◌<◌, ℕ, suc, ◌+◌, List, [], ◌∷◌, ◌++◌, Option, Some, None, sym, refl, ◌∙◌, ap, arith, length, get_or, take}
use Rattle.std.specs.Prelude.{unwrap_or}
use Rattle.std.proofs.Math.Seq.{take-suc}
use Rattle.machine.specs.Rules.{Rules}
use Rattle.machine.specs.State.{Piece, State}
use Rattle.session_judge.specs.declared.deeds.Deed.{Deed}
use Rattle.session_judge.specs.declared.deeds.Work.{Work}
use Rattle.session_judge.specs.Deeds.{below, cut_deeds, cut_each, fault_deeds, fresh_work, of_work}

pub joined : {A : Type 0} → (xs ys zs : List A) → (xs ++ ys) ++ zs ≡ xs ++ (ys ++ zs)
joined [] ys zs = refl
joined (x ∷ xs) ys zs = ap (λ all. x ∷ all) (joined xs ys zs)

pub no_more : {A : Type 0} → (xs : List A) → xs ++ [] ≡ xs
no_more [] = refl
no_more (x ∷ xs) = ap (λ all. x ∷ all) (no_more xs)

pub found : (f : Option ℕ) (place count : ℕ) → Some place ≡ f → place ≡ unwrap_or f count
found f place count is = ap (λ (o : Option ℕ). unwrap_or o count) is

pub unfound : (f : Option ℕ) (count : ℕ) → None ≡ f → count ≡ unwrap_or f count
unfound f count is = ap (λ (o : Option ℕ). unwrap_or o count) is

pub sectors_more : (make : ℕ → Deed) (k : ℕ) (deed : Deed) (first now new : List Deed) → now ≡ first ++ below make k → deed ≡ make k → new ≡ now ++ deed ∷ [] → new ≡ first ++ below make (k + 1)
sectors_more make k deed first now new so_far is added =
    let e : k + 1 ≡ suc k = omega arith in
    added ∙ ap (λ all. all ++ deed ∷ []) so_far ∙ joined first (below make k) (deed ∷ []) ∙ ap (λ d. first ++ (below make k ++ d ∷ [])) is ∙ ap (λ n. first ++ below make n) (sym e)

cut_joined : (rules : Rules) (s : State) (xs ys : List Piece) → cut_each rules s (xs ++ ys) ≡ cut_each rules s xs ++ cut_each rules s ys
cut_joined rules s [] ys = refl
cut_joined rules s (x ∷ xs) ys = ap (λ all. cut_deeds rules s x ++ all) (cut_joined rules s xs ys) ∙ sym (joined (cut_deeds rules s x) (cut_each rules s xs) (cut_each rules s ys))

pub cut_more : (rules : Rules) (s : State) (pieces : List Piece) (index : ℕ) (d : Piece) (now new : List Deed) → index < length pieces → now ≡ cut_each rules s (take index pieces)
    → new ≡ now ++ cut_deeds rules s (get_or pieces index d) → new ≡ cut_each rules s (take (index + 1) pieces)
cut_more rules s pieces index d now new low so_far added =
    let e : index + 1 ≡ suc index = omega arith in
    let more : take (index + 1) pieces ≡ take index pieces ++ get_or pieces index d ∷ [] = ap (λ (n : ℕ). take n pieces) e ∙ take-suc pieces index d low in
    added ∙ ap (λ all. all ++ cut_deeds rules s (get_or pieces index d)) so_far
    ∙ ap (λ all. cut_each rules s (take index pieces) ++ all) (sym (no_more (cut_deeds rules s (get_or pieces index d))))
    ∙ sym (cut_joined rules s (take index pieces) (get_or pieces index d ∷ [])) ∙ ap (λ all. cut_each rules s all) (sym more)

pub cut_by : (rules : Rules) (s : State) (pieces : List Piece) (index : ℕ) (piece : Piece) (work : Option Work) (now new : List Deed) → index < length pieces → piece ≡ get_or pieces index piece
    → work ≡ fresh_work rules s piece → now ≡ cut_each rules s (take index pieces) → new ≡ now ++ of_work fault_deeds work → new ≡ cut_each rules s (take (index + 1) pieces)
cut_by rules s pieces index piece work now new low item is so_far added =
    cut_more rules s pieces index piece now new low so_far
    (added ∙ ap (λ (w : Option Work). now ++ of_work fault_deeds w) is ∙ ap (λ (p : Piece). now ++ cut_deeds rules s p) item)
