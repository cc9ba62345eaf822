-- Steps of loops, over plain lists.
use Rattle.std.proofs.Common.{◌≡◌, ◌<◌, ℕ, suc, ◌+◌, ◌-◌, List, [], ◌∷◌, ◌++◌, refl, sym, ◌∙◌, ap, arith, length, take, drop, min, append_assoc}
use Rattle.std.proofs.lemmas.List.{take_min, drop_min}
use Rattle.judge.specs.Deciding.{chunked}

-- one sector more is cut off
pub chunk_more : (done all : List (List ℕ)) (count k size n : ℕ) (rest : List ℕ) → k < count → n ≡ min (length rest) size → done ++ chunked (count - k) size rest ≡ all
    → (done ++ take n rest ∷ []) ++ chunked (count - (k + 1)) size (drop n rest) ≡ all
chunk_more done all count k size n rest low e h =
    let left : count - k ≡ suc (count - (k + 1)) = omega arith in
    let least : n ≡ min size (length rest) = omega arith in
    let front : take n rest ≡ take size rest = ap (λ m. take m rest) least ∙ take_min size rest in
    let back : drop n rest ≡ drop size rest = ap (λ m. drop m rest) least ∙ drop_min size rest in
    append_assoc done (take n rest ∷ []) _
    ∙ rw (front, back) refl
    ∙ sym (ap (λ m. done ++ chunked m size rest) left)
    ∙ h

pub chunk_pushed : (size k count n : ℕ) (done pushed all : List (List ℕ)) (rest behind first : List ℕ) → k < count → n ≡ min (length rest) size → first ≡ take n rest → behind ≡ drop n rest
    → pushed ≡ done ++ first ∷ [] → done ++ chunked (count - k) size rest ≡ all → pushed ++ chunked (count - (k + 1)) size behind ≡ all
chunk_pushed size k count n done pushed all rest behind first low e front back is h = rw (is, front, back) (chunk_more done all count k size n rest low e h)
