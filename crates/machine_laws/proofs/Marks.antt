-- Places that are all done.
use Rattle.machine_laws.proofs.Common.{◌≡◌, ◌<◌, ℕ, zero, suc, ◌+◌, true, List, [], ◌∷◌, Some, refl, ap, subst, arith, map, length, take, drop, get_or, slice_get, list_all, Mark, Untouched, Out, Done, Failed, Back, is_done, bytes_of_mark, AllAt}
use Rattle.machine_laws.proofs.Chunks.{drop_is}
use Rattle.machine_laws.proofs.Serving.{IsRightMark}

done_at : (marks : List Mark) (k : ℕ) (d : Mark) → list_all is_done marks ≡ true → k < length marks → is_done (get_or marks k d) ≡ true
done_at [] k d done low = absurd (omega arith)
done_at (Done sector ∷ marks) zero d done low = refl
done_at (Done sector ∷ marks) (suc k) d done low = done_at marks k d done (fewer low)
  where
    fewer : suc k < length (Done sector ∷ marks) → k < length marks
    fewer h = omega arith
done_at (Untouched ∷ marks) k d done low = cc (done)
done_at (Out ∷ marks) k d done low = cc (done)
done_at (Failed status ∷ marks) k d done low = cc (done)
done_at (Back ∷ marks) k d done low = cc (done)

right_done : (Right : ℕ → List ℕ → Type 0) (k : ℕ) (m : Mark) → is_done m ≡ true → IsRightMark Right k m → Right k (bytes_of_mark m)
right_done Right k (Done sector) done h = h
right_done Right k Untouched done h = cc (done)
right_done Right k Out done h = cc (done)
right_done Right k (Failed status) done h = cc (done)
right_done Right k Back done h = cc (done)

-- what is right of each place
pub all_right : (Right : ℕ → List ℕ → Type 0) (marks : List Mark) (k : ℕ) (d : Mark) → list_all is_done marks ≡ true → AllAt (IsRightMark Right) marks → k < length marks → Right k (bytes_of_mark (get_or marks k d))
all_right Right marks k d done right low = right_done Right k (get_or marks k d) (done_at marks k d done low) (right k d low)

-- marks whose sectors stand in a row
pub marks_in_row : (marks : List Mark) (array : List (List ℕ)) (from : ℕ) → ((k : ℕ) (d : Mark) → k < length marks → slice_get array (from + k) ≡ Some (bytes_of_mark (get_or marks k d)))
    → map bytes_of_mark marks ≡ take (length marks) (drop from array)
marks_in_row [] array from there = refl
marks_in_row (m ∷ marks) array from there =
    let first : slice_get array from ≡ Some (bytes_of_mark m) = subst (λ i. slice_get array i ≡ Some (bytes_of_mark m)) (plus_none from) (there 0 m (some m marks)) in
    let e : drop from array ≡ bytes_of_mark m ∷ drop (suc from) array = drop_is from array (bytes_of_mark m) first in
    let rest : map bytes_of_mark marks ≡ take (length marks) (drop (suc from) array) = marks_in_row marks array (suc from) (λ k d low. next k d (there (suc k) d (more low))) in
    rw e (ap (λ ys. bytes_of_mark m ∷ ys) rest)
  where
    plus_none : (i : ℕ) → i + 0 ≡ i
    plus_none i = omega arith

    some : (x : Mark) (xs : List Mark) → 0 < length (x ∷ xs)
    some x xs = omega arith

    more : {k n : ℕ} → k < n → suc k < suc n
    more h = omega arith

    next : (k : ℕ) (d : Mark) → slice_get array (from + suc k) ≡ Some (bytes_of_mark (get_or marks k d)) → slice_get array (suc from + k) ≡ Some (bytes_of_mark (get_or marks k d))
    next k d h = let n : suc from + k ≡ from + suc k = omega arith in rw n h
