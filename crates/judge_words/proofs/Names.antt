-- The names of commands differ.
use Rattle.std.proofs.Common.{◌≡◌, ◌==◌, ap, codes, true, false, Bool, List, [], ◌∷◌, ℕ}

abbrev begins_with_p : List ℕ → Bool
begins_with_p [] = false
begins_with_p (letter ∷ letters) = letter == 112

pub history_is_no_picture : codes "history" ≡ codes "picture" → ⊥
history_is_no_picture same =
    let differ : ◌≡◌ {A = Bool} false true = ap begins_with_p same in
    absurd (cc (differ))
