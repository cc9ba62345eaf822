-- What a small sector doesn't hold.
use Rattle.std.proofs.Common.{inl, inr, ℕ, List, [], ◌∷◌, ap}
use Rattle.loss.specs.Held.{IsOneOf}
use Rattle.loss.specs.Worked.{old, one, two}

abbrev first : List ℕ → ℕ
first [] = 0
first (x ∷ xs) = x

abbrev last : List ℕ → ℕ
last [] = 0
last (x ∷ xs) = first xs

pub torn : IsOneOf (1 ∷ 9 ∷ []) (one ∷ old ∷ []) → ⊥
torn (inl e) = absurd (cc (ap last e))
torn (inr (inl e)) = absurd (cc (ap first e))
torn (inr (inr never)) = never

pub never_written : IsOneOf two (one ∷ old ∷ []) → ⊥
never_written (inl e) = absurd (cc (ap first e))
never_written (inr (inl e)) = absurd (cc (ap first e))
never_written (inr (inr never)) = never

pub one_alone : IsOneOf old (one ∷ []) → ⊥
one_alone (inl e) = absurd (cc (ap first e))
one_alone (inr never) = never
