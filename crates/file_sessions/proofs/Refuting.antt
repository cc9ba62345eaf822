-- What a file never holds, by hand.
use Rattle.std.proofs.Common.{◌≡◌, inl, inr, ℕ, List, [], ◌∷◌, Ok, arith}
use Rattle.file_disk.specs.Calls.{ReadAt, WriteAt}
use Rattle.loss.specs.Held.{IsOneOf, left}
use Rattle.file_sessions.specs.Stored.{KeepsTo, Survives}
use Rattle.file_sessions.specs.Worked.{all, behind, old, one, sync, write}

pub torn : IsOneOf (1 ∷ 9 ∷ []) (left (behind 4 (write ∷ []))) → ⊥
torn (inl e) = let second : ◌≡◌ {A = List ℕ} (9 ∷ []) (1 ∷ []) = cc (e) in let nine : ◌≡◌ {A = ℕ} 9 1 = cc (second) in absurd (omega (arith, nine))
torn (inr (inl e)) = let first : ◌≡◌ {A = ℕ} 1 9 = cc (e) in absurd (omega (arith, first))
torn (inr (inr never)) = never

old_is_not_one : IsOneOf old (one ∷ []) → ⊥
old_is_not_one (inl e) = let first : ◌≡◌ {A = ℕ} 9 1 = cc (e) in absurd (omega (arith, first))
old_is_not_one (inr never) = never

pub synced_gone : Survives 2 8 (all old) (sync ∷ write ∷ []) (all old) → ⊥
synced_gone survives = old_is_not_one (survives 4 (omega arith))

pub read_old : KeepsTo 2 (all old) (write ∷ []) (ReadAt 8 2 (Ok old)) → ⊥
read_old given = old_is_not_one (given.each 0 (omega arith))

pub half : KeepsTo 2 (all old) [] (WriteAt 8 (1 ∷ 1 ∷ 2 ∷ 2 ∷ []) (Ok 3)) → ⊥
half e = let it : ◌≡◌ {A = ℕ} 1 0 = e in absurd (omega (arith, it))
