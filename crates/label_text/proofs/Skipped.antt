-- Equal bytes at the front, and the rest behind them.
use Rattle.std.proofs.Common.{◌≡◌, ◌≢◌, ℕ, ◌+◌, ◌-◌, ◌<◌, List, ◌++◌, All, length, take, drop, get_or, arith, ap, subst, sym, ◌∙◌}
use Rattle.std.proofs.Math.Seq.{take-append-add}
use Rattle.std.proofs.lemmas.List.{append_assoc, get_or-append-add, length-append, take-append-drop}
use Rattle.std.proofs.lemmas.List.Elements.{All-append}

-- the bytes before the rest are all this one
pub record IsSkipped (byte : ℕ) (bytes rest : List ℕ) : Type 0 where
  pub front : List ℕ
  pub split : bytes ≡ front ++ rest
  pub equal : All (λ b. b ≡ byte) front

-- a block more
pub block_skipped : (byte n : ℕ) (bytes rest block behind : List ℕ) → IsSkipped byte bytes rest → block ≡ take n rest → behind ≡ drop n rest
    → All (λ b. b ≡ byte) block → IsSkipped byte bytes behind
block_skipped byte n bytes rest block behind h first after equal =
    let parts : block ++ behind ≡ rest = ap (λ (xs : List ℕ). xs ++ behind) first ∙ (ap (λ (xs : List ℕ). take n rest ++ xs) after ∙ take-append-drop n rest) in
    record {
      front = h.front ++ block;
      split = h.split ∙ (ap (λ (xs : List ℕ). h.front ++ xs) (sym parts) ∙ sym (append_assoc h.front block behind));
      equal = All-append (λ b. b ≡ byte) h.front block h.equal equal;
    }

front_length : (byte : ℕ) (bytes rest : List ℕ) (h : IsSkipped byte bytes rest) → length bytes - length rest ≡ length h.front
front_length byte bytes rest h =
    let sum : length bytes ≡ length h.front + length rest = ap (λ (xs : List ℕ). length xs) h.split ∙ length-append h.front rest in
    omega arith

-- equal bytes at the start of the rest
pub equal_more : (byte n : ℕ) (bytes rest : List ℕ) → IsSkipped byte bytes rest → All (λ b. b ≡ byte) (take n rest)
    → All (λ b. b ≡ byte) (take (length bytes - length rest + n) bytes)
equal_more byte n bytes rest h equal =
    subst (λ (k : ℕ). All (λ b. b ≡ byte) (take (k + n) bytes)) (sym (front_length byte bytes rest h))
    (subst (λ (xs : List ℕ). All (λ b. b ≡ byte) (take (length h.front + n) xs)) (sym h.split)
    (subst (All (λ b. b ≡ byte)) (sym (take-append-add h.front rest n)) (All-append (λ b. b ≡ byte) h.front (take n rest) h.equal equal)))

-- another byte behind them
pub other_behind : (byte n : ℕ) (bytes rest : List ℕ) → IsSkipped byte bytes rest → (n < length rest → get_or rest n 0 ≢ byte)
    → length bytes - length rest + n < length bytes → get_or bytes (length bytes - length rest + n) 0 ≢ byte
other_behind byte n bytes rest h other within =
    let place : length bytes - length rest ≡ length h.front = front_length byte bytes rest h in
    let sum : length bytes ≡ length h.front + length rest = ap (λ (xs : List ℕ). length xs) h.split ∙ length-append h.front rest in
    let found : get_or bytes (length bytes - length rest + n) 0 ≡ get_or rest n 0 =
    ap (λ (k : ℕ). get_or bytes (k + n) 0) place ∙ (ap (λ (xs : List ℕ). get_or xs (length h.front + n) 0) h.split ∙ get_or-append-add h.front rest n 0) in
    λ same. other (omega arith) (sym found ∙ same)
