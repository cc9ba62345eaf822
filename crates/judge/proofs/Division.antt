-- Division by nothing.
use Rattle.std.proofs.Common.{◌≡◌, ◌/◌, ◌%◌, ℕ}
use Rattle.std.proofs.Math.Nat.{div-zero, mod-zero}

pub by_nothing : (n d : ℕ) → d ≡ 0 → n / d ≡ 0
by_nothing n d e = rw e (div-zero n)

pub rest_by_nothing : (n d : ℕ) → d ≡ 0 → n % d ≡ n
rest_by_nothing n d e = rw e (mod-zero n)
