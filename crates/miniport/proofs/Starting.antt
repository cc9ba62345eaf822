-- An adapter in memory keeps all that it keeps from the first.
use Rattle.std.proofs.Common.{◌≡◌, ◌≤◌, ◌^◌, ◌⊎◌, ℕ, zero, suc, true, [], length, replicate, sum_by, Option, None, refl, sym, subst, arith}
use Rattle.std.proofs.lemmas.List.{length-replicate}
use Rattle.std.proofs.lemmas.List.Sums.{sum_by-cons}
use Rattle.disk.specs.Medium.{MediumView}
use Rattle.miniport.specs.declared.on_tag.OnTag.{OnTag}
use Rattle.miniport.specs.inside.Slots.{Table, piece_at}
use Rattle.miniport.specs.inside.Memory.{AdapterKept, failures_left}

none_there : (n tag : ℕ) → piece_at (replicate n None) tag ≡ None
none_there zero zero = refl
none_there zero (suc tag) = refl
none_there (suc n) zero = refl
none_there (suc n) (suc tag) = none_there n tag

none_left : (n : ℕ) → sum_by failures_left (replicate n None) ≡ 0
none_left zero = refl
none_left (suc n) = omega (arith, sum_by-cons failures_left None (replicate n None), none_left n)

abbrev bare : ℕ → Table
bare n = record { slots = replicate n None; accepted = 0; failures = 0; labels = []; keeps_bytes = true }

pub new_kept : (m : MediumView) (longest n : ℕ) (t : Table) → t ≡ bare n → (m.sector_size ≡ 512) ⊎ (m.sector_size ≡ 4096) → 1 ≤ length m.sectors → length m.sectors ≤ 2 ^ 40
    → 1 ≤ longest → longest ≤ 2 ^ 16 → 1 ≤ n → n ≤ 32 → m.failures ≡ 0 → AdapterKept m longest t
new_kept m longest n t is size some few transfer short deep shallow unfailed =
    let many : length (replicate {A = Option OnTag} n None) ≡ n = length-replicate {A = Option OnTag} n None in
    subst (λ (s : Table). AdapterKept m longest s) (sym is) (record {
      sector_size = size;
      sectors = (some, few);
      max_transfer = (transfer, short);
      depth = (omega (arith, many, deep), omega (arith, many, shallow));
      pieces = λ tag on there. let none : piece_at (replicate n None) tag ≡ None = none_there n tag in absurd (cc (there, none));
      accepted = omega arith;
      failures = omega (arith, none_left n);
      medium_failures = omega (arith, unfailed);
      labels = omega arith;
    })
