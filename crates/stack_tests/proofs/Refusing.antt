-- A medium that refuses to reserve what isn't reserved.
use Rattle.std.proofs.Common.{◌≡◌, ℕ, zero, suc, Result, Ok, Err, OnOk, ap, arith}
use Rattle.sector.specs.declared.Extent.{Extent}
use Rattle.disk.specs.Medium.{MediumView, IsReserved, Reserves}
use Rattle.stack_tests.specs.Reluctance.{reluctant}

-- what the medium below reserves, once it refuses no more
pub inner_reserves : (refusals : ℕ) (view view' : MediumView) → refusals ≡ 0 → Reserves view view' → Reserves (reluctant refusals view) (reluctant refusals view')
inner_reserves refusals view view' none h = rw none (record {
  lasts = h.lasts;
  after = ap (λ (v : MediumView). record v { reserved = view'.reserved; run = 0 }) h.after;
})

-- what is shown as reserved is reserved below
pub reserved_below : (refusals : ℕ) (view : MediumView) (extent : Extent) → IsReserved (reluctant refusals view) extent → IsReserved view extent
reserved_below zero view extent h sector inside = h sector inside
reserved_below (suc n) view extent h sector inside = let found = h sector inside in absurd (let low = found.1.1 in omega arith)

-- and shown, once it refuses no more
pub shown_reserved : {A B : Type 0} (result : Result A B) (refusals : ℕ) (view : MediumView) (extent : Extent) → refusals ≡ 0 → OnOk result (IsReserved view extent)
    → OnOk result (IsReserved (reluctant refusals view) extent)
shown_reserved (Ok x) zero view extent none h = h
shown_reserved (Ok x) (suc n) view extent none h = absurd (omega arith)
shown_reserved (Err e) refusals view extent none h = h
