-- What a medium shows that refuses to reserve, this many times.
use Rattle.std.specs.Prelude.{ℕ, zero, suc, List, []}
use Rattle.sector.specs.declared.Extent.{Extent}
use Rattle.disk.specs.Medium.{MediumView}

-- the medium reserves nothing as long as it refuses, and then all sectors at once
abbrev pub granted : ℕ → List Extent → List Extent
granted zero reserved = reserved
granted (suc more) reserved = []

abbrev pub reluctant : ℕ → MediumView → MediumView
reluctant refusals view = record view { reserved = granted refusals view.reserved; run = 0 }
