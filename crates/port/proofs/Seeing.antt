-- What contracts see of a port, from what its queues do.
use Rattle.std.proofs.Common.{◌≡◌, ℕ, ◌+◌, ap, arith}
use Rattle.linked.specs.Queue.{VisitsAtMost}
use Rattle.port.specs.Over.{PortView}

-- who shows the same as a port shows the same as a layer
pub shown_is : {x y : PortView} → x ≡ y → x.shown ≡ y.shown
shown_is e = ap (λ (p : PortView). p.shown) e

-- and counts as many visits
pub visits_are : {x y : PortView} → x ≡ y → x.visits ≡ y.visits
visits_are e = ap (λ (p : PortView). p.visits) e

-- and as many walks
pub walks_are : {x y : PortView} → x ≡ y → x.walks ≡ y.walks
walks_are e = ap (λ (p : PortView). p.walks) e

pub unwalked : (old new : ℕ) → new ≡ old → VisitsAtMost 1 old new
unwalked old new e = record { counted = omega (arith, e); few = omega (arith, e) }

pub walked_once : (old new : ℕ) → new ≡ old + 1 → VisitsAtMost 1 old new
walked_once old new e = record { counted = omega (arith, e); few = omega (arith, e) }
