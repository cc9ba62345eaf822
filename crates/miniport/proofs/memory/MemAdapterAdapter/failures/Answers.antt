use Rattle.std.proofs.Common.{◌≡◌, ◌≤◌, ◌*◌, ℕ, Bool, arith, subst}
use Rattle.disk.specs.Medium.{MediumView}
use Rattle.miniport.specs.inside.Slots.{Table}
use Rattle.miniport.specs.Memory.{MemView, view_of}
use Rattle.miniport.specs.inside.Memory.{AdapterKept}
use Rattle.miniport.proofs.Serving.{order_seen}
use Rattle.miniport.proofs.memory.MemAdapterAdapter.failures.Goals as goal

pub returns-clause-order : goal.returns-clause-order
returns-clause-order g c = order_seen _ _ _ _ _ c.self.view_is (g.met.M.Medium.whole c.self.inside.medium) c.self.invariant

twice_seen : (m : MediumView) (longest : ℕ) (p : Bool) (t : Table) (v : MemView) → view_of m longest p t ≡ v → AdapterKept m longest t
    → t.failures ≤ 2 * v.shown.accepted
twice_seen m longest p t v e kept = subst (λ (u : MemView). t.failures ≤ 2 * u.shown.accepted) e (omega (arith, kept.failures))

pub returns-clause-twice : goal.returns-clause-twice
returns-clause-twice g c = rw c.failures.ensures
    (twice_seen (g.M.Medium.view c.self.inside.medium) _ _ c.self.inside.table _ c.self.view_is c.self.invariant)
