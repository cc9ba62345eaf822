use Rattle.std.proofs.Common.{◌≡◌, ℕ, ◌<◌, ◌≤◌, sym, ◌∙◌, arith, rules}
use Rattle.traced.proofs.Looking.{looked_on}
use Rattle.traced.proofs.traced.look_all.Goals as goal

pub returns-then-slot-end-clause-looked : goal.returns-then-slot-end-clause-looked
returns-then-slot-end-clause-looked g c =
    let inside : c.loop-slot.slot < c.len-slot-end.result = search rules in
    let count : c.len-slot-end.result ≡ g.N.TraceNaming.slots = c.len-slot-end.ensures.count in
    let few : c.loop-slot.slot ≤ g.N.TraceNaming.slots = omega arith in
    let reached : c.end.result ≤ c.loop-slot.slot = search rules in
    looked_on _ _ g.N.TraceNaming.slots c.loop-slot.slot few (λ k behind.
    let above : c.end.result ≤ k = omega arith in
    sym (c.loop-slot.invariant.sound.numbers k) ∙ c.end.ensures.empty k above)
    c.loop-slot.invariant.looked
