-- What the judge tests of registers, and adds of them.
use Rattle.std.specs.Prelude.{◌≡◌, ◌⊎◌, ◌≤◌, List, [], ◌∷◌, ◌++◌}
use Rattle.loss.specs.Held.{IsOneOf}
use Rattle.register_loss.specs.Schedules.{Register}
use Rattle.register_loss_search.specs.Covering.{IsKept}
use Rattle.register_loss_judge.specs.declared.values.Older.{Older}
use Rattle.register_loss_judge.specs.declared.values.Values.{Values}

-- the same value, overwritten no earlier
abbrev pub Lasts : Older → Older → Type 0
Lasts one other = (other.value ≡ one.value) × (one.behind ≤ other.behind)

abbrev pub StaysAs : Older → List Older → Type 0
StaysAs one others = (other : Older) × IsOneOf other others × Lasts one other

abbrev pub Lives : Older → Values → Type 0
Lives one values = IsOneOf one.value values.current.items ⊎ StaysAs one values.older.items

abbrev pub Inserts : List Register → Register → List Register → Type 0
Inserts old g new = ((new ≡ old) × IsKept old g) ⊎ (new ≡ old ++ g ∷ [])

-- some of the others came behind, and what is there covers all of them
pub record InsertsAll (old others new : List Register) : Type 0 where
  pub more : List Register
  pub is : new ≡ old ++ more
  pub among : (f : Register) → IsOneOf f more → IsOneOf f others
  pub kept : (g : Register) → IsOneOf g others → IsKept new g
