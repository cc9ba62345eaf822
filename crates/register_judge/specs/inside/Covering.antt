-- Forms that another one makes needless.
use Rattle.std.specs.Prelude.{◌≡◌, ◌⊎◌, ◌==◌, ◌&&◌, ◌||◌, Bool, true, false, not, List, All, Contains}
use Rattle.std.specs.List.{list_any}
use Rattle.register_judge.specs.declared.states.Waiting.{Waiting}
use Rattle.register_judge.specs.inside.States.{Form, is_number}

-- the same operation, which is old, or was not
abbrev pub is_later : Waiting → Waiting → Bool
is_later o x = (x.number == o.number) && (o.is_old || not x.is_old)

-- an operation may wait in a form that covers one with these: an old write, or what waits there
abbrev pub may_wait : List Waiting → Waiting → Bool
may_wait xs o = (o.writes && o.is_old) || list_any (is_later o) xs

-- a write waits among these, too
abbrev pub is_there : List Waiting → Waiting → Bool
is_there os x = not x.writes || list_any (is_number x.number) os

-- the first form may have each value that the second may
abbrev pub MayHave : Form → Form → Type 0
MayHave f g = (f.any ≡ true) ⊎ ((g.any ≡ false) × (f.value ≡ g.value))

-- whatever may still come of the second form may come of the first
pub record Covers (f g : Form) : Type 0 where
  pub value : MayHave f g
  pub wait : All (λ o. may_wait g.waits o ≡ true) f.waits
  pub there : All (λ x. is_there f.waits x ≡ true) g.waits

abbrev pub IsCovered : List Form → Form → Type 0
IsCovered forms g = (f : Form) × Contains forms f × Covers f g

-- some of the forms are left, and those cover all
pub record Prunes (old new : List Form) : Type 0 where
  pub among : (f : Form) → Contains new f → Contains old f
  pub covered : (g : Form) → Contains old g → IsCovered new g
