-- Which spots the queue has places for.
use Rattle.std.specs.Prelude.{◌<◌, ℕ, IsSome}
use Rattle.slab.specs.Slab.{Slab, get}

-- each spot in use has a place in the queue
abbrev pub AreCovered : {X : Type 0} → Slab X → ℕ → Type 0
AreCovered rooms places = (spot : ℕ) → IsSome (get rooms spot) → spot < places
