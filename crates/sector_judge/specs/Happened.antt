-- What happens to one sector over several sessions.
use Rattle.std.specs.Prelude.{◌≡◌, ℕ, List, [], ◌∷◌}
use Rattle.sector_judge.specs.declared.Event.{Event}
use Rattle.sector_judge.specs.declared.Event.TheVariants.{Put, Secured, Tried, Synced, Doubted, Given, Lost, Ended}
use Rattle.loss.specs.Held.{HeldOf, IsOneOf, Puts, Tries, Syncs, Doubts, changed, left, surely}

-- what the sector holds, each value a number that stands for it; a read gives one of the values, and tells no more
abbrev pub Happens : HeldOf ℕ → Event → HeldOf ℕ → Type 0
Happens h (Put value next) h' = h' ≡ changed next (Puts value) h
Happens h (Secured value) h' = h' ≡ surely value
Happens h (Tried value) h' = h' ≡ changed 0 (Tries value) h
Happens h (Synced flush) h' = h' ≡ changed 0 (Syncs flush) h
Happens h Doubted h' = h' ≡ changed 0 Doubts h
Happens h (Given value) h' = IsOneOf value h.now × (h' ≡ h)
Happens h Lost h' = (value : ℕ) × IsOneOf value (left h) × (h' ≡ surely value)
Happens h Ended h' = (value : ℕ) × IsOneOf value h.now × (h' ≡ surely value)

abbrev pub HappenAll : HeldOf ℕ → List Event → HeldOf ℕ → Type 0
HappenAll h [] h' = h' ≡ h
HappenAll h (event ∷ events) h' = (mid : HeldOf ℕ) × Happens h event mid × HappenAll mid events h'

-- they can have happened to a sector that held some value at first
abbrev pub CanHappen : List Event → Type 0
CanHappen events = (first : ℕ) × (h' : HeldOf ℕ) × HappenAll (surely first) events h'
