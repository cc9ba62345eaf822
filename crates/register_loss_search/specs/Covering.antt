-- Registers that another one makes needless.
use Rattle.std.specs.Prelude.{◌≡◌, ◌⊎◌, ◌≤◌, ℕ, ◌||◌, Bool, true, false, not, List, if◌then◌else◌}
use Rattle.loss.specs.Held.{HeldOf, IsOneOf, OlderOf}
use Rattle.register_loss.specs.declared.Open.{Open}
use Rattle.register_loss.specs.Schedules.{Register, is_sync, is_write}

-- WHAT IS HELD

-- the value stands there, or was overwritten at this moment or later
abbrev pub Stays : ℕ → ℕ → HeldOf ℕ → Type 0
Stays moment v h = IsOneOf v h.now ⊎ ((o : OlderOf ℕ) × IsOneOf o h.older × (o.value ≡ v) × (moment ≤ o.behind))

-- the second may hold whatever the first may, and as long
pub record Wider (h h' : HeldOf ℕ) : Type 0 where
  pub now : (v : ℕ) → IsOneOf v h.now → IsOneOf v h'.now
  pub older : (o : OlderOf ℕ) → IsOneOf o h.older → Stays o.behind o.value h'

-- WHAT WAITS

-- what the one is still to do the other is, too
pub record IsDuty (one other : Open) : Type 0 where
  pub number : other.number ≡ one.number
  pub what : other.what ≡ one.what
  pub failed : one.failed ≡ true → other.failed ≡ true

abbrev pub HasDuty : List Open → Open → Type 0
HasDuty others one = (other : Open) × IsOneOf other others × IsDuty one other

-- an operation that has no turn left
abbrev pub is_idle : Open → Bool
is_idle o = if is_sync o.what then false else (not (is_write o.what) || o.failed)

-- the second has each turn that the first may have
pub record IsTurn (other one : Open) : Type 0 where
  pub number : one.number ≡ other.number
  pub what : one.what ≡ other.what
  pub able : is_sync one.what || not one.failed ≡ true

abbrev pub HasTurn : List Open → Open → Type 0
HasTurn waits other = (is_idle other ≡ true) ⊎ ((one : Open) × IsOneOf one waits × IsTurn other one)

-- the first waits for no more, and has as many turns
pub record Serves (waits others : List Open) : Type 0 where
  pub duties : (one : Open) → IsOneOf one waits → HasDuty others one
  pub turns : (other : Open) → IsOneOf other others → HasTurn waits other

-- whatever may still come of the second register may come of the first
pub record Covers (f g : Register) : Type 0 where
  pub held : Wider g.held f.held
  pub waits : Serves f.waits g.waits

-- LISTS

abbrev pub IsKept : List Register → Register → Type 0
IsKept all g = (f : Register) × IsOneOf f all × Covers f g

-- some of these are left, and what is left covers all
pub record Prunes (old new : List Register) : Type 0 where
  pub among : (f : Register) → IsOneOf f new → IsOneOf f old
  pub kept : (g : Register) → IsOneOf g old → IsKept new g
