-- The rule of the gate's word, and what its steps do.
use Rattle.std.specs.Prelude.{◌≡◌, ℕ, ◌+◌, ◌-◌, true, false}
use Rattle.atomic_table.specs.Table.{State, Me, Step}
use Rattle.remove_lock.specs.declared.rule.View.{View}
use Rattle.remove_lock.specs.Gate.{GateKept, IsOpen, IsClosed, with_hold, without_hold, shut, looked}

-- the rule, of all that a gate is made of
abbrev pub Kept : State (Unit {0}) View → Type 0
Kept s = GateKept s.words s.views

-- the pass found the gate closed, and has a refused hold to take back
abbrev pub turned_away : View → ℕ → View
turned_away v n = record v { backing = v.backing + 1; saw_closed = true; found = n; steps = v.steps + 1 }

-- the pass has taken a refused hold back
abbrev pub backed_out : View → View
backed_out v = record v { backing = v.backing - 1; steps = v.steps + 1 }

abbrev Sat : Type 0
Sat = Me (Unit {0}) View

-- A hold was added where the word was n: at an open gate the pass has it, at a closed one it has to take it back
abbrev pub Entered : ℕ → View → View → Type 0
Entered n before after =
    (IsOpen n → (after ≡ with_hold before n) × (before.saw_closed ≡ false))
    × (IsClosed n → after ≡ turned_away before n)

-- What each of the five kinds of step tells the pass, where the word was n
abbrev pub Enters : Step (Unit {0}) → Sat → ℕ → Sat → Type 0
Enters s me n after = (after.1 ≡ me.1) × Entered n me.0 after.0

abbrev pub BacksOut : Step (Unit {0}) → Sat → ℕ → Sat → Type 0
BacksOut s me n after = after ≡ (backed_out me.0, me.1)

abbrev pub Leaves : Step (Unit {0}) → Sat → ℕ → Sat → Type 0
Leaves s me n after = after ≡ (without_hold me.0 n, me.1)

abbrev pub Shuts : Step (Unit {0}) → Sat → ℕ → Sat → Type 0
Shuts s me n after = after ≡ (shut me.0 n, me.1)

abbrev pub Looks : Step (Unit {0}) → Sat → ℕ → Sat → Type 0
Looks s me n after = (after ≡ (looked me.0 n, me.1)) × (n ≡ 1 → me.0.holds ≡ 0)

-- a part of a quota is cut off
abbrev pub rest_of : ℕ → View → View
rest_of amount v = record v { quota = v.quota - amount }
