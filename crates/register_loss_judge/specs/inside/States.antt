-- What the judge keeps of a register, and what sights and turns make of it.
use Rattle.std.specs.Prelude.{ℕ, Bool, nat_lt, List, [], ◌∷◌, ◌++◌, Option, Some, None, map}
use Rattle.loss.specs.Held.{ChangeOf, HeldOf, OlderOf, changed}
use Rattle.register_loss.specs.declared.Open.{Open}
use Rattle.register_loss.specs.declared.Turn.{Turn}
use Rattle.register_loss.specs.declared.Turn.TheVariants.{Acts, Fails}
use Rattle.register_loss.specs.Schedules.{Register, change_of, left_by, settled}
use Rattle.register_loss_judge.specs.declared.values.Older.{Older}
use Rattle.register_loss_judge.specs.declared.values.Values.{Values}
use Rattle.register_loss_judge.specs.declared.states.State.{State}

-- WHAT IS HELD

abbrev pub outdated : ℕ → ℕ → Older
outdated next value = record { value = value; behind = next }

abbrev pub older_value : Older → ℕ
older_value o = o.value

abbrev pub stays : ℕ → Older → Bool
stays flush o = nat_lt flush o.behind

abbrev pub older_of : Older → OlderOf ℕ
older_of o = record { value = o.value; behind = o.behind }

abbrev pub holding : List ℕ → List Older → HeldOf ℕ
holding now older = record { now = now; older = map older_of older }

abbrev pub held_of : Values → HeldOf ℕ
held_of values = holding values.current.items values.older.items

abbrev pub held_if : Option Values → Option (HeldOf ℕ)
held_if None = None
held_if (Some values) = Some (held_of values)

abbrev pub changed_if : ℕ → Option (ChangeOf ℕ) → HeldOf ℕ → Option (HeldOf ℕ)
changed_if next None h = None
changed_if next (Some change) h = Some (changed next change h)

-- STATES

abbrev pub form : State → Register
form s = record { next = s.next; held = held_of s.values; waits = s.waits.items }

abbrev pub forms : List State → List Register
forms states = map form states

abbrev pub form_if : Option State → Option Register
form_if None = None
form_if (Some s) = Some (form s)

abbrev pub with_some : {X : Type 0} → List X → Option X → List X
with_some xs None = xs
with_some xs (Some x) = xs ++ x ∷ []

-- TURNS

abbrev pub turned_to : Turn → Register → Open → Option (HeldOf ℕ) → Option Register
turned_to turn r o None = None
turned_to turn r o (Some held) = Some (settled r.next held (left_by turn o r.waits))

-- the register behind the turn of an operation, if it may take it
abbrev pub turned : Turn → Register → Open → Option Register
turned turn r o = turned_to turn r o (changed_if r.next (change_of turn o) r.held)

-- behind each turn, behind these
abbrev pub turns_onto : Register → List Register → List Open → List Register
turns_onto r rs [] = rs
turns_onto r rs (o ∷ os) = turns_onto r (with_some (with_some rs (turned Acts r o)) (turned Fails r o)) os
