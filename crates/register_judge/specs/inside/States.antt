-- What operations make of states, as the judge keeps them.
use Rattle.std.specs.Prelude.{◌≡◌, ◌⊎◌, ℕ, ◌==◌, ◌&&◌, ◌||◌, Bool, true, false, not, List, [], ◌∷◌, ◌++◌, Option, Some, None, find, map, Contains, if◌then◌else◌}
use Rattle.register_judge.specs.declared.states.Waiting.{Waiting}
use Rattle.register_judge.specs.declared.states.State.{State}
use Rattle.register_judge.specs.declared.states.Turn.{Turn}
use Rattle.register_judge.specs.declared.states.How.{How}
use Rattle.register_judge.specs.declared.states.How.TheVariants.{Act, Any, Hide, Leave}
use Rattle.register.specs.Schedules.{unrecorded}

-- a value that the register may have, or any, and what waits
pub record Form : Type 0 where
  pub any : Bool
  pub value : ℕ
  pub waits : List Waiting

abbrev pub form_of : State → Form
form_of s = record { any = s.any; value = s.value; waits = s.waits.items }

abbrev pub forms_of : List State → List Form
forms_of states = map form_of states

-- a form means that the register has this value
abbrev pub Means : Form → ℕ → Type 0
Means f value = (f.any ≡ true) ⊎ (f.value ≡ value)

abbrev pub with_some : {X : Type 0} → List X → Option X → List X
with_some xs None = xs
with_some xs (Some x) = xs ++ x ∷ []

-- what a function gives of each, behind these
abbrev pub gather : {X Y : Type 0} → (X → Option Y) → List Y → List X → List Y
gather f ys [] = ys
gather f ys (x ∷ xs) = gather f (with_some ys (f x)) xs

-- a read of this value
abbrev pub is_met : ℕ → Waiting → Bool
is_met value o = not o.writes && (o.value == value)

-- a read that takes effect behind a write of this value, which acts now or acted hidden
abbrev pub meets : How → ℕ → Waiting → Bool
meets Act value o = is_met value o
meets Hide value o = o.is_old && is_met value o
meets Any value o = false
meets Leave value o = false

abbrev pub is_gone : Turn → Waiting → Bool
is_gone turn o = (o.number == turn.number) || meets turn.how turn.value o

-- what waits beside a write that acts was open then
abbrev pub ages : How → Waiting → Waiting
ages Act o = record o { is_old = true }
ages Any o = record o { is_old = true }
ages Hide o = o
ages Leave o = o

abbrev pub left_of : Turn → Waiting → Option Waiting
left_of turn o = if is_gone turn o then None else Some (ages turn.how o)

-- what is left of those that wait, behind these
abbrev pub lefts : Turn → List Waiting → List Waiting → List Waiting
lefts turn left os = gather (left_of turn) left os

abbrev pub value_by : How → ℕ → ℕ → ℕ
value_by Act value before = value
value_by Any value before = value
value_by Hide value before = before
value_by Leave value before = before

abbrev pub any_by : How → Bool → Bool
any_by Act before = false
any_by Any before = true
any_by Hide before = before
any_by Leave before = before

abbrev pub turned : Turn → Form → Form
turned turn f = record { any = any_by turn.how f.any; value = value_by turn.how turn.value f.value; waits = lefts turn [] f.waits }

-- a write whose bytes were not recorded
abbrev pub is_any_write : Waiting → Bool
is_any_write o = o.writes && (o.value == unrecorded)

-- a write of the value, or one whose bytes were not recorded
abbrev pub may_write : ℕ → Waiting → Bool
may_write value o = o.writes && ((o.value == unrecorded) || (o.value == value))

-- what tells the value with which a write takes effect: itself, or a read if its bytes were not recorded
abbrev pub may_tell : Waiting → Waiting → Bool
may_tell of o = if of.value == unrecorded then not o.writes else o.number == of.number

-- of two operations the second lets the first take effect: it tells of that write, or writes what that one reads
abbrev pub is_source : Waiting → Waiting → Bool
is_source of o = if of.writes then may_tell of o else may_write of.value o

abbrev pub may_turn : How → Waiting → Waiting → Bool
may_turn Act of o = is_source of o
may_turn Any of o = false
may_turn Hide of o = (is_source of o && of.is_old) && o.is_old
may_turn Leave of o = false

-- the write of the two takes effect with the value of the other
abbrev pub turn_with : How → Waiting → Waiting → Turn
turn_with how of o = if of.writes then record { how = how; number = of.number; value = o.value } else record { how = how; number = o.number; value = of.value }

abbrev pub turn_by : How → Waiting → Waiting → Option Turn
turn_by how of o = if may_turn how of o then Some (turn_with how of o) else None

abbrev pub turns_onto : How → Waiting → List Turn → List Waiting → List Turn
turns_onto how of turns ws = gather (turn_by how of) turns ws

abbrev pub is_number : ℕ → Waiting → Bool
is_number n o = o.number == n

abbrev pub leave : ℕ → Turn
leave n = record { how = Leave; number = n; value = 0 }

abbrev pub take_any : ℕ → Turn
take_any n = record { how = Any; number = n; value = unrecorded }

abbrev pub any_write : Waiting → Option Turn
any_write of = if is_any_write of then Some (take_any of.number) else None

-- it need not take effect, or may have left any value unseen
abbrev pub may_leave : Bool → Waiting → Bool
may_leave must of = not must || (is_any_write of && of.is_old)

-- what its end may mean where no read tells of it, behind these
abbrev pub untold : Bool → Waiting → List Turn → List Turn
untold must of turns = with_some (with_some turns (any_write of)) (if may_leave must of then Some (leave of.number) else None)

abbrev pub turns_for : Bool → ℕ → List Waiting → Option Waiting → List Turn
turns_for must n waits None = leave n ∷ []
turns_for must n waits (Some of) = untold must of (turns_onto Hide of (turns_onto Act of [] waits) waits)

-- what the end of operation n may mean
abbrev pub turns_of : Bool → ℕ → List Waiting → List Turn
turns_of must n waits = turns_for must n waits (find (is_number n) waits)

-- a form is added, unless it is there
abbrev pub Adds : List Form → Form → List Form → Type 0
Adds old f new = ((new ≡ old) × Contains old f) ⊎ (new ≡ old ++ f ∷ [])

-- one for each turn
abbrev pub Ends : Form → List Turn → List Form → List Form → Type 0
Ends f [] old new = new ≡ old
Ends f (turn ∷ turns) old new = (mid : List Form) × Adds old (turned turn f) mid × Ends f turns mid new

-- one for each turn of each
abbrev pub EndsAll : Bool → ℕ → List Form → List Form → List Form → Type 0
EndsAll must n [] old new = new ≡ old
EndsAll must n (f ∷ fs) old new = (mid : List Form) × Ends f (turns_of must n f.waits) old mid × EndsAll must n fs mid new

-- a called operation takes effect at once: a read of what the register has, or of what was not recorded
abbrev pub is_met_by : Form → Waiting → Bool
is_met_by f o = not o.writes && ((o.value == unrecorded) || (not f.any && (o.value == f.value)))

-- else it waits
abbrev pub called : Waiting → Form → Form
called o f = if is_met_by f o then f else record f { waits = f.waits ++ o ∷ [] }

-- it may tell what the register has, which may be any value
abbrev pub is_bound : Waiting → Form → Bool
is_bound o f = (f.any && not o.writes) && not (o.value == unrecorded)

-- the form where a read tells this value
abbrev pub bound : ℕ → Form → Form
bound value f = record { any = false; value = value; waits = f.waits }

abbrev pub bound_of : Waiting → Form → Option Form
bound_of o f = if is_bound o f then Some (bound o.value f) else None

abbrev pub bounds_of : Waiting → List Form → List Form
bounds_of o forms = gather (bound_of o) [] forms
