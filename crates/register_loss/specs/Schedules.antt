-- A register over several sessions, what is seen of it, and its schedules.
use Rattle.std.specs.Prelude.{◌≡◌, ℕ, ◌+◌, ◌==◌, ◌&&◌, ◌||◌, Bool, true, false, not, nat_le, List, [], ◌∷◌, ◌++◌, Option, Some, None, map, take, if◌then◌else◌}
use Rattle.std.specs.List.{filter, list_any}
use Rattle.loss.specs.Held.{ChangeOf, Puts, Secures, Tries, Syncs, Doubts, HeldOf, IsOneOf, changed, left, surely}
use Rattle.register_loss.specs.declared.What.{What}
use Rattle.register_loss.specs.declared.What.TheVariants.{Read, Write, Flush, Sync}
use Rattle.register_loss.specs.declared.Open.{Open}
use Rattle.register_loss.specs.declared.Turn.{Turn}
use Rattle.register_loss.specs.declared.Turn.TheVariants.{Acts, Fails}
use Rattle.register_loss.specs.declared.Sight.{Sight}
use Rattle.register_loss.specs.declared.Sight.TheVariants.{Call, Elsewhere, Done, Failed, Lost, Ended}

-- the next call's number, what the register holds, and the open operations that have not taken effect
pub record Register : Type 0 where
  pub next : ℕ
  pub held : HeldOf ℕ
  pub waits : List Open

-- a session begins with this value
abbrev pub opening : ℕ → Register
opening value = record { next = 1; held = surely value; waits = [] }

-- READS

abbrev pub is_value : ℕ → ℕ → Bool
is_value value other = other == value

-- a read may be given its value
abbrev pub is_given : List ℕ → What → Bool
is_given now (Read value) = list_any (is_value value) now
is_given now _ = false

abbrev pub is_unmet : List ℕ → Open → Bool
is_unmet now o = not (is_given now o.what)

-- those that go on waiting where a read may give these
abbrev pub unmet : List ℕ → List Open → List Open
unmet now waits = filter (is_unmet now) waits

abbrev pub settled : ℕ → HeldOf ℕ → List Open → Register
settled next held waits = record { next = next; held = held; waits = unmet held.now waits }

-- TURNS

abbrev pub is_write : What → Bool
is_write (Write value through) = true
is_write _ = false

abbrev pub is_sync : What → Bool
is_sync Flush = true
is_sync Sync = true
is_sync _ = false

-- the write, or the sync, of the same number
abbrev pub is_same : Open → Open → Bool
is_same o other = (other.number == o.number) && (if is_write o.what then is_write other.what else is_sync other.what)

-- a write takes effect
abbrev pub act_of : What → Option (ChangeOf ℕ)
act_of (Write value through) = Some (if through then Secures value else Puts value)
act_of _ = None

-- it fails, once; a sync does so at each place where it is at work
abbrev pub fault_of : Bool → What → Option (ChangeOf ℕ)
fault_of failed (Write value through) = if failed then None else Some (Tries value)
fault_of failed Flush = Some Doubts
fault_of failed Sync = Some Doubts
fault_of failed (Read value) = None

abbrev pub change_of : Turn → Open → Option (ChangeOf ℕ)
change_of Acts o = if o.failed then None else act_of o.what
change_of Fails o = fault_of o.failed o.what

abbrev pub is_other : Open → Open → Bool
is_other o other = not (is_same o other)

abbrev pub marked : Open → Open → Open
marked o other = if is_same o other then record other { failed = true } else other

-- what takes effect waits no more, what failed is marked
abbrev pub left_by : Turn → Open → List Open → List Open
left_by Acts o waits = filter (is_other o) waits
left_by Fails o waits = map (marked o) waits

-- an open operation takes effect, or fails
pub record Turns (turn : Turn) (r r' : Register) : Type 0 where
  pub of : Open
  pub waits : IsOneOf of r.waits
  pub change : ChangeOf ℕ
  pub may : change_of turn of ≡ Some change
  pub after : r' ≡ settled r.next (changed r.next change r.held) (left_by turn of r.waits)

-- SIGHTS

-- one more than each of two numbers, of which the second is one more already
abbrev pub above : ℕ → ℕ → ℕ
above number next = if nat_le next number then number + 1 else next

abbrev pub next_by : Sight → ℕ → ℕ
next_by (Call number what) next = above number next
next_by (Elsewhere number) next = above number next
next_by (Done number) next = next
next_by (Failed number) next = next
next_by Lost next = 1
next_by Ended next = 1

abbrev pub has_other : ℕ → Open → Bool
has_other number o = not (o.number == number)

-- what keeps the operation of this number from succeeding: it did not take effect, or it failed
abbrev pub is_undone : ℕ → Open → Bool
is_undone number o = (o.number == number) && (not (is_sync o.what) || o.failed)

abbrev pub is_flush : What → Bool
is_flush Flush = true
is_flush _ = false

abbrev pub is_flush_of : ℕ → Open → Bool
is_flush_of number o = (o.number == number) && is_flush o.what

abbrev pub called : ℕ → What → Register → Register
called number what r = settled (above number r.next) r.held (r.waits ++ record { number = number; what = what; failed = false } ∷ [])

abbrev pub ended : ℕ → Register → Register
ended number r = record { next = r.next; held = r.held; waits = filter (has_other number) r.waits }

-- a flush that succeeds ends what was overwritten before its call
abbrev pub flushed : ℕ → Register → HeldOf ℕ
flushed number r = if list_any (is_flush_of number) r.waits then changed r.next (Syncs number) r.held else r.held

abbrev pub done : ℕ → Register → Register
done number r = record { next = r.next; held = flushed number r; waits = filter (has_other number) r.waits }

-- what becomes of a register by what is seen, each that it may
abbrev pub behind : Sight → Register → List Register
behind (Call number what) r = called number what r ∷ []
behind (Elsewhere number) r = record { next = above number r.next; held = r.held; waits = r.waits } ∷ []
behind (Done number) r = if list_any (is_undone number) r.waits then [] else done number r ∷ []
behind (Failed number) r = ended number r ∷ []
behind Lost r = map opening (left r.held)
behind Ended r = map opening r.held.now

-- SCHEDULES

pub data Event : Type 0 where
  Seen : (sight : Sight) → Event
  Unseen : (turn : Turn) → Event

abbrev pub Takes : Register → Event → Register → Type 0
Takes r (Seen sight) r' = IsOneOf r' (behind sight r)
Takes r (Unseen turn) r' = Turns turn r r'

-- events lead from one register to another
abbrev pub Leads : Register → List Event → Register → Type 0
Leads r [] r' = r' ≡ r
Leads r (event ∷ events) r' = (mid : Register) × Takes r event mid × Leads mid events r'

abbrev pub seen_of : List Event → List Sight
seen_of [] = []
seen_of (Seen sight ∷ events) = sight ∷ seen_of events
seen_of (Unseen turn ∷ events) = seen_of events

-- some events of which this is seen lead from the start to somewhere
pub record HasSchedule (start : ℕ) (sights : List Sight) : Type 0 where
  pub events : List Event
  pub register : Register
  pub in_turn : Leads (opening start) events register
  pub seen : seen_of events ≡ sights

-- what has a schedule has one at each moment before
abbrev pub PrefixesAreScheduled : Type 0
PrefixesAreScheduled = (start : ℕ) (sights : List Sight) (count : ℕ) → HasSchedule start sights → HasSchedule start (take count sights)
